pub mod Calls
pub mod Fillings
pub mod Gains
pub mod Leaves
