pub mod Errors
pub mod Splits
pub mod Pending
pub mod Readings
pub mod Advances
