pub mod Telling
pub mod LineKinds
pub mod Serving
pub mod Taken
pub mod Advances
