pub mod Beside
pub mod Events
