pub mod Adding
pub mod Crossing
pub mod Groups
