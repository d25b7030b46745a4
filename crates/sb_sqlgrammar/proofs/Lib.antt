pub mod Readers
pub mod Basics
pub mod Tests
pub mod Actions
pub mod Whole
