pub mod DueValues
pub mod Finds
pub mod Least
pub mod Order
