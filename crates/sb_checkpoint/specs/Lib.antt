-- The base out of the stores that hold a state: Stores (that state), Refusals and Takings (what comes of bytes that are handed on), Counts (how many they are).
pub mod Stores
pub mod Refusals
pub mod Takings
pub mod Counts
