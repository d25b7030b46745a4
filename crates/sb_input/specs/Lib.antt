-- Lines of input, in the order to read them: Limits; Lines, PartialLines (what a line is, and one that is longer than may be); Taking,
-- Readers (what a reader has taken of its source).
pub mod Limits
pub mod Lines
pub mod PartialLines
pub mod Taking
pub mod Readers
