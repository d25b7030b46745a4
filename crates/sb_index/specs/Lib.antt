-- Rows in rising keys: what is looked for among them, and what a change makes of them.
pub mod Hashes
pub mod Rows
pub mod Sides
pub mod Wanted
pub mod WorkedRows
