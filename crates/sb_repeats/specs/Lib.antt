-- Repeats: Windows (the ids that an entity accepted, for duplicate detection, and the rows that tell of them) and Clients (the last numbered call of each client).
pub mod Windows
pub mod Clients
