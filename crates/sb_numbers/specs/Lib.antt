-- The numbers of a server: Words (by which words they are shown).
pub mod Words
