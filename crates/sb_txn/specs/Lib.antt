-- Open transactions as a list in memory, with room for more.
pub mod Queued
pub mod Txns
