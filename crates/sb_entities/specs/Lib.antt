-- A namespace in memory, in the order to read it: Names, Listings, Tables, Transactions, Numbers (what stands in memory); Views, Stores (the namespace that it is); ByHash
-- (an entity found by its address or its topic); Tallies (the counts that it keeps); Heads (the next session); EntityDues, Expiring, DueRows (when something comes due); Places,
-- Rooms, Stocks, Released (memory promised before a change is made, so that making it can't fail); Whole (what is asked of a namespace that is to stand in memory at once).
pub mod Asked
pub mod ByHash
pub mod DueRows
pub mod EntityDues
pub mod Expiring
pub mod Heads
pub mod Listings
pub mod Names
pub mod Numbers
pub mod Places
pub mod Released
pub mod Rooms
pub mod SessionList
pub mod Stocks
pub mod Stores
pub mod Tables
pub mod Tallies
pub mod Transactions
pub mod Views
pub mod Whole
