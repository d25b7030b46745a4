-- Lemmas for the code: InOrder (lists in order), Placed (where one stands in such a list), Near (accepted ids), Distinct (numbers of which no two are the
-- same), Owned (copies under a lock), Addressed (entities by address), Queued (operations of transactions), Alone (calls), Collected
-- (loops that put rows behind others).
pub mod Addressed
pub mod Alone
pub mod Collected
pub mod Distinct
pub mod InOrder
pub mod Near
pub mod Numbered
pub mod Owned
pub mod Placed
pub mod Queued
