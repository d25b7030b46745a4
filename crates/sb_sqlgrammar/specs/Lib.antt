-- That the readers of filters and actions read their grammar: Exact (what that means), Laws (that it is so), Rows (readings worked out by hand).
pub mod Exact
pub mod Laws
pub mod Rows
