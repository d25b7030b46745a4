-- Laws of every legal history, in the order to read them: Laws (what was asked), Ended, Spent, Holders, Handed, Accepted, Acted, Thin, Joined, InTurn,
-- Gathered; Staying, Orderly, Plain, Sweepable, Counting, AsFound (what carries them); Worked, WorkedTogether.
pub mod Laws
pub mod Sweepable
pub mod Plain
pub mod Orderly
pub mod Counting
pub mod Acted
pub mod Gathered
pub mod Ended
pub mod Spent
pub mod Holders
pub mod Handed
pub mod Accepted
pub mod Thin
pub mod Joined
pub mod InTurn
pub mod Worked
pub mod WorkedTogether
pub mod Staying
pub mod AsFound
