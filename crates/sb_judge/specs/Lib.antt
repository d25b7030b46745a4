-- Whether a state is consistent, decided: Verdicts (a test with what it tests, and how tests are put together), Messages, Calls, Copies, Entities,
-- Transactions, Clients (one for each thing that a state holds), Decided (the whole); how the code tells it: Orders (by neighbours), Held (copies by their
-- locks), Places (entities by a hash); Worked.
pub mod Verdicts
pub mod Messages
pub mod Calls
pub mod Copies
pub mod Entities
pub mod Transactions
pub mod Clients
pub mod Decided
pub mod Orders
pub mod Held
pub mod Places
pub mod Worked
