-- The machine over lists in memory, in the order to read them: Engines, Planned (what an engine is, and what planning comes to); Heads,
-- Readings, Sendings, Commits, Fulfilments, Gatherings, Removals, Rules, Quotas (parts of a plan); Deadlines, Sweeps (time); the others as they are used.
pub mod Plans
pub mod Deadlines
pub mod Drafts
pub mod Heads
pub mod Growing
pub mod Sendings
pub mod Commits
pub mod Fulfilments
pub mod Gatherings
pub mod Readings
pub mod Removals
pub mod Rules
pub mod Numbers
pub mod Quotas
pub mod Calls
pub mod Planned
pub mod Small
pub mod Engines
pub mod Sweeps
