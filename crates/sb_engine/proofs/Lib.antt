pub mod Growing
pub mod PlannedRows
pub mod Releases
pub mod Claiming
pub mod SendIds
pub mod Sendings
pub mod Sends
pub mod Turns
pub mod Commits
pub mod AsFound
pub mod SettledCommits
mod Numbering
mod Plannings
pub mod Quotas
pub mod Counted
pub mod CountedCommits
mod Rules
mod Small
mod Exhausting
pub mod Dues
pub mod DueEntities
pub mod Turning
pub mod Items
pub mod Told
pub mod Onward
pub mod Crossing
pub mod Fronts
pub mod Receipts
pub mod Fulfilments
pub mod Gatherings
pub mod Togethers
mod Fields
