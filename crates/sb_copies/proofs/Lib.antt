pub mod Below
mod Ending
mod Finding
mod Finds
mod GroupChanges
mod GroupMoves
mod Grouped
mod HeadFinds
mod InOrder
mod Leading
mod Listing
mod LockFinds
pub mod Mirror
mod OneRow
mod Order
mod Renewing
mod SessionCounts
mod SessionFinds
mod SlotChanges
mod Stretches
mod Tallying
mod Told
mod Undue
mod Walking
mod WhenDue
