pub mod Cuts
pub mod Digits
pub mod Quoting
pub mod Listing
pub mod Longest
pub mod Having
