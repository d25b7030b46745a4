pub mod Bisecting
pub mod Forgetting
pub mod Ids
pub mod Keeping
pub mod Keys
pub mod Showing
