pub mod Onward
pub mod Statements
pub mod Joined
pub mod Exactly
