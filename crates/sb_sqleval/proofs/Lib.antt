pub mod Bits
pub mod Stepping
pub mod Turning
