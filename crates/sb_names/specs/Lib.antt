-- Names and addresses as texts: Addresses (which text is the address of what), Kinds (what may be named how), Worked.
pub mod Addresses
pub mod Kinds
pub mod Worked
