-- Messages as bytes of AMQP 1.0, in the order to read them: Values, Fields; Written (how one is written); Sections, Meaning, Reads (which
-- message bytes say); Reading (how values are taken from bytes); Gathering (user properties by
-- their names); Laws, Worked.
pub mod Values
pub mod Fields
pub mod Written
pub mod Sections
pub mod Meaning
pub mod Reads
pub mod Reading
pub mod Gathering
pub mod Laws
pub mod Worked
pub mod Found
