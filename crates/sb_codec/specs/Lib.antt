-- The bytes of events in the journal, in the order to read them: Bytes, Readers, Forms (what a form is); Pieces, Messages, Choices, Steps, Acts,
-- EventBytes (the format itself, as docs/FORMATS.md tells it); Laws (what passes the machine's tests has a spelling).
pub mod Bytes
pub mod Readers
pub mod Forms
pub mod Pieces
pub mod Messages
pub mod Choices
pub mod Steps
pub mod Acts
pub mod EventBytes
pub mod Laws
pub mod Worked
