-- The journal, in the order to read it: Text (the bytes of a file), Framing (what bytes stand for), Judges, Opened, Unopened, Journals (what
-- contracts see); Disks, Pieces, Moments, Crashes, Turned (what a crash may leave, and when); Laws.
pub mod Choosing
pub mod Crashes
pub mod Disks
pub mod Framing
pub mod Journals
pub mod Judges
pub mod Laws
pub mod Moments
pub mod Opened
pub mod Pieces
pub mod Text
pub mod Turned
pub mod Unopened
