-- What contracts see of disks, streams and connections, in the order to read it: Causes (how faults are counted), Held, Images (a disk);
-- Streams, Links, Doors (connections); Kept, Memory (those in memory).
pub mod Causes
pub mod Clocks
pub mod Doors
pub mod Held
pub mod Images
pub mod Kept
pub mod Links
pub mod Memory
pub mod Streams
