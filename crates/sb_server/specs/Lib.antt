-- A server over connections, in the order to read it: Bodies, Asks (what a request asks for), Waiting, Responds (its calls and its response), Readers, Reads,
-- Times (its limits), Talks (one connection), Works (one after the other), Serves (several workers). How far a connection
-- has come between two of its steps, and a call that is posted: Doings; how far a worker has: Stages.
pub mod Bodies
pub mod Waiting
pub mod Asks
pub mod Responds
pub mod Readers
pub mod Reads
pub mod Times
pub mod Talks
pub mod Doings
pub mod Works
pub mod Stages
pub mod Serves
