-- A node: the namespace over its journal. In the order to read it: Recovery (what a journal stands for), Nodes, Steps (what a call does to both),
-- Turns (what a checkpoint does to the journal), Ahead (what is staged before it is synced), Groups (a history by calls that are synced together),
-- Serving (a node as a desk has it), Posts, Laws, Worked, WorkedSpared.
pub mod Recovery
pub mod Steps
pub mod Nodes
pub mod Turns
pub mod Ahead
pub mod Groups
pub mod Serving
pub mod Posts
pub mod Laws
pub mod Worked
pub mod WorkedSpared
pub mod Looks
