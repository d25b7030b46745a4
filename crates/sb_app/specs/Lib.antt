-- The whole program. Read sb_machine's pages first (names, namespace; leaves, changes; rows, claims, leases; visits, delivery; an operation; due;
-- repeats, answers, history; the laws), then Lawful and Backing. The page of the headline is Tops; Outside, Lines, Taking, Nodes, Runs, Endings, Commits,
-- Openings are what it is made of; Checkpoints what a run or a server may end with; Checks, Drills, Clients, Servings are the other commands (Stages has the steps of the last), Calls all of them.
pub mod Outside
pub mod Lines
pub mod Jumps
pub mod Taking
pub mod Nodes
pub mod Runs
pub mod Endings
pub mod Held
pub mod Commits
pub mod Checks
pub mod Lawful
pub mod Backing
pub mod Drills
pub mod Tops
pub mod Checkpoints
pub mod Openings
pub mod Clients
pub mod Looks
pub mod Calls
pub mod Servings
pub mod Stages
