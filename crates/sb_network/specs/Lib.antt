-- The real doors of a server: Files (how many places a limit of open files leaves).
pub mod Files
