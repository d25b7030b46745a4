-- The calls of a drill, in the order to read them: Draws (the words of a seed), Memories (what is remembered of answers), Calls.
pub mod Draws
pub mod Memories
pub mod Calls
