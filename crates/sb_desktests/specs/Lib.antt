-- A namespace for the tests of the desk, in which one queue is made; and a history of it worked through.
pub mod Namespaces
pub mod Worked
