pub mod UnknownKeys
mod Parsed
pub mod Floats
pub mod OneLine
pub mod InOrder
pub mod OrderedLines
mod Printed
