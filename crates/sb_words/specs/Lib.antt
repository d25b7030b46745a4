-- The words of a command line: Words (which form they are, as `clap` reads them), WordRows (rows worked out by hand).
pub mod Words
pub mod WordRows
