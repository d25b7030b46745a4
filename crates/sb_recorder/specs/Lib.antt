-- What is done to a journal, and the base that is written for its next file.
pub mod Recorders
