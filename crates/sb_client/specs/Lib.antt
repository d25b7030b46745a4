-- The client, in the order to read it: Requests, Replies (one line over HTTP), Answers, Serving (how a line is answered, and how that may be
-- cut off), Outside, Runs, Endings (all lines, and how a run ends).
pub mod Endings
pub mod Requests
pub mod Replies
pub mod Answers
pub mod Outside
pub mod Serving
pub mod Runs
