-- The bytes of a whole state, in the order to read them: Lists (forms that the base needs beside those of events); Copies, Sessions, Entities,
-- Transactions, Replies (what stands in its lists), Base (the whole, as docs/FORMATS.md tells it), Gathering (a state put
-- together an entity at a time); Laws; Worked.
pub mod Lists
pub mod Copies
pub mod Sessions
pub mod Entities
pub mod Transactions
pub mod Replies
pub mod Base
pub mod Gathering
pub mod Laws
pub mod Worked
