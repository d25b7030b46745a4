-- REST, in the order to read it: Queries, Timeouts, Values, Lifetimes, Brokers, Reserved, Headers, Batches, Repeats, Dispositions, Entities, Peeks, Callers (the
-- parts of a request); Lines, Calls (which request asks for which call); Moments, Escapes, Shown, Forms, Sessions, Pages, Responses, Expositions, ServerNumbers,
-- Sights (what answers it); Worked.
pub mod Queries
pub mod Timeouts
pub mod Values
pub mod Lifetimes
pub mod Brokers
pub mod Reserved
pub mod Callers
pub mod Headers
pub mod Batches
pub mod Lines
pub mod Repeats
pub mod Dispositions
pub mod Entities
pub mod Calls
pub mod Moments
pub mod Escapes
pub mod Shown
pub mod Forms
pub mod Sessions
pub mod Pages
pub mod Peeks
pub mod Responses
pub mod Expositions
pub mod ServerNumbers
pub mod Sights
pub mod Worked
