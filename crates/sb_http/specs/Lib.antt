-- HTTP/1.1 as requests and responses, in the order to read it: Version, Fields, Heads, Bodies, Messages (a request's bytes); Stages, Causes,
-- Streams (many on one connection); Responses, WholeResponses; Found, Buffers, Said (how it is read); the rows.
pub mod Version
pub mod Fields
pub mod Heads
pub mod Bodies
pub mod Messages
pub mod Stages
pub mod Causes
pub mod Streams
pub mod Found
pub mod Buffers
pub mod Said
pub mod Responses
pub mod WholeResponses
pub mod Worked
pub mod WorkedResponses
