-- Lines of JSON, in the order to read them: Faults, Tokens, Fields, Tables (how a key is read), Gathering; Messages, Descriptions, Lines (which line
-- spells which call, and which key is at fault); Refusals, Shown, Views, Replies (the line of a reply); Laws, Worked (lines worked out by hand).
pub mod Faults
pub mod Tokens
pub mod Fields
pub mod Tables
pub mod Gathering
pub mod Messages
pub mod Descriptions
pub mod Lines
pub mod Refusals
pub mod Shown
pub mod Views
pub mod Replies
pub mod Laws
pub mod Worked
