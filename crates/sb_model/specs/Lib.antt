-- The language of filters and actions, in the order to read it: Truth, Expressions, Likes, SystemNames, Meaning (what a filter comes to);
-- Effects, Orders (what an action does); Readers, Language, Reading (grammar); TokenBytes, Tokens, Texts (from characters to trees).
pub mod Truth
pub mod Expressions
pub mod Likes
pub mod SystemNames
pub mod Meaning
pub mod WorkedFilters
pub mod FilterFaults
pub mod Effects
pub mod Orders
pub mod WorkedActions
pub mod Readers
pub mod Language
pub mod Reading
pub mod TokenBytes
pub mod Tokens
pub mod Texts
