-- From the text of a filter or an action to its tree, by code: Answers, Verbs (what the code's answers mean), Texts, Rows (worked out by
-- hand), Laws.
pub mod Answers
pub mod Verbs
pub mod Texts
pub mod Rows
pub mod Laws
