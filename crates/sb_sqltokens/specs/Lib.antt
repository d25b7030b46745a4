-- From the text of a filter or an action to its tokens: what the code that cuts it must find.
pub mod Spelled
