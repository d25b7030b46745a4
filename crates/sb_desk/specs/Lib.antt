-- A desk gives many callers turns at one namespace. In the order to read it: Entries, Lists (histories by the seats that made them), Spared
-- (which of their calls memory is never wanting for), Posts (calls that are carried out together), Desks (what a caller holds, and what a call does), Groups (posts by the seats whose they are),
-- Rule (what is kept between calls), Steps (what each step does).
pub mod Entries
pub mod Lists
pub mod Spared
pub mod Posts
pub mod Groups
pub mod Rule
pub mod Steps
pub mod Desks
