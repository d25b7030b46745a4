-- Calls that are carried out together: what was asked, and the entries that they come to.
use Rattle.std.specs.Prelude.{ℕ, List, [], Option, Some, None}
use Rattle.std.specs.List.{flat_map}
use Rattle.sb_machine.specs.declared.call.Call.{Call}
use Rattle.sb_machine.specs.declared.history.Entry.{Entry}
use Rattle.sb_desk.specs.declared.post.Post.{Post}
use Rattle.sb_desk.specs.declared.post.Went.{Went}
use Rattle.sb_desk.specs.Entries.{made_by}

-- a seat's call, at a reading of the clock
pub record Asked : Type 0 where
  pub seat : ℕ
  pub reading : ℕ
  pub call : Call

-- what was asked
abbrev pub asked_of : Post → Asked
asked_of p = record { seat = p.seat; reading = p.reading; call = p.call }

-- the entries of a call, once it was carried out
abbrev pub went_entries : (seat reading : ℕ) → Call → Option Went → List Entry
went_entries seat reading call None = []
went_entries seat reading call (Some w) = made_by seat w.tick reading call w.answer

-- of a post
abbrev pub post_entries : Post → List Entry
post_entries p = went_entries p.seat p.reading p.call p.went

-- of posts, one behind another
abbrev pub group_entries : List Post → List Entry
group_entries posts = flat_map post_entries posts
