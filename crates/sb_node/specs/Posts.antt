-- Calls that are carried out together and aren't made: what they are answered.
use Rattle.std.specs.Prelude.{ℕ, List, map, Option, Some, None, Err}
use Rattle.sb_desk.specs.declared.post.Post.{Post}
use Rattle.sb_machine.specs.declared.history.Entry.{Entry}
use Rattle.sb_machine.specs.declared.history.Entry.TheVariants.{Answered as Replied}
use Rattle.sb_machine.specs.declared.reply.Refusal.{Refusal}
use Rattle.sb_machine.specs.declared.reply.Refusal.TheVariants.{DiskFault, Stopped}

-- that the disk failed; or, where the node had stopped for that, that it had, with the disk's count of faults
abbrev pub refusal_by : Option ℕ → Refusal
refusal_by None = DiskFault
refusal_by (Some faults) = Stopped faults

-- the entry of such a call
abbrev pub refused_entry : Option ℕ → Post → Entry
refused_entry stopped p = Replied p.seat p.reading p.call (Err (refusal_by stopped))

-- of all of them
abbrev pub refused_entries : Option ℕ → List Post → List Entry
refused_entries stopped posts = map (refused_entry stopped) posts

-- a call that is answered that the disk failed
abbrev pub fault_entry : Post → Entry
fault_entry p = refused_entry None p

-- all of them are
abbrev pub fault_entries : List Post → List Entry
fault_entries posts = refused_entries None posts
