-- Parts of entities, and the sessions that lie in them.
use Rattle.std.specs.Prelude.{Bool, true, nat_lt, ◌==◌, ◌&&◌, ◌||◌, Option, Some, None}
use Rattle.sb_machine.specs.Names.{is_before}
use Rattle.sb_machine.specs.declared.change.LeafKey.{LeafKey}
use Rattle.sb_machine.specs.declared.state.Holder.{Holder}
use Rattle.sb_machine.specs.declared.state.Session.{Session}
use Rattle.sb_codec.specs.Forms.{Form, number64, blob, text, ◌then◌, shaped, optional}
use Rattle.sb_codec.specs.Pieces.{part_code, part}
use Rattle.sb_snapshot.specs.Copies.{copy, is_next_copy}
use Rattle.sb_snapshot.specs.Lists.{listed64}
use Rattle.sb_snapshot.specs.declared.parts.PlacedLeaf.{PlacedLeaf}
use Rattle.sb_snapshot.specs.declared.parts.PlacedSession.{PlacedSession}

-- ---- parts

-- a part is named by its entity's number and which of the three it is
unfoldable pub key : Form LeafKey
key = shaped (λ x. record { entity = x.0; part = x.1 }) (λ k. (k.entity, k.part)) (number64 then part)

-- whether two keys name one part
abbrev pub is_same_key : LeafKey → LeafKey → Bool
is_same_key a b = (part_code a.part == part_code b.part) && (a.entity == b.entity)

-- whether one part comes before another: by its entity's number, then Main, Dead, Transfer
abbrev pub is_before_key : LeafKey → LeafKey → Bool
is_before_key a b = nat_lt a.entity b.entity || ((a.entity == b.entity) && nat_lt (part_code a.part) (part_code b.part))

-- a part: the last number given there, and its copies
unfoldable pub leaf : Form PlacedLeaf
leaf = shaped (λ x. record { key = x.0; last = x.1.0; copies = x.1.1 }) (λ l. (l.key, (l.last, l.copies))) (key then number64 then listed64 is_next_copy copy)

-- ---- sessions

-- the number of the lock that holds a session, and the moment up to which it lives
unfoldable pub holder : Form Holder
holder = shaped (λ x. record { lock = x.0; until = x.1 }) (λ h. (h.lock, h.until)) (number64 then number64)

-- a session that lies in this part
abbrev pub in_part : LeafKey → Session → PlacedSession
in_part key x = record { key = key; session = x }

-- a session: where it lies, its id, the bytes that it remembers, and who holds it
unfoldable pub session : Form PlacedSession
session =
    shaped (λ x. record { key = x.0; session = record { id = x.1.0; state = x.1.1.0; holder = x.1.1.1 } })
    (λ s. (s.key, (s.session.id, (s.session.state, s.session.holder))))
    (key then text then optional blob then optional holder)

-- by part, then id in byte order
abbrev pub is_next_session : Option PlacedSession → PlacedSession → Bool
is_next_session None s = true
is_next_session (Some last) s = is_before_key last.key s.key || (is_same_key last.key s.key && is_before last.session.id s.session.id)
