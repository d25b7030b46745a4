-- A slot more at a place, and one that a change takes.
use Rattle.std.proofs.Common.{◌≡◌, ℕ, ◌+◌, ◌-◌, ◌≤◌, Option, Some, None, option_map, refl, arith}
use Rattle.sb_machine.specs.declared.call.Part.{Part}
use Rattle.sb_machine.specs.declared.call.Part.TheVariants.{Main, Dead, Transfer}
use Rattle.sb_machine.specs.declared.change.LeafChange.{LeafChange}
use Rattle.sb_machine.specs.declared.change.LeafChange.TheVariants.{Enters, Passes, Ends, Holds, Stands, Renews, Opens, Closes, Prolongs, Writes}
use Rattle.sb_machine.specs.declared.state.Standing.{Standing}
use Rattle.sb_machine.specs.declared.state.Standing.TheVariants.{Ready, Deferred, Held, Scheduled}
use Rattle.sb_copies.specs.ByLock.{locks_taken}
use Rattle.sb_entities.specs.Places.{part_place, place_to_stand, is_same_part_place, is_same_entity_place, one_if, one_at, taken_in_part, taken_in}
use Rattle.sb_entities.specs.Rooms.{PartRoom, Room, spare_in_part, part_grown, part_used, spare_in, grown, used}
use Rattle.sb_entities.specs.declared.change.EntityChange.{EntityChange}
use Rattle.sb_entities.specs.declared.change.EntityChange.TheVariants.{InPart, NotesId, GainsRule, LosesRule}
use Rattle.sb_entities.specs.declared.place.EntityPlace.{EntityPlace}
use Rattle.sb_entities.specs.declared.place.EntityPlace.TheVariants.{OfPart, Ids, Rules}
use Rattle.sb_entities.specs.declared.place.PartPlace.{PartPlace}
use Rattle.sb_entities.specs.declared.place.PartPlace.TheVariants.{Copies, Sessions, Locks}

-- ---- one more

part_more : (x y : PartPlace) (r : PartRoom) (m : ℕ) → m ≤ spare_in_part x r → m + one_if (is_same_part_place x y) ≤ spare_in_part x (part_grown y r)
part_more Copies Copies r m h = omega (arith, h)
part_more Copies Sessions r m h = omega (arith, h)
part_more Copies Locks r m h = omega (arith, h)
part_more Sessions Copies r m h = omega (arith, h)
part_more Sessions Sessions r m h = omega (arith, h)
part_more Sessions Locks r m h = omega (arith, h)
part_more Locks Copies r m h = omega (arith, h)
part_more Locks Sessions r m h = omega (arith, h)
part_more Locks Locks r m h = omega (arith, h)

pub room_more : (p q : EntityPlace) (r : Room) (m : ℕ) → m ≤ spare_in p r → m + one_if (is_same_entity_place p q) ≤ spare_in p (grown q r)
room_more (OfPart Main x) (OfPart Main y) r m h = part_more x y r.main m h
room_more (OfPart Main x) (OfPart Dead y) r m h = omega (arith, h)
room_more (OfPart Main x) (OfPart Transfer y) r m h = omega (arith, h)
room_more (OfPart Main x) Ids r m h = omega (arith, h)
room_more (OfPart Main x) Rules r m h = omega (arith, h)
room_more (OfPart Dead x) (OfPart Main y) r m h = omega (arith, h)
room_more (OfPart Dead x) (OfPart Dead y) r m h = part_more x y r.dead m h
room_more (OfPart Dead x) (OfPart Transfer y) r m h = omega (arith, h)
room_more (OfPart Dead x) Ids r m h = omega (arith, h)
room_more (OfPart Dead x) Rules r m h = omega (arith, h)
room_more (OfPart Transfer x) (OfPart Main y) r m h = omega (arith, h)
room_more (OfPart Transfer x) (OfPart Dead y) r m h = omega (arith, h)
room_more (OfPart Transfer x) (OfPart Transfer y) r m h = part_more x y r.transfer m h
room_more (OfPart Transfer x) Ids r m h = omega (arith, h)
room_more (OfPart Transfer x) Rules r m h = omega (arith, h)
room_more Ids (OfPart Main y) r m h = omega (arith, h)
room_more Ids (OfPart Dead y) r m h = omega (arith, h)
room_more Ids (OfPart Transfer y) r m h = omega (arith, h)
room_more Ids Ids r m h = omega (arith, h)
room_more Ids Rules r m h = omega (arith, h)
room_more Rules (OfPart Main y) r m h = omega (arith, h)
room_more Rules (OfPart Dead y) r m h = omega (arith, h)
room_more Rules (OfPart Transfer y) r m h = omega (arith, h)
room_more Rules Ids r m h = omega (arith, h)
room_more Rules Rules r m h = omega (arith, h)

-- ---- what is left of them

stands_left : (x : PartPlace) (standing : Standing) (r : PartRoom) (m : ℕ) → one_at (is_same_part_place x) (place_to_stand standing) + m ≤ spare_in_part x r → m ≤ spare_in_part x (record r { locks = r.locks - locks_taken standing })
stands_left Copies standing r m h = omega (arith, h)
stands_left Sessions standing r m h = omega (arith, h)
stands_left Locks Ready r m h = omega (arith, h)
stands_left Locks Deferred r m h = omega (arith, h)
stands_left Locks (Held lock hold deferred) r m h = omega (arith, h)
stands_left Locks (Scheduled at) r m h = omega (arith, h)

part_left : (x : PartPlace) (c : LeafChange) (r : PartRoom) (m : ℕ) → taken_in_part x c + m ≤ spare_in_part x r → m ≤ spare_in_part x (part_used c r)
part_left Copies (Enters fresh) r m h = omega (arith, h)
part_left Copies (Opens id until) r m h = omega (arith, h)
part_left Copies (Holds n hold) r m h = omega (arith, h)
part_left Sessions (Enters fresh) r m h = omega (arith, h)
part_left Sessions (Opens id until) r m h = omega (arith, h)
part_left Sessions (Holds n hold) r m h = omega (arith, h)
part_left Locks (Enters fresh) r m h = omega (arith, h)
part_left Locks (Opens id until) r m h = omega (arith, h)
part_left Locks (Holds n hold) r m h = omega (arith, h)
part_left x (Passes cause) r m h = omega (arith, h)
part_left x (Ends n settled cause) r m h = omega (arith, h)
part_left x (Stands n settled count standing) r m h = stands_left x standing r m h
part_left x (Renews n until) r m h = omega (arith, h)
part_left x (Closes lock) r m h = omega (arith, h)
part_left x (Prolongs lock until) r m h = omega (arith, h)
part_left x (Writes lock state) r m h = omega (arith, h)

in_part : (part : Part) (x : PartPlace) (o : Option PartPlace) → one_at (is_same_entity_place (OfPart part x)) (option_map (OfPart part) o) ≡ one_at (is_same_part_place x) o
in_part Main x None = refl
in_part Main x (Some y) = refl
in_part Dead x None = refl
in_part Dead x (Some y) = refl
in_part Transfer x None = refl
in_part Transfer x (Some y) = refl

pub room_left : (p : EntityPlace) (c : EntityChange) (r : Room) (m : ℕ) → taken_in p c + m ≤ spare_in p r → m ≤ spare_in p (used c r)
room_left (OfPart Main x) (InPart Main lock c) r m h = part_left x c r.main m (omega (arith, h, in_part Main x (part_place c)))
room_left (OfPart Main x) (InPart Dead lock c) r m h = omega (arith, h)
room_left (OfPart Main x) (InPart Transfer lock c) r m h = omega (arith, h)
room_left (OfPart Main x) (NotesId id) r m h = omega (arith, h)
room_left (OfPart Main x) (GainsRule rule) r m h = omega (arith, h)
room_left (OfPart Dead x) (InPart Main lock c) r m h = omega (arith, h)
room_left (OfPart Dead x) (InPart Dead lock c) r m h = part_left x c r.dead m (omega (arith, h, in_part Dead x (part_place c)))
room_left (OfPart Dead x) (InPart Transfer lock c) r m h = omega (arith, h)
room_left (OfPart Dead x) (NotesId id) r m h = omega (arith, h)
room_left (OfPart Dead x) (GainsRule rule) r m h = omega (arith, h)
room_left (OfPart Transfer x) (InPart Main lock c) r m h = omega (arith, h)
room_left (OfPart Transfer x) (InPart Dead lock c) r m h = omega (arith, h)
room_left (OfPart Transfer x) (InPart Transfer lock c) r m h = part_left x c r.transfer m (omega (arith, h, in_part Transfer x (part_place c)))
room_left (OfPart Transfer x) (NotesId id) r m h = omega (arith, h)
room_left (OfPart Transfer x) (GainsRule rule) r m h = omega (arith, h)
room_left Ids (InPart Main lock c) r m h = omega (arith, h)
room_left Ids (InPart Dead lock c) r m h = omega (arith, h)
room_left Ids (InPart Transfer lock c) r m h = omega (arith, h)
room_left Ids (NotesId id) r m h = omega (arith, h)
room_left Ids (GainsRule rule) r m h = omega (arith, h)
room_left Rules (InPart Main lock c) r m h = omega (arith, h)
room_left Rules (InPart Dead lock c) r m h = omega (arith, h)
room_left Rules (InPart Transfer lock c) r m h = omega (arith, h)
room_left Rules (NotesId id) r m h = omega (arith, h)
room_left Rules (GainsRule rule) r m h = omega (arith, h)
room_left p (LosesRule name) r m h = omega (arith, h)
