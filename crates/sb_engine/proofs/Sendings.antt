-- One message of a send more, and all of them.
use Rattle.std.proofs.Common.{Bool, List, None, Option, Some, [], ap, arith, cond, drop, false, length, map, refl, subst, sym, true, ℕ, ◌&&◌, ◌+◌, ◌++◌, ◌<◌, ◌≤◌, ◌∙◌, ◌∷◌, ◌≡◌}
use Rattle.std.specs.Prelude.{◌==◌, bytes_eq, find, if◌then◌else◌, nat_lt, ◌||◌}
use Rattle.std.specs.List.{list_any}
use Rattle.std.specs.Option.{option_map}
use Rattle.std.proofs.lemmas.Bool.Decides.{nat_tests}
use Rattle.std.proofs.lemmas.List.{append_assoc, append-nil, drop_more, drop_all}
use Rattle.sb_fanout.specs.Deliveries.{IsDelivered}
use Rattle.sb_fanout.specs.Lasts.{Given, is_listed, none_given, raised}
use Rattle.sb_fanout.proofs.Keeping.{numbers_stand}
use Rattle.sb_machine.specs.Changes.{after, after_all, is_known, noted}
use Rattle.sb_machine.specs.Delivery.{delivered, in_part}
use Rattle.sb_machine.specs.Messages.{text_of}
use Rattle.sb_machine.specs.Names.{is_same_entity}
use Rattle.sb_machine.specs.Namespace.{entity_at, entity_of, key_of, last_at, listed}
use Rattle.sb_machine.specs.Sending.{coming, entering, is_repeat, knows, message_changes, noting, receipt, receipts, send_changes, unscheduled, waiting}
use Rattle.sb_machine.specs.Visits.{visits}
use Rattle.sb_machine.specs.declared.call.Part.TheVariants.{Main}
use Rattle.sb_machine.specs.declared.call.Path.{Path}
use Rattle.sb_machine.specs.declared.change.Change.{Change}
use Rattle.sb_machine.specs.declared.change.Change.TheVariants.{Notes}
use Rattle.sb_machine.specs.declared.change.LeafChange.TheVariants.{Enters}
use Rattle.sb_machine.specs.declared.change.LeafKey.{LeafKey}
use Rattle.sb_machine.specs.declared.reply.Receipt.{Receipt}
use Rattle.sb_machine.specs.declared.reply.Receipt.TheVariants.{Duplicate, Number}
use Rattle.sb_machine.specs.declared.state.AcceptedId.{AcceptedId}
use Rattle.sb_machine.specs.declared.state.Entity.{Entity}
use Rattle.sb_machine.specs.declared.state.Listed.{Listed}
use Rattle.sb_machine.specs.declared.state.Space.{Space}
use Rattle.sb_machine.specs.declared.state.Standing.TheVariants.{Scheduled}
use Rattle.sb_model.specs.declared.message.Message.{Message}
use Rattle.sb_model.specs.declared.message.SystemName.TheVariants.{MessageId}
use Rattle.sb_engine.specs.Growing.{Stands}
use Rattle.sb_engine.specs.Sendings.{IsThere, IsThereIn, Comes, IsUnderWay, SendsAll, SendsOne, StandsAt, StandsSeen, Told, View, is_known_with, is_noted, is_repeat_so_far, knows_so_far, noted_of, seen_in, space_at, view_of, waits_for}
use Rattle.sb_engine.proofs.Growing.{after_both}
use Rattle.sb_engine.proofs.SendIds.{known_after, seen_leaf, seen_delivered, seen_noted, seen_unnoted}

-- ---- a plan that begins

same_as : (m n : ℕ) → n ≡ m → (n == m) ≡ true
same_as m n is = grind (arith, nat_tests)

known_first : (window : Option ℕ) (id : List ℕ) (t : ℕ) (ids : List AcceptedId) → ◌≡◌ {A = Bool} (elim window [ Some w ↦ is_known w id t ids | None ↦ false ]) (elim window [ Some w ↦ is_known_with w ids [] id t | None ↦ false ])
known_first None id t ids = refl
known_first (Some w) id t ids = at (is_known w id t ids) (nat_lt 0 w) where
  at : (k z : Bool) → k ≡ (k || (z && false))
  at true z = refl
  at false true = refl
  at false false = refl

seen_first : (t : ℕ) (o : Option Entity) → StandsSeen t o [] (option_map view_of o)
seen_first t None = refl
seen_first t (Some e) = record { ids = e.ids; is = refl; known = λ id. known_first e.about.description.window id t e.ids }

pub stands_first : (t : ℕ) (read : Space) (e : Entity) (given : Given) (fresh : List (List ℕ)) (cs : List Change) → IsThere read e → given ≡ none_given → fresh ≡ [] → cs ≡ [] → StandsAt t read e.about.number given fresh cs
stands_first t read e given fresh cs there gives notes changes =
    subst (λ (g : Given). StandsAt t read e.about.number g fresh cs) (sym gives)
    (subst (λ (f : List (List ℕ)). StandsAt t read e.about.number none_given f cs) (sym notes)
    (subst (λ (l : List Change). StandsAt t read e.about.number none_given [] l) (sym changes) (record {
      there = there;
      numbers = record { entities = refl; lasts = λ key listed_there. omega arith };
      seen = seen_first t (entity_of e.about.number read);
    })))

found_listed : (p : Entity → Bool) (es : List Entity) (e : Entity) → find p es ≡ Some e → is_listed e.about.number (map (λ x. x.about) es) ≡ true
found_listed p [] e is = absurd cc
found_listed p (x ∷ xs) e is = at (p x) (found_listed p xs e) is where
  at : (b : Bool) → (find p xs ≡ Some e → is_listed e.about.number (map (λ y. y.about) xs) ≡ true) → cond b (Some x) (find p xs) ≡ Some e → is_listed e.about.number (map (λ y. y.about) (x ∷ xs)) ≡ true
  at true rest is = ap (λ (b : Bool). b || is_listed e.about.number (map (λ (y : Entity). y.about) xs)) (same_as e.about.number x.about.number (ap (λ (o : Option Entity). elim o as (λ _. ℕ) [ Some y ↦ y.about.number | None ↦ e.about.number ]) is))
  at false rest is = ap (λ (b : Bool). (x.about.number == e.about.number) || b) (rest is) ∙ either_true (x.about.number == e.about.number) where
    either_true : (b : Bool) → (b || true) ≡ true
    either_true true = refl
    either_true false = refl

pub target_there : (read : Space) (to : Path) (o : Option Entity) → o ≡ entity_at to read → IsThereIn read o
target_there read to None is = tt
target_there read to (Some e) is = found_listed (λ x. is_same_entity x.about.path to) read.entities e (sym is)

-- ---- how a message comes in

pub comes_as : (t : ℕ) (read : Space) (n : ℕ) (f g : Space → List Change) (before after : Given) (old new : List Change) → ((s : Space) → f s ≡ g s) → Comes t read n f before after old new → Comes t read n g before after old new
comes_as t read n f g before after old new same given = record {
  changes = λ s stands there. given.changes s stands there ∙ ap (λ (cs : List Change). old ++ cs) (same s);
  stands = λ s stands. subst (λ (cs : List Change). Stands read after (after_all t cs s)) (same s) (given.stands s stands);
}

pub comes_delivered : (t : ℕ) (read : Space) (e : Entity) (about : Listed) (m copy : Message) (before after : Given) (old new : List Change) → about ≡ e.about → copy ≡ unscheduled m → IsDelivered (listed read) (λ key. last_at key read) before about (visits (listed read) 0 about copy) after old new → Comes t read e.about.number (entering e m) before after old new
comes_delivered t read e about m copy before after old new same is given =
    let one : IsDelivered (listed read) (λ key. last_at key read) before e.about (visits (listed read) 0 e.about copy) after old new = subst (λ (a : Listed). IsDelivered (listed read) (λ key. last_at key read) before a (visits (listed read) 0 a copy) after old new) same given in
    let two : IsDelivered (listed read) (λ key. last_at key read) before e.about (visits (listed read) 0 e.about (unscheduled m)) after old new = subst (λ (x : Message). IsDelivered (listed read) (λ key. last_at key read) before e.about (visits (listed read) 0 e.about x) after old new) is one in
    record {
      changes = λ s stands there. two.changes s stands there ∙ ap (λ (es : List Listed). old ++ delivered None (visits es 0 e.about (unscheduled m)) s) (sym stands.entities);
      stands = λ s stands. subst (λ (es : List Listed). Stands read after (after_all t (delivered None (visits es 0 e.about (unscheduled m)) s) s)) (sym stands.entities) (two.stands s t stands);
    }

pub comes_waiting : (t : ℕ) (read : Space) (e : Entity) (m copy : Message) (at : ℕ) (pushed : Change) (key : LeafKey) (before after : Given) (old new : List Change) → copy ≡ unscheduled m → pushed ≡ in_part Main e (Enters (record { seq = None; hops = 0; standing = Scheduled at; message = copy })) → key ≡ key_of Main e → new ≡ old ++ pushed ∷ [] → after ≡ raised key before → Comes t read e.about.number (λ s. waiting e m at) before after old new
comes_waiting t read e m copy at pushed key before after old new same is key_is grown rises = record {
  changes = λ s stands there. grown ∙ ap (λ (c : Change). old ++ c ∷ []) (is ∙ ap (λ (x : Message). in_part Main e (Enters (record { seq = None; hops = 0; standing = Scheduled at; message = x }))) same);
  stands = λ s stands. subst (λ (g : Given). Stands read g (after_all t (waiting e m at) s)) (sym (rises ∙ ap (λ (k : LeafKey). raised k before) key_is)) (numbers_stand.raising (listed read) (λ key. last_at key read) before t (key_of Main e) (Enters (record { seq = None; hops = 0; standing = Scheduled at; message = unscheduled m })) s refl stands);
}

by_moment : {X : Type 0} (f : ℕ → X) (other : X) (t : ℕ) (o : Option ℕ) (at : ℕ) → ◌≡◌ {A = Option ℕ} (elim o [ Some u ↦ (if nat_lt t u then Some u else None) | None ↦ None ]) (Some at) → ◌≡◌ {A = X} (elim o [ Some u ↦ (if nat_lt t u then f u else other) | None ↦ other ]) (f at)
by_moment f other t None at is = absurd cc
by_moment {X = X} f other t (Some u) at is = go (nat_lt t u) is where
  go : (b : Bool) → ◌≡◌ {A = Option ℕ} (if b then Some u else None) (Some at) → ◌≡◌ {A = X} (if b then f u else other) (f at)
  go true is = ap (λ (o : Option ℕ). elim o as (λ _. X) [ Some x ↦ f x | None ↦ f at ]) is
  go false is = absurd cc

by_none : {X : Type 0} (f : ℕ → X) (other : X) (t : ℕ) (o : Option ℕ) → ◌≡◌ {A = Option ℕ} (elim o [ Some u ↦ (if nat_lt t u then Some u else None) | None ↦ None ]) None → ◌≡◌ {A = X} (elim o [ Some u ↦ (if nat_lt t u then f u else other) | None ↦ other ]) other
by_none f other t None is = refl
by_none {X = X} f other t (Some u) is = go (nat_lt t u) is where
  go : (b : Bool) → ◌≡◌ {A = Option ℕ} (if b then Some u else None) None → ◌≡◌ {A = X} (if b then f u else other) other
  go true is = absurd cc
  go false is = refl

pub coming_waits : (t : ℕ) (e : Entity) (m : Message) (at : ℕ) (s : Space) → waits_for t m ≡ Some at → waiting e m at ≡ coming t e m s
coming_waits t e m at s is = sym (by_moment (waiting e m) (entering e m s) t m.schedule at is)

pub coming_enters : (t : ℕ) (e : Entity) (m : Message) (s : Space) → waits_for t m ≡ None → entering e m s ≡ coming t e m s
coming_enters t e m s is = sym (by_none (waiting e m) (entering e m s) t m.schedule is)

-- what is seen of an entity as a message comes in
seen_coming : (n t : ℕ) (e : Entity) (m : Message) (s r : Space) → seen_in n (after_all t (coming t e m r) s) ≡ seen_in n s
seen_coming n t e m s r = at m.schedule where
  on : (u : ℕ) (b : Bool) → seen_in n (after_all t (if b then waiting e m u else entering e m r) s) ≡ seen_in n s
  on u true = seen_leaf n t (key_of Main e) (Enters (record { seq = None; hops = 0; standing = Scheduled u; message = unscheduled m })) s
  on u false = seen_delivered n t (visits (listed r) 0 e.about (unscheduled m)) s r

  at : (o : Option ℕ) → seen_in n (after_all t (elim o [ Some u ↦ (if nat_lt t u then waiting e m u else entering e m r) | None ↦ entering e m r ]) s) ≡ seen_in n s
  at None = seen_delivered n t (visits (listed r) 0 e.about (unscheduled m)) s r
  at (Some u) = on u (nat_lt t u)

-- ---- ids that are noted

either_shape : (k z f q : Bool) → ((k || (z && f)) || (q && z)) ≡ (k || (z && (f || (q || false))))
either_shape true z f q = refl
either_shape false true true q = refl
either_shape false true false true = refl
either_shape false true false false = refl
either_shape false false f true = refl
either_shape false false f false = refl

any_more : {X : Type 0} (p : X → Bool) (xs : List X) (x : X) → list_any p (xs ++ x ∷ []) ≡ (list_any p xs || (p x || false))
any_more p [] x = refl
any_more p (y ∷ ys) x = go (p y) (any_more p ys x) where
  go : (b : Bool) → list_any p (ys ++ x ∷ []) ≡ (list_any p ys || (p x || false)) → (b || list_any p (ys ++ x ∷ [])) ≡ ((b || list_any p ys) || (p x || false))
  go true ih = refl
  go false ih = ih

known_more : (window : Option ℕ) (own id : List ℕ) (t : ℕ) (read ids later : List AcceptedId) (fresh : List (List ℕ)) → later ≡ noted window own t ids →
    ◌≡◌ {A = Bool} (elim window [ Some w ↦ is_known w id t ids | None ↦ false ]) (elim window [ Some w ↦ is_known_with w read fresh id t | None ↦ false ])
    → ◌≡◌ {A = Bool} (elim window [ Some w ↦ is_known w id t later | None ↦ false ]) (elim window [ Some w ↦ is_known_with w read (fresh ++ own ∷ []) id t | None ↦ false ])
known_more None own id t read ids later fresh noted_is is = refl
known_more (Some w) own id t read ids later fresh noted_is is =
    ap (is_known w id t) noted_is
    ∙ known_after w own id t ids
    ∙ ap (λ (b : Bool). b || (bytes_eq own id && nat_lt 0 w)) is
    ∙ either_shape (is_known w id t read) (nat_lt 0 w) (is_noted fresh id) (bytes_eq own id)
    ∙ ap (λ (b : Bool). is_known w id t read || (nat_lt 0 w && b)) (sym (any_more (λ x. bytes_eq x id) fresh own))

noted_seen : (t n : ℕ) (own : List ℕ) (o : Option Entity) (fresh : List (List ℕ)) (s : Space) → StandsSeen t o fresh (seen_in n s) → StandsSeen t o (fresh ++ own ∷ []) (seen_in n (after t (Notes n own) s))
noted_seen t n own None fresh s is = seen_unnoted n t own s is
noted_seen t n own (Some e) fresh s has = record {
  ids = noted e.about.description.window own t has.ids;
  is = seen_noted n t own e.about has.ids s has.is;
  known = λ id. known_more e.about.description.window own id t e.ids has.ids (noted e.about.description.window own t has.ids) fresh refl (has.known id);
}

noting_keeps : (t : ℕ) (read : Space) (e : Entity) (m : Message) (given : Given) (s : Space) → Stands read given s → Stands read given (after_all t (noting e m) s)
noting_keeps t read e m given s stands = at e.about.description.window (text_of MessageId m) where
  at : (w : Option ℕ) (o : Option (List ℕ)) → Stands read given (after_all t (elim w [ Some window ↦ elim o [ Some id ↦ Notes e.about.number id ∷ [] | None ↦ [] ] | None ↦ [] ]) s)
  at None o = stands
  at (Some w) None = stands
  at (Some w) (Some id) = numbers_stand.keeping (listed read) (λ key. last_at key read) given t (Notes e.about.number id) s refl stands

noting_seen : (t : ℕ) (e : Entity) (m : Message) (o : Option Entity) (fresh : List (List ℕ)) (s : Space) → StandsSeen t o fresh (seen_in e.about.number s) → StandsSeen t o (fresh ++ noted_of e m) (seen_in e.about.number (after_all t (noting e m) s))
noting_seen t e m o fresh s seen = at e.about.description.window (text_of MessageId m) where
  same : StandsSeen t o (fresh ++ []) (seen_in e.about.number s)
  same = subst (λ (f : List (List ℕ)). StandsSeen t o f (seen_in e.about.number s)) (sym (append-nil fresh)) seen

  at : (w : Option ℕ) (x : Option (List ℕ)) → StandsSeen t o (fresh ++ elim w [ Some window ↦ elim x [ Some id ↦ id ∷ [] | None ↦ [] ] | None ↦ [] ]) (seen_in e.about.number (after_all t (elim w [ Some window ↦ elim x [ Some id ↦ Notes e.about.number id ∷ [] | None ↦ [] ] | None ↦ [] ]) s))
  at None x = same
  at (Some w) None = same
  at (Some w) (Some id) = noted_seen t e.about.number id o fresh s seen

-- the id that is noted, test by test
pub noted_none : (e : Entity) (m : Message) (fresh : List (List ℕ)) (w : Option ℕ) → w ≡ None → e.about.description.window ≡ w → fresh ≡ fresh ++ noted_of e m
noted_none e m fresh w none is = sym (ap (λ (x : Option ℕ). fresh ++ elim x [ Some window ↦ elim (text_of MessageId m) [ Some id ↦ id ∷ [] | None ↦ [] ] | None ↦ [] ]) (is ∙ none) ∙ append-nil fresh)

pub noted_nameless : (e : Entity) (m : Message) (fresh : List (List ℕ)) → text_of MessageId m ≡ None → fresh ≡ fresh ++ noted_of e m
noted_nameless e m fresh none = at e.about.description.window where
  at : (w : Option ℕ) → fresh ≡ fresh ++ elim w [ Some window ↦ elim (text_of MessageId m) [ Some id ↦ id ∷ [] | None ↦ [] ] | None ↦ [] ]
  at None = sym (append-nil fresh)
  at (Some w) = sym (ap (λ (x : Option (List ℕ)). fresh ++ elim x [ Some id ↦ id ∷ [] | None ↦ [] ]) none ∙ append-nil fresh)

pub noted_one : (e : Entity) (m : Message) (w : ℕ) (id : List ℕ) → e.about.description.window ≡ Some w → text_of MessageId m ≡ Some id → id ∷ [] ≡ noted_of e m
noted_one e m w id windowed named =
    sym (ap (λ (x : Option ℕ). elim x as (λ _. List (List ℕ)) [ Some window ↦ elim (text_of MessageId m) [ Some own ↦ own ∷ [] | None ↦ [] ] | None ↦ [] ]) windowed
    ∙ ap (λ (x : Option (List ℕ)). elim x as (λ _. List (List ℕ)) [ Some own ↦ own ∷ [] | None ↦ [] ]) named)

-- ---- repeats

pub repeat_so_far : (t : ℕ) (e : Entity) (m : Message) (o : Option Entity) (fresh : List (List ℕ)) (s : Space) → StandsSeen t o fresh (seen_in e.about.number s) → is_repeat t e m s ≡ is_repeat_so_far t o fresh m
repeat_so_far t e m o fresh s seen = at (text_of MessageId m) where
  on : (id : List ℕ) (x : Option Entity) (o : Option Entity) → StandsSeen t o fresh (option_map view_of x) → ◌≡◌ {A = Bool} (elim x [ Some now ↦ knows id t now | None ↦ false ]) (knows_so_far t o fresh id)
  on id None None is = refl
  on id (Some now) None is = absurd cc
  on id x (Some read) has = by x has.is ∙ has.known id where
    by : (x : Option Entity) → option_map view_of x ≡ Some (read.about, has.ids) → ◌≡◌ {A = Bool} (elim x [ Some now ↦ knows id t now | None ↦ false ]) (elim read.about.description.window [ Some window ↦ is_known window id t has.ids | None ↦ false ])
    by None is = absurd cc
    by (Some now) is = ap (λ (v : Option View). elim v [ Some y ↦ elim y.0.description.window [ Some window ↦ is_known window id t y.1 | None ↦ false ] | None ↦ false ]) is

  at : (x : Option (List ℕ)) → ◌≡◌ {A = Bool} (elim x [ Some id ↦ elim (entity_of e.about.number s) [ Some now ↦ knows id t now | None ↦ false ] | None ↦ false ]) (elim x [ Some id ↦ knows_so_far t o fresh id | None ↦ false ])
  at None = refl
  at (Some id) = on id (entity_of e.about.number s) o seen

pub repeats_one : (t : ℕ) (read : Space) (e : Entity) (m : Message) (given : Given) (fresh : List (List ℕ)) (old : List Change) (before after : List Receipt) → StandsAt t read e.about.number given fresh old → is_repeat t e m (after_all t old read) ≡ true → after ≡ before ++ Duplicate ∷ [] →
    SendsOne t read e m (record { given = given; fresh = fresh; changes = old; receipts = before }) (record { given = given; fresh = fresh; changes = old; receipts = after })
repeats_one t read e m given fresh old before after stands repeats is = record {
  changes = sym (ap (λ (b : Bool). old ++ (if b then [] else noting e m ++ coming t e m (after_all t old read))) repeats ∙ append-nil old);
  receipts = is ∙ sym (ap (λ (b : Bool). before ++ (if b then Duplicate else Number (last_at (key_of Main e) (after_all t old read) + 1)) ∷ []) repeats);
  stands = stands;
}

-- ---- a message that is accepted

pub accepts_one : (t : ℕ) (read : Space) (e : Entity) (m : Message) (before after : Given) (fresh more : List (List ℕ)) (old mid new : List Change) (got then_got : List Receipt) (key : LeafKey) (number : ℕ)
    → StandsAt t read e.about.number before fresh old
    → is_repeat t e m (after_all t old read) ≡ false
    → key ≡ key_of Main e
    → number ≡ last_at key read + before key + 1
    → then_got ≡ got ++ Number number ∷ []
    → more ≡ fresh ++ noted_of e m
    → mid ≡ old ++ noting e m
    → Comes t read e.about.number (coming t e m) before after mid new
    → SendsOne t read e m (record { given = before; fresh = fresh; changes = old; receipts = got }) (record { given = after; fresh = more; changes = new; receipts = then_got })
accepts_one t read e m before after fresh more old mid new got then_got key number under fails key_is number_is got_is more_is mid_is comes = record {
  changes = changes_are;
  receipts = got_is ∙ ap (λ (n : ℕ). got ++ Number n ∷ []) (number_is ∙ counted) ∙ sym (ap (λ (b : Bool). got ++ (if b then Duplicate else Number (last_at (key_of Main e) s + 1)) ∷ []) fails);
  stands = record {
    there = under.there;
    numbers = subst (λ (x : Space). Stands read after x) (sym led) (comes.stands noted_space stands_noted);
    seen = subst (λ (f : List (List ℕ)). StandsSeen t (entity_of e.about.number read) f (seen_in e.about.number (after_all t new read))) (sym more_is) (subst (λ (v : Option View). StandsSeen t (entity_of e.about.number read) (fresh ++ noted_of e m) v) (sym seen_same) (noting_seen t e m (entity_of e.about.number read) fresh s under.seen));
  };
} where
  s : Space
  s = after_all t old read

  noted_space : Space
  noted_space = after_all t (noting e m) s

  stands_noted : Stands read before noted_space
  stands_noted = noting_keeps t read e m before s under.numbers

  here : new ≡ mid ++ coming t e m s
  here = comes.changes s under.numbers under.there

  later : new ≡ mid ++ coming t e m noted_space
  later = comes.changes noted_space stands_noted under.there

  joined : new ≡ old ++ (noting e m ++ coming t e m s)
  joined = here ∙ ap (λ (cs : List Change). cs ++ coming t e m s) mid_is ∙ append_assoc old (noting e m) (coming t e m s)

  joined_later : new ≡ old ++ (noting e m ++ coming t e m noted_space)
  joined_later = later ∙ ap (λ (cs : List Change). cs ++ coming t e m noted_space) mid_is ∙ append_assoc old (noting e m) (coming t e m noted_space)

  changes_are : new ≡ old ++ message_changes t e m s
  changes_are = joined ∙ sym (ap (λ (b : Bool). old ++ (if b then [] else noting e m ++ coming t e m s)) fails)

  led : after_all t new read ≡ after_all t (coming t e m noted_space) noted_space
  led = ap (λ (cs : List Change). after_all t cs read) joined_later ∙ after_both t old (noting e m ++ coming t e m noted_space) read ∙ after_both t (noting e m) (coming t e m noted_space) s

  seen_same : seen_in e.about.number (after_all t new read) ≡ seen_in e.about.number noted_space
  seen_same = ap (seen_in e.about.number) led ∙ seen_coming e.about.number t e m noted_space noted_space

  counted : last_at key read + before key + 1 ≡ last_at (key_of Main e) s + 1
  counted = ap (λ (k : LeafKey). last_at k read + before k + 1) key_is ∙ ap (λ (n : ℕ). n + 1) (sym (under.numbers.lasts (key_of Main e) under.there))

-- ---- one after another

-- what is left gives all
pub record IsOnTheWay (t : ℕ) (read : Space) (e : Entity) (ms : List Message) (i : ℕ) (all : List Change) (got : List Receipt) (p : Told) : Type 0 where
  pub stands : IsUnderWay t read e.about.number p
  pub changes : p.changes ++ send_changes t e (drop i ms) (space_at t read p) ≡ all
  pub receipts : p.receipts ++ receipts t e (drop i ms) (space_at t read p) ≡ got

pub way_next : (t : ℕ) (read : Space) (e : Entity) (ms : List Message) (i : ℕ) (m : Message) (all : List Change) (got : List Receipt) (p q : Told) → i < length ms → m ≡ Rattle.std.proofs.Common.get_or ms i m → IsOnTheWay t read e ms i all got p → SendsOne t read e m p q → IsOnTheWay t read e ms (i + 1) all got q
way_next t read e ms i m all got p q within here way one = record {
  stands = one.stands;
  changes =
      ap (λ (x : Space). q.changes ++ send_changes t e (drop (i + 1) ms) x) led
      ∙ ap (λ (cs : List Change). cs ++ send_changes t e (drop (i + 1) ms) (after_all t (message_changes t e m s) s)) one.changes
      ∙ append_assoc p.changes (message_changes t e m s) (send_changes t e (drop (i + 1) ms) (after_all t (message_changes t e m s) s))
      ∙ sym (ap (λ (l : List Message). p.changes ++ send_changes t e l s) split)
      ∙ way.changes;
  receipts =
      ap (λ (x : Space). q.receipts ++ receipts t e (drop (i + 1) ms) x) led
      ∙ ap (λ (cs : List Receipt). cs ++ receipts t e (drop (i + 1) ms) (after_all t (message_changes t e m s) s)) one.receipts
      ∙ append_assoc p.receipts (receipt t e m s ∷ []) (receipts t e (drop (i + 1) ms) (after_all t (message_changes t e m s) s))
      ∙ sym (ap (λ (l : List Message). p.receipts ++ receipts t e l s) split)
      ∙ way.receipts;
} where
  s : Space
  s = space_at t read p

  split : drop i ms ≡ m ∷ drop (i + 1) ms
  split = drop_more ms i m within ∙ ap (λ (x : Message). x ∷ drop (i + 1) ms) (sym here)

  led : space_at t read q ≡ after_all t (message_changes t e m s) s
  led = ap (λ (cs : List Change). after_all t cs read) one.changes ∙ after_both t p.changes (message_changes t e m s) read

pub way_end : (t : ℕ) (read : Space) (e : Entity) (ms : List Message) (i : ℕ) (p q : Told) → length ms ≤ i → IsOnTheWay t read e ms i (p.changes ++ send_changes t e ms (space_at t read p)) (p.receipts ++ receipts t e ms (space_at t read p)) q → SendsAll t read e ms p q
way_end t read e ms i p q past way = record {
  changes = sym (append-nil q.changes) ∙ sym (ap (λ (l : List Message). q.changes ++ send_changes t e l (space_at t read q)) (drop_all i ms past)) ∙ way.changes;
  receipts = sym (append-nil q.receipts) ∙ sym (ap (λ (l : List Message). q.receipts ++ receipts t e l (space_at t read q)) (drop_all i ms past)) ∙ way.receipts;
  stands = way.stands;
}
