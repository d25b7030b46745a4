-- The numbers of heads of sessions, as messages change and sessions are opened and closed.
use Rattle.std.proofs.Common.{◌≡◌, ℕ, ◌<◌, ◌≤◌, List, [], ◌∷◌, ◌++◌, find, not, nat_lt, ◌==◌, ◌&&◌, ◌||◌, bytes_eq, if◌then◌else◌, Bool, true, false, Option, Some, None, refl, sym, ap, ◌∙◌, subst, arith}
use Rattle.std.specs.Prelude.{is_some}
use Rattle.std.specs.List.{list_all, list_any}
use Rattle.std.specs.Option.{option_and_then, option_map, option_map_or}
use Rattle.std.proofs.lemmas.Bool.Decides.{nat_tests}
use Rattle.std.proofs.lemmas.Bool.{eq-eqb, ne_eqb}
use Rattle.std.proofs.lemmas.Slice.Eq.{bytes_eq-Decides}
use Rattle.sb_machine.specs.Keyed.{changed}
use Rattle.sb_machine.specs.Leases.{is_ready}
use Rattle.sb_machine.specs.Leaves.{has_number, prolonged_standing}
use Rattle.sb_machine.specs.Messages.{has_text_of, text_of}
use Rattle.sb_machine.specs.declared.state.Session.{Session}
use Rattle.sb_machine.specs.declared.state.StoredCopy.{StoredCopy}
use Rattle.sb_machine.proofs.Places.{found_passes}
use Rattle.sb_model.specs.declared.message.SystemName.TheVariants.{SessionId}
use Rattle.sb_copies.specs.Dues.{never}
use Rattle.sb_copies.specs.Heads.{except, is_among, is_of_session, is_usual}
use Rattle.sb_copies.specs.Shelf.{AreBelow, AreInOrder, is_before}
use Rattle.sb_copies.proofs.Below.{below_changed, below_put, below_taken}
use Rattle.sb_copies.proofs.Mirror.{own_found, still_marked}
use Rattle.sb_entities.specs.Heads.{first_of, head_of, HoldsHeads, is_free, is_ready_of, IsTold, left_of, session_at, session_of}
use Rattle.sb_entities.proofs.Firsts.{other_changed, other_last, seen_changed, still_first}

-- these are numbers of heads, and those of all; that of this session's head may be lacking
pub record LacksHead (id : Option (List ℕ)) (heads : List ℕ) (copies : List StoredCopy) (sessions : List Session) : Type 0 where
  pub told : (own : List ℕ) (n : ℕ) → (id ≡ Some own → ⊥) → head_of own copies sessions ≡ Some n → is_among n heads ≡ true
  pub only : (n : ℕ) → is_among n heads ≡ true → (own : List ℕ) × (head_of own copies sessions ≡ Some n)

-- these are the numbers of all heads but that of this session
pub record HoldsOthers (id : Option (List ℕ)) (heads : List ℕ) (copies : List StoredCopy) (sessions : List Session) : Type 0 where
  pub told : (own : List ℕ) (n : ℕ) → (id ≡ Some own → ⊥) → head_of own copies sessions ≡ Some n → is_among n heads ≡ true
  pub only : (n : ℕ) → is_among n heads ≡ true → (own : List ℕ) × (id ≡ Some own → ⊥) × (head_of own copies sessions ≡ Some n)

both : (a b : Bool) → (a && b) ≡ true → (a ≡ true) × (b ≡ true)
both true b e = (refl, e)
both false b e = absurd (let bad : false ≡ true = e in cc)

same_number : (m n : ℕ) → (m == n) ≡ true → m ≡ n
same_number m n e = grind (arith, nat_tests)

-- ---- which session a message is of

text_is : (id : List ℕ) (c : StoredCopy) → has_text_of SessionId id c.message ≡ true → session_of c ≡ Some id
text_is id c e = at (text_of SessionId c.message) e where
  at : (o : Option (List ℕ)) → (elim o [ Some own ↦ bytes_eq own id | None ↦ false ]) ≡ true → o ≡ Some id
  at None is = absurd (let bad : false ≡ true = is in cc)
  at (Some own) is = ap (λ z. Some z) ((bytes_eq-Decides own id).0 is)

pub text_not : (id : List ℕ) (c : StoredCopy) → (session_of c ≡ Some id → ⊥) → has_text_of SessionId id c.message ≡ false
text_not id c other = at (has_text_of SessionId id c.message) refl where
  at : (b : Bool) → has_text_of SessionId id c.message ≡ b → has_text_of SessionId id c.message ≡ false
  at true e = absurd (other (text_is id c e))
  at false e = e

not_ready : (id : List ℕ) (c : StoredCopy) → has_text_of SessionId id c.message ≡ false → is_ready_of id c ≡ false
not_ready id c e = ap (λ b. is_ready c.standing && b) e ∙ none (is_ready c.standing) where
  none : (b : Bool) → (b && false) ≡ false
  none true = refl
  none false = refl

-- ---- where a head stands

number_of : (o : Option StoredCopy) (n : ℕ) → option_map (λ c. c.number) o ≡ Some n → (c : StoredCopy) × (o ≡ Some c) × (c.number ≡ n)
number_of None n e = absurd cc
number_of (Some c) n e = (c, refl, let it : Some c.number ≡ Some n = e in let same : c.number ≡ n = cc in same)

head_first : (id : List ℕ) (n : ℕ) (cs : List StoredCopy) (ss : List Session) → head_of id cs ss ≡ Some n → first_of id cs ≡ Some n
head_first id n cs ss e = at (is_free id ss) e where
  at : (b : Bool) → (if b then first_of id cs else None) ≡ Some n → first_of id cs ≡ Some n
  at true is = is
  at false is = absurd (let bad : None ≡ Some n = is in cc)

pub head_free : (id : List ℕ) (k : Option ℕ) (cs : List StoredCopy) (ss : List Session) → true ≡ is_free id ss → k ≡ first_of id cs → k ≡ head_of id cs ss
head_free id k cs ss free is = is ∙ ap (λ b. if b then first_of id cs else None) free

pub head_held : (id : List ℕ) (cs : List StoredCopy) (ss : List Session) → false ≡ is_free id ss → None ≡ head_of id cs ss
head_held id cs ss held = ap (λ b. if b then first_of id cs else None) held

pub first_session : (id : List ℕ) (n : ℕ) (cs : List StoredCopy) → AreInOrder cs → first_of id cs ≡ Some n → session_at n cs ≡ Some id
first_session id n cs s first =
    let it = number_of (find (is_ready_of id) cs) n first in
    let c : StoredCopy = it.0 in
    let found : find (has_number n) cs ≡ Some c = subst (λ k. find (has_number k) cs ≡ Some c) it.2 (own_found (is_ready_of id) c cs s it.1) in
    let passes = both (is_ready c.standing) (has_text_of SessionId id c.message) (found_passes (is_ready_of id) cs c it.1) in
    ap (λ (o : Option StoredCopy). option_and_then session_of o) found ∙ text_is id c passes.1

pub head_session : (id : List ℕ) (n : ℕ) (cs : List StoredCopy) (ss : List Session) → AreInOrder cs → head_of id cs ss ≡ Some n → session_at n cs ≡ Some id
head_session id n cs ss s head = first_session id n cs s (head_first id n cs ss head)

-- two sessions have no head in common
same_session : (a b : List ℕ) (n : ℕ) (cs : List StoredCopy) → session_at n cs ≡ Some a → session_at n cs ≡ Some b → a ≡ b
same_session a b n cs p q = let it : Some a ≡ Some b = sym p ∙ q in cc

-- ---- numbers

among_except : (m n : ℕ) (ns : List ℕ) → is_among m (except n ns) ≡ (is_among m ns && not (m == n))
among_except m n [] = refl
among_except m n (k ∷ ks) = at (k == n) (k == m) refl refl (among_except m n ks) where
  at : (b t : Bool) → (k == n) ≡ b → (k == m) ≡ t → is_among m (except n ks) ≡ (is_among m ks && not (m == n)) → is_among m (except n (k ∷ ks)) ≡ (is_among m (k ∷ ks) && not (m == n))
  at true true e f ih =
      let same : (m == n) ≡ true = ap (λ z. z == n) (sym (same_number k m f)) ∙ e in
      rw (e, f, ih, same) (none (is_among m ks)) where
        none : (b : Bool) → (b && false) ≡ false
        none true = refl
        none false = refl
  at true false e f ih = rw (e, f) ih
  at false true e f ih =
      let other : (m == n) ≡ false = ap (λ z. z == n) (sym (same_number k m f)) ∙ e in
      rw (e, f, other) refl
  at false false e f ih = rw (e, f) ih

-- one that stays, since it is another
among_kept : (m n : ℕ) (ns : List ℕ) → is_among m ns ≡ true → (m ≡ n → ⊥) → is_among m (except n ns) ≡ true
among_kept m n ns there other = among_except m n ns ∙ rw (there, ne_eqb m n other) refl

among_left : (m n : ℕ) (ns : List ℕ) → is_among m (except n ns) ≡ true → (is_among m ns ≡ true) × (m ≡ n → ⊥)
among_left m n ns there =
    let it = both (is_among m ns) (not (m == n)) (sym (among_except m n ns) ∙ there) in
    (it.0, λ same. let bad : false ≡ true = sym (ap (λ b. not b) (eq-eqb m n same)) ∙ it.1 in absurd cc)

-- ---- a session's head is forgotten

pub others_left : (o : Option (List ℕ)) (k : Option ℕ) (hs new : List ℕ) (cs : List StoredCopy) (ss : List Session) → AreInOrder cs → LacksHead None hs cs ss → k ≡ option_and_then (λ id. first_of id cs) o → new ≡ left_of k hs → HoldsOthers o new cs ss
others_left None k hs new cs ss s holds first left = record {
  told = λ own n other head. subst (λ (l : List ℕ). is_among n l ≡ true) (sym same) (holds.told own n (λ e. absurd cc) head);
  only = λ n there. let it = holds.only n (subst (λ (l : List ℕ). is_among n l ≡ true) same there) in (it.0, λ e. absurd cc, it.1);
} where
  same : new ≡ hs
  same = left ∙ ap (λ (z : Option ℕ). left_of z hs) first
others_left (Some id) k hs new cs ss s holds first left = at (first_of id cs) refl where
  at : (f : Option ℕ) → first_of id cs ≡ f → HoldsOthers (Some id) new cs ss
  at None e = record {
    told = λ own n other head. subst (λ (l : List ℕ). is_among n l ≡ true) (sym same) (holds.told own n (λ e. absurd cc) head);
    only = λ n there. let it = holds.only n (subst (λ (l : List ℕ). is_among n l ≡ true) same there) in (it.0, not_it n it.0 it.1, it.1);
  } where
    same : new ≡ hs
    same = left ∙ ap (λ (z : Option ℕ). left_of z hs) (first ∙ e)

    not_it : (n : ℕ) (own : List ℕ) → head_of own cs ss ≡ Some n → Some id ≡ Some own → ⊥
    not_it n own head is =
        let alike : id ≡ own = cc in
        let bad : None ≡ Some n = sym e ∙ ap (λ z. first_of z cs) alike ∙ head_first own n cs ss head in
        absurd cc
  at (Some m) e = record {
    told = λ own n other head. subst (λ (l : List ℕ). is_among n l ≡ true) (sym same) (among_kept n m hs (holds.told own n (λ z. absurd cc) head) (apart own n other head));
    only = λ n there. let left_so = among_left n m hs (subst (λ (l : List ℕ). is_among n l ≡ true) same there) in let it = holds.only n left_so.0 in (it.0, not_it n it.0 left_so.1 it.1, it.1);
  } where
    same : new ≡ except m hs
    same = left ∙ ap (λ (z : Option ℕ). left_of z hs) (first ∙ e)

    apart : (own : List ℕ) (n : ℕ) → (Some id ≡ Some own → ⊥) → head_of own cs ss ≡ Some n → n ≡ m → ⊥
    apart own n other head is =
        let its : session_at n cs ≡ Some own = head_session own n cs ss s head in
        let this : session_at n cs ≡ Some id = subst (λ k. session_at k cs ≡ Some id) (sym is) (first_session id m cs s e) in
        other (sym this ∙ its)

    not_it : (n : ℕ) (own : List ℕ) → (n ≡ m → ⊥) → head_of own cs ss ≡ Some n → Some id ≡ Some own → ⊥
    not_it n own other head is =
        let alike : id ≡ own = cc in
        let it : Some n ≡ Some m = sym (head_first own n cs ss head) ∙ ap (λ z. first_of z cs) (sym alike) ∙ e in
        other (let same_n : n ≡ m = cc in same_n)

-- ---- a message changes

abbrev pub KeepsOut : (StoredCopy → List StoredCopy) → Type 0
KeepsOut g = (id : List ℕ) (c : StoredCopy) → has_text_of SessionId id c.message ≡ false → list_any (is_ready_of id) (g c) ≡ false

pub gone_out : KeepsOut (λ c. [])
gone_out id c e = refl

pub stays_out : (f : StoredCopy → StoredCopy) → ((c : StoredCopy) → (f c).message ≡ c.message) → KeepsOut (λ c. f c ∷ [])
stays_out f same id c e = ap (λ b. b || false) (not_ready id (f c) (ap (λ m. has_text_of SessionId id m) (same c) ∙ e))

first_stays : (n : ℕ) (g : StoredCopy → List StoredCopy) (id : List ℕ) (cs : List StoredCopy) → KeepsOut g → (session_at n cs ≡ Some id → ⊥) → first_of id (changed (has_number n) g cs) ≡ first_of id cs
first_stays n g id cs out other = ap (λ (o : Option StoredCopy). option_map (λ c. c.number) o) (other_changed (has_number n) (is_ready_of id) g cs (λ c found.
    let text = text_not id c (λ is. other (ap (λ (o : Option StoredCopy). option_and_then session_of o) found ∙ is)) in
    (not_ready id c text, out id c text)))

head_stays : (id : List ℕ) (cs after : List StoredCopy) (ss : List Session) → first_of id after ≡ first_of id cs → head_of id after ss ≡ head_of id cs ss
head_stays id cs after ss e = ap (λ (o : Option ℕ). if is_free id ss then o else None) e

pub lacks_changed : (n : ℕ) (g : StoredCopy → List StoredCopy) (hs new : List ℕ) (cs after : List StoredCopy) (ss : List Session) → KeepsOut g → AreInOrder cs → HoldsOthers (session_at n cs) hs cs ss → new ≡ except n hs → after ≡ changed (has_number n) g cs → LacksHead (session_at n cs) new after ss
lacks_changed n g hs new cs after ss out s holds left is = record {
  told = λ own m other head.
      let before : head_of own cs ss ≡ Some m = sym (stays own other) ∙ head in
      subst (λ (l : List ℕ). is_among m l ≡ true) (sym left) (among_kept m n hs (holds.told own m other before) (λ same. other (subst (λ k. session_at k cs ≡ Some own) same (head_session own m cs ss s before))));
  only = λ m there.
      let it = holds.only m (among_left m n hs (subst (λ (l : List ℕ). is_among m l ≡ true) left there)).0 in
      (it.0, stays it.0 it.1 ∙ it.2);
} where
  stays : (own : List ℕ) → (session_at n cs ≡ Some own → ⊥) → head_of own after ss ≡ head_of own cs ss
  stays own other = ap (λ (l : List StoredCopy). head_of own l ss) is ∙ head_stays own cs (changed (has_number n) g cs) ss (first_stays n g own cs out other)

joined : (o : Option StoredCopy) → option_and_then session_of o ≡ option_and_then (λ z. z) (option_map session_of o)
joined None = refl
joined (Some c) = refl

-- each is still of the same session
pub session_stays : (n m : ℕ) (f : StoredCopy → StoredCopy) (cs after : List StoredCopy) → ((c : StoredCopy) → (f c).number ≡ c.number) → ((c : StoredCopy) → (f c).message ≡ c.message) → after ≡ changed (has_number n) (λ c. f c ∷ []) cs → session_at m after ≡ session_at m cs
session_stays n m f cs after same_n same is =
    ap (λ (l : List StoredCopy). session_at m l) is
    ∙ joined (find (has_number m) (changed (has_number n) (λ c. f c ∷ []) cs))
    ∙ ap (λ (o : Option (Option (List ℕ))). option_and_then (λ z. z) o) (seen_changed session_of (has_number n) (has_number m) f (λ c. ap (λ k. k == m) (same_n c)) (λ c. ap (λ k. text_of SessionId k) (same c)) cs)
    ∙ sym (joined (find (has_number m) cs))

-- ---- a session's head is told

usual_found : (n : ℕ) (cs : List StoredCopy) (id : List ℕ) → AreBelow never cs → session_at n cs ≡ Some id → is_usual n ≡ true
usual_found n [] id b e = absurd (let bad : None ≡ Some id = e in cc)
usual_found n (c ∷ cs) id b e = at (c.number == n) refl (usual_found n cs id) where
  it : (nat_lt c.number never ≡ true) × (list_all (is_before never) cs ≡ true)
  it = both (nat_lt c.number never) (list_all (is_before never) cs) b

  at : (t : Bool) → (c.number == n) ≡ t → (AreBelow never cs → session_at n cs ≡ Some id → is_usual n ≡ true) → is_usual n ≡ true
  at true is ih = subst (λ k. is_usual k ≡ true) (same_number c.number n is) it.0
  at false is ih = ih it.1 (rw is at e)

of_session : (n : ℕ) (cs : List StoredCopy) (id : List ℕ) → session_at n cs ≡ Some id → is_of_session n cs ≡ true
of_session n cs id e = at (find (has_number n) cs) e where
  at : (o : Option StoredCopy) → option_and_then session_of o ≡ Some id → option_map_or (λ c. is_some (text_of SessionId c.message)) o false ≡ true
  at None is = absurd (let bad : None ≡ Some id = is in cc)
  at (Some c) is = ap (λ (o : Option (List ℕ)). is_some o) is

either : (a b : Bool) → (a || b) ≡ true → (a ≡ false → b ≡ true)
either true b e f = absurd (let bad : true ≡ false = f in cc)
either false b e f = e

later_true : (a b : Bool) → b ≡ true → (a || b) ≡ true
later_true true b e = refl
later_true false b e = e

pub holds_told : (o : Option (List ℕ)) (k : Option ℕ) (hs new : List ℕ) (cs : List StoredCopy) (ss : List Session) → AreInOrder cs → AreBelow never cs → LacksHead o hs cs ss → k ≡ option_and_then (λ id. head_of id cs ss) o → IsTold k cs hs new → LacksHead None new cs ss
holds_told None k hs new cs ss s b lacks head told = record {
  told = λ own n other is. subst (λ (l : List ℕ). is_among n l ≡ true) (sym same) (lacks.told own n (λ e. absurd cc) is);
  only = λ n there. lacks.only n (subst (λ (l : List ℕ). is_among n l ≡ true) same there);
} where
  same : new ≡ hs
  same = subst (λ (z : Option ℕ). IsTold z cs hs new) head told
holds_told (Some id) k hs new cs ss s b lacks head told = at (head_of id cs ss) refl where
  other_id : (own : List ℕ) → bytes_eq id own ≡ false → Some id ≡ Some own → ⊥
  other_id own e is = let same : id ≡ own = cc in let bad : false ≡ true = sym e ∙ (bytes_eq-Decides id own).1 same in absurd cc

  at : (f : Option ℕ) → head_of id cs ss ≡ f → LacksHead None new cs ss
  at None e = record {
    told = λ own n other is. subst (λ (l : List ℕ). is_among n l ≡ true) (sym same) (by own n is (bytes_eq id own) refl);
    only = λ n there. lacks.only n (subst (λ (l : List ℕ). is_among n l ≡ true) same there);
  } where
    same : new ≡ hs
    same = subst (λ (z : Option ℕ). IsTold z cs hs new) (head ∙ e) told

    by : (own : List ℕ) (n : ℕ) → head_of own cs ss ≡ Some n → (t : Bool) → bytes_eq id own ≡ t → is_among n hs ≡ true
    by own n is true f = absurd (let bad : None ≡ Some n = sym e ∙ ap (λ z. head_of z cs ss) ((bytes_eq-Decides id own).0 f) ∙ is in cc)
    by own n is false f = lacks.told own n (other_id own f) is
  at (Some m) e = record {
    told = λ own n other is. so n ∙ by own n is (bytes_eq id own) refl;
    only = λ n there. there_so n (sym (so n) ∙ there) (n == m) refl;
  } where
    so : (n : ℕ) → is_among n new ≡ ((n == m) || is_among n hs)
    so n =
        let its : session_at m cs ≡ Some id = head_session id m cs ss s e in
        subst (λ (z : Option ℕ). IsTold z cs hs new) (head ∙ e) told n
        ∙ ap (λ t. (n == m && (t && is_of_session m cs)) || is_among n hs) (usual_found m cs id b its)
        ∙ ap (λ t. (n == m && t) || is_among n hs) (of_session m cs id its)
        ∙ ap (λ t. t || is_among n hs) (all (n == m)) where
          all : (t : Bool) → (t && true) ≡ t
          all true = refl
          all false = refl

    by : (own : List ℕ) (n : ℕ) → head_of own cs ss ≡ Some n → (t : Bool) → bytes_eq id own ≡ t → ((n == m) || is_among n hs) ≡ true
    by own n is true f =
        let it : Some m ≡ Some n = sym e ∙ ap (λ z. head_of z cs ss) ((bytes_eq-Decides id own).0 f) ∙ is in
        let same : n ≡ m = cc in
        ap (λ t. t || is_among n hs) (eq-eqb n m same)
    by own n is false f = later_true (n == m) (is_among n hs) (lacks.told own n (other_id own f) is)

    there_so : (n : ℕ) → ((n == m) || is_among n hs) ≡ true → (t : Bool) → (n == m) ≡ t → (own : List ℕ) × (head_of own cs ss ≡ Some n)
    there_so n there true f = (id, e ∙ ap (λ z. Some z) (sym (same_number n m f)))
    there_so n there false f = lacks.only n (either (n == m) (is_among n hs) there f)

-- ---- a message enters

pub lacks_entered : (c : StoredCopy) (hs new : List ℕ) (cs after : List StoredCopy) (ss : List Session) → LacksHead None hs cs ss → new ≡ hs → after ≡ cs ++ c ∷ [] → LacksHead (session_of c) new after ss
lacks_entered c hs new cs after ss holds same is = record {
  told = λ own n other head. subst (λ (l : List ℕ). is_among n l ≡ true) (sym same) (holds.told own n (λ e. absurd cc) (sym (before own other) ∙ head));
  only = λ n there. let it = holds.only n (subst (λ (l : List ℕ). is_among n l ≡ true) same there) in (it.0, still n it.0 it.1);
} where
  before : (own : List ℕ) → (session_of c ≡ Some own → ⊥) → head_of own after ss ≡ head_of own cs ss
  before own other = head_stays own cs after ss (ap (λ (l : List StoredCopy). first_of own l) is ∙ ap (λ (o : Option StoredCopy). option_map (λ x. x.number) o) (other_last (is_ready_of own) c cs (not_ready own c (text_not own c other))))

  still : (n : ℕ) (own : List ℕ) → head_of own cs ss ≡ Some n → head_of own after ss ≡ Some n
  still n own head =
      let it = number_of (find (is_ready_of own) cs) n (head_first own n cs ss head) in
      let there : first_of own after ≡ first_of own cs = ap (λ (l : List StoredCopy). first_of own l) is ∙ ap (λ (o : Option StoredCopy). option_map (λ x. x.number) o) (still_first (is_ready_of own) it.0 c cs it.1 ∙ sym it.1) in
      head_stays own cs after ss there ∙ head

lower : (a b : ℕ) → nat_lt a b ≡ true → (a == b) ≡ false
lower a b e = grind (arith, nat_tests)

pub session_entered : (c : StoredCopy) (cs after : List StoredCopy) → AreBelow c.number cs → after ≡ cs ++ c ∷ [] → session_at c.number after ≡ session_of c
session_entered c cs after b is = ap (λ (l : List StoredCopy). session_at c.number l) is ∙ ap (λ (o : Option StoredCopy). option_and_then session_of o) (last_found cs b) where
  last_found : (xs : List StoredCopy) → AreBelow c.number xs → find (has_number c.number) (xs ++ c ∷ []) ≡ Some c
  last_found [] low = rw (eq-eqb c.number c.number refl) refl
  last_found (x ∷ xs) low = let it = both (nat_lt x.number c.number) (list_all (is_before c.number) xs) low in rw (lower x.number c.number it.0) (last_found xs it.1)

-- ---- all heads stay

pub heads_stay : (hs new : List ℕ) (cs after : List StoredCopy) (ss later : List Session) → HoldsHeads hs cs ss → new ≡ hs → ((id : List ℕ) → head_of id after later ≡ head_of id cs ss) → ((n : ℕ) → session_at n after ≡ session_at n cs) → HoldsHeads new after later
heads_stay hs new cs after ss later holds same stays of = record {
  told = λ own n head. subst (λ (l : List ℕ). is_among n l ≡ true) (sym same) (holds.told own n (sym (stays own) ∙ head));
  only = λ n there.
      ap (λ (o : Option (List ℕ)). option_and_then (λ id. head_of id after later) o) (of n)
      ∙ by (session_at n cs)
      ∙ holds.only n (subst (λ (l : List ℕ). is_among n l ≡ true) same there);
} where
  by : (o : Option (List ℕ)) → option_and_then (λ id. head_of id after later) o ≡ option_and_then (λ id. head_of id cs ss) o
  by None = refl
  by (Some id) = stays id

-- a change that leaves what may be received, and which session it is of
pub first_kept : (n : ℕ) (f : StoredCopy → StoredCopy) (id : List ℕ) (cs : List StoredCopy) → ((c : StoredCopy) → is_ready_of id (f c) ≡ is_ready_of id c) → ((c : StoredCopy) → (f c).number ≡ c.number) → first_of id (changed (has_number n) (λ c. f c ∷ []) cs) ≡ first_of id cs
first_kept n f id cs ready same = seen_changed (λ c. c.number) (has_number n) (is_ready_of id) f ready same cs

-- ---- as the store says it

pub lacking : (hs : List ℕ) (cs : List StoredCopy) (ss : List Session) → HoldsHeads hs cs ss → LacksHead None hs cs ss
lacking hs cs ss holds = record {
  told = λ own n other head. holds.told own n head;
  only = λ n there. by n (session_at n cs) (holds.only n there);
} where
  by : (n : ℕ) (o : Option (List ℕ)) → option_and_then (λ id. head_of id cs ss) o ≡ Some n → (own : List ℕ) × (head_of own cs ss ≡ Some n)
  by n None e = absurd (let bad : None ≡ Some n = e in cc)
  by n (Some own) e = (own, e)

pub holding : (hs : List ℕ) (cs : List StoredCopy) (ss : List Session) → AreInOrder cs → LacksHead None hs cs ss → HoldsHeads hs cs ss
holding hs cs ss s lacks = record {
  told = λ own n head. lacks.told own n (λ e. absurd cc) head;
  only = λ n there. let it = lacks.only n there in ap (λ (o : Option (List ℕ)). option_and_then (λ id. head_of id cs ss) o) (head_session it.0 n cs ss s it.1) ∙ it.1;
}

-- ---- whole changes of copies

more : (a m n : ℕ) → nat_lt a m ≡ true → m ≤ n → nat_lt a n ≡ true
more a m n e le = grind (arith, nat_tests)

pub below_more : (m n : ℕ) (cs : List StoredCopy) → m ≤ n → AreBelow m cs → AreBelow n cs
below_more m n [] le b = refl
below_more m n (c ∷ cs) le b = let it = both (nat_lt c.number m) (list_all (is_before m) cs) b in rw (more c.number m n it.0 le) (below_more m n cs le it.1)

pub holds_entered : (c : StoredCopy) (k : Option ℕ) (hs mid new : List ℕ) (cs after last : List StoredCopy) (ss : List Session) → AreInOrder after → AreBelow c.number cs → c.number < never → HoldsHeads hs cs ss → mid ≡ hs → after ≡ cs ++ c ∷ [] → k ≡ option_and_then (λ id. head_of id after ss) (session_at c.number after) → IsTold k after mid new → last ≡ after → HoldsHeads new last ss
holds_entered c k hs mid new cs after last ss s b lt holds same is head told end =
    subst (λ (l : List StoredCopy). HoldsHeads new l ss) (sym end) (holding new after ss s (holds_told (session_of c) k mid new after ss s
    (below_put never c cs after (below_more c.number never cs (omega (arith, lt)) b) lt is)
    (lacks_entered c hs mid cs after ss (lacking hs cs ss holds) same is)
    (head ∙ ap (λ (o : Option (List ℕ)). option_and_then (λ id. head_of id after ss) o) (session_entered c cs after b is))
    told))

pub holds_ended : (n : ℕ) (ended : Option StoredCopy) (first k : Option ℕ) (hs left mid new : List ℕ) (cs kept after last : List StoredCopy) (ss : List Session) → AreInOrder cs → AreInOrder after → AreBelow never cs → HoldsHeads hs cs ss → first ≡ option_and_then (λ id. first_of id cs) (session_at n cs) → left ≡ left_of first hs → kept ≡ cs → ended ≡ find (has_number n) kept → mid ≡ except n left → after ≡ changed (has_number n) (λ c. []) kept → k ≡ option_and_then (λ id. head_of id after ss) (option_and_then session_of ended) → IsTold k after mid new → last ≡ after → HoldsHeads new last ss
holds_ended n ended first k hs left mid new cs kept after last ss s t b holds first_is left_is kept_is ended_is mid_is after_is head told end =
    let gone : after ≡ changed (has_number n) (λ c. []) cs = after_is ∙ ap (λ (l : List StoredCopy). changed (has_number n) (λ c. []) l) kept_is in
    let was : option_and_then session_of ended ≡ session_at n cs = ap (λ (o : Option StoredCopy). option_and_then session_of o) ended_is ∙ ap (λ (l : List StoredCopy). session_at n l) kept_is in
    subst (λ (l : List StoredCopy). HoldsHeads new l ss) (sym end) (holding new after ss t (holds_told (session_at n cs) k mid new after ss t
    (below_taken never n cs after b gone)
    (lacks_changed n (λ c. []) left mid cs after ss gone_out s (others_left (session_at n cs) first hs left cs ss s (lacking hs cs ss holds) first_is left_is) mid_is gone)
    (head ∙ ap (λ (o : Option (List ℕ)). option_and_then (λ id. head_of id after ss) o) was)
    told))

pub holds_changed : (n : ℕ) (f : StoredCopy → StoredCopy) (first k : Option ℕ) (hs left mid new : List ℕ) (cs kept after last : List StoredCopy) (ss : List Session) → ((c : StoredCopy) → (f c).number ≡ c.number) → ((c : StoredCopy) → (f c).message ≡ c.message) → AreInOrder cs → AreInOrder after → AreBelow never cs → HoldsHeads hs cs ss → first ≡ option_and_then (λ id. first_of id cs) (session_at n cs) → left ≡ left_of first hs → kept ≡ cs → mid ≡ except n left → after ≡ changed (has_number n) (λ c. f c ∷ []) kept → k ≡ option_and_then (λ id. head_of id after ss) (session_at n after) → IsTold k after mid new → last ≡ after → HoldsHeads new last ss
holds_changed n f first k hs left mid new cs kept after last ss same_n same s t b holds first_is left_is kept_is mid_is after_is head told end =
    let stands : after ≡ changed (has_number n) (λ c. f c ∷ []) cs = after_is ∙ ap (λ (l : List StoredCopy). changed (has_number n) (λ c. f c ∷ []) l) kept_is in
    subst (λ (l : List StoredCopy). HoldsHeads new l ss) (sym end) (holding new after ss t (holds_told (session_at n cs) k mid new after ss t
    (below_changed n f never same_n cs after b stands)
    (lacks_changed n (λ c. f c ∷ []) left mid cs after ss (stays_out f same) s (others_left (session_at n cs) first hs left cs ss s (lacking hs cs ss holds) first_is left_is) mid_is stands)
    (head ∙ ap (λ (o : Option (List ℕ)). option_and_then (λ id. head_of id after ss) o) (session_stays n n f cs after same_n same stands))
    told))

pub holds_renewed : (n until : ℕ) (hs new : List ℕ) (cs after : List StoredCopy) (ss : List Session) → HoldsHeads hs cs ss → new ≡ hs → after ≡ changed (has_number n) (λ c. record c { standing = prolonged_standing until c.standing } ∷ []) cs → HoldsHeads new after ss
holds_renewed n until hs new cs after ss holds same is =
    heads_stay hs new cs after ss ss holds same (λ id. head_stays id cs after ss (ap (λ (l : List StoredCopy). first_of id l) is
    ∙ first_kept n (λ c. record c { standing = prolonged_standing until c.standing }) id cs (λ c. ap (λ b. b && has_text_of SessionId id c.message) (still_marked until c.standing)) (λ c. refl)))
    (λ m. session_stays n m (λ c. record c { standing = prolonged_standing until c.standing }) cs after (λ c. refl) (λ c. refl) is)

-- ---- none yet, and the same again

pub holds_none : (hs : List ℕ) (cs : List StoredCopy) (ss : List Session) → hs ≡ [] → cs ≡ [] → HoldsHeads hs cs ss
holds_none hs cs ss no_heads no_copies = record {
  told = λ own n head. absurd (nowhere own n (subst (λ (l : List StoredCopy). head_of own l ss ≡ Some n) no_copies head));
  only = λ n there. absurd (let bad : false ≡ true = subst (λ (l : List ℕ). is_among n l ≡ true) no_heads there in cc);
} where
  nowhere : (own : List ℕ) (n : ℕ) → head_of own [] ss ≡ Some n → ⊥
  nowhere own n head = let bad : None ≡ Some n = head_first own n [] ss head in absurd cc

pub holds_still : (hs new : List ℕ) (cs after : List StoredCopy) (ss later : List Session) → HoldsHeads hs cs ss → new ≡ hs → after ≡ cs → later ≡ ss → HoldsHeads new after later
holds_still hs new cs after ss later holds same copies sessions = heads_stay hs new cs after ss later holds same (λ id. ap (λ (l : List StoredCopy). head_of id l later) copies ∙ ap (λ (l : List Session). head_of id cs l) sessions) (λ n. ap (λ (l : List StoredCopy). session_at n l) copies)
