-- Parts and entities in which sessions' states were written: their messages and holders are as before, and the sessions of those locks
-- that are left for writing are the same.
use Rattle.std.proofs.Common.{Bool, List, None, Option, Some, [], ap, arith, false, length, refl, sym, true, ℕ, ◌&&◌, ◌==◌, ◌||◌, ◌∙◌, ◌∷◌, ◌≡◌}
use Rattle.std.proofs.lemmas.Bool.Decides.{nat_tests}
use Rattle.std.specs.List.{list_any}
use Rattle.std.specs.Prelude.{find, if◌then◌else◌, is_some, nat_lt}
use Rattle.sb_laws.proofs.Eachs.{is_equal}
use Rattle.sb_laws.proofs.GatheringLists.{any_unmoved, find_alike}
use Rattle.sb_laws.proofs.Lists.{found_other}
use Rattle.sb_machine.specs.Keyed.{changed}
use Rattle.sb_machine.specs.Leases.{held_session, is_living, is_living_holder, is_named, leased}
use Rattle.sb_machine.specs.Leaves.{is_held_under, remembered}
use Rattle.sb_machine.specs.Namespace.{leaf_of, live_in, with_leaf}
use Rattle.sb_machine.specs.declared.call.Part.{Part}
use Rattle.sb_machine.specs.declared.call.Part.TheVariants.{Dead, Main, Transfer}
use Rattle.sb_machine.specs.declared.call.Token.{Token}
use Rattle.sb_machine.specs.declared.call.Which.{Which}
use Rattle.sb_machine.specs.declared.state.Entity.{Entity}
use Rattle.sb_machine.specs.declared.state.Hold.TheVariants.{Until, Session as UnderSession}
use Rattle.sb_machine.specs.declared.state.Holder.{Holder}
use Rattle.sb_machine.specs.declared.state.Leaf.{Leaf}
use Rattle.sb_machine.specs.declared.state.Session.{Session}
use Rattle.sb_machine.specs.declared.state.Space.{Space}
use Rattle.sb_machine.specs.declared.state.Standing.{Standing}
use Rattle.sb_machine.specs.declared.state.Standing.TheVariants.{Ready, Deferred, Held, Scheduled}
use Rattle.sb_machine.specs.declared.state.StoredCopy.{StoredCopy}

-- a part as it was, and as it is written in
pub record IsLeafWritten (t : ℕ) (left : ℕ → Bool) (a b : Leaf) : Type 0 where
  pub copies : b.copies ≡ a.copies
  pub holders : (lock : ℕ) → list_any (is_living_holder t lock) b.sessions ≡ list_any (is_living_holder t lock) a.sessions
  pub held : (lock : ℕ) → left lock ≡ true → find (is_living_holder t lock) b.sessions ≡ find (is_living_holder t lock) a.sessions

-- an entity so
pub record IsWritten (t : ℕ) (left : ℕ → Bool) (a b : Entity) : Type 0 where
  pub about : b.about ≡ a.about
  pub main : IsLeafWritten t left a.main b.main
  pub dead : IsLeafWritten t left a.dead b.dead
  pub transfer : IsLeafWritten t left a.transfer b.transfer

-- each that is left here is left there
abbrev pub Fewer : (ℕ → Bool) → (ℕ → Bool) → Type 0
Fewer left fewer = (lock : ℕ) → fewer lock ≡ true → left lock ≡ true

-- ---- nothing is written

unwritten_leaf : (t : ℕ) (left : ℕ → Bool) (a : Leaf) → IsLeafWritten t left a a
unwritten_leaf t left a = record { copies = refl; holders = λ lock. refl; held = λ lock is. refl }

pub unwritten : (t : ℕ) (left : ℕ → Bool) (e : Entity) → IsWritten t left e e
unwritten t left e = record { about = refl; main = unwritten_leaf t left e.main; dead = unwritten_leaf t left e.dead; transfer = unwritten_leaf t left e.transfer }

-- ---- a session's state is written

-- a session with another state
abbrev with_state : Option (List ℕ) → Session → Session
with_state state x = record x { state = state }

held_stays : (lock : ℕ) (state : Option (List ℕ)) (x : Session) → is_held_under lock x ≡ true → remembered (with_state state x) ≡ with_state state x ∷ []
held_stays lock state x is = at x.holder refl where
  at : (o : Option Holder) → x.holder ≡ o → remembered (with_state state x) ≡ with_state state x ∷ []
  at None none = let bad : false ≡ true = rw none at is in absurd cc
  at (Some h) some = rw some refl

written_any : (t lock l : ℕ) (state : Option (List ℕ)) (x : Session) → is_held_under lock x ≡ true → list_any (is_living_holder t l) (remembered (with_state state x)) ≡ is_living_holder t l x
written_any t lock l state x is = ap (λ (xs : List Session). list_any (is_living_holder t l) xs) (held_stays lock state x is) ∙ last (is_living_holder t l x) where
  last : (b : Bool) → (b || false) ≡ b
  last true = refl
  last false = refl

two_locks : (a l lock : ℕ) (b : Bool) → (a == lock) ≡ true → (l == lock) ≡ false → ((a == l) && b) ≡ false
two_locks a l lock b is off = at (a == l) refl where
  at : (c : Bool) → (a == l) ≡ c → (c && b) ≡ false
  at true same = absurd (grind (arith, nat_tests))
  at false differs = refl

-- a session that another lock holds is no session of this one
other_lock : (t lock l : ℕ) (x : Session) → (l == lock) ≡ false → is_held_under lock x ≡ true → is_living_holder t l x ≡ false
other_lock t lock l x off is = at x.holder refl where
  at : (o : Option Holder) → x.holder ≡ o → is_living_holder t l x ≡ false
  at None none = rw none refl
  at (Some h) some = let same : (h.lock == lock) ≡ true = rw some at is in rw some (two_locks h.lock l lock (nat_lt t h.until) same off)

written_other : (t lock l : ℕ) (state : Option (List ℕ)) (x : Session) → (l == lock) ≡ false → is_held_under lock x ≡ true → find (is_living_holder t l) (remembered (with_state state x)) ≡ None
written_other t lock l state x off is =
    ap (λ (xs : List Session). find (is_living_holder t l) xs) (held_stays lock state x is)
    ∙ ap (λ (b : Bool). if b then Some (with_state state x) else None) (other_lock t lock l (with_state state x) off is)

-- a lock that is left is another than one that isn't
left_other : (fewer : ℕ → Bool) (lock l : ℕ) → fewer lock ≡ false → fewer l ≡ true → (l == lock) ≡ false
left_other fewer lock l gone is = at (l == lock) refl where
  at : (b : Bool) → (l == lock) ≡ b → (l == lock) ≡ false
  at false off = off
  at true same = let bad : true ≡ false = sym is ∙ ap fewer (is_equal l lock same) ∙ gone in absurd cc

-- a part that is written in once more
abbrev pub leaf_with : ℕ → Option (List ℕ) → Leaf → Leaf
leaf_with lock state leaf = record leaf { sessions = changed (is_held_under lock) (λ x. remembered (record x { state = state })) leaf.sessions }

leaf_written : (t : ℕ) (left fewer : ℕ → Bool) (lock : ℕ) (state : Option (List ℕ)) (a b : Leaf) → Fewer left fewer → fewer lock ≡ false → IsLeafWritten t left a b → IsLeafWritten t fewer a (leaf_with lock state b)
leaf_written t left fewer lock state a b still gone h = record {
  copies = h.copies;
  holders = λ l. any_unmoved (is_living_holder t l) (is_held_under lock) (λ x. remembered (with_state state x)) (λ x is. written_any t lock l state x is) b.sessions ∙ h.holders l;
  held = λ l is.
      found_other (is_held_under lock) (is_living_holder t l) (λ x. remembered (with_state state x)) b.sessions (λ x under. other_lock t lock l x (left_other fewer lock l gone is) under) (λ x under. written_other t lock l state x (left_other fewer lock l gone is) under)
      ∙ h.held l (still l is);
}

leaf_fewer : (t : ℕ) (left fewer : ℕ → Bool) (a b : Leaf) → Fewer left fewer → IsLeafWritten t left a b → IsLeafWritten t fewer a b
leaf_fewer t left fewer a b still h = record { copies = h.copies; holders = h.holders; held = λ lock is. h.held lock (still lock is) }

pub written_fewer : (t : ℕ) (left fewer : ℕ → Bool) (a b : Entity) → Fewer left fewer → IsWritten t left a b → IsWritten t fewer a b
written_fewer t left fewer a b still h = record {
  about = h.about;
  main = leaf_fewer t left fewer a.main b.main still h.main;
  dead = leaf_fewer t left fewer a.dead b.dead still h.dead;
  transfer = leaf_fewer t left fewer a.transfer b.transfer still h.transfer;
}

pub written_with : (t : ℕ) (left fewer : ℕ → Bool) (lock : ℕ) (state : Option (List ℕ)) (part : Part) (a b : Entity) → Fewer left fewer → fewer lock ≡ false → IsWritten t left a b → IsWritten t fewer a (with_leaf part (leaf_with lock state (leaf_of part b)) b)
written_with t left fewer lock state Main a b still gone h = record {
  about = h.about;
  main = leaf_written t left fewer lock state a.main b.main still gone h.main;
  dead = leaf_fewer t left fewer a.dead b.dead still h.dead;
  transfer = leaf_fewer t left fewer a.transfer b.transfer still h.transfer;
}
written_with t left fewer lock state Dead a b still gone h = record {
  about = h.about;
  main = leaf_fewer t left fewer a.main b.main still h.main;
  dead = leaf_written t left fewer lock state a.dead b.dead still gone h.dead;
  transfer = leaf_fewer t left fewer a.transfer b.transfer still h.transfer;
}
written_with t left fewer lock state Transfer a b still gone h = record {
  about = h.about;
  main = leaf_fewer t left fewer a.main b.main still h.main;
  dead = leaf_fewer t left fewer a.dead b.dead still h.dead;
  transfer = leaf_written t left fewer lock state a.transfer b.transfer still gone h.transfer;
}

-- ---- what is read off both alike

pub part_written : (t : ℕ) (left : ℕ → Bool) (part : Part) (a b : Entity) → IsWritten t left a b → IsLeafWritten t left (leaf_of part a) (leaf_of part b)
part_written t left Main a b h = h.main
part_written t left Dead a b h = h.dead
part_written t left Transfer a b h = h.transfer

pub live_written : (t : ℕ) (left : ℕ → Bool) (a b : Entity) → IsWritten t left a b → live_in b ≡ live_in a
live_written t left a b h =
    let main : length b.main.copies ≡ length a.main.copies = rw h.main.copies refl in
    let dead : length b.dead.copies ≡ length a.dead.copies = rw h.dead.copies refl in
    let transfer : length b.transfer.copies ≡ length a.transfer.copies = rw h.transfer.copies refl in
    omega (arith, main, dead, transfer)

living_written : (t : ℕ) (left : ℕ → Bool) (a b : Leaf) (l : ℕ) (standing : Standing) → IsLeafWritten t left a b → is_living t b.sessions l standing ≡ is_living t a.sessions l standing
living_written t left a b l Ready h = refl
living_written t left a b l Deferred h = refl
living_written t left a b l (Held lock (Until u) deferred) h = refl
living_written t left a b l (Held lock (UnderSession holder) deferred) h = ap (λ (c : Bool). (lock == l) && c) (h.holders holder)
living_written t left a b l (Scheduled at) h = refl

pub leased_written : (t : ℕ) (left : ℕ → Bool) (s w : Space) (token : Token) (which : Which) (a b : Leaf) → w.salt ≡ s.salt → IsLeafWritten t left a b → leased w t token which b ≡ leased s t token which a
leased_written t left s w token which a b salt h =
    ap (λ (n : ℕ). if token.salt == n then find (λ c. is_living t b.sessions token.lock c.standing && is_named which c) b.copies else None) salt
    ∙ ap (λ (o : Option StoredCopy). if token.salt == s.salt then o else None)
    (ap (λ (cs : List StoredCopy). find (λ c. is_living t b.sessions token.lock c.standing && is_named which c) cs) h.copies
    ∙ find_alike (λ c. is_living t b.sessions token.lock c.standing && is_named which c) (λ c. is_living t a.sessions token.lock c.standing && is_named which c)
    (λ c. ap (λ (x : Bool). x && is_named which c) (living_written t left a b token.lock c.standing h)) a.copies)

-- whether something was found is whether anything passes
some_any : {X : Type 0} (p : X → Bool) (xs : List X) → is_some (find p xs) ≡ list_any p xs
some_any p [] = refl
some_any p (x ∷ xs) = at (p x) refl (some_any p xs) where
  at : (b : Bool) → p x ≡ b → is_some (find p xs) ≡ list_any p xs → is_some (find p (x ∷ xs)) ≡ list_any p (x ∷ xs)
  at true is ih = rw is refl
  at false is ih = rw is ih

-- a token is a living holder here and there
pub holds_written : (t : ℕ) (left : ℕ → Bool) (s w : Space) (token : Token) (a b : Leaf) → w.salt ≡ s.salt → IsLeafWritten t left a b → is_some (held_session w t token b) ≡ is_some (held_session s t token a)
holds_written t left s w token a b salt h = ap (λ (n : ℕ). is_some (if token.salt == n then find (is_living_holder t token.lock) b.sessions else None)) salt ∙ at (token.salt == s.salt) where
  at : (c : Bool) → is_some (if c then find (is_living_holder t token.lock) b.sessions else None) ≡ is_some (if c then find (is_living_holder t token.lock) a.sessions else None)
  at true = some_any (is_living_holder t token.lock) b.sessions ∙ h.holders token.lock ∙ sym (some_any (is_living_holder t token.lock) a.sessions)
  at false = refl

-- and of a lock that is left the session is the same
pub held_written : (t : ℕ) (left : ℕ → Bool) (s w : Space) (token : Token) (a b : Leaf) → w.salt ≡ s.salt → left token.lock ≡ true → IsLeafWritten t left a b → held_session w t token b ≡ held_session s t token a
held_written t left s w token a b salt is h =
    ap (λ (n : ℕ). if token.salt == n then find (is_living_holder t token.lock) b.sessions else None) salt ∙ ap (λ (o : Option Session). if token.salt == s.salt then o else None) (h.held token.lock is)
