-- The next session is that of the least head.
use Rattle.std.proofs.Common.{◌≡◌, ℕ, ◌<◌, ◌≤◌, List, [], ◌∷◌, find, nat_lt, ◌&&◌, bytes_eq, if◌then◌else◌, Bool, true, false, Option, Some, None, cond, refl, sym, ap, ◌∙◌, subst, arith}
use Rattle.std.specs.Prelude.{is_none}
use Rattle.std.specs.Option.{option_map, option_map_or}
use Rattle.std.proofs.lemmas.Slice.Eq.{bytes_eq-Decides}
use Rattle.std.proofs.lemmas.Bool.Decides.{nat_tests}
use Rattle.sb_machine.specs.Leases.{is_ready}
use Rattle.sb_machine.specs.Leaves.{has_id}
use Rattle.sb_machine.specs.Messages.{has_text_of, text_of}
use Rattle.sb_machine.specs.Sessions.{free_session, holder_in, next_session}
use Rattle.sb_machine.specs.declared.state.Holder.{Holder}
use Rattle.sb_machine.specs.declared.state.Leaf.{Leaf}
use Rattle.sb_machine.specs.declared.state.Session.{Session}
use Rattle.sb_machine.specs.declared.state.StoredCopy.{StoredCopy}
use Rattle.sb_model.specs.declared.message.SystemName.TheVariants.{SessionId}
use Rattle.sb_copies.specs.Heads.{is_among, IsLeast}
use Rattle.sb_copies.specs.Shelf.{AreInOrder}
use Rattle.sb_copies.proofs.Mirror.{above_found}
use Rattle.sb_entities.specs.Heads.{first_of, head_of, HoldsHeads, is_free, is_ready_of, session_at}
use Rattle.sb_entities.proofs.Leading.{head_session, lacking}

free_holder : (id : List ℕ) (leaf : Leaf) → is_free id leaf.sessions ≡ is_none (holder_in id leaf)
free_holder id leaf = at (find (has_id id) leaf.sessions) where
  at : (o : Option Session) → option_map_or (λ x. is_none x.holder) o true ≡ is_none (elim o [ Some x ↦ x.holder | None ↦ None ])
  at None = refl
  at (Some x) = refl

-- the session of a message that may be received, by whether nobody holds it
abbrev free_text : Leaf → Option (List ℕ) → Option (List ℕ)
free_text leaf None = None
free_text leaf (Some id) = if is_free id leaf.sessions then Some id else None

free_so : (leaf : Leaf) (c : StoredCopy) → free_session leaf c ≡ (if is_ready c.standing then free_text leaf (text_of SessionId c.message) else None)
free_so leaf c = ap (λ (o : Option (List ℕ)). if is_ready c.standing then o else None) (at (text_of SessionId c.message)) where
  held : (id : List ℕ) (o : Option Holder) → (elim o [ Some h ↦ None | None ↦ Some id ]) ≡ (if is_none o then Some id else None)
  held id (Some h) = refl
  held id None = refl

  at : (o : Option (List ℕ)) → (elim o [ Some id ↦ elim (holder_in id leaf) [ Some h ↦ None | None ↦ Some id ] | None ↦ None ]) ≡ free_text leaf o
  at None = refl
  at (Some id) = held id (holder_in id leaf) ∙ ap (λ b. if b then Some id else None) (sym (free_holder id leaf))

-- ---- what a message is to a session

-- it may be received, is of this session, and nobody holds that
abbrev Leads : Leaf → List ℕ → StoredCopy → Type 0
Leads leaf id c = (is_ready_of id c ≡ true) × (is_free id leaf.sessions ≡ true)

both : (a b : Bool) → (a && b) ≡ true → (a ≡ true) × (b ≡ true)
both true b e = (refl, e)
both false b e = absurd (let bad : false ≡ true = e in cc)

leads_free : (leaf : Leaf) (id : List ℕ) (c : StoredCopy) → Leads leaf id c → free_session leaf c ≡ Some id
leads_free leaf id c leads =
    let it = both (is_ready c.standing) (has_text_of SessionId id c.message) leads.0 in
    free_so leaf c ∙ ap (λ b. if b then free_text leaf (text_of SessionId c.message) else None) it.0 ∙ at (text_of SessionId c.message) it.1 where
      at : (o : Option (List ℕ)) → (elim o [ Some own ↦ bytes_eq own id | None ↦ false ]) ≡ true → free_text leaf o ≡ Some id
      at None e = absurd (let bad : false ≡ true = e in cc)
      at (Some own) e =
          let same : own ≡ id = (bytes_eq-Decides own id).0 e in
          ap (λ z. free_text leaf (Some z)) same ∙ ap (λ b. if b then Some id else None) leads.1

free_leads : (leaf : Leaf) (id : List ℕ) (c : StoredCopy) → free_session leaf c ≡ Some id → Leads leaf id c
free_leads leaf id c e = by (is_ready c.standing) (text_of SessionId c.message) refl refl (sym (free_so leaf c) ∙ e) where
  inner : (own : List ℕ) (b : Bool) → is_free own leaf.sessions ≡ b → (if b then Some own else None) ≡ Some id → (bytes_eq own id ≡ true) × (is_free id leaf.sessions ≡ true)
  inner own true f g = let same : own ≡ id = cc in ((bytes_eq-Decides own id).1 same, subst (λ z. is_free z leaf.sessions ≡ true) same f)
  inner own false f g = absurd (let bad : None ≡ Some id = g in cc)

  by : (b : Bool) (o : Option (List ℕ)) → is_ready c.standing ≡ b → text_of SessionId c.message ≡ o → (if b then free_text leaf o else None) ≡ Some id → Leads leaf id c
  by true None f g h = absurd (let bad : None ≡ Some id = h in cc)
  by true (Some own) f g h = let it = inner own (is_free own leaf.sessions) refl h in (rw (f, has_text_of, g) it.0, it.1)
  by false o f g h = absurd (let bad : None ≡ Some id = h in cc)

-- ---- the first of those that lead

next_is : (leaf : Leaf) (id : List ℕ) (c : StoredCopy) (cs : List StoredCopy) → AreInOrder cs → find (is_ready_of id) cs ≡ Some c → is_free id leaf.sessions ≡ true → ((own : List ℕ) (d : StoredCopy) → find (is_ready_of own) cs ≡ Some d → is_free own leaf.sessions ≡ true → c.number ≤ d.number) → next_session leaf cs ≡ Some id
next_is leaf id c [] s found free least = absurd cc
next_is leaf id c (y ∷ ys) s found free least = at (free_session leaf y) refl (next_is leaf id c ys s.1) where
  at : (o : Option (List ℕ)) → free_session leaf y ≡ o → (find (is_ready_of id) ys ≡ Some c → is_free id leaf.sessions ≡ true → ((own : List ℕ) (d : StoredCopy) → find (is_ready_of own) ys ≡ Some d → is_free own leaf.sessions ≡ true → c.number ≤ d.number) → next_session leaf ys ≡ Some id) → next_session leaf (y ∷ ys) ≡ Some id
  at (Some own) e ih = ap (λ (o : Option (List ℕ)). elim o [ Some z ↦ Some z | None ↦ next_session leaf ys ]) e ∙ by (is_ready_of id y) refl where
    leads : Leads leaf own y
    leads = free_leads leaf own y e

    low : c.number ≤ y.number
    low = least own y (rw (leads.0) refl) leads.1

    by : (b : Bool) → is_ready_of id y ≡ b → Some own ≡ Some id
    by true f = sym e ∙ leads_free leaf id y (f, free)
    by false f =
        let rest : find (is_ready_of id) ys ≡ Some c = rw f at found in
        let above : y.number < c.number = above_found y.number (is_ready_of id) c ys s.0 rest in
        absurd (omega (arith, low, above))
  at None e ih = ap (λ (o : Option (List ℕ)). elim o [ Some z ↦ Some z | None ↦ next_session leaf ys ]) e ∙ ih (sym (skips id free) ∙ found) free (λ own d there is. least own d (skips own is ∙ there) is) where
    fails : (own : List ℕ) → is_free own leaf.sessions ≡ true → (b : Bool) → is_ready_of own y ≡ b → is_ready_of own y ≡ false
    fails own is true f = absurd (let bad : None ≡ Some own = sym e ∙ leads_free leaf own y (f, is) in cc)
    fails own is false f = f

    skips : (own : List ℕ) → is_free own leaf.sessions ≡ true → find (is_ready_of own) (y ∷ ys) ≡ find (is_ready_of own) ys
    skips own is = ap (λ b. cond b (Some y) (find (is_ready_of own) ys)) (fails own is (is_ready_of own y) refl)

none_next : (leaf : Leaf) (cs : List StoredCopy) → ((own : List ℕ) (d : StoredCopy) → find (is_ready_of own) cs ≡ Some d → is_free own leaf.sessions ≡ true → ⊥) → next_session leaf cs ≡ None
none_next leaf [] none = refl
none_next leaf (y ∷ ys) none = at (free_session leaf y) refl (none_next leaf ys) where
  at : (o : Option (List ℕ)) → free_session leaf y ≡ o → (((own : List ℕ) (d : StoredCopy) → find (is_ready_of own) ys ≡ Some d → is_free own leaf.sessions ≡ true → ⊥) → next_session leaf ys ≡ None) → next_session leaf (y ∷ ys) ≡ None
  at (Some own) e ih = let leads = free_leads leaf own y e in absurd (none own y (rw (leads.0) refl) leads.1)
  at None e ih = ap (λ (o : Option (List ℕ)). elim o [ Some z ↦ Some z | None ↦ next_session leaf ys ]) e ∙ ih (λ own d there is. none own d (skips own is ∙ there) is) where
    fails : (own : List ℕ) → is_free own leaf.sessions ≡ true → (b : Bool) → is_ready_of own y ≡ b → is_ready_of own y ≡ false
    fails own is true f = absurd (let bad : None ≡ Some own = sym e ∙ leads_free leaf own y (f, is) in cc)
    fails own is false f = f

    skips : (own : List ℕ) → is_free own leaf.sessions ≡ true → find (is_ready_of own) (y ∷ ys) ≡ find (is_ready_of own) ys
    skips own is = ap (λ b. cond b (Some y) (find (is_ready_of own) ys)) (fails own is (is_ready_of own y) refl)

-- ---- by the numbers that are told

led : (own : List ℕ) (d : StoredCopy) (cs : List StoredCopy) (ss : List Session) → find (is_ready_of own) cs ≡ Some d → is_free own ss ≡ true → head_of own cs ss ≡ Some d.number
led own d cs ss found free = ap (λ b. if b then first_of own cs else None) free ∙ ap (λ (o : Option StoredCopy). option_map (λ c. c.number) o) found

not_lower : (a b : ℕ) → (a < b → ⊥) → b ≤ a
not_lower a b other = by (nat_lt a b) refl where
  lower : (a b : ℕ) → nat_lt a b ≡ true → a < b
  lower a b e = grind (arith, nat_tests)

  higher : (a b : ℕ) → nat_lt a b ≡ false → b ≤ a
  higher a b e = grind (arith, nat_tests)

  by : (t : Bool) → nat_lt a b ≡ t → b ≤ a
  by true e = absurd (other (lower a b e))
  by false e = higher a b e

leading : (o : Option StoredCopy) (b : Bool) (n : ℕ) → (if b then option_map (λ c. c.number) o else None) ≡ Some n → (c : StoredCopy) × (o ≡ Some c) × (c.number ≡ n) × (b ≡ true)
leading None true n e = absurd (let bad : None ≡ Some n = e in cc)
leading (Some c) true n e = (c, refl, (let it : Some c.number ≡ Some n = e in let same : c.number ≡ n = cc in same), refl)
leading o false n e = absurd (let bad : None ≡ Some n = e in cc)

pub next_told : (n : ℕ) (hs : List ℕ) (leaf : Leaf) → AreInOrder leaf.copies → HoldsHeads hs leaf.copies leaf.sessions → IsLeast (Some n) hs → session_at n leaf.copies ≡ next_session leaf leaf.copies
next_told n hs leaf s holds least =
    let it = (lacking hs leaf.copies leaf.sessions holds).only n least.0.0 in
    let id : List ℕ = it.0 in
    let lead = leading (find (is_ready_of id) leaf.copies) (is_free id leaf.sessions) n it.1 in
    let c : StoredCopy = lead.0 in
    head_session id n leaf.copies leaf.sessions s it.1
    ∙ sym (next_is leaf id c leaf.copies s lead.1 lead.3 (λ own d found free. not_lower d.number c.number (λ lt.
    let there : is_among d.number hs ≡ true = holds.told own d.number (led own d leaf.copies leaf.sessions found free) in
    let bad : true ≡ false = sym there ∙ least.0.1 d.number (subst (λ k. d.number < k) lead.2 lt) in
    absurd cc)))

pub next_none : (hs : List ℕ) (leaf : Leaf) → HoldsHeads hs leaf.copies leaf.sessions → IsLeast None hs → None ≡ next_session leaf leaf.copies
next_none hs leaf holds least = sym (none_next leaf leaf.copies (λ own d found free.
    let there : is_among d.number hs ≡ true = holds.told own d.number (led own d leaf.copies leaf.sessions found free) in
    let bad : true ≡ false = sym there ∙ least.1 d.number in
    absurd cc))
