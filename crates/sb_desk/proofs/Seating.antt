-- What cuts and joins views keeps the rule: a note, one more pass, a telling, a gathering; and the table's begin and end.
use Rattle.std.proofs.Common.{◌≡◌, ◌≢◌, ◌⊎◌, ℕ, zero, suc, ◌+◌, ◌^◌, ◌<◌, ◌≤◌, List, [], ◌∷◌, ◌++◌, length, set, Bool, true, false, sym, refl, ap, ◌∙◌, subst, ⊎_elim, inl, inr, arith, Option, Some, None, length-append, nat_lt, if◌then◌else◌}
use mathlib.Core.Option.{some, none, some-ne-none, some-injective}
use lib.ListN.{get_elem?}
use Rattle.std.proofs.lemmas.Bool.Decides.{nat_tests}
use Rattle.atomic_table.specs.Table.{State, Me, step, keeps, Allows, Splits, Joins, opening, Final, Seen}
use Rattle.atomic_table.proofs.Lists.{at_set}
use Rattle.sb_machine.specs.declared.history.Entry.{Entry}
use Rattle.sb_machine.specs.declared.state.State as model
use Rattle.sb_desk.specs.declared.post.Post.{Post}
use Rattle.sb_desk.specs.declared.report.Origin.{Origin}
use Rattle.sb_desk.specs.declared.view.View.{View}
use Rattle.sb_desk.specs.declared.view.Claim.{Claim}
use Rattle.sb_desk.specs.declared.view.Stage.{Stage}
use Rattle.sb_desk.specs.declared.view.Stage.TheVariants.{Note, Idle, Waits, Turn, Out, Spent}
use Rattle.sb_desk.specs.Groups.{IsFollowed}
use Rattle.sb_desk.specs.Lists.{IsFront, GoesOn, total, Each, HaveSeatsBelow}
use Rattle.sb_desk.specs.Rule.{parts, posted, asks, ticketed, tickets, out_at, outs, IsClaim, IsUnused, Sits, IsPlaced, Began, Fits, Kept, opening_view}
use Rattle.sb_desk.specs.Steps.{compared, note_of, less_one, one_more, spent_view, told, gathered}
use Rattle.sb_desk.proofs.Sums.{total_set, total_snoc, total_le}
use Rattle.sb_desk.proofs.Logs.{goes_on_longer, goes_on_fresh, comparable}
use Rattle.sb_desk.proofs.Steady.{views_stay, put, put_here, put_else, apart_by, apart_gone, loads, placed_at, began_at, same_outs}

-- ---- lists

at_end : (l : List View) (a b : View) (j : ℕ) → get_elem? (l ++ a ∷ []) j ≡ some b → (get_elem? l j ≡ some b) ⊎ ((j ≡ length l) × (a ≡ b))
at_end [] a b zero e = inr (refl, some-injective a b e)
at_end [] a b (suc j) e = absurd (some-ne-none b (sym e))
at_end (x ∷ xs) a b zero e = inl e
at_end (x ∷ xs) a b (suc j) e = ⊎_elim inl (λ t. inr (ap suc t.0, t.1)) (at_end xs a b j e)

there_before : (vs : List View) (me other : ℕ) (w both : View) → other ≢ me → get_elem? (set vs me both) other ≡ some w → get_elem? vs other ≡ some w
there_before vs me other w both apart e = ⊎_elim (λ (t : (other ≡ me) × (both ≡ w)). absurd (apart t.0)) (λ (t : (other ≢ me) × (get_elem? vs other ≡ some w)). t.1) (at_set vs me other both w e)

front_length : (a b : List Entry) → IsFront a b → length a ≤ length b
front_length a b f = omega (arith, ap length f.1, length-append a f.0)

-- without a post
followed_so : (log : List Entry) (posts : List Post) (seat : ℕ) (seen : List Entry) → IsFollowed log posts seat seen None → GoesOn log seat seen
followed_so log posts seat seen g = (g.0, g.1, g.2.1)

longer_front : (log : List Entry) (posts : List Post) (a b : List Entry) (me : ℕ) → IsFollowed log posts me a None → IsFront b log → (t : Bool) → nat_lt (length a) (length b) ≡ t → IsFollowed log posts me (if t then b else a) None
longer_front log posts a b me g f false is = g
longer_front log posts a b me g f true is =
    ⊎_elim
    (λ (h : IsFront a b). let n = goes_on_longer log me a b (followed_so log posts me a g) h f in (n.0, n.1, (g.2.0, n.2)))
    (λ (h : IsFront b a). let le = front_length b a h in let lt : length a < length b = grind (arith, nat_tests) in absurd (omega (arith, le, lt)))
    (comparable a b g.0 f.0 (sym g.1 ∙ f.1))

-- ---- the number k goes to another seat, or to none

claims_marked : (log : List Entry) (posts : List Post) (seats : ℕ → Option ℕ) (k : ℕ) (x : Option ℕ) → ((l : ℕ) → seats l ≡ None → put seats k x l ≡ None) → (cs : List Claim) → Each (IsClaim log posts seats) cs → Each (IsClaim log posts (put seats k x)) cs
claims_marked log posts seats k x stay [] h = tt
claims_marked log posts seats k x stay (c ∷ cs) h = ((stay c.seat h.0.0, h.0.1), claims_marked log posts seats k x stay cs h.1)

sits_marked : (log : List Entry) (posts : List Post) (seats : ℕ → Option ℕ) (k : ℕ) (x : Option ℕ) (i j : ℕ) (v : View) → seats k ≡ Some i → j ≢ i → ((l : ℕ) → seats l ≡ None → put seats k x l ≡ None) → Sits log posts seats j v → Sits log posts (put seats k x) j v
sits_marked log posts seats k x i j v mine ne stay h = record {
  here = put_else seats k x v.seat (apart_by seats j i v.seat k h.here mine ne) ∙ h.here;
  front = h.front;
  one = h.one;
  other = h.other;
  claims = claims_marked log posts seats k x stay v.claims h.claims;
  unused = λ l lt le. let u = h.unused l lt le in (put_else seats k x l (apart_by seats j i l k u.0 mine ne) ∙ u.0, u.1);
}

others_marked : (log : List Entry) (posts : List Post) (drawn served : ℕ) (owner : ℕ → ℕ) (seats : ℕ → Option ℕ) (k : ℕ) (x : Option ℕ) (i j : ℕ) (v : View) (stage : Stage) → seats k ≡ Some i → j ≢ i → ((l : ℕ) → seats l ≡ None → put seats k x l ≡ None) → IsPlaced log posts drawn served owner seats stage j v → IsPlaced log posts drawn served owner (put seats k x) stage j v
others_marked log posts drawn served owner seats k x i j v Note mine ne stay h = h
others_marked log posts drawn served owner seats k x i j v Idle mine ne stay h = sits_marked log posts seats k x i j v mine ne stay h
others_marked log posts drawn served owner seats k x i j v (Waits t) mine ne stay h = (sits_marked log posts seats k x i j v mine ne stay h.0, h.1, h.2, h.3)
others_marked log posts drawn served owner seats k x i j v (Turn t) mine ne stay h = (sits_marked log posts seats k x i j v mine ne stay h.0, h.1, h.2, h.3)
others_marked log posts drawn served owner seats k x i j v (Out t l p) mine ne stay h = (sits_marked log posts seats k x i j v mine ne stay h.0, h.1, h.2, h.3, h.4, h.5)
others_marked log posts drawn served owner seats k x i j v Spent mine ne stay h = tt

module _ {X : Type 0} (stands : X → model.State → List Entry → Type 0) (origin_of : X → Origin) (posts_in : X → List Post) (arranged : ℕ → X → Type 0) (start : model.State) (origin : Origin) (passes : ℕ) where
  abbrev St : Type 0
  St = State (Option X) View

  abbrev Rule : St → Type 0
  Rule = Kept stands origin_of posts_in arranged start origin passes

  abbrev Fit : List Entry → List Post → ℕ → ℕ → (ℕ → ℕ) → (ℕ → Option ℕ) → ℕ → View → Type 0
  Fit = Fits stands origin_of posts_in arranged start origin passes

  -- the load after a join: of two lists that were seen, each begins the longer one
  pub compares : (slots me : ℕ) (m : Me (Option X) View) → m.0.stage ≡ Idle → Allows Rule slots me m 0 (λ n. n) (compared (step slots 0 0 0 none) m)
  compares slots me m idle s r len at fits =
      let v = m.0 in let f = r.each me v at in let h : Sits r.log r.posts r.seats me v = placed_at s r me v Idle at idle in (
        v,
        keeps,
        tt,
        loads s r 0 me v v s.homes at refl refl refl f (λ z. r.home (same_outs s r me v v at refl z)),
        (refl, comparable v.one v.seen h.one.0 h.front.0 (sym h.one.1 ∙ h.front.1), comparable v.other v.seen h.other.0 h.front.0 (sym h.other.1 ∙ h.front.1)),
      )

  pub notes : (me : ℕ) (v : View) → v.stage ≡ Idle → Splits Rule me v v (note_of v)
  notes me v idle s r at =
      let n = note_of v in let f = r.each me v at in let vs = set s.views me v in
      let h : Sits r.log r.posts r.seats me v = placed_at s r me v Idle at idle in let b = began_at s r me v Idle at idle in record {
        log = r.log;
        numbered = r.numbered;
        posts = r.posts;
        drawn = r.drawn;
        served = r.served;
        owner = r.owner;
        seats = r.seats;
        words = r.words;
        few = r.few;
        whole = omega (arith, total_snoc parts vs n, total_set parts s.views me v v at, r.whole);
        busy = omega (arith, total_snoc tickets vs n, total_set tickets s.views me v v at, r.busy);
        stock = omega (arith, total_snoc asks vs n, total_set asks s.views me v v at, r.stock);
        each = λ j u e. ⊎_elim
            (λ old. views_stay (Fit r.log r.posts r.drawn r.served r.owner r.seats) s.views me v f (λ i x _ d. r.each i x d) j u old)
            (λ (t : (j ≡ length vs) × (n ≡ u)). subst (Fit r.log r.posts r.drawn r.served r.owner r.seats j) t.1 record { part = omega arith; ask = omega arith; began = (b.0, b.1, b.2, omega (arith, b.3)); placed = (h.front.0, h.front.1) })
            (at_end vs n u j e);
        home = λ z. r.home (same_outs s r me v v at refl (omega (arith, total_snoc outs vs n, z)));
      }

  -- one more seat has the last of the numbers
  pub deals : (me : ℕ) (v : View) → v.stage ≡ Idle → v.post ≡ None → 1 < v.parts → 0 < v.spare → Splits Rule me v (less_one v) (one_more v)
  deals me v idle bare many some_spare s r at =
      let w = less_one v in let n = one_more v in let k = v.seat + v.spare in let vs = set s.views me w in
      let h : Sits r.log r.posts r.seats me v = placed_at s r me v Idle at idle in let b = began_at s r me v Idle at idle in
      let last : IsUnused r.log r.posts r.seats me k = h.unused k (omega (arith, some_spare)) (omega arith) in
      let seats' : ℕ → Option ℕ = put r.seats k (Some (length vs)) in
      let stay : (l : ℕ) → r.seats l ≡ None → seats' l ≡ None = λ l e. put_else r.seats k (Some (length vs)) l (apart_gone r.seats me k l last.0 e) ∙ e in
      let none : tickets v ≡ 0 = ap ticketed idle in let quiet : asks v ≡ 0 = ap posted bare in record {
        log = r.log;
        numbered = r.numbered;
        posts = r.posts;
        drawn = r.drawn;
        served = r.served;
        owner = r.owner;
        seats = seats';
        words = r.words;
        few = r.few;
        whole = omega (arith, total_snoc parts vs n, total_set parts s.views me v w at, r.whole, many);
        busy = omega (arith, total_snoc tickets vs n, total_set tickets s.views me v w at, r.busy, none);
        stock = omega (arith, total_snoc asks vs n, total_set asks s.views me v w at, r.stock);
        each = λ j u e. ⊎_elim
            (λ old. views_stay (Fit r.log r.posts r.drawn r.served r.owner seats') s.views me w
            record {
              part = omega (arith, none);
              ask = omega (arith, quiet);
              began = subst (λ z. Began start origin passes z w) (sym idle) (b.0, b.1, b.2, omega (arith, b.3));
              placed = subst (λ z. IsPlaced r.log r.posts r.drawn r.served r.owner seats' z me w) (sym idle)
                  record {
                    here = put_else r.seats k (Some (length vs)) v.seat (λ e. omega (arith, e, some_spare)) ∙ h.here;
                    front = h.front;
                    one = h.one;
                    other = h.other;
                    claims = claims_marked r.log r.posts r.seats k (Some (length vs)) stay v.claims h.claims;
                    unused = λ l lt le. let u = h.unused l lt (omega (arith, le)) in (put_else r.seats k (Some (length vs)) l (λ e. omega (arith, e, le, some_spare)) ∙ u.0, u.1);
                  };
            }
            (λ i x ne d. let o = r.each i x d in record { part = o.part; ask = o.ask; began = o.began; placed = others_marked r.log r.posts r.drawn r.served r.owner r.seats k (Some (length vs)) me i x x.stage last.0 ne stay o.placed }) j u old)
            (λ (t : (j ≡ length vs) × (n ≡ u)). subst (λ (z : ℕ × View). Fit r.log r.posts r.drawn r.served r.owner seats' z.0 z.1) (λ i. (sym t.0 i, t.1 i))
            record {
              part = omega arith;
              ask = omega arith;
              began = (b.0, b.1, b.2, omega (arith, b.3));
              placed = record {
                here = put_here r.seats k (Some (length vs));
                front = let fresh = goes_on_fresh r.log k v.seen (h.front.0, h.front.1) last.1.1 in (fresh.0, fresh.1, (last.1.0, fresh.2));
                one = (r.log, refl);
                other = (r.log, refl);
                claims = tt;
                unused = λ l lt le. absurd (omega (arith, lt, le));
              };
            })
            (at_end vs n u j e);
        home = λ z. r.home (same_outs s r me v w at refl (omega (arith, total_snoc outs vs n, z)));
      }

  -- the seat me goes from v to both, and the other one is spent
  merges : (s : St) (r : Rule s) (me other : ℕ) (v w both : View) (seats : ℕ → Option ℕ) → get_elem? s.views me ≡ some v → other ≢ me → get_elem? (set s.views me both) other ≡ some w
      → both.parts ≡ v.parts + w.parts → tickets v ≡ 0 → tickets w ≡ 0 → tickets both ≡ 0 → outs v ≡ 0 → outs w ≡ 0 → outs both ≡ 0 → asks both ≡ asks v → asks w ≡ 0
      → Fit r.log r.posts r.drawn r.served r.owner seats me both
      → ((j : ℕ) (u : View) → j ≢ me → j ≢ other → get_elem? s.views j ≡ some u → Fit r.log r.posts r.drawn r.served r.owner seats j u)
      → Rule record { words = s.words; homes = s.homes; views = set (set s.views me both) other spent_view }
  merges s r me other v w both seats at apart there as_parts tv tw tb ov ow ob av aw mine others =
      let vs = set s.views me both in record {
        log = r.log;
        numbered = r.numbered;
        posts = r.posts;
        drawn = r.drawn;
        served = r.served;
        owner = r.owner;
        seats = seats;
        words = r.words;
        few = r.few;
        whole = omega (arith, total_set parts vs other w spent_view there, total_set parts s.views me v both at, r.whole, as_parts);
        busy = omega (arith, total_set tickets vs other w spent_view there, total_set tickets s.views me v both at, r.busy, tv, tw, tb);
        stock = omega (arith, total_set asks vs other w spent_view there, total_set asks s.views me v both at, r.stock, av, aw);
        each = λ j u e. views_stay (Fit r.log r.posts r.drawn r.served r.owner seats) vs other spent_view record { part = omega arith; ask = omega arith; began = tt; placed = tt }
            (λ i x ne d. ⊎_elim (λ (t : (i ≡ me) × (both ≡ x)). subst (λ (z : ℕ × View). Fit r.log r.posts r.drawn r.served r.owner seats z.0 z.1) (λ c. (sym t.0 c, t.1 c)) mine)
            (λ (t : (i ≢ me) × (get_elem? s.views i ≡ some x)). others i x t.0 ne t.1) (at_set s.views me i both x d)) j u e;
        home = λ z. r.home (omega (arith, total_set outs vs other w spent_view there, total_set outs s.views me v both at, z, ov, ow, ob));
      }

  pub tells : (me other : ℕ) (v w : View) → v.stage ≡ Idle → v.post ≡ None → w.stage ≡ Note → w.parts ≡ 0 → Joins Rule me v other w (told v w) spent_view
  tells me other v w idle quiet note bare s r at apart there =
      let both = told v w in let f = r.each me v at in let there' = there_before s.views me other w both apart there in
      let h : Sits r.log r.posts r.seats me v = placed_at s r me v Idle at idle in let n = placed_at s r other w Note there' note in
      let none : asks w ≡ 0 = omega (arith, (r.each other w there').ask, bare) in
      merges s r me other v w both r.seats at apart there (omega (arith, bare)) (ap ticketed idle) (ap ticketed note) (ap ticketed idle) (ap out_at idle) (ap out_at note) (ap out_at idle) refl none
      record {
        part = f.part;
        ask = f.ask;
        began = subst (λ z. Began start origin passes z both) (sym idle) (began_at s r me v Idle at idle);
        placed = subst (λ z. IsPlaced r.log r.posts r.drawn r.served r.owner r.seats z me both) (sym idle)
            record { here = h.here; front = subst (IsFollowed r.log r.posts v.seat both.seen) (sym quiet) (longer_front r.log r.posts v.seen w.seen v.seat (subst (IsFollowed r.log r.posts v.seat v.seen) quiet h.front) n (nat_lt (length v.seen) (length w.seen)) refl); one = (h.front.0, h.front.1); other = n; claims = h.claims; unused = h.unused };
      }
      (λ j u _ _ e. r.each j u e)

  pub gathers : (me other : ℕ) (v w : View) → v.stage ≡ Idle → w.stage ≡ Idle → w.post ≡ None → Joins Rule me v other w (gathered v w) spent_view
  gathers me other v w idle idle' quiet s r at apart there =
      let both = gathered v w in let f = r.each me v at in let there' = there_before s.views me other w both apart there in
      let h : Sits r.log r.posts r.seats me v = placed_at s r me v Idle at idle in let n : Sits r.log r.posts r.seats other w = placed_at s r other w Idle there' idle' in
      let stay : (l : ℕ) → r.seats l ≡ None → put r.seats w.seat None l ≡ None = λ l e. put_else r.seats w.seat None l (apart_gone r.seats other w.seat l n.here e) ∙ e in
      let m : Sits r.log r.posts (put r.seats w.seat None) me v = sits_marked r.log r.posts r.seats w.seat None other me v n.here (λ e. apart (sym e)) stay h in
      merges s r me other v w both (put r.seats w.seat None) at apart there refl (ap ticketed idle) (ap ticketed idle') (ap ticketed idle) (ap out_at idle) (ap out_at idle') (ap out_at idle) refl (ap posted quiet)
      record {
        part = omega (arith, f.part);
        ask = omega (arith, f.ask);
        began = subst (λ z. Began start origin passes z both) (sym idle) (began_at s r me v Idle at idle);
        placed = subst (λ z. IsPlaced r.log r.posts r.drawn r.served r.owner (put r.seats w.seat None) z me both) (sym idle)
            record { here = m.here; front = m.front; one = m.one; other = m.other; claims = ((put_here r.seats w.seat None, subst (IsFollowed r.log r.posts w.seat w.seen) quiet n.front), m.claims); unused = m.unused };
      }
      (λ j u _ ne e. let o = r.each j u e in record { part = o.part; ask = o.ask; began = o.began; placed = others_marked r.log r.posts r.drawn r.served r.owner r.seats w.seat None other j u u.stage n.here ne stay o.placed })

  -- a seat that stands for all passes: no other one has a ticket, so the value is at home
  pub closes : (s : St) (r : Rule s) (me : ℕ) (v : View) → get_elem? s.views me ≡ some v → v.stage ≡ Idle → v.post ≡ None → v.parts ≡ passes
      → (x : X) × (s.homes ≡ some (Some x) ∷ []) × stands x start r.log × (origin_of x ≡ origin) × GoesOn r.log v.seat v.seen × Each (λ c. GoesOn r.log c.seat c.seen) v.claims × HaveSeatsBelow passes r.log
  closes s r me v at idle quiet all =
      let h : Sits r.log r.posts r.seats me v = placed_at s r me v Idle at idle in
      let vs = set s.views me spent_view in
      let none : total parts vs ≡ 0 = omega (arith, total_set parts s.views me v spent_view at, r.whole, all) in
      let low : total outs vs ≤ total parts vs = total_le outs parts vs (views_stay (λ i u. outs u ≤ parts u) s.views me spent_view (omega arith) (λ i u _ e. out_below u (r.each i u e).part)) in
      let o : outs v ≡ 0 = ap out_at idle in
      let home = r.home (omega (arith, total_set outs s.views me v spent_view at, none, low, o)) in
      (home.0, home.1, home.2, home.3, followed_so r.log r.posts v.seat v.seen (subst (IsFollowed r.log r.posts v.seat v.seen) quiet h.front), claims_so r.log r.posts r.seats v.claims h.claims, r.numbered)
    where
      out_le : (stage : Stage) → out_at stage ≤ ticketed stage
      out_le Note = omega arith
      out_le Idle = omega arith
      out_le (Waits k) = omega arith
      out_le (Turn k) = omega arith
      out_le (Out k l p) = omega arith
      out_le Spent = omega arith

      out_below : (u : View) → tickets u ≤ u.parts → outs u ≤ u.parts
      out_below u le = omega (arith, le, out_le u.stage)

      claims_so : (log : List Entry) (posts : List Post) (seats : ℕ → Option ℕ) (cs : List Claim) → Each (IsClaim log posts seats) cs → Each (λ c. GoesOn log c.seat c.seen) cs
      claims_so log posts seats [] h = tt
      claims_so log posts seats (c ∷ cs) h = (followed_so log posts c.seat c.seen h.0.1, claims_so log posts seats cs h.1)

  pub opens : (x : X) → 0 < passes → passes ≤ 2 ^ 63 → stands x start [] → origin_of x ≡ origin → posts_in x ≡ [] → arranged passes x → Rule (opening (0 ∷ 0 ∷ 0 ∷ []) (Some x ∷ []) (opening_view start origin passes))
  opens x some_pass few stood from bare kept = record {
    log = [];
    numbered = tt;
    posts = [];
    drawn = 0;
    served = 0;
    owner = λ _. 0;
    seats = λ _. Some 0;
    words = refl;
    few = few;
    whole = omega arith;
    busy = refl;
    stock = refl;
    each = first_one;
    home = λ _. (x, refl, stood, from, bare, kept);
  }
    where
      first_one : (j : ℕ) (u : View) → get_elem? (opening_view start origin passes ∷ []) j ≡ some u → Fit [] [] 0 0 (λ _. 0) (λ _. Some 0) j u
      first_one zero u e = subst (Fit [] [] 0 0 (λ _. 0) (λ _. Some 0) 0) (some-injective _ _ e)
          record { part = omega arith; ask = omega arith; began = (refl, refl, refl, omega (arith, some_pass)); placed = record { here = refl; front = ([], refl, (refl, refl)); one = ([], refl); other = ([], refl); claims = tt; unused = λ l lt le. (refl, (refl, refl)) } }
      first_one (suc j) u e = absurd (some-ne-none u (sym e))

  -- what is left of the table once a seat stands for all passes
  pub closed : (ws : List ℕ) (xs : List (Option X)) (me : ℕ) (v : View) → Final (Seen Rule me v) ws xs → v.stage ≡ Idle → v.post ≡ None → v.parts ≡ passes
      → (x : X) × (get_elem? xs 0 ≡ some (Some x)) × ((log : List Entry) × stands x start log × (origin_of x ≡ origin) × GoesOn log v.seat v.seen × Each (λ c. GoesOn log c.seat c.seen) v.claims × HaveSeatsBelow passes log)
  closed ws xs me v f idle quiet all =
      let r : Rule f.0 = f.1.0 in
      let k = closes f.0 r me v f.1.1 idle quiet all in
      (k.0, f.4 0 (Some k.0) (ap (λ hs. get_elem? hs 0) k.1), (r.log, k.2, k.3, k.4, k.5, k.6))
