-- What one seat's step leaves of the rule: facts that all kinds of step share.
use Rattle.std.proofs.Common.{◌≡◌, ◌≢◌, ◌⊎◌, ℕ, zero, suc, ◌+◌, ◌^◌, ◌<◌, ◌≤◌, eqb, List, [], ◌∷◌, length, set, cond, sym, refl, ap, ◌∙◌, subst, ⊎_elim, inl, inr, arith, Option, Some, None, eq-eqb, ne_eqb, get_or}
use mathlib.Core.Logic.{dite}
use native.Mathlib.Decide.{ℕ_discrete}
use mathlib.Core.Option.{some, some-ne-none, some-injective}
use mathlib.Core.Option as maybe
use lib.ListN.{get_elem?}
use lib.Seq.{set-get_or}
use Rattle.atomic_table.specs.Table.{State}
use Rattle.atomic_table.proofs.Lists.{at_set}
use Rattle.sb_machine.specs.declared.history.Entry.{Entry}
use Rattle.sb_machine.specs.declared.state.State as model
use Rattle.sb_desk.specs.declared.post.Post.{Post}
use Rattle.sb_desk.specs.declared.report.Origin.{Origin}
use Rattle.sb_desk.specs.declared.view.View.{View}
use Rattle.sb_desk.specs.declared.view.Stage.{Stage}
use Rattle.sb_desk.specs.declared.view.Stage.TheVariants.{Note, Idle, Waits, Turn, Out, Spent}
use Rattle.sb_desk.specs.Lists.{total, HaveSeatsBelow}
use Rattle.sb_desk.specs.Rule.{word, parts, ticket_of, log_of, posts_of, asks, tickets, out_at, outs, Sits, IsPlaced, Began, IsHome, Fits, Kept}
use Rattle.sb_desk.specs.Steps.{Knows, placed}
use Rattle.sb_desk.proofs.Sums.{total_set, total_none, total_le}

-- ---- lists

pub inside : (vs : List View) (me : ℕ) (v : View) → get_elem? vs me ≡ some v → me < length vs
inside [] me v e = absurd (some-ne-none v (sym e))
inside (x ∷ xs) zero v e = omega arith
inside (x ∷ xs) (suc me) v e = omega (arith, inside xs me v e)

-- one seat goes on to w, the others stay
pub views_stay : (K : ℕ → View → Type 0) (vs : List View) (me : ℕ) (w : View) → K me w → ((j : ℕ) (d : View) → j ≢ me → get_elem? vs j ≡ some d → K j d) → (j : ℕ) (d : View) → get_elem? (set vs me w) j ≡ some d → K j d
views_stay K vs me w mine others j d e = ⊎_elim (λ (t : (j ≡ me) × (w ≡ d)). subst (λ (x : ℕ × View). K x.0 x.1) (λ i. (sym t.0 i, t.1 i)) mine)
    (λ (t : (j ≢ me) × (get_elem? vs j ≡ some d)). others j d t.0 t.1) (at_set vs me j w d e)

-- ---- functions on numbers, changed at one

module _ {A : Type 0} where
  abbrev pub put : (ℕ → A) → ℕ → A → ℕ → A
  put f k x j = cond (eqb j k) x (f j)

  pub put_here : (f : ℕ → A) (k : ℕ) (x : A) → put f k x k ≡ x
  put_here f k x = ap (λ b. cond b x (f k)) (eq-eqb k k refl)

  pub put_else : (f : ℕ → A) (k : ℕ) (x : A) (j : ℕ) → j ≢ k → put f k x j ≡ f j
  put_else f k x j ne = ap (λ b. cond b x (f j)) (ne_eqb j k ne)

-- ---- numbers of seats

-- one number is one seat's
pub apart_by : (seats : ℕ → Option ℕ) (i j a b : ℕ) → seats a ≡ Some i → seats b ≡ Some j → i ≢ j → a ≢ b
apart_by seats i j a b ha hb ne e = ne (ap seat_in (sym ha ∙ (ap seats e ∙ hb)))
  where
    seat_in : Option ℕ → ℕ
    seat_in (Some k) = k
    seat_in None = 0

pub apart_gone : (seats : ℕ → Option ℕ) (i a b : ℕ) → seats a ≡ Some i → seats b ≡ None → b ≢ a
apart_gone seats i a b ha hb e = none_some (sym hb ∙ (ap seats e ∙ ha))
  where
    none_some : {x : ℕ} → ◌≡◌ {A = Option ℕ} None (Some x) → ⊥
    none_some e = absurd cc

pub sits_so : (log : List Entry) (posts : List Post) (seats : ℕ → Option ℕ) (i : ℕ) (v : View) (stage : Stage) → Sits log posts seats i v → Sits log posts seats i (placed stage v)
sits_so log posts seats i v stage h = record { here = h.here; front = h.front; one = h.one; other = h.other; claims = h.claims; unused = h.unused }

-- what a seat knows, it knows at each stage
pub knows_placed : (log : List Entry) (posts : List Post) (v : View) (stage : Stage) → Knows log posts v → Knows log posts (placed stage v)
knows_placed log posts v stage k = record { front = k.front; numbered = k.numbered; seat = k.seat; room = k.room }

-- ---- the rule

module _ {X : Type 0} {stands : X → model.State → List Entry → Type 0} {origin_of : X → Origin} {posts_in : X → List Post} {arranged : ℕ → X → Type 0} {start : model.State} {origin : Origin} {passes : ℕ} where
  -- a step of the seat me, which goes from v to w
  pub changes : (s : State (Option X) View) (r : Kept stands origin_of posts_in arranged start origin passes s) (me : ℕ) (v w : View) → get_elem? s.views me ≡ some v
      → (words : List ℕ) (homes : List (maybe.Option (Option X))) (log : List Entry) (posts : List Post) (drawn served : ℕ) (owner : ℕ → ℕ)
      → HaveSeatsBelow passes log
      → words ≡ word (length log) ∷ word drawn ∷ word served ∷ []
      → w.parts ≡ v.parts
      → drawn + r.served + tickets v ≡ r.drawn + served + tickets w
      → length posts + asks v ≡ length r.posts + asks w
      → Fits stands origin_of posts_in arranged start origin passes log posts drawn served owner r.seats me w
      → ((j : ℕ) (u : View) → j ≢ me → get_elem? s.views j ≡ some u → Fits stands origin_of posts_in arranged start origin passes log posts drawn served owner r.seats j u)
      → (total outs (set s.views me w) ≡ 0 → IsHome stands origin_of posts_in arranged start origin passes log posts homes)
      → Kept stands origin_of posts_in arranged start origin passes record { words = words; homes = homes; views = set s.views me w }
  changes s r me v w at words homes log posts drawn served owner numbered as_words as_parts as_busy as_stock mine others home = record {
    log = log;
    numbered = numbered;
    posts = posts;
    drawn = drawn;
    served = served;
    owner = owner;
    seats = r.seats;
    words = as_words;
    few = r.few;
    whole = omega (arith, total_set parts s.views me v w at, r.whole, as_parts);
    busy = omega (arith, total_set tickets s.views me v w at, r.busy, as_busy);
    stock = omega (arith, total_set asks s.views me v w at, r.stock, as_stock);
    each = views_stay (Fits stands origin_of posts_in arranged start origin passes log posts drawn served owner r.seats) s.views me w mine others;
    home = home;
  }

  -- a load by a seat whose ticket and history stay
  pub loads : (s : State (Option X) View) (r : Kept stands origin_of posts_in arranged start origin passes s) (i me : ℕ) (v w : View) (homes : List (maybe.Option (Option X))) → get_elem? s.views me ≡ some v → w.parts ≡ v.parts → tickets w ≡ tickets v → asks w ≡ asks v
      → Fits stands origin_of posts_in arranged start origin passes r.log r.posts r.drawn r.served r.owner r.seats me w → (total outs (set s.views me w) ≡ 0 → IsHome stands origin_of posts_in arranged start origin passes r.log r.posts homes)
      → Kept stands origin_of posts_in arranged start origin passes record { words = set s.words i (get_or s.words i 0); homes = homes; views = set s.views me w }
  loads s r i me v w homes at as_parts as_tickets as_asks mine home =
      changes s r me v w at (set s.words i (get_or s.words i 0)) homes r.log r.posts r.drawn r.served r.owner r.numbered (set-get_or s.words i 0 ∙ r.words) as_parts (omega (arith, as_tickets)) (omega (arith, as_asks)) mine
      (λ j u apart e. r.each j u e) home

  -- the facts of a view at a stage that is known
  pub placed_at : (s : State (Option X) View) (r : Kept stands origin_of posts_in arranged start origin passes s) (me : ℕ) (v : View) (stage : Stage) → get_elem? s.views me ≡ some v → v.stage ≡ stage → IsPlaced r.log r.posts r.drawn r.served r.owner r.seats stage me v
  placed_at s r me v stage at is = subst (λ z. IsPlaced r.log r.posts r.drawn r.served r.owner r.seats z me v) is (r.each me v at).placed

  pub began_at : (s : State (Option X) View) (r : Kept stands origin_of posts_in arranged start origin passes s) (me : ℕ) (v : View) (stage : Stage) → get_elem? s.views me ≡ some v → v.stage ≡ stage → Began start origin passes stage v
  began_at s r me v stage at is = subst (λ z. Began start origin passes z v) is (r.each me v at).began

  -- fewer seats wait than there are passes
  pub few_wait : (s : State (Option X) View) (r : Kept stands origin_of posts_in arranged start origin passes s) → r.drawn ≤ r.served + 2 ^ 63
  few_wait s r = omega (arith, total_le tickets parts s.views (λ i x e. (r.each i x e).part), r.busy, r.whole, r.few)

  pub same_outs : (s : State (Option X) View) (r : Kept stands origin_of posts_in arranged start origin passes s) (me : ℕ) (v w : View) → get_elem? s.views me ≡ some v → outs w ≡ outs v → total outs (set s.views me w) ≡ 0 → total outs s.views ≡ 0
  same_outs s r me v w at same z = omega (arith, total_set outs s.views me v w at, same, z)

  -- while a seat has the turn, no other one has
  pub alone : (s : State (Option X) View) (r : Kept stands origin_of posts_in arranged start origin passes s) (me j : ℕ) (u : View) → r.owner r.served ≡ me → get_elem? s.views j ≡ some u → j ≢ me → (stage : Stage) → u.stage ≡ stage → IsPlaced r.log r.posts r.drawn r.served r.owner r.seats stage j u
      → (stage ≡ Turn (ticket_of stage)) ⊎ (stage ≡ Out (ticket_of stage) (log_of stage) (posts_of stage)) → ⊥
  alone s r me j u mine e apart (Turn k) is h w = apart (sym h.3 ∙ (ap r.owner h.1 ∙ mine))
  alone s r me j u mine e apart (Out k l p) is h w = apart (sym h.3 ∙ (ap r.owner h.1 ∙ mine))
  alone s r me j u mine e apart _ is h (inl w) = absurd cc
  alone s r me j u mine e apart _ is h (inr w) = absurd cc

  -- while a seat has the turn and not the value, no seat has it
  pub none_out : (s : State (Option X) View) (r : Kept stands origin_of posts_in arranged start origin passes s) (me : ℕ) (v : View) → get_elem? s.views me ≡ some v → outs v ≡ 0 → r.owner r.served ≡ me → total outs s.views ≡ 0
  none_out s r me v at mine_in mine = total_none outs s.views (λ i x e. dite (ℕ_discrete i me)
      (λ same. let here : v ≡ x = some-injective v x (sym at ∙ (ap (get_elem? s.views) (sym same) ∙ e)) in ap outs (sym here) ∙ mine_in)
      (λ apart. other i x apart e x.stage refl (r.each i x e).placed))
    where
      other : (i : ℕ) (x : View) → i ≢ me → get_elem? s.views i ≡ some x → (stage : Stage) → x.stage ≡ stage → IsPlaced r.log r.posts r.drawn r.served r.owner r.seats stage i x → out_at stage ≡ 0
      other i x apart e (Out k l p) is h = absurd (alone s r me i x mine e apart (Out k l p) is h (inr refl))
      other i x apart e Note is h = refl
      other i x apart e Idle is h = refl
      other i x apart e (Waits k) is h = refl
      other i x apart e (Turn k) is h = refl
      other i x apart e Spent is h = refl
