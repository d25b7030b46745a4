-- The steps of a turn keep the rule: draw, look, take, post, record, collect, give, leave.
use Rattle.std.proofs.Common.{◌≡◌, ◌≢◌, ℕ, ◌+◌, ◌%◌, ◌^◌, ◌<◌, ◌≤◌, List, [], ◌∷◌, ◌++◌, length, set, sym, refl, ap, ◌∙◌, subst, inl, inr, arith, Option, Some, None, length-append, append-nil, append_assoc, get_or}
use mathlib.Core.Logic.{dite}
use native.Mathlib.Decide.{ℕ_discrete}
use mathlib.Core.Option.{some, none}
use lib.ListN.{get_elem?}
use Rattle.std.proofs.Math.Nat.{mod-add-mod}
use Rattle.atomic_table.specs.Table.{State, Me, step, keeps, takes, gives, homes_after, Allows}
use Rattle.atomic_table.proofs.Lists.{set_here, one_turn}
use Rattle.sb_machine.specs.declared.history.Entry.{Entry}
use Rattle.sb_machine.specs.declared.state.State as model
use Rattle.sb_desk.specs.declared.post.Post.{Post}
use Rattle.sb_desk.specs.declared.report.Origin.{Origin}
use Rattle.sb_desk.specs.declared.view.Ask.{Ask}
use Rattle.sb_desk.specs.declared.view.View.{View}
use Rattle.sb_desk.specs.declared.view.Claim.{Claim}
use Rattle.sb_desk.specs.declared.view.Stage.{Stage}
use Rattle.sb_desk.specs.declared.view.Stage.TheVariants.{Note, Idle, Waits, Turn, Out, Spent}
use Rattle.sb_desk.specs.Groups.{posts_by, asked_by, waiting_post, IsPosted, IsFollowed, AreCarriedOut, IsTaken}
use Rattle.sb_desk.specs.Lists.{IsFront, total, Each, HaveSeatsBelow}
use Rattle.sb_desk.specs.Posts.{post_entries}
use Rattle.sb_desk.specs.Rule.{word, parts, ticket_of, log_of, posts_of, posted, asks, ticketed, tickets, out_at, outs, IsClaim, IsUnused, Sits, IsPlaced, Began, Kept}
use Rattle.sb_desk.specs.Steps.{placed, last_ask, carried_posts, drew, looked, took, asked, recorded, collected, gave, passed}
use Rattle.sb_desk.proofs.Sums.{total_set, total_at, total_less}
use Rattle.sb_desk.proofs.Logs.{below_append, front_later}
use Rattle.sb_desk.proofs.Posting.{Keeps, same_keeps, followed_later, carried_keeps, carried_length, posts_append, posts_mine, posts_added, posts_taken, posts_gone, last_is}
use Rattle.sb_desk.proofs.Steady.{inside, put, put_here, put_else, apart_by, apart_gone, sits_so, changes, loads, placed_at, began_at, few_wait, same_outs, alone, none_out}

-- ---- a longer history and other posts, of which other seats than that of the number `mine` keep what they had

claims_later : (log : List Entry) (posts next : List Post) (made : List Entry) (seats : ℕ → Option ℕ) (me mine : ℕ) → seats mine ≡ Some me → ((l : ℕ) → l ≢ mine → Keeps posts next made l) → (cs : List Claim) → Each (IsClaim log posts seats) cs → Each (IsClaim (log ++ made) next seats) cs
claims_later log posts next made seats me mine here keep [] h = tt
claims_later log posts next made seats me mine here keep (c ∷ cs) h =
    ((h.0.0, followed_later log posts next c.seat c.seen made None (keep c.seat (apart_gone seats me mine c.seat here h.0.0)) h.0.1), claims_later log posts next made seats me mine here keep cs h.1)

unused_later : (log : List Entry) (posts next : List Post) (made : List Entry) (seats : ℕ → Option ℕ) (j l : ℕ) → Keeps posts next made l → IsUnused log posts seats j l → IsUnused (log ++ made) next seats j l
unused_later log posts next made seats j l keep h = (h.0, keep None log h.1)

sits_later : (log : List Entry) (posts next : List Post) (made : List Entry) (seats : ℕ → Option ℕ) (me mine j : ℕ) (v : View) → seats mine ≡ Some me → ((l : ℕ) → l ≢ mine → Keeps posts next made l) → j ≢ me → Sits log posts seats j v → Sits (log ++ made) next seats j v
sits_later log posts next made seats me mine j v here keep apart h = record {
  here = h.here;
  front = followed_later log posts next v.seat v.seen made v.post (keep v.seat (apart_by seats j me v.seat mine h.here here apart)) h.front;
  one = front_later v.one log made h.one;
  other = front_later v.other log made h.other;
  claims = claims_later log posts next made seats me mine here keep v.claims h.claims;
  unused = λ l lt le. let u = h.unused l lt le in unused_later log posts next made seats j l (keep l (apart_by seats j me l mine u.0 here apart)) u;
}

one_slot : {A : Type 0} (xs : List A) (y : A) → length xs ≡ 1 → set xs 0 y ≡ y ∷ []
one_slot [] y e = absurd (omega (arith, e))
one_slot (x ∷ []) y e = refl
one_slot (x ∷ z ∷ xs) y e = absurd (omega (arith, e))

others_draw : (log : List Entry) (posts : List Post) (drawn served : ℕ) (owner : ℕ → ℕ) (seats : ℕ → Option ℕ) (me j : ℕ) (v : View) (stage : Stage) → IsPlaced log posts drawn served owner seats stage j v → IsPlaced log posts (drawn + 1) served (put owner drawn me) seats stage j v
others_draw log posts drawn served owner seats me j v Note h = h
others_draw log posts drawn served owner seats me j v Idle h = h
others_draw log posts drawn served owner seats me j v (Waits k) h = let lt = h.2 in (h.0, h.1, omega (arith, lt), put_else owner drawn me k (λ e. omega (arith, e, lt)) ∙ h.3)
others_draw log posts drawn served owner seats me j v (Turn k) h = let lt = h.2 in (h.0, h.1, omega (arith, lt), put_else owner drawn me k (λ e. omega (arith, e, lt)) ∙ h.3)
others_draw log posts drawn served owner seats me j v (Out k l p) h = let lt = h.2 in (h.0, h.1, omega (arith, lt), put_else owner drawn me k (λ e. omega (arith, e, lt)) ∙ h.3, h.4, h.5)
others_draw log posts drawn served owner seats me j v Spent h = tt

module _ {X : Type 0} (stands : X → model.State → List Entry → Type 0) (origin_of : X → Origin) (posts_in : X → List Post) (arranged : ℕ → X → Type 0) (start : model.State) (origin : Origin) (passes : ℕ) where
  abbrev Rule : State (Option X) View → Type 0
  Rule = Kept stands origin_of posts_in arranged start origin passes

  pub draws : (slots me : ℕ) (m : Me (Option X) View) → m.0.stage ≡ Idle → 0 < m.0.parts → Allows Rule slots me m 1 (λ n. (n + 1) % 2 ^ 64) (drew (step slots 1 1 0 none) m)
  draws slots me m idle some_part s r len at fits =
      let v = m.0 in let k = r.drawn in let w = placed (Waits k) v in
      let old : tickets v ≡ 0 = ap ticketed idle in
      let found : get_or s.words 1 0 ≡ word k = ap (λ ws. get_or ws 1 0) r.words in
      let order : r.served ≤ r.drawn = omega (arith, r.busy) in (
        w,
        keeps,
        tt,
        changes s r me v w at (set s.words 1 ((get_or s.words 1 0 + 1) % 2 ^ 64)) s.homes r.log r.posts (r.drawn + 1) r.served (put r.owner r.drawn me) r.numbered
            (ap (λ ws. set ws 1 ((get_or ws 1 0 + 1) % 2 ^ 64)) r.words ∙ ap (λ n. word (length r.log) ∷ n ∷ word r.served ∷ []) (mod-add-mod r.drawn (2 ^ 64) 1))
            refl
            (omega (arith, old))
            refl
            record {
              part = omega (arith, some_part);
              ask = (r.each me v at).ask;
              began = began_at s r me v Idle at idle;
              placed = (sits_so r.log r.posts r.seats me v (Waits k) (placed_at s r me v Idle at idle), order, omega arith, put_here r.owner k me);
            }
            (λ j u apart e. let f = r.each j u e in record { part = f.part; ask = f.ask; began = f.began; placed = others_draw r.log r.posts r.drawn r.served r.owner r.seats me j u u.stage f.placed })
            (λ z. r.home (same_outs s r me v w at (sym (ap out_at idle)) z)),
        (k, sym found, refl),
      )

  pub looks : (slots me : ℕ) (m : Me (Option X) View) → m.0.stage ≡ Waits (ticket_of m.0.stage) → Allows Rule slots me m 2 (λ n. n) (looked (step slots 2 0 0 none) m)
  looks slots me m waits s r len at fits =
      let v = m.0 in let k = ticket_of v.stage in let w = placed (Turn k) v in let f = r.each me v at in
      let p = placed_at s r me v (Waits k) at waits in
      let found : get_or s.words 2 0 ≡ word r.served = ap (λ ws. get_or ws 2 0) r.words in
      dite (ℕ_discrete (word k) (get_or s.words 2 0))
      (λ is.
      let same : k ≡ r.served = sym (one_turn r.served k (2 ^ 64) p.1 (omega (arith, few_wait s r, p.2)) (sym (is ∙ found))) in
      let one : tickets v ≡ 1 = ap ticketed waits in (
        w,
        keeps,
        tt,
        loads s r 2 me v w s.homes at refl (sym one) refl
            record { part = omega (arith, f.part, one); ask = f.ask; began = began_at s r me v (Waits k) at waits; placed = (sits_so r.log r.posts r.seats me v (Turn k) p.0, same, p.2, p.3) }
            (λ z. r.home (same_outs s r me v w at (sym (ap out_at waits)) z)),
        ((λ _. refl), (λ isnt. absurd (isnt is))),
      ))
      (λ isnt. (
        v,
        keeps,
        tt,
        loads s r 2 me v v s.homes at refl refl refl f (λ z. r.home (same_outs s r me v v at refl z)),
        ((λ is. absurd (isnt is)), (λ _. refl)),
      ))

  pub takes_out : (slots me : ℕ) (m : Me (Option X) View) → m.0.stage ≡ Turn (ticket_of m.0.stage) → Allows Rule slots me m 0 (λ n. n) (took stands origin_of posts_in arranged (step slots 0 0 0 none) m)
  takes_out slots me m turn s r len at fits =
      let v = m.0 in let k = ticket_of v.stage in let f = r.each me v at in
      let p = placed_at s r me v (Turn k) at turn in let b = began_at s r me v (Turn k) at turn in
      let sits : Sits r.log r.posts r.seats me v = p.0 in
      let mine : r.owner r.served ≡ me = ap r.owner (sym p.1) ∙ p.3 in
      let old : outs v ≡ 0 = ap out_at turn in
      let one : tickets v ≡ 1 = ap ticketed turn in
      let none_now : total outs s.views ≡ 0 = none_out s r me v at old mine in
      let home = r.home none_now in
      let same : posts_in home.0 ≡ r.posts = home.4 in
      let w = placed (Out k r.log (posts_in home.0)) v in (
        w,
        takes 0 (Some home.0),
        ap (λ hs. get_elem? hs 0) home.1,
        loads s r 0 me v w (set s.homes 0 none) at refl (sym one) refl
            record { part = omega (arith, f.part, one); ask = f.ask; began = b; placed = (sits_so r.log r.posts r.seats me v (Out k r.log (posts_in home.0)) p.0, p.1, p.2, p.3, refl, same) }
            (λ z. absurd (let t : total outs (set s.views me w) + outs v ≡ total outs s.views + 1 = total_set outs s.views me v w at in omega (arith, t, old, none_now, z))),
        (
          home.0,
          r.log,
          refl,
          subst (λ t. stands home.0 t r.log) (sym b.0) home.2,
          home.3 ∙ sym b.1,
          subst (λ t. arranged t home.0) (sym b.2) home.5,
          record {
            front = subst (λ (z : List Post). IsFollowed r.log z v.seat v.seen v.post) (sym same) sits.front;
            numbered = subst (λ t. HaveSeatsBelow t r.log) (sym b.2) r.numbered;
            seat = omega (arith, b.2, b.3);
            room = λ bare. let none_yet : asks v ≡ 0 = ap posted bare in
                let less : total asks s.views < total parts s.views = total_less asks parts s.views me v at (omega (arith, f.part, one, none_yet)) (λ i x e. (r.each i x e).ask) in
                omega (arith, less, r.stock, r.whole, b.2, ap length same);
          },
        ),
      )

  -- a step of the seat that has the turn and the value: the history grows, the posts change, and the other seats keep what they had
  turns_on : (s : State (Option X) View) (r : Rule s) (me n : ℕ) (v w : View) (made : List Entry) (next : List Post) → get_elem? s.views me ≡ some v → v.stage ≡ Out (ticket_of v.stage) (log_of v.stage) (posts_of v.stage) → n ≡ length made
      → w ≡ record v { seen = w.seen; post = w.post; stage = Out (ticket_of v.stage) (r.log ++ made) next }
      → HaveSeatsBelow passes (r.log ++ made)
      → length next + asks v ≡ length r.posts + asks w
      → IsFollowed (r.log ++ made) next v.seat w.seen w.post
      → ((l : ℕ) → l ≢ v.seat → Keeps r.posts next made l)
      → Rule record { words = set s.words 0 ((get_or s.words 0 0 + n) % 2 ^ 64); homes = s.homes; views = set s.views me w }
  turns_on s r me n v w made next at out count is numbered stock front keep =
      let k = ticket_of v.stage in let f = r.each me v at in
      let p = placed_at s r me v (Out k (log_of v.stage) (posts_of v.stage)) at out in let b = began_at s r me v (Out k (log_of v.stage) (posts_of v.stage)) at out in
      let sits : Sits r.log r.posts r.seats me v = p.0 in
      let one : tickets v ≡ 1 = ap ticketed out in
      let stage : w.stage ≡ Out k (r.log ++ made) next = ap (λ z. z.stage) is in
      let one' : tickets w ≡ 1 = ap ticketed stage in
      let out' : outs w ≡ 1 = ap out_at stage in
      let parts' : w.parts ≡ v.parts = ap (λ z. z.parts) is in
      let seat' : w.seat ≡ v.seat = ap (λ z. z.seat) is in
      let spare' : w.spare ≡ v.spare = ap (λ z. z.spare) is in
      let seats_now = r.seats in
      let asks_few : asks w ≤ 1 = few_asks w.post in
      let many : length (r.log ++ made) ≡ length r.log + n = length-append r.log made ∙ ap (λ z. length r.log + z) (sym count) in
      changes s r me v w at (set s.words 0 ((get_or s.words 0 0 + n) % 2 ^ 64)) s.homes (r.log ++ made) next r.drawn r.served r.owner numbered
      (ap (λ ws. set ws 0 ((get_or ws 0 0 + n) % 2 ^ 64)) r.words ∙ ap (λ z. z ∷ word r.drawn ∷ word r.served ∷ []) (mod-add-mod (length r.log) (2 ^ 64) n ∙ ap word (sym many)))
      parts'
      (omega (arith, one, one'))
      stock
      record {
        part = omega (arith, f.part, one, one', parts');
        ask = omega (arith, f.part, one, asks_few, parts');
        began = subst (λ z. Began start origin passes z w) (sym stage) (subst (λ (z : View). (z.start ≡ start) × (z.origin ≡ origin) × (z.passes ≡ passes) × (z.seat + z.spare < passes)) (sym is) b);
        placed = subst (λ z. IsPlaced (r.log ++ made) next r.drawn r.served r.owner r.seats z me w) (sym stage) (
          record {
            here = ap seats_now seat' ∙ sits.here;
            front = subst (λ z. IsFollowed (r.log ++ made) next z w.seen w.post) (sym seat') front;
            one = subst (λ z. IsFront z (r.log ++ made)) (sym (ap (λ z. z.one) is)) (front_later v.one r.log made sits.one);
            other = subst (λ z. IsFront z (r.log ++ made)) (sym (ap (λ z. z.other) is)) (front_later v.other r.log made sits.other);
            claims = subst (Each (IsClaim (r.log ++ made) next r.seats)) (sym (ap (λ z. z.claims) is)) (claims_later r.log r.posts next made r.seats me v.seat sits.here keep v.claims sits.claims);
            unused = λ l lt le. let lt' : v.seat < l = omega (arith, lt, seat') in
                let le' : l ≤ v.seat + v.spare = omega (arith, le, seat', spare') in
                let u = sits.unused l lt' le' in unused_later r.log r.posts next made r.seats me l (keep l (λ e. omega (arith, e, lt'))) u;
          },
          p.1,
          p.2,
          p.3,
          refl,
          refl,
        );
      }
      (λ j u apart e. let g = r.each j u e in record { part = g.part; ask = g.ask; began = g.began; placed = others_on j u apart e u.stage refl g.placed })
      (λ z. absurd (let t : outs w ≤ total outs (set s.views me w) = total_at outs (set s.views me w) me w (set_here s.views me w (inside s.views me v at)) in omega (arith, t, z, out')))
    where
      few_asks : (o : Option Ask) → posted o ≤ 1
      few_asks (Some a) = omega arith
      few_asks None = omega arith

      place_me : Sits r.log r.posts r.seats me v × (ticket_of v.stage ≡ r.served) × (ticket_of v.stage < r.drawn) × (r.owner (ticket_of v.stage) ≡ me) × (log_of v.stage ≡ r.log) × (posts_of v.stage ≡ r.posts)
      place_me = placed_at s r me v (Out (ticket_of v.stage) (log_of v.stage) (posts_of v.stage)) at out

      mine_now : r.owner r.served ≡ me
      mine_now = ap r.owner (sym place_me.1) ∙ place_me.3

      others_on : (j : ℕ) (u : View) → j ≢ me → get_elem? s.views j ≡ some u → (stage : Stage) → u.stage ≡ stage → IsPlaced r.log r.posts r.drawn r.served r.owner r.seats stage j u → IsPlaced (r.log ++ made) next r.drawn r.served r.owner r.seats stage j u
      others_on j u apart e Note is h = front_later u.seen r.log made h
      others_on j u apart e Idle is h = sits_later r.log r.posts next made r.seats me v.seat j u place_me.0.here keep apart h
      others_on j u apart e (Waits k) is h = (sits_later r.log r.posts next made r.seats me v.seat j u place_me.0.here keep apart h.0, h.1, h.2, h.3)
      others_on j u apart e (Turn k) is h = absurd (alone s r me j u mine_now e apart (Turn k) is h (inl refl))
      others_on j u apart e (Out k l p) is h = absurd (alone s r me j u mine_now e apart (Out k l p) is h (inr refl))
      others_on j u apart e Spent is h = tt

  -- the seat adds its own post, which is the last beside the value that it carries
  pub posts_one : (slots me : ℕ) (m : Me (Option X) View) (x : X) (ask : Ask) → m.0.stage ≡ Out (ticket_of m.0.stage) (log_of m.0.stage) (posts_of m.0.stage) → m.0.post ≡ None → m.1 ≡ (0, Some x) ∷ []
      → posts_in x ≡ posts_of m.0.stage ++ waiting_post m.0.seat ask ∷ []
      → Allows Rule slots me m 0 (λ n. (n + 0) % 2 ^ 64) (asked posts_in (step slots 0 0 0 none) m)
  posts_one slots me m x ask out bare carried added s r len at fits =
      let v = m.0 in let k = ticket_of v.stage in let l = log_of v.stage in
      let p = placed_at s r me v (Out k l (posts_of v.stage)) at out in
      let sits : Sits r.log r.posts r.seats me v = p.0 in
      let next : List Post = carried_posts posts_in m.1 in
      let new : Post = waiting_post v.seat ask in
      let held : next ≡ r.posts ++ new ∷ [] = ap (carried_posts posts_in) carried ∙ (added ∙ ap (λ z. z ++ new ∷ []) p.5) in
      let asks_now : last_ask next ≡ Some ask = ap last_ask held ∙ last_is r.posts new in
      let w : View = record v { post = last_ask next; stage = Out k l next } in
      let rest : List Entry = sits.front.0 in
      let quiet : IsPosted v.seat (posts_by v.seat r.posts) None rest = subst (λ z. IsPosted v.seat (posts_by v.seat r.posts) z rest) bare sits.front.2 in
      let mine : posts_by v.seat next ≡ new ∷ [] = ap (posts_by v.seat) held ∙ (posts_append v.seat r.posts (new ∷ []) ∙ (ap (λ z. z ++ posts_by v.seat (new ∷ [])) quiet.0 ∙ posts_mine v.seat new [] refl)) in
      let long : length next ≡ length r.posts + 1 = ap length held ∙ length-append r.posts (new ∷ []) in (
        w,
        keeps,
        tt,
        turns_on s r me 0 v w [] next at out refl
            (ap (λ z. record v { post = last_ask next; stage = Out k z next }) (p.4 ∙ sym (append-nil r.log)))
            (subst (HaveSeatsBelow passes) (sym (append-nil r.log)) r.numbered)
            (omega (arith, long, ap posted bare, ap posted asks_now)) (
              rest,
              append-nil r.log ∙ sits.front.1,
              subst (λ z. IsPosted v.seat (posts_by v.seat next) z rest) (sym asks_now) (new, mine, refl, (rest, [], sym (append-nil (rest ++ []) ∙ append-nil rest), quiet.1, refl)),
            )
            (λ j ne. same_keeps r.posts next j (ap (posts_by j) held ∙ posts_added j r.posts new ne)),
        refl,
      )

  -- the entries of a group that was carried out on the value that the seat carries
  pub records : (slots me n : ℕ) (m : Me (Option X) View) (x : X) (made : List Entry) → m.0.stage ≡ Out (ticket_of m.0.stage) (log_of m.0.stage) (posts_of m.0.stage) → m.1 ≡ (0, Some x) ∷ []
      → n ≡ length made → AreCarriedOut (posts_of m.0.stage) (posts_in x) made → HaveSeatsBelow m.0.passes made → stands x m.0.start (log_of m.0.stage ++ made)
      → Allows Rule slots me m 0 (λ z. (z + n) % 2 ^ 64) (recorded stands posts_in (step slots 0 n 0 none) m)
  records slots me n m x made out carried count group below stood s r len at fits =
      let v = m.0 in let k = ticket_of v.stage in let l = log_of v.stage in let f = r.each me v at in
      let p = placed_at s r me v (Out k l (posts_of v.stage)) at out in let b = began_at s r me v (Out k l (posts_of v.stage)) at out in
      let sits : Sits r.log r.posts r.seats me v = p.0 in
      let one : tickets v ≡ 1 = ap ticketed out in
      let next : List Post = carried_posts posts_in m.1 in
      let w : View = placed (Out k (l ++ made) next) v in
      let held : next ≡ posts_in x = ap (carried_posts posts_in) carried in
      let group' : AreCarriedOut r.posts next made = subst (λ (z : List Post × List Post). AreCarriedOut z.0 z.1 made) (λ i. (p.5 i, sym held i)) group in
      let keep : (j : ℕ) → Keeps r.posts next made j = carried_keeps r.posts next made group' in
      let as_next : l ++ made ≡ r.log ++ made = ap (λ z. z ++ made) p.4 in
      let numbered : HaveSeatsBelow passes (r.log ++ made) = below_append passes r.log made r.numbered (subst (λ t. HaveSeatsBelow t made) b.2 below) in
      let long : length next ≡ length r.posts = carried_length r.posts next made group' in
      let front : IsFollowed (r.log ++ made) next v.seat v.seen v.post = followed_later r.log r.posts next v.seat v.seen made v.post (keep v.seat) sits.front in (
        w,
        keeps,
        tt,
        turns_on s r me n v w made next at out count (ap (λ z. placed (Out k z next) v) as_next) numbered (omega (arith, long)) front (λ j ne. keep j),
        (
          made,
          refl,
          (λ y e. subst (λ z. stands z v.start (l ++ made)) (only_carried x y (sym carried ∙ e)) stood),
          record {
            front = subst (λ (z : List Entry). IsFollowed z next v.seat v.seen v.post) (sym as_next) front;
            numbered = subst (λ (z : ℕ × List Entry). HaveSeatsBelow z.0 z.1) (λ i. (sym b.2 i, sym as_next i)) numbered;
            seat = omega (arith, b.2, b.3);
            room = λ bare. let none_yet : asks v ≡ 0 = ap posted bare in
                let less : total asks s.views < total parts s.views = total_less asks parts s.views me v at (omega (arith, f.part, one, none_yet)) (λ i u e. (r.each i u e).ask) in
                omega (arith, less, r.stock, r.whole, b.2, long);
          },
        ),
      )
    where
      carried_of : X → List (ℕ × Option X) → X
      carried_of d ((k, Some y) ∷ c) = y
      carried_of d _ = d

      only_carried : (x y : X) → ◌≡◌ {A = List (ℕ × Option X)} ((0, Some x) ∷ []) ((0, Some y) ∷ []) → x ≡ y
      only_carried x y e = ap (carried_of x) e

  -- the seat takes its post out, and has seen the history up to what this one came to
  pub collects : (slots me : ℕ) (m : Me (Option X) View) (x : X) (q : Post) (ask : Ask) → m.0.stage ≡ Out (ticket_of m.0.stage) (log_of m.0.stage) (posts_of m.0.stage) → m.1 ≡ (0, Some x) ∷ []
      → m.0.post ≡ Some ask → IsTaken m.0.seat (posts_of m.0.stage) q (posts_in x)
      → Allows Rule slots me m 0 (λ z. (z + 0) % 2 ^ 64) (collected posts_in (step slots 0 0 0 none) m)
  collects slots me m x q ask out carried has taken s r len at fits =
      let v = m.0 in let k = ticket_of v.stage in let l = log_of v.stage in
      let f = placed_at s r me v (Out k l (posts_of v.stage)) at out in
      let sits : Sits r.log r.posts r.seats me v = f.0 in
      let a : List Post = taken.0 in let b : List Post = taken.1 in
      let next : List Post = carried_posts posts_in m.1 in
      let old : r.posts ≡ a ++ q ∷ b = sym f.5 ∙ taken.2 in
      let held : next ≡ a ++ b = ap (carried_posts posts_in) carried ∙ taken.3 in
      let seat : q.seat ≡ v.seat = taken.4 in
      let o : IsPosted v.seat (posts_by v.seat r.posts) (Some ask) sits.front.0 = subst (λ z. IsPosted v.seat (posts_by v.seat r.posts) z sits.front.0) has sits.front.2 in
      let own : List Entry = post_entries o.0 in
      let before : List Entry = o.3.0 in let after : List Entry = o.3.1 in
      let w : View = record v { seen = v.seen ++ (before ++ own); post = None; stage = Out k l next } in
      let whole : l ≡ v.seen ++ ((before ++ own) ++ after) = f.4 ∙ (sits.front.1 ∙ ap (λ z. v.seen ++ z) o.3.2) in
      let mine : posts_by v.seat next ≡ [] = ap (posts_by v.seat) held ∙ posts_gone v.seat a b q o.0 seat (ap (posts_by v.seat) (sym old) ∙ o.1) in
      let fewer : length r.posts ≡ length next + 1 = omega (arith, ap length old, length-append a (q ∷ b), ap length held, length-append a b) in (
        w,
        keeps,
        tt,
        turns_on s r me 0 v w [] next at out refl
            (ap (λ z. record v { seen = v.seen ++ (before ++ own); post = None; stage = Out k z next }) (f.4 ∙ sym (append-nil r.log)))
            (subst (HaveSeatsBelow passes) (sym (append-nil r.log)) r.numbered)
            (omega (arith, fewer, ap posted has))
            (after, append-nil r.log ∙ (sym f.4 ∙ (whole ∙ sym (append_assoc v.seen (before ++ own) after))), (mine, o.3.4))
            (λ j ne. same_keeps r.posts next j (ap (posts_by j) held ∙ (posts_taken j a b q (λ e. ne (e ∙ seat)) ∙ ap (posts_by j) (sym old)))),
        (
          o.0,
          before,
          after,
          ap (posts_by v.seat) f.5 ∙ o.1,
          whole,
          o.3.3,
          refl,
          (λ other is. o.2 ∙ ap (λ z. asked_by v.seat z) (same_ask ask other (sym has ∙ is))),
        ),
      )
    where
      ask_or : Ask → Option Ask → Ask
      ask_or d (Some y) = y
      ask_or d None = d

      same_ask : (y z : Ask) → ◌≡◌ {A = Option Ask} (Some y) (Some z) → y ≡ z
      same_ask y z e = ap (ask_or y) e

  pub gives_back : (slots me : ℕ) (m : Me (Option X) View) (x : X) → slots ≡ 1 → m.0.stage ≡ Out (ticket_of m.0.stage) (log_of m.0.stage) (posts_of m.0.stage) → m.1 ≡ (0, Some x) ∷ [] → stands x m.0.start (log_of m.0.stage) → origin_of x ≡ m.0.origin
      → posts_in x ≡ posts_of m.0.stage → arranged m.0.passes x
      → Allows Rule slots me m 0 (λ n. n) (gave (step slots 0 0 0 none) m)
  gives_back slots me m x single out carried stood from held kept s r len at fits =
      let v = m.0 in let k = ticket_of v.stage in let l = log_of v.stage in let f = r.each me v at in let w = placed (Turn k) v in
      let p = placed_at s r me v (Out k l (posts_of v.stage)) at out in let b = began_at s r me v (Out k l (posts_of v.stage)) at out in
      let one : tickets v ≡ 1 = ap ticketed out in
      let homes : homes_after s.homes m.1 gives ≡ some (Some x) ∷ [] = ap (λ c. homes_after s.homes c gives) carried ∙ one_slot s.homes (some (Some x)) (len ∙ single) in (
        w,
        gives,
        tt,
        loads s r 0 me v w (homes_after s.homes m.1 gives) at refl (sym one) refl
            record { part = omega (arith, f.part, one); ask = f.ask; began = b; placed = (sits_so r.log r.posts r.seats me v (Turn k) p.0, p.1, p.2, p.3) }
            (λ _. (x, homes, subst (λ (z : model.State × List Entry). stands x z.0 z.1) (λ i. (b.0 i, p.4 i)) stood, from ∙ b.1, held ∙ p.5, subst (λ t. arranged t x) b.2 kept)),
        refl,
      )

  pub leaves : (slots me : ℕ) (m : Me (Option X) View) → m.0.stage ≡ Turn (ticket_of m.0.stage) → Allows Rule slots me m 2 (λ n. (n + 1) % 2 ^ 64) (passed (step slots 2 1 0 none) m)
  leaves slots me m turn s r len at fits =
      let v = m.0 in let k = ticket_of v.stage in let f = r.each me v at in let w = placed Idle v in
      let p = placed_at s r me v (Turn k) at turn in let b = began_at s r me v (Turn k) at turn in
      let one : tickets v ≡ 1 = ap ticketed turn in (
        w,
        keeps,
        tt,
        changes s r me v w at (set s.words 2 ((get_or s.words 2 0 + 1) % 2 ^ 64)) s.homes r.log r.posts r.drawn (r.served + 1) r.owner r.numbered
            (ap (λ ws. set ws 2 ((get_or ws 2 0 + 1) % 2 ^ 64)) r.words ∙ ap (λ n. word (length r.log) ∷ word r.drawn ∷ n ∷ []) (mod-add-mod r.served (2 ^ 64) 1))
            refl
            (omega (arith, one))
            refl
            record { part = omega arith; ask = f.ask; began = b; placed = sits_so r.log r.posts r.seats me v Idle p.0 }
            (λ j u apart e. let g = r.each j u e in record { part = g.part; ask = g.ask; began = g.began; placed = others_leave j u apart e u.stage refl g.placed })
            (λ z. r.home (same_outs s r me v w at (sym (ap out_at turn)) z)),
        refl,
      )
    where
      mine_now : r.owner r.served ≡ me
      mine_now = let p = placed_at s r me m.0 (Turn (ticket_of m.0.stage)) at turn in ap r.owner (sym p.1) ∙ p.3

      others_leave : (j : ℕ) (u : View) → j ≢ me → get_elem? s.views j ≡ some u → (stage : Stage) → u.stage ≡ stage → IsPlaced r.log r.posts r.drawn r.served r.owner r.seats stage j u → IsPlaced r.log r.posts r.drawn (r.served + 1) r.owner r.seats stage j u
      others_leave j u apart e Note is h = h
      others_leave j u apart e Idle is h = h
      others_leave j u apart e (Waits k) is h = let ne : k ≢ r.served = (λ z. apart (sym h.3 ∙ (ap r.owner z ∙ mine_now))) in let le = h.1 in (h.0, omega (arith, le, ne), h.2, h.3)
      others_leave j u apart e (Turn k) is h = absurd (alone s r me j u mine_now e apart (Turn k) is h (inl refl))
      others_leave j u apart e (Out k l p) is h = absurd (alone s r me j u mine_now e apart (Out k l p) is h (inr refl))
      others_leave j u apart e Spent is h = tt
