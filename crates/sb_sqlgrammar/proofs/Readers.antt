-- Readers that are put together of exact ones are exact.
use Rattle.std.proofs.Common.{◌≡◌, ℕ, zero, suc, ◌<◌, ◌≤◌, Bool, true, false, List, [], ◌∷◌, ◌++◌, length, Option, Some, None, Result, Ok, Err, refl, ap, sym, ◌∙◌, append_assoc, append-nil, subst, inl, inr, ◌⊎◌, length-append, arith}
use Rattle.sb_model.specs.Readers.{Reader, Grammar, ◌>>=◌, pure, one, one_at, next, either, either_at, repeat, repeat_in, repeat_at, ended, Nothing, One, Next, Either, Repeat, stop, go}
use Rattle.sb_sqlgrammar.specs.Exact.{other_tail, Stops, Found, Fault, Exact, Example}

pub bind_ok : {A B E : Type 0} (r : Result A E) (f : A → Result B E) (y : B) → (r >>= f) ≡ Ok y → (x : A) × (r ≡ Ok x) × (f x ≡ Ok y)
bind_ok (Ok x) f y e = (x, refl, e)
bind_ok (Err d) f y e = absurd cc

pub bind_err : {A B E : Type 0} (r : Result A E) (f : A → Result B E) (d : E) → (r >>= f) ≡ Err d → (r ≡ Err d) ⊎ ((x : A) × (r ≡ Ok x) × (f x ≡ Err d))
bind_err (Ok x) f d e = inr (x, refl, e)
bind_err (Err d') f d e = inl (cc)

-- the tokens up to the next one and other ones behind it, seen from further left
pub seen_from : {K : Type 0} (v rest tail : List K) → (other : List K) × (other_tail (v ++ rest) other ≡ v ++ other_tail rest tail)
seen_from [] rest tail = (tail, refl)
seen_from (k ∷ v) rest tail = (v ++ other_tail rest tail, refl)

found_again : {K T : Type 0} (R : Reader K T) (S : Grammar K T) (ts : List K) (t : T) (rest v w tail : List K) → (f : Found R S ts t rest) → rest ≡ v ++ w → R (f.front ++ (v ++ other_tail w tail)) ≡ Ok (t, v ++ other_tail w tail)
found_again {K = K} {T = T} R S ts t rest v w tail f e =
    let s = seen_from v w tail in
    let shown : other_tail rest s.0 ≡ v ++ other_tail w tail = ap (λ (x : List K). other_tail x s.0) e ∙ s.1 in
    subst (λ (x : List K). R (f.front ++ x) ≡ Ok (t, x)) shown (f.again s.0)

pub exact_next : {K A B : Type 0} (R : Reader K A) (S : Grammar K A) (g : K → Bool) (Q : A → Reader K B) (P : A → Grammar K B) (h : K → Bool)
    → Exact R S g → ((a : A) → Exact (Q a) (P a) h) → ((a : A) → Example (P a))
    → ((a : A) (u : List K) (t : B) (rest : List K) → P a u t → Stops h rest → Stops g (u ++ rest))
    → Exact (next R Q) (Next S P) h
exact_next {K = K} {A = A} {B = B} R S g Q P h r q example fits = record {
  found = λ ts t rest e.
      let b = bind_ok (R ts) (λ (x : A × List K). Q x.0 x.1) (t, rest) e in
      let one : Found R S ts b.0.0 b.0.1 = r.found ts b.0.0 b.0.1 b.1 in
      let two : Found (Q b.0.0) (P b.0.0) b.0.1 t rest = (q b.0.0).found b.0.1 t rest b.2 in
      record {
        front = one.front ++ two.front;
        split = one.split ∙ ap (λ (x : List K). one.front ++ x) two.split ∙ sym (append_assoc one.front two.front rest);
        spelled = record { front = one.front; first = b.0.0; back = two.front; split = refl; begins = one.spelled; follows = two.spelled };
        again = λ tail.
            let first = found_again R S ts b.0.0 b.0.1 two.front rest tail one two.split in
            rw (append_assoc, first) (two.again tail);
      };
  only = λ u t rest s stops.
      let first = r.only s.front s.first (s.back ++ rest) s.begins (fits s.first s.back t rest s.follows stops) in
      rw (s.split, append_assoc, first) ((q s.first).only s.back t rest s.follows stops);
  fault = λ ts rest e.
      elim (bind_err (R ts) (λ (x : A × List K). Q x.0 x.1) rest e) [
        | inl early ↦
            let one : Fault R S ts rest = r.fault ts rest early in
            let x : Example (P one.tree) = example one.tree in
            record {
              front = one.front;
              split = one.split;
              more = one.more ++ x.tokens;
              tree = x.tree;
              completed = record { front = one.front ++ one.more; first = one.tree; back = x.tokens; split = sym (append_assoc one.front one.more x.tokens); begins = one.completed; follows = x.spelled };
              again = λ tail. rw (one.again tail) refl;
            }
        | inr late ↦
            let one : Found R S ts late.0.0 late.0.1 = r.found ts late.0.0 late.0.1 late.1 in
            let two : Fault (Q late.0.0) (P late.0.0) late.0.1 rest = (q late.0.0).fault late.0.1 rest late.2 in
            record {
              front = one.front ++ two.front;
              split = one.split ∙ ap (λ (x : List K). one.front ++ x) two.split ∙ sym (append_assoc one.front two.front rest);
              more = two.more;
              tree = two.tree;
              completed = record { front = one.front; first = late.0.0; back = two.front ++ two.more; split = append_assoc one.front two.front two.more; begins = one.spelled; follows = two.completed };
              again = λ tail.
                  let first = found_again R S ts late.0.0 late.0.1 two.front rest tail one two.split in
                  rw (append_assoc, first) (two.again tail);
            }
      ];
}

abbrev done : {K T : Type 0} → T → List K → Result (T × List K) (List K)
done t ts = Ok (t, ts)

abbrev ok_of : {A E : Type 0} → A → Result A E
ok_of x = Ok x

ok_is : {A E : Type 0} (x y : A) → ok_of {E = E} x ≡ ok_of y → x ≡ y
ok_is x y e = cc

pub pair_ok : {K T : Type 0} (t x : T) (ts us : List K) → done t ts ≡ done x us → (t ≡ x) × (ts ≡ us)
pair_ok {K = K} {T = T} t x ts us e =
    let p = ok_is (t, ts) (x, us) e in
    (ap (λ (q : T × List K). q.0) p, ap (λ (q : T × List K). q.1) p)

pub exact_pure : {K T : Type 0} (x : T) (g : K → Bool) → Exact (pure {K = K} x) (Nothing x) g
exact_pure {K = K} {T = T} x g = record {
  found = λ ts t rest e.
      let same : ts ≡ rest = (pair_ok x t ts rest e).1 in
      let tree : t ≡ x = sym (pair_ok x t ts rest e).0 in
      record { front = []; split = same; spelled = record { no_token = refl; tree = tree }; again = λ tail. rw tree refl };
  only = λ u t rest s stops. rw (s.no_token, s.tree) refl;
  fault = λ ts rest e. absurd cc;
}

pub exact_ended : {K T : Type 0} (x : T) → Exact (ended {K = K} x) (Nothing x) (λ k. true)
exact_ended {K = K} {T = T} x = record {
  found = found;
  only = λ u t rest s stops. at_end u t rest s stops;
  fault = fault;
} where
  found : (ts : List K) (t : T) (rest : List K) → ended x ts ≡ Ok (t, rest) → Found (ended x) (Nothing x) ts t rest
  found [] t rest e =
      let none : [] ≡ rest = (pair_ok x t [] rest e).1 in
      let tree : t ≡ x = sym (pair_ok x t [] rest e).0 in
      record { front = []; split = none; spelled = record { no_token = refl; tree = tree }; again = λ tail. rw (← none, tree) refl }
  found (k ∷ ts) t rest e = absurd cc

  at_end : (u : List K) (t : T) (rest : List K) → Nothing x u t → Stops (λ k. true) rest → ended x (u ++ rest) ≡ Ok (t, rest)
  at_end u t [] s stops = rw (s.no_token, s.tree) refl
  at_end u t (k ∷ rest) s stops = absurd cc

  fault : (ts rest : List K) → ended x ts ≡ Err rest → Fault (ended x) (Nothing x) ts rest
  fault [] rest e = absurd cc
  fault (k ∷ ts) rest e =
      let same : k ∷ ts ≡ rest = cc in
      record { front = []; split = same; more = []; tree = x; completed = record { no_token = refl; tree = refl }; again = λ tail. rw (← same) refl }

pub exact_one : {K T : Type 0} (f : K → Option T) (k0 : K) (x0 : T) → f k0 ≡ Some x0 → (g : K → Bool) → Exact (one f) (One f) g
exact_one {K = K} {T = T} f k0 x0 some g = record {
  found = found;
  only = λ u t rest s stops. rw (s.alone, s.tree) refl;
  fault = fault;
} where
  found_at : (k : K) (ts : List K) (t : T) (rest : List K) (o : Option T) → f k ≡ o → one_at o k ts ≡ Ok (t, rest) → Found (one f) (One f) (k ∷ ts) t rest
  found_at k ts t rest (Some x) is e =
      let tree : x ≡ t = (pair_ok x t ts rest e).0 in
      let same : ts ≡ rest = (pair_ok x t ts rest e).1 in
      let was : f k ≡ Some t = is ∙ ap Some tree in
      record { front = k ∷ []; split = ap (λ (r : List K). k ∷ r) same; spelled = record { token = k; alone = refl; tree = was }; again = λ tail. rw was refl }
  found_at k ts t rest None is e = absurd cc

  found : (ts : List K) (t : T) (rest : List K) → one f ts ≡ Ok (t, rest) → Found (one f) (One f) ts t rest
  found [] t rest e = absurd cc
  found (k ∷ ts) t rest e = found_at k ts t rest (f k) refl e

  fault_at : (k : K) (ts rest : List K) (o : Option T) → f k ≡ o → one_at o k ts ≡ Err rest → Fault (one f) (One f) (k ∷ ts) rest
  fault_at k ts rest (Some x) is e = absurd cc
  fault_at k ts rest None is e =
      let same : k ∷ ts ≡ rest = cc in
      record { front = []; split = same; more = k0 ∷ []; tree = x0; completed = record { token = k0; alone = refl; tree = some }; again = λ tail. rw (← same, is) refl }

  fault : (ts rest : List K) → one f ts ≡ Err rest → Fault (one f) (One f) ts rest
  fault [] rest e =
      let same : [] ≡ rest = cc in
      record { front = []; split = same; more = k0 ∷ []; tree = x0; completed = record { token = k0; alone = refl; tree = some }; again = λ tail. rw (← same) refl }
  fault (k ∷ ts) rest e = fault_at k ts rest (f k) refl e

pub record Apart {K A T : Type 0} (f : K → Option A) (O : List K → T → Type 0) (g : K → Bool) : Type 0 where
  pub apart : (k : K) (a : A) (v : List K) (t : T) → f k ≡ Some a → O (k ∷ v) t → ⊥
  pub gone : (k : K) (a : A) (t : T) → f k ≡ Some a → O [] t → g k ≡ true

pub exact_either : {K A T : Type 0} (f : K → Option A) (Q : A → Reader K T) (P : A → Grammar K T) (R : Reader K T) (O : Grammar K T) (g : K → Bool)
    → ((a : A) → Exact (Q a) (P a) g) → Exact R O g → Apart f O g
    → Exact (either f Q R) (Either f P O) g
exact_either {K = K} {A = A} {T = T} f Q P R O g q r apart = record {
  found = found;
  only = only;
  fault = fault;
} where
  plain : (k : K) (ts : List K) → f k ≡ None → either f Q R (k ∷ ts) ≡ R (k ∷ ts)
  plain k ts is = rw is refl

  plain_from : (v rest tail : List K) → (k : K) (ts : List K) → k ∷ ts ≡ v ++ rest → f k ≡ None → either f Q R (v ++ other_tail rest tail) ≡ R (v ++ other_tail rest tail)
  plain_from [] [] tail k ts e is = absurd cc
  plain_from [] (j ∷ rest) tail k ts e is =
      let same : k ≡ j = cc in
      plain j tail (rw same at is)
  plain_from (j ∷ v) rest tail k ts e is =
      let same : k ≡ j = cc in
      plain j (v ++ other_tail rest tail) (rw same at is)

  empty : (v rest tail : List K) → [] ≡ v ++ rest → either f Q R (v ++ other_tail rest tail) ≡ R (v ++ other_tail rest tail)
  empty [] [] tail e = refl
  empty [] (k ∷ rest) tail e = absurd cc
  empty (k ∷ v) rest tail e = absurd cc

  found_at : (k : K) (ts : List K) (t : T) (rest : List K) (o : Option A) → f k ≡ o → either_at Q R o k ts ≡ Ok (t, rest) → Found (either f Q R) (Either f P O) (k ∷ ts) t rest
  found_at k ts t rest (Some a) is e =
      let x : Found (Q a) (P a) ts t rest = (q a).found ts t rest e in
      record { front = k ∷ x.front; split = ap (λ (r : List K). k ∷ r) x.split; spelled = inr (record { token = k; class = a; back = x.front; split = refl; is = is; follows = x.spelled }); again = λ tail. rw is (x.again tail) }
  found_at k ts t rest None is e =
      let x : Found R O (k ∷ ts) t rest = r.found (k ∷ ts) t rest e in
      record { front = x.front; split = x.split; spelled = inl x.spelled; again = λ tail. plain_from x.front rest tail k ts x.split is ∙ x.again tail }

  found : (ts : List K) (t : T) (rest : List K) → either f Q R ts ≡ Ok (t, rest) → Found (either f Q R) (Either f P O) ts t rest
  found [] t rest e =
      let x : Found R O [] t rest = r.found [] t rest e in
      record { front = x.front; split = x.split; spelled = inl x.spelled; again = λ tail. empty x.front rest tail x.split ∙ x.again tail }
  found (k ∷ ts) t rest e = found_at k ts t rest (f k) refl e

  plain_only : (u : List K) (t : T) (rest : List K) → O u t → Stops g rest → either f Q R (u ++ rest) ≡ R (u ++ rest)
  plain_only [] t [] s stops = refl
  plain_only [] t (k ∷ rest) s stops = plain k rest (none_of (f k) refl) where
    none_of : (o : Option A) → f k ≡ o → f k ≡ None
    none_of None is = is
    none_of (Some a) is = let on : g k ≡ true = apart.gone k a t is s in absurd cc
  plain_only (k ∷ v) t rest s stops = plain k (v ++ rest) (none_of (f k) refl) where
    none_of : (o : Option A) → f k ≡ o → f k ≡ None
    none_of None is = is
    none_of (Some a) is = absurd (apart.apart k a v t is s)

  only : (u : List K) (t : T) (rest : List K) → Either f P O u t → Stops g rest → either f Q R (u ++ rest) ≡ Ok (t, rest)
  only u t rest (inl s) stops = plain_only u t rest s stops ∙ r.only u t rest s stops
  only u t rest (inr s) stops = rw (s.split, s.is) ((q s.class).only s.back t rest s.follows stops)

  fault_at : (k : K) (ts rest : List K) (o : Option A) → f k ≡ o → either_at Q R o k ts ≡ Err rest → Fault (either f Q R) (Either f P O) (k ∷ ts) rest
  fault_at k ts rest (Some a) is e =
      let x : Fault (Q a) (P a) ts rest = (q a).fault ts rest e in
      record { front = k ∷ x.front; split = ap (λ (r : List K). k ∷ r) x.split; more = x.more; tree = x.tree; completed = inr (record { token = k; class = a; back = x.front ++ x.more; split = refl; is = is; follows = x.completed }); again = λ tail. rw is (x.again tail) }
  fault_at k ts rest None is e =
      let x : Fault R O (k ∷ ts) rest = r.fault (k ∷ ts) rest e in
      record { front = x.front; split = x.split; more = x.more; tree = x.tree; completed = inl x.completed; again = λ tail. plain_from x.front rest tail k ts x.split is ∙ x.again tail }

  fault : (ts rest : List K) → either f Q R ts ≡ Err rest → Fault (either f Q R) (Either f P O) ts rest
  fault [] rest e =
      let x : Fault R O [] rest = r.fault [] rest e in
      record { front = x.front; split = x.split; more = x.more; tree = x.tree; completed = inl x.completed; again = λ tail. empty x.front rest tail x.split ∙ x.again tail }
  fault (k ∷ ts) rest e = fault_at k ts rest (f k) refl e

-- what a repetition needs of its parts
pub record Chain {K O A : Type 0} (op : K → Option O) (item : Reader K A) (S : Grammar K A) (gi g : K → Bool) : Type 0 where
  pub operand : Exact item S gi
  pub op_stops : (k : K) (o : O) → op k ≡ Some o → gi k ≡ false
  pub stops : (k : K) → g k ≡ false → gi k ≡ false
  pub no_op : (k : K) → g k ≡ false → op k ≡ None

pub stops_in : {K : Type 0} (g gi : K → Bool) → ((k : K) → g k ≡ false → gi k ≡ false) → (rest : List K) → Stops g rest → Stops gi rest
stops_in g gi sub [] stops = tt
stops_in g gi sub (k ∷ rest) stops = sub k stops

repeat_fits : {K O A B : Type 0} (op : K → Option O) (item : Reader K A) (S : Grammar K A) (grow : B → O → A → B) (gi g : K → Bool) → Chain op item S gi g
    → (b : B) (w : List K) (c : B) (rest : List K) → Repeat op S grow b w c → Stops g rest → Stops gi (w ++ rest)
repeat_fits op item S grow gi g ch b w c rest stop stops = stops_in g gi ch.stops rest stops
repeat_fits op item S grow gi g ch b w c rest (go {k = k} {o = o} is s more) stops = ch.op_stops k o is

repeat_only : {K O A B : Type 0} (op : K → Option O) (item : Reader K A) (S : Grammar K A) (grow : B → O → A → B) (gi g : K → Bool) → Chain op item S gi g
    → (b : B) (w : List K) (c : B) → Repeat op S grow b w c → (n : ℕ) (rest : List K) → Stops g rest → length (w ++ rest) < n → repeat_in op item grow n b (w ++ rest) ≡ Ok (c, rest)
repeat_only op item S grow gi g ch b w c stop zero rest stops long = absurd (omega arith)
repeat_only op item S grow gi g ch b w c stop (suc n) [] stops long = refl
repeat_only op item S grow gi g ch b w c stop (suc n) (k ∷ rest) stops long = rw (ch.no_op k stops) refl
repeat_only op item S grow gi g ch b w c (go is s more) zero rest stops long = absurd (omega arith)
repeat_only op item S grow gi g ch b w c (go {k = k} {o = o} {a = a} {v = v} {w = w'} is s more) (suc n) rest stops long =
    let first : item (v ++ (w' ++ rest)) ≡ Ok (a, w' ++ rest) = ch.operand.only v a (w' ++ rest) s (repeat_fits op item S grow gi g ch (grow b o a) w' c rest more stops) in
    let shorter : length (w' ++ rest) < n = omega (arith, length-append (v ++ w') rest, length-append v w', length-append w' rest) in
    rw (is, append_assoc, first) (repeat_only op item S grow gi g ch (grow b o a) w' c more n rest stops shorter)

record RepeatFound {K O A B : Type 0} (op : K → Option O) (item : List K → Result (A × List K) (List K)) (S : List K → A → Type 0) (grow : B → O → A → B) (b : B) (ts : List K) (c : B) (rest : List K) : Type 0 where
  front : List K
  split : ts ≡ front ++ rest
  spelled : Repeat op S grow b front c
  again : (m : ℕ) (tail : List K) → length (front ++ other_tail rest tail) < m → repeat_in op item grow m b (front ++ other_tail rest tail) ≡ Ok (c, other_tail rest tail)

record RepeatFault {K O A B : Type 0} (op : K → Option O) (item : List K → Result (A × List K) (List K)) (S : List K → A → Type 0) (grow : B → O → A → B) (b : B) (ts rest : List K) : Type 0 where
  front : List K
  split : ts ≡ front ++ rest
  more : List K
  tree : B
  completed : Repeat op S grow b (front ++ more) tree
  again : (m : ℕ) (tail : List K) → length (front ++ other_tail rest tail) < m → repeat_in op item grow m b (front ++ other_tail rest tail) ≡ Err (other_tail rest tail)

shorter_rest : {K : Type 0} (k : K) (ts front rest : List K) (n : ℕ) → ts ≡ front ++ rest → length (k ∷ ts) < suc n → length rest < n
shorter_rest k ts front rest n e long = omega (arith, length-append front rest, ap length e)

shorter_tail : {K : Type 0} (k : K) (v w : List K) (n : ℕ) → length (k ∷ (v ++ w)) < suc n → length w < n
shorter_tail k v w n long = omega (arith, length-append v w)

regrouped : {K : Type 0} (k : K) (v w r : List K) (m : ℕ) → length ((k ∷ (v ++ w)) ++ r) < m → length (k ∷ (v ++ (w ++ r))) < m
regrouped k v w r m long = omega (arith, length-append (v ++ w) r, length-append v w, length-append w r, length-append v (w ++ r))

again_stands : {K O A B : Type 0} (op : K → Option O) (item : Reader K A) (grow : B → O → A → B) (b : B) (m : ℕ) (k : K) (tail : List K) → op k ≡ None → 0 < m → repeat_in op item grow m b (k ∷ tail) ≡ Ok (b, k ∷ tail)
again_stands op item grow b zero k tail is long = absurd (omega arith)
again_stands op item grow b (suc m) k tail is long = rw is refl

again_empty : {K O A B : Type 0} (op : K → Option O) (item : Reader K A) (grow : B → O → A → B) (b : B) (m : ℕ) → 0 < m → repeat_in op item grow m b [] ≡ Ok (b, [])
again_empty op item grow b zero long = absurd (omega arith)
again_empty op item grow b (suc m) long = refl

again_onward : {K O A B : Type 0} (op : K → Option O) (item : Reader K A) (grow : B → O → A → B) (b : B) (m : ℕ) (k : K) (o : O) (a : A) (front w : List K) (y : Result (B × List K) (List K))
    → op k ≡ Some o → item (front ++ w) ≡ Ok (a, w) → length (k ∷ (front ++ w)) < m → ((m : ℕ) → length w < m → repeat_in op item grow m (grow b o a) w ≡ y) → repeat_in op item grow m b (k ∷ (front ++ w)) ≡ y
again_onward op item grow b zero k o a front w y is first long then = absurd (omega arith)
again_onward op item grow b (suc m) k o a front w y is first long then = rw (is, first) (then m (shorter_tail k front w m long))

again_fails : {K O A B : Type 0} (op : K → Option O) (item : Reader K A) (grow : B → O → A → B) (b : B) (m : ℕ) (k : K) (o : O) (ts rest : List K)
    → op k ≡ Some o → item ts ≡ Err rest → 0 < m → repeat_in op item grow m b (k ∷ ts) ≡ Err rest
again_fails op item grow b zero k o ts rest is first long = absurd (omega arith)
again_fails op item grow b (suc m) k o ts rest is first long = rw (is, first) refl

repeat_found : {K O A B : Type 0} (op : K → Option O) (item : Reader K A) (S : Grammar K A) (grow : B → O → A → B) (gi g : K → Bool) → Chain op item S gi g
    → (n : ℕ) (b : B) (ts : List K) (c : B) (rest : List K) → length ts < n → repeat_in op item grow n b ts ≡ Ok (c, rest) → RepeatFound op item S grow b ts c rest
repeat_found op item S grow gi g ch zero b ts c rest long e = absurd (omega arith)
repeat_found op item S grow gi g ch (suc n) b [] c rest long e =
    let same : b ≡ c = (pair_ok b c [] rest e).0 in
    let none : [] ≡ rest = (pair_ok b c [] rest e).1 in
    rw (← same, ← none) (record { front = []; split = refl; spelled = stop; again = λ m tail long. again_empty op item grow b m long })
repeat_found {K = K} {O = O} {A = A} {B = B} op item S grow gi g ch (suc n) b (k ∷ ts) c rest long e = at (op k) refl e (λ b' ts' short e'. repeat_found op item S grow gi g ch n b' ts' c rest short e') where
  at : (o : Option O) → op k ≡ o → repeat_at (λ o. item ts >>= λ x. repeat_in op item grow n (grow b o x.0) x.1) o b k ts ≡ Ok (c, rest)
      → ((b' : B) (ts' : List K) → length ts' < n → repeat_in op item grow n b' ts' ≡ Ok (c, rest) → RepeatFound op item S grow b' ts' c rest) → RepeatFound op item S grow b (k ∷ ts) c rest
  at None is e ih =
      let same : b ≡ c = (pair_ok b c (k ∷ ts) rest e).0 in
      let all : k ∷ ts ≡ rest = (pair_ok b c (k ∷ ts) rest e).1 in
      rw (← same, ← all) (record { front = []; split = refl; spelled = stop; again = λ m tail long. again_stands op item grow b m k tail is (omega arith) })
  at (Some o) is e ih =
      let x = bind_ok (item ts) (λ (x : A × List K). repeat_in op item grow n (grow b o x.0) x.1) (c, rest) e in
      let one : Found item S ts x.0.0 x.0.1 = ch.operand.found ts x.0.0 x.0.1 x.1 in
      let two : RepeatFound op item S grow (grow b o x.0.0) x.0.1 c rest = ih (grow b o x.0.0) x.0.1 (shorter_rest k ts one.front x.0.1 n one.split long) x.2 in
      record {
        front = k ∷ (one.front ++ two.front);
        split = ap (λ (r : List K). k ∷ r) (one.split ∙ ap (λ (r : List K). one.front ++ r) two.split ∙ sym (append_assoc one.front two.front rest));
        spelled = go is one.spelled two.spelled;
        again = λ m tail long.
            let first = found_again item S ts x.0.0 x.0.1 two.front rest tail one two.split in
            let short = regrouped k one.front two.front (other_tail rest tail) m long in
            rw append_assoc (again_onward op item grow b m k o x.0.0 one.front (two.front ++ other_tail rest tail) (Ok (c, other_tail rest tail)) is first short (λ m shorter. two.again m tail shorter));
      }

repeat_fault : {K O A B : Type 0} (op : K → Option O) (item : Reader K A) (S : Grammar K A) (grow : B → O → A → B) (gi g : K → Bool) → Chain op item S gi g
    → (n : ℕ) (b : B) (ts rest : List K) → length ts < n → repeat_in op item grow n b ts ≡ Err rest → RepeatFault op item S grow b ts rest
repeat_fault op item S grow gi g ch zero b ts rest long e = absurd (omega arith)
repeat_fault op item S grow gi g ch (suc n) b [] rest long e = absurd cc
repeat_fault {K = K} {O = O} {A = A} {B = B} op item S grow gi g ch (suc n) b (k ∷ ts) rest long e = at (op k) refl e (λ b' ts' short e'. repeat_fault op item S grow gi g ch n b' ts' rest short e') where
  at : (o : Option O) → op k ≡ o → repeat_at (λ o. item ts >>= λ x. repeat_in op item grow n (grow b o x.0) x.1) o b k ts ≡ Err rest
      → ((b' : B) (ts' : List K) → length ts' < n → repeat_in op item grow n b' ts' ≡ Err rest → RepeatFault op item S grow b' ts' rest) → RepeatFault op item S grow b (k ∷ ts) rest
  at None is e ih = absurd cc
  at (Some o) is e ih =
      elim (bind_err (item ts) (λ (x : A × List K). repeat_in op item grow n (grow b o x.0) x.1) rest e) [
        | inl early ↦
            let one : Fault item S ts rest = ch.operand.fault ts rest early in
            record {
              front = k ∷ one.front;
              split = ap (λ (r : List K). k ∷ r) one.split;
              more = one.more;
              tree = grow b o one.tree;
              completed = rw (← append-nil (one.front ++ one.more)) (go is one.completed stop);
              again = λ m tail long. again_fails op item grow b m k o (one.front ++ other_tail rest tail) (other_tail rest tail) is (one.again tail) (omega arith);
            }
        | inr x ↦
            let one : Found item S ts x.0.0 x.0.1 = ch.operand.found ts x.0.0 x.0.1 x.1 in
            let two : RepeatFault op item S grow (grow b o x.0.0) x.0.1 rest = ih (grow b o x.0.0) x.0.1 (shorter_rest k ts one.front x.0.1 n one.split long) x.2 in
            record {
              front = k ∷ (one.front ++ two.front);
              split = ap (λ (r : List K). k ∷ r) (one.split ∙ ap (λ (r : List K). one.front ++ r) two.split ∙ sym (append_assoc one.front two.front rest));
              more = two.more;
              tree = two.tree;
              completed = rw append_assoc (go is one.spelled two.completed);
              again = λ m tail long.
                  let first = found_again item S ts x.0.0 x.0.1 two.front rest tail one two.split in
                  let short = regrouped k one.front two.front (other_tail rest tail) m long in
                  rw append_assoc (again_onward op item grow b m k o x.0.0 one.front (two.front ++ other_tail rest tail) (Err (other_tail rest tail)) is first short (λ m shorter. two.again m tail shorter));
            }
      ]

pub exact_repeat : {K O A B : Type 0} (op : K → Option O) (item : Reader K A) (S : Grammar K A) (grow : B → O → A → B) (gi g : K → Bool) → Chain op item S gi g
    → (b : B) → Exact (repeat op item grow b) (Repeat op S grow b) g
exact_repeat op item S grow gi g ch b = record {
  found = λ ts c rest e.
      let x = repeat_found op item S grow gi g ch (suc (length ts)) b ts c rest (omega arith) e in
      record { front = x.front; split = x.split; spelled = x.spelled; again = λ tail. x.again (suc (length (x.front ++ other_tail rest tail))) tail (omega arith) };
  only = λ u c rest s stops. repeat_only op item S grow gi g ch b u c s (suc (length (u ++ rest))) rest stops (omega arith);
  fault = λ ts rest e.
      let x = repeat_fault op item S grow gi g ch (suc (length ts)) b ts rest (omega arith) e in
      record { front = x.front; split = x.split; more = x.more; tree = x.tree; completed = x.completed; again = λ tail. x.again (suc (length (x.front ++ other_tail rest tail))) tail (omega arith) };
}

-- one operand, and a repetition behind it
pub exact_chain : {K O A B : Type 0} (op : K → Option O) (item : Reader K A) (S : Grammar K A) (start : A → B) (grow : B → O → A → B) (gi g : K → Bool) → Chain op item S gi g
    → Exact (next item (λ a. repeat op item grow (start a))) (Next S (λ a. Repeat op S grow (start a))) g
exact_chain op item S start grow gi g ch =
    exact_next item S gi (λ a. repeat op item grow (start a)) (λ a. Repeat op S grow (start a)) g ch.operand (λ a. exact_repeat op item S grow gi g ch (start a))
    (λ a. record { tokens = []; tree = start a; spelled = stop })
    (λ a u t rest s stops. repeat_fits op item S grow gi g ch (start a) u t rest s stops)

-- another grammar that says the same
pub exact_as : {K T : Type 0} (R : Reader K T) (S P : Grammar K T) (g : K → Bool) → Exact R S g → ((u : List K) (t : T) → S u t → P u t) → ((u : List K) (t : T) → P u t → S u t) → Exact R P g
exact_as R S P g r to from = record {
  found = λ ts t rest e. let x = r.found ts t rest e in record { front = x.front; split = x.split; spelled = to x.front t x.spelled; again = x.again };
  only = λ u t rest s stops. r.only u t rest (from u t s) stops;
  fault = λ ts rest e. let x = r.fault ts rest e in record { front = x.front; split = x.split; more = x.more; tree = x.tree; completed = to (x.front ++ x.more) x.tree x.completed; again = x.again };
}

-- more tokens asked not to follow
pub exact_wider : {K T : Type 0} (R : Reader K T) (S : Grammar K T) (g h : K → Bool) → ((k : K) → h k ≡ false → g k ≡ false) → Exact R S g → Exact R S h
exact_wider R S g h sub r = record {
  found = r.found;
  only = λ u t rest s stops. r.only u t rest s (stops_in h g sub rest stops);
  fault = r.fault;
}

-- where the reader refuses, nothing is spelled
pub apart_from : {K A T : Type 0} (f : K → Option A) (R : Reader K T) (O : Grammar K T) (g h : K → Bool) → Exact R O h → R [] ≡ Err [] → ((k : K) (a : A) (ts : List K) → f k ≡ Some a → R (k ∷ ts) ≡ Err (k ∷ ts)) → Apart f O g
apart_from f R O g h r none refuses = record {
  apart = λ k a v t is s.
      let read = r.only (k ∷ v) t [] s tt in
      let not : R (k ∷ (v ++ [])) ≡ Err (k ∷ (v ++ [])) = refuses k a (v ++ []) is in
      absurd cc;
  gone = λ k a t is s.
      let read = r.only [] t [] s tt in
      absurd cc;
}

pub apart_pure : {K A T : Type 0} (f : K → Option A) (x : T) (g : K → Bool) → ((k : K) (a : A) → f k ≡ Some a → g k ≡ true) → Apart {K = K} f (Nothing x) g
apart_pure f x g on = record {
  apart = λ k a v t is s. let none = s.no_token in absurd cc;
  gone = λ k a t is s. on k a is;
}

-- A reader never gives back more than it took, so how many turns a repetition has doesn't matter.
repeat_enough : {K O A B : Type 0} (op : K → Option O) (item : Reader K A) (grow : B → O → A → B) → ((ts : List K) (a : A) (rest : List K) → item ts ≡ Ok (a, rest) → length rest ≤ length ts)
    → (n m : ℕ) (b : B) (ts : List K) → length ts < n → length ts < m → repeat_in op item grow n b ts ≡ repeat_in op item grow m b ts
repeat_enough op item grow shrinks zero m b ts long wide = absurd (omega arith)
repeat_enough op item grow shrinks (suc n) zero b ts long wide = absurd (omega arith)
repeat_enough op item grow shrinks (suc n) (suc m) b [] long wide = refl
repeat_enough {K = K} {O = O} {A = A} {B = B} op item grow shrinks (suc n) (suc m) b (k ∷ ts) long wide = at (op k) (λ c us short thin. repeat_enough op item grow shrinks n m c us short thin) where
  read : (o : O) (x : Result (A × List K) (List K)) → item ts ≡ x → ((c : B) (us : List K) → length us < n → length us < m → repeat_in op item grow n c us ≡ repeat_in op item grow m c us)
      → (x >>= λ x. repeat_in op item grow n (grow b o x.0) x.1) ≡ (x >>= λ x. repeat_in op item grow m (grow b o x.0) x.1)
  read o (Ok x) is ih = let less = shrinks ts x.0 x.1 is in ih (grow b o x.0) x.1 (omega arith) (omega arith)
  read o (Err e) is ih = refl

  at : (o : Option O) → ((c : B) (us : List K) → length us < n → length us < m → repeat_in op item grow n c us ≡ repeat_in op item grow m c us)
      → repeat_at (λ o. item ts >>= λ x. repeat_in op item grow n (grow b o x.0) x.1) o b k ts ≡ repeat_at (λ o. item ts >>= λ x. repeat_in op item grow m (grow b o x.0) x.1) o b k ts
  at None ih = refl
  at (Some o) ih = read o (item ts) refl ih

pub repeat_step : {K O A B : Type 0} (op : K → Option O) (item : Reader K A) (S : Grammar K A) (g : K → Bool) (grow : B → O → A → B) → Exact item S g
    → (b : B) (k : K) (o : O) (ts : List K) (a : A) (rest : List K) → op k ≡ Some o → item ts ≡ Ok (a, rest) → repeat op item grow b (k ∷ ts) ≡ repeat op item grow (grow b o a) rest
repeat_step {K = K} {A = A} op item S g grow r b k o ts a rest is read =
    let less = shrinks ts a rest read in
    rw (is, read) (repeat_enough op item grow shrinks (suc (length ts)) (suc (length rest)) (grow b o a) rest (omega arith) (omega arith)) where
      shrinks : (ts : List K) (a : A) (rest : List K) → item ts ≡ Ok (a, rest) → length rest ≤ length ts
      shrinks ts a rest e = let x = r.found ts a rest e in omega (arith, length-append x.front rest, ap length x.split)
