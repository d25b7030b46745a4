-- Two disks of which one was read on: what is said of both then.
use Rattle.std.proofs.Common.{◌≡◌, ℕ, ◌≤◌, List, sym, ◌∙◌, ap, subst, arith}
use Rattle.std.specs.Prelude.{IsTrue}
use Rattle.sb_outside.specs.Causes.{RoseByOne}
use Rattle.sb_outside.specs.Held.{Held, Moves, at_rest}
use Rattle.sb_outside.specs.declared.disk.Disk.{Ghosts}
use Rattle.sb_journal.specs.declared.choosing.Choice.TheVariants.{Counts}
use Rattle.sb_journal.specs.declared.found.Side.{Side}
use Rattle.sb_journal.specs.declared.found.Side.TheVariants.{A, B}
use Rattle.sb_journal.specs.Framing.{framing}
use Rattle.sb_journal.specs.Choosing.{sided, chosen}
use Rattle.sb_journal.specs.Opened.{opened_alone, placed}
use Rattle.sb_journal.specs.Moments.{IsUnwritten}
use Rattle.sb_journal.specs.Disks.{Disks, disks_of, opened_on, AreSynced, AreUnwritten, IsAtRest, AreQuiet, HaveFailed, NoneFell, SameHonesty}
use Rattle.sb_journal.proofs.Pairs.{both, opened_counts, one_fault, other_fault}

unwritten_as : (p q q_1 : List Held) (h k k_1 : Held) → q_1 ≡ q → k_1 ≡ k → IsUnwritten p h q k → IsUnwritten p h q_1 k_1
unwritten_as p q q_1 h k k_1 same_past same_now u = subst (λ (l : List Held). IsUnwritten p h l k_1) (sym same_past) (subst (λ (m : Held). IsUnwritten p h q m) (sym same_now) u)

moves_as : (p q q_1 : List Held) (h k k_1 next : Held) → q_1 ≡ q → k_1 ≡ k → Moves p h q k next → Moves p h q_1 k_1 next
moves_as p q q_1 h k k_1 next same_past same_now m = record { past_is = same_past ∙ m.past_is; now_is = same_now ∙ m.now_is }

-- a and b are the disks as they were synced, cur and o the one that counts and the other, c the first as it was read
module _ {D : Type 0} (G : Ghosts D) (was : Disks) (a b cur o c : D) where
  pub quiet_by : (side : Side) → cur ≡ sided side a b → o ≡ sided side b a → AreQuiet was (disks_of G a b) → G.count c ≡ G.count cur → AreQuiet was (both G side c o)
  quiet_by A is other were same = (same ∙ ap G.count is ∙ were.0, ap G.count other ∙ were.1)
  quiet_by B is other were same = (ap G.count other ∙ were.0, same ∙ ap G.count is ∙ were.1)

  pub later_by : (side : Side) → cur ≡ sided side a b → o ≡ sided side b a → NoneFell was (disks_of G a b) → G.count cur ≤ G.count c → NoneFell was (both G side c o)
  later_by A is other were rise = (let on_a = were.0 in omega (arith, on_a, ap G.count is, rise), let on_b = were.1 in omega (arith, on_b, ap G.count other))
  later_by B is other were rise = (let on_a = were.0 in omega (arith, on_a, ap G.count other), let on_b = were.1 in omega (arith, on_b, ap G.count is, rise))

  pub honest_by : (side : Side) → cur ≡ sided side a b → o ≡ sided side b a → SameHonesty was (disks_of G a b) → G.honest c ≡ G.honest cur → SameHonesty was (both G side c o)
  honest_by A is other were same = (same ∙ ap G.honest is ∙ were.0, ap G.honest other ∙ were.1)
  honest_by B is other were same = (ap G.honest other ∙ were.0, same ∙ ap G.honest is ∙ were.1)

  pub failed_by : (side : Side) → cur ≡ sided side a b → o ≡ sided side b a → AreQuiet was (disks_of G a b) → RoseByOne (G.count cur) (G.count c) → HaveFailed was (both G side c o)
  failed_by A is other were rose = one_fault was (both G A c o) (subst (λ n. RoseByOne n (G.count c)) (ap G.count is ∙ were.0) rose) (ap G.count other ∙ were.1)
  failed_by B is other were rose = other_fault was (both G B c o) (subst (λ n. RoseByOne n (G.count c)) (ap G.count is ∙ were.1) rose) (ap G.count other ∙ were.0)

  module _ (same_held : G.held c ≡ G.held cur) (same_past : G.past c ≡ G.past cur) where
    pub unwritten_by : (side : Side) → cur ≡ sided side a b → o ≡ sided side b a → AreUnwritten was (disks_of G a b) → AreUnwritten was (both G side c o)
    unwritten_by A is other were = (
      unwritten_as was.a.past (G.past a) (G.past c) was.a.held (G.held a) (G.held c) (same_past ∙ ap G.past is) (same_held ∙ ap G.held is) were.0,
      unwritten_as was.b.past (G.past b) (G.past o) was.b.held (G.held b) (G.held o) (ap G.past other) (ap G.held other) were.1,
    )
    unwritten_by B is other were = (
      unwritten_as was.a.past (G.past a) (G.past o) was.a.held (G.held a) (G.held o) (ap G.past other) (ap G.held other) were.0,
      unwritten_as was.b.past (G.past b) (G.past c) was.b.held (G.held b) (G.held c) (same_past ∙ ap G.past is) (same_held ∙ ap G.held is) were.1,
    )

    pub synced_by : (side : Side) → cur ≡ sided side a b → o ≡ sided side b a → AreSynced was (disks_of G a b) → AreSynced was (both G side c o)
    synced_by A is other were = (
      moves_as was.a.past (G.past a) (G.past c) was.a.held (G.held a) (G.held c) (at_rest was.a.held.seen) (same_past ∙ ap G.past is) (same_held ∙ ap G.held is) were.0,
      moves_as was.b.past (G.past b) (G.past o) was.b.held (G.held b) (G.held o) (at_rest was.b.held.seen) (ap G.past other) (ap G.held other) were.1,
    )
    synced_by B is other were = (
      moves_as was.a.past (G.past a) (G.past o) was.a.held (G.held a) (G.held o) (at_rest was.a.held.seen) (ap G.past other) (ap G.held other) were.0,
      moves_as was.b.past (G.past b) (G.past c) was.b.held (G.held b) (G.held c) (at_rest was.b.held.seen) (same_past ∙ ap G.past is) (same_held ∙ ap G.held is) were.1,
    )

    pub rest_by : (side at : Side) → cur ≡ sided side a b → o ≡ sided side b a → AreSynced was (disks_of G a b) → IsAtRest at was (both G side c o)
    rest_by A A is other were = same_held ∙ ap G.held is ∙ were.0.now_is
    rest_by A B is other were = ap G.held other ∙ were.1.now_is
    rest_by B A is other were = ap G.held other ∙ were.0.now_is
    rest_by B B is other were = same_held ∙ ap G.held is ∙ were.1.now_is

  -- what the one that counts holds, as it is read
  pub rests_current : (side : Side) → cur ≡ sided side a b → (IsTrue (G.honest a) → G.held a ≡ at_rest (G.held a).seen) → (IsTrue (G.honest b) → G.held b ≡ at_rest (G.held b).seen) → IsTrue (G.honest cur) → G.held cur ≡ at_rest (G.held cur).seen
  rests_current A is on_a on_b honest = subst (λ (d : D). IsTrue (G.honest d) → G.held d ≡ at_rest (G.held d).seen) (sym is) on_a honest
  rests_current B is on_a on_b honest = subst (λ (d : D). IsTrue (G.honest d) → G.held d ≡ at_rest (G.held d).seen) (sym is) on_b honest

  pub rests_other : (side : Side) → o ≡ sided side b a → (IsTrue (G.honest a) → G.held a ≡ at_rest (G.held a).seen) → (IsTrue (G.honest b) → G.held b ≡ at_rest (G.held b).seen) → IsTrue (G.honest o) → G.held o ≡ at_rest (G.held o).seen
  rests_other A is on_a on_b honest = subst (λ (d : D). IsTrue (G.honest d) → G.held d ≡ at_rest (G.held d).seen) (sym is) on_b honest
  rests_other B is on_a on_b honest = subst (λ (d : D). IsTrue (G.honest d) → G.held d ≡ at_rest (G.held d).seen) (sym is) on_a honest

  -- both are honest, by the two of them
  pub honest_were : (side : Side) → cur ≡ sided side a b → o ≡ sided side b a → IsTrue (G.honest cur) → IsTrue (G.honest o) → IsTrue (G.honest a) × IsTrue (G.honest b)
  honest_were A is other on_cur on_o = (subst (λ (d : D). IsTrue (G.honest d)) is on_cur, subst (λ (d : D). IsTrue (G.honest d)) other on_o)
  honest_were B is other on_cur on_o = (subst (λ (d : D). IsTrue (G.honest d)) other on_o, subst (λ (d : D). IsTrue (G.honest d)) is on_cur)

  pub honest_cur : (side : Side) → cur ≡ sided side a b → IsTrue (G.honest a) → IsTrue (G.honest b) → IsTrue (G.honest cur)
  honest_cur A is on_a on_b = subst (λ (d : D). IsTrue (G.honest d)) (sym is) on_a
  honest_cur B is on_a on_b = subst (λ (d : D). IsTrue (G.honest d)) (sym is) on_b

  module _ (seen_a : (G.held a).seen ≡ was.a.held.seen) (seen_b : (G.held b).seen ≡ was.b.held.seen) where
    -- what is read of the one that counts
    pub seen_current : (side : Side) → cur ≡ sided side a b → (G.held cur).seen ≡ sided side was.a.held.seen was.b.held.seen
    seen_current A is = ap (λ (d : D). (G.held d).seen) is ∙ seen_a
    seen_current B is = ap (λ (d : D). (G.held d).seen) is ∙ seen_b

    -- and of the other
    pub seen_other : (side : Side) → o ≡ sided side b a → (G.held o).seen ≡ sided side was.b.held.seen was.a.held.seen
    seen_other A is = ap (λ (d : D). (G.held d).seen) is ∙ seen_b
    seen_other B is = ap (λ (d : D). (G.held d).seen) is ∙ seen_a

    pub same_opened : (salt : ℕ) (side : Side) → cur ≡ sided side a b → chosen was.a.held.seen was.b.held.seen ≡ Counts side → opened_on was salt ≡ placed side (opened_alone salt (framing (G.held cur).seen))
    same_opened salt side is counts = opened_counts salt was.a.held.seen was.b.held.seen side counts ∙ ap (λ (l : List ℕ). placed side (opened_alone salt (framing l))) (sym (seen_current side is))

    -- the same is chosen of the disks as they stand
    pub same_chosen : (side : Side) → cur ≡ sided side a b → o ≡ sided side b a → (G.held c).seen ≡ (G.held cur).seen → chosen (G.held (sided side c o)).seen (G.held (sided side o c)).seen ≡ chosen was.a.held.seen was.b.held.seen
    same_chosen A is other same =
        ap (λ (l : List ℕ). chosen l (G.held o).seen) (same ∙ seen_current A is) ∙ ap (λ (l : List ℕ). chosen was.a.held.seen l) (seen_other A other)
    same_chosen B is other same =
        ap (λ (l : List ℕ). chosen (G.held o).seen l) (same ∙ seen_current B is) ∙ ap (λ (l : List ℕ). chosen l was.b.held.seen) (seen_other B other)

-- the disk of either side
pub both_rest : {D : Type 0} (G : Ghosts D) (was : Disks) (a b : D) (side : Side) → G.held a ≡ at_rest was.a.held.seen → G.held b ≡ at_rest was.b.held.seen → IsAtRest side was (disks_of G a b)
both_rest G was a b A on_a on_b = on_a
both_rest G was a b B on_a on_b = on_b

-- the disks that are given back
pub given_disks : {D : Type 0} (G : Ghosts D) (side : Side) (c o back_a back_b : D) → back_a ≡ sided side c o → back_b ≡ sided side o c → disks_of G back_a back_b ≡ both G side c o
given_disks G side c o back_a back_b on_a on_b = λ i. disks_of G (on_a i) (on_b i)

-- ---- both went on

module _ {D : Type 0} (G : Ghosts D) (c0 o0 c1 o1 : D) where
  pub quiet_then : (side : Side) → G.count c1 ≡ G.count c0 → G.count o1 ≡ G.count o0 → AreQuiet (both G side c0 o0) (both G side c1 o1)
  quiet_then A on_c on_o = (on_c, on_o)
  quiet_then B on_c on_o = (on_o, on_c)

  pub later_then : (side : Side) → G.count c0 ≤ G.count c1 → G.count o0 ≤ G.count o1 → NoneFell (both G side c0 o0) (both G side c1 o1)
  later_then A on_c on_o = (on_c, on_o)
  later_then B on_c on_o = (on_o, on_c)

  pub honest_then : (side : Side) → G.honest c1 ≡ G.honest c0 → G.honest o1 ≡ G.honest o0 → SameHonesty (both G side c0 o0) (both G side c1 o1)
  honest_then A on_c on_o = (on_c, on_o)
  honest_then B on_c on_o = (on_o, on_c)

  -- the one failed
  pub current_failed : (side : Side) → RoseByOne (G.count c0) (G.count c1) → G.count o1 ≡ G.count o0 → HaveFailed (both G side c0 o0) (both G side c1 o1)
  current_failed A rose on_o = one_fault (both G A c0 o0) (both G A c1 o1) rose on_o
  current_failed B rose on_o = other_fault (both G B c0 o0) (both G B c1 o1) rose on_o

  -- the other failed
  pub other_failed : (side : Side) → RoseByOne (G.count o0) (G.count o1) → G.count c1 ≡ G.count c0 → HaveFailed (both G side c0 o0) (both G side c1 o1)
  other_failed A rose on_c = other_fault (both G A c0 o0) (both G A c1 o1) rose on_c
  other_failed B rose on_c = one_fault (both G B c0 o0) (both G B c1 o1) rose on_c
