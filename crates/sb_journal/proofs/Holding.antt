-- A journal that holds staged records, call by call.
use Rattle.std.proofs.Common.{◌≡◌, inl, inr, ℕ, ◌+◌, ◌^◌, ◌≤◌, List, [], ◌∷◌, ◌++◌, length, refl, sym, ◌∙◌, ap, subst, arith, append_assoc, length-append}
use Rattle.std.specs.Prelude.{IsTrue, Bool, false, if◌then◌else◌, ◌==◌}
use Rattle.std.proofs.lemmas.List.{append-nil}
use Rattle.std.proofs.lemmas.Bool.Decides.{nat_tests}
use Rattle.sb_outside.specs.Causes.{RoseByOne}
use Rattle.sb_outside.specs.Held.{Held}
use Rattle.sb_outside.specs.declared.disk.Disk.{Ghosts}
use Rattle.sb_journal.specs.declared.found.Side.{Side}
use Rattle.sb_journal.specs.declared.found.Side.TheVariants.{A, B as Other}
use Rattle.sb_journal.specs.declared.journal.Journal.{Journal}
use Rattle.sb_journal.specs.Text.{File, framed, framed_all, records, file_text, with_payload, with_payloads, IsWithin, max_payload}
use Rattle.sb_journal.specs.Choosing.{turned, chosen}
use Rattle.sb_journal.specs.Opened.{FindsFile}
use Rattle.sb_journal.specs.Crashes.{Rests, Stages, IsAside, IsSameFrom, IsShutFile, IsShutPair, IsTornPair, LeavesOf}
use Rattle.sb_journal.specs.Moments.{FromSync}
use Rattle.sb_journal.specs.Disks.{Disks, OneDisk, on_side, EachImage, EachPair, KeepsOn, StaysBehind, AreQuiet, OneFault}
use Rattle.sb_journal.specs.Journals.{Aside, journal_aside, journal_disks, HoldsFile, HoldsStaged}
use Rattle.sb_journal.proofs.Behind.{free_image}
use Rattle.sb_journal.proofs.Frames.{framed_all-first, framed_all-push}
use Rattle.sb_journal.proofs.Heads.{file_text-push, file_text-group, with_none, with_both, IsWithin-push}
use Rattle.sb_journal.proofs.Moments.{started}
use Rattle.sb_journal.proofs.Pairs.{both, weaker_pair, finds_here, reads_here, each_here, shut_pair, behind_pair, honest_sides, honest_both, aside_there, turned_twice}
use Rattle.sb_journal.proofs.Staging.{shut_of, shut_read, stages_keep, stages_leave, stages_read, free_there, rests_stage}

-- each two images of both disks stand for the file
pub stages_found : {D : Type 0} (B : Ghosts D) (side : Side) (c o : D) (f : File) (end next : ℕ) (w : List ℕ) → Stages (B.held c) end next f w → IsAside (B.held o) → EachImage (both B side c o) (FindsFile f)
stages_found B side c o f end next w stages aside = each_here B side c o (FindsFile f) (λ x y on_x on_y. finds_here f side x y (stages_leave (B.held c) end next f w stages x on_x) (aside.shut y on_y))

-- the place behind all that is staged
pub place_staged : (f : File) (ps : List (List ℕ)) (end next m : ℕ) (w kept : List ℕ) → end ≡ length (file_text f) → next ≡ f.first + length f.payloads → length w ≡ m → framed_all next ps ≡ w ++ kept
    → end + 1 + (m + length kept) ≤ length (file_text (with_payloads f ps)) + 1
place_staged f [] end next m w kept end_is next_is long is =
    omega (arith, end_is, long, length-append w kept, ap length is, ap (λ (g : File). length (file_text g)) (with_none f))
place_staged f (p ∷ ps) end next m w kept end_is next_is long is =
    let number = f.first + length f.payloads in
    omega (
      arith,
      end_is,
      long,
      length-append w kept,
      ap length (sym is ∙ ap (λ n. framed_all n (p ∷ ps)) next_is),
      length-append (framed number p) (records (number + 1) ps),
      ap length (file_text-group f p ps []),
      length-append (file_text (with_payloads f (p ∷ ps))) [],
      length-append (file_text f) (1 ∷ (framed number p ++ (records (number + 1) ps ++ []))),
      length-append (framed number p) (records (number + 1) ps ++ []),
      length-append (records (number + 1) ps) [],
    )

module _ {D : Type 0} {B : Ghosts D} (j : Journal D B) (file : File) (staged : List (List ℕ)) (holds : HoldsStaged j file staged) where
  pub staged_place : j.end + 1 + (j.written + length j.buffer.items) ≤ length (file_text (with_payloads file staged)) + 1
  staged_place = place_staged file staged j.end j.next j.written holds.written j.buffer.items holds.stages.end_is holds.stages.next_is holds.long holds.bytes

  -- ---- where the disks aren't touched

  pub shut_now : EachPair (journal_disks j) (journal_disks j) (IsShutPair file)
  shut_now = shut_pair B j.side j.current j.current j.other file holds.aside.shut
      (started (B.past j.current) (B.held j.current) (IsShutFile file) (λ x on_x. shut_of file (B.held j.current) x (stages_keep (B.held j.current) j.end j.next file holds.written holds.stages) on_x))

  pub behind_now : (place : ℕ) → length (file_text (with_payloads file staged)) + 1 ≤ place → EachPair (journal_disks j) (journal_disks j) (StaysBehind j.side place (journal_disks j))
  behind_now place high = behind_pair B j.side j.current j.current j.other place
      (started (B.past j.current) (B.held j.current) (IsSameFrom place (B.held j.current).seen)
      (λ x on_x. free_image place (B.held j.current).seen (B.held j.current) x (free_there (B.held j.current) j.end j.next j.written place file holds.written holds.stages holds.long (omega (arith, high, staged_place))) on_x))

  pub staged_honest : IsTrue (B.honest j.current) × IsTrue (B.honest j.other)
  staged_honest = honest_sides B j.side j.current j.other holds.honest

  -- the file is found in each
  pub shut_finds : (was later : Disks) → EachPair was later (IsShutPair file) → EachPair was later (FindsFile file)
  shut_finds was later run = weaker_pair was later (IsShutPair file) (FindsFile file) found run
    where
      found : (x y : List ℕ) → IsShutPair file x y → FindsFile file x y
      found x y (inl on_a) = finds_here file A x y (shut_read file x (B.held j.current) j.end j.next holds.written holds.stages on_a.0) on_a.1
      found x y (inr on_b) = finds_here file Other y x (shut_read file y (B.held j.current) j.end j.next holds.written holds.stages on_b.0) on_b.1

  pub shut_torn : (payloads : List (List ℕ)) (was later : Disks) → IsWithin (with_payloads file payloads) → EachPair was later (IsShutPair file) → EachPair was later (IsTornPair file payloads)
  shut_torn payloads was later within run = weaker_pair was later (IsShutPair file) (IsTornPair file payloads) torn run
    where
      torn : (x y : List ℕ) → IsShutPair file x y → IsTornPair file payloads x y
      torn x y (inl on_a) = inl (record { within = holds.stages.within; within_after = within; stands = inl on_a.0 }, on_a.1)
      torn x y (inr on_b) = inr (record { within = holds.stages.within; within_after = within; stands = inl on_b.0 }, on_b.1)

-- ---- one record more

-- the bytes with one record more
pub more_bytes : (ps : List (List ℕ)) (next count : ℕ) (p w kept gated all : List ℕ) → length ps ≡ count → framed_all next ps ≡ w ++ kept → gated ≡ kept ++ (if count == 0 then [] else 1 ∷ []) → all ≡ gated ++ framed (next + count) p
    → framed_all next (ps ++ p ∷ []) ≡ w ++ all
more_bytes [] next count p w kept gated all long is gate_is all_is =
    let none : count ≡ 0 = sym long in
    let first : gated ≡ kept = gate_is ∙ ap (λ n. kept ++ (if n == 0 then [] else 1 ∷ [])) none ∙ append-nil kept in
    let here : all ≡ kept ++ framed next p = all_is ∙ ap (λ (l : List ℕ). l ++ framed (next + count) p) first ∙ ap (λ n. kept ++ framed n p) (let e : next + count ≡ next = omega (arith, none) in e) in
    framed_all-first next p ∙ ap (λ (l : List ℕ). l ++ framed next p) is ∙ append_assoc w kept (framed next p) ∙ ap (λ (l : List ℕ). w ++ l) (sym here)
more_bytes (q ∷ ps) next count p w kept gated all long is gate_is all_is =
    let some : (count == 0) ≡ false = let l : 1 ≤ count = omega (arith, long) in grind (arith, nat_tests) in
    let open_is : gated ≡ kept ++ 1 ∷ [] = gate_is ∙ ap (λ (b : Bool). kept ++ (if b then [] else 1 ∷ [])) some in
    let here : all ≡ kept ++ 1 ∷ framed (next + count) p = all_is ∙ ap (λ (l : List ℕ). l ++ framed (next + count) p) open_is ∙ append_assoc kept (1 ∷ []) (framed (next + count) p) in
    framed_all-push q ps next p
    ∙ ap (λ n. framed_all next (q ∷ ps) ++ 1 ∷ framed (next + n) p) long
    ∙ ap (λ (l : List ℕ). l ++ 1 ∷ framed (next + count) p) is
    ∙ append_assoc w kept (1 ∷ framed (next + count) p)
    ∙ ap (λ (l : List ℕ). w ++ l) (sym here)

pub more_within : (f : File) (ps : List (List ℕ)) (p : List ℕ) (next count : ℕ) → IsWithin (with_payloads f ps) → length p ≤ max_payload → next ≡ f.first + length f.payloads → length ps ≡ count → next + count + 1 ≤ 2 ^ 64 → IsWithin (with_payloads f (ps ++ p ∷ []))
more_within f ps p next count within short next_is long few =
    subst IsWithin (with_both f ps (p ∷ [])) (IsWithin-push (with_payloads f ps) p within short (omega (arith, few, next_is, long, length-append f.payloads ps)))

-- ---- one call behind another

pub side_same : {D : Type 0} {B : Ghosts D} (j k : Journal D B) → journal_aside k ≡ journal_aside j → k.side ≡ j.side
side_same j k same = sym (turned_twice k.side) ∙ ap (λ (a : Aside). turned a.side) same ∙ turned_twice j.side

-- the disk that doesn't count stood still
pub aside_still : {D : Type 0} {B : Ghosts D} (j k : Journal D B) (side : Side) → side ≡ j.side → journal_aside k ≡ journal_aside j → on_side (turned side) (journal_disks k) ≡ on_side (turned side) (journal_disks j)
aside_still {D} {B} j k side is same = subst (λ (s : Side). on_side (turned s) (journal_disks k) ≡ on_side (turned s) (journal_disks j)) (sym is) (
    ap (λ (s : Side). on_side (turned s) (journal_disks k)) (sym (side_same j k same))
    ∙ aside_there B k.side k.current k.other
    ∙ ap (λ (a : Aside). a.disk) same
    ∙ sym (aside_there B j.side j.current j.other))

-- so it keeps what was said of it
pub aside_kept : {D : Type 0} {B : Ghosts D} (j k : Journal D B) (salt : ℕ) (was : Disks) → journal_aside k ≡ journal_aside j → KeepsOn salt (journal_aside j).side was (journal_disks j) → KeepsOn salt (journal_aside j).side was (journal_disks k)
aside_kept j k salt was same kept =
    let side = (journal_aside j).side in
    let held = on_side side was in
    subst (λ (d : OneDisk). FromSync held.past held.held d.past d.held (LeavesOf salt (chosen was.a.held.seen was.b.held.seen) side held.held.seen)) (sym (aside_still j k j.side refl same)) kept

pub text_grows : (f : File) (ps : List (List ℕ)) (p : List ℕ) (n : ℕ) → n ≡ length (file_text (with_payloads f (ps ++ p ∷ []))) + 1 → length (file_text (with_payloads f ps)) + 1 ≤ n
text_grows f ps p n is =
    let g = with_payloads f ps in
    let record_is = framed (g.first + length g.payloads) p ++ [] in
    omega (
      arith,
      is,
      ap (λ (h : File). length (file_text h)) (with_both f ps (p ∷ [])),
      ap length (file_text-push g p []),
      length-append (file_text (with_payload g p)) [],
      length-append (file_text g) (1 ∷ record_is),
    )

-- ---- sealing

-- at least one is staged
pub some_staged : (P : List (List ℕ) → Type 0) (staged : List (List ℕ)) (count : ℕ) → length staged ≡ count → (count ≡ 0 → ⊥) → ((p : List ℕ) (ps : List (List ℕ)) → staged ≡ p ∷ ps → P (p ∷ ps)) → P staged
some_staged P [] count long some each = absurd (some (sym long))
some_staged P (p ∷ ps) count long some each = each p ps refl

-- what was left of the records, and the next gate
pub all_bytes : (ps : List (List ℕ)) (next : ℕ) (w kept frames pushed : List ℕ) → framed_all next ps ≡ w ++ kept → frames ≡ pushed → pushed ≡ kept ++ 0 ∷ [] → w ++ frames ≡ framed_all next ps ++ 0 ∷ []
all_bytes ps next w kept frames pushed is same gate =
    ap (λ (l : List ℕ). w ++ l) (same ∙ gate) ∙ sym (append_assoc w kept (0 ∷ [])) ∙ ap (λ (l : List ℕ). l ++ 0 ∷ []) (sym is)

-- none is staged where none is counted
pub none_staged : {D : Type 0} {B : Ghosts D} (j : Journal D B) (file : File) (staged : List (List ℕ)) → HoldsStaged j file staged → j.count ≡ 0 → HoldsFile j (with_payloads file staged)
none_staged j file [] holds none = subst (λ (f : File). HoldsFile j f) (sym (with_none file)) holds
none_staged j file (p ∷ ps) holds none = absurd (omega (arith, holds.count, none))

pub sealed : {D : Type 0} {B : Ghosts D} (j : Journal D B) (file : File) → IsTrue (B.honest j.current) → IsTrue (B.honest j.other) → j.failed ≡ false → j.salt ≡ file.salt → j.generation ≡ file.generation → Rests (B.held j.current) j.end j.next file → IsAside (B.held j.other)
    → j.written ≡ 0 → j.count ≡ 0 → j.buffer.items ≡ [] → HoldsFile j file
sealed {D} {B} j file on_current on_other running salt generation rests aside written count kept =
    let stages = rests_stage (B.held j.current) j.end j.next file rests in
    record {
      honest = honest_both B j.side j.current j.other on_current on_other;
      running = running;
      salt_is = salt;
      generation_is = generation;
      written = [];
      stages = stages;
      long = sym written;
      bytes = sym kept;
      count = sym count;
      within = subst IsWithin (sym (with_none file)) rests.within;
      aside = aside;
      reads = reads_here B j.side j.current j.other file (stages_read (B.held j.current) j.end j.next file [] stages) aside.seen;
      leaves = stages_found B j.side j.current j.other file j.end j.next [] stages aside;
    }

pub rests_as : (h : Held) (end next m n : ℕ) (f : File) → end ≡ m → next ≡ n → Rests h end next f → Rests h m n f
rests_as h end next m n f same_end same_next rests = subst (λ (i : ℕ). Rests h i n f) same_end (subst (λ (i : ℕ). Rests h end i f) same_next rests)

pub fault_behind : (was mid later : Disks) (n : ℕ) → AreQuiet was mid → OneFault mid later n → OneFault was later n
fault_behind was mid later n none (inl x) = inl (x.0, subst (λ k. RoseByOne k later.a.faults) none.0 x.1, x.2 ∙ none.1)
fault_behind was mid later n none (inr x) = inr (x.0, subst (λ k. RoseByOne k later.b.faults) none.1 x.1, x.2 ∙ none.0)
