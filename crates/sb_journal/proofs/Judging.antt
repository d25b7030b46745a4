-- A base and payloads judged one after another, as they are read.
use Rattle.std.proofs.Common.{◌≡◌, inl, inr, ℕ, ◌+◌, ◌≤◌, ◌<◌, ◌^◌, List, [], ◌∷◌, ◌++◌, length, drop, Option, Some, None, Bool, true, false, refl, sym, ◌∙◌, ap, subst, arith, append_assoc, length-append}
use Rattle.std.proofs.lemmas.List.{append-nil}
use Rattle.sb_journal.specs.declared.judge.Judge.{Ghosts}
use Rattle.sb_journal.specs.declared.judge.Judged.{Judged}
use Rattle.sb_journal.specs.declared.base.Based.{Based}
use Rattle.sb_journal.specs.declared.found.Side.{Side}
use Rattle.sb_journal.specs.declared.reading.Records.{Records}
use Rattle.sb_journal.specs.declared.reading.Stand.{Stand}
use Rattle.sb_journal.specs.Text.{max_payload, new_file, new_bytes, records, framed, first_gate, gate_after, AreShort, Ends, IsWithin}
use Rattle.sb_journal.specs.Framing.{Uncreated, framing}
use Rattle.sb_journal.specs.Judges.{IsGiven, IsRefused, IsVerdict}
use Rattle.sb_journal.specs.Opened.{Opened, Stands, opened_alone, placed, stand_file, judged_of, IsStand, IsWholeStand, IsJudged, HasBase, IsBased, AreRecords, HasRefused}
use Rattle.sb_outside.specs.Held.{at_rest}
use Rattle.sb_journal.proofs.Frames.{length-records_from, AreShort-push}
use Rattle.sb_journal.proofs.Heads.{gate_after_file, new_rests}
use Rattle.sb_journal.proofs.Scan as scan

pub none_given : (o : Option ℕ) → ((x : ℕ) → o ≡ Some x → ⊥) → o ≡ None
none_given None other = refl
none_given (Some x) other = absurd (other x refl)

module _ {J : Type 0} (G : Ghosts J) where
  -- ---- the base of a file

  -- one that is refused whatever stands behind it is refused as it is
  pub base_refused : (judge : J) (given : Bool) (salt : ℕ) (base : List ℕ) → given ≡ false → IsGiven G judge given salt base → G.refuses_base salt base
  base_refused judge true salt base e is = absurd cc
  base_refused judge false salt base e is = subst (λ (l : List ℕ). G.refuses_base salt l) (append-nil base) (is [])

  -- The judge was given what stands behind the head up to this place.
  pub record IsGivenSoFar (honest : Type 0) (bytes : List ℕ) (salt place : ℕ) (judge : J) (given : Bool) : Type 0 where
    pub base : List ℕ
    pub is_given : IsGiven G judge given salt base
    pub text : honest → drop 42 bytes ≡ base ++ drop place bytes
    pub place_is : place ≡ 42 + length base

  pub given_start : (honest : Type 0) (bytes : List ℕ) (salt : ℕ) (judge : J) → G.given judge salt [] → IsGivenSoFar honest bytes salt 42 judge true
  given_start honest bytes salt judge is = record { base = []; is_given = is; text = λ h. refl; place_is = refl }

  module _ (honest : Type 0) (bytes : List ℕ) (salt place : ℕ) (judge : J) (given : Bool) (so : IsGivenSoFar honest bytes salt place judge given) where
    pub given_more : (part : List ℕ) (judge_after : J) (given_after : Bool) → (honest → drop place bytes ≡ part ++ drop (place + length part) bytes) → IsGiven G judge_after given_after salt (so.base ++ part)
        → IsGivenSoFar honest bytes salt (place + length part) judge_after given_after
    given_more part judge_after given_after here is = record {
      base = so.base ++ part;
      is_given = is;
      text = λ h. so.text h ∙ ap (λ (l : List ℕ). so.base ++ l) (here h) ∙ sym (append_assoc so.base part (drop (place + length part) bytes));
      place_is = omega (arith, so.place_is, length-append so.base part);
    }

    pub all_given : (gate : ℕ) (b : Based J) → b.gate ≡ place → place ≤ 2 ^ 62 → (honest → place ≡ gate) → IsVerdict G b.judge b.refused salt so.base [] → IsBased G honest bytes salt gate b
    all_given gate b gate_is fits whole verdict = record {
      base = so.base;
      verdict = verdict;
      gate_is = gate_is ∙ so.place_is;
      gate_fits = omega (arith, gate_is, fits);
      stands = λ h. record {
        text = so.text h ∙ ap (λ n. so.base ++ drop n bytes) (whole h);
        gate_is = sym (whole h) ∙ so.place_is;
      };
    }

  -- what was refused stays so, whatever comes behind it
  pub still_refused : (judge : J) (refused : Option ℕ) (first salt : ℕ) (base : List ℕ) (before : List (List ℕ)) (p : List ℕ) → refused ≡ Some first → IsVerdict G judge refused salt base before → IsRefused G salt first base (before ++ p ∷ [])
  still_refused judge None first salt base before p e is = absurd cc
  still_refused judge (Some place) first salt base before p e is = let same : place ≡ first = cc in subst (λ n. IsRefused G salt n base (before ++ p ∷ [])) same (with_more is)
    where
      with_more : IsRefused G salt place base before → IsRefused G salt place base (before ++ p ∷ [])
      with_more (inl of_base) = inl of_base
      with_more (inr r) = inr record {
        before = r.before;
        payload = r.payload;
        behind = r.behind ++ p ∷ [];
        payloads_are = ap (λ (l : List (List ℕ)). l ++ p ∷ []) r.payloads_are ∙ append_assoc r.before (r.payload ∷ r.behind) (p ∷ []);
        place_is = r.place_is;
        refused = r.refused;
      }

  -- ---- the records of a file

  -- These were read and judged, and then comes what stands at this place.
  pub record IsSoFar (honest : Type 0) (bytes : List ℕ) (salt first gate place number : ℕ) (judge : J) (refused : Option ℕ) : Type 0 where
    pub base : List ℕ
    pub payloads : List (List ℕ)
    pub verdict : IsVerdict G judge refused salt base payloads
    pub stands : honest → HasBase bytes gate base
    pub text : honest → drop gate bytes ≡ records first payloads ++ drop place bytes
    pub short : AreShort payloads
    pub place_is : place ≡ 42 + length base + length (records first payloads)
    pub number_is : number ≡ first + length payloads

  pub so_far_start : (honest : Type 0) (bytes : List ℕ) (salt first gate : ℕ) (b : Based J) → IsBased G honest bytes salt gate b → IsSoFar honest bytes salt first gate b.gate first b.judge b.refused
  so_far_start honest bytes salt first gate b is = record {
    base = is.base;
    payloads = [];
    verdict = is.verdict;
    stands = is.stands;
    text = λ h. let same : gate ≡ b.gate = (is.stands h).gate_is ∙ sym is.gate_is in ap (λ n. drop n bytes) same;
    short = tt;
    place_is = let here = is.gate_is in omega arith;
    number_is = omega arith;
  }

  module _ (honest : Type 0) (bytes : List ℕ) (salt first gate place number : ℕ) (judge : J) (refused : Option ℕ) (so : IsSoFar honest bytes salt first gate place number judge refused) where
    pub at_gate : place ≡ gate_after (42 + length so.base) so.payloads
    at_gate = so.place_is ∙ length-records_from so.payloads (42 + length so.base) first

    -- by the place of the first gate
    pub place_by : honest → place ≡ gate + length (records first so.payloads)
    place_by h = let here = (so.stands h).gate_is in omega (arith, so.place_is)

    pub one_more : (next number_after : ℕ) (judge_after : J) (refused_after : Option ℕ) (p : List ℕ) → next ≡ place + (13 + length p) → number_after ≡ number + 1 → length p ≤ max_payload → (honest → drop place bytes ≡ 1 ∷ (framed number p ++ drop (13 + length p) (drop place bytes)))
        → IsVerdict G judge_after refused_after salt so.base (so.payloads ++ p ∷ []) → IsSoFar honest bytes salt first gate next number_after judge_after refused_after
    one_more next number_after judge_after refused_after p next_is number_is short here verdict = record {
      base = so.base;
      payloads = so.payloads ++ p ∷ [];
      verdict = verdict;
      stands = so.stands;
      text = λ h. scan.one_more gate first place number so.payloads bytes (so.text h) (place_by h) so.number_is p (here h) ∙ ap (λ n. records first (so.payloads ++ p ∷ []) ++ drop n bytes) (sym next_is);
      short = AreShort-push so.payloads p so.short short;
      place_is = omega (arith, next_is, so.place_is, scan.length-records-push so.payloads first p);
      number_is = omega (arith, number_is, so.number_is, length-append so.payloads (p ∷ []));
    }

    -- up to what ends them
    pub all_taken : (r : Records J) → refused ≡ None → (honest → Ends (drop place bytes)) → r.judge ≡ judge → r.end ≡ place → r.next ≡ number → place ≤ 2 ^ 62 → AreRecords G honest bytes salt first gate r
    all_taken r none ends judge_is end_is next_is fits = record {
      base = so.base;
      payloads = so.payloads;
      taken = subst (λ (j : J). G.taken j salt so.base so.payloads) (sym judge_is) (subst (λ (o : Option ℕ). IsVerdict G judge o salt so.base so.payloads) none so.verdict);
      stands = so.stands;
      spelled = λ h. scan.all_read gate first place number so.payloads bytes (so.text h) (place_by h) so.number_is so.short (ends h);
      end_is = end_is ∙ so.place_is;
      end_fits = omega (arith, end_is, fits);
      next_is = next_is ∙ so.number_is;
    }

    -- where one was refused
    pub has_refused : (at : ℕ) → refused ≡ Some at → honest → Ends (drop place bytes) → HasRefused G bytes salt first gate at
    has_refused at some h ends = (
      so.base,
      so.payloads,
      so.stands h,
      scan.all_read gate first place number so.payloads bytes (so.text h) (place_by h) so.number_is so.short ends,
      subst (λ (o : Option ℕ). IsVerdict G judge o salt so.base so.payloads) some so.verdict,
    )

  -- ---- the file that counts

  stand_gates : (s : Stand J) (base : List ℕ) (payloads : List (List ℕ)) → IsStand G s base payloads → gate_after (first_gate (stand_file s base payloads)) payloads ≤ 2 ^ 62
  stand_gates s base payloads stand = omega (arith, gate_after_file (stand_file s base payloads), stand.end_is, stand.end_fits)

  pub judged_new : (honest : Type 0) (bytes : List ℕ) (salt : ℕ) (side : Side) (s : Stand J) → salt < 2 ^ 64 → (honest → framing bytes ≡ Uncreated) → stand_file s [] [] ≡ new_file salt 1 1 [] → IsStand G s [] [] → IsJudged G honest (placed side (opened_alone salt (framing bytes))) (judged_of side s)
  judged_new honest bytes salt side s fits none file stand = record {
    base = [];
    payloads = [];
    stands = λ h. ap (λ r. placed side (opened_alone salt r)) (none h) ∙ ap (Stands side) (sym file);
    within = λ h. subst IsWithin (sym file) (new_rests (at_rest (new_bytes salt 1 1 [])) salt 1 1 [] fits (omega arith) (omega arith) (omega arith) (omega arith) (omega arith) refl).within;
    taken = stand.taken;
    next_is = stand.next_is;
    gates = stand_gates s [] [] stand;
  }

  pub judged_stand : (honest : Type 0) (bytes : List ℕ) (salt : ℕ) (side : Side) (s : Stand J) (base : List ℕ) (payloads : List (List ℕ)) → IsStand G s base payloads → (honest → IsWholeStand s base payloads bytes) → IsJudged G honest (placed side (opened_alone salt (framing bytes))) (judged_of side s)
  judged_stand honest bytes salt side s base payloads stand whole = record {
    base = base;
    payloads = payloads;
    stands = λ h. ap (λ r. placed side (opened_alone salt r)) (whole h).whole;
    within = λ h. (whole h).spells.within;
    taken = stand.taken;
    next_is = stand.next_is;
    gates = stand_gates s base payloads stand;
  }

  -- what is said where both disks are honest, of what is there
  pub judged_when : (was now : Type 0) (found still : Opened) (j : Judged J) → (was → now) → (was → found ≡ still) → IsJudged G now still j → IsJudged G was found j
  judged_when was now found still j honest same is = record {
    base = is.base;
    payloads = is.payloads;
    stands = λ h. same h ∙ is.stands (honest h);
    within = λ h. is.within (honest h);
    taken = is.taken;
    next_is = is.next_is;
    gates = is.gates;
  }
