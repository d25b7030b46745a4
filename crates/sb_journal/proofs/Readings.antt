-- What the bytes of a disk stand for, by what was read of them.
use Rattle.std.proofs.Common.{◌≡◌, inl, inr, length-append, ℕ, ◌+◌, ◌^◌, ◌<◌, ◌≤◌, List, ◌++◌, length, drop, true, false, sym, ◌∙◌, ap, subst, arith}
use Rattle.std.specs.Prelude.{Some, Err}
use Rattle.sb_journal.specs.Text.{records, file_text, AreBytes, Spelled, Spells}
use Rattle.sb_journal.specs.Framing.{Uncreated, Occupied, Whole, Damaged, framing, read}
use Rattle.sb_journal.specs.Opened.{stand_file, is_shut, IsHead, IsNoHead, IsStand, IsWholeStand, IsRefusedIn, HasBase, AreRecords, HasRefused}
use Rattle.sb_journal.specs.Pieces.{BeginsWith}
use Rattle.sb_journal.specs.declared.reading.Head.{Head}
use Rattle.sb_journal.specs.declared.reading.HeadFault.TheVariants.{NoHead, OtherHead, BadHead}
use Rattle.sb_journal.specs.declared.judge.Judge.{Ghosts}
use Rattle.sb_journal.specs.declared.reading.Records.{Records}
use Rattle.sb_journal.specs.declared.reading.Stand.{Stand}
use Rattle.sb_journal.proofs.Frames.{length-records}
use Rattle.sb_journal.proofs.Heads.{length-file_text, reads_whole}
use Rattle.sb_journal.proofs.Wholes.{file_of, created_by, fault_by, head_by, spells_by, is_free, is_occupied, head_damaged, with_records, with_cut_base}

-- a stand with this head and these records
pub record HasParts {J : Type 0} (s : Stand J) (h : Head) (r : Records J) : Type 0 where
  pub salt : s.salt ≡ h.salt
  pub generation : s.generation ≡ h.generation
  pub first : s.first ≡ h.first
  pub judge : s.judge ≡ r.judge
  pub end_is : s.end ≡ r.end
  pub closed_is : s.closed ≡ r.closed
  pub next_is : s.next ≡ r.next

module _ (part bytes : List ℕ) (starts : BeginsWith part bytes) where
  pub no_file : IsNoHead NoHead part → framing bytes ≡ Uncreated
  no_file none = is_free bytes (created_by part bytes starts false none.0) (elim starts.enough [
    | inl long ↦ absurd (omega (arith, long, none.1))
    | inr all ↦ omega (arith, none.1, ap length starts.is, length-append part starts.tail, ap length all)
  ])

  pub other_file : IsNoHead OtherHead part → framing bytes ≡ Occupied
  other_file other = is_occupied bytes (created_by part bytes starts false other.0) (omega (arith, other.1, ap length starts.is, length-append part starts.tail))

  pub bad_head : (place : ℕ) → IsNoHead (BadHead place) part → framing bytes ≡ Damaged place
  bad_head place bad = head_damaged bytes place (created_by part bytes starts true bad.0) (fault_by part bytes starts (Some place) bad.0 bad.1)

  pub cut_base : (h : Head) → IsHead h part → length bytes < 42 + h.base_length → framing bytes ≡ Damaged 42
  cut_base h is short =
      let whole = head_by part bytes starts h is in
      with_cut_base bytes whole.created whole.sound (omega (arith, short, whole.base_is))

  -- what follows is of a file whose first gate is at this place
  module _ (h : Head) (gate : ℕ) (is : IsHead h part) (gate_is : gate ≡ 42 + h.base_length) where
    pub bad_record : (place : ℕ) → gate ≤ length bytes → read (length bytes) gate h.first (drop gate bytes) ≡ Err place → framing bytes ≡ Damaged place
    bad_record place inside broken =
        let whole = head_by part bytes starts h is in
        with_records bytes gate h.first (Err place) whole.created whole.sound (gate_is ∙ ap (λ n. 42 + n) whole.base_is) inside whole.first_is broken

    whole_file : (base : List ℕ) (ps : List (List ℕ)) → Spells (file_of h base ps) bytes → framing bytes ≡ Whole (file_of h base ps)
    whole_file base ps spells =
        let long : 43 ≤ length (file_text (file_of h base ps) ++ spells.rest) = omega (arith, (head_by part bytes starts h is).long, ap length spells.is) in
        ap framing spells.is ∙ reads_whole (file_of h base ps) spells.rest spells.within spells.ends long

    -- its base and all of its payloads were taken
    pub whole_stand : {J : Type 0} (G : Ghosts J) (s : Stand J) (r : Records J) (honest : Type 0) → HasParts s h r → AreBytes part → length bytes ≤ 2 ^ 62 → honest → r.closed ≡ is_shut r.end bytes → (are : AreRecords G honest bytes h.salt h.first gate r) → IsWholeStand s are.base are.payloads bytes
    whole_stand {J} G s r honest parts bytes_are fits so closed are =
        let base = are.base in
        let ps = are.payloads in
        let spells = spells_by part bytes starts h gate base ps is gate_is bytes_are fits (are.stands so) (are.spelled so) in
        let same : stand_file s base ps ≡ file_of h base ps = let a = parts.salt in let b = parts.generation in let c = parts.first in cc in
        record {
          whole = whole_file base ps spells ∙ ap Whole (sym same);
          spells = subst (λ f. Spells f bytes) (sym same) spells;
          closed = parts.closed_is ∙ closed ∙ ap (λ n. is_shut n bytes) (sym parts.end_is);
        }

    -- one of them was refused
    pub refused_file : {J : Type 0} (G : Ghosts J) (place : ℕ) → AreBytes part → length bytes ≤ 2 ^ 62 → HasRefused G bytes h.salt h.first gate place → IsRefusedIn G bytes place
    refused_file {J} G place bytes_are fits refused =
        let base = refused.0 in
        let ps = refused.1 in
        (file_of h base ps, whole_file base ps (spells_by part bytes starts h gate base ps is gate_is bytes_are fits refused.2 refused.3), refused.4)

-- whatever the bytes are
pub counted : {J : Type 0} (G : Ghosts J) (s : Stand J) (h : Head) (r : Records J) (honest : Type 0) (bytes : List ℕ) (gate : ℕ) → HasParts s h r → h.first ≤ 2 ^ 62 → (are : AreRecords G honest bytes h.salt h.first gate r) → IsStand G s are.base are.payloads
counted {J} G s h r honest bytes gate parts low are =
    let base = are.base in
    let ps = are.payloads in
    let text = ap (λ n. length (records n ps)) parts.first in
    let parts_end = parts.end_is in
    let parts_next = parts.next_is in
    let parts_first = parts.first in
    let end_is = are.end_is in
    let next_is = are.next_is in
    let fits = are.end_fits in
    record {
      taken = subst (λ (j : J). G.taken j s.salt base ps) (sym parts.judge) (subst (λ (n : ℕ). G.taken r.judge n base ps) (sym parts.salt) are.taken);
      end_is = omega (arith, parts_end, end_is, text, length-file_text (stand_file s base ps));
      end_fits = omega (arith, parts_end, fits);
      next_is = omega (arith, parts_next, next_is, parts_first);
      next_fits = omega (arith, parts_next, next_is, low, parts_end, end_is, length-records ps h.first);
    }

-- what is said where the disk is honest, of what it holds then
pub records_when : {J : Type 0} (G : Ghosts J) (was now : Type 0) (bytes read_then : List ℕ) (salt first gate : ℕ) (r : Records J) → (was → now) → (was → read_then ≡ bytes) → AreRecords G now read_then salt first gate r → AreRecords G was bytes salt first gate r
records_when G was now bytes read_then salt first gate r honest same are = record {
  base = are.base;
  payloads = are.payloads;
  taken = are.taken;
  stands = λ h. subst (λ (s : List ℕ). HasBase s gate are.base) (same h) (are.stands (honest h));
  spelled = λ h. subst (λ (s : List ℕ). Spelled first are.payloads (drop gate s)) (same h) (are.spelled (honest h));
  end_is = are.end_is;
  end_fits = are.end_fits;
  next_is = are.next_is;
}
