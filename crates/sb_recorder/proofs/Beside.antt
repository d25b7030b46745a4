-- What is done to a journal while its file counts, one call behind another.
use Rattle.std.specs.Prelude.{◌||◌, nat_lt, slice_index, OnOk}
use Rattle.std.proofs.Common.{◌≡◌, ◌⊎◌, inl, inr, ℕ, ◌+◌, ◌-◌, ◌≤◌, ◌<◌, List, [], ◌++◌, length, Option, Some, None, Bool, true, false, true≢false, Result, Ok, Err, refl, sym, ◌∙◌, ap, subst, arith, append_assoc, length-append}
use Rattle.std.proofs.lemmas.List.{append-nil}
use Rattle.sb_outside.specs.Causes.{RoseByOne}
use Rattle.sb_outside.specs.declared.disk.Disk.{Ghosts}
use Rattle.sb_journal.specs.declared.found.Side.{Side}
use Rattle.sb_journal.specs.declared.found.Side.TheVariants.{A, B as Other}
use Rattle.sb_journal.specs.declared.journal.Journal.{Journal}
use Rattle.sb_journal.specs.declared.rotating.NextFile.{NextFile}
use Rattle.sb_journal.specs.Choosing.{is_unshut, turned}
use Rattle.sb_journal.specs.Text.{File, next_file}
use Rattle.sb_journal.specs.Opened.{FindsFile, FindsOldOrNext}
use Rattle.sb_journal.specs.Disks.{Disks, OneDisk, halfway, on_side, EachImage, EachPair, EachStretch, AreQuiet, OneFault, NoneFell, SameHonesty}
use Rattle.sb_journal.specs.Journals.{journal_disks, journal_side, has_failed, fault_count, next_first, HoldsFile, HoldsNext}
use Rattle.sb_journal.proofs.Pairs.{both, started_pair, still_pairs, weaker_pair}
use Rattle.sb_journal.proofs.Staging.{stages_read}
use Rattle.sb_journal.proofs.Wholes.{whole_created}
use Rattle.sb_recorder.specs.Recorders.{Begun, CountsStill, GoesBeside, HasAccount, HasTurned, IsBeside, IsPart, LeavesEither}

-- ---- accounts

quiet_on : (was mid now : Disks) → AreQuiet was mid → AreQuiet mid now → AreQuiet was now
quiet_on was mid now first second = (second.0 ∙ first.0, second.1 ∙ first.1)

fell_on : (was mid now : Disks) → NoneFell was mid → NoneFell mid now → NoneFell was now
fell_on was mid now first second = (omega (arith, first.0, second.0), omega (arith, first.1, second.1))

honest_on : (was mid now : Disks) → SameHonesty was mid → SameHonesty mid now → SameHonesty was now
honest_on was mid now first second = (second.0 ∙ first.0, second.1 ∙ first.1)

fault_on : (was mid now : Disks) (n : ℕ) → AreQuiet was mid → OneFault mid now n → OneFault was now n
fault_on was mid now n quiet (inl x) = inl (x.0, subst (λ k. RoseByOne k now.a.faults) quiet.0 x.1, x.2 ∙ quiet.1)
fault_on was mid now n quiet (inr x) = inr (x.0, subst (λ k. RoseByOne k now.b.faults) quiet.1 x.1, x.2 ∙ quiet.0)

pub account_on : {D : Type 0} {B : Ghosts D} (was mid now : Journal D B) → has_failed mid ≡ false → HasAccount was mid → HasAccount mid now → HasAccount was now
account_on was mid now runs first second = record {
  later = fell_on (journal_disks was) (journal_disks mid) (journal_disks now) first.later second.later;
  honesty = honest_on (journal_disks was) (journal_disks mid) (journal_disks now) first.honesty second.honesty;
  quiet = λ still. quiet_on (journal_disks was) (journal_disks mid) (journal_disks now) (first.quiet runs) (second.quiet still);
  cause = λ failed. fault_on (journal_disks was) (journal_disks mid) (journal_disks now) (fault_count now) (first.quiet runs) (second.cause failed);
}

pub no_account : {D : Type 0} {B : Ghosts D} (j : Journal D B) → has_failed j ≡ false → HasAccount j j
no_account j runs = record {
  later = (omega arith, omega arith);
  honesty = (refl, refl);
  quiet = λ still. (refl, refl);
  cause = λ failed. absurd (true≢false (sym failed ∙ runs));
}

-- ---- the disk that is recorded on

-- what holds a file isn't shut, so it isn't beside it
other_side : {D : Type 0} (G : Ghosts D) (s t : Side) (c o c1 o1 : D) → is_unshut (G.held c).seen ≡ true → is_unshut (G.held o1).seen ≡ false → on_side s (both G t c1 o1) ≡ on_side s (both G s c o) → t ≡ s
other_side G A A c o c1 o1 unshut shut same = refl
other_side G Other Other c o c1 o1 unshut shut same = refl
other_side G A Other c o c1 o1 unshut shut same = absurd (true≢false (sym unshut ∙ sym (ap (λ (d : OneDisk). is_unshut d.held.seen) same) ∙ shut))
other_side G Other A c o c1 o1 unshut shut same = absurd (true≢false (sym unshut ∙ sym (ap (λ (d : OneDisk). is_unshut d.held.seen) same) ∙ shut))

pub same_side : {D : Type 0} {B : Ghosts D} (file : File) (was now : Journal D B) → HoldsFile was file → HoldsFile now file → on_side (journal_side was) (journal_disks now) ≡ on_side (journal_side was) (journal_disks was) → journal_side now ≡ journal_side was
same_side {D} {B} file was now before after same =
    let seen = (B.held was.current).seen in
    let whole = stages_read (B.held was.current) was.end was.next file before.written before.stages in
    other_side B was.side now.side was.current was.other now.current now.other (ap (λ (b : Bool). b || nat_lt 1 (slice_index seen 0)) (whole_created seen file whole)) after.aside.seen same

-- ---- beside the file

-- what a call says of the journal before it, which is there beside the file, and behind it
pub record IsCall {D : Type 0} {B : Ghosts D} (file : File) (mid now : Journal D B) : Type 0 where
  pub pair : EachPair (journal_disks mid) (journal_disks now) (FindsFile file)
  pub still : on_side (journal_side mid) (journal_disks now) ≡ on_side (journal_side mid) (journal_disks mid)
  pub holds : has_failed now ≡ false → HoldsFile now file

counts_on : {D : Type 0} {B : Ghosts D} (file : File) (was mid now : Journal D B) → has_failed mid ≡ false → HoldsFile was file → CountsStill file was mid → IsCall file mid now → CountsStill file was now
counts_on {D} {B} file was mid now runs held first call = record {
  moments = still_pairs (journal_side was) (journal_disks was) (journal_disks mid) (journal_disks now) (FindsFile file) first.still there first.moments call.pair;
  still = there ∙ first.still;
  holds = call.holds;
  side = λ running. same_side file was now held (call.holds running) (there ∙ first.still);
}
  where
    there : on_side (journal_side was) (journal_disks now) ≡ on_side (journal_side was) (journal_disks mid)
    there = subst (λ (s : Side). on_side s (journal_disks now) ≡ on_side s (journal_disks mid)) (first.side runs) call.still

pub beside_on : {D : Type 0} {B : Ghosts D} (was mid now : Journal D B) → has_failed mid ≡ false → GoesBeside was mid → HasAccount mid now → ((file : File) → HoldsFile was file → IsCall file mid now) → GoesBeside was now
beside_on was mid now runs first account call = record {
  account = account_on was mid now runs first.account account;
  counts = λ file held. counts_on file was mid now runs held (first.counts file held) (call file held);
}

-- before the first call
pub beside_none : {D : Type 0} {B : Ghosts D} (j : Journal D B) → has_failed j ≡ false → GoesBeside j j
beside_none j runs = record {
  account = no_account j runs;
  counts = λ file held. record {
    moments = started_pair (journal_disks j) (FindsFile file) held.leaves;
    still = refl;
    holds = λ running. held;
    side = λ running. refl;
  };
}

-- ---- in two stretches

half_same : (side : Side) (was mid now : Disks) → on_side side mid ≡ on_side side was → halfway side mid now ≡ halfway side was now
half_same A was mid now same = ap (λ (d : OneDisk). record { a = d; b = now.b }) same
half_same Other was mid now same = ap (λ (d : OneDisk). record { a = now.a; b = d }) same

half_still : (side : Side) (was now : Disks) → on_side side (halfway side was now) ≡ on_side side was
half_still A was now = refl
half_still Other was now = refl

half_all : (side : Side) (was now : Disks) → on_side side now ≡ on_side side was → halfway side was now ≡ now
half_all A was now same = ap (λ (d : OneDisk). record { a = d; b = now.b }) (sym same)
half_all Other was now same = ap (λ (d : OneDisk). record { a = now.a; b = d }) (sym same)

-- behind what was done to the other disk alone
pub stretch_behind : (side : Side) (was mid now : Disks) (P : List ℕ → List ℕ → Type 0) → on_side side mid ≡ on_side side was → EachPair was mid P → EachStretch side mid now P → EachStretch side was now P
stretch_behind side was mid now P same first run = (
  subst (λ (d : Disks). EachPair was d P) (half_same side was mid now same) (still_pairs side was mid (halfway side mid now) P same (half_still side mid now) first run.0),
  subst (λ (d : Disks). EachPair d now P) (half_same side was mid now same) run.1,
)

-- and that alone
pub stretch_one : (side : Side) (was now : Disks) (P : List ℕ → List ℕ → Type 0) → on_side side now ≡ on_side side was → EachPair was now P → EachStretch side was now P
stretch_one side was now P same run =
    let half : now ≡ halfway side was now = sym (half_all side was now same) in (
      subst (λ (d : Disks). EachPair was d P) half run,
      subst (λ (d : Disks). EachPair d now P) half (started_pair now P (λ x y on_x on_y. (run.present x on_x).present y on_y)),
    )

-- where nothing is done
pub stretch_none : {D : Type 0} {B : Ghosts D} (j : Journal D B) (P : List ℕ → List ℕ → Type 0) → EachImage (journal_disks j) P → EachStretch (journal_side j) (journal_disks j) (journal_disks j) P
stretch_none j P each = stretch_one (journal_side j) (journal_disks j) (journal_disks j) P refl (started_pair (journal_disks j) P each)

pub weaker_stretch : (side : Side) (was now : Disks) (P Q : List ℕ → List ℕ → Type 0) → ((x y : List ℕ) → P x y → Q x y) → EachStretch side was now P → EachStretch side was now Q
weaker_stretch side was now P Q weaker run = (weaker_pair was (halfway side was now) P Q weaker run.0, weaker_pair (halfway side was now) now P Q weaker run.1)

-- a crash now
pub stretch_now : (side : Side) (was now : Disks) (P : List ℕ → List ℕ → Type 0) → EachStretch side was now P → EachImage now P
stretch_now side was now P run x y on_x on_y = (run.1.present x on_x).present y on_y

-- ---- a journal that went on

pub either_stretch : (side : Side) (was mid now : Disks) (file next : File) → on_side side mid ≡ on_side side was → EachPair was mid (FindsFile file) → EachStretch side mid now (FindsOldOrNext file next) → EachStretch side was now (FindsOldOrNext file next)
either_stretch side was mid now file next same first run = stretch_behind side was mid now (FindsOldOrNext file next) same (weaker_pair was mid (FindsFile file) (FindsOldOrNext file next) (λ x y is. inl is) first) run

-- ---- calls

-- what a call that writes on beside the file says
module _ {D : Type 0} {B : Ghosts D} (was mid now : Journal D B) (runs : has_failed mid ≡ false) (first : GoesBeside was mid) (later : NoneFell (journal_disks mid) (journal_disks now)) (honesty : SameHonesty (journal_disks mid) (journal_disks now))
    (still : on_side (journal_side mid) (journal_disks now) ≡ on_side (journal_side mid) (journal_disks mid)) (pair : (file : File) → HoldsFile was file → EachPair (journal_disks mid) (journal_disks now) (FindsFile file)) where
  pub beside_failed : has_failed now ≡ true → OneFault (journal_disks mid) (journal_disks now) (fault_count now) → GoesBeside was now
  beside_failed failed cause = beside_on was mid now runs first
      (record { later = later; honesty = honesty; quiet = λ running. absurd (true≢false (sym failed ∙ running)); cause = λ _. cause })
      (λ file held. record { pair = pair file held; still = still; holds = λ running. absurd (true≢false (sym failed ∙ running)) })

  pub beside_gone : has_failed now ≡ false → AreQuiet (journal_disks mid) (journal_disks now) → ((file : File) → HoldsFile was file → HoldsFile now file) → GoesBeside was now
  beside_gone running quiet holds = beside_on was mid now runs first
      (record { later = later; honesty = honesty; quiet = λ _. quiet; cause = λ failed. absurd (true≢false (sym failed ∙ running)) })
      (λ file held. record { pair = pair file held; still = still; holds = λ _. holds file held })

pub begun_empty : (gathered : List ℕ) → gathered ≡ [] → [] ≡ [] ++ gathered
begun_empty gathered none = sym none

-- ---- the base is whole

-- a file that counts still may be the one that is found
pub left_beside : {D : Type 0} {B : Ghosts D} (file next : File) (was now : Journal D B) → CountsStill file was now → EachStretch (journal_side was) (journal_disks was) (journal_disks now) (FindsOldOrNext file next)
left_beside file next was now counts =
    weaker_stretch (journal_side was) (journal_disks was) (journal_disks now) (FindsFile file) (FindsOldOrNext file next) (λ x y is. inl is)
    (stretch_one (journal_side was) (journal_disks was) (journal_disks now) (FindsFile file) counts.still counts.moments)

-- one piece more is written
module _ {D : Type 0} {B : Ghosts D} (begun : Begun B) (mid now : Journal D B) (o : Option NextFile) (next after : NextFile) (bytes : List ℕ) (here : o ≡ Some next) (runs : has_failed mid ≡ false) (on : IsBeside mid o begun)
    (later : NoneFell (journal_disks mid) (journal_disks now)) (honesty : SameHonesty (journal_disks mid) (journal_disks now)) (still : on_side (journal_side mid) (journal_disks now) ≡ on_side (journal_side mid) (journal_disks mid))
    (pair : (file : File) (base : List ℕ) → HoldsNext mid next file base → EachPair (journal_disks mid) (journal_disks now) (FindsFile file)) where
  pub piece_failed : (o : Option NextFile) → o ≡ None → has_failed now ≡ true → OneFault (journal_disks mid) (journal_disks now) (fault_count now) → IsBeside now o begun
  piece_failed o nothing failed cause = record {
    beside = beside_failed begun.journal mid now runs on.beside later honesty still (λ file held. let had = on.writes next here file held in pair file had.0 had.1) failed cause;
    lost = λ is. failed;
    writes = λ n is. absurd (let never = sym nothing ∙ is in cc);
  }

  pub piece_goes : has_failed now ≡ false → AreQuiet (journal_disks mid) (journal_disks now) → ((file : File) (base : List ℕ) → HoldsNext mid next file base → HoldsNext now after file (base ++ bytes)) → IsBeside now (Some after) begun
  piece_goes running quiet ok = record {
    beside = beside_gone begun.journal mid now runs on.beside later honesty still (λ file held. let had = on.writes next here file held in pair file had.0 had.1) running quiet (λ file held. let had = on.writes next here file held in (ok file had.0 had.1).holds);
    lost = λ never. absurd cc;
    writes = λ n is file held.
        let had = on.writes next here file held in
        let same : after ≡ n = cc in
        (had.0 ++ bytes, subst (λ (x : NextFile). HoldsNext now x file (had.0 ++ bytes)) same (ok file had.0 had.1));
  }

pub piece_has : {D : Type 0} {B : Ghosts D} (begun : Begun B) (mid now : Journal D B) (o : Option NextFile) (next after : NextFile) (left left_after : ℕ) (gathered empty text all bytes : List ℕ) → o ≡ Some next → IsPart mid o left gathered begun text → next_first after ≡ next_first next
    → ((file : File) (base : List ℕ) → HoldsNext mid next file base → HoldsNext now after file (base ++ bytes)) → ((w : List ℕ) → text ≡ w ++ gathered → w ++ bytes ≡ all) → length all + left_after ≡ begun.total → empty ≡ [] → IsPart now (Some after) left_after empty begun all
piece_has begun mid now o next after left left_after gathered empty text all bytes here part first ok joined left_is none = record {
  file = after;
  next_is = refl;
  first = first ∙ ap next_first (sym same) ∙ part.first;
  left_is = left_is;
  written = all;
  text_is = sym (append-nil all) ∙ ap (λ (l : List ℕ). all ++ l) (sym none);
  holds = λ f held. subst (λ (l : List ℕ). HoldsNext now after f l) (joined part.written part.text_is) (ok f part.written (subst (λ (n : NextFile). HoldsNext mid n f part.written) same (part.holds f held)));
}
  where
    same : part.file ≡ next
    same = let is = part.next_is in cc

-- what is too long to be gathered with others comes behind none
pub none_gathered : (gathered bytes : List ℕ) → (length gathered + length bytes ≤ 65536) ⊎ (gathered ≡ []) → 65536 < length bytes → gathered ≡ []
none_gathered gathered bytes (inl few) long = absurd (omega (arith, few, long))
none_gathered gathered bytes (inr none) long = none

-- behind none all that may be gathered has room
pub few_gathered : (gathered bytes : List ℕ) (room : ℕ) → (length gathered + length bytes ≤ 65536) ⊎ (gathered ≡ []) → length bytes ≤ 65536 → 1048576 ≤ room → length gathered + length bytes ≤ room
few_gathered gathered bytes room (inl few) short fits = omega (arith, few, fits)
few_gathered gathered bytes room (inr none) short fits = let empty = ap length none in omega (arith, empty, short, fits)

pub gathers : {D : Type 0} {B : Ghosts D} (j : Journal D B) (next : Option NextFile) (left : ℕ) (gathered more bytes : List ℕ) (begun : Begun B) (text : List ℕ) → length bytes ≤ left → more ≡ gathered ++ bytes → (length text ≤ begun.total → IsPart j next left gathered begun text)
    → length (text ++ bytes) ≤ begun.total → IsPart j next (left - length bytes) more begun (text ++ bytes)
gathers j next left gathered more bytes begun text fits is part few =
    let had = part (omega (arith, few, length-append text bytes)) in
    record {
      file = had.file;
      next_is = had.next_is;
      first = had.first;
      left_is = let was = had.left_is in omega (arith, was, fits, length-append text bytes);
      written = had.written;
      text_is = ap (λ (l : List ℕ). l ++ bytes) had.text_is ∙ append_assoc had.written gathered bytes ∙ ap (λ (l : List ℕ). had.written ++ l) (sym is);
      holds = had.holds;
    }

-- all of it is written
pub whole_part : {D : Type 0} {B : Ghosts D} (begun : Begun B) (mid : Journal D B) (o : Option NextFile) (next : NextFile) (left : ℕ) (gathered text : List ℕ) → o ≡ Some next → gathered ≡ [] → IsPart mid o left gathered begun text
    → (next_first next ≡ begun.first) × ((f : File) → HoldsFile begun.journal f → HoldsNext mid next f text)
whole_part begun mid o next left gathered text here none part = (
  ap next_first (sym same) ∙ part.first,
  λ f held. subst (λ (l : List ℕ). HoldsNext mid next f l) all (subst (λ (n : NextFile). HoldsNext mid n f part.written) same (part.holds f held)),
)
  where
    same : part.file ≡ next
    same = let is = part.next_is in cc

    all : part.written ≡ text
    all = sym (append-nil part.written) ∙ ap (λ (l : List ℕ). part.written ++ l) (sym none) ∙ sym part.text_is

-- where none are gathered
pub piece_long : (text w bytes gathered : List ℕ) → gathered ≡ [] → text ≡ w ++ gathered → w ++ bytes ≡ text ++ bytes
piece_long text w bytes gathered none is = ap (λ (l : List ℕ). l ++ bytes) (sym (is ∙ ap (λ (l : List ℕ). w ++ l) none ∙ append-nil w))

-- the next file, which has the whole base, is made safe
module _ {D : Type 0} {B : Ghosts D} (was mid now : Journal D B) (next : NextFile) (file : File) (first : ℕ) (text : List ℕ) (first_is : next_first next ≡ first) (counts : CountsStill file was mid) (runs : has_failed mid ≡ false) (holds : HoldsNext mid next file text) where
  pub turned_on : {T E : Type 0} (r : Result T E) → OnOk r (HoldsFile now (next_file file (next_first next) text)) → OnOk r (journal_side now ≡ turned (journal_side mid)) → OnOk r (HasTurned file was now first text)
  turned_on (Ok x) ok side = record {
    holds = subst (λ (n : ℕ). HoldsFile now (next_file file n text)) first_is ok;
    side = side ∙ ap turned (counts.side runs);
  }
  turned_on (Err e) ok side = tt

  pub left_either : EachStretch (journal_side mid) (journal_disks mid) (journal_disks now) (FindsOldOrNext file (next_file file (next_first next) text)) → LeavesEither file was now first text
  left_either run =
      either_stretch (journal_side was) (journal_disks was) (journal_disks mid) (journal_disks now) file (next_file file first text) counts.still counts.moments
      (subst (λ (s : Side). EachStretch s (journal_disks mid) (journal_disks now) (FindsOldOrNext file (next_file file first text))) (counts.side runs)
      (subst (λ (n : ℕ). EachStretch (journal_side mid) (journal_disks mid) (journal_disks now) (FindsOldOrNext file (next_file file n text))) first_is run))
