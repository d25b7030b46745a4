-- Forms are exact, and their spellings as long as they say; so is what is put together of such forms.
use Rattle.std.proofs.Common.{◌≡◌, ℕ, ◌+◌, ◌≤◌, Bool, true, eqb, List, [], ◌∷◌, ◌++◌, length, length-append, Option, Some, None, find, refl, sym, ap, subst, ◌∙◌, arith, inl, inr}
use Rattle.std.specs.Int.{w32, w64, to_be_bytes}
use Rattle.std.specs.List.{flat_map, sum_by}
use Rattle.std.proofs.lemmas.List.Sums.{sum_by-cons}
use Rattle.std.specs.Prelude.{IfSome}
use Rattle.std.specs.Str.{is_utf8}
use Rattle.std.proofs.lemmas.Bool.{eqb-true}
use Rattle.sb_codec.specs.Bytes as bytes
use Rattle.sb_codec.specs.Bytes.{sized}
use Rattle.sb_codec.specs.Readers as readers
use Rattle.sb_codec.specs.Readers.{◌>>=◌, mapped}
use Rattle.sb_codec.specs.Forms.{Form, number32, number64, blob, tested, text, ◌then◌, shaped, optional, content_or_none, Follow, listed, coded_at, coded, Row, Case, of, Choice, no_row, ◌or◌, chosen_at, variants, nothing, empty}
use Rattle.sb_codec.proofs.Exact.{IsBytes, IsBytes-rest, bind_some, some_is, chosen, Taken, Exact, exact_both, exact_as, exact_tested, exact_number32, exact_number64, exact_sized, exact_optional, exact_listed}
use Rattle.sb_codec.proofs.Room.{length-flat_map-cons}

pub record IsForm {A : Type 0} (f : Form A) : Type 0 where
  pub exact : Exact f.reads f.spell f.Fits
  -- what has a spelling may be written
  pub asked : (a : A) → f.Fits a → f.Asks a
  pub small : (a : A) → length (f.spell a) ≤ f.fixed + f.content a

pub number32_is : IsForm number32
number32_is = record { exact = exact_number32; asked = λ n h. h; small = λ n. let len : length (to_be_bytes w32 n) ≡ 4 = refl in omega (arith, len) }

pub number64_is : IsForm number64
number64_is = record { exact = exact_number64; asked = λ n h. tt; small = λ n. let len : length (to_be_bytes w64 n) ≡ 8 = refl in omega (arith, len) }

blob_small : (t : List ℕ) → length (sized t) ≤ 4 + length t
unfolding sized
blob_small t = let len : length (to_be_bytes w32 (length t)) ≡ 4 = refl in omega (arith, len, length-append (to_be_bytes w32 (length t)) t)

pub blob_is : IsForm blob
blob_is = record { exact = exact_sized; asked = λ t h. h; small = blob_small }

pub tested_is : {A : Type 0} {f : Form A} (test : A → Bool) → IsForm f → IsForm (tested test f)
tested_is test i = record { exact = exact_tested test i.exact; asked = λ a h passes. i.asked a h.0; small = i.small }

pub text_is : IsForm text
text_is = tested_is is_utf8 blob_is

infixr 6 ◌then_is◌
pub ◌then_is◌ : {A B : Type 0} {f : Form A} {g : Form B} → IsForm f → IsForm g → IsForm (f then g)
◌then_is◌ {A} {B} {f} {g} i j = record { exact = exact_both i.exact j.exact; asked = λ p h. (i.asked p.0 h.0, j.asked p.1 h.1); small = λ p. omega (arith, length-append (f.spell p.0) (g.spell p.1), i.small p.0, j.small p.1) }

pub shaped_is : {A B : Type 0} {f : Form A} (make : A → B) (parts : B → A) → ((a : A) → parts (make a) ≡ a) → ((b : B) → make (parts b) ≡ b) → IsForm f → IsForm (shaped make parts f)
shaped_is {A} {B} {f} make parts there back i = record {
  exact = exact_as make parts (λ b. f.spell (parts b)) (λ b. f.Fits (parts b)) (λ a. ap f.spell (there a)) (λ b. refl) (λ b _. back b) (λ a h. subst f.Fits (sym (there a)) h) (λ b h. h) i.exact;
  asked = λ b h. i.asked (parts b) h;
  small = λ b. i.small (parts b);
}

optional_small : {A : Type 0} {f : Form A} → IsForm f → (o : Option A) → length (bytes.optional f.spell o) ≤ 1 + f.fixed + content_or_none f.content o
optional_small i None = omega arith
optional_small i (Some a) = omega (arith, i.small a)

optional_asked : {A : Type 0} {f : Form A} → IsForm f → (o : Option A) → IfSome o f.Fits → IfSome o f.Asks
optional_asked i None h = tt
optional_asked i (Some a) h = i.asked a h

pub optional_is : {A : Type 0} {f : Form A} → IsForm f → IsForm (optional f)
optional_is i = record { exact = exact_optional i.exact; asked = optional_asked i; small = optional_small i }

pub items_small : {A : Type 0} {f : Form A} → IsForm f → (xs : List A) → length (flat_map f.spell xs) ≤ sum_by (λ x. f.fixed + f.content x) xs
items_small i [] = omega arith
items_small {A} {f} i (x ∷ xs) = omega (arith, length-flat_map-cons f.spell x xs, sum_by-cons (λ (y : A). f.fixed + f.content y) x xs, i.small x, items_small i xs)

listed_small : {A : Type 0} {f : Form A} → IsForm f → (xs : List A) → length (bytes.listed f.spell xs) ≤ 4 + sum_by (λ x. f.fixed + f.content x) xs
listed_small {A} {f} i xs = let len : length (to_be_bytes w32 (length xs)) ≡ 4 = refl in omega (arith, len, length-append (to_be_bytes w32 (length xs)) (flat_map f.spell xs), items_small i xs)

pub items_asked : {A : Type 0} {f : Form A} (follows : Option A → A → Bool) → IsForm f → (last : Option A) (xs : List A)
    → Follow (λ last x. f.Fits x × (follows last x ≡ true)) last xs → Follow (λ last x. f.Asks x × (follows last x ≡ true)) last xs
items_asked follows i last [] h = tt
items_asked follows i last (x ∷ xs) h = ((i.asked x h.0.0, h.0.1), items_asked follows i (Some x) xs h.1)

pub listed_is : {A : Type 0} {f : Form A} (follows : Option A → A → Bool) → IsForm f → IsForm (listed follows f)
listed_is {A} {f} follows i = record {
  exact = exact_listed (λ last. readers.tested (follows last) f.reads) f.spell (λ last x. f.Fits x × (follows last x ≡ true)) (λ last. exact_tested (follows last) i.exact);
  asked = λ xs h. (h.0, items_asked follows i None xs h.1);
  small = listed_small i;
}

-- ---- variants

abbrev pub Any : {A : Type 0} → A → Type 0
Any a = Unit {0}

find_true : {A : Type 0} (p : A → Bool) (xs : List A) (a : A) → find p xs ≡ Some a → p a ≡ true
find_true p [] a e = absurd cc
find_true p (x ∷ xs) a e =
    elim (chosen (p x) (Some x) (find p xs) (Some a) e) [
      | inl h ↦ subst (λ v. p v ≡ true) (some_is x a h.1) h.0
      | inr h ↦ find_true p xs a h.1
    ]

coded_takes : {A : Type 0} (code : A → ℕ) (values : List A) (bytes : List ℕ) (x : A × List ℕ) → IsBytes bytes → coded_at code values bytes ≡ Some x → Taken (λ a. code a ∷ []) Any bytes x
unfolding coded_at
coded_takes code values [] x bounds e = absurd cc
coded_takes {A} code values (b ∷ rest) x bounds e =
    let a = bind_some (find (λ v. eqb (code v) b) values) (λ v. Some (v, rest)) x e in
    let same : code a.0 ≡ b = eqb-true _ _ (find_true (λ v. eqb (code v) b) values a.0 a.1) in
    subst (Taken (λ (v : A). code v ∷ []) Any (b ∷ rest)) (some_is (a.0, rest) x a.2) (record { parts = ap (λ (n : ℕ). n ∷ rest) (sym same); rest = IsBytes-rest b rest bounds; fits = tt })

coded_again : {A : Type 0} (code : A → ℕ) (values : List A) → ((a : A) → find (λ v. eqb (code v) (code a)) values ≡ Some a) → (a : A) (rest : List ℕ) → Any a → coded_at code values (code a ∷ rest) ≡ Some (a, rest)
unfolding coded_at
coded_again code values all a rest fits = rw (all a) refl

pub coded_is : {A : Type 0} (code : A → ℕ) (values : List A) → ((a : A) → find (λ v. eqb (code v) (code a)) values ≡ Some a) → IsForm (coded code values)
coded_is code values all = record { exact = record { takes = coded_takes code values; again = coded_again code values all }; asked = λ a h. tt; small = λ a. omega arith }

-- what a choice reads behind a code is spelled so
abbrev pub Chooses : {A : Type 0} → (A → Case) → Choice A → Type 0
Chooses {A} case_of choice =
    (k : ℕ) (rest : List ℕ) (x : A × List ℕ) → IsBytes (k ∷ rest) → choice k rest ≡ Some x
    → Taken (λ a. (case_of a).code ∷ (case_of a).bytes) (λ a. (case_of a).Fits) (k ∷ rest) x

pub no_row_chooses : {A : Type 0} (case_of : A → Case) → Chooses case_of no_row
no_row_chooses case_of k rest x bounds e = absurd cc

pub row_chooses : {A : Type 0} (case_of : A → Case) (r : Row A) (others : Choice A) → IsForm r.form
    → ((p : r.Fields) → (case_of (r.make p)).code ∷ (case_of (r.make p)).bytes ≡ r.code ∷ r.form.spell p)
    → ((p : r.Fields) → r.form.Fits p → (case_of (r.make p)).Fits)
    → Chooses case_of others → Chooses case_of (r or others)
row_chooses {A} case_of r others i spelled to more k rest x bounds e =
    elim (chosen (eqb k r.code) (mapped r.make r.form.reads rest) (others k rest) (Some x) e) [
      | inl h ↦
          let a = bind_some (r.form.reads rest) (λ v. Some (r.make v.0, v.1)) x h.1 in
          let u = i.exact.takes rest a.0 (IsBytes-rest k rest bounds) a.1 in
          let whole : k ∷ rest ≡ (r.code ∷ r.form.spell a.0.0) ++ a.0.1 = ap (λ (n : ℕ). n ∷ rest) (eqb-true k r.code h.0) ∙ ap (λ (tail : List ℕ). r.code ∷ tail) u.parts in
          subst (Taken (λ (a : A). (case_of a).code ∷ (case_of a).bytes) (λ (a : A). (case_of a).Fits) (k ∷ rest)) (some_is (r.make a.0.0, a.0.1) x a.2) (record {
            parts = whole ∙ ap (λ (front : List ℕ). front ++ a.0.1) (sym (spelled a.0.0));
            rest = u.rest;
            fits = to a.0.0 u.fits;
          })
      | inr h ↦ more k rest x bounds h.1
    ]

-- what a value spells is read as it
pub record IsCase {A : Type 0} (choice : Choice A) (c : Case) (a : A) : Type 0 where
  pub again : (rest : List ℕ) → c.Fits → choice c.code (c.bytes ++ rest) ≡ Some (a, rest)
  pub asked : c.Fits → c.Asks
  pub small : length c.bytes ≤ c.most

pub is_case : {A : Type 0} (choice : Choice A) (r : Row A) → IsForm r.form → ((bytes : List ℕ) → choice r.code bytes ≡ mapped r.make r.form.reads bytes) → (p : r.Fields) → IsCase choice (of r p) (r.make p)
is_case choice r i found p = record {
  again = λ rest fits. found (r.form.spell p ++ rest) ∙ rw (i.exact.again p rest fits) refl;
  asked = i.asked p;
  small = i.small p;
}

variants_takes : {A : Type 0} (case_of : A → Case) (choice : Choice A) → Chooses case_of choice → (bytes : List ℕ) (x : A × List ℕ) → IsBytes bytes → chosen_at choice bytes ≡ Some x
    → Taken (λ a. (case_of a).code ∷ (case_of a).bytes) (λ a. (case_of a).Fits) bytes x
unfolding chosen_at
variants_takes case_of choice takes [] x bounds e = absurd cc
variants_takes case_of choice takes (k ∷ rest) x bounds e = takes k rest x bounds e

variants_again : {A : Type 0} (case_of : A → Case) (choice : Choice A) → ((a : A) → IsCase choice (case_of a) a) → (a : A) (rest : List ℕ) → (case_of a).Fits
    → chosen_at choice (((case_of a).code ∷ (case_of a).bytes) ++ rest) ≡ Some (a, rest)
unfolding chosen_at
variants_again case_of choice each a rest fits = (each a).again rest fits

pub variants_is : {A : Type 0} (case_of : A → Case) (choice : Choice A) → Chooses case_of choice → ((a : A) → IsCase choice (case_of a) a) → IsForm (variants case_of choice)
variants_is case_of choice takes each = record { exact = record { takes = variants_takes case_of choice takes; again = variants_again case_of choice each }; asked = λ a h. (each a).asked h; small = λ a. omega (arith, (each a).small) }

-- ---- no bytes, and no value

pub nothing_is : {A : Type 0} → IsForm (nothing {A = A})
nothing_is = record { exact = record { takes = λ bytes x bounds e. absurd cc; again = λ a rest fits. absurd fits }; asked = λ a h. absurd h; small = λ a. omega arith }

pub empty_is : IsForm empty
empty_is = record {
  exact = record {
    takes = λ bytes x bounds e. subst (Taken (λ (u : Unit {0}). []) (λ _. Unit {0}) bytes) (some_is (tt, bytes) x e) (record { parts = refl; rest = bounds; fits = tt });
    again = λ a rest fits. refl;
  };
  asked = λ a h. tt;
  small = λ a. omega arith;
}
