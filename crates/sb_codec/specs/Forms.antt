-- A form: how values of one kind are spelled and read, which have a spelling, and how long it is.
use Rattle.std.specs.Prelude.{◌≡◌, ◌<◌, ◌≤◌, ◌+◌, ◌^◌, ℕ, List, [], ◌∷◌, ◌++◌, length, Bool, true, Option, Some, None, Result, Ok, Err, IfSome, ◌==◌, find, if◌then◌else◌, vec_len, vec_capacity, Vec}
use Rattle.std.specs.Global.{Global}
use Rattle.std.specs.List.{sum_by}
use Rattle.std.specs.Int.{w32, w64, to_be_bytes}
use Rattle.std.specs.Str.{is_utf8}
use Rattle.std.specs.declared.alloc.AllocError.{AllocError}
use Rattle.sb_codec.specs.Bytes as bytes
use Rattle.sb_codec.specs.Bytes.{sized}
use Rattle.sb_codec.specs.Readers as readers
use Rattle.sb_codec.specs.Readers.{Reader, ◌>>=◌, mapped, number_at, sized_at, optional_at, listed_at}

-- how values are spelled and read, which of them have a spelling, and how long it is
pub record Form (A : Type 0) : Type 1 where
  pub spell : A → List ℕ
  pub reads : Reader A
  -- the value has a spelling
  pub Fits : A → Type 0
  -- What of that its type doesn't say: a Text is UTF-8 and a u64 has 8 bytes, but a list may be long or out of order.
  pub Asks : A → Type 0
  -- a spelling has at most fixed bytes beside the bytes of its content
  pub fixed : ℕ
  pub content : A → ℕ

-- What a writer does: it adds these bytes, or the room for them was not there.
abbrev pub Puts : List ℕ → Vec ℕ Global → Vec ℕ Global → Result (Unit {0}) AllocError → Type 0
Puts bytes before after (Ok done) = (after.items ≡ before.items ++ bytes) × (vec_len after ≡ vec_len before + length bytes) × (vec_capacity before ≤ vec_capacity after)
Puts bytes before after (Err e) = (vec_capacity before < vec_len before + length bytes) × (vec_capacity before ≤ vec_capacity after)

-- ---- numbers, truth, bytes, text

abbrev pub number32 : Form ℕ
number32 = record { spell = λ n. to_be_bytes w32 n; reads = number_at w32; Fits = λ n. n < 2 ^ 32; Asks = λ n. n < 2 ^ 32; fixed = 4; content = λ _. 0 }

abbrev pub number64 : Form ℕ
number64 = record { spell = λ n. to_be_bytes w64 n; reads = number_at w64; Fits = λ n. n < 2 ^ 64; Asks = λ _. Unit {0}; fixed = 8; content = λ _. 0 }

-- bytes behind their count, which has 4 bytes
abbrev pub blob : Form (List ℕ)
blob = record { spell = sized; reads = sized_at; Fits = λ t. length t < 2 ^ 32; Asks = λ t. length t < 2 ^ 32; fixed = 4; content = λ t. length t }

-- only values that pass the test, as their type says
abbrev pub tested : {A : Type 0} → (A → Bool) → Form A → Form A
tested test f = record { spell = f.spell; reads = readers.tested test f.reads; Fits = λ a. f.Fits a × (test a ≡ true); Asks = λ a. test a ≡ true → f.Asks a; fixed = f.fixed; content = f.content }

-- the same, of bytes that are UTF-8
abbrev pub text : Form (List ℕ)
text = tested is_utf8 blob

-- ---- put together

infixr 6 ◌then◌
-- one behind the other
abbrev pub ◌then◌ : {A B : Type 0} → Form A → Form B → Form (A × B)
f then g = record {
  spell = λ p. f.spell p.0 ++ g.spell p.1;
  reads = readers.both f.reads g.reads;
  Fits = λ p. f.Fits p.0 × g.Fits p.1;
  Asks = λ p. f.Asks p.0 × g.Asks p.1;
  fixed = f.fixed + g.fixed;
  content = λ p. f.content p.0 + g.content p.1;
}

-- the fields of a value
abbrev pub shaped : {A B : Type 0} → (A → B) → (B → A) → Form A → Form B
shaped make parts f = record { spell = λ b. f.spell (parts b); reads = mapped make f.reads; Fits = λ b. f.Fits (parts b); Asks = λ b. f.Asks (parts b); fixed = f.fixed; content = λ b. f.content (parts b) }

-- the bytes of a content that may be left out
abbrev pub content_or_none : {A : Type 0} → (A → ℕ) → Option A → ℕ
content_or_none content None = 0
content_or_none content (Some a) = content a

-- 00, or 01 and the value
abbrev pub optional : {A : Type 0} → Form A → Form (Option A)
optional f = record { spell = bytes.optional f.spell; reads = optional_at f.reads; Fits = λ o. IfSome o f.Fits; Asks = λ o. IfSome o f.Asks; fixed = 1 + f.fixed; content = content_or_none f.content }

-- each fits behind what came before it
abbrev pub Follow : {A : Type 0} → (Option A → A → Type 0) → Option A → List A → Type 0
Follow F last [] = Unit {0}
Follow F last (x ∷ xs) = F last x × Follow F (Some x) xs

-- a count in 4 bytes, and the items, of which each may stand behind the one before it
abbrev pub listed : {A : Type 0} → (Option A → A → Bool) → Form A → Form (List A)
listed follows f = record {
  spell = bytes.listed f.spell;
  reads = listed_at (λ last. readers.tested (follows last) f.reads);
  Fits = λ xs. (length xs < 2 ^ 32) × Follow (λ last x. f.Fits x × (follows last x ≡ true)) None xs;
  Asks = λ xs. (length xs < 2 ^ 32) × Follow (λ last x. f.Asks x × (follows last x ≡ true)) None xs;
  fixed = 4;
  content = sum_by (λ x. f.fixed + f.content x);
}

-- ---- variants

-- one byte for each of these values
unfoldable pub coded_at : {A : Type 0} → (A → ℕ) → List A → Reader A
coded_at code values [] = None
coded_at code values (b ∷ rest) = find (λ a. code a == b) values >>= λ a. Some (a, rest)

-- one of a few values, as one byte
abbrev pub coded : {A : Type 0} → (A → ℕ) → List A → Form A
coded code values = record { spell = λ a. code a ∷ []; reads = coded_at code values; Fits = λ _. Unit {0}; Asks = λ _. Unit {0}; fixed = 1; content = λ _. 0 }

-- a variant: its code, the form of its fields, and the value that they make
pub record Row (A : Type 0) : Type 1 where
  pub code : ℕ
  pub Fields : Type 0
  pub form : Form Fields
  pub make : Fields → A

-- a variant: its code, the form of its fields, and the value that they make
abbrev pub row : {P A : Type 0} → ℕ → Form P → (P → A) → Row A
row {P} code form make = record { code = code; Fields = P; form = form; make = make }

-- what a value's variant says of it: its code, its fields' bytes, whether they fit, and their size at most
pub record Case : Type 1 where
  pub code : ℕ
  pub bytes : List ℕ
  pub Fits : Type 0
  pub Asks : Type 0
  pub most : ℕ

-- the case that a variant with these fields is
abbrev pub of : {A : Type 0} → (r : Row A) → r.Fields → Case
of r fields = record { code = r.code; bytes = r.form.spell fields; Fits = r.form.Fits fields; Asks = r.form.Asks fields; most = r.form.fixed + r.form.content fields }

-- what is read behind each code
abbrev pub Choice : Type 0 → Type 0
Choice A = ℕ → Reader A

-- no code is left
abbrev pub no_row : {A : Type 0} → Choice A
no_row k bytes = None

infixr 5 ◌or◌
-- this variant behind its code, or another behind another code
abbrev pub ◌or◌ : {A : Type 0} → Row A → Choice A → Choice A
(r or others) k bytes = if k == r.code then mapped r.make r.form.reads bytes else others k bytes

-- a code, and what is read behind it
unfoldable pub chosen_at : {A : Type 0} → Choice A → Reader A
chosen_at choice [] = None
chosen_at choice (k ∷ rest) = choice k rest

-- a code, and what stands behind it
abbrev pub variants : {A : Type 0} → (A → Case) → Choice A → Form A
variants case_of choice = record { spell = λ a. (case_of a).code ∷ (case_of a).bytes; reads = chosen_at choice; Fits = λ a. (case_of a).Fits; Asks = λ a. (case_of a).Asks; fixed = 1; content = λ a. (case_of a).most }

-- no value has a spelling
abbrev pub nothing : {A : Type 0} → Form A
nothing = record { spell = λ _. []; reads = λ _. None; Fits = λ _. ⊥; Asks = λ _. ⊥; fixed = 0; content = λ _. 0 }

-- no bytes
abbrev pub empty : Form (Unit {0})
empty = record { spell = λ _. []; reads = λ bytes. Some (tt, bytes); Fits = λ _. Unit {0}; Asks = λ _. Unit {0}; fixed = 0; content = λ _. 0 }
