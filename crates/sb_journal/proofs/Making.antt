-- The bytes of a new file, write by write.
use Rattle.std.proofs.Common.{◌≡◌, ℕ, ◌+◌, ◌<◌, ◌≤◌, List, [], ◌∷◌, ◌++◌, length, get_or, take, drop, refl, sym, ◌∙◌, ap, arith, append_assoc, length-append, length-take, w64}
use Rattle.std.specs.Int.{to_be_bytes}
use Rattle.std.proofs.lemmas.List.{append-nil, take_at, drop_all}
use Rattle.sb_outside.specs.Held.{overwritten}
use Rattle.sb_journal.specs.Text.{head, file_text, new_file, new_bytes}
use Rattle.sb_journal.proofs.Heads.{length-file_text}
use Rattle.sb_journal.proofs.Images.{written_at}

-- a write from a place to the end or past it
pub overwritten_end : (front back bytes : List ℕ) (place : ℕ) → place ≡ length front → length back ≤ length bytes → overwritten (front ++ back) place bytes ≡ front ++ bytes
overwritten_end front back bytes place at over =
    ap (λ (l : List ℕ). l ++ bytes ++ drop (place + length bytes) (front ++ back)) (take_at front back place (sym at))
    ∙ ap (λ (l : List ℕ). front ++ bytes ++ l) (drop_all (place + length bytes) (front ++ back) (omega (arith, at, length-append front back)))
    ∙ append-nil (front ++ bytes)

pub head_written : (seen all : List ℕ) → seen ≡ 0 ∷ [] → overwritten seen 1 all ≡ 0 ∷ all
head_written seen all is = ap (λ (l : List ℕ). overwritten l 1 all) is ∙ overwritten_end (0 ∷ []) [] all 1 refl (omega arith)

pub base_written : (bytes base : List ℕ) → length bytes ≡ 41 → 0 < length base → overwritten (0 ∷ (bytes ++ 0 ∷ [])) 42 base ≡ 0 ∷ (bytes ++ base)
base_written bytes base long some = overwritten_end (0 ∷ bytes) (0 ∷ []) base 42 (omega (arith, long)) (omega (arith, some))

pub gate_written : (bytes base : List ℕ) → length bytes ≡ 41 → overwritten (0 ∷ (bytes ++ base)) (42 + length base) (0 ∷ []) ≡ 0 ∷ (bytes ++ (base ++ 0 ∷ []))
gate_written bytes base long =
    ap (λ (l : List ℕ). overwritten l (42 + length base) (0 ∷ [])) (sym (append-nil (0 ∷ (bytes ++ base))))
    ∙ overwritten_end (0 ∷ (bytes ++ base)) [] (0 ∷ []) (42 + length base) (omega (arith, long, length-append bytes base)) (omega arith)
    ∙ ap (λ (l : List ℕ). 0 ∷ l) (append_assoc bytes base (0 ∷ []))

-- the new file, with its gate open
pub opened_text : (salt generation first : ℕ) (base : List ℕ) → 1 ∷ (head salt generation first (length base) ++ (base ++ 0 ∷ [])) ≡ new_bytes salt generation first base
unfolding file_text
opened_text salt generation first base =
    let h = head salt generation first (length base) in
    ap (λ (l : List ℕ). 1 ∷ (h ++ (l ++ 0 ∷ []))) (sym (append-nil base))
    ∙ ap (λ (l : List ℕ). 1 ∷ l) (sym (append_assoc h (base ++ []) (0 ∷ [])))

pub file_opened : (salt generation first : ℕ) (base : List ℕ) → overwritten (0 ∷ (head salt generation first (length base) ++ (base ++ 0 ∷ []))) 0 (1 ∷ []) ≡ new_bytes salt generation first base
file_opened salt generation first base =
    written_at [] (head salt generation first (length base) ++ (base ++ 0 ∷ [])) 0 1 0 refl ∙ opened_text salt generation first base

pub length-new_bytes : (salt generation first : ℕ) (base : List ℕ) → length (new_bytes salt generation first base) ≡ 43 + length base
length-new_bytes salt generation first base =
    let file = new_file salt generation first base in
    omega (arith, length-file_text file, length-append (file_text file) (0 ∷ []))

pub length-overwritten : (old : List ℕ) (place : ℕ) (bytes : List ℕ) → place ≤ length old → place + length bytes ≤ length (overwritten old place bytes)
length-overwritten old place bytes inside = omega (arith, length-append (take place old ++ bytes) (drop (place + length bytes) old), length-append (take place old) bytes, length-take place old)

abbrev eight : List ℕ → List ℕ → List ℕ
eight s rest = get_or s 0 0 ∷ get_or s 1 0 ∷ get_or s 2 0 ∷ get_or s 3 0 ∷ get_or s 4 0 ∷ get_or s 5 0 ∷ get_or s 6 0 ∷ get_or s 7 0 ∷ rest

-- a head, byte by byte
abbrev pub bytes_of_head : (s g f b : List ℕ) → List ℕ
bytes_of_head s g f b = 83 ∷ 66 ∷ 78 ∷ 83 ∷ 74 ∷ 82 ∷ 78 ∷ 76 ∷ 1 ∷ (eight s (eight g (eight f (eight b (0 ∷ [])))))

pub head_spelled : (s g f b : List ℕ) (salt generation first n : ℕ) → s ≡ to_be_bytes w64 salt → g ≡ to_be_bytes w64 generation → f ≡ to_be_bytes w64 first → b ≡ to_be_bytes w64 n → bytes_of_head s g f b ≡ head salt generation first n ++ 0 ∷ []
unfolding head
head_spelled s g f b salt generation first n s_is g_is f_is b_is =
    ap (λ (l : List ℕ). bytes_of_head l g f b) s_is
    ∙ ap (λ (l : List ℕ). bytes_of_head (to_be_bytes w64 salt) l f b) g_is
    ∙ ap (λ (l : List ℕ). bytes_of_head (to_be_bytes w64 salt) (to_be_bytes w64 generation) l b) f_is
    ∙ ap (λ (l : List ℕ). bytes_of_head (to_be_bytes w64 salt) (to_be_bytes w64 generation) (to_be_bytes w64 first) l) b_is
