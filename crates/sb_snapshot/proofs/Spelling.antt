-- States are spelled and read exactly.
use Rattle.std.proofs.Common.{◌≡◌, ℕ, zero, suc, cond, eqb, List, [], ◌∷◌, ◌++◌, length, Some, None, refl, sym, ap, subst, ◌∙◌, arith}
use Rattle.std.proofs.lemmas.Bool.{eqb-true}
use Rattle.std.proofs.lemmas.List.{append-nil, nil_from_length}
use Rattle.sb_machine.specs.declared.state.State.{State}
use Rattle.sb_codec.specs.Messages.{any_next}
use Rattle.sb_codec.proofs.Exact.{IsBytes, bind_some, some_is, when_some}
use Rattle.sb_codec.proofs.Forms.{IsForm, number64_is, ◌then_is◌, shaped_is}
use Rattle.sb_snapshot.specs.Base.{parts_of, gathered, parts, base, base_of, HasSpelling, state_of}
use Rattle.sb_snapshot.specs.Entities.{is_next_head}
use Rattle.sb_snapshot.specs.Laws.{AreBytes, ReadsBack, IsReadAsSpelled, IsSpelledOnce, BeginsNone, IsWrittenAgain}
use Rattle.sb_snapshot.specs.Replies.{is_next_kept}
use Rattle.sb_snapshot.specs.Sessions.{is_next_session}
use Rattle.sb_snapshot.specs.Transactions.{is_next_transaction}
use Rattle.sb_snapshot.specs.declared.parts.Parts.{Parts}
use Rattle.sb_snapshot.proofs.ExactEntities.{head_is}
use Rattle.sb_snapshot.proofs.ExactReplies.{kept_is}
use Rattle.sb_snapshot.proofs.ExactSessions.{leaf_is, session_is}
use Rattle.sb_snapshot.proofs.ExactTransactions.{transaction_is}
use Rattle.sb_snapshot.proofs.Gathered.{made_of_parts, made_again, apart_since}
use Rattle.sb_snapshot.proofs.Lists.{listed64_is, narrowed_is}

pub parts_is : IsForm parts
unfolding parts
parts_is =
    shaped_is _ _ (λ _. refl) (λ _. refl)
    (number64_is then_is number64_is then_is number64_is then_is number64_is then_is listed64_is is_next_head head_is then_is listed64_is any_next leaf_is then_is number64_is
    then_is listed64_is is_next_session session_is then_is listed64_is is_next_transaction transaction_is then_is listed64_is is_next_kept kept_is)

-- parts that fit, of a state, make it again
gathered_again : (s : State) → HasSpelling s → gathered s.space.salt (parts_of s) ≡ Some s
unfolding parts
gathered_again s fits = made_again s (apart_since None s.space.entities fits.1.1.1.1.0.1)

pub base_is : (salt : ℕ) → IsForm (base salt)
base_is salt = narrowed_is (gathered salt) parts_of (λ s. s.space.salt ≡ salt) (made_of_parts salt) (λ s fits own. subst (λ (n : ℕ). gathered n (parts_of s) ≡ Some s) own (gathered_again s fits)) parts_is

-- ---- the laws

pub reads_back : ReadsBack
unfolding state_of
reads_back s fits =
    let whole : (base s.space.salt).reads (base_of s) ≡ Some (s, []) = ap (base s.space.salt).reads (sym (append-nil (base_of s))) ∙ (base_is s.space.salt).exact.again s [] (fits, refl) in
    rw whole refl

bytes_are : (bytes : List ℕ) → AreBytes bytes → IsBytes bytes
bytes_are [] are zero = omega arith
bytes_are [] are (suc i) = omega arith
bytes_are (b ∷ bytes) are zero = are.0
bytes_are (b ∷ bytes) are (suc i) = bytes_are bytes are.1 i

pub read_as_spelled : (salt : ℕ) (bytes : List ℕ) (s : State) → IsBytes bytes → state_of salt bytes ≡ Some s → (bytes ≡ base_of s) × HasSpelling s × (s.space.salt ≡ salt)
unfolding state_of
read_as_spelled salt bytes s bounds e =
    let a = bind_some ((base salt).reads bytes) (λ x. cond (eqb (length x.1) 0) (Some x.0) None) s e in
    let g = when_some (eqb (length a.0.1) 0) a.0.0 s a.2 in
    let u = (base_is salt).exact.takes bytes a.0 bounds a.1 in
    let nothing : a.0.1 ≡ [] = nil_from_length a.0.1 (eqb-true _ _ g.0) in
    subst (λ (v : State). (bytes ≡ base_of v) × HasSpelling v × (v.space.salt ≡ salt)) g.1 (u.parts ∙ ap (λ (tail : List ℕ). base_of a.0.0 ++ tail) nothing ∙ append-nil (base_of a.0.0), u.fits.0, u.fits.1)

pub read_exactly : IsReadAsSpelled
read_exactly salt bytes s are e = read_as_spelled salt bytes s (bytes_are bytes are) e

pub spelled_once : IsSpelledOnce
spelled_once a b x y f g own e =
    let salt = a.space.salt in
    let same : (a, x) ≡ (b, y) = some_is (a, x) (b, y) (sym ((base_is salt).exact.again a x (f, refl)) ∙ ap (base salt).reads e ∙ (base_is salt).exact.again b y (g, sym own)) in
    (ap (λ (p : State × List ℕ). p.0) same, ap (λ (p : State × List ℕ). p.1) same)

pub begins_none : BeginsNone
begins_none a b x f g e =
    let there : parts.reads (base_of b) ≡ Some (parts_of b, []) = ap parts.reads (sym (append-nil (base_of b))) ∙ parts_is.exact.again (parts_of b) [] g in
    let same : (parts_of a, x) ≡ (parts_of b, []) = some_is (parts_of a, x) (parts_of b, []) (sym (parts_is.exact.again (parts_of a) x f) ∙ ap parts.reads e ∙ there) in
    ap (λ (p : Parts × List ℕ). p.1) same

pub written_again : IsWrittenAgain
written_again s h = parts_is.asked (parts_of s) h
