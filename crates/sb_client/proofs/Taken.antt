-- The reply line of a response, and bytes that have none.
use Rattle.std.proofs.Common.{◌≡◌, ℕ, List, [], ◌∷◌, ◌++◌, true, false, Some, None, refl, sym, ◌∙◌, ap, subst}
use Rattle.std.specs.Prelude.{is_some}
use Rattle.std.specs.Str.{IsUtf8}
use Rattle.std.proofs.lemmas.List.{append_cancel_right}
use Rattle.json.specs.Lex.{tokens}
use Rattle.json.specs.Print.{print}
use Rattle.serde_json.specs.Data.{Data}
use Rattle.serde_json.specs.Read.{read}
use Rattle.serde_json.specs.Find.{as_object}
use Rattle.serde_json.specs.Written.{has_float, compact_text, IsInOrder}
use Rattle.sb_http.specs.WholeResponses.{WholeMessage, IsWhole}
use Rattle.sb_http.proofs.WholeResponses.{one_response}
use Rattle.sb_client.specs.Replies.{IsReplyLine, MayBeReply, TakesLine, HasNoLine}

-- ---- a text

pub may_be : (text printed : List ℕ) (d : Data) → read text ≡ Some d → is_some (as_object d) ≡ true → printed ≡ text → printed ≡ print (tokens printed) → IsInOrder printed d → (has_float d ≡ false → printed ≡ compact_text d) → MayBeReply (text ++ 10 ∷ []) d
may_be text printed d reads object same compact order plain = record {
  text = text;
  is = refl;
  reads = reads;
  object = object;
  compact = subst (λ (t : List ℕ). t ≡ print (tokens t)) same compact;
  order = subst (λ (t : List ℕ). IsInOrder t d) same order;
  plain = λ none. sym same ∙ plain none;
}

text_is : (text : List ℕ) (d : Data) → IsReplyLine (text ++ 10 ∷ []) d → text ≡ compact_text d
text_is text d reply = append_cancel_right text (compact_text d) (10 ∷ []) reply.is

same_some : (a b : Data) → Some a ≡ Some b → a ≡ b
same_some a b e = search

reads_as : (text : List ℕ) (d v : Data) → IsReplyLine (text ++ 10 ∷ []) d → read text ≡ Some v → d ≡ v
reads_as text d v reply reads = same_some d v (sym reply.reads ∙ ap read (sym (text_is text d reply)) ∙ reads)

-- what isn't read is no reply
pub not_read : (text : List ℕ) (d : Data) → (IsUtf8 text → read text ≡ None) → IsReplyLine (text ++ 10 ∷ []) d → ⊥
not_read text d none reply =
    let is = text_is text d reply in
    let other : Some d ≡ None = sym reply.reads ∙ ap read (sym is) ∙ none (subst IsUtf8 (sym is) reply.utf8) in
    absurd cc

-- nor is what is no object
pub not_object : (text : List ℕ) (d v : Data) → read text ≡ Some v → is_some (as_object v) ≡ false → IsReplyLine (text ++ 10 ∷ []) d → ⊥
not_object text d v reads none reply =
    let other : true ≡ false = sym reply.object ∙ ap (λ (x : Data). is_some (as_object x)) (reads_as text d v reply reads) ∙ none in
    absurd cc

-- nor is what is written in another way
pub not_same : (text printed : List ℕ) (d v : Data) → read text ≡ Some v → (has_float v ≡ false → printed ≡ compact_text v) → (printed ≡ text → ⊥) → IsReplyLine (text ++ 10 ∷ []) d → ⊥
not_same text printed d v reads plain other reply =
    let is : d ≡ v = reads_as text d v reply reads in
    let none : has_float v ≡ false = ap has_float (sym is) ∙ reply.no_float in
    other (plain none ∙ ap compact_text (sym is) ∙ sym (text_is text d reply))

-- ---- a line

pub reply_line : (line text : List ℕ) (d : Data) → line ≡ text ++ 10 ∷ [] → MayBeReply (text ++ 10 ∷ []) d → MayBeReply line d
reply_line line text d is reply = subst (λ (l : List ℕ). MayBeReply l d) (sym is) reply

pub no_reply_line : (line text : List ℕ) (d : Data) → line ≡ text ++ 10 ∷ [] → (IsReplyLine (text ++ 10 ∷ []) d → ⊥) → IsReplyLine line d → ⊥
no_reply_line line text d is none reply = none (subst (λ (l : List ℕ). IsReplyLine l d) is reply)

pub no_feed_reply : (line : List ℕ) (d : Data) → ((text : List ℕ) → line ≡ text ++ 10 ∷ [] → ⊥) → IsReplyLine line d → ⊥
no_feed_reply line d none reply = none (compact_text d) reply.is

-- ---- a response

pub no_response : (bytes : List ℕ) → ((m : WholeMessage) → IsWhole bytes m → ⊥) → HasNoLine bytes
no_response bytes none = λ m d whole fine reply. none m whole

pub not_fine : (bytes : List ℕ) (r : WholeMessage) → IsWhole bytes r → (r.code ≡ 200 → ⊥) → HasNoLine bytes
not_fine bytes r is other = λ m d whole fine reply. other (ap (λ (x : WholeMessage). x.code) (one_response bytes r m is whole) ∙ fine)

pub no_line : (bytes : List ℕ) (r : WholeMessage) → IsWhole bytes r → ((d : Data) → IsReplyLine r.body d → ⊥) → HasNoLine bytes
no_line bytes r is none = λ m d whole fine reply. none d (subst (λ (x : WholeMessage). IsReplyLine x.body d) (one_response bytes m r whole is) reply)

pub takes_line : (bytes : List ℕ) (r : WholeMessage) (d : Data) → IsWhole bytes r → r.code ≡ 200 → MayBeReply r.body d → TakesLine bytes r.body d
takes_line bytes r d is fine reply = record {
  response = r;
  is = is;
  fine = fine;
  body = refl;
  reply = reply;
}
