-- One line that is answered, or at which a run ends.
use Rattle.std.proofs.Common.{◌≡◌, ◌⊎◌, inl, inr, ℕ, List, [], ◌∷◌, Bool, true, false, Option, refl, sym, subst}
use Rattle.serde_json.specs.Data.{Data}
use Rattle.sb_outside.specs.Links.{Exchange}
use Rattle.sb_outside.specs.Streams.{Stays, Gains, GainsPart}
use Rattle.sb_client.specs.Requests.{request_of}
use Rattle.sb_client.specs.Replies.{refuses, long_line, TakesLine, HasNoLine}
use Rattle.sb_client.specs.Answers.{LineKind, blank, too_long, sent, kind_of, one_exchange, IsAnsweredAs, IsCutAt}
use Rattle.sb_client.specs.Serving.{IsServed, IsCutServing}
use Rattle.sb_client.specs.declared.ending.ClientEnding.{ClientEnding}
use Rattle.sb_client.specs.declared.ending.ClientEnding.TheVariants.{WriteFault, LinkFault, BadReply, OutOfMemory}
use Rattle.sb_client.proofs.Telling.{tells-none, stays_tells, front_given}

answered_as : (key : List ℕ) (kind wanted : LineKind) (line : List ℕ) (made : List Exchange) (written : List ℕ) (refused : Bool) → kind ≡ wanted → IsAnsweredAs key wanted line made written refused → IsAnsweredAs key kind line made written refused
answered_as key kind wanted line made written refused is answered = subst (λ (k : LineKind). IsAnsweredAs key k line made written refused) (sym is) answered

-- ---- a line that isn't sent

pub served_blank : (key line : List ℕ) (told : Option (List Exchange)) (given : Option (List ℕ)) → kind_of line ≡ blank → IsServed key line told told given given false
served_blank key line told given kind = record {
  made = [];
  written = [];
  is = answered_as key (kind_of line) blank line [] [] false kind (refl, refl, refl);
  tells = tells-none told;
  gives = tells-none given;
}

pub served_long : (key line text : List ℕ) (told : Option (List Exchange)) (given given_after : Option (List ℕ)) → kind_of line ≡ too_long → text ≡ long_line → Gains given given_after text → IsServed key line told told given given_after true
served_long key line text told given given_after kind is gives = record {
  made = [];
  written = text;
  is = answered_as key (kind_of line) too_long line [] text true kind (refl, is, refl);
  tells = tells-none told;
  gives = gives;
}

pub cut_long : (key line text : List ℕ) (told : Option (List Exchange)) (given given_after : Option (List ℕ)) → kind_of line ≡ too_long → text ≡ long_line → GainsPart given given_after text → IsCutServing key line told told given given_after WriteFault
cut_long key line text told given given_after kind is gives =
    let front = front_given given given_after text gives in
    record {
      made = [];
      part = front.0;
      is = (text, true, answered_as key (kind_of line) too_long line [] text true kind (refl, is, refl), front.1);
      tells = tells-none told;
      gives = front.2;
    }

-- ---- a line that is sent

sent_as : (key line asked reply text : List ℕ) (d : Data) (refused : Bool) → kind_of line ≡ sent → TakesLine reply text d → refused ≡ refuses d → IsAnsweredAs key (kind_of line) line (one_exchange key line reply) text refused
sent_as key line asked reply text d refused kind takes says = answered_as key (kind_of line) sent line (one_exchange key line reply) text refused kind (record { reply = reply; data_is = d; exchanged = refl; takes = takes; says = says })

exchange_told : (key line asked reply : List ℕ) (told told_after : Option (List Exchange)) → asked ≡ request_of key line → Gains told told_after (record { request = asked; reply = reply } ∷ []) → Gains told told_after (one_exchange key line reply)
exchange_told key line asked reply told told_after is tells = subst (λ (a : List ℕ). Gains told told_after (record { request = a; reply = reply } ∷ [])) is tells

pub served_sent : (key line asked reply text : List ℕ) (d : Data) (refused : Bool) (told told_after : Option (List Exchange)) (given given_after : Option (List ℕ)) → kind_of line ≡ sent → asked ≡ request_of key line → Gains told told_after (record { request = asked; reply = reply } ∷ [])
    → TakesLine reply text d → refused ≡ refuses d → Gains given given_after text → IsServed key line told told_after given given_after refused
served_sent key line asked reply text d refused told told_after given given_after kind is tells takes says gives = record {
  made = one_exchange key line reply;
  written = text;
  is = sent_as key line asked reply text d refused kind takes says;
  tells = exchange_told key line asked reply told told_after is tells;
  gives = gives;
}

pub cut_writing : (key line asked reply text : List ℕ) (d : Data) (refused : Bool) (told told_after : Option (List Exchange)) (given given_after : Option (List ℕ)) → kind_of line ≡ sent → asked ≡ request_of key line → Gains told told_after (record { request = asked; reply = reply } ∷ [])
    → TakesLine reply text d → refused ≡ refuses d → GainsPart given given_after text → IsCutServing key line told told_after given given_after WriteFault
cut_writing key line asked reply text d refused told told_after given given_after kind is tells takes says gives =
    let front = front_given given given_after text gives in
    record {
      made = one_exchange key line reply;
      part = front.0;
      is = (text, refused, sent_as key line asked reply text d refused kind takes says, front.1);
      tells = exchange_told key line asked reply told told_after is tells;
      gives = front.2;
    }

-- no memory for the request
pub cut_asking : (key line : List ℕ) (told : Option (List Exchange)) (given : Option (List ℕ)) → kind_of line ≡ sent → IsCutServing key line told told given given OutOfMemory
cut_asking key line told given kind = record {
  made = [];
  part = [];
  is = (kind, inl refl, refl);
  tells = tells-none told;
  gives = tells-none given;
}

-- no exchange was made
pub cut_exchange : (key line : List ℕ) (end : ClientEnding) (told told_after : Option (List Exchange)) (given : Option (List ℕ)) → kind_of line ≡ sent → (end ≡ LinkFault) ⊎ (end ≡ OutOfMemory) → Stays told told_after → IsCutServing key line told told_after given given end
cut_exchange key line end told told_after given kind known stays = record {
  made = [];
  part = [];
  is = by_end known;
  tells = stays_tells told told_after stays;
  gives = tells-none given;
}
  where
    by_end : (end ≡ LinkFault) ⊎ (end ≡ OutOfMemory) → IsCutAt key end line [] []
    by_end (inl is) = subst (λ (e : ClientEnding). IsCutAt key e line [] []) (sym is) (kind, refl, refl)
    by_end (inr is) = subst (λ (e : ClientEnding). IsCutAt key e line [] []) (sym is) (kind, inl refl, refl)

-- no reply line was taken
pub cut_reply : (key line asked reply : List ℕ) (end : ClientEnding) (told told_after : Option (List Exchange)) (given : Option (List ℕ)) → kind_of line ≡ sent → asked ≡ request_of key line → Gains told told_after (record { request = asked; reply = reply } ∷ []) → (end ≡ BadReply) ⊎ (end ≡ OutOfMemory)
    → (end ≡ BadReply → HasNoLine reply) → IsCutServing key line told told_after given given end
cut_reply key line asked reply end told told_after given kind is tells known bad = record {
  made = one_exchange key line reply;
  part = [];
  is = by_end known;
  tells = exchange_told key line asked reply told told_after is tells;
  gives = tells-none given;
}
  where
    by_end : (end ≡ BadReply) ⊎ (end ≡ OutOfMemory) → IsCutAt key end line (one_exchange key line reply) []
    by_end (inl is) = subst (λ (e : ClientEnding). IsCutAt key e line (one_exchange key line reply) []) (sym is) (reply, kind, refl, bad is, refl)
    by_end (inr is) = subst (λ (e : ClientEnding). IsCutAt key e line (one_exchange key line reply) []) (sym is) (kind, inr (reply, refl), refl)
