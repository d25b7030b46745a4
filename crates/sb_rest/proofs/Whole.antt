-- BrokerProperties hold no float.
use Rattle.std.proofs.Common.{◌≡◌, ℕ, List, [], ◌∷◌, Bool, true, false, Option, Some, None, codes, refl, if◌then◌else◌}
use Rattle.serde_json.specs.Data.{object, number, unsigned, string, Members, no_members, put}
use Rattle.serde_json.specs.Written.{has_float, members_have_float}
use Rattle.sb_model.specs.declared.message.SystemText.{SystemText}
use Rattle.sb_model.specs.SystemNames.{system_name}
use Rattle.sb_machine.specs.declared.reply.CopyShown.{CopyShown}
use Rattle.sb_machine.specs.declared.reply.Showing.{Showing}
use Rattle.sb_machine.specs.declared.reply.Showing.TheVariants.{Removed, Locked, Browsed}
use Rattle.sb_lines.specs.Tokens.{token_text}
use Rattle.sb_lines.proofs.Floats.{put_whole}
use Rattle.sb_rest.specs.Sessions.{session_members}
use Rattle.sb_rest.specs.Shown.{is_shown, with_shown, with_texts, with_ttl, with_lock, broker_members}

either_text : (b : Bool) (t : SystemText) (ms : Members) → members_have_float ms ≡ false → members_have_float (if b then put (system_name t.name) (string t.text) ms else ms) ≡ false
either_text true t ms whole = put_whole (system_name t.name) (string t.text) ms refl whole
either_text false t ms whole = whole

texts_whole : (ts : List SystemText) (ms : Members) → members_have_float ms ≡ false → members_have_float (with_texts ts ms) ≡ false
texts_whole [] ms whole = whole
texts_whole (t ∷ ts) ms whole = texts_whole ts (with_shown t ms) (either_text (is_shown t) t ms whole)

ttl_whole : (ttl : Option ℕ) (ms : Members) → members_have_float ms ≡ false → members_have_float (with_ttl ttl ms) ≡ false
ttl_whole None ms whole = whole
ttl_whole (Some n) ms whole = put_whole (codes "TimeToLive") (number (unsigned n)) ms refl whole

lock_whole : (until : List ℕ) (s : Showing) (ms : Members) → members_have_float ms ≡ false → members_have_float (with_lock until s ms) ≡ false
lock_whole until (Locked token moment) ms whole = put_whole (codes "LockToken") (string (token_text token)) (put (codes "LockedUntilUtc") (string until) ms) refl (put_whole (codes "LockedUntilUtc") (string until) ms refl whole)
lock_whole until Removed ms whole = whole
lock_whole until (Browsed state) ms whole = whole

pub broker_whole : (texts : List SystemText) (enqueued until : List ℕ) (c : CopyShown) → has_float (object (broker_members texts enqueued until c)) ≡ false
broker_whole texts enqueued until c =
    let m0 : Members = with_texts texts no_members in
    let m1 : Members = put (codes "DeliveryCount") (number (unsigned c.delivery)) m0 in
    let m2 : Members = put (codes "EnqueuedSequenceNumber") (number (unsigned c.enqueued_seq)) m1 in
    let m3 : Members = put (codes "EnqueuedTimeUtc") (string enqueued) m2 in
    let m4 : Members = put (codes "SequenceNumber") (number (unsigned c.number)) m3 in
    lock_whole until c.showing (with_ttl c.message.ttl m4) (ttl_whole c.message.ttl m4
    (put_whole (codes "SequenceNumber") (number (unsigned c.number)) m3 refl
    (put_whole (codes "EnqueuedTimeUtc") (string enqueued) m2 refl
    (put_whole (codes "EnqueuedSequenceNumber") (number (unsigned c.enqueued_seq)) m1 refl
    (put_whole (codes "DeliveryCount") (number (unsigned c.delivery)) m0 refl (texts_whole texts no_members refl))))))

pub session_whole : (id until : List ℕ) → has_float (object (session_members id until)) ≡ false
session_whole id until =
    put_whole (codes "SessionId") (string id) (put (codes "LockedUntilUtc") (string until) no_members) refl (put_whole (codes "LockedUntilUtc") (string until) no_members refl refl)
