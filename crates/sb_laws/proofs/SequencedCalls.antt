-- Calls bring no EnqueuedSequenceNumber but one that was given.
use Rattle.std.proofs.Common.{Bool, List, Some, [], false, filter, map, ℕ, ◌+◌, ◌∷◌, ◌≡◌, ◌≤◌}
use Rattle.std.specs.Prelude.{find}
use Rattle.sb_laws.proofs.Carrying.{each_flat}
use Rattle.sb_laws.proofs.Eachs.{each_filter, each_found}
use Rattle.sb_laws.proofs.Entities.{EachLeaf, leaf_each}
use Rattle.sb_laws.proofs.Ways.{Way, aborts, adds_rule, begins, cancels, closes, commits, drops_rule, expires, hands_out, makes_queue, makes_subscription, makes_topic, opens, prolongs, queues_send, removes, renews, rolls_back, sends, settles_later, settles_now, takes_out, tells, writes}
use Rattle.sb_laws.proofs.Moves.{leased_held}
use Rattle.sb_laws.proofs.Entities.{IsOrdered}
use Rattle.sb_machine.specs.Administration.{going_with}
use Rattle.sb_machine.specs.Changes.{numbers_given}
use Rattle.sb_machine.specs.Delivery.{released}
use Rattle.sb_machine.specs.Each.{Each}
use Rattle.sb_machine.specs.Leases.{is_under_session}
use Rattle.sb_machine.specs.Names.{is_same_entity}
use Rattle.sb_machine.specs.Namespace.{entity_at, leaf_of, listed, made}
use Rattle.sb_machine.specs.SendRow.{queued_send}
use Rattle.sb_machine.specs.declared.call.Act.{Act}
use Rattle.sb_machine.specs.declared.call.Path.{Path}
use Rattle.sb_machine.specs.declared.change.Change.{Change}
use Rattle.sb_machine.specs.declared.change.Change.TheVariants.{Removes}
use Rattle.sb_machine.specs.declared.reply.Reply.{Reply}
use Rattle.sb_machine.specs.declared.state.Entity.{Entity}
use Rattle.sb_machine.specs.declared.state.Space.{Space}
use Rattle.sb_machine.specs.declared.state.StoredCopy.{StoredCopy}
use Rattle.sb_model.specs.declared.message.Message.{Message}
use Rattle.sb_laws.proofs.Sequences.{AreSeqs, BringsSeq, HasSeq, SeqsIn, commit_seq, expired_seq, found_seq, released_seq, sends_seq, settled_seq}

module _ (most : ℕ) where
  removals_seq : (es : List Entity) → Each (BringsSeq most) (map (λ x. Removes x.about.number) es)
  removals_seq [] = tt
  removals_seq (e ∷ es) = (tt, removals_seq es)

  module _ (t : ℕ) (s : Space) (ordered : IsOrdered s) (h : AreSeqs most s) where
    copy_seq : (from : Path) (e : Entity) (q : StoredCopy → Bool) (c : StoredCopy) → entity_at from s ≡ Some e → find q (leaf_of from.part e).copies ≡ Some c → HasSeq most c
    copy_seq from e q c there found = found_seq most (λ x. is_same_entity x.about.path from) e from.part q c s h there found

    pub way_seq : (act : Act) (reply : Reply) (cs : List Change) → made s + numbers_given cs ≤ most → Way s t act reply cs → Each (BringsSeq most) cs
    way_seq _ _ _ few (tells told) = tt
    way_seq _ _ _ few (makes_queue named new fine) = (tt, tt)
    way_seq _ _ _ few (makes_topic named new fine) = (tt, tt)
    way_seq _ _ _ few (makes_subscription e named short there is new fine) = (tt, tt)
    way_seq _ _ _ few (adds_rule e f a named there new f_is a_is small) = (tt, tt)
    way_seq _ _ _ few (removes e there) = removals_seq (e ∷ going_with s e)
    way_seq _ _ _ few (drops_rule e r there is) = (tt, tt)
    way_seq _ _ _ few (sends {messages = messages} e goes there sessions small) = sends_seq most t e messages s h few
    way_seq _ _ _ few (queues_send {to = to} {messages = messages} x named goes there room small) = at messages where
      at : (ms : List Message) → Each (BringsSeq most) (queued_send t to ms x)
      at [] = tt
      at (m ∷ ms) = (tt, tt)
    way_seq _ _ _ few (cancels e c there is) = (tt, tt)
    way_seq _ _ _ few (hands_out from e c p there own is of stands) = (tt, tt)
    way_seq _ _ _ few (takes_out from e c p there is stands) = (tt, tt)
    way_seq _ _ _ few (expires from e c p there main is stands) = expired_seq most (listed s) e c false (copy_seq from e p c there is)
    way_seq _ _ _ few (settles_now {from = from} {which = which} {token = token} {how = how} e c there goes is none) = settled_seq most (listed s) t e from.part c how (copy_seq from e _ c there (leased_held s t ordered token which (leaf_of from.part e) c is).0)
    way_seq _ _ _ few (settles_later e c x there goes on own is none room) = (tt, tt)
    way_seq _ _ _ few (renews e c there free is other) = (tt, tt)
    way_seq _ _ _ few (opens from id e there has free named) = (tt, tt)
    way_seq _ _ _ few (prolongs e x there has held other) = (tt, tt)
    way_seq _ _ _ few (closes {from = from} {token = token} e x there has held) = (
      tt,
      each_flat (HasSeq most) (BringsSeq most) (λ c. released (listed s) t e from.part c false false) (filter (λ c. is_under_session token.lock c.standing) (leaf_of from.part e).copies) (λ c has. released_seq most (listed s) t e from.part c false false has)
          (each_filter (HasSeq most) (λ c. is_under_session token.lock c.standing) (leaf_of from.part e).copies (leaf_each (SeqsIn most) from.part e (each_found (EachLeaf (SeqsIn most)) (λ y. is_same_entity y.about.path from) e s.entities h there))),
    )
    way_seq _ _ _ few (writes e x there has held small other) = (tt, tt)
    way_seq _ _ _ few (begins e there room) = (tt, tt)
    way_seq _ _ _ few (commits x e there on none) = commit_seq most t e x s h few
    way_seq _ _ _ few (aborts x o there) = (tt, tt)
    way_seq _ _ _ few (rolls_back x there) = (tt, tt)
