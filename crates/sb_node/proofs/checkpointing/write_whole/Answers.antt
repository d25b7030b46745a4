use Rattle.std.proofs.Common.{inr, length, [], sym, ◌∙◌, ap, subst}
use Rattle.sb_machine.specs.declared.state.State.{State}
use Rattle.sb_snapshot.specs.Base.{base_of, HasSpelling}
use Rattle.sb_checkpoint.specs.Stores.{held_state}
use Rattle.sb_recorder.specs.Recorders.{begun_of, recorder_journal, CountsStill, GoesOn, HasAccount, HasBase}
use Rattle.sb_node.proofs.Turning.{left_fails, left_turns, refused_by, whole_written}
use Rattle.sb_node.proofs.checkpointing.write_whole.Goals as goal

pub seal-requires : goal.seal-requires
seal-requires g c =
    let text = base_of (held_state c.args.held.now) in
    let mid = c.write_base.new.out in
    let all = whole_written mid (begun_of mid) text (c.in-Ok.ensures.has [] c.requires.empty) (c.requires.total ∙ ap (λ b. b.total) (sym c.write_base.ensures.since)) in
    record { begun = all.0; whole = all.1 }

pub give_up-requires : goal.give_up-requires
give_up-requires g c = record {
  begun = c.write_base.ensures.stays c.requires.begun;
  unwanted = refused_by c.write_base.result c.in-Err.unput _ c.in-Err.is c.write_base.ensures.refused;
}

pub returns-in-Err-clause-turns : goal.returns-in-Err-clause-turns
returns-in-Err-clause-turns g c s begun file is_s is_begun held =
    let mid = c.write_base.new.out in
    let on = subst (λ b. GoesOn mid b) (c.write_base.ensures.since ∙ is_begun) (c.write_base.ensures.stays c.requires.begun) in
    let same = c.give_up.ensures.journal in
    left_turns s begun.first file begun.journal (recorder_journal c.give_up.new.recorder) c.give_up.result (subst (λ j. CountsStill file begun.journal j) (sym same) (on.beside.counts file held))

pub returns-in-Err-clause-account : goal.returns-in-Err-clause-account
returns-in-Err-clause-account g c begun is_begun =
    let mid = c.write_base.new.out in
    let on = subst (λ b. GoesOn mid b) (c.write_base.ensures.since ∙ is_begun) (c.write_base.ensures.stays c.requires.begun) in
    subst (λ j. HasAccount begun.journal j) (sym c.give_up.ensures.journal) on.beside.account

pub returns-in-Err-clause-failed : goal.returns-in-Err-clause-failed
returns-in-Err-clause-failed g c = left_fails (recorder_journal c.give_up.new.recorder) c.give_up.result c.give_up.ensures.refused c.give_up.ensures.memory

pub returns-in-Ok-seal-clause-turns : goal.returns-in-Ok-seal-clause-turns
returns-in-Ok-seal-clause-turns g c s begun file is_s is_begun held =
    let mid = c.write_base.new.out in
    let text = base_of s in
    let since = c.write_base.ensures.since ∙ is_begun in
    let on = subst (λ b. GoesOn mid b) since (c.write_base.ensures.stays c.requires.begun) in
    let has = subst (λ (x : State). HasBase mid begun (base_of x)) is_s (subst (λ b. HasBase mid b (base_of (held_state c.args.held.now))) since (c.in-Ok.ensures.has [] c.requires.empty)) in
    let whole = ap (λ (x : State). length (base_of x)) (sym is_s) ∙ c.requires.total ∙ ap (λ b. b.total) is_begun in
    (c.in-Ok-seal.ensures.turned begun text file on has whole held, (subst HasSpelling is_s (c.in-Ok.ensures.spelled c.requires.short), c.seal.ensures.any_moment begun text file on has whole held))

pub returns-in-Err-seal-clause-turns : goal.returns-in-Err-seal-clause-turns
returns-in-Err-seal-clause-turns g c s begun file is_s is_begun held =
    let mid = c.write_base.new.out in
    let text = base_of s in
    let since = c.write_base.ensures.since ∙ is_begun in
    let on = subst (λ b. GoesOn mid b) since (c.write_base.ensures.stays c.requires.begun) in
    let has = subst (λ (x : State). HasBase mid begun (base_of x)) is_s (subst (λ b. HasBase mid b (base_of (held_state c.args.held.now))) since (c.in-Ok.ensures.has [] c.requires.empty)) in
    let whole = ap (λ (x : State). length (base_of x)) (sym is_s) ∙ c.requires.total ∙ ap (λ b. b.total) is_begun in
    inr (subst HasSpelling is_s (c.in-Ok.ensures.spelled c.requires.short), c.seal.ensures.any_moment begun text file on has whole held)

pub returns-in-Ok-seal-clause-account : goal.returns-in-Ok-seal-clause-account
returns-in-Ok-seal-clause-account g c begun is_begun =
    let mid = c.write_base.new.out in
    c.seal.ensures.account begun (subst (λ b. GoesOn mid b) (c.write_base.ensures.since ∙ is_begun) (c.write_base.ensures.stays c.requires.begun))

pub returns-in-Err-seal-clause-account : goal.returns-in-Err-seal-clause-account
returns-in-Err-seal-clause-account g c begun is_begun =
    let mid = c.write_base.new.out in
    c.seal.ensures.account begun (subst (λ b. GoesOn mid b) (c.write_base.ensures.since ∙ is_begun) (c.write_base.ensures.stays c.requires.begun))
