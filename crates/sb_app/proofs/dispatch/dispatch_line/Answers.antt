use Rattle.std.proofs.Common.{[], Err, sym, subst}
use Rattle.std.specs.Prelude.{OnOk}
use Rattle.sb_node.specs.Nodes.{node_state, node_journal, node_last, node_disks, IsKept, IsOneOf, StayOneOf}
use Rattle.sb_machine.specs.declared.reply.Refusal.{Refusal}
use Rattle.sb_lines.specs.Replies.{answer_line}
use Rattle.sb_lines.specs.declared.form.Form.TheVariants.{Plain}
use Rattle.sb_app.specs.Endings.{IsReplyCut}
use Rattle.sb_app.specs.Outside.{output_of}
use Rattle.sb_node.proofs.Crashes.{untouched_moments}
use Rattle.sb_app.specs.declared.script_line.ScriptLine.{ScriptLine}
use Rattle.sb_app.specs.Runs.{states_left, states_of}
use Rattle.sb_app.proofs.Cuts.{malformed_cut}
use Rattle.sb_input.proofs.Errors.{passed_on}
use Rattle.sb_app.proofs.dispatch.dispatch_line.Goals as goal

pub returns-in_err-write_answer-in-Malformed-clause-cut : goal.returns-in_err-write_answer-in-Malformed-clause-cut
returns-in_err-write_answer-in-Malformed-clause-cut g c =
    let was = output_of g.K.Sink c.args.output.now in
    let now = output_of g.K.Sink c.write_answer.new.output in
    passed_on _ c.in_err-write_answer-in-Malformed.field-0.0 c.from_residual.result c.from_residual.ensures
    (malformed_cut _ c.args.line c.in-Malformed.part c.in-Malformed.key was now _ c.in-Malformed.is
    (subst (λ (r : Refusal). IsReplyCut (answer_line Plain (Err r)) was now c.in_err-write_answer-in-Malformed.field-0.0) c.at_part_or_whole.ensures c.in_err-write_answer-in-Malformed.ensures.err))

pub returns-in-Request-clause-undecided : goal.returns-in-Request-clause-undecided
returns-in-Request-clause-undecided g c safe failed =
    let s = node_state c.args.node.now in
    subst (λ (x : ScriptLine). IsOneOf (node_disks c.dispatch_call-answered.new.node) (states_left s x)) (sym c.in-Request.is) (c.dispatch_call-answered.ensures.undecided safe failed)

pub returns-in-Request-clause-any_moment : goal.returns-in-Request-clause-any_moment
returns-in-Request-clause-any_moment g c =
    let n = c.args.node.now in
    subst (λ (x : ScriptLine). IsKept n → OnOk c.dispatch_call-answered.result (StayOneOf (node_disks n) (node_disks c.dispatch_call-answered.new.node) (states_of (node_state n) x))) (sym c.in-Request.is) c.dispatch_call-answered.ensures.any_moment

pub returns-in-Request-clause-last_moments : goal.returns-in-Request-clause-last_moments
returns-in-Request-clause-last_moments g c safe =
    let s = node_state c.args.node.now in
    subst (λ (x : ScriptLine). StayOneOf (node_disks c.args.node.now) (node_disks c.dispatch_call-answered.new.node) (states_left s x)) (sym c.in-Request.is) (c.dispatch_call-answered.ensures.last_moments safe)

pub returns-in-Blank-clause-any_moment : goal.returns-in-Blank-clause-any_moment
returns-in-Blank-clause-any_moment g c safe =
    let n = c.args.node.now in
    subst (λ (x : ScriptLine). StayOneOf (node_disks n) (node_disks n) (states_of (node_state n) x)) (sym c.in-Blank.is) (untouched_moments (node_journal n) (node_last n) (node_state n) [] safe)

pub returns-in-Blank-clause-last_moments : goal.returns-in-Blank-clause-last_moments
returns-in-Blank-clause-last_moments g c safe =
    let n = c.args.node.now in
    subst (λ (x : ScriptLine). StayOneOf (node_disks n) (node_disks n) (states_left (node_state n) x)) (sym c.in-Blank.is) (untouched_moments (node_journal n) (node_last n) (node_state n) [] safe)

pub returns-in_ok-write_answer-in-Malformed-clause-any_moment : goal.returns-in_ok-write_answer-in-Malformed-clause-any_moment
returns-in_ok-write_answer-in-Malformed-clause-any_moment g c safe =
    let n = c.args.node.now in
    subst (λ (x : ScriptLine). StayOneOf (node_disks n) (node_disks n) (states_of (node_state n) x)) (sym c.in-Malformed.is) (untouched_moments (node_journal n) (node_last n) (node_state n) [] safe)

pub returns-in_ok-write_answer-in-Malformed-clause-last_moments : goal.returns-in_ok-write_answer-in-Malformed-clause-last_moments
returns-in_ok-write_answer-in-Malformed-clause-last_moments g c safe =
    let n = c.args.node.now in
    subst (λ (x : ScriptLine). StayOneOf (node_disks n) (node_disks n) (states_left (node_state n) x)) (sym c.in-Malformed.is) (untouched_moments (node_journal n) (node_last n) (node_state n) [] safe)

pub returns-in_err-write_answer-in-Malformed-clause-last_moments : goal.returns-in_err-write_answer-in-Malformed-clause-last_moments
returns-in_err-write_answer-in-Malformed-clause-last_moments g c safe =
    let n = c.args.node.now in
    subst (λ (x : ScriptLine). StayOneOf (node_disks n) (node_disks n) (states_left (node_state n) x)) (sym c.in-Malformed.is) (untouched_moments (node_journal n) (node_last n) (node_state n) [] safe)
