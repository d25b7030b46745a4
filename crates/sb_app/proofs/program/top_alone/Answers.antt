use Rattle.std.proofs.Common.{List, ℕ, map}
use Rattle.sb_words.specs.Words.{max_jump_in}
use Rattle.sb_app.specs.Calls.{task_in}
use Rattle.sb_app.proofs.Calls.{client_task, other_task, plain_task}
use Rattle.sb_app.proofs.program.top_alone.Goals as goal

pub returns-clause-link : goal.returns-clause-link
returns-clause-link g c other =
    let words : List (List ℕ) = map (λ w. w.now) c.args.words.now in
    c.carry_out.ensures.link (task_in words) (max_jump_in words) c.named_task-named.ensures (other_task words other)

pub returns-clause-client_alone : goal.returns-clause-client_alone
returns-clause-client_alone g c is =
    let words : List (List ℕ) = map (λ w. w.now) c.args.words.now in
    c.carry_out.ensures.client_alone (task_in words) (max_jump_in words) c.named_task-named.ensures (client_task words is)

pub returns-clause-aside : goal.returns-clause-aside
returns-clause-aside g c plain honest =
    let words : List (List ℕ) = map (λ w. w.now) c.args.words.now in
    c.carry_out.ensures.aside (task_in words) (max_jump_in words) c.named_task-named.ensures (plain_task words plain) honest
