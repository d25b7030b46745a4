use Rattle.std.proofs.Common.{◌≤◌, ℕ, ◌+◌, ◌++◌, length, sym, subst, arith}
use Rattle.sb_journal.specs.Crashes.{Stages}
use Rattle.sb_journal.proofs.Behind as behind
use Rattle.sb_journal.proofs.Staging.{moved_as, may_move_as, free_there, staged_fails, staged_goes, stage_more}
use Rattle.sb_journal.proofs.append.stage_frames.Goals as goal

pub returns-in_err-write_at-clause-any_moment : goal.returns-in_err-write_at-clause-any_moment
returns-in_err-write_at-clause-any_moment g c file next bytes honest stages long =
    staged_fails file c.args.end next bytes _ _ stages _ _ _ (may_move_as _ _ _ _ c.args.end c.args.written (length bytes) _ long (c.in_err-write_at.ensures.err honest))

pub returns-clause-any_moment : goal.returns-clause-any_moment
returns-clause-any_moment g c file next bytes honest stages long =
    staged_goes file c.args.end next bytes _ _ stages _ _ _ _ (moved_as _ _ _ _ c.args.end c.args.written (length bytes) _ c.args.more.now long (c.in_ok-write_at.ensures.ok honest))

pub returns-clause-ok : goal.returns-clause-ok
returns-clause-ok g c file next bytes honest stages long =
    let moved = moved_as _ _ _ _ c.args.end c.args.written (length bytes) _ c.args.more.now long (c.in_ok-write_at.ensures.ok honest) in
    subst (λ h. Stages h c.args.end next file (bytes ++ c.args.more.now)) (sym moved.now_is) (stage_more _ c.args.end next file bytes c.args.more.now stages c.requires.some)

low : (end m n place : ℕ) → end + 1 + (m + n) ≤ place → end + 1 + m ≤ place
low end m n place high = omega (arith, high)

up_to : (end m n place : ℕ) → end + 1 + (m + n) ≤ place → end + 1 + m + n ≤ place
up_to end m n place high = omega (arith, high)

pub returns-in_err-write_at-clause-behind : goal.returns-in_err-write_at-clause-behind
returns-in_err-write_at-clause-behind g c file next place bytes honest stages long high =
    let m = c.args.written in
    let n = length c.args.more.now in
    let start = behind.free_begin place (g.D.Disk.past c.args.disk.now) (g.D.Disk.held c.args.disk.now) (free_there _ c.args.end next m place file bytes stages long (low c.args.end m n place high)) in
    behind.free_fails _ _ _ _ _ _ _ start (c.args.end + 1 + m) n (up_to c.args.end m n place high) (c.in_err-write_at.ensures.err honest)

pub returns-clause-behind : goal.returns-clause-behind
returns-clause-behind g c file next place bytes honest stages long high =
    let m = c.args.written in
    let n = length c.args.more.now in
    let start = behind.free_begin place (g.D.Disk.past c.args.disk.now) (g.D.Disk.held c.args.disk.now) (free_there _ c.args.end next m place file bytes stages long (low c.args.end m n place high)) in
    (behind.free_writes _ _ _ _ _ _ _ start (c.args.end + 1 + m) n _ (up_to c.args.end m n place high) (c.in_ok-write_at.ensures.ok honest)).moments
