use Rattle.std.proofs.Common.{◌≤◌, ℕ, ◌+◌, length, sym, subst, arith}
use Rattle.std.specs.Prelude.{IsTrue, ◌∷◌}
use Rattle.sb_journal.specs.Text.{with_payloads}
use Rattle.sb_journal.specs.Crashes.{Rests}
use Rattle.sb_journal.proofs.Adding as adding
use Rattle.sb_journal.proofs.Behind as behind
use Rattle.sb_journal.proofs.Staging.{moved_as, may_move_as, free_there}
use Rattle.sb_journal.proofs.append.seal_frames.Goals as goal

pub returns-in_err-write_at-clause-any_moment : goal.returns-in_err-write_at-clause-any_moment
returns-in_err-write_at-clause-any_moment g c file payload payloads next bytes honest stages long all_is within =
    let begins : adding.Begins file payload payloads c.args.end next bytes c.args.frames.now (g.D.Disk.held c.args.disk.now) = record { stages = stages; all_is = all_is; within_after = within } in
    adding.failed_1 file payload payloads c.args.end next bytes c.args.frames.now _ _ begins _ _ _ (may_move_as _ _ _ _ c.args.end c.args.written (length bytes) _ long (c.in_err-write_at.ensures.err honest))

pub returns-in_err-sync-clause-any_moment : goal.returns-in_err-sync-clause-any_moment
returns-in_err-sync-clause-any_moment g c file payload payloads next bytes honest stages long all_is within =
    let begins : adding.Begins file payload payloads c.args.end next bytes c.args.frames.now (g.D.Disk.held c.args.disk.now) = record { stages = stages; all_is = all_is; within_after = within } in
    let first = moved_as _ _ _ _ c.args.end c.args.written (length bytes) _ c.args.frames.now long (c.in_ok-write_at.ensures.ok honest) in
    let honest_1 = subst IsTrue (sym c.write_at.ensures.honesty) honest in
    let same = c.in_err-sync.ensures.err honest_1 in
    adding.failed_2 file payload payloads c.args.end next bytes c.args.frames.now _ _ begins _ _ first _ _ same.0 same.1

pub returns-in_err-write_at-2-clause-any_moment : goal.returns-in_err-write_at-2-clause-any_moment
returns-in_err-write_at-2-clause-any_moment g c file payload payloads next bytes honest stages long all_is within =
    let begins : adding.Begins file payload payloads c.args.end next bytes c.args.frames.now (g.D.Disk.held c.args.disk.now) = record { stages = stages; all_is = all_is; within_after = within } in
    let first = moved_as _ _ _ _ c.args.end c.args.written (length bytes) _ c.args.frames.now long (c.in_ok-write_at.ensures.ok honest) in
    let honest_1 = subst IsTrue (sym c.write_at.ensures.honesty) honest in
    let second = c.in_ok-sync.ensures.ok honest_1 in
    let honest_2 = subst IsTrue (sym c.sync.ensures.honesty) honest_1 in
    adding.failed_3 file payload payloads c.args.end next bytes c.args.frames.now _ _ begins _ _ first _ _ second _ _ (c.in_err-write_at-2.ensures.err honest_2)

pub returns-in_err-sync-2-clause-any_moment : goal.returns-in_err-sync-2-clause-any_moment
returns-in_err-sync-2-clause-any_moment g c file payload payloads next bytes honest stages long all_is within =
    let begins : adding.Begins file payload payloads c.args.end next bytes c.args.frames.now (g.D.Disk.held c.args.disk.now) = record { stages = stages; all_is = all_is; within_after = within } in
    let first = moved_as _ _ _ _ c.args.end c.args.written (length bytes) _ c.args.frames.now long (c.in_ok-write_at.ensures.ok honest) in
    let honest_1 = subst IsTrue (sym c.write_at.ensures.honesty) honest in
    let second = c.in_ok-sync.ensures.ok honest_1 in
    let honest_2 = subst IsTrue (sym c.sync.ensures.honesty) honest_1 in
    let third = c.in_ok-write_at-2.ensures.ok honest_2 in
    let honest_3 = subst IsTrue (sym c.write_at-2.ensures.honesty) honest_2 in
    let same = c.in_err-sync-2.ensures.err honest_3 in
    adding.failed_4 file payload payloads c.args.end next bytes c.args.frames.now _ _ begins _ _ first _ _ second _ _ third _ _ same.0 same.1

pub returns-clause-any_moment : goal.returns-clause-any_moment
returns-clause-any_moment g c file payload payloads next bytes honest stages long all_is within =
    let begins : adding.Begins file payload payloads c.args.end next bytes c.args.frames.now (g.D.Disk.held c.args.disk.now) = record { stages = stages; all_is = all_is; within_after = within } in
    let first = moved_as _ _ _ _ c.args.end c.args.written (length bytes) _ c.args.frames.now long (c.in_ok-write_at.ensures.ok honest) in
    let honest_1 = subst IsTrue (sym c.write_at.ensures.honesty) honest in
    let second = c.in_ok-sync.ensures.ok honest_1 in
    let honest_2 = subst IsTrue (sym c.sync.ensures.honesty) honest_1 in
    let third = c.in_ok-write_at-2.ensures.ok honest_2 in
    let honest_3 = subst IsTrue (sym c.write_at-2.ensures.honesty) honest_2 in
    adding.done_4 file payload payloads c.args.end next bytes c.args.frames.now _ _ begins _ _ first _ _ second _ _ third _ _ (c.in_ok-sync-2.ensures.ok honest_3)

pub returns-clause-ok : goal.returns-clause-ok
returns-clause-ok g c file payload payloads next bytes honest stages long all_is within =
    let begins : adding.Begins file payload payloads c.args.end next bytes c.args.frames.now (g.D.Disk.held c.args.disk.now) = record { stages = stages; all_is = all_is; within_after = within } in
    let first = moved_as _ _ _ _ c.args.end c.args.written (length bytes) _ c.args.frames.now long (c.in_ok-write_at.ensures.ok honest) in
    let honest_1 = subst IsTrue (sym c.write_at.ensures.honesty) honest in
    let second = c.in_ok-sync.ensures.ok honest_1 in
    let honest_2 = subst IsTrue (sym c.sync.ensures.honesty) honest_1 in
    let third = c.in_ok-write_at-2.ensures.ok honest_2 in
    let honest_3 = subst IsTrue (sym c.write_at-2.ensures.honesty) honest_2 in
    let ends = adding.rests_4 file payload payloads c.args.end next bytes c.args.frames.now _ _ begins _ _ first _ _ second _ _ third _ _ (c.in_ok-sync-2.ensures.ok honest_3) in
    subst (λ (n : ℕ). Rests (g.D.Disk.held c.sync-2.new.self) (c.args.end + n + length c.args.frames.now) (next + length (payload ∷ payloads)) (with_payloads file (payload ∷ payloads))) long ends

-- ---- what stands behind the next gate

up_to : (end m n : ℕ) → end + 1 + m + n ≤ end + m + n + 1
up_to end m n = omega arith

from : (end m n : ℕ) → end + 1 + m ≤ end + m + n + 1
from end m n = omega arith

at_gate : (end m n : ℕ) → end + 1 ≤ end + m + n + 1
at_gate end m n = omega arith

pub returns-in_err-write_at-clause-behind : goal.returns-in_err-write_at-clause-behind
returns-in_err-write_at-clause-behind g c file next bytes honest stages long =
    let m = c.args.written in
    let n = length c.args.frames.now in
    let start = behind.free_begin (c.args.end + m + n + 1) (g.D.Disk.past c.args.disk.now) (g.D.Disk.held c.args.disk.now) (free_there _ c.args.end next m (c.args.end + m + n + 1) file bytes stages long (from c.args.end m n)) in
    behind.free_fails _ _ _ _ _ _ _ start (c.args.end + 1 + m) n (up_to c.args.end m n) (c.in_err-write_at.ensures.err honest)

pub returns-in_err-sync-clause-behind : goal.returns-in_err-sync-clause-behind
returns-in_err-sync-clause-behind g c file next bytes honest stages long =
    let m = c.args.written in
    let n = length c.args.frames.now in
    let start = behind.free_begin (c.args.end + m + n + 1) (g.D.Disk.past c.args.disk.now) (g.D.Disk.held c.args.disk.now) (free_there _ c.args.end next m (c.args.end + m + n + 1) file bytes stages long (from c.args.end m n)) in
    let first = behind.free_writes _ _ _ _ _ _ _ start (c.args.end + 1 + m) n _ (up_to c.args.end m n) (c.in_ok-write_at.ensures.ok honest) in
    let honest_1 = subst IsTrue (sym c.write_at.ensures.honesty) honest in
    let same = c.in_err-sync.ensures.err honest_1 in
    behind.free_not_synced _ _ _ _ _ _ _ first same.0 same.1

pub returns-in_err-write_at-2-clause-behind : goal.returns-in_err-write_at-2-clause-behind
returns-in_err-write_at-2-clause-behind g c file next bytes honest stages long =
    let m = c.args.written in
    let n = length c.args.frames.now in
    let start = behind.free_begin (c.args.end + m + n + 1) (g.D.Disk.past c.args.disk.now) (g.D.Disk.held c.args.disk.now) (free_there _ c.args.end next m (c.args.end + m + n + 1) file bytes stages long (from c.args.end m n)) in
    let first = behind.free_writes _ _ _ _ _ _ _ start (c.args.end + 1 + m) n _ (up_to c.args.end m n) (c.in_ok-write_at.ensures.ok honest) in
    let honest_1 = subst IsTrue (sym c.write_at.ensures.honesty) honest in
    let second = behind.free_syncs _ _ _ _ _ _ _ first (g.met.D.Disk.seen_is_image _ honest_1) (c.in_ok-sync.ensures.ok honest_1) in
    let honest_2 = subst IsTrue (sym c.sync.ensures.honesty) honest_1 in
    behind.free_fails _ _ _ _ _ _ _ second c.args.end 1 (at_gate c.args.end m n) (c.in_err-write_at-2.ensures.err honest_2)

pub returns-in_err-sync-2-clause-behind : goal.returns-in_err-sync-2-clause-behind
returns-in_err-sync-2-clause-behind g c file next bytes honest stages long =
    let m = c.args.written in
    let n = length c.args.frames.now in
    let start = behind.free_begin (c.args.end + m + n + 1) (g.D.Disk.past c.args.disk.now) (g.D.Disk.held c.args.disk.now) (free_there _ c.args.end next m (c.args.end + m + n + 1) file bytes stages long (from c.args.end m n)) in
    let first = behind.free_writes _ _ _ _ _ _ _ start (c.args.end + 1 + m) n _ (up_to c.args.end m n) (c.in_ok-write_at.ensures.ok honest) in
    let honest_1 = subst IsTrue (sym c.write_at.ensures.honesty) honest in
    let second = behind.free_syncs _ _ _ _ _ _ _ first (g.met.D.Disk.seen_is_image _ honest_1) (c.in_ok-sync.ensures.ok honest_1) in
    let honest_2 = subst IsTrue (sym c.sync.ensures.honesty) honest_1 in
    let third = behind.free_writes _ _ _ _ _ _ _ second c.args.end 1 _ (at_gate c.args.end m n) (c.in_ok-write_at-2.ensures.ok honest_2) in
    let honest_3 = subst IsTrue (sym c.write_at-2.ensures.honesty) honest_2 in
    let same = c.in_err-sync-2.ensures.err honest_3 in
    behind.free_not_synced _ _ _ _ _ _ _ third same.0 same.1

pub returns-clause-behind : goal.returns-clause-behind
returns-clause-behind g c file next bytes honest stages long =
    let m = c.args.written in
    let n = length c.args.frames.now in
    let start = behind.free_begin (c.args.end + m + n + 1) (g.D.Disk.past c.args.disk.now) (g.D.Disk.held c.args.disk.now) (free_there _ c.args.end next m (c.args.end + m + n + 1) file bytes stages long (from c.args.end m n)) in
    let first = behind.free_writes _ _ _ _ _ _ _ start (c.args.end + 1 + m) n _ (up_to c.args.end m n) (c.in_ok-write_at.ensures.ok honest) in
    let honest_1 = subst IsTrue (sym c.write_at.ensures.honesty) honest in
    let second = behind.free_syncs _ _ _ _ _ _ _ first (g.met.D.Disk.seen_is_image _ honest_1) (c.in_ok-sync.ensures.ok honest_1) in
    let honest_2 = subst IsTrue (sym c.sync.ensures.honesty) honest_1 in
    let third = behind.free_writes _ _ _ _ _ _ _ second c.args.end 1 _ (at_gate c.args.end m n) (c.in_ok-write_at-2.ensures.ok honest_2) in
    let honest_3 = subst IsTrue (sym c.write_at-2.ensures.honesty) honest_2 in
    (behind.free_syncs _ _ _ _ _ _ _ third (g.met.D.Disk.seen_is_image _ honest_3) (c.in_ok-sync-2.ensures.ok honest_3)).moments
