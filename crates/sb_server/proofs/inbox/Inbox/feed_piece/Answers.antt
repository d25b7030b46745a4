use Rattle.std.proofs.Common.{take, subst, sym, List, ℕ, ◌-◌, ◌≡◌, ◌≤◌, ◌<◌, length, slice_range, arith}
use Rattle.httparse.proofs.RunLemmas.{length-slice_range}
use Rattle.sb_http.specs.Streams.{FeedGoesOn}
use Rattle.sb_server.specs.Reads.{and_before, stand_of}
use Rattle.sb_server.proofs.Emptied.{stand_kept, takes_kept}
use Rattle.sb_server.proofs.Reading.{feeds}
use Rattle.sb_server.proofs.inbox.Inbox.feed_piece.Goals as goal

pub returns-in_err-count-clause-takes : goal.returns-in_err-count-clause-takes
returns-in_err-count-clause-takes c = λ left.
    let i = c.args.self.now in
    takes_kept (stand_of i left) _ (stand_kept c.feed.new.self i.incoming (i.taken - (i.end - i.at)) (slice_range i.piece.items i.at i.end) (and_before (slice_range i.piece.items i.at i.end) left) c.in_err-count.ensures.err)

pub returns-clause-takes : goal.returns-clause-takes
returns-clause-takes c = λ left.
    let i = c.args.self.now in
    let n = c.in_ok-count.count in
    let goes = subst (λ (l : List ℕ). FeedGoesOn i.incoming.left (take n l) c.feed.new.self.left) c.part_of-piece.ensures c.in_ok-count.ensures.goes in
    let few = subst (λ (l : List ℕ). n ≤ length l) c.part_of-piece.ensures c.in_ok-count.ensures.within in
    feeds i.incoming.left c.feed.new.self.left i.piece.items i.at i.end n i.taken left few i.ordered i.within i.counted goes

-- what stands between two places isn't empty
pub returns-clause-full : goal.returns-clause-full
returns-clause-full c = λ before same.
    let i = c.args.self.now in
    let n = c.in_ok-count.count in
    let long : length (slice_range i.piece.items i.at i.end) ≡ i.end - i.at = length-slice_range i.piece.items i.at i.end i.ordered i.within in
    let some : 0 < length (slice_range i.piece.items i.at i.end) = omega (arith, long, before) in
    let none : n ≡ 0 = omega (arith, same) in
    c.in_ok-count.ensures.full none (subst (λ (l : List ℕ). 0 < length l) (sym c.part_of-piece.ensures) some)
