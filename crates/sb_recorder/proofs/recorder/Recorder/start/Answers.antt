use Rattle.std.proofs.Common.{◌≡◌, [], Option, refl, subst, arith}
use Rattle.std.specs.Prelude.{IfSome}
use Rattle.sb_journal.specs.declared.rotating.NextFile.{NextFile}
use Rattle.sb_journal.specs.Text.{File}
use Rattle.sb_journal.specs.Journals.{HoldsFile, next_first, base_left, HoldsNext, IsBegun}
use Rattle.sb_recorder.proofs.Beside.{begun_empty, beside_failed, beside_gone, beside_none}
use Rattle.sb_recorder.proofs.recorder.Recorder.start.Goals as goal

pub returns-in-Ok-Some-clause-has : goal.returns-in-Ok-Some-clause-has
returns-in-Ok-Some-clause-has g c so =
    let j = c.args.self.now.journal in
    let call = c.start_base.ensures in
    let holds : (file : File) → HoldsFile j file → HoldsNext c.start_base.new.self c.in-Ok-Some.next file [] = λ file held. subst (λ (o : Option NextFile). IfSome o (λ n. HoldsNext c.start_base.new.self n file [])) c.in-Ok-Some.field-0-is (c.in-Ok-Some.ensures.ok file held) in
    let begun = subst (λ (o : Option NextFile). IfSome o (λ n. IsBegun c.start_base.new.self n × (next_first n ≡ c.args.first) × (base_left n ≡ c.args.total))) c.in-Ok-Some.field-0-is c.in-Ok-Some.ensures.begun in (
      record {
        beside =
            beside_gone j j c.start_base.new.self c.requires.running (beside_none j c.requires.running) call.later call.honesty call.still
            (λ file held. call.any_moment file held) c.in-Ok-Some.ensures.running c.in-Ok-Some.ensures.quiet (λ file held. (holds file held).holds);
        lost = λ never. absurd cc;
        writes = λ next is file held.
            let same : c.in-Ok-Some.next ≡ next = cc in
            ([], subst (λ (n : NextFile). HoldsNext c.start_base.new.self n file []) same (holds file held));
      },
      λ few. record {
        file = c.in-Ok-Some.next;
        next_is = refl;
        first = begun.1;
        left_is = omega arith;
        written = [];
        text_is = begun_empty c.clear.new.self.items c.clear.ensures.items;
        holds = holds;
      },
    )

pub returns-in-Err-clause-stays : goal.returns-in-Err-clause-stays
returns-in-Err-clause-stays g c =
    let j = c.args.self.now.journal in
    let call = c.start_base.ensures in
    record {
      beside =
          beside_failed j j c.start_base.new.self c.requires.running (beside_none j c.requires.running) call.later call.honesty call.still
          (λ file held. call.any_moment file held) c.in-Err.ensures.failed c.in-Err.ensures.cause;
      lost = λ is. c.in-Err.ensures.failed;
      writes = λ next is. absurd cc;
    }
