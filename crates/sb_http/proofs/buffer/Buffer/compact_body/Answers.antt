use Rattle.std.proofs.Common.{◌≡◌, ℕ, ◌-◌, List, drop, take, ◌++◌, length, ap, refl, sym, ◌∙◌}
use Rattle.std.specs.Prelude.{slice_range}
use Rattle.sb_http.proofs.Compact.{count_kept, held_parts, text_kept, done_kept, rest_kept, same_parts}
use Rattle.sb_http.proofs.buffer.Buffer.compact_body.Goals as goal

pub returns-clause-left : goal.returns-clause-left
returns-clause-left c =
    let i = c.args.self.now in
    let old = i.bytes.items in
    let items : c.cut-2.new.bytes.items ≡ drop i.start (take i.done old ++ drop i.raw old) = c.cut-2.ensures.items ∙ ap (drop i.start) c.cut.ensures.items in
    same_parts _ i i.next c.requires
    (ap (λ (xs : List ℕ). slice_range xs 0 (i.body - i.start)) items ∙ text_kept old i.start i.body i.done i.raw i.begun i.decoded i.behind i.within)
    (ap (λ (xs : List ℕ). slice_range xs (i.body - i.start) (i.done - i.start)) items ∙ done_kept old i.start i.body i.done i.raw i.begun i.decoded i.behind i.within)
    (ap (drop (i.done - i.start)) items ∙ rest_kept old i.start i.body i.done i.raw i.begun i.decoded i.behind i.within)
    refl

pub returns-clause-held : goal.returns-clause-held
returns-clause-held c =
    let i = c.args.self.now in
    let old = i.bytes.items in
    let items : c.cut-2.new.bytes.items ≡ drop i.start (take i.done old ++ drop i.raw old) = c.cut-2.ensures.items ∙ ap (drop i.start) c.cut.ensures.items in
    ap length items ∙ count_kept old i.start i.body i.done i.raw i.begun i.decoded i.behind i.within ∙ sym (held_parts i i.next refl c.requires)
