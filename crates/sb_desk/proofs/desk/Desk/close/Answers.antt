use Rattle.std.proofs.Common.{rules, ◌≡◌, ℕ, List, [], ◌∷◌, ◌++◌, map, sym, ap, ◌∙◌, subst}
use Rattle.sb_machine.specs.declared.history.Entry.{Entry}
use Rattle.sb_desk.specs.Desks.{IsKeptIn, claim_of}
use Rattle.sb_desk.specs.Entries.{IsReport}
use Rattle.sb_desk.specs.Lists.{GoesOn, Each, HaveSeatsBelow}
use Rattle.sb_desk.proofs.Ends.{kept_all}
use Rattle.sb_desk.proofs.desk.Desk.close.Goals as goal

pub returns-clause-ok : goal.returns-clause-ok
returns-clause-ok g c =
    let f = c.finish-value.ensures in
    let log : List Entry = f.0 in
    let first = c.unwrap.result in
    let items : c.args.passes.items ≡ c.pop.new.self.items ++ c.unwrap.result ∷ [] = search rules in
    let seat : c.gather_all.new.place.me.0.seat ≡ c.unwrap.result.seat = search rules in
    let seen : c.gather_all.new.place.me.0.seen ≡ c.unwrap.result.seen = search rules in
    let claims : c.gather_all.new.place.me.0.claims ≡ map claim_of c.pop.new.self.items ++ [] = search rules in
    let begins : GoesOn log first.seat first.seen = subst (λ (z : ℕ × List Entry). GoesOn log z.0 z.1) (λ i. (seat i, seen i)) f.3 in
    let others : Each (λ k. GoesOn log k.seat k.seen) (map claim_of c.pop.new.self.items ++ []) = subst (Each (λ k. GoesOn log k.seat k.seen)) claims f.4 in (
      log,
      subst (λ s. g.V.Served.stands c.finish-value.result s log) (ap (λ d. d.start) c.self.view_is) f.1,
      f.2 ∙ ap (λ d. d.origin) c.self.view_is,
      subst (λ s. IsReport s log c.tally-report.result) (ap (λ d. d.start) c.self.view_is) (c.tally-report.ensures _ log f.1),
      subst (Each (IsKeptIn log)) (sym items) (kept_all log c.pop.new.self.items first begins others),
      subst (λ n. HaveSeatsBelow n log) (ap (λ d. d.passes) c.self.view_is) f.5,
    )
