use Rattle.sb_journal.proofs.reading.behind.Goals as goal

pub returns-clause-bytes : goal.returns-clause-bytes
returns-clause-bytes c = λ k. (c.type_inv.rest k).fits
