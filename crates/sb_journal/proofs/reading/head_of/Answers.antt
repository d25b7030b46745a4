use Rattle.sb_journal.proofs.reading.head_of.Goals as goal

pub returns-clause-bytes : goal.returns-clause-bytes
returns-clause-bytes c = λ k. (c.type_inv.bytes k).fits
