use Rattle.sb_sqleval.proofs.likes.is_like.Given as goal

abbrev pub ghosts-like_uncounted : goal.ghosts-like_uncounted
ghosts-like_uncounted a = record { name = a.blank.name; parts = a.blank.parts }
