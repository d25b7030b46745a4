use Rattle.sb_model.specs.Likes.{is_like}
use Rattle.sb_sqleval.proofs.likes.is_like.Goals as goal

pub returns : goal.returns
unfolding is_like
returns c = rw (← c.escape_of-escape.ensures) c.like_uncounted.ensures
