-- Parts and sessions are forms that are exact.
use Rattle.std.proofs.Common.{refl}
use Rattle.sb_codec.proofs.Forms.{IsForm, number64_is, blob_is, text_is, ◌then_is◌, shaped_is, optional_is}
use Rattle.sb_codec.proofs.ExactPieces.{part_is}
use Rattle.sb_snapshot.specs.Copies.{is_next_copy}
use Rattle.sb_snapshot.specs.Sessions.{key, leaf, holder, session}
use Rattle.sb_snapshot.proofs.ExactCopies.{copy_is}
use Rattle.sb_snapshot.proofs.Lists.{listed64_is}

pub key_is : IsForm key
unfolding key
key_is = shaped_is _ _ (λ _. refl) (λ _. refl) (number64_is then_is part_is)

pub leaf_is : IsForm leaf
unfolding leaf
leaf_is = shaped_is _ _ (λ _. refl) (λ _. refl) (key_is then_is number64_is then_is listed64_is is_next_copy copy_is)

pub holder_is : IsForm holder
unfolding holder
holder_is = shaped_is _ _ (λ _. refl) (λ _. refl) (number64_is then_is number64_is)

pub session_is : IsForm session
unfolding session
session_is = shaped_is _ _ (λ _. refl) (λ _. refl) (key_is then_is text_is then_is optional_is blob_is then_is optional_is holder_is)
