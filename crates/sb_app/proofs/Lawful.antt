-- Each legal history from a consistent state has all laws.
use Rattle.std.proofs.Common.{List}
use Rattle.sb_laws.proofs.DoneSettles.{done_settles}
use Rattle.sb_laws.proofs.Ended.{ends_once}
use Rattle.sb_laws.proofs.Handed.{in_order}
use Rattle.sb_laws.proofs.Numbers.{once_numbers}
use Rattle.sb_laws.proofs.OnceIds.{once_ids}
use Rattle.sb_laws.proofs.OneHolder.{one_holder}
use Rattle.sb_laws.proofs.SentNotes.{sent_notes}
use Rattle.sb_laws.proofs.SpentLived.{spent_lived}
use Rattle.sb_laws.proofs.SpentOnce.{spent_once}
use Rattle.sb_laws.proofs.ThinSame.{thin_same}
use Rattle.sb_machine.specs.Consistent.{IsConsistent}
use Rattle.sb_machine.specs.History.{IsLegal}
use Rattle.sb_machine.specs.declared.history.Entry.{Entry}
use Rattle.sb_machine.specs.declared.state.State.{State}
use Rattle.sb_app.specs.Lawful.{HasLaws}

pub lawful : (s : State) (h : List Entry) → IsConsistent s → IsLegal s h → HasLaws s h
lawful s h consistent legal = record {
  numbers = once_numbers s h consistent legal;
  ids = once_ids s h consistent legal;
  notes = sent_notes s h consistent legal;
  thin = thin_same s h legal;
  ends = ends_once s h consistent;
  spent = λ lock. spent_once s h lock consistent;
  lived = spent_lived s h consistent legal;
  settles = done_settles s h consistent legal;
  holders = one_holder s h consistent legal;
  in_order = in_order s h consistent legal;
}
