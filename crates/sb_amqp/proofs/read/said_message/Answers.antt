use Rattle.std.proofs.Common.{Err, subst}
use Rattle.sb_amqp.specs.Meaning.{Says, sections_say, no_message}
use Rattle.sb_amqp.specs.Sections.{before_all}
use Rattle.sb_amqp.proofs.Only.{each_good}
use Rattle.sb_amqp.proofs.read.said_message.Goals as goal

pub returns-in-Ok : goal.returns-in-Ok
returns-in-Ok c ss spells = subst (λ r. Says r (sections_say no_message ss)) c.in-Ok.is (c.say_message.ensures ss (each_good before_all ss spells.order) spells.text)

pub returns-in-Err-At : goal.returns-in-Err-At
returns-in-Err-At c ss spells =
    let says = subst (λ r. Says r (sections_say no_message ss)) c.in-Err-At.is (c.say_message.ensures ss (each_good before_all ss spells.order) spells.text) in
    (c.in-Err-At.left, subst (λ e. Says (Err e) (sections_say no_message ss)) c.in-Err-At.field-0-is says, c.saturating_sub.ensures)
