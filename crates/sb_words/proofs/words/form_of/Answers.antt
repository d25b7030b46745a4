use Rattle.std.proofs.Common.{◌∙◌, Some, ap, sym}
use Rattle.clap.specs.Words.{found_of}
use Rattle.sb_words.proofs.Forms.{form_named, named_or_not}
use Rattle.sb_words.specs.declared.command.Command.TheVariants.{Run, Check, Client, Serve, Drill}
use Rattle.sb_words.proofs.words.form_of.Goals as goal

pub returns-in-Run : goal.returns-in-Run
returns-in-Run c = form_named c.args.name.now Run (found_of c.args.options.now) _ (ap Some (sym c.in-Run.is) ∙ c.in-Some.ensures) c.run_form.ensures

pub returns-in-Check : goal.returns-in-Check
returns-in-Check c = form_named c.args.name.now Check (found_of c.args.options.now) _ (ap Some (sym c.in-Check.is) ∙ c.in-Some.ensures) c.check_form.ensures

pub returns-in-Client : goal.returns-in-Client
returns-in-Client c = form_named c.args.name.now Client (found_of c.args.options.now) _ (ap Some (sym c.in-Client.is) ∙ c.in-Some.ensures) c.client_form.ensures

pub returns-in-Serve : goal.returns-in-Serve
returns-in-Serve c = named_or_not c.args.name.now Serve (found_of c.args.options.now) c.serve_form.result (ap Some (sym c.in-Serve.is) ∙ c.in-Some.ensures) c.serve_form.ensures

pub returns-in-Drill : goal.returns-in-Drill
returns-in-Drill c = form_named c.args.name.now Drill (found_of c.args.options.now) _ (ap Some (sym c.in-Drill.is) ∙ c.in-Some.ensures) c.drill_form.ensures
