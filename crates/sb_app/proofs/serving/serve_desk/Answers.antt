use denote.Exit as exit
use denote.Param.Send.{arg_send, param_send}
use Rattle.std.proofs.Common.{ap, refl, sym, ◌∙◌}
use Rattle.sb_desk.specs.Desks.{below}
use Rattle.sb_app.specs.Servings.{passes_for}
use Rattle.sb_node.proofs.Crossing.{node_send}
use Rattle.sb_app.proofs.Servings.{each_of, some_for}
use Rattle.sb_app.proofs.serving.serve_desk.Goals as goal

pub new-requires-clause-some : goal.new-requires-clause-some
new-requires-clause-some g c = some_for c.len.result c.at_least_one.result c.at_least_one.ensures

pub new-requires-clause-stands : goal.new-requires-clause-stands
new-requires-clause-stands g c = c.requires.stands

pub serve-ending-requires-send-V : goal.serve-ending-requires-send-V
serve-ending-requires-send-V g c κs within = param_send 0 _ (arg_send _ exit.no _ (node_send _ g.D.Disk c.type_bounds.send-D))

pub serve-ending-requires-clause-desk : goal.serve-ending-requires-clause-desk
serve-ending-requires-clause-desk g c κs within = each_of c.in-Ok.opened.0 _ c.in-Ok.ensures.passes.1

pub returns-clause-ok : goal.returns-clause-ok
returns-clause-ok g c =
    let desk = c.in-Ok.opened.0 in
    let new = c.in-Ok.ensures in
    let passes = c.in-Ok.opened.1.items in
    let ok = c.in-Ok-close.ensures.ok in
    record {
      desk = desk;
      start = new.desk.0;
      origin = new.desk.1;
      passes = passes;
      passes_now = c.serve-ending.new.passes.items;
      history = ok.0;
      worked = record {
        many = new.desk.2 ∙ c.at_least_one.ensures ∙ ap passes_for (c.len.ensures ∙ c.args.doors.now.ok.0);
        fresh = new.passes.1;
        seats = new.seats ∙ ap below (sym new.desk.2);
        seen = ok.4;
        seated = ok.5;
        serves = c.serve-ending.ensures.serves;
      };
      stands = ok.1;
      same = ok.2 ∙ new.desk.1;
      counts = ok.3;
    }

pub returns-in-Err-clause-err : goal.returns-in-Err-clause-err
returns-in-Err-clause-err g c = (c.node_back.ensures ∙ c.in-Err.ensures.value, refl)
