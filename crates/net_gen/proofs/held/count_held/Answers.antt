use Rattle.std.proofs.Common.{◌≡◌, ap, ◌∙◌}
use Rattle.std.specs.FinSet as set
use Rattle.net_conf.specs.Conf.{conf}
use Rattle.kern_model.specs.ObjectOrder.{set_of}
use Rattle.net_rules.specs.declared.event.Event.TheVariants as event
use Rattle.net_rules.specs.After.{after}
use Rattle.net_rules.specs.Moment.{Moment, want_of}
use Rattle.net_gen.proofs.HeldLemmas.{all_due, loaded_wants_nothing}
use Rattle.net_gen.proofs.held.count_held.Goals as goal

pub returns : goal.returns
returns c =
    let moment = c.in-Ok.ensures.ok.moment in
    let held : set_of c.load.new.self.held ≡ set_of c.args.net.held =
    ap (λ (m : Moment). m.held) moment in
    let wants : want_of c.load.new.self.inputs ≡ set.empty =
    ap (λ (m : Moment). want_of m.inputs) moment
    ∙ ap (λ p. want_of (after c.args.net.inputs (event.Load (conf p p)))) c.no_package-nothing.ensures
    ∙ loaded_wants_nothing c.args.net.inputs in
    c.due.ensures
    ∙ all_due (set_of c.load.new.self.held) (want_of c.load.new.self.inputs) wants
    ∙ ap set.len held
