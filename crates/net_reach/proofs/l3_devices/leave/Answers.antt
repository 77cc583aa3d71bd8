use Rattle.std.proofs.Common.{ℕ, List, Option, ap, sym, ◌∙◌, cond}
use Rattle.net_rules.specs.Rows.{is_name}
use Rattle.net_view.specs.RadioPorts.{group_in}
use Rattle.net_reach.specs.Groups.{without_place}
use Rattle.net_reach.proofs.l3_devices.leave.Goals as goal

pub returns-in-Some-clause-places : goal.returns-in-Some-clause-places
returns-in-Some-clause-places c = λ q. c.take_place.ensures.places q ∙ ap (λ (o : Option (List ℕ)). cond (is_name o q) (without_place (group_in c.args.groups.now q) c.args.place) (group_in c.args.groups.now q)) (sym c.in-Some.is)
