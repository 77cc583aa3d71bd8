use Rattle.std.proofs.Common.{ap, ◌∙◌}
use Rattle.net_rules.specs.Need.{same_interface_request}
use Rattle.net_rules.specs.After.{is_same_need}
use Rattle.net_after.proofs.drops.is_need_of_interface.Goals as goal

pub returns-in-Some : goal.returns-in-Some
returns-in-Some c = c.same_interface_request.ensures ∙ ap (λ n. is_same_need same_interface_request n c.args.request.now) c.in-Some.ensures

pub returns-in-None : goal.returns-in-None
returns-in-None c = ap (λ n. is_same_need same_interface_request n c.args.request.now) c.in-None.ensures
