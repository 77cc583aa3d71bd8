use Rattle.std.proofs.Common.{ℕ, List, sym, subst}
use Rattle.net_reach.specs.Groups.{AreMembers}
use Rattle.net_reach.specs.Reach.{is_at_l3_device}
use Rattle.net_reach.proofs.reach.Reach.interfaces_told.Goals as goal

pub returns : goal.returns
returns c = λ inputs is. subst (λ (z : List ℕ). AreMembers z (is_at_l3_device inputs c.args.l3_device.now) inputs.conf.interfaces) (sym c.places_at.ensures) (is.at_l3_device c.args.l3_device.now)
