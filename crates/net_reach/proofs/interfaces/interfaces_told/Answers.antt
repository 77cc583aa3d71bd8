use Rattle.std.proofs.Common.{ℕ, List, Option, subst, rules}
use Rattle.std.proofs.lemmas.List.{take_all}
use Rattle.net_rows.specs.declared.rows.InterfaceRow.{InterfaceRow}
use Rattle.net_rules.specs.Rows.{is_name}
use Rattle.net_view.specs.RadioPorts.{group_in}
use Rattle.net_reach.specs.Groups.{HasMembers, Gains}
use Rattle.net_reach.specs.Reach.{is_at_l3_device}
use Rattle.net_reach.proofs.MemberLemmas.{no_members, members_more}
use Rattle.net_reach.proofs.interfaces.interfaces_told.Goals as goal

pub loop-place-init : goal.loop-place-init
loop-place-init c = λ q. no_members (group_in c.new-groups.result q) (is_at_l3_device c.args.inputs.now q) (search rules)

pub loop-place-preserved : goal.loop-place-preserved
loop-place-preserved c =
    let gains = subst (λ (o : Option (List ℕ)). Gains c.loop-place.groups c.add_at.new.groups (λ q. is_name o q) c.loop-place.place) c.l3_device_at-l3_device.ensures c.in_ok-add_at.ensures in
    members_more (is_at_l3_device c.args.inputs.now) c.args.rows.now c.loop-place.groups c.add_at.new.groups c.loop-place.place c.index-rows-place.result c.loop-place-test.true c.index-rows-place.is c.loop-place.invariant gains

pub returns : goal.returns
returns c = subst (λ (z : List InterfaceRow). HasMembers c.loop-place.groups (is_at_l3_device c.args.inputs.now) z) (take_all c.loop-place.place c.args.rows.now c.loop-place-test.false) c.loop-place.invariant
