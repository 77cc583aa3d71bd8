use Rattle.std.proofs.Common.{◌≡◌, [], ◌∷◌, ◌++◌, rules}
use Rattle.net_view.proofs.JoinLemmas.{grown}
use Rattle.net_view.proofs.radio_ports.add_to_group.Goals as goal

pub returns : goal.returns
returns c =
    let pushed : c.push.new.self.items ≡ c.take_group-group.result.items ++ c.args.port ∷ [] = search rules in
    grown c.args.groups.now c.take_group-group.new.groups c.insert.new.self c.args.bridge c.args.port c.take_group-group.result c.push.new.self c.take_group-group.ensures.ports pushed c.take_group-group.ensures.others
    c.in_ok-_none.ensures.updates.0
