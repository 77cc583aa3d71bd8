use Rattle.std.proofs.Common.{◌≡◌, [], ◌∷◌, ◌++◌, rules}
use Rattle.net_view.proofs.JoinLemmas.{grown}
use Rattle.net_reach.proofs.groups.add_place.Goals as goal

pub returns : goal.returns
returns c =
    let pushed : c.push.new.self.items ≡ c.take_group-group.result.items ++ c.args.place ∷ [] = search rules in
    grown c.args.groups.now c.take_group-group.new.groups c.insert.new.self c.args.name.now c.args.place c.take_group-group.result c.push.new.self c.take_group-group.ensures.places pushed c.take_group-group.ensures.others
    c.in_ok-_none.ensures.updates.0
