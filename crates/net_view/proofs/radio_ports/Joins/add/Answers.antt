use Rattle.std.proofs.Common.{◌≡◌, [], ◌∷◌, ◌++◌, rules}
use Rattle.net_view.proofs.JoinLemmas.{join_already, join_more}
use Rattle.net_view.proofs.radio_ports.Joins.add.Goals as goal

pub returns-then-contains : goal.returns-then-contains
returns-then-contains c = λ all is. join_already all c.args.self.now c.args.join c.contains.result is c.contains.ensures c.if-contains.true

pub returns : goal.returns
returns c =
    let pushed : c.push.new.self.items ≡ c.args.self.now.list.items ++ c.args.join ∷ [] = search rules in
    λ all is. join_more all c.args.self.now (record { list = c.push.new.self; ports = c.insert.new.self }) c.args.join c.contains.result is c.contains.ensures c.if-contains.false pushed c.in_ok-_added.ensures.updates.0
