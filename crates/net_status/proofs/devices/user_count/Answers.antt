use Rattle.std.proofs.Common.{ℕ, ◌≡◌, ◌+◌, ◌≤◌, List, length, ap, ◌∙◌, arith}
use Rattle.net_rules.specs.Inputs.{facts_of}
use Rattle.net_status.proofs.CountLemmas.{few_users}
use Rattle.net_status.proofs.devices.user_count.Goals as goal

pub overflow_cast-result : goal.overflow_cast-result
overflow_cast-result c =
    let few = few_users (facts_of c.args.inputs.now) c.args.name.now in
    let interfaces : length c.as_slice.result.now ≡ length c.args.inputs.now.conf.interfaces = ap length c.as_slice.ensures in
    let names : length c.as_slice-2.result.now ≡ length c.args.inputs.now.conf.names = ap length c.as_slice-2.ensures in
    omega (arith, few, interfaces, names, c.users.ensures, c.most_users-most.ensures)
