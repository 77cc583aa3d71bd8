use Rattle.std.proofs.Common.{ℕ, List, Option, ap}
use Rattle.std.specs.Prelude.{bytes_eq}
use Rattle.net_rules.specs.Rows.{is_name}
use Rattle.net_reach.proofs.GroupLemmas.{gains_as}
use Rattle.net_reach.proofs.l3_devices.join.Goals as goal

pub returns-in-Some : goal.returns-in-Some
returns-in-Some c = gains_as c.args.groups.now c.put_place.new.groups (λ q. bytes_eq c.in-Some.l3_device q) (λ q. is_name c.args.l3_device q) c.args.place c.put_place.ensures (λ q. ap (λ (o : Option (List ℕ)). is_name o q) c.in-Some.is)
