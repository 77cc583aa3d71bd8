use Rattle.std.proofs.Common.{ℕ, List, Option, ap}
use Rattle.std.specs.Prelude.{bytes_eq}
use Rattle.net_rows.proofs.WordLemmas.{on_ok_then}
use Rattle.net_rules.specs.Rows.{is_name}
use Rattle.net_reach.proofs.GroupLemmas.{gains_none, gains_as}
use Rattle.net_reach.proofs.interfaces.add_at.Goals as goal

pub returns-in-Some : goal.returns-in-Some
returns-in-Some c = on_ok_then c.add_place.result (λ put. gains_as c.args.groups.now c.add_place.new.groups (λ q. bytes_eq c.in-Some.name q) (λ q. is_name c.args.name q) c.args.place put
    (λ q. ap (λ (o : Option (List ℕ)). is_name o q) c.in-Some.is)) c.add_place.ensures

pub returns-in-None : goal.returns-in-None
returns-in-None c = gains_none c.args.groups.now (λ q. is_name c.args.name q) c.args.place (λ q. ap (λ (o : Option (List ℕ)). is_name o q) c.in-None.is)
