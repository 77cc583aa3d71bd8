use Rattle.std.proofs.Common.{ℕ, List, Option, false, refl, ap}
use Rattle.std.specs.Prelude.{◌||◌, bytes_eq}
use Rattle.net_rows.proofs.WordLemmas.{on_ok_then}
use Rattle.net_rules.specs.Rows.{is_name}
use Rattle.net_reach.proofs.GroupLemmas.{gains_none, gains_as, last_more}
use Rattle.net_reach.proofs.above.add_under.Goals as goal

pub returns-in-Some : goal.returns-in-Some
returns-in-Some c = on_ok_then c.add_last.result (λ put.
    gains_as c.args.above.now c.add_last.new.groups (λ q. false || bytes_eq c.in-Some.lower q) (λ q. is_name c.args.lower q) c.args.place
    (last_more c.args.above.now c.args.above.now c.add_last.new.groups (λ q. false) c.in-Some.lower c.args.place c.requires (gains_none c.args.above.now (λ q. false) c.args.place (λ q. refl)) put)
    (λ q. ap (λ (o : Option (List ℕ)). is_name o q) c.in-Some.is)) c.add_last.ensures

pub returns-in-None : goal.returns-in-None
returns-in-None c = gains_none c.args.above.now (λ q. is_name c.args.lower q) c.args.place (λ q. ap (λ (o : Option (List ℕ)). is_name o q) c.in-None.is)
