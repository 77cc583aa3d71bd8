use Rattle.std.proofs.Common.{ℕ, List, Bor, ap}
use Rattle.std.specs.Option.{option_map}
use Rattle.rpc_login.proofs.ReadLemmas.{grant_alone, grant_under}
use Rattle.rpc_login.proofs.read.grant_of_text.Goals as goal

pub returns-in-Some : goal.returns-in-Some
returns-in-Some c = grant_under _ _ _ _ _ _ (ap (option_map (λ (name : Bor (List ℕ)). name.now)) c.in-Some.is) c.of.ensures

pub returns-in-None : goal.returns-in-None
returns-in-None c = grant_alone _ _ _ _ _ _ (ap (option_map (λ (name : Bor (List ℕ)). name.now)) c.in-None.is) c.part_name.ensures c.of-in-None.ensures
