use Rattle.std.proofs.Common.{Bor}
use Rattle.net_rules.specs.declared.inputs.OpenInterface.{OpenInterface}
use Rattle.known_inputs.proofs.RequestLemmas.{read_at}
use Rattle.known_inputs.proofs.known.request_at.Goals as goal

pub returns : goal.returns
returns c = read_at (λ (x : Bor OpenInterface). x.now) c.args.requests.now c.args.place c.get.result c.get.ensures.lookup
