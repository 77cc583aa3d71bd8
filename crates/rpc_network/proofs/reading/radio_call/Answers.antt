use Rattle.std.proofs.Common.{ℕ, List, Option, sym, subst}
use Rattle.std.specs.Prelude.{IfNone}
use Rattle.serde_json.specs.View.{view}
use Rattle.answer_json.specs.PortsJson.{ArePorts}
use Rattle.rpc_network.proofs.reading.radio_call.Goals as goal

pub returns-in-None : goal.returns-in-None
returns-in-None c asked requests =
    subst (λ found. IfNone found ((ports : List (Option (List ℕ))) → ArePorts (view c.in-Ok-json_of_blob.value) ports → ⊥))
    c.in-None.is c.in-Ok-read_ports.ensures.none requests.ports
    (subst (λ value. ArePorts value requests.ports) (sym c.in-Ok-json_of_blob.ensures) requests.are)
