use Rattle.std.proofs.Common.{ℕ, ◌≡◌, ◌∙◌, List, Option, Some, sym, subst}
use Rattle.serde_json.specs.Data.{Data}
use Rattle.answer_json.specs.Members.{IsArray}
use Rattle.answer_json.specs.PortsJson.{IsPort}
use Rattle.answer_json.proofs.MemberLemmas.{none_within, same_member}
use Rattle.answer_json.proofs.ports_json.read_ports.Goals as goal

pub returns-in-Some-clause-none : goal.returns-in-Some-clause-none
returns-in-Some-clause-none c =
    none_within c.read_array.result _ _
    (λ none ports h. none ports (subst (λ (d : Data). IsArray IsPort d ports)
    (same_member _ _ _ h.there (sym c.in-Some.ensures)) h.array)) c.read_array.ensures.none
