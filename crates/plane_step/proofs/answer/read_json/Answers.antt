use Rattle.std.proofs.Common.{ap, ◌∙◌}
use Rattle.plane_step.specs.Means.{json_of}
use Rattle.plane_step.proofs.JsonLemmas.{json_found, json_missing}
use Rattle.plane_step.proofs.answer.read_json.Goals as goal

pub returns-in-Ok : goal.returns-in-Ok
returns-in-Ok c =
    json_found _ _ c.in-Ok.ensures.ok.0 c.in-Ok.ensures.ok.1 ∙ ap json_of c.as_bytes.ensures

pub returns-else-is_memory : goal.returns-else-is_memory
returns-else-is_memory c =
    json_missing _ (c.in-Err.ensures.err (λ m. cc (c.is_memory.ensures.1 m, c.if-is_memory.false)))
    ∙ ap json_of c.as_bytes.ensures
