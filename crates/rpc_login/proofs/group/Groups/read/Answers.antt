use Rattle.std.proofs.Common.{◌∙◌, ap}
use Rattle.rpc_login.specs.Form.{groups_in}
use Rattle.rpc_login.proofs.ReadLemmas.{json_found, json_missing}
use Rattle.rpc_login.proofs.group.Groups.read.Goals as goal

pub returns-in-Ok : goal.returns-in-Ok
returns-in-Ok c = λ h. c.read_list.ensures h ∙ ap groups_in (json_found _ _ c.in-Ok.ensures.ok.0 c.in-Ok.ensures.ok.1)

pub returns-else-is_memory : goal.returns-else-is_memory
returns-else-is_memory c = λ h. ap groups_in (json_missing _ (c.in-Err.ensures.err (λ m. cc (c.is_memory.ensures.1 m, c.if-is_memory.false))))
