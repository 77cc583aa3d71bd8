use Rattle.std.proofs.Common.{List, cond, Option, Some, None, ap}
use Rattle.std.specs.Prelude.{ℕ, is_some}
use Rattle.net_rows.specs.declared.rows.NameRow.{NameRow}
use Rattle.load_parts.proofs.names.further_device.Goals as goal

pub returns-in-Some : goal.returns-in-Some
returns-in-Some c = ap (λ (o : Option NameRow). cond {A = Option (List ℕ)} (is_some o) None (Some c.args.name.now)) c.in-Some.ensures

pub returns-in-None : goal.returns-in-None
returns-in-None c = ap (λ (o : Option NameRow). cond {A = Option (List ℕ)} (is_some o) None (Some c.args.name.now)) c.in-None.ensures
