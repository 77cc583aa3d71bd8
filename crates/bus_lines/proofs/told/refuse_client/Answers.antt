use Rattle.std.proofs.Common.{subst}
use Rattle.std.proofs.lemmas.Result.{IfOk-weaker}
use Rattle.script_lines.specs.declared.line_error.LineError.{LineError}
use Rattle.bus_lines.specs.declared.handled.Handled.{Handled}
use Rattle.bus_lines.specs.Replied.{TellsError}
use Rattle.bus_lines.specs.Told.{RefusesClient}
use Rattle.bus_lines.proofs.told.refuse_client.Goals as goal

pub returns-in_default : goal.returns-in_default
returns-in_default c =
    IfOk-weaker c.refuse_line.result (TellsError c.line_error.result) (RefusesClient c.args.error)
    (λ (told : Handled) tells. record {
      not = c.in_default.not-Memory;
      tells = subst (λ (e : LineError). TellsError e told) c.line_error.ensures tells;
    }) c.refuse_line.ensures
