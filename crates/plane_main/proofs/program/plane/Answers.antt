use Rattle.std.proofs.Common.{sym}
use Rattle.plane_main.proofs.RunLemmas.{run_comes}
use Rattle.plane_main.proofs.program.plane.Goals as goal

pub returns-clause-ended : goal.returns-clause-ended
returns-clause-ended g c = record {
  end = c.carry_out.result;
  status = sym c.status.ensures;
  cause = c.carry_out.ensures.cause;
  comes = run_comes _ _ _ c.carry_out.result c.carry_out.ensures.cause;
  told = c.carry_out.ensures.told;
}
