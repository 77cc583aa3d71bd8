use Rattle.std.proofs.Common.{Some, ap, ◌∙◌}
use Rattle.plane_step.proofs.StepLiftLemmas.{is_nobodys}
use Rattle.plane_step.proofs.act.who_asks.Goals as goal

pub returns-in-At : goal.returns-in-At
returns-in-At c = c.in-Some.is ∙ ap Some c.in-At.is

pub returns-in-Call : goal.returns-in-Call
returns-in-Call c = c.in-Some.is ∙ ap Some c.in-Call.is

pub returns-in-OpenClient : goal.returns-in-OpenClient
returns-in-OpenClient c = c.in-Some.is ∙ ap Some c.in-OpenClient.is

pub returns-in-ClientBytes : goal.returns-in-ClientBytes
returns-in-ClientBytes c = c.in-Some.is ∙ ap Some c.in-ClientBytes.is

pub returns-in-CloseClient : goal.returns-in-CloseClient
returns-in-CloseClient c = c.in-Some.is ∙ ap Some c.in-CloseClient.is

pub returns-in_default-line : goal.returns-in_default-line
returns-in_default-line c = (
  c.in-Some.is,
  is_nobodys c.in-Some.line c.in_default-line.not-At c.in_default-line.not-Call c.in_default-line.not-OpenClient
      c.in_default-line.not-ClientBytes c.in_default-line.not-CloseClient,
)
