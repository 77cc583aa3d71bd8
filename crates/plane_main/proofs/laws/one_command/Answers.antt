use Rattle.plane_main.proofs.WordLemmas.{command_one}
use Rattle.plane_main.proofs.laws.one_command.Goals as goal

pub returns : goal.returns
returns c = command_one
