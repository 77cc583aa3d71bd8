use Rattle.net_devices.proofs.LevelLaws.{level_found, level_kept, too_high, on_none}
use Rattle.net_devices.proofs.laws.levels_are_exact.Goals as goal

pub returns-clause-found : goal.returns-clause-found
returns-clause-found c = level_found

pub returns-clause-only : goal.returns-clause-only
returns-clause-only c = level_kept

pub returns-clause-too_high : goal.returns-clause-too_high
returns-clause-too_high c said name = (too_high said name, on_none said name)
