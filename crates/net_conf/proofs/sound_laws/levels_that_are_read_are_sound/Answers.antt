use Rattle.std.proofs.Common.{refl}
use Rattle.net_conf.specs.Conf.{conf}
use Rattle.net_modern.specs.Rewriting.{modern}
use Rattle.net_devices.specs.Counted.{all_said}
use Rattle.net_devices.specs.Devices.{all_names}
use Rattle.net_conf.proofs.LevelLemmas.{sound_levels}
use Rattle.net_conf.proofs.sound_laws.levels_that_are_read_are_sound.Goals as goal

pub returns : goal.returns
returns c network wireless = sound_levels (conf network wireless) (all_said (modern network).sections) (all_names (modern network).sections) refl
