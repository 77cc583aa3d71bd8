use Rattle.std.proofs.Common.{refl}
use Rattle.net_conf.specs.Conf.{conf}
use Rattle.net_modern.specs.Rewriting.{modern}
use Rattle.net_devices.specs.Counted.{counted, all_said}
use Rattle.net_conf.proofs.ReadLemmas.{said_are_read}
use Rattle.net_conf.proofs.NameLemmas.{sound_names}
use Rattle.net_conf.proofs.sound_laws.names_that_are_read_are_sound.Goals as goal

pub returns : goal.returns
returns c network wireless = sound_names (conf network wireless) (all_said (modern network).sections) refl (said_are_read (counted (modern network).sections))
