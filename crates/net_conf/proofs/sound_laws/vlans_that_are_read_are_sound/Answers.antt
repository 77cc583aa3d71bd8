use Rattle.std.proofs.Common.{refl}
use Rattle.net_conf.specs.Conf.{conf}
use Rattle.net_modern.specs.Rewriting.{modern}
use Rattle.net_devices.specs.Counted.{all_said}
use Rattle.net_conf.proofs.VlanLemmas.{sound_vlans}
use Rattle.net_conf.proofs.sound_laws.vlans_that_are_read_are_sound.Goals as goal

pub returns : goal.returns
returns c network wireless = sound_vlans (conf network wireless) (all_said (modern network).sections) (modern network).sections refl
