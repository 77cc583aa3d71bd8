use Rattle.std.proofs.Common.{refl}
use Rattle.net_conf.specs.Conf.{conf}
use Rattle.net_modern.specs.Rewriting.{modern}
use Rattle.net_devices.specs.Counted.{counted, all_said}
use Rattle.net_devices.specs.Devices.{all_names}
use Rattle.net_conf.proofs.ReadLemmas.{said_are_read}
use Rattle.net_conf.proofs.LevelLemmas.{sound_levels}
use Rattle.net_conf.proofs.NameLemmas.{sound_names}
use Rattle.net_conf.proofs.VlanLemmas.{sound_vlans}
use Rattle.net_conf.proofs.sound_laws.rows_that_are_read_are_sound.Goals as goal

pub returns : goal.returns
returns c network wireless = record {
  levels = sound_levels (conf network wireless) (all_said (modern network).sections) (all_names (modern network).sections) refl;
  names = sound_names (conf network wireless) (all_said (modern network).sections) refl (said_are_read (counted (modern network).sections));
  vlans = sound_vlans (conf network wireless) (all_said (modern network).sections) (modern network).sections refl;
}
