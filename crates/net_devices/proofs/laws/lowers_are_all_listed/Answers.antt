use Rattle.net_devices.proofs.LowerLaws.{all_listed}
use Rattle.net_devices.proofs.laws.lowers_are_all_listed.Goals as goal

pub returns : goal.returns
returns c = all_listed
