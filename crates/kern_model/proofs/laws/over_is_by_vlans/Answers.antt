use Rattle.kern_model.proofs.GoneLemmas.{is_over_of_test, test_of_is_over}
use Rattle.kern_model.proofs.laws.over_is_by_vlans.Goals as goal

pub returns : goal.returns
returns c objects base name = (is_over_of_test objects base name, test_of_is_over objects base name)
