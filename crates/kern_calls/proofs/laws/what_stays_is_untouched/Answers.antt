use Rattle.kern_model.specs.Kernel.{object_of}
use Rattle.kern_calls.proofs.KeptLemmas.{no_call, part_is_off}
use Rattle.kern_calls.proofs.laws.what_stays_is_untouched.Goals as goal

pub returns-clause-one : goal.returns-clause-one
returns-clause-one c devices held wanted calls call had is off are member = no_call devices held wanted call had is off (are.sound call member)

pub returns-clause-part : goal.returns-clause-part
returns-clause-part c devices held wanted part calls call kept h are member =
    no_call devices held wanted call (kept.was (object_of call) h) (kept.stays (object_of call) h) (part_is_off held wanted part kept (object_of call) h) (are.sound call member)
