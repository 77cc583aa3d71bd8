-- Where calls lead on, what is held is not what is wanted.
use Rattle.std.proofs.Common.{◌≡◌, List, ◌∷◌, true, sym, subst}
use Rattle.kern_model.specs.declared.object.Call.{Call}
use Rattle.kern_model.specs.declared.object.Call.TheVariants.{Put, Take}
use Rattle.kern_model.specs.ObjectOrder.{Objects, Has}
use Rattle.kern_model.specs.Kernel.{Devices}
use Rattle.kern_model.specs.Touched.{is_call}
use Rattle.kern_model.specs.CallOrder.{AreCalls}
use Rattle.kern_model.proofs.MemberLemmas.{here}
use Rattle.kern_model.proofs.TouchLemmas.{put_wanted}
use Rattle.kern_model.proofs.LeadLemmas.{taken_call}
use Rattle.kern_model.proofs.RestLemmas.{none_taken, unheld_of_put}
use Rattle.kern_calls.specs.Calls.{calls}
use Rattle.kern_calls.proofs.CallsLemmas.{are_the_calls}

-- where what is held is what is wanted, no call leads on
due_call : (devices : Devices) (held wanted : Objects) (c : Call) → is_call devices held wanted c ≡ true → held ≡ wanted → ⊥
due_call devices held wanted (Put o) h same = unheld_of_put held wanted (λ x g. subst (λ s. Has s x) same g) o h (subst (λ s. Has s o) (sym same) (put_wanted held wanted o h))
due_call devices held wanted (Take o mtu mac) h same = none_taken held wanted (λ x g. subst (λ s. Has s x) same g) o (taken_call devices held wanted o mtu mac h)

pub some_due : (devices : Devices) (held wanted : Objects) (c : Call) (others : List Call)
    → calls devices held wanted ≡ c ∷ others → held ≡ wanted → ⊥
some_due devices held wanted c others is same =
    let are : AreCalls devices held wanted (c ∷ others) =
    subst (AreCalls devices held wanted) is (are_the_calls devices held wanted) in
    due_call devices held wanted c (are.sound c (here c others)) same
