-- How a settling ends: a front of its calls was made.
use Rattle.std.proofs.Common.{ℕ, ◌≡◌, List, [], ◌∷◌, ◌++◌, Result, Ok, Err, ap, sym, ◌∙◌, append_assoc}
use Rattle.kern_model.specs.declared.object.Call.{Call}
use Rattle.net_settle.specs.declared.settle_error.SettleError.{SettleError}
use Rattle.net_settle.specs.declared.settle_error.SettleError.TheVariants as error
use Rattle.net_settle.specs.Outside.{Outside}
use Rattle.net_settle.specs.Settle.{SettleEnds, Made}

-- a front of the calls was made
pub record FrontMade (calls rest : List Call) (before after : Outside) : Type 0 where
  pub made : List Call
  pub parts : calls ≡ made ++ rest
  pub done : Made made before after

pub front_made : {X : Type 0} (calls rest : List Call) (before after : Outside) (result : Result X SettleError) → SettleEnds calls rest before after result → FrontMade calls rest before after
front_made calls rest before after (Ok x) ends = record { made = ends.1.settled.made; parts = ends.1.settled.parts ∙ ap (λ r. ends.1.settled.made ++ r) (sym ends.0); done = ends.1.settled.done }
front_made calls rest before after (Err error.KernelFailed) ends = record { made = ends.settled.made; parts = ends.settled.parts; done = ends.settled.done }
front_made calls rest before after (Err error.WriteFailed) ends = record { made = ends.earlier ++ ends.last ∷ []; parts = ends.parts ∙ sym (append_assoc ends.earlier (ends.last ∷ []) rest); done = ends.done }
