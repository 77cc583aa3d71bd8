-- How far a settling came.
use Rattle.std.specs.Prelude.{◌≡◌, List, [], ◌++◌, Result, Ok, Err}
use Rattle.kern_model.specs.declared.object.Call.{Call}
use Rattle.kern_model.specs.ObjectOrder.{set_of}
use Rattle.kern_model.specs.CallOrder.{after_calls}
use Rattle.net_settle.specs.declared.settle_error.SettleError.{SettleError}
use Rattle.net_settle.specs.declared.settle_error.SettleError.TheVariants as stop
use Rattle.net_settle.specs.Outside.{Outside}
use Rattle.net_settle.specs.Settle.{SettledAlone, StopsAtCall, StopsAtLine}
use Rattle.net_plane.specs.declared.net_error.NetError.{NetError}
use Rattle.net_plane.specs.declared.net_error.NetError.TheVariants as error
use Rattle.net_plane.specs.Network.{Network, calls_of}

-- How a settling ends. Where it is done, all the calls were made, and nothing else. Else a front of
-- them was made, and the others are left: a call failed, or a line was not written.
abbrev pub Settles : {X : Type 0} → List Call → List Call → Outside → Outside → Result X NetError
    → Type 0
Settles calls left before after (Ok _) = (left ≡ []) × SettledAlone calls [] before after
Settles calls left before after (Err error.KernelFailed) = StopsAtCall calls left before after
Settles calls left before after (Err error.WriteFailed) = StopsAtLine calls left before after
Settles calls left before after (Err _) = ⊥

-- Of the calls from what is held to what is wanted these were made, and all others are left. Inputs
-- and notices stay.
pub record HasMade (made : List Call) (before now : Network) : Type 0 where
  pub parts : calls_of before ≡ made ++ calls_of now
  pub held : set_of now.held ≡ after_calls (set_of before.held) made
  pub inputs : now.inputs ≡ before.inputs
  pub notices : now.notices ≡ before.notices

-- the end of a settling, as it is told
abbrev pub told_end : {X : Type 0} → Result X SettleError → Result X NetError
told_end (Ok x) = Ok x
told_end (Err stop.KernelFailed) = Err error.KernelFailed
told_end (Err stop.WriteFailed) = Err error.WriteFailed
