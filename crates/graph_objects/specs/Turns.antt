-- The first of the takes, and the first of the puts.
use Rattle.std.specs.Prelude.{ℕ, ◌≡◌, Bool, true, false}
use Rattle.std.specs.declared.cmp.Ordering.TheVariants.{Less}
use Rattle.kern_model.specs.declared.object.Mac.{Mac}
use Rattle.kern_model.specs.declared.object.Object.{Object}
use Rattle.kern_model.specs.declared.object.Call.{Call}
use Rattle.kern_model.specs.declared.object.Call.TheVariants.{Put, Take}
use Rattle.kern_model.specs.ObjectOrder.{Objects}
use Rattle.kern_model.specs.Kernel.{Devices}
use Rattle.kern_model.specs.Touched.{is_taken, is_put}
use Rattle.kern_model.specs.CallOrder.{call_cmp}
use Rattle.kern_calls.specs.Calls.{own_take}
use Rattle.graph_objects.specs.declared.slot.Side.{Side}
use Rattle.graph_objects.specs.declared.slot.Side.TheVariants as side
use Rattle.graph_objects.specs.declared.turn.Turn.{Turn}
use Rattle.graph_objects.specs.declared.turn.Turn.TheVariants.{Takes, Puts}

-- held objects are taken, wanted ones put
abbrev pub side_of : Turn → Side
side_of Takes = side.Held
side_of Puts = side.Wanted

-- which objects a turn calls for
abbrev pub is_due : Turn → Objects → Objects → Object → Bool
is_due Takes held wanted o = is_taken held wanted o
is_due Puts held wanted o = is_put held wanted o

-- the call of an object, a take with the own values of its name
abbrev pub call_in : Devices → Turn → Object → Call
call_in devices Takes o = own_take devices o
call_in devices Puts o = Put o

-- an object is due, and no other of the turn comes before it
pub record IsFirst (turn : Turn) (held wanted : Objects) (o : Object) : Type 0 where
  pub due : is_due turn held wanted o ≡ true
  pub first : (devices : Devices) (other : Object) → is_due turn held wanted other ≡ true
      → call_cmp held wanted (call_in devices turn other) (call_in devices turn o) ≡ Less → ⊥

-- a test that takes pass, and puts do not
pub record TellsTakes (test : Call → Bool) : Type 0 where
  pub takes : (o : Object) (mtu : ℕ) (mac : Mac) → test (Take o mtu mac) ≡ true
  pub puts : (o : Object) → test (Put o) ≡ false
