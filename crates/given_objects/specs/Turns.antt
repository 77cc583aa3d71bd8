-- Which of two calls of gifts comes sooner, as the program goes over them.
use Rattle.std.specs.Prelude.{Bool, Option, Some, None, if◌then◌else◌}
use Rattle.std.specs.Ordering.{is_lt}
use Rattle.std.specs.FinSet as set
use Rattle.kern_model.specs.declared.object.Object.{Object}
use Rattle.kern_model.specs.declared.object.Call.{Call}
use Rattle.kern_model.specs.declared.object.Call.TheVariants.{Put}
use Rattle.kern_model.specs.CallOrder.{call_cmp}
use Rattle.given_objects.specs.declared.gift.Gift.{Gift}
use Rattle.given_objects.specs.declared.first.Turn.{Turn}
use Rattle.given_objects.specs.declared.first.Turn.TheVariants.{Takes, Puts}
use Rattle.given_objects.specs.First.{is_take_due, is_put_due, plain_take}

-- which gifts a turn calls for
abbrev pub is_due : Turn → Gift → Bool
is_due Takes g = is_take_due g
is_due Puts g = is_put_due g

-- the call of an object
abbrev pub call_of : Turn → Object → Call
call_of Takes o = plain_take o
call_of Puts o = Put o

-- an object's call comes before that of another
abbrev pub comes_before : Turn → Object → Object → Bool
comes_before turn one other =
    is_lt (call_cmp set.empty set.empty (call_of turn one) (call_of turn other))

-- an object where it comes before the first so far, else that one
abbrev pub nearer : Turn → Option Object → Object → Option Object
nearer turn None o = Some o
nearer turn (Some best) o = if comes_before turn o best then Some o else Some best

-- the object of a gift where it is due and comes before the first so far, else that one
abbrev pub sooner : Turn → Option Object → Gift → Option Object
sooner turn best g = if is_due turn g then nearer turn best g.object else best
