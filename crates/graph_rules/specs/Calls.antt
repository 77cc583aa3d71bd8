-- The calls between what is held and what is wanted on the devices of a graph.
use Rattle.std.specs.Prelude.{ℕ, List, Option, Bool, true, false, not}
use Rattle.std.specs.List.{find}
use Rattle.std.specs.FinSet as set
use Rattle.kern_model.specs.declared.object.Object.{Object}
use Rattle.kern_model.specs.declared.object.Call.{Call}
use Rattle.kern_model.specs.declared.object.Call.TheVariants.{Put, Take}
use Rattle.kern_model.specs.Touched as touched
use Rattle.kern_calls.specs.Calls.{calls}
use Rattle.kern_calls.specs.Due.{due_count}
use Rattle.graph_rules.specs.State.{State, devices_in}
use Rattle.graph_rules.specs.Wanted.{want_in}

-- an object is wanted, or is held
abbrev pub is_wanted : State → Object → Bool
is_wanted s o = set.contains (want_in s.known) o

abbrev pub is_held : State → Object → Bool
is_held s o = set.contains s.held o

abbrev pub calls_in : State → List Call
calls_in s = calls (devices_in s.known) s.held (want_in s.known)

abbrev pub is_take : Call → Bool
is_take (Take o mtu mac) = true
is_take (Put o) = false

-- the first of the calls that takes, and the first that puts
abbrev pub next_take_in : State → Option Call
next_take_in s = find is_take (calls_in s)

abbrev pub next_put_in : State → Option Call
next_put_in s = find (λ call. not (is_take call)) (calls_in s)

-- the link of a name is taken, or a link on which the name stands
abbrev pub loses_link_in : State → List ℕ → Bool
loses_link_in s name = touched.loses_link s.held (want_in s.known) name

-- how many objects are in one of what is held and what is wanted, and not in the other
abbrev pub due_in : State → ℕ
due_in s = due_count s.held (want_in s.known)
