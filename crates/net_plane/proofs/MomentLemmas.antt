-- Moments of histories.
use Rattle.std.proofs.Common.{◌≡◌, None, ap, sym, ◌∙◌}
use Rattle.kern_model.specs.ObjectOrder.{Objects}
use Rattle.kern_calls.specs.Calls.{calls}
use Rattle.kern_calls.proofs.CallsLemmas.{are_the_calls}
use Rattle.net_rules.specs.declared.inputs.Inputs.{Inputs}
use Rattle.net_rules.specs.declared.event.Event.{Event}
use Rattle.net_rules.specs.declared.event.Event.TheVariants as event
use Rattle.net_rules.specs.Fresh.{fresh_start}
use Rattle.net_rules.specs.Moment.{Moment, devices_of, want_of, MayCome, IsHistory}
use Rattle.net_rules.specs.Refusal.{refusal}
use Rattle.net_rules.proofs.RefusalLemmas.{device_may}
use Rattle.net_rules.proofs.HistoryLemmas.{history_reaches, history_as_fresh}
use Rattle.net_plane.specs.Taken.{HasSoundRows}

abbrev moment_of : Inputs → Objects → Moment
moment_of inputs held = record { inputs = inputs; held = held }

abbrev moment_with : Objects → Inputs → Moment
moment_with held inputs = record { inputs = inputs; held = held }

pub same_moment : {i j : Inputs} {h k : Objects} → i ≡ j → h ≡ k → ◌≡◌ {A = Moment} (record { inputs = i; held = h }) (record { inputs = j; held = k })
same_moment {i} {j} {h} {k} inputs held = ap (moment_with h) inputs ∙ ap (moment_of j) held

-- an event that nothing refuses may come
pub comes : (moment : Moment) (event : Event) → HasSoundRows event → refusal moment event ≡ None → MayCome moment event
comes moment (event.Load conf) rows none = rows
comes moment (event.Device what) rows none = device_may moment what none
comes moment (event.Operator interface up) rows none = tt
comes moment (event.Answer interface number answer) rows none = tt
comes moment (event.Radio radio number ports) rows none = tt

-- a fresh start wants the same
pub fresh_same : (moment : Moment) → IsHistory moment → want_of moment.inputs ≡ want_of (fresh_start moment.inputs)
fresh_same moment history =
    let all = calls (devices_of moment.inputs) moment.held (want_of moment.inputs) in
    let are = are_the_calls (devices_of moment.inputs) moment.held (want_of moment.inputs) in
    sym (history_reaches moment all history are) ∙ history_as_fresh moment all history are
