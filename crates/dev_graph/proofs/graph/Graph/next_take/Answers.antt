use Rattle.std.proofs.Common.{Some, refl, sym, ap, ◌∙◌}
use Rattle.std.specs.List.{find}
use Rattle.kern_calls.specs.Calls.{calls}
use Rattle.kern_model.specs.ObjectOrder.{Objects}
use Rattle.graph_objects.specs.Marks.{held_of, wanted_of}
use Rattle.graph_objects.proofs.FirstLemmas.{first_take_found, no_take_found}
use Rattle.graph_rules.specs.State.{State, devices_in}
use Rattle.graph_rules.specs.Calls.{is_take, next_take_in}
use Rattle.dev_graph.specs.Inside.{known_in}
use Rattle.dev_graph.proofs.WantLemmas.{wanted_is}
use Rattle.dev_graph.proofs.graph.Graph.next_take.Goals as goal

pub own_take-requires : goal.own_take-requires
own_take-requires c s is = (c.self.invariant.whole s is).names

pub returns-in-Some : goal.returns-in-Some
returns-in-Some c =
    let s = known_in c.self.inside.names in
    let held = held_of c.self.inside.objects in
    let wanted = wanted_is s c.self.inside.objects c.self.invariant.wishes in
    ap Some c.own_take.ensures
    ∙ sym (first_take_found is_take (λ o mtu mac. refl) (λ o. refl) (devices_in s) held (wanted_of c.self.inside.objects) c.in-Some.object c.in-Some.ensures.some)
    ∙ ap (λ (w : Objects). find is_take (calls (devices_in s) held w)) wanted
    ∙ ap (λ (t : State). next_take_in t) c.self.view_is

pub returns-in-None : goal.returns-in-None
returns-in-None c =
    let s = known_in c.self.inside.names in
    let held = held_of c.self.inside.objects in
    let wanted = wanted_is s c.self.inside.objects c.self.invariant.wishes in
    sym (no_take_found is_take (λ o mtu mac. refl) (λ o. refl) (devices_in s) held (wanted_of c.self.inside.objects) c.in-None.ensures.none)
    ∙ ap (λ (w : Objects). find is_take (calls (devices_in s) held w)) wanted
    ∙ ap (λ (t : State). next_take_in t) c.self.view_is
