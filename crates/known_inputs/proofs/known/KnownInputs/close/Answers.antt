use Rattle.std.proofs.Common.{arith, ◌≤◌, length, ap, sym, subst, ◌∙◌}
use Rattle.known_inputs.specs.Known.{Known, StandOnce}
use Rattle.known_inputs.specs.Steps.{has_number, request_of, without_request}
use Rattle.known_inputs.specs.Places.{OnlyAt}
use Rattle.known_inputs.specs.Inside.{inputs_in, known_in}
use Rattle.known_inputs.proofs.PlaceLemmas.{none_found, none_left_out, only_left_out}
use Rattle.known_inputs.proofs.RequestLemmas.{taken_is}
use Rattle.known_inputs.proofs.StandLemmas.{stands_closed}
use Rattle.known_inputs.proofs.known.KnownInputs.close.Goals as goal

pub remove-requires : goal.remove-requires
remove-requires c =
    let same = ap (λ known. length known.inputs.interfaces) c.self.view_is in
    omega (arith, same, c.in-Some.ensures.within, c.self.inside.interfaces.ok.0)

pub invariant_of-self : goal.invariant_of-self
invariant_of-self c =
    let k = c.self.inside in
    let only = subst (λ known. OnlyAt (has_number c.args.number) known.inputs.interfaces c.in-Some.place) (sym c.self.view_is) c.in-Some.ensures.found in
    let items = c.remove.ensures.items ∙ sym (only_left_out (has_number c.args.number) k.interfaces.items c.in-Some.place only) in
    record {
      once = subst (λ os. StandOnce (record (inputs_in k) { interfaces = os })) (sym items) (stands_closed (inputs_in k) c.args.number c.self.invariant.once);
      operator_states = c.self.invariant.operator_states;
      requests = subst (λ n. length k.conf.interfaces ≤ n) (sym c.remove.ensures.capacity) c.self.invariant.requests;
    }

pub returns-in-Some-clause-found : goal.returns-in-Some-clause-found
returns-in-Some-clause-found c =
    let k = c.self.inside in
    let only = subst (λ known. OnlyAt (has_number c.args.number) known.inputs.interfaces c.in-Some.place) (sym c.self.view_is) c.in-Some.ensures.found in
    taken_is (has_number c.args.number) k.interfaces.items c.in-Some.place c.remove.result only c.remove.ensures.value
    ∙ ap (λ known. request_of known.inputs c.args.number) c.self.view_is

pub returns-in-Some-clause-left : goal.returns-in-Some-clause-left
returns-in-Some-clause-left c =
    let k = c.self.inside in
    let only = subst (λ known. OnlyAt (has_number c.args.number) known.inputs.interfaces c.in-Some.place) (sym c.self.view_is) c.in-Some.ensures.found in
    let items = c.remove.ensures.items ∙ sym (only_left_out (has_number c.args.number) k.interfaces.items c.in-Some.place only) in
    ap (λ os. record (known_in k) { inputs = record (inputs_in k) { interfaces = os } }) items
    ∙ ap (λ (known : Known). record known { inputs = without_request known.inputs c.args.number }) c.self.view_is

pub returns-in-None-clause-found : goal.returns-in-None-clause-found
returns-in-None-clause-found c = sym (none_found (has_number c.args.number) c.args.self.now.inputs.interfaces c.in-None.ensures.none)

pub returns-in-None-clause-left : goal.returns-in-None-clause-left
returns-in-None-clause-left c =
    let known = c.args.self.now in
    ap (λ os. record known { inputs = record known.inputs { interfaces = os } }) (sym (none_left_out (has_number c.args.number) known.inputs.interfaces c.in-None.ensures.none))
