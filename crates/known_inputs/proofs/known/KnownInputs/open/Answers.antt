use Rattle.std.proofs.Common.{arith, ◌≡◌, ◌+◌, None, ap, sym, subst, ◌∙◌}
use Rattle.net_rules.specs.Inputs.{open_interface}
use Rattle.known_inputs.specs.Known.{Known, IsNamed, StandOnce}
use Rattle.known_inputs.specs.Steps.{with_request}
use Rattle.known_inputs.specs.Inside.{inputs_in, known_in}
use Rattle.known_inputs.proofs.StandLemmas.{stands_opened}
use Rattle.known_inputs.proofs.RoomLemmas.{few_requests}
use Rattle.known_inputs.proofs.known.KnownInputs.open.Goals as goal

pub push_reserved-requires : goal.push_reserved-requires
push_reserved-requires c =
    let k = c.self.inside in
    let named : IsNamed k.conf c.args.request.name = subst (λ known. IsNamed known.inputs.conf c.args.request.name) (sym c.self.view_is) c.requires.named in
    let new : open_interface k.interfaces.items c.args.request.name ≡ None = subst (λ known. open_interface known.inputs.interfaces c.args.request.name ≡ None) (sym c.self.view_is) c.requires.new in
    let few = few_requests (inputs_in k) c.args.request c.self.invariant.once new named in
    let room = c.self.invariant.requests in
    omega (arith, few, room, k.interfaces.ok.0)

pub invariant_of-self : goal.invariant_of-self
invariant_of-self c =
    let k = c.self.inside in
    let named : IsNamed k.conf c.args.request.name = subst (λ known. IsNamed known.inputs.conf c.args.request.name) (sym c.self.view_is) c.requires.named in
    let new : open_interface k.interfaces.items c.args.request.name ≡ None = subst (λ known. open_interface known.inputs.interfaces c.args.request.name ≡ None) (sym c.self.view_is) c.requires.new in
    let room = c.self.invariant.requests in
    record {
      once = subst (λ os. StandOnce (record (inputs_in k) { interfaces = os; next = k.next + 1 })) (sym c.push_reserved.ensures.items) (stands_opened (inputs_in k) c.args.request new named c.self.invariant.once);
      operator_states = c.self.invariant.operator_states;
      requests = omega (arith, room, c.push_reserved.ensures.capacity);
    }

pub returns-clause-opened : goal.returns-clause-opened
returns-clause-opened c =
    let k = c.self.inside in
    ap (λ os. record (known_in k) { inputs = record (inputs_in k) { interfaces = os; next = k.next + 1 } }) c.push_reserved.ensures.items
    ∙ ap (λ (known : Known). record known { inputs = with_request known.inputs c.args.request }) c.self.view_is
