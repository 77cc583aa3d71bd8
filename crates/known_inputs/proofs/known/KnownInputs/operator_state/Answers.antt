use Rattle.std.proofs.Common.{rules, arith, ◌++◌, ◌∷◌, [], length, ap, sym, subst, ◌∙◌}
use Rattle.std.specs.Prelude.{not, bytes_eq}
use Rattle.std.proofs.lemmas.Fn.{filter_same}
use Rattle.net_rules.specs.declared.event.Event.TheVariants as event
use Rattle.net_rules.specs.After.{changed}
use Rattle.known_inputs.specs.Known.{Known, IsNamed, StandOnce}
use Rattle.known_inputs.specs.Inside.{inputs_in, known_in}
use Rattle.known_inputs.proofs.StandLemmas.{stands_commanded}
use Rattle.known_inputs.proofs.RoomLemmas.{few_operator_states}
use Rattle.known_inputs.proofs.known.KnownInputs.operator_state.Goals as goal

pub push_reserved-requires : goal.push_reserved-requires
push_reserved-requires c =
    let k = c.self.inside in
    let named : IsNamed k.conf c.args.interface = subst (λ known. IsNamed known.inputs.conf c.args.interface) (sym c.self.view_is) c.requires in
    let few = few_operator_states (inputs_in k) c.args.interface c.self.invariant.once named in
    let kept = ap length (filter_same _ (λ x. not (bytes_eq x.interface c.args.interface)) _ (λ x b f' k. search rules) _ _ c.retain.ensures.filtered) in
    let room = c.self.invariant.operator_states in
    omega (arith, few, kept, room, c.retain.ensures.capacity, c.retain.new.self.ok.0)

pub invariant_of-self : goal.invariant_of-self
invariant_of-self c =
    let k = c.self.inside in
    let named : IsNamed k.conf c.args.interface = subst (λ known. IsNamed known.inputs.conf c.args.interface) (sym c.self.view_is) c.requires in
    let kept = filter_same _ (λ x. not (bytes_eq x.interface c.args.interface)) _ (λ x b f' k. search rules) _ _ c.retain.ensures.filtered in
    let items = c.push_reserved.ensures.items ∙ ap (λ cs. cs ++ record { interface = c.args.interface; up = c.args.up } ∷ []) kept in
    let room = c.self.invariant.operator_states in
    record {
      once = subst (λ cs. StandOnce (record (inputs_in k) { operator_states = cs })) (sym items) (stands_commanded (inputs_in k) c.args.interface c.args.up named c.self.invariant.once);
      operator_states = omega (arith, room, c.retain.ensures.capacity, c.push_reserved.ensures.capacity);
      requests = c.self.invariant.requests;
    }

pub returns : goal.returns
returns c =
    let k = c.self.inside in
    let kept = filter_same _ (λ x. not (bytes_eq x.interface c.args.interface)) _ (λ x b f' k. search rules) _ _ c.retain.ensures.filtered in
    let items = c.push_reserved.ensures.items ∙ ap (λ cs. cs ++ record { interface = c.args.interface; up = c.args.up } ∷ []) kept in
    ap (λ cs. record (known_in k) { inputs = record (inputs_in k) { operator_states = cs } }) items
    ∙ ap (λ (known : Known). record known { inputs = changed known.inputs (event.Operator c.args.interface c.args.up) }) c.self.view_is
