use Rattle.std.proofs.Common.{arith, length, List, ap}
use Rattle.std.specs.Option.{option_map}
use Rattle.kern_model.specs.Kernel.{with_carrier}
use Rattle.graph_objects.specs.Marks.{held_of}
use Rattle.graph_rules.specs.State.{Named, Known}
use Rattle.graph_rules.specs.After.{name_at, with_device}
use Rattle.graph_counts.proofs.AnswerLemmas.{device_spelled}
use Rattle.use_counts.specs.Uses.{Marking}
use Rattle.dev_graph.specs.Inside.{known_in}
use Rattle.dev_graph.proofs.GraphLemmas.{told_after, whole_some, same_held, after_event, id_before, cost_before, no_id}
use Rattle.dev_graph.proofs.graph.Graph.set_carrier.Goals as goal

pub set_carrier-requires-clause-within : goal.set_carrier-requires-clause-within
set_carrier-requires-clause-within g c = id_before c.self.inside.names c.in-Some.names (held_of c.self.inside.objects) c.self.inside.loads c.args.self.now c.in-Some.is c.self.view_is c.args.id.0 c.requires

pub set_carrier-requires-clause-room : goal.set_carrier-requires-clause-room
set_carrier-requires-clause-room g c = omega (arith, c.self.invariant.room, ap (λ n. length (known_in n).names) c.in-Some.is)

pub judge_uses-requires : goal.judge_uses-requires
judge_uses-requires g c =
    let s : Known = c.in-Some.names in
    let told = told_after c.self.inside s c.set_carrier.new.self (with_device s.names c.args.id.0 (option_map (with_carrier c.args.on) (name_at s.names c.args.id.0).device)) c.set_carrier.new.uses c.in-Some.is c.self.invariant
    (device_spelled s.names c.args.id.0 (option_map (with_carrier c.args.on) (name_at s.names c.args.id.0).device)) c.set_carrier.ensures.known c.set_carrier.ensures.uses in
    record { sound = told.whole.names; ids = told.within; before = (s, told.differing) }

pub invariant_of-self-2 : goal.invariant_of-self-2
invariant_of-self-2 g c =
    let s : Known = c.in-Some.names in
    let told = told_after c.self.inside s c.set_carrier.new.self (with_device s.names c.args.id.0 (option_map (with_carrier c.args.on) (name_at s.names c.args.id.0).device)) c.set_carrier.new.uses c.in-Some.is c.self.invariant
    (device_spelled s.names c.args.id.0 (option_map (with_carrier c.args.on) (name_at s.names c.args.id.0).device)) c.set_carrier.ensures.known c.set_carrier.ensures.uses in
    record {
      whole = whole_some c.set_carrier.new.self told.whole;
      used = c.judge_uses.ensures.size;
      looked = c.judge_uses.ensures.used;
      room =
          omega (arith, told.differing.size, c.self.invariant.used, c.self.invariant.room, c.set_carrier.ensures.uses.stay.room, ap (λ (m : Marking). m.room) c.judge_uses.ensures.uses);
      none =
          ap (λ (m : Marking). m.ids) c.judge_uses.ensures.uses;
      wishes = c.judge_uses.ensures.wishes;
    }

pub returns-clause-state : goal.returns-clause-state
returns-clause-state g c =
    after_event c.self.inside.names c.in-Some.names (held_of c.self.inside.objects) c.self.inside.loads c.args.self.now c.in-Some.is c.self.view_is c.set_carrier.new.self (held_of c.judge_uses.new.objects)
    (λ (ns : List Named). with_device ns c.args.id.0 (option_map (with_carrier c.args.on) (name_at ns c.args.id.0).device)) c.set_carrier.ensures.known (same_held c.self.inside.objects c.judge_uses.new.objects c.judge_uses.ensures.held)

pub returns-clause-cost : goal.returns-clause-cost
returns-clause-cost g c =
    omega (arith, c.set_carrier.ensures.cost, cost_before c.self.inside.names c.in-Some.names (held_of c.self.inside.objects) c.self.inside.loads c.args.self.now c.in-Some.is c.self.view_is c.set_carrier.new.self)

pub returns-in_default-clause-state : goal.returns-in_default-clause-state
returns-in_default-clause-state g c = absurd (no_id c.self.inside.names (held_of c.self.inside.objects) c.self.inside.loads c.args.self.now c.args.id.0 c.in_default.is c.self.view_is c.requires)

pub returns-in_default-clause-cost : goal.returns-in_default-clause-cost
returns-in_default-clause-cost g c = absurd (no_id c.self.inside.names (held_of c.self.inside.objects) c.self.inside.loads c.args.self.now c.args.id.0 c.in_default.is c.self.view_is c.requires)
