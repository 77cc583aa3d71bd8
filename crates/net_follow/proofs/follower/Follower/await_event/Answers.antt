use Rattle.std.proofs.Common.{ℕ, ◌≡◌, List, Some, refl, sym, subst}
use Rattle.net_rules.specs.declared.inputs.Inputs.{Inputs}
use Rattle.graph_rules.specs.State.{place_among}
use Rattle.net_follow.specs.declared.follower.Follower.{Follower}
use Rattle.net_follow.specs.InStep.{IsInStep}
use Rattle.net_follow.specs.Awaiting.{IsPlaced}
use Rattle.net_follow.proofs.RoomLemmas.{step_reached, step_grown}
use Rattle.net_follow.proofs.follower.Follower.await_event.Goals as goal

pub returns-in_default-clause-err : goal.returns-in_default-clause-err
returns-in_default-clause-err c =
    let old : Follower = c.args.self.now in
    let now : Follower = record old { settling = record old.settling { graph = c.id_of.new.graph } } in
    step_grown old c.name_of.result.now c.requires.step c.is_kept.ensures now refl refl c.id_of.ensures.grown refl refl refl

pub returns-in_default-make_room-clause-err : goal.returns-in_default-make_room-clause-err
returns-in_default-make_room-clause-err c =
    let old : Follower = c.args.self.now in
    let before : Follower = record old { states = record old.states { reach = c.make_room.new.reach } } in
    let reached : IsInStep before = step_reached old c.make_room.new.reach c.in_default-make_room.ensures.err c.requires.step in
    let now : Follower = record before { inputs = c.make_room.new.inputs; settling = record old.settling { graph = c.id_of.new.graph } } in
    step_grown before c.name_of.result.now reached c.is_kept.ensures now c.make_room.ensures.inputs refl c.id_of.ensures.grown refl refl refl

pub returns-clause-ok : goal.returns-clause-ok
returns-clause-ok c =
    let old : Follower = c.args.self.now in
    let then : Follower = record old { inputs = c.make_room.new.inputs; settling = record old.settling { graph = c.id_of.new.graph } } in
    record {
      before = old.states.reach;
      step = step_grown old c.name_of.result.now c.requires.step c.is_kept.ensures then c.make_room.ensures.inputs refl c.id_of.ensures.grown refl refl refl;
      placed = subst (λ (x : Inputs). IsPlaced x c.args.event.now c.make_room.new.reach) (sym c.make_room.ensures.inputs) c.in-Ok-make_room.ensures.placed;
      known = subst (λ (name : List ℕ). place_among c.id_of.new.graph.known.names name ≡ Some c.in-Ok.id.0) c.name_of.ensures c.in-Ok.ensures.known;
      room = c.in-Ok-make_room.ensures.room;
    }
