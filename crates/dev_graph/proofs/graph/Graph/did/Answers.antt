use Rattle.std.proofs.Common.{◌≡◌, true, sym, subst, map}
use Rattle.kern_model.specs.declared.object.Object.{Object}
use Rattle.kern_model.specs.ObjectOrder.{Objects, Has}
use Rattle.kern_model.specs.Touched.{is_taken}
use Rattle.graph_objects.specs.Marks.{held_of}
use Rattle.graph_rules.specs.State.{State}
use Rattle.graph_rules.specs.Conditions.{IsNext}
use Rattle.graph_tables.specs.Wishes.{mays}
use Rattle.graph_tables.specs.Wished.{wish_in}
use Rattle.graph_tables.specs.Lists.{HaveSame}
use Rattle.dev_graph.specs.Inside.{known_in, state_of}
use Rattle.dev_graph.proofs.WantLemmas.{wanted_is}
use Rattle.dev_graph.proofs.TakeLemmas.{next_take_held, next_put_wanted, next_put_last}
use Rattle.dev_graph.proofs.graph.Graph.did.Goals as goal

pub take-requires : goal.take-requires
take-requires c =
    let s : State = state_of c.self.inside in
    let next : IsNext s c.args.call.now = subst (λ (t : State). IsNext t c.args.call.now) (sym c.self.view_is) c.requires in
    next_take_held s c.in-Take.object _ _ (subst (IsNext s) c.in-Take.is next)

pub put-requires-clause-wanted : goal.put-requires-clause-wanted
put-requires-clause-wanted c =
    let s : State = state_of c.self.inside in
    let next : IsNext s c.args.call.now = subst (λ (t : State). IsNext t c.args.call.now) (sym c.self.view_is) c.requires in
    subst (λ (w : Objects). Has w c.in-Put.object) (sym (wanted_is (known_in c.self.inside.names) c.self.inside.objects c.self.invariant.wishes))
    (next_put_wanted s c.in-Put.object (subst (IsNext s) c.in-Put.is next))

pub put-requires-clause-taken : goal.put-requires-clause-taken
put-requires-clause-taken c =
    let s : State = state_of c.self.inside in
    let next : IsNext s c.args.call.now = subst (λ (t : State). IsNext t c.args.call.now) (sym c.self.view_is) c.requires in
    subst (λ (w : Objects). (o : Object) → is_taken (held_of c.self.inside.objects) w o ≡ true → ⊥) (sym (wanted_is (known_in c.self.inside.names) c.self.inside.objects c.self.invariant.wishes))
    (next_put_last s c.in-Put.object (subst (IsNext s) c.in-Put.is next))

pub invariant_of-self : goal.invariant_of-self
invariant_of-self c =
    let s = known_in c.self.inside.names in
    record {
      whole = c.self.invariant.whole;
      used = c.self.invariant.used;
      looked = c.self.invariant.looked;
      room = c.self.invariant.room;
      none = c.self.invariant.none;
      wishes =
          subst (λ ws. HaveSame ws (map (wish_in s) (mays s))) (sym c.take.ensures.wishes) c.self.invariant.wishes;
    }

pub invariant_of-self-in-Put : goal.invariant_of-self-in-Put
invariant_of-self-in-Put c =
    let s = known_in c.self.inside.names in
    record {
      whole = c.self.invariant.whole;
      used = c.self.invariant.used;
      looked = c.self.invariant.looked;
      room = c.self.invariant.room;
      none = c.self.invariant.none;
      wishes =
          subst (λ ws. HaveSame ws (map (wish_in s) (mays s))) (sym c.put.ensures.wishes) c.self.invariant.wishes;
    }
