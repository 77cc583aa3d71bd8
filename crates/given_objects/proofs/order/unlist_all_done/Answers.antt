use Rattle.std.proofs.Common.{arith, ◌≡◌, ◌+◌, ◌-◌, ℕ, subst, refl, ◌∙◌}
use Rattle.given_objects.specs.Inside.{listed}
use Rattle.given_objects.specs.Places.{ComeFrom}
use Rattle.given_objects.proofs.PlacesLemmas.{come_from_end}
use Rattle.given_objects.proofs.order.unlist_all_done.Goals as goal

pub loop-left-init : goal.loop-left-init
loop-left-init c = record {
  places = c.requires;
  within = omega (arith, c.len-left.ensures);
  done = come_from_end (listed c.args.table.now.entries) c.args.places.now.list.items c.len-left.result (omega (arith, c.len-left.ensures));
  list_capacity = refl;
  flags_capacity = refl;
}

pub loop-left-preserved : goal.loop-left-preserved
loop-left-preserved c =
    let left = c.loop-left.left in
    let next : left ≡ (left - 1) + 1 = omega (arith, c.loop-left-test.true) in
    record {
      places = c.unlist_done.ensures.places;
      within = omega (arith, c.unlist_done.ensures.size, c.loop-left.invariant.within, c.loop-left-test.true);
      done = c.unlist_done.ensures.done (subst (λ (n : ℕ). ComeFrom (listed c.args.table.now.entries) c.loop-left.places.list.items n) next c.loop-left.invariant.done);
      list_capacity = c.unlist_done.ensures.list_capacity ∙ c.loop-left.invariant.list_capacity;
      flags_capacity = c.unlist_done.ensures.flags_capacity ∙ c.loop-left.invariant.flags_capacity;
    }

pub returns-clause-done : goal.returns-clause-done
returns-clause-done c =
    let none : c.loop-left.left ≡ 0 = omega (arith, c.loop-left-test.false) in
    subst (λ (n : ℕ). ComeFrom (listed c.args.table.now.entries) c.loop-left.places.list.items n) none c.loop-left.invariant.done
