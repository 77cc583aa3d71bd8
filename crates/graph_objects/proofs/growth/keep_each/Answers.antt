use Rattle.std.proofs.Common.{arith, ◌≡◌, length, refl, ◌∙◌}
use Rattle.graph_objects.proofs.GrowLemmas.{holds_none, can_keep, holds_more, holds_all}
use Rattle.graph_objects.specs.Deciders.{deciders}
use Rattle.graph_objects.proofs.DeciderLemmas.{none_new, none_new_on}
use Rattle.graph_objects.proofs.growth.keep_each.Goals as goal

pub loop-index-init : goal.loop-index-init
loop-index-init c = record {
  slots = c.requires.slots;
  held = holds_none c.args.slots.now.entries c.args.old.now.entries c.requires.none;
  room = c.requires.room;
  stay = refl;
  few = omega arith;
  none = none_new (deciders c.args.slots.now.entries) (deciders c.args.slots.now.entries) refl;
}

pub keep_held-requires-clause-fits : goal.keep_held-requires-clause-fits
keep_held-requires-clause-fits c =
    can_keep c.args.old.now.entries c.requires.old c.len-index-end.ensures.unique c.loop-index.slots.entries c.loop-index.index c.loop-index.invariant.held c.index.result.now c.index.ensures

pub loop-index-preserved : goal.loop-index-preserved
loop-index-preserved c = record {
  slots = c.in_ok-keep_held.ensures.slots;
  held = holds_more c.args.old.now.entries c.requires.old c.len-index-end.ensures.unique c.loop-index.slots.entries c.loop-index.index c.loop-index.invariant.held c.index.result.now c.index.ensures c.keep_held.new.slots.entries
      c.in_ok-keep_held.ensures.ok;
  room = c.in_ok-keep_held.ensures.room;
  stay = c.in_ok-keep_held.ensures.wishes ∙ c.loop-index.invariant.stay;
  few = omega (arith, c.in_ok-keep_held.ensures.few, c.loop-index.invariant.few);
  none = none_new_on (deciders c.args.slots.now.entries) (deciders c.loop-index.slots.entries) (deciders c.keep_held.new.slots.entries) c.loop-index.invariant.none c.in_ok-keep_held.ensures.stay;
}

pub returns-clause-ok : goal.returns-clause-ok
returns-clause-ok c =
    let all : c.loop-index.index ≡ length c.args.old.now.entries = omega (arith, c.len-index-end.ensures.len) in
    holds_all c.loop-index.slots.entries c.args.old.now.entries c.loop-index.index all c.loop-index.invariant.held

pub returns-in_err-keep_held-clause-stay : goal.returns-in_err-keep_held-clause-stay
returns-in_err-keep_held-clause-stay c = none_new_on (deciders c.args.slots.now.entries) (deciders c.loop-index.slots.entries) (deciders c.keep_held.new.slots.entries) c.loop-index.invariant.none c.in_err-keep_held.ensures.stay

pub returns-in_err-keep_held-clause-few : goal.returns-in_err-keep_held-clause-few
returns-in_err-keep_held-clause-few c = omega (arith, c.in_err-keep_held.ensures.few, c.loop-index.invariant.few, c.len-index-end.ensures.len)

pub returns-clause-few : goal.returns-clause-few
returns-clause-few c = omega (arith, c.loop-index.invariant.few, c.len-index-end.ensures.len)
