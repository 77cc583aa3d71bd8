use Rattle.std.proofs.Common.{◌≡◌, ◌≤◌, ◌+◌, ◌*◌, length}
use Rattle.graph_objects.specs.Slots.{AreSlots, wishes}
use Rattle.graph_objects.specs.Deciders.{deciders, HasNoNewWish}
use Rattle.graph_objects.proofs.GrowLemmas.{HoldsFirst}
use Rattle.graph_objects.proofs.growth.keep_each.Given as goal

-- what the slots so far hold is held
abbrev pub invariant-loop-index : goal.invariant-loop-index
invariant-loop-index l = record {
  slots : AreSlots l.slots.entries;
  held : HoldsFirst l.slots.entries l.old.entries l.index;
  room : length l.slots.entries ≤ 64 * length l.marks;
  stay : wishes l.slots.entries ≡ wishes l.fn.slots.entries;
  few : length l.slots.entries ≤ length l.fn.slots.entries + l.index;
  none : HasNoNewWish (deciders l.fn.slots.entries) (deciders l.slots.entries);
}
