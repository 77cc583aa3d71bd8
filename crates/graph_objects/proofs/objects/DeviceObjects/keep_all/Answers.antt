use Rattle.std.proofs.Common.{arith, ◌≡◌, OnOk, ap, subst, ◌∙◌}
use Rattle.std.specs.FinSet as set
use Rattle.graph_objects.specs.declared.slot.Side.TheVariants.{Held}
use Rattle.graph_objects.specs.Slots.{set_on}
use Rattle.graph_objects.specs.Marks.{Marks, held_of}
use Rattle.graph_objects.specs.Deciders.{deciders}
use Rattle.graph_objects.proofs.DeciderLemmas.{still_listed}
use Rattle.graph_objects.proofs.objects.DeviceObjects.keep_all.Goals as goal

pub keep_all-requires-clause-none : goal.keep_all-requires-clause-none
keep_all-requires-clause-none c = ap set.from_list (ap (λ (m : Marks). m.held) c.self.view_is ∙ c.requires)

pub returns-clause-ok : goal.returns-clause-ok
returns-clause-ok c = subst (λ (m : Marks). OnOk c.keep_all.result (set_on Held c.keep_all.new.slots.entries ≡ held_of m)) c.old.view_is c.keep_all.ensures.ok

pub returns-clause-wishes : goal.returns-clause-wishes
returns-clause-wishes c = c.keep_all.ensures.wishes ∙ ap (λ (m : Marks). m.wishes) c.self.view_is

pub invariant_of-self-2 : goal.invariant_of-self-2
invariant_of-self-2 c = record {
  slots = c.keep_all.ensures.slots;
  marked = c.keep_all.ensures.marked;
  listed = still_listed c.self.inside.by_id.items (deciders c.self.inside.slots.entries) (deciders c.keep_all.new.slots.entries) c.keep_all.ensures.stay c.self.invariant.listed;
  order = record { takes = λ kept. absurd (cc (kept, c.in_ok-make_room.ensures.kept)); puts = λ kept. absurd (cc (kept, c.in_ok-make_room.ensures.kept)) };
  room = record {
    few = omega (arith, c.in_ok-make_room.ensures.ok.few, c.keep_all.ensures.few, c.len.ensures.len, c.len-2.ensures.len);
    takes = omega (arith, c.in_ok-make_room.ensures.ok.takes, c.keep_all.ensures.few, c.len.ensures.len, c.len-2.ensures.len);
    puts = omega (arith, c.in_ok-make_room.ensures.ok.puts, c.keep_all.ensures.few, c.len.ensures.len, c.len-2.ensures.len);
  };
}

pub invariant_of-self : goal.invariant_of-self
invariant_of-self c = record {
  slots = c.self.invariant.slots;
  marked = c.self.invariant.marked;
  listed = c.self.invariant.listed;
  order = record { takes = λ kept. absurd (cc (kept, c.in_err-make_room.ensures.kept)); puts = λ kept. absurd (cc (kept, c.in_err-make_room.ensures.kept)) };
  room = record {
    few = c.self.invariant.room.few;
    takes = omega (arith, c.self.invariant.room.takes, c.in_err-make_room.ensures.takes);
    puts = omega (arith, c.self.invariant.room.puts, c.in_err-make_room.ensures.puts);
  };
}
