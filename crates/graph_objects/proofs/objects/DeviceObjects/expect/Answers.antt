use Rattle.std.proofs.Common.{arith, ◌≡◌, OnOk, OnErr, ap, sym, subst, ◌∙◌}
use Rattle.graph_objects.specs.Slots.{wishes}
use Rattle.graph_objects.specs.Marks.{Marks}
use Rattle.graph_objects.specs.Grown.{CanExpect, HasMore}
use Rattle.graph_objects.proofs.objects.DeviceObjects.expect.Goals as goal

pub expect-requires-clause-fits : goal.expect-requires-clause-fits
expect-requires-clause-fits c = subst (λ (m : Marks). CanExpect m.wishes c.args.wish) (sym c.self.view_is) c.requires

pub returns-clause-held : goal.returns-clause-held
returns-clause-held c = c.expect.ensures.held ∙ ap (λ (m : Marks). m.held) c.self.view_is

pub returns-clause-ok : goal.returns-clause-ok
returns-clause-ok c = subst (λ (m : Marks). OnOk c.expect.result (HasMore m.wishes (wishes c.expect.new.slots.entries) c.args.wish)) c.self.view_is c.expect.ensures.ok

pub returns-clause-err : goal.returns-clause-err
returns-clause-err c = subst (λ (m : Marks). OnErr c.expect.result (wishes c.expect.new.slots.entries ≡ m.wishes)) c.self.view_is c.expect.ensures.err

pub invariant_of-self-2 : goal.invariant_of-self-2
invariant_of-self-2 c = record {
  slots = c.expect.ensures.slots;
  marked = c.expect.ensures.marked;
  listed = c.expect.ensures.listed;
  order =
      record { takes = λ kept. absurd (cc (kept, c.in_ok-make_room.ensures.kept)); puts = λ kept. absurd (cc (kept, c.in_ok-make_room.ensures.kept)) };
  room =
      record {
        few = omega (arith, c.in_ok-make_room.ensures.ok.few, c.expect.ensures.few, c.len.ensures.len);
        takes = omega (arith, c.in_ok-make_room.ensures.ok.takes, c.expect.ensures.few, c.len.ensures.len);
        puts =
            omega (arith, c.in_ok-make_room.ensures.ok.puts, c.expect.ensures.few, c.len.ensures.len);
      };
}

pub invariant_of-self : goal.invariant_of-self
invariant_of-self c = record {
  slots = c.self.invariant.slots;
  marked = c.self.invariant.marked;
  listed = c.self.invariant.listed;
  order = record { takes = λ kept. absurd (cc (kept, c.in_err-make_room.ensures.kept)); puts = λ kept. absurd (cc (kept, c.in_err-make_room.ensures.kept)) };
  room = record {
    few = c.self.invariant.room.few;
    takes = omega (arith, c.self.invariant.room.takes, c.in_err-make_room.ensures.takes);
    puts = omega (arith, c.self.invariant.room.puts, c.in_err-make_room.ensures.puts);
  };
}
