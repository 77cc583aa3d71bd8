use Rattle.std.proofs.Common.{arith, ◌≡◌, length}
use Rattle.use_counts.proofs.FlagLemmas.{none_set}
use Rattle.use_counts.proofs.uses.MarkedIds.clear.Goals as goal

pub invariant_of-self : goal.invariant_of-self
invariant_of-self c =
    let inv = c.loop-id.invariant in
    let none : length c.loop-id.self-inside.ids.items ≡ 0 = omega (arith, c.in_default.ensures.cases.0, c.loop-id.self-inside.ids.ok.0) in
    let left : length c.pop.new.self.items ≡ 0 = omega (arith, c.in_default.ensures.cases.1, c.pop.new.self.ok.0) in
    record {
      flagged = λ k h. absurd (omega (arith, (inv.flagged k h).1, none));
      within = λ k d h. absurd (omega (arith, h, left));
      few = omega (arith, left, none_set c.loop-id.self-inside.flags.items (λ k h. omega (arith, (inv.flagged k h).1, none)));
      room = omega (arith, inv.room, c.in_default.ensures.capacity);
    }
