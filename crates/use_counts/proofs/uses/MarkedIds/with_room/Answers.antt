use Rattle.std.proofs.Common.{arith, ◌≡◌, ◌<◌, ℕ, List, Bool, All, [], false, length, replicate, subst, sym, ap, ◌∙◌}
use Rattle.std.proofs.lemmas.List.{length-replicate}
use Rattle.std.proofs.lemmas.List.Elements.{All-nil}
use Rattle.use_counts.specs.UsesInside.{flag_at, flags_set}
use Rattle.use_counts.proofs.FlagLemmas.{all_new, none_new, none_set}
use Rattle.use_counts.proofs.uses.MarkedIds.with_room.Goals as goal

pub invariant_of-result : goal.invariant_of-result
invariant_of-result c =
    let flags : c.resize.new.self.items ≡ replicate c.args.room false = all_new c.args.room _ c.new-flags.result.items c.resize.new.self.items c.new-flags.ensures.items c.new-flags.ensures.len c.in_ok-resize.ensures.items in
    let none : c.in_ok-ids.ids.items ≡ [] = c.in_ok-ids.ensures.items in
    let size = ap length flags ∙ length-replicate c.args.room false in
    record {
      flagged = λ k h. absurd (none_new c.args.room k (sym (ap (λ (fs : List Bool). flag_at fs k) flags) ∙ h));
      within = subst (λ (ks : List ℕ). All (λ id. id < length c.resize.new.self.items) ks) (sym none) (All-nil (λ id. id < length c.resize.new.self.items));
      few = ap length none ∙ sym (ap flags_set flags ∙ none_set (replicate c.args.room false) (none_new c.args.room));
      room = omega (arith, size, c.in_ok-ids.ensures.capacity);
    }
