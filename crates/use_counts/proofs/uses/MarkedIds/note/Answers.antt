use Rattle.std.proofs.Common.{arith, ◌<◌, ◌≡◌, ℕ, All, Contains, List, true, false, inl, inr, ⊎_elim, length, length-set, slice_set, subst, sym, ap, ◌∙◌}
use Rattle.std.proofs.lemmas.Bool.{false≢true}
use Rattle.std.proofs.lemmas.List.{get_or_read}
use Rattle.std.proofs.lemmas.List.Elements.{All-push, Contains-push_cases}
use Rattle.use_counts.specs.Uses.{Marking}
use Rattle.use_counts.specs.UsesInside.{flag_at}
use Rattle.use_counts.proofs.FlagLemmas.{flagged_more, set_fewer, set_more}
use Rattle.use_counts.proofs.uses.MarkedIds.note.Goals as goal
use Rattle.use_counts.proofs.uses.MarkedIds.note.Goals.{else-holds-via-then-holds+else-not-index, else-holds-via-else-holds}

pub push_reserved-requires : goal.push_reserved-requires
push_reserved-requires c =
    let flags = c.self.inside.flags.items in
    let id = c.args.id in
    let within : id < length flags = omega (arith, c.requires, ap (λ (m : Marking). m.room) c.self.view_is) in
    let off : flag_at flags id ≡ false = sym (get_or_read flags id c.index.result.now within c.index.ensures false) ∙ c.if-not-index.true in
    omega (arith, set_fewer flags id within off, c.self.invariant.few, c.self.invariant.room, c.self.inside.ids.ok.0)

pub invariant_of-self : goal.invariant_of-self
invariant_of-self c =
    let flags = c.self.inside.flags.items in
    let ids = c.self.inside.ids.items in
    let id = c.args.id in
    let within : id < length flags = omega (arith, c.requires, ap (λ (m : Marking). m.room) c.self.view_is) in
    let off : flag_at flags id ≡ false = sym (get_or_read flags id c.index.result.now within c.index.ensures false) ∙ c.if-not-index.true in
    let size = length-set flags id true in
    let items = sym c.push_reserved.ensures.items in
    record {
      flagged = subst (λ (ks : List ℕ). (k : ℕ) → flag_at (slice_set flags id true) k ≡ true → Contains ks k) items (flagged_more flags ids id c.self.invariant.flagged);
      within = subst (λ (ks : List ℕ). All (λ k. k < length (slice_set flags id true)) ks) items
          (All-push (λ k. k < length (slice_set flags id true)) ids id (subst (λ (n : ℕ). All (λ k. k < n) ids) (sym size) c.self.invariant.within) (omega (arith, size, within)));
      few = omega (arith, c.push_reserved.ensures.len, c.push_reserved.new.self.ok.0, c.self.inside.ids.ok.0, c.self.invariant.few, set_more flags id within off);
      room = omega (arith, size, c.self.invariant.room, c.push_reserved.ensures.capacity);
    }

pub returns-then-not-index-clause-only : goal.returns-then-not-index-clause-only
returns-then-not-index-clause-only c k h =
    let ids = c.self.inside.ids.items in
    let id = c.args.id in
    ⊎_elim
    (λ was. inl (subst (λ (m : Marking). Contains m.ids k) c.self.view_is was))
    (λ (is : id ≡ k). inr (sym is))
    (Contains-push_cases ids id k (subst (λ (ks : List ℕ). Contains ks k) c.push_reserved.ensures.items h))

pub returns-else-holds-clause-here : goal.returns-else-holds-clause-here
returns-else-holds-clause-here c holds =
    let flags = c.self.inside.flags.items in
    let id = c.args.id in
    let within : id < length flags = omega (arith, c.requires, ap (λ (m : Marking). m.room) c.self.view_is) in
    elim c.else-holds.branch [
      | else-holds-via-then-holds+else-not-index w ↦
          let on : flag_at flags id ≡ true = sym (get_or_read flags id w.index.result.now within w.index.ensures false) ∙ w.if-not-index.false in
          subst (λ (m : Marking). Contains m.ids id) c.self.view_is (c.self.invariant.flagged id on)
      | else-holds-via-else-holds w ↦ absurd (false≢true (sym w.if-holds.false ∙ holds))
    ]
