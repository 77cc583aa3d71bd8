-- Gifts that are held and tell that no name loses its link.
use Rattle.std.proofs.Common.{◌≡◌, ◌+◌, ◌-◌, inl, inr, Bool, true, false, refl, ap, sym, subst, ◌∙◌}
use Rattle.std.specs.Prelude.{if◌then◌else◌}
use Rattle.kern_model.specs.declared.object.Object.{Object}
use Rattle.kern_model.proofs.MemberLemmas.{member_of_map}
use Rattle.graph_rules.specs.State.{State}
use Rattle.given_objects.specs.declared.gift.Gift.{Gift}
use Rattle.given_objects.specs.Gifts.{Gifts}
use Rattle.given_objects.specs.Changes.{changed, given_once_more, given_once_less}
use Rattle.given_objects.proofs.ChangeLemmas.{was_gift}
use Rattle.graph_settle.specs.Leaving.{is_left, left_gift, left_gifts}
use Rattle.settling_laws.specs.Beside.{AreQuiet}

-- a change of how often something is given leaves what is held and what loses its link
module _ (change : Gift → Gift) (held : (g : Gift) → (change g).held ≡ g.held) (loses_link : (g : Gift) → (change g).loses_link ≡ g.loses_link) where
  quiet_changed : (gs : Gifts) (o : Object) → AreQuiet gs → AreQuiet (changed change gs o)
  quiet_changed gs o quiet g member has =
      let past = was_gift change gs o g member in
      elim past.by as (λ _. g.loses_link ≡ false) [
        | inl made ↦ sym (ap (λ (x : Gift). x.loses_link) made.1) ∙ loses_link past.was ∙ quiet past.was past.member (sym (held past.was) ∙ ap (λ (x : Gift). x.held) made.1 ∙ has)
        | inr left ↦ subst (λ (x : Gift). x.loses_link ≡ false) left.1 (quiet past.was past.member (ap (λ (x : Gift). x.held) left.1 ∙ has))
      ]

pub quiet_more : (gs : Gifts) (o : Object) → AreQuiet gs → AreQuiet (given_once_more gs o)
quiet_more gs o quiet = quiet_changed (λ g. record g { givers = g.givers + 1 }) (λ g. refl) (λ g. refl) gs o quiet

pub quiet_less : (gs : Gifts) (o : Object) → AreQuiet gs → AreQuiet (given_once_less gs o)
quiet_less gs o quiet = quiet_changed (λ g. record g { givers = g.givers - 1 }) (λ g. refl) (λ g. refl) gs o quiet

-- so does a device that leaves
left_by : (s : State) (g : Gift) (b : Bool) → is_left s g ≡ b → g.loses_link ≡ false → (left_gift s g).loses_link ≡ false
left_by s g true is off = ap (λ b. (if b then record g { held = false; loses_link = false } else g).loses_link) is
left_by s g false is off = ap (λ b. (if b then record g { held = false; loses_link = false } else g).loses_link) is ∙ off

left_held : (s : State) (g : Gift) (b : Bool) → is_left s g ≡ b → (left_gift s g).held ≡ true → g.held ≡ true
left_held s g true is has = let gone = ap (λ b. (if b then record g { held = false; loses_link = false } else g).held) is in cc (gone, has)
left_held s g false is has = sym (ap (λ b. (if b then record g { held = false; loses_link = false } else g).held) is) ∙ has

pub quiet_left : (s : State) (gs : Gifts) → AreQuiet gs → AreQuiet (left_gifts s gs)
quiet_left s gs quiet g member has =
    let from = member_of_map (left_gift s) gs g member in
    let had : from.source.held ≡ true = left_held s from.source (is_left s from.source) refl (ap (λ (x : Gift). x.held) from.same ∙ has) in
    subst (λ (x : Gift). x.loses_link ≡ false) from.same (left_by s from.source (is_left s from.source) refl (quiet from.source from.member had))
