-- what the names of a graph may want can stand beside each other
use Rattle.std.proofs.Common.{ℕ, ◌≡◌, true, List, [], ◌∷◌, map, refl, sym, ap, subst, ◌∙◌}
use Rattle.kern_model.specs.declared.object.Object.{Object}
use Rattle.kern_model.specs.ObjectOrder.{set_of}
use Rattle.kern_model.proofs.MemberLemmas.{member_of_map}
use Rattle.kern_calls.specs.Lower.{is_lower}
use Rattle.graph_objects.specs.declared.slot.Wish.{Wish}
use Rattle.graph_objects.specs.Keys.{key_of}
use Rattle.graph_objects.specs.Steady.{IsGrounded}
use Rattle.graph_rules.specs.State.{Known}
use Rattle.graph_wishes.specs.Wishes.{May, mays}
use Rattle.graph_wishes.proofs.MayLemmas.{mays_apart, mays_grounded}
use Rattle.graph_tables.specs.Wished.{wish_at, wishes_at}
use Rattle.graph_tables.specs.Lists.{AreApart}
use Rattle.graph_tables.specs.Whole.{IsWhole}
use Rattle.graph_tables.proofs.DecideLemmas.{may_lower}

objects_listed : (names : List (List ℕ)) (ms : List May) → map (λ (w : Wish). w.object) (wishes_at names ms) ≡ map (λ (m : May). m.object) ms
objects_listed names [] = refl
objects_listed names (m ∷ ms) = ap (λ (os : List Object). m.object ∷ os) (objects_listed names ms)

pub mays_stand : (s : Known) (names : List (List ℕ)) → IsWhole s → AreApart (wishes_at names (mays s))
mays_stand s names whole = record {
  lower = λ w h. let from = member_of_map (wish_at names) (mays s) w h in subst (λ (v : Wish). is_lower v.object ≡ true) from.same (may_lower s from.source from.member);
  one = λ v w a b key.
      let x = member_of_map (wish_at names) (mays s) v a in
      let y = member_of_map (wish_at names) (mays s) w b in
      let keys : key_of x.source.object ≡ key_of y.source.object = ap (λ (u : Wish). key_of u.object) x.same ∙ key ∙ sym (ap (λ (u : Wish). key_of u.object) y.same) in
      sym x.same ∙ ap (wish_at names) (mays_apart s whole.names whole.vlans x.source y.source x.member y.member keys) ∙ y.same;
  grounded = subst (λ os. IsGrounded (set_of os)) (sym (objects_listed names (mays s))) (mays_grounded s whole.names);
}
