-- what a table of a graph's wishes wants is what the graph wants
use Rattle.std.proofs.Common.{◌≡◌, Bool, true, false, cond, List, map, filter, Contains, Some, None, refl, sym, ap, subst, ◌∙◌}
use Rattle.std.specs.List.{filter_map}
use Rattle.kern_model.specs.declared.object.Object.{Object}
use Rattle.kern_model.specs.ObjectOrder.{Has, set_of}
use Rattle.kern_model.proofs.MemberLemmas.{member_of_map, map_member}
use Rattle.kern_model.proofs.SetLemmas.{set_of_member, member_of_set, same_members}
use Rattle.kern_model.proofs.TestLemmas.{in_filter_map, from_filter_map}
use Rattle.kern_calls.proofs.FilterLemmas.{from_filter, in_filter}
use Rattle.graph_objects.specs.declared.slot.Wish.{Wish}
use Rattle.graph_objects.specs.Slots.{wished}
use Rattle.graph_objects.specs.Marks.{Marks, wanted_of}
use Rattle.graph_rules.specs.State.{Known}
use Rattle.graph_rules.specs.Wanted.{want_in}
use Rattle.graph_tables.specs.Wishes.{May, mays, is_used_may, used_mays}
use Rattle.graph_tables.proofs.WishLemmas.{wants_used_mays}
use Rattle.graph_tables.specs.Wished.{wish_in}
use Rattle.graph_tables.specs.Lists.{HaveSame}
use Rattle.graph_tables.proofs.DecideLemmas.{filter_member}

-- a wish that is wanted is of a used name
record IsUsed (s : Known) (m : May) (x : Object) : Type 0 where
  used : is_used_may s m ≡ true
  object : m.object ≡ x

used_by : (s : Known) (m : May) (x : Object) (b : Bool) → is_used_may s m ≡ b → cond b (Some m.object) None ≡ Some x → IsUsed s m x
used_by s m x true is gives = record { used = is; object = cc gives }
used_by s m x false is gives = cc gives

module _ (s : Known) (ws : List Wish) (same : HaveSame ws (map (wish_in s) (mays s))) where
  wanted_used : (x : Object) → Has (set_of (filter_map wished ws)) x → Has (want_in s) x
  wanted_used x has =
      let from = from_filter_map wished ws x (member_of_set (filter_map wished ws) x has) in
      let may = member_of_map (wish_in s) (mays s) from.source ((same from.source).0 from.member) in
      let m = may.source in
      let is = used_by s m x (is_used_may s m) refl (ap wished may.same ∙ from.gives) in
      let kept : Contains (filter (is_used_may s) (mays s)) m = in_filter (is_used_may s) (mays s) m may.member is.used in
      let there : Contains (used_mays s (mays s)) x = subst (Contains (used_mays s (mays s))) is.object (map_member (λ (n : May). n.object) (filter (is_used_may s) (mays s)) m kept) in
      subst (λ set. Has set x) (sym (wants_used_mays s)) (set_of_member (used_mays s (mays s)) x there)

  used_wanted : (x : Object) → Has (want_in s) x → Has (set_of (filter_map wished ws)) x
  used_wanted x has =
      let listed = member_of_set (used_mays s (mays s)) x (subst (λ set. Has set x) (wants_used_mays s) has) in
      let from = member_of_map (λ (n : May). n.object) (filter (is_used_may s) (mays s)) x listed in
      let m = from.source in
      let used = from_filter (is_used_may s) (mays s) m from.member in
      let member = filter_member (is_used_may s) (mays s) m from.member in
      let there : Contains ws (wish_in s m) = (same (wish_in s m)).1 (map_member (wish_in s) (mays s) m member) in
      let gives : wished (wish_in s m) ≡ Some x = ap (λ b. cond b (Some m.object) None) used ∙ ap Some from.same in
      set_of_member (filter_map wished ws) x (in_filter_map wished ws (wish_in s m) x there gives)

  pub wanted_listed : set_of (filter_map wished ws) ≡ want_in s
  wanted_listed = same_members (set_of (filter_map wished ws)) (want_in s) wanted_used used_wanted

pub wanted_is : (s : Known) (m : Marks) → HaveSame m.wishes (map (wish_in s) (mays s)) → wanted_of m ≡ want_in s
wanted_is s m same = wanted_listed s m.wishes same
