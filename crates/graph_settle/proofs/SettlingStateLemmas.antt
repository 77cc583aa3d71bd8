-- What is held and wanted, and the calls between, in parts.
use Rattle.std.proofs.Common.{ℕ, ◌≡◌, ◌+◌, List, filter, Bool, true, sym, ap, subst, ◌∙◌}
use Rattle.std.specs.Prelude.{slice_get}
use Rattle.std.specs.List.{find}
use Rattle.std.specs.Option.{option_or}
use Rattle.kern_model.specs.declared.object.Object.{Object}
use Rattle.kern_model.specs.ObjectOrder.{Objects, Has}
use Rattle.kern_model.specs.Kernel.{name_of}
use Rattle.kern_model.specs.Touched.{loses_link}
use Rattle.kern_model.proofs.MemberLemmas.{member_of_map}
use Rattle.kern_model.proofs.SetLemmas.{member_of_set}
use Rattle.kern_calls.specs.Calls.{calls}
use Rattle.kern_calls.specs.Lower.{is_lower, lower_part}
use Rattle.kern_calls.specs.Due.{due_count}
use Rattle.kern_calls.specs.Upper.{is_upper, upper_part, is_upper_take, is_upper_put}
use Rattle.kern_calls.proofs.PartLemmas.{first_in_parts}
use Rattle.kern_calls.proofs.UpperLemmas.{loses_link_in_parts}
use Rattle.kern_calls.proofs.FollowLemmas.{joined_parts}
use Rattle.kern_calls.proofs.CountLemmas.{due_in_parts}
use Rattle.graph_rules.specs.State.{Known}
use Rattle.graph_rules.specs.Wanted.{want_in}
use Rattle.graph_rules.specs.Calls.{calls_in, loses_link_in, due_in}
use Rattle.graph_wishes.specs.Wishes.{May, mays, is_used_may, used_mays}
use Rattle.graph_wishes.proofs.WishLemmas.{wants_used_mays}
use Rattle.dev_graph.proofs.DecideLemmas.{filter_member, may_lower}
use Rattle.given_objects.specs.declared.gift.Gift.{Gift}
use Rattle.given_objects.specs.Gifts as gift
use Rattle.given_objects.specs.Gifts.{Gifts, is_given, objects_by, AreGifts}
use Rattle.given_objects.specs.First.{KnowLostLinks}
use Rattle.given_objects.proofs.ChangeLemmas.{has_gift}
use Rattle.graph_settle.specs.SettlingState.{SettlingState, held_of, wanted_of, devices_of, calls_of, IsReady}

-- what a graph wants is neither an address nor a route
pub want_lower : (s : Known) (o : Object) → Has (want_in s) o → is_lower o ≡ true
want_lower s o h =
    let listed = member_of_set (used_mays s (mays s)) o (subst (λ (w : Objects). Has w o) (wants_used_mays s) h) in
    let from = member_of_map (λ (m : May). m.object) (filter (is_used_may s) (mays s)) o listed in
    subst (λ x. is_lower x ≡ true) from.same (may_lower s from.source (filter_member (is_used_may s) (mays s) from.source from.member))

-- the objects of gifts are addresses and routes
pub gift_upper : (gs : Gifts) → AreGifts gs → (test : Gift → Bool) (o : Object) → Has (objects_by test gs) o → is_upper o ≡ true
gift_upper gs are test o h = let from = has_gift test gs o h in subst (λ x. is_upper x ≡ true) from.is (are.upper from.gift from.member)

module _ (c : SettlingState) (are : AreGifts c.gifts) (lower : (o : Object) → Has c.graph.held o → is_lower o ≡ true) where
  pub held_parts : (lower_part (held_of c) ≡ c.graph.held) × (upper_part (held_of c) ≡ gift.held_of c.gifts)
  held_parts = joined_parts c.graph.held (gift.held_of c.gifts) lower (gift_upper c.gifts are (λ (g : Gift). g.held))

  pub wanted_parts : (lower_part (wanted_of c) ≡ want_in c.graph.known) × (upper_part (wanted_of c) ≡ gift.given_of c.gifts)
  wanted_parts = joined_parts (want_in c.graph.known) (gift.given_of c.gifts) (want_lower c.graph.known) (gift_upper c.gifts are is_given)

  -- the graph tells what loses its link
  pub loses_link_below : (name : List ℕ) → loses_link_in c.graph name ≡ loses_link (held_of c) (wanted_of c) name
  loses_link_below name =
      let same : loses_link (lower_part (held_of c)) (lower_part (wanted_of c)) name ≡ loses_link_in c.graph name = λ i. loses_link (held_parts.0 i) (wanted_parts.0 i) name in
      sym same ∙ loses_link_in_parts (held_of c) (wanted_of c) name

  -- and its calls are those between the lower parts
  pub calls_below : calls (devices_of c) (lower_part (held_of c)) (lower_part (wanted_of c)) ≡ calls_in c.graph
  calls_below = λ i. calls (devices_of c) (held_parts.0 i) (wanted_parts.0 i)

  pub first_is : slice_get (calls_of c) 0 ≡ option_or (find is_upper_take (calls_of c)) (option_or (slice_get (calls_in c.graph) 0) (find is_upper_put (calls_of c)))
  first_is =
      first_in_parts (devices_of c) (held_of c) (wanted_of c)
      ∙ ap (λ xs. option_or (find is_upper_take (calls_of c)) (option_or (slice_get xs 0) (find is_upper_put (calls_of c)))) calls_below

  pub due_is : due_in c.graph + due_count (gift.held_of c.gifts) (gift.given_of c.gifts) ≡ due_count (held_of c) (wanted_of c)
  due_is =
      let same : due_count (lower_part (held_of c)) (lower_part (wanted_of c)) + due_count (upper_part (held_of c)) (upper_part (wanted_of c)) ≡ due_in c.graph + due_count (gift.held_of c.gifts) (gift.given_of c.gifts) =
      λ i. due_count (held_parts.0 i) (wanted_parts.0 i) + due_count (held_parts.1 i) (wanted_parts.1 i) in
      sym (due_in_parts (held_of c) (wanted_of c) ∙ same)

module _ (c : SettlingState) (are : AreGifts c.gifts) (ready : IsReady c) where
  pub know : KnowLostLinks (held_of c) (wanted_of c) c.gifts
  know g member held given = ready.loses_link g member held given ∙ loses_link_below c are ready.lower (name_of g.object)
