-- The first of the calls.
use Rattle.std.proofs.Common.{◌≡◌, Option, Some, None, IfSome, IfNone, refl, sym, ap, ◌∙◌}
use Rattle.std.specs.Prelude.{slice_get}
use Rattle.std.specs.List.{find}
use Rattle.std.specs.Option.{option_or, option_map}
use Rattle.kern_model.specs.declared.object.Object.{Object}
use Rattle.kern_model.specs.declared.object.Call.{Call}
use Rattle.kern_model.specs.declared.object.Call.TheVariants.{Put}
use Rattle.kern_calls.specs.Calls.{own_take}
use Rattle.kern_calls.specs.Upper.{is_upper_take, is_upper_put}
use Rattle.kern_calls.proofs.PartLemmas.{first_take_or_put}
use Rattle.graph_rules.specs.State.{State, devices_in}
use Rattle.graph_rules.specs.Wanted.{want_in}
use Rattle.graph_rules.specs.Calls.{calls_in, is_take, next_take_in, next_put_in}
use Rattle.given_objects.specs.Gifts.{AreGifts}
use Rattle.given_objects.specs.First.{is_take_due, is_put_due, plain_take, IsFirstGift, NoneDue}
use Rattle.given_objects.proofs.CallLemmas.{take_found, put_found}
use Rattle.graph_settle.specs.SettlingState.{SettlingState, held_of, wanted_of, devices_of, calls_of, IsReady}
use Rattle.graph_settle.proofs.SettlingStateLemmas.{held_parts, wanted_parts, first_is, know}

-- the first call of a graph
below_first : (s : State) → slice_get (calls_in s) 0 ≡ option_or (next_take_in s) (next_put_in s)
below_first s = first_take_or_put is_take (λ o mtu mac. refl) (λ o. refl) (devices_in s.known) s.held (want_in s.known)

pub below_take : (s : State) (call : Call) → Some call ≡ next_take_in s → Some call ≡ slice_get (calls_in s) 0
below_take s call is = sym (below_first s ∙ ap (λ t. option_or t (next_put_in s)) (sym is))

pub below_put : (s : State) (found : Option Call) → None ≡ next_take_in s → found ≡ next_put_in s → found ≡ slice_get (calls_in s) 0
below_put s found none is = is ∙ sym (below_first s ∙ ap (λ t. option_or t (next_put_in s)) (sym none))

module _ (c : SettlingState) (are : AreGifts c.gifts) (ready : IsReady c) where
  taken : (found : Option Object) → IfSome found (IsFirstGift is_take_due plain_take c.gifts) → IfNone found (NoneDue is_take_due c.gifts) → find is_upper_take (calls_of c) ≡ option_map (own_take (devices_of c)) found
  taken found some none = take_found (devices_of c) (held_of c) (wanted_of c) c.gifts are (held_parts c are ready.lower).1 (wanted_parts c are ready.lower).1 (know c are ready) found some none

  put : NoneDue is_take_due c.gifts → (found : Option Object) → IfSome found (IsFirstGift is_put_due Put c.gifts) → IfNone found (NoneDue is_put_due c.gifts) → find is_upper_put (calls_of c) ≡ option_map Put found
  put none found some other = put_found (devices_of c) (held_of c) (wanted_of c) c.gifts are (held_parts c are ready.lower).1 (wanted_parts c are ready.lower).1 (know c are ready) none found some other

  -- a take of an address or a route
  pub starts_with_take : (o : Object) → IsFirstGift is_take_due plain_take c.gifts o → Some (own_take (devices_of c) o) ≡ slice_get (calls_of c) 0
  starts_with_take o is = sym (first_is c are ready.lower ∙ ap (λ t. option_or t (option_or (slice_get (calls_in c.graph) 0) (find is_upper_put (calls_of c)))) (taken (Some o) is tt))

  module _ (none : NoneDue is_take_due c.gifts) where
    behind : slice_get (calls_of c) 0 ≡ option_or (slice_get (calls_in c.graph) 0) (find is_upper_put (calls_of c))
    behind = first_is c are ready.lower ∙ ap (λ t. option_or t (option_or (slice_get (calls_in c.graph) 0) (find is_upper_put (calls_of c)))) (taken None tt none)

    -- a call of devices
    pub starts_below : (call : Call) → Some call ≡ slice_get (calls_in c.graph) 0 → Some call ≡ slice_get (calls_of c) 0
    starts_below call is = sym (behind ∙ ap (λ s. option_or s (find is_upper_put (calls_of c))) (sym is))

    -- a put of an address or a route, or none
    pub starts_with_put : None ≡ slice_get (calls_in c.graph) 0 → (found : Option Object) → IfSome found (IsFirstGift is_put_due Put c.gifts) → IfNone found (NoneDue is_put_due c.gifts) → option_map Put found ≡ slice_get (calls_of c) 0
    starts_with_put is found some other =
        sym (behind ∙ ap (λ s. option_or s (find is_upper_put (calls_of c))) (sym is) ∙ put none found some other)
