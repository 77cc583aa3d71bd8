-- A settling at its beginning and where no call is left.
use Rattle.std.proofs.Common.{ℕ, ◌≡◌, inl, inr, List, [], Contains, None, Bool, true, false, refl, sym, ap, subst, ◌∙◌}
use Rattle.std.specs.Prelude.{slice_get}
use Rattle.std.specs.FinSet as set
use Rattle.kern_model.specs.declared.object.Object.{Object}
use Rattle.kern_model.specs.declared.object.Object.TheVariants as object
use Rattle.kern_model.specs.declared.kernel.Kernel.{Ghosts as KernelMembers}
use Rattle.kern_model.specs.declared.object.Call.{Call}
use Rattle.kern_model.specs.ObjectOrder.{Objects, Has}
use Rattle.kern_model.specs.Kernel.{Devices, name_of, after_call}
use Rattle.kern_model.specs.Allowed.{AreAllowed}
use Rattle.kern_model.specs.Admission.{Admits}
use Rattle.kern_model.specs.CallOrder.{AreCalls}
use Rattle.kern_model.proofs.OrderLemmas.{objects_total}
use Rattle.kern_model.proofs.MemberLemmas.{none_in_nil}
use Rattle.kern_model.proofs.SetLemmas.{member_of_set, none_in_empty, same_members}
use Rattle.kern_model.proofs.TestLemmas.{either}
use Rattle.kern_model.proofs.AllowedLemmas.{nothing_allowed}
use Rattle.kern_model.proofs.LeadLemmas.{reached, call_of_taken}
use Rattle.kern_calls.specs.Calls.{own_take}
use Rattle.kern_calls.specs.Lower.{lower_part}
use Rattle.kern_calls.proofs.CallsLemmas.{are_the_calls}
use Rattle.kern_calls.specs.Upper.{upper_part}
use Rattle.graph_rules.specs.State.{State, empty, nothing_known, devices_in}
use Rattle.graph_rules.specs.Wanted.{want_in}
use Rattle.graph_rules.specs.Calls.{loses_link_in}
use Rattle.graph_wishes.specs.Wishes.{mays, used_mays}
use Rattle.graph_wishes.proofs.WishLemmas.{wants_used_mays}
use Rattle.graph_laws.proofs.LostLinkLemmas.{settled_links}
use Rattle.given_objects.specs.declared.gift.Gift.{Gift}
use Rattle.given_objects.specs.Gifts as gift
use Rattle.given_objects.specs.Gifts.{Gifts, is_given, objects_by, AreGifts}
use Rattle.given_objects.proofs.ChangeLemmas.{of_gift, has_gift, one_gift}
use Rattle.graph_settle.specs.SettlingState.{SettlingState, held_of, wanted_of, devices_of, calls_of, IsReady, IsAlike, HoldsAs}
use Rattle.graph_settle.proofs.SettlingStateLemmas.{held_parts, wanted_parts, loses_link_below}
use Rattle.graph_settle.proofs.MadeLemmas.{no_first, none_loses_link}

module _ (c : SettlingState) (ready : IsReady c) (none : slice_get (calls_of c) 0 ≡ None) where
  pub none_left : calls_of c ≡ []
  none_left = no_first (calls_of c) none

  -- what is wanted is held
  pub is_reached : held_of c ≡ wanted_of c
  is_reached = reached (devices_of c) (held_of c) (wanted_of c) [] ready.held ready.wanted
      (subst (AreCalls (devices_of c) (held_of c) (wanted_of c)) none_left (are_the_calls (devices_of c) (held_of c) (wanted_of c)))

  -- so each gift that is held is given, and no name loses its link
  held_given : AreGifts c.gifts → (g : Gift) → Contains c.gifts g → g.held ≡ true → is_given g ≡ true
  held_given are g member held =
      let same : gift.held_of c.gifts ≡ gift.given_of c.gifts = sym (held_parts c are ready.lower).1 ∙ ap upper_part is_reached ∙ (wanted_parts c are ready.lower).1 in
      let from = has_gift is_given c.gifts g.object (subst (λ (s : Objects). Has s g.object) same (of_gift (λ (x : Gift). x.held) c.gifts g member held)) in
      subst (λ (x : Gift). is_given x ≡ true) (one_gift c.gifts are.once from.gift g from.member member from.is) from.passes

  none_loses_link_now : AreGifts c.gifts → (name : List ℕ) → loses_link_in c.graph name ≡ false
  none_loses_link_now are name =
      loses_link_below c are ready.lower name
      ∙ none_loses_link (held_of c) (wanted_of c) (λ x taken.
      let call = own_take (devices_of c) x in
      none_in_nil call (subst (λ calls. Contains calls call) none_left ((are_the_calls (devices_of c) (held_of c) (wanted_of c)).complete call (call_of_taken (devices_of c) (held_of c) (wanted_of c) x taken)))) name

  -- and each link that is held is one of the rows
  pub ready_at_end : AreGifts c.gifts → IsReady (record { graph = c.graph; gifts = c.gifts; may_lose_link = false })
  ready_at_end are =
      let same : c.graph.held ≡ want_in c.graph.known = sym (held_parts c are ready.lower).0 ∙ ap lower_part is_reached ∙ (wanted_parts c are ready.lower).0 in
      record {
        held = ready.held;
        wanted = ready.wanted;
        lower = ready.lower;
        loses_link = ready.loses_link;
        links = λ off. settled_links c.graph same;
        quiet = λ off g member held. ready.loses_link g member held (held_given are g member held) ∙ none_loses_link_now are (name_of g.object);
      }

-- a kernel admits what a course has for it
pub admits : {K : Type 0} (kernel : KernelMembers K) (state : K) (c : SettlingState) (call : Call) → HoldsAs kernel state c → Admits (devices_of c) (held_of c) call → Admits (kernel.devices state) (kernel.objects state) call
admits kernel state c call holds is = subst (λ d. Admits d (kernel.objects state) call) (sym holds.devices) (subst (λ o. Admits (devices_of c) o call) (sym holds.objects) is)

-- courses that are alike
pub alike_itself : (c : SettlingState) → IsAlike c c
alike_itself c = record { known = refl; wanted = refl; loads = refl; givers = λ o. refl; places = λ o. refl }

pub alike_on : (a b c : SettlingState) → IsAlike a b → IsAlike b c → IsAlike a c
alike_on a b c first second = record {
  known = second.known ∙ first.known;
  wanted = second.wanted ∙ first.wanted;
  loads = second.loads ∙ first.loads;
  givers = λ o. second.givers o ∙ first.givers o;
  places = λ o. second.places o ∙ first.places o;
}

-- a kernel that made the call holds what is held then
pub holds_then : {K : Type 0} (kernel : KernelMembers K) (state then : K) (c after : SettlingState) (call : Call) → HoldsAs kernel state c → kernel.devices then ≡ kernel.devices state → kernel.objects then
    ≡ after_call (kernel.objects state) call
    → held_of after ≡ after_call (held_of c) call → after.graph.known ≡ c.graph.known → HoldsAs kernel then after
holds_then kernel state then c after call holds devices did held known = record {
  devices = devices ∙ holds.devices ∙ ap devices_in (sym known);
  objects = did ∙ ap (λ o. after_call o call) holds.objects ∙ sym held;
}

-- of nothing nothing is held and wanted
nothing_in : (devices : Devices) (s t : Objects) → ((x : Object) → Has s x → ⊥) → ((x : Object) → Has t x → ⊥) → AreAllowed devices (set.union s t)
nothing_in devices s t none other =
    let bare : set.union s t ≡ set.empty = same_members (set.union s t) set.empty
    (λ x h. elim (either (set.contains s x) (set.contains t x) (sym (set.contains-union objects_total s t x) ∙ h)) as (λ _. Has set.empty x) [ inl first ↦ absurd (none x first) | inr second ↦ absurd (other x second) ])
    (λ x h. absurd (none_in_empty x h)) in
    subst (AreAllowed devices) (sym bare) (nothing_allowed devices)

no_want : (o : Object) → Has (want_in nothing_known) o → ⊥
no_want o h = none_in_nil o (member_of_set (used_mays nothing_known (mays nothing_known)) o (subst (λ (w : Objects). Has w o) (wants_used_mays nothing_known) h))

no_object : (test : Gift → Bool) (o : Object) → Has (objects_by test []) o → ⊥
no_object test o h = none_in_nil o (member_of_set [] o h)

bare_ready : IsReady (record { graph = empty; gifts = []; may_lose_link = false })
bare_ready = record {
  held = nothing_in (devices_in nothing_known) set.empty (objects_by (λ (g : Gift). g.held) []) none_in_empty (no_object (λ (g : Gift). g.held));
  wanted = nothing_in (devices_in nothing_known) (want_in nothing_known) (objects_by is_given []) no_want (no_object is_given);
  lower = λ o h. absurd (none_in_empty o h);
  loses_link = λ g member. absurd (none_in_nil g member);
  links = λ off name made h. absurd (none_in_empty (object.Link name made) h);
  quiet = λ off g member. absurd (none_in_nil g member);
}

pub new_ready : (s : State) (gs : Gifts) → s ≡ empty → gs ≡ [] → IsReady (record { graph = s; gifts = gs; may_lose_link = false })
new_ready s gs is none =
    let all : (let bare : SettlingState = record { graph = empty; gifts = []; may_lose_link = false } in bare) ≡ record { graph = s; gifts = gs; may_lose_link = false } =
    λ i. record { graph = sym is i; gifts = sym none i; may_lose_link = false } in
    subst IsReady all bare_ready
