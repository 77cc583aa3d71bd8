-- What the next call makes of what is held, and the calls that are left.
use Rattle.std.proofs.Common.{ℕ, ◌≡◌, inl, inr, List, [], ◌∷◌, Contains, Option, Some, None, Bool, true, false, cond, drop, refl, sym, ap, subst, ◌∙◌}
use Rattle.std.specs.Prelude.{slice_get, not, is_some}
use Rattle.std.specs.List.{find}
use Rattle.std.specs.Option.{option_or}
use Rattle.std.specs.Ordering.{eq_by_cmp}
use Rattle.std.specs.FinSet as set
use Rattle.kern_model.specs.declared.object.Object.{Object}
use Rattle.kern_model.specs.declared.object.Object.TheVariants as object
use Rattle.kern_model.specs.declared.object.Call.{Call}
use Rattle.kern_model.specs.declared.object.Call.TheVariants.{Put, Take}
use Rattle.kern_model.specs.ObjectOrder.{Objects, Has, object_cmp}
use Rattle.kern_model.specs.Kernel.{name_of, object_of, replaces, after_call}
use Rattle.kern_model.specs.Allowed.{AreAllowed}
use Rattle.kern_model.specs.Admission.{Admits}
use Rattle.kern_model.specs.Touched.{loses_link, is_taken, is_call}
use Rattle.kern_model.specs.CallOrder.{AreCalls}
use Rattle.kern_model.proofs.MemberLemmas.{here, first_or_later, none_in_nil}
use Rattle.kern_model.proofs.SetLemmas.{new_or_before, of_retained, of_without, has_retained}
use Rattle.kern_model.proofs.TestLemmas.{not_true, of_right, false_of_not}
use Rattle.kern_model.proofs.GoneLemmas.{over_more}
use Rattle.kern_model.proofs.TouchLemmas.{loses_link_with, loses_link_of, taken_held, taken_unwanted, put_wanted}
use Rattle.kern_model.proofs.LeadLemmas.{taken_call, call_of_taken, admitted}
use Rattle.kern_model.proofs.KeepLemmas.{calls_keep}
use Rattle.kern_calls.specs.Calls.{own_take, calls}
use Rattle.kern_calls.specs.Lower.{is_lower, lower_part, is_lower_call}
use Rattle.kern_calls.proofs.CallsLemmas.{are_the_calls, no_other_calls}
use Rattle.kern_calls.proofs.GoOnLemmas.{go_on}
use Rattle.kern_calls.specs.Upper.{is_upper, upper_part, is_upper_take, is_upper_put}
use Rattle.kern_calls.proofs.PartLemmas.{first_take_or_put}
use Rattle.kern_calls.proofs.UpperLemmas.{upper_taken}
use Rattle.kern_calls.proofs.FollowLemmas.{lower_follows, upper_follows, parts_are_whole}
use Rattle.graph_rules.specs.State.{State, devices_in}
use Rattle.graph_rules.specs.Wanted.{want_in}
use Rattle.graph_rules.specs.Calls.{calls_in, loses_link_in, is_take, next_take_in, next_put_in}
use Rattle.graph_rules.specs.After.{did_after}
use Rattle.graph_rules.specs.Conditions.{IsNext}
use Rattle.graph_laws.proofs.LostLinkLemmas.{links_kept}
use Rattle.dev_graph.proofs.TakeLemmas.{found_in, found_none, next_put_wanted, next_put_last}
use Rattle.given_objects.specs.declared.gift.Gift.{Gift}
use Rattle.given_objects.specs.Gifts as gift
use Rattle.given_objects.specs.Gifts.{Gifts, is_of, gift_of, has_place, givers_of, is_given, AreGifts}
use Rattle.given_objects.specs.Changes.{noted}
use Rattle.given_objects.proofs.ChangeLemmas.{of_itself, of_gift, has_gift, was_gift}
use Rattle.given_objects.proofs.KeepLemmas.{note_given, note_put, note_take}
use Rattle.given_objects.proofs.PlaceLemmas.{note_places, note_givers}
use Rattle.graph_settle.specs.SettlingState.{SettlingState, held_of, wanted_of, devices_of, calls_of, noted_call, IsReady, IsAlike}
use Rattle.graph_settle.proofs.SettlingStateLemmas.{held_parts, wanted_parts, loses_link_below, first_is, want_lower}

-- lists by their first item
pub first_and_rest : {X : Type 0} (xs : List X) (x : X) → slice_get xs 0 ≡ Some x → xs ≡ x ∷ drop 1 xs
first_and_rest [] x at = cc at
first_and_rest (y ∷ ys) x at = let same : y ≡ x = cc at in ap (λ z. z ∷ ys) same

pub first_member : {X : Type 0} (xs : List X) (x : X) → slice_get xs 0 ≡ Some x → Contains xs x
first_member [] x at = cc at
first_member (y ∷ ys) x at = let same : y ≡ x = cc at in subst (Contains (y ∷ ys)) same (here y ys)

pub no_first : {X : Type 0} (xs : List X) → slice_get xs 0 ≡ None → xs ≡ []
no_first [] none = refl
no_first (y ∷ ys) none = cc none

-- the gift of an object has a place
pub place_of_gift : (gs : Gifts) (g : Gift) (o : Object) → Contains gs g → g.object ≡ o → has_place gs o ≡ true
place_of_gift [] g o member is = absurd (none_in_nil g member)
place_of_gift (x ∷ xs) g o member is = elim (first_or_later x xs g member) as (λ _. has_place (x ∷ xs) o ≡ true) [
  | inl same ↦
      let mine : is_of o x ≡ true = ap (eq_by_cmp object_cmp o) (ap (λ (y : Gift). y.object) same ∙ is) ∙ of_itself o in
      ap (λ b. is_some (cond b (Some x) (gift_of xs o))) mine
  | inr later ↦ by (is_of o x) (place_of_gift xs g o later is)
]
  where
    by : (b : Bool) → has_place xs o ≡ true → is_some (cond b (Some x) (gift_of xs o)) ≡ true
    by true rest = refl
    by false rest = rest

-- a call of a gift's object
pub call_noted : (gs : Gifts) (call : Call) → has_place gs (object_of call) ≡ true → is_upper (object_of call) ≡ true → gift.held_of (noted_call gs call) ≡ after_call (gift.held_of gs) call
call_noted gs (Put o) place upper = note_put gs o place upper
call_noted gs (Take o mtu mac) place upper = note_take gs o

call_given : (gs : Gifts) (call : Call) → gift.given_of (noted_call gs call) ≡ gift.given_of gs
call_given gs (Put o) = note_given gs o true
call_given gs (Take o mtu mac) = note_given gs o false

call_places : (gs : Gifts) (call : Call) (o : Object) → has_place (noted_call gs call) o ≡ has_place gs o
call_places gs (Put x) o = note_places gs x true o
call_places gs (Take x mtu mac) o = note_places gs x false o

call_givers : (gs : Gifts) (call : Call) (o : Object) → givers_of (noted_call gs call) o ≡ givers_of gs o
call_givers gs (Put x) o = note_givers gs x true o
call_givers gs (Take x mtu mac) o = note_givers gs x false o

-- calls of the parts
take_off : (call : Call) → is_upper_take call ≡ true → is_lower_call call ≡ true → ⊥
take_off (Take o mtu mac) upper lower = not_true (is_lower o) upper lower
take_off (Put o) upper lower = cc upper

put_off : (call : Call) → is_upper_put call ≡ true → is_lower_call call ≡ true → ⊥
put_off (Put o) upper lower = not_true (is_lower o) upper lower
put_off (Take o mtu mac) upper lower = cc upper

-- what is told of a call's object
pub told_upper : (call : Call) (o : Object) (b : Bool) → o ≡ object_of call → b ≡ is_upper o → b ≡ true → is_upper (object_of call) ≡ true
told_upper call o b is told on = ap is_upper (sym is) ∙ sym told ∙ on

below_of : (b : Bool) → not b ≡ false → b ≡ true
below_of true off = refl
below_of false off = cc off

pub told_lower : (call : Call) (o : Object) (b : Bool) → o ≡ object_of call → b ≡ is_upper o → b ≡ false → is_lower_call call ≡ true
told_lower call o b is told off = below_of (is_lower (object_of call)) (ap is_upper (sym is) ∙ sym told ∙ off)

-- a first call of devices is the first of theirs
below_by : (call : Call) (t s p : Option Call) → ((x : Call) → t ≡ Some x → is_upper_take x ≡ true) → ((x : Call) → p ≡ Some x → is_upper_put x ≡ true) → is_lower_call call ≡ true → option_or t (option_or s p) ≡ Some call → (t ≡ None)
    × (s ≡ Some call)
below_by call (Some x) s p takes puts lower is = let same : x ≡ call = cc is in absurd (take_off call (subst (λ y. is_upper_take y ≡ true) same (takes x refl)) lower)
below_by call None (Some y) p takes puts lower is = (refl, is)
below_by call None None (Some z) takes puts lower is = let same : z ≡ call = cc is in absurd (put_off call (subst (λ y. is_upper_put y ≡ true) same (puts z refl)) lower)
below_by call None None None takes puts lower is = cc is

-- before a first put of an address or a route there are none of devices
above_by : (o : Object) (t s p : Option Call) → ((x : Call) → t ≡ Some x → is_upper_take x ≡ true) → ((x : Call) → s ≡ Some x → is_lower_call x ≡ true) → is_upper o ≡ true → option_or t (option_or s p) ≡ Some (Put o) → s ≡ None
above_by o (Some x) s p takes lower upper is = let same : x ≡ Put o = cc is in let off : is_upper_take (Put o) ≡ true = subst (λ y. is_upper_take y ≡ true) same (takes x refl) in absurd (cc off)
above_by o None (Some y) p takes lower upper is = let same : y ≡ Put o = cc is in absurd (not_true (is_lower o) upper (subst (λ x. is_lower_call x ≡ true) same (lower y refl)))
above_by o None None p takes lower upper is = refl

-- the next call of a graph
next_by : (s : State) (call : Call) (t p : Option Call) → next_take_in s ≡ t → next_put_in s ≡ p → option_or t p ≡ Some call → IsNext s call
next_by s call (Some x) p takes puts is = IsNext.takes (takes ∙ is)
next_by s call None p takes puts is = IsNext.puts takes (puts ∙ is)

pub is_next : (s : State) (call : Call) → slice_get (calls_in s) 0 ≡ Some call → IsNext s call
is_next s call is =
    next_by s call (next_take_in s) (next_put_in s) refl refl
    (sym (first_take_or_put is_take (λ o mtu mac. refl) (λ o. refl) (devices_in s.known) s.held (want_in s.known)) ∙ is)

-- where no link is taken nothing loses its link
pub none_loses_link : (held wanted : Objects) → ((x : Object) → is_taken held wanted x ≡ true → ⊥) → (name : List ℕ) → loses_link held wanted name ≡ false
none_loses_link held wanted none name = false_of_not (loses_link held wanted name) (λ h.
    let f = loses_link_with held wanted name h in none (object.Link f.base f.kind) (taken_unwanted held wanted (object.Link f.base f.kind) f.had f.unwanted (λ r. r)))

pub none_taken : (s : State) → slice_get (calls_in s) 0 ≡ None → (x : Object) → is_taken s.held (want_in s.known) x ≡ true → ⊥
none_taken s none x taken =
    let devices = devices_in s.known in
    let call = own_take devices x in
    let member = (are_the_calls devices s.held (want_in s.known)).complete call (call_of_taken devices s.held (want_in s.known) x taken) in
    none_in_nil call (subst (λ xs. Contains xs call) (no_first (calls_in s) none) member)

-- a call of a graph makes no name fall
pub loses_link_before : (s : State) (call : Call) → IsNext s call → (name : List ℕ) → loses_link_in (did_after s call) name ≡ true → loses_link_in s name ≡ true
loses_link_before s (Take o mtu mac) next name h =
    let was : (x : Object) → Has (set.remove s.held o) x → Has s.held x = λ x g. (of_without s.held o x g).0 in
    let f = loses_link_with (set.remove s.held o) (want_in s.known) name h in
    loses_link_of s.held (want_in s.known) name f.base f.kind (was (object.Link f.base f.kind) f.had) f.unwanted (over_more (set.remove s.held o) s.held was f.base name f.over)
loses_link_before s (Put o) next name h =
    let stays = λ (old : Object). not (replaces o old) in
    let f = loses_link_with (after_call s.held (Put o)) (want_in s.known) name h in
    let link = object.Link f.base f.kind in
    elim (new_or_before (set.retain s.held stays) o link f.had) as (λ _. loses_link_in s name ≡ true) [
      | inl same ↦ absurd (f.unwanted (subst (Has (want_in s.known)) (sym same) (next_put_wanted s o next)))
      | inr before ↦ absurd (next_put_last s o next link (taken_unwanted s.held (want_in s.known) link (of_retained s.held stays link before).0 f.unwanted (λ r. r)))
    ]

-- what is held below stays below
lower_kept : (held : Objects) (call : Call) → ((o : Object) → Has held o → is_lower o ≡ true) → is_lower_call call ≡ true → (x : Object) → Has (after_call held call) x → is_lower x ≡ true
lower_kept held (Take o mtu mac) lower mine x h = lower x (of_without held o x h).0
lower_kept held (Put o) lower mine x h = elim (new_or_before (set.retain held (λ old. not (replaces o old))) o x h) as (λ _. is_lower x ≡ true) [
  | inl same ↦ ap is_lower same ∙ mine
  | inr before ↦ lower x (of_retained held (λ old. not (replaces o old)) x before).0
]

-- a course after its next call
pub record IsMade (before after : SettlingState) (call : Call) : Type 0 where
  pub held : held_of after ≡ after_call (held_of before) call
  pub left : calls_of before ≡ call ∷ calls_of after
  pub stays : IsAlike before after
  pub ready : IsReady after

module _ (c : SettlingState) (ready : IsReady c) (call : Call) (next : slice_get (calls_of c) 0 ≡ Some call) where
  begins : calls_of c ≡ call ∷ drop 1 (calls_of c)
  begins = first_and_rest (calls_of c) call next

  all : AreCalls (devices_of c) (held_of c) (wanted_of c) (call ∷ drop 1 (calls_of c))
  all = subst (AreCalls (devices_of c) (held_of c) (wanted_of c)) begins (are_the_calls (devices_of c) (held_of c) (wanted_of c))

  pub is_admitted : Admits (devices_of c) (held_of c) call
  is_admitted = (admitted (devices_of c) (held_of c) (wanted_of c) (call ∷ drop 1 (calls_of c)) ready.held ready.wanted all).0

  allowed_then : AreAllowed (devices_of c) (after_call (held_of c) call)
  allowed_then = calls_keep (devices_of c) (held_of c) call ready.held is_admitted

  left_then : calls_of c ≡ call ∷ calls (devices_of c) (after_call (held_of c) call) (wanted_of c)
  left_then =
      let on = go_on (devices_of c) (held_of c) (wanted_of c) ready.held ready.wanted (call ∷ []) (drop 1 (calls_of c)) all in
      begins ∙ ap (λ xs. call ∷ xs) (no_other_calls (devices_of c) (after_call (held_of c) call) (wanted_of c) (drop 1 (calls_of c)) on)

  is_due : is_call (devices_of c) (held_of c) (wanted_of c) call ≡ true
  is_due = (are_the_calls (devices_of c) (held_of c) (wanted_of c)).sound call (first_member (calls_of c) call next)

module _ (c : SettlingState) (are : AreGifts c.gifts) (ready : IsReady c) (call : Call) (next : slice_get (calls_of c) 0 ≡ Some call) where
  in_parts : option_or (find is_upper_take (calls_of c)) (option_or (slice_get (calls_in c.graph) 0) (find is_upper_put (calls_of c))) ≡ Some call
  in_parts = sym (first_is c are ready.lower) ∙ next

  takes : (x : Call) → find is_upper_take (calls_of c) ≡ Some x → is_upper_take x ≡ true
  takes x is = (found_in is_upper_take (calls_of c) x is).1

  puts : (x : Call) → find is_upper_put (calls_of c) ≡ Some x → is_upper_put x ≡ true
  puts x is = (found_in is_upper_put (calls_of c) x is).1

  -- a call of devices
  module _ (lower : is_lower_call call ≡ true) where
    below : (find is_upper_take (calls_of c) ≡ None) × (slice_get (calls_in c.graph) 0 ≡ Some call)
    below = below_by call (find is_upper_take (calls_of c)) (slice_get (calls_in c.graph) 0) (find is_upper_put (calls_of c)) takes puts lower in_parts

    pub next_below : IsNext c.graph call
    next_below = is_next c.graph call below.1

    abbrev below_then : SettlingState
    below_then = record { graph = did_after c.graph call; gifts = c.gifts; may_lose_link = c.may_lose_link }

    held_below : set.union (after_call c.graph.held call) (gift.held_of c.gifts) ≡ after_call (held_of c) call
    held_below =
        let follows = lower_follows (held_of c) call lower in
        let parts = held_parts c are ready.lower in
        let first : after_call c.graph.held call ≡ lower_part (after_call (held_of c) call) = ap (λ s. after_call s call) (sym parts.0) ∙ sym follows.0 in
        let second : gift.held_of c.gifts ≡ upper_part (after_call (held_of c) call) = sym parts.1 ∙ sym follows.1 in
        ap (λ s. set.union s (gift.held_of c.gifts)) first
        ∙ ap (λ s. set.union (lower_part (after_call (held_of c) call)) s) second
        ∙ parts_are_whole (after_call (held_of c) call)

    -- no gift that is held and given loses its link, since its take would come first
    off : (g : Gift) → Contains c.gifts g → g.held ≡ true → is_given g ≡ true → loses_link_in c.graph (name_of g.object) ≡ false
    off g member held given = false_of_not (loses_link_in c.graph (name_of g.object)) (λ lost_link.
        let o = g.object in
        let upper = are.upper g member in
        let had : Has (held_of c) o = (of_retained (held_of c) is_upper o (subst (λ s. Has s o) (sym (held_parts c are ready.lower).1) (of_gift (λ (x : Gift). x.held) c.gifts g member held))).0 in
        let taken = upper_taken (held_of c) (wanted_of c) o upper had ∙ of_right (not (set.contains (wanted_of c) o)) (loses_link (held_of c) (wanted_of c) (name_of o)) (sym (loses_link_below c are ready.lower (name_of o)) ∙ lost_link) in
        let listed = (are_the_calls (devices_of c) (held_of c) (wanted_of c)).complete (own_take (devices_of c) o) (call_of_taken (devices_of c) (held_of c) (wanted_of c) o taken) in
        found_none is_upper_take (calls_of c) below.0 (own_take (devices_of c) o) listed upper)

    pub made_below : IsMade c below_then call
    made_below = record {
      held = held_below;
      left = left_then c ready call next ∙ ap (λ s. call ∷ calls (devices_of c) s (wanted_of c)) (sym held_below);
      stays = record { known = refl; wanted = refl; loads = refl; givers = λ o. refl; places = λ o. refl };
      ready = record {
        held = subst (AreAllowed (devices_of c)) (sym held_below) (allowed_then c ready call next);
        wanted = ready.wanted;
        lower = lower_kept c.graph.held call ready.lower lower;
        loses_link = λ g member held given.
            let still = off g member held given in
            ready.loses_link g member held given ∙ still
            ∙ sym (false_of_not (loses_link_in (did_after c.graph call) (name_of g.object)) (λ h. let lost_link = loses_link_before c.graph call next_below (name_of g.object) h in cc (lost_link, still)));
        links = λ none. links_kept c.graph (ready.links none) call next_below;
        quiet = ready.quiet;
      };
    }

  -- a call of an address or a route
  module _ (upper : is_upper (object_of call) ≡ true) where
    abbrev above_then : SettlingState
    above_then = record { graph = c.graph; gifts = noted_call c.gifts call; may_lose_link = c.may_lose_link }

    off_lower : is_lower_call call ≡ false
    off_lower = false_of_not (is_lower_call call) (λ lower. not_true (is_lower (object_of call)) upper lower)

    place_of_call : (x : Call) → is_call (devices_of c) (held_of c) (wanted_of c) x ≡ true → is_upper (object_of x) ≡ true → has_place c.gifts (object_of x) ≡ true
    place_of_call (Take o mtu mac) due above =
        let had = taken_held (held_of c) (wanted_of c) o (taken_call (devices_of c) (held_of c) (wanted_of c) o mtu mac due) in
        let from = has_gift (λ (g : Gift). g.held) c.gifts o (subst (λ s. Has s o) (held_parts c are ready.lower).1 (has_retained (held_of c) is_upper o had above)) in
        place_of_gift c.gifts from.gift o from.member from.is
    place_of_call (Put o) due above =
        let is = put_wanted (held_of c) (wanted_of c) o due in
        let from = has_gift is_given c.gifts o (subst (λ s. Has s o) (wanted_parts c are ready.lower).1 (has_retained (wanted_of c) is_upper o is above)) in
        place_of_gift c.gifts from.gift o from.member from.is

    pub has_its_place : has_place c.gifts (object_of call) ≡ true
    has_its_place = place_of_call call (is_due c ready call next) upper

    held_above : set.union c.graph.held (gift.held_of (noted_call c.gifts call)) ≡ after_call (held_of c) call
    held_above =
        let follows = upper_follows (held_of c) call off_lower in
        let parts = held_parts c are ready.lower in
        let first : c.graph.held ≡ lower_part (after_call (held_of c) call) = sym parts.0 ∙ sym follows.0 in
        let second : gift.held_of (noted_call c.gifts call) ≡ upper_part (after_call (held_of c) call) = call_noted c.gifts call has_its_place upper ∙ ap (λ s. after_call s call) (sym parts.1) ∙ sym follows.1 in
        ap (λ s. set.union s (gift.held_of (noted_call c.gifts call))) first
        ∙ ap (λ s. set.union (lower_part (after_call (held_of c) call)) s) second
        ∙ parts_are_whole (after_call (held_of c) call)

    wanted_above : wanted_of above_then ≡ wanted_of c
    wanted_above = ap (λ s. set.union (want_in c.graph.known) s) (call_given c.gifts call)

    lower_first : (x : Call) → slice_get (calls_in c.graph) 0 ≡ Some x → is_lower_call x ≡ true
    lower_first x at = by x ((are_the_calls (devices_of c) c.graph.held (want_in c.graph.known)).sound x (first_member (calls_in c.graph) x at))
      where
        by : (y : Call) → is_call (devices_of c) c.graph.held (want_in c.graph.known) y ≡ true → is_lower_call y ≡ true
        by (Put o) due = want_lower c.graph.known o (put_wanted c.graph.held (want_in c.graph.known) o due)
        by (Take o mtu mac) due = ready.lower o (taken_held c.graph.held (want_in c.graph.known) o (taken_call (devices_of c) c.graph.held (want_in c.graph.known) o mtu mac due))

    -- what is put last is on names that do not fall
    still : (o : Object) → call ≡ Put o → (name : List ℕ) → loses_link_in c.graph name ≡ false
    still o is name =
        let none = above_by o (find is_upper_take (calls_of c)) (slice_get (calls_in c.graph) 0) (find is_upper_put (calls_of c)) takes lower_first (ap (λ x. is_upper (object_of x)) (sym is) ∙ upper) (in_parts ∙ ap Some is) in
        none_loses_link c.graph.held (want_in c.graph.known) (none_taken c.graph none) name

    loses_link_noted : (x : Call) → ((o : Object) → x ≡ Put o → (name : List ℕ) → loses_link_in c.graph name ≡ false) → (g : Gift) → Contains (noted_call c.gifts x) g → g.held ≡ true → is_given g ≡ true → g.loses_link
        ≡ loses_link_in c.graph (name_of g.object)
    loses_link_noted (Put o) still g member held given =
        let past = was_gift (λ (y : Gift). record y { held = true; loses_link = false }) c.gifts o g member in
        elim past.by as (λ _. g.loses_link ≡ loses_link_in c.graph (name_of g.object)) [
          | inl made ↦ sym (ap (λ (y : Gift). y.loses_link) made.1) ∙ sym (still o refl (name_of g.object))
          | inr left ↦ subst (λ (y : Gift). y.loses_link ≡ loses_link_in c.graph (name_of y.object)) left.1
              (ready.loses_link past.was past.member (ap (λ (y : Gift). y.held) left.1 ∙ held) (ap is_given left.1 ∙ given))
        ]
    loses_link_noted (Take o mtu mac) still g member held given =
        let past = was_gift (λ (y : Gift). record y { held = false; loses_link = false }) c.gifts o g member in
        elim past.by as (λ _. g.loses_link ≡ loses_link_in c.graph (name_of g.object)) [
          | inl made ↦ let gone : g.held ≡ false = sym (ap (λ (y : Gift). y.held) made.1) in absurd (cc (held, gone))
          | inr left ↦ subst (λ (y : Gift). y.loses_link ≡ loses_link_in c.graph (name_of y.object)) left.1
              (ready.loses_link past.was past.member (ap (λ (y : Gift). y.held) left.1 ∙ held) (ap is_given left.1 ∙ given))
        ]

    noted_quiet : (o : Object) (b : Bool) → c.may_lose_link ≡ false → (g : Gift) → Contains (noted c.gifts o b) g → g.held ≡ true → g.loses_link ≡ false
    noted_quiet o b off g member has =
        let past = was_gift (λ (y : Gift). record y { held = b; loses_link = false }) c.gifts o g member in
        elim past.by as (λ _. g.loses_link ≡ false) [
          | inl made ↦ sym (ap (λ (y : Gift). y.loses_link) made.1)
          | inr left ↦ subst (λ (y : Gift). y.loses_link ≡ false) left.1 (ready.quiet off past.was past.member (ap (λ (y : Gift). y.held) left.1 ∙ has))
        ]

    quiet_noted : (x : Call) → c.may_lose_link ≡ false → (g : Gift) → Contains (noted_call c.gifts x) g → g.held ≡ true → g.loses_link ≡ false
    quiet_noted (Put o) off g member has = noted_quiet o true off g member has
    quiet_noted (Take o mtu mac) off g member has = noted_quiet o false off g member has

    pub made_above : IsMade c above_then call
    made_above = record {
      held = held_above;
      left = left_then c ready call next ∙ (let same : call ∷ calls (devices_of c) (after_call (held_of c) call) (wanted_of c) ≡ call ∷ calls_of above_then = λ i. call ∷ calls (devices_of c) (sym held_above i) (sym wanted_above i) in same);
      stays = record { known = refl; wanted = wanted_above; loads = refl; givers = call_givers c.gifts call; places = call_places c.gifts call };
      ready = record {
        held = subst (AreAllowed (devices_of c)) (sym held_above) (allowed_then c ready call next);
        wanted = subst (AreAllowed (devices_of c)) (sym wanted_above) ready.wanted;
        lower = ready.lower;
        loses_link = loses_link_noted call still;
        links = ready.links;
        quiet = quiet_noted call;
      };
    }

-- the course that is left is one of these
module _ (c : SettlingState) (are : AreGifts c.gifts) (ready : IsReady c) (call : Call) (next : slice_get (calls_of c) 0 ≡ Some call) where
  pub made_did : is_lower_call call ≡ true → (s : State) → s ≡ did_after c.graph call → IsMade c (record { graph = s; gifts = c.gifts; may_lose_link = c.may_lose_link }) call
  made_did lower s is =
      let same : (let then : SettlingState = record { graph = did_after c.graph call; gifts = c.gifts; may_lose_link = c.may_lose_link } in then) ≡ record { graph = s; gifts = c.gifts; may_lose_link = c.may_lose_link } =
      λ i. record { graph = sym is i; gifts = c.gifts; may_lose_link = c.may_lose_link } in
      subst (λ (after : SettlingState). IsMade c after call) same (made_below c are ready call next lower)

  pub made_noted : is_upper (object_of call) ≡ true → (gs : Gifts) → gs ≡ noted_call c.gifts call → IsMade c (record { graph = c.graph; gifts = gs; may_lose_link = c.may_lose_link }) call
  made_noted upper gs is =
      let same : (let then : SettlingState = record { graph = c.graph; gifts = noted_call c.gifts call; may_lose_link = c.may_lose_link } in then) ≡ record { graph = c.graph; gifts = gs; may_lose_link = c.may_lose_link } =
      λ i. record { graph = c.graph; gifts = sym is i; may_lose_link = c.may_lose_link } in
      subst (λ (after : SettlingState). IsMade c after call) same (made_above c are ready call next upper)
