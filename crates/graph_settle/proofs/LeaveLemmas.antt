-- What goes with a device, and gifts that are told one after another.
use Rattle.std.proofs.Common.{arith, ℕ, zero, suc, ◌≡◌, ◌≢◌, ◌+◌, ◌<◌, List, [], ◌∷◌, map, length, slice_get, slice_set, Contains, Option, Some, None, Bool, true, false, add-one, refl, sym, ap, subst, ◌∙◌}
use Rattle.std.specs.Prelude.{◌&&◌, not, if◌then◌else◌}
use Rattle.std.specs.Option.{option_map_or}
use Rattle.std.specs.FinSet as set
use Rattle.plane_words.specs.Distinct.{AreDistinct}
use Rattle.kern_model.specs.declared.object.Device.{Device}
use Rattle.kern_model.specs.declared.object.Object.{Object}
use Rattle.kern_model.specs.declared.object.Object.TheVariants as object
use Rattle.kern_model.specs.ObjectOrder.{Has}
use Rattle.kern_model.specs.Standing.{gone}
use Rattle.kern_model.specs.Kernel.{name_of}
use Rattle.kern_model.proofs.MemberLemmas.{here, there, map_member, member_of_map, member_of_all}
use Rattle.kern_model.proofs.SetLemmas.{same_object, has_retained, of_retained, same_members}
use Rattle.kern_model.proofs.TestLemmas.{both, of_both, not_true, false_of_not}
use Rattle.kern_calls.specs.Lower.{is_lower, lower_part}
use Rattle.kern_calls.specs.Upper.{is_upper, upper_part}
use Rattle.kern_calls.proofs.FollowLemmas.{parts_are_whole, lower_goes, goes_with_up}
use Rattle.graph_rules.specs.State.{State}
use Rattle.graph_rules.specs.Calls.{is_held, loses_link_in}
use Rattle.graph_rules.specs.After.{left_by}
use Rattle.given_objects.specs.declared.gift.Gift.{Gift}
use Rattle.given_objects.specs.Gifts as gift
use Rattle.given_objects.specs.Gifts.{Gifts, is_of, AreGifts}
use Rattle.given_objects.specs.Changes.{changed, noted, with_lost_link}
use Rattle.given_objects.proofs.ChangeLemmas.{of_itself, of_gift, has_gift}
use Rattle.graph_settle.specs.SettlingState.{SettlingState, held_of, devices_of, IsReady}
use Rattle.graph_settle.specs.Leaving.{looked_at, is_left, left_gift, left_gifts}
use Rattle.graph_settle.proofs.SettlingStateLemmas.{held_parts}

-- gifts of which the first ones were told something
abbrev pub told : (Gift → Gift) → ℕ → Gifts → Gifts
told tell zero gs = gs
told tell (suc n) [] = []
told tell (suc n) (g ∷ gs) = tell g ∷ told tell n gs

pub none_told : (tell : Gift → Gift) (gs : Gifts) → told tell 0 gs ≡ gs
none_told tell gs = refl

pub all_told : (tell : Gift → Gift) (gs : Gifts) → told tell (length gs) gs ≡ map tell gs
all_told tell [] = refl
all_told tell (g ∷ gs) = ap (λ xs. tell g ∷ xs) (all_told tell gs)

pub size_told : (tell : Gift → Gift) (n : ℕ) (gs : Gifts) → length (told tell n gs) ≡ length gs
size_told tell zero gs = refl
size_told tell (suc n) [] = refl
size_told tell (suc n) (g ∷ gs) = ap suc (size_told tell n gs)

one_more : (tell : Gift → Gift) (n : ℕ) (gs : Gifts) (g : Gift) → slice_get (told tell n gs) n ≡ Some g → slice_set (told tell n gs) n (tell g) ≡ told tell (suc n) gs
one_more tell zero [] g at = refl
one_more tell zero (x ∷ xs) g at = let same : x ≡ g = cc at in ap (λ y. tell y ∷ xs) (sym same)
one_more tell (suc n) [] g at = refl
one_more tell (suc n) (x ∷ xs) g at = ap (λ ys. tell x ∷ ys) (one_more tell n xs g at)

pub told_more : (tell : Gift → Gift) (n : ℕ) (gs : Gifts) (g : Gift) → slice_get (told tell n gs) n ≡ Some g → slice_set (told tell n gs) n (tell g) ≡ told tell (n + 1) gs
told_more tell n gs g at = rw add-one (one_more tell n gs g at)

at_within : (gs : Gifts) (n : ℕ) → n < length gs → (g : Gift) × (slice_get gs n ≡ Some g)
at_within [] n within = absurd (omega (arith, within))
at_within (x ∷ xs) zero within = (x, refl)
at_within (x ∷ xs) (suc n) within = at_within xs n (omega (arith, within))

-- the next one is told
pub told_step : (tell : Gift → Gift) (n : ℕ) (gs now new : Gifts) → now ≡ told tell n gs → n < length gs → ((g : Gift) → slice_get now n ≡ Some g → new ≡ slice_set now n (tell g)) → new ≡ told tell (n + 1) gs
told_step tell n gs now new before within made =
    let at = at_within now n (omega (arith, within, ap length before, size_told tell n gs)) in
    let same : slice_get (told tell n gs) n ≡ Some at.0 = ap (λ xs. slice_get xs n) (sym before) ∙ at.1 in
    made at.0 at.1 ∙ ap (λ xs. slice_set xs n (tell at.0)) before ∙ told_more tell n gs at.0 same

pub told_to_end : (tell : Gift → Gift) (n : ℕ) (gs now : Gifts) → now ≡ told tell n gs → n ≡ length gs → now ≡ map tell gs
told_to_end tell n gs now before is = before ∙ ap (λ k. told tell k gs) is ∙ all_told tell gs

-- a gift of distinct ones is changed at its place
none_changed : (change : Gift → Gift) (gs : Gifts) (o : Object) → ((g : Gift) → Contains gs g → g.object ≡ o → ⊥) → changed change gs o ≡ gs
none_changed change [] o none = refl
none_changed change (x ∷ xs) o none =
    let off : is_of o x ≡ false = false_of_not (is_of o x) (λ h. none x (here x xs) (sym (same_object o x.object h))) in
    let rest = none_changed change xs o (λ g member. none g (there x xs g member)) in
    ap (λ b. (if b then change x else x) ∷ changed change xs o) off ∙ ap (λ ys. x ∷ ys) rest

pub member_at : (gs : Gifts) (n : ℕ) (g : Gift) → slice_get gs n ≡ Some g → Contains gs g
member_at [] n g at = cc at
member_at (x ∷ xs) zero g at = let same : x ≡ g = cc at in subst (Contains (x ∷ xs)) same (here x xs)
member_at (x ∷ xs) (suc n) g at = there x xs g (member_at xs n g at)

pub changed_at : (change : Gift → Gift) (gs : Gifts) (n : ℕ) (g : Gift) → AreDistinct (map (λ (x : Gift). x.object) gs) → slice_get gs n ≡ Some g → changed change gs g.object ≡ slice_set gs n (change g)
changed_at change [] n g once at = refl
changed_at change (x ∷ xs) zero g once at =
    let same : x ≡ g = cc at in
    let mine : is_of g.object x ≡ true = subst (λ (y : Gift). is_of g.object y ≡ true) (sym same) (of_itself g.object) in
    let others = none_changed change xs g.object (λ y member is.
    member_of_all (λ z. z ≢ x.object) (map (λ (z : Gift). z.object) xs) y.object once.0 (map_member (λ (z : Gift). z.object) xs y member) (is ∙ ap (λ (z : Gift). z.object) (sym same))) in
    ap (λ b. (if b then change x else x) ∷ changed change xs g.object) mine
    ∙ ap (λ ys. change x ∷ ys) others
    ∙ ap (λ y. change y ∷ xs) same
changed_at change (x ∷ xs) (suc n) g once at =
    let off : is_of g.object x ≡ false = false_of_not (is_of g.object x) (λ h.
    member_of_all (λ z. z ≢ x.object) (map (λ (z : Gift). z.object) xs) g.object once.0 (map_member (λ (z : Gift). z.object) xs g (member_at xs n g at)) (same_object g.object x.object h)) in
    ap (λ b. (if b then change x else x) ∷ changed change xs g.object) off
    ∙ ap (λ ys. x ∷ ys) (changed_at change xs n g once.1 at)

set_same : (gs : Gifts) (n : ℕ) (g : Gift) → slice_get gs n ≡ Some g → slice_set gs n g ≡ gs
set_same [] n g at = refl
set_same (x ∷ xs) zero g at = let same : x ≡ g = cc at in ap (λ y. y ∷ xs) (sym same)
set_same (x ∷ xs) (suc n) g at = ap (λ ys. x ∷ ys) (set_same xs n g at)

-- the gift at a place, by what is read there
module _ (s : State) (gs : Gifts) (n : ℕ) (read g : Gift) (at : slice_get gs n ≡ Some read) (also : slice_get gs n ≡ Some g) where
  one : read ≡ g
  one = let both_are : Some read ≡ Some g = sym at ∙ also in cc both_are

  pub looked : (loses_link : Bool) → loses_link ≡ loses_link_in s (name_of read.object) → with_lost_link gs n loses_link ≡ slice_set gs n (looked_at s g)
  looked loses_link is =
      ap (λ r. option_map_or (λ (x : Gift). slice_set gs n (record x { loses_link = loses_link })) r gs) also
      ∙ ap (λ f. slice_set gs n (record g { loses_link = f })) (is ∙ ap (λ (x : Gift). loses_link_in s (name_of x.object)) one)

  pub left_when : AreDistinct (map (λ (x : Gift). x.object) gs) → is_left s read ≡ true → noted gs read.object false ≡ slice_set gs n (left_gift s g)
  left_when once test =
      changed_at (λ (x : Gift). record x { held = false; loses_link = false }) gs n read once at
      ∙ ap (λ x. slice_set gs n x) (sym (ap (λ b. if b then record read { held = false; loses_link = false } else read) test))
      ∙ ap (λ (x : Gift). slice_set gs n (left_gift s x)) one

  pub left_unless : is_left s read ≡ false → gs ≡ slice_set gs n (left_gift s g)
  left_unless test =
      sym (set_same gs n read at)
      ∙ ap (λ x. slice_set gs n x) (sym (ap (λ b. if b then record read { held = false; loses_link = false } else read) test))
      ∙ ap (λ (x : Gift). slice_set gs n (left_gift s x)) one

-- what goes with a device, if it was there
module _ (c : SettlingState) (are : AreGifts c.gifts) (ready : IsReady c) (device : Option Device) (name : List ℕ) (now : State) (is : now.held ≡ left_by device name c.graph.held) where
  -- the lower part goes as the graph says
  below_by : (d : Option Device) → lower_part (left_by d name (held_of c)) ≡ left_by d name c.graph.held
  below_by None = (held_parts c are ready.lower).0
  below_by (Some d) = lower_goes (held_of c) name ∙ ap (λ s. gone s name) (held_parts c are ready.lower).0

  below_is : lower_part (left_by device name (held_of c)) ≡ now.held
  below_is = below_by device ∙ sym is

  -- an address or a route has its name up
  up_of : (o : Object) → is_upper o ≡ true → Has (held_of c) o → Has (held_of c) (object.Up (name_of o))
  up_of (object.Address dev cidr) upper h = ready.held.supported (object.Address dev cidr) h
  up_of (object.Route r) upper h = ready.held.supported (object.Route r) h
  up_of o upper h = absurd (cc upper)

  -- and stays where that stays
  stays_by : (d : Option Device) (o : Object) → is_upper o ≡ true → Has (held_of c) o → Has (left_by d name (held_of c)) (object.Up (name_of o)) → Has (left_by d name (held_of c)) o
  stays_by None o upper h up = h
  stays_by (Some d) o upper h up = (goes_with_up (devices_of c) (held_of c) name o ready.held h upper).1 up

  goes_by : (d : Option Device) (o : Object) → is_upper o ≡ true → Has (left_by d name (held_of c)) o → Has (held_of c) o × Has (left_by d name (held_of c)) (object.Up (name_of o))
  goes_by None o upper h = (h, up_of o upper h)
  goes_by (Some d) o upper h =
      let had = (of_retained (held_of c) _ o h).0 in
      (had, (goes_with_up (devices_of c) (held_of c) name o ready.held had upper).0 h)

  held_gift : (g : Gift) → Contains c.gifts g → g.held ≡ true → Has (held_of c) g.object
  held_gift g member h = (of_retained (held_of c) is_upper g.object (subst (λ s. Has s g.object) (sym (held_parts c are ready.lower).1) (of_gift (λ (x : Gift). x.held) c.gifts g member h))).0

  -- a gift after the look
  left_held : (g : Gift) (b : Bool) → (g.held && not (is_held now (object.Up (name_of g.object)))) ≡ b → (if b then record g { held = false; loses_link = false } else g).held ≡ true → (g.held ≡ true)
      × Has now.held (object.Up (name_of g.object))
  left_held g true test h = cc h
  left_held g false test h = (h, up (is_held now (object.Up (name_of g.object))) refl)
    where
      up : (b : Bool) → is_held now (object.Up (name_of g.object)) ≡ b → b ≡ true
      up true at = refl
      up false at = let on : (g.held && not (is_held now (object.Up (name_of g.object)))) ≡ true = of_both g.held (not (is_held now (object.Up (name_of g.object)))) h (ap not at) in absurd (cc (on, test))

  left_object : (g : Gift) (b : Bool) → (if b then record g { held = false; loses_link = false } else g).object ≡ g.object
  left_object g true = refl
  left_object g false = refl

  gifts_left : upper_part (left_by device name (held_of c)) ≡ gift.held_of (left_gifts now c.gifts)
  gifts_left = same_members (upper_part (left_by device name (held_of c))) (gift.held_of (left_gifts now c.gifts))
      (λ o h.
      let part = of_retained (left_by device name (held_of c)) is_upper o h in
      let was = goes_by device o part.1 part.0 in
      let from = has_gift (λ (g : Gift). g.held) c.gifts o (subst (λ s. Has s o) (held_parts c are ready.lower).1 (has_retained (held_of c) is_upper o was.0 part.1)) in
      let g = from.gift in
      let up : Has now.held (object.Up (name_of g.object)) = subst (λ x. Has now.held (object.Up (name_of x))) (sym from.is)
      (subst (λ s. Has s (object.Up (name_of o))) below_is (has_retained (left_by device name (held_of c)) is_lower (object.Up (name_of o)) was.1 refl)) in
      let stays : left_gift now g ≡ g = ap (λ b. if b then record g { held = false; loses_link = false } else g)
      (false_of_not (g.held && not (is_held now (object.Up (name_of g.object)))) (λ t. not_true (is_held now (object.Up (name_of g.object))) (both g.held _ t).1 up)) in
      let member : Contains (left_gifts now c.gifts) g = subst (Contains (left_gifts now c.gifts)) stays (map_member (left_gift now) c.gifts g from.member) in
      subst (Has (gift.held_of (left_gifts now c.gifts))) from.is (of_gift (λ (x : Gift). x.held) (left_gifts now c.gifts) g member from.passes))
      (λ o h.
      let from = has_gift (λ (g : Gift). g.held) (left_gifts now c.gifts) o h in
      let past = member_of_map (left_gift now) c.gifts from.gift from.member in
      let g = past.source in
      let test = g.held && not (is_held now (object.Up (name_of g.object))) in
      let told = left_held g test refl (ap (λ (x : Gift). x.held) past.same ∙ from.passes) in
      let same : g.object ≡ o = sym (left_object g test) ∙ ap (λ (x : Gift). x.object) past.same ∙ from.is in
      let upper = are.upper g past.member in
      let up : Has (left_by device name (held_of c)) (object.Up (name_of g.object)) =
      (of_retained (left_by device name (held_of c)) is_lower (object.Up (name_of g.object)) (subst (λ s. Has s (object.Up (name_of g.object))) (sym below_is) told.1)).0 in
      let stays = stays_by device g.object upper (held_gift g past.member told.0) up in
      subst (Has (upper_part (left_by device name (held_of c)))) same (has_retained (left_by device name (held_of c)) is_upper g.object stays upper))

  pub left_then : set.union now.held (gift.held_of (left_gifts now c.gifts)) ≡ left_by device name (held_of c)
  left_then =
      ap (λ s. set.union s (gift.held_of (left_gifts now c.gifts))) (sym below_is)
      ∙ ap (λ s. set.union (lower_part (left_by device name (held_of c))) s) (sym gifts_left)
      ∙ parts_are_whole (left_by device name (held_of c))
