-- Slots by key: what a look-up finds, and that each side has one object of a key.
use Rattle.std.proofs.Common.{arith, ℕ, zero, suc, get_or, ◌≡◌, ◌≤◌, ◌+◌, inl, inr, List, [], ◌∷◌, map, length, Contains, Option, Some, None, true, false, Bool, cond, refl, ap, sym, subst, ◌∙◌}
use Rattle.std.specs.Prelude.{position, slice_get, is_some}
use Rattle.std.specs.List.{filter_map, cons_option, IsDistinct}
use Rattle.std.proofs.lemmas.List.Quantifiers.{position-Some}
use Rattle.std.specs.Option.{option_and_then}
use Rattle.std.specs.Map.{keys_of, lookup}
use Rattle.std.proofs.lemmas.Map.Keys.{IsDistinct-head, IsDistinct-tail}
use Rattle.std.specs.FinSet as set
use Rattle.kern_model.specs.declared.object.Object.{Object}
use Rattle.kern_model.specs.ObjectOrder.{Objects, Has, set_of}
use Rattle.kern_model.specs.Standing.{height}
use Rattle.kern_model.proofs.StandingLemmas.{height_within}
use Rattle.kern_model.proofs.MemberLemmas.{here, there, first_or_later, none_in_nil, member_of_all, map_member}
use Rattle.kern_model.specs.declared.object.LinkKind.TheVariants.{Vlan}
use Rattle.kern_model.specs.declared.object.Object.TheVariants as object
use Rattle.kern_model.proofs.SetLemmas.{set_of_member, member_of_set, none_in_empty}
use Rattle.kern_model.proofs.TestLemmas.{GivenBy, in_filter_map, from_filter_map}
use Rattle.kern_calls.proofs.SizeLemmas.{set_size}
use Rattle.graph_objects.specs.declared.key.ObjectKey.{ObjectKey}
use Rattle.graph_objects.specs.declared.slot.Wish.{Wish}
use Rattle.graph_objects.specs.declared.slot.Slot.{Slot}
use Rattle.graph_objects.specs.declared.slot.Side.{Side}
use Rattle.graph_objects.specs.declared.slot.Side.TheVariants.{Held, Wanted}
use Rattle.graph_objects.specs.Keys.{key_of}
use Rattle.graph_objects.specs.Steady.{IsGrounded, IsSteady}
use Rattle.graph_objects.specs.Slots.{wished, on, Entries, listed, set_on, wishes, wished_set, IsAt, IsSlot, AreSlots}
use Rattle.graph_objects.specs.Lookup.{IsFound}
use Rattle.graph_objects.specs.Marks.{Marks, held_of, wanted_of}
use Rattle.graph_objects.proofs.SteadyLemmas.{grounded_within}

-- the wish whose object is wanted
pub record IsWished (wish : Option Wish) (o : Object) : Type 0 where
  pub by : Wish
  pub is : wish ≡ Some by
  pub object : by.object ≡ o

wished_by : (wanted : Bool) (o x : Object) → cond wanted (Some o) None ≡ Some x → o ≡ x
wished_by true o x h = cc h
wished_by false o x h = cc h

pub wish_of : (wish : Option Wish) (o : Object) → option_and_then wished wish ≡ Some o → IsWished wish o
wish_of None o h = cc h
wish_of (Some w) o h = record { by = w; is = refl; object = wished_by w.wanted w.object o h }

pub at_key : (side : Side) (e : ObjectKey × Slot) (o : Object) → IsSlot e → on side e.1 ≡ Some o → IsAt e.0 o
at_key Held e o is h = is.held o h
at_key Wanted e o is h = let w = wish_of e.1.wish o h in subst (IsAt e.0) w.object (is.wish w.by w.is)

-- what is listed on a side is in a slot
pub in_slot : (side : Side) (es : Entries) (o : Object) → Has (set_on side es) o → GivenBy (λ (e : ObjectKey × Slot). on side e.1) es o
in_slot side es o h = from_filter_map (λ e. on side e.1) es o (member_of_set (listed side es) o h)

pub of_slot : (side : Side) (es : Entries) (e : ObjectKey × Slot) (o : Object) → Contains es e → on side e.1 ≡ Some o → Has (set_on side es) o
of_slot side es e o member h = set_of_member (listed side es) o (in_filter_map (λ e. on side e.1) es e o member h)

pub is_at : (side : Side) (es : Entries) → AreSlots es → (o : Object) → Has (set_on side es) o → (key : ObjectKey) → key_of o ≡ key → IsAt key o
is_at side es slots o h key same =
    let from = in_slot side es o h in
    let there = at_key side from.source o (slots.each from.source from.member) from.gives in
    subst (λ k. IsAt k o) (sym there.key ∙ same) there

-- what is wanted may be wanted
wanted_wish : (es : Entries) (o : Object) → Has (set_on Wanted es) o → Has (wished_set (wishes es)) o
wanted_wish es o h =
    let from = in_slot Wanted es o h in
    let w = wish_of from.source.1.wish o from.gives in
    set_of_member (map (λ w. w.object) (wishes es)) o
    (subst (Contains (map (λ (w : Wish). w.object) (wishes es))) w.object
    (map_member (λ (w : Wish). w.object) (wishes es) w.by (in_filter_map (λ (e : ObjectKey × Slot). e.1.wish) es from.source w.by from.member w.is)))

pub grounded_on : (side : Side) (es : Entries) → AreSlots es → IsGrounded (set_on side es)
grounded_on Held es slots = slots.held
grounded_on Wanted es slots = grounded_within (set_on Wanted es) (wished_set (wishes es)) (wanted_wish es) slots.wishes

-- no slots
pub no_slots : AreSlots []
no_slots = record {
  each = λ e member. absurd (none_in_nil e member);
  held = λ name lower id mac h over. none_in_empty (object.Link name (Vlan lower id mac)) h;
  wishes = λ name lower id mac h over. none_in_empty (object.Link name (Vlan lower id mac)) h;
}

pub none_of : (r : Option Slot) → false ≡ is_some r → r ≡ None
none_of None h = refl
none_of (Some s) h = cc h

-- what is wanted, by what may be wanted and by the slots
pub wanted_listed : (es : Entries) → filter_map wished (wishes es) ≡ listed Wanted es
wanted_listed [] = refl
wanted_listed (e ∷ es) = by e.1.wish (wanted_listed es)
  where
    by : (r : Option Wish) → filter_map wished (wishes es) ≡ listed Wanted es → filter_map wished (cons_option r (wishes es)) ≡ cons_option (option_and_then wished r) (listed Wanted es)
    by None rest = rest
    by (Some w) rest = ap (cons_option (wished w)) rest

-- the sets of the marks are those of the two sides
module _ (es : Entries) (m : Marks) (view : record { held = listed Held es; wishes = wishes es } ≡ m) where
  pub viewed : (P : Objects → Objects → Type 0) → P (set_on Held es) (set_on Wanted es) → P (held_of m) (wanted_of m)
  viewed P h = subst (λ (n : Marks). P (held_of n) (wanted_of n)) view (subst (λ xs. P (set_on Held es) (set_of xs)) (sym (wanted_listed es)) h)

  pub by_sides : (P : Objects → Objects → Type 0) → P (held_of m) (wanted_of m) → P (set_on Held es) (set_on Wanted es)
  by_sides P h = subst (λ xs. P (set_on Held es) (set_of xs)) (wanted_listed es) (subst (λ (n : Marks). P (held_of n) (wanted_of n)) (sym view) h)

-- the object on a side of the slot at an index
pub value_on : (side : Side) (es : Entries) (i : ℕ) (s : Slot) → slice_get (map (λ (e : ObjectKey × Slot). e.1) es) i ≡ Some s → option_and_then (λ (e : ObjectKey × Slot). on side e.1) (slice_get es i) ≡ on side s
value_on side [] i s h = cc h
value_on side (e ∷ es) zero s h = let is : e.1 ≡ s = cc h in ap (on side) is
value_on side (e ∷ es) (suc i) s h = value_on side es i s h

-- a side has no more objects than there are slots
cons_size : (r : Option Object) (xs : List Object) → length (cons_option r xs) ≤ length xs + 1
cons_size None xs = omega arith
cons_size (Some x) xs = omega arith

listed_size : (side : Side) (es : Entries) → length (listed side es) ≤ length es
listed_size side [] = omega arith
listed_size side (e ∷ es) = let rest = listed_size side es in let more = cons_size (on side e.1) (listed side es) in omega arith

pub size_on : (side : Side) (es : Entries) → set.len (set_on side es) ≤ length es
size_on side es = let size = set_size (listed side es) in let few = listed_size side es in omega arith

-- a name is over no more VLANs than there are slots
pub height_few : (side : Side) (es : Entries) (name : List ℕ) (n : ℕ) → n ≡ length es → height (set_on side es) name ≤ n
height_few side es name n is = let low = height_within (set_on side es) name in let few = size_on side es in omega arith

module _ (eq : ObjectKey → ObjectKey → Bool) (same : (x y : ObjectKey) → eq x y ≡ true → x ≡ y) (itself : (x : ObjectKey) → eq x x ≡ true) where
  -- what is looked up is in a slot
  found_entry : (es : Entries) (k : ObjectKey) (s : Slot) → lookup (eq k) es ≡ Some s → Contains es (k, s)
  found_entry [] k s h = cc h
  found_entry (e ∷ es) k s h = by (found_entry es k s) (eq k e.0) refl h
    where
      by : (lookup (eq k) es ≡ Some s → Contains es (k, s)) → (b : Bool) → eq k e.0 ≡ b → cond b (Some e.1) (lookup (eq k) es) ≡ Some s → Contains (e ∷ es) (k, s)
      by rest true is found =
          let key : e.0 ≡ k = sym (same k e.0 is) in
          let slot : e.1 ≡ s = cc found in
          subst (Contains (e ∷ es)) (λ i. (key i, slot i)) (here e es)
      by rest false is found = there e es (k, s) (rest found)

  entry_found : (es : Entries) → IsDistinct eq (keys_of es) → (e : ObjectKey × Slot) → Contains es e → lookup (eq e.0) es ≡ Some e.1
  entry_found [] once e member = absurd (none_in_nil e member)
  entry_found (x ∷ xs) once e member = elim (first_or_later x xs e member) as (λ _. lookup (eq e.0) (x ∷ xs) ≡ Some e.1) [
    | inl is ↦ subst (λ (y : ObjectKey × Slot). lookup (eq y.0) (x ∷ xs) ≡ Some y.1) is (ap (λ b. cond b (Some x.1) (lookup (eq x.0) xs)) (itself x.0))
    | inr later ↦ by later (entry_found xs (IsDistinct-tail eq x.0 (keys_of xs) once) e later) (eq e.0 x.0) refl
  ]
    where
      apart : Contains xs e → eq x.0 e.0 ≡ false
      apart later = member_of_all (λ y. eq x.0 y ≡ false) (keys_of xs) e.0 (IsDistinct-head eq x.0 (keys_of xs) once) (map_member (λ (y : ObjectKey × Slot). y.0) xs e later)

      by : Contains xs e → lookup (eq e.0) xs ≡ Some e.1 → (b : Bool) → eq e.0 x.0 ≡ b → lookup (eq e.0) (x ∷ xs) ≡ Some e.1
      by later rest true is =
          let one : eq x.0 e.0 ≡ true = subst (λ k. eq x.0 k ≡ true) (sym (same e.0 x.0 is)) (itself x.0) in
          let off = apart later in
          absurd (cc (one, off))
      by later rest false is = ap (λ b. cond b (Some x.1) (lookup (eq e.0) xs)) is ∙ rest

  -- of one key there is one slot
  pub lone : (es : Entries) → IsDistinct eq (keys_of es) → (e f : ObjectKey × Slot) → Contains es e → Contains es f → e.0 ≡ f.0 → e.1 ≡ f.1
  lone es once e f member other keys =
      let first : lookup (eq f.0) es ≡ Some e.1 = subst (λ k. lookup (eq k) es ≡ Some e.1) keys (entry_found es once e member) in
      let second : lookup (eq f.0) es ≡ Some f.1 = entry_found es once f other in
      cc (first, second)

  module _ (es : Entries) (each : (e : ObjectKey × Slot) → Contains es e → IsSlot e) (once : IsDistinct eq (keys_of es)) (side : Side) where
    pub is_found : (o : Object) → IsFound (set_on side es) o (option_and_then (on side) (lookup (eq (key_of o)) es))
    is_found o = by (lookup (eq (key_of o)) es) refl
      where
        all_found : (x : Object) → Has (set_on side es) x → key_of x ≡ key_of o → option_and_then (on side) (lookup (eq (key_of o)) es) ≡ Some x
        all_found x h k =
            let from = in_slot side es x h in
            let there = at_key side from.source x (each from.source from.member) from.gives in
            let key : from.source.0 ≡ key_of o = sym there.key ∙ k in
            ap (option_and_then (on side)) (subst (λ q. lookup (eq q) es ≡ Some from.source.1) key (entry_found es once from.source from.member)) ∙ from.gives

        by : (r : Option Slot) → lookup (eq (key_of o)) es ≡ r → IsFound (set_on side es) o (option_and_then (on side) (lookup (eq (key_of o)) es))
        by None is = record {
          has = λ x h. let none : option_and_then (on side) None ≡ Some x = subst (λ r. option_and_then (on side) r ≡ Some x) is h in cc none;
          at = λ x h. let none : option_and_then (on side) None ≡ Some x = subst (λ r. option_and_then (on side) r ≡ Some x) is h in cc none;
          all = all_found;
        }
        by (Some s) is = record {
          has = λ x h. of_slot side es (key_of o, s) x (found_entry es (key_of o) s is) (subst (λ r. option_and_then (on side) r ≡ Some x) is h);
          at = λ x h. (at_key side (key_of o, s) x (each (key_of o, s) (found_entry es (key_of o) s is)) (subst (λ r. option_and_then (on side) r ≡ Some x) is h)).key;
          all = all_found;
        }

    -- what a look-up found
    pub found_slot : (o : Object) (k : ObjectKey) (r : Option Slot) → k ≡ key_of o → lookup (eq k) es ≡ r → (found : Option Object) → found ≡ option_and_then (on side) r → IsFound (set_on side es) o found
    found_slot o k r keys looked found is =
        subst (IsFound (set_on side es) o) (ap (option_and_then (on side)) (ap (λ q. lookup (eq q) es) (sym keys) ∙ looked) ∙ sym is) (is_found o)

    pub one_at : (a b : Object) → Has (set_on side es) a → Has (set_on side es) b → key_of a ≡ key_of b → a ≡ b
    one_at a b h g k =
        let found = is_found b in
        let first = found.all a h k in
        let second = found.all b g refl in
        cc (first, second)

  pub steady_on : (es : Entries) → AreSlots es → IsDistinct eq (keys_of es) → (side : Side) → IsSteady (set_on side es)
  steady_on es slots once side = record { one = one_at es slots.each once side; grounded = grounded_on side es slots }

  -- what is in a set is found
  pub not_absent : (es : Entries) → AreSlots es → IsDistinct eq (keys_of es) → (side : Side) (o : Object) → lookup (eq (key_of o)) es ≡ None → Has (set_on side es) o → ⊥
  not_absent es slots once side o looked h =
      let found = found_slot es slots.each once side o (key_of o) None refl looked None refl in
      let here = found.all o h refl in
      cc here

  -- the entry at the place of a key
  pair_at : (es : Entries) (i : ℕ) (s : Slot) (d : ObjectKey) → slice_get (map (λ (e : ObjectKey × Slot). e.1) es) i ≡ Some s → slice_get es i ≡ Some (get_or (keys_of es) i d, s)
  pair_at [] i s d h = cc h
  pair_at (e ∷ es) zero s d h = let is : e.1 ≡ s = cc h in ap (λ (x : Slot). Some (e.0, x)) is
  pair_at (e ∷ es) (suc i) s d h = pair_at es i s d h

  pub entry_at : (k : ObjectKey) (es : Entries) (i : ℕ) (s : Slot) → position (eq k) (keys_of es) ≡ Some i → slice_get (map (λ (e : ObjectKey × Slot). e.1) es) i ≡ Some s → slice_get es i ≡ Some (k, s)
  entry_at k es i s p h =
      let first = position-Some (eq k) (keys_of es) i k p in
      pair_at es i s k h ∙ ap (λ (q : ObjectKey). Some (q, s)) (sym (same k (get_or (keys_of es) i k) first.1))
