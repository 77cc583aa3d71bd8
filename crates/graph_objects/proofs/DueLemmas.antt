-- How many objects are due is counted slot by slot.
use Rattle.std.proofs.Common.{arith, add-one, ℕ, zero, suc, ◌≡◌, ◌+◌, ◌*◌, ◌≤◌, map, List, [], ◌∷◌, length, Contains, Option, Some, None, true, false, Bool, cond, refl, ap, sym, subst, ◌∙◌}
use Rattle.std.specs.Prelude.{not, slice_get, if◌then◌else◌}
use Rattle.std.specs.List.{filter_map, cons_option, IsDistinct}
use Rattle.std.specs.Map.{keys_of}
use Rattle.std.specs.Ordering.{eq_by_cmp}
use Rattle.std.specs.FinSet as set
use Rattle.std.proofs.lemmas.Map.Keys.{IsDistinct-head, IsDistinct-tail}
use Rattle.kern_model.specs.declared.object.Object.{Object}
use Rattle.kern_model.specs.ObjectOrder.{object_cmp, set_of}
use Rattle.kern_model.proofs.OrderLemmas.{objects_total}
use Rattle.kern_model.proofs.MemberLemmas.{here, there, member_of_all, map_member}
use Rattle.kern_model.proofs.SetLemmas.{same_object, set_of_member, member_of_set, same_members, test_of_same}
use Rattle.kern_model.proofs.TestLemmas.{both, of_both, of_not, not_true, false_of_not, in_filter_map, from_filter_map}
use Rattle.kern_calls.specs.Due.{due_count}
use Rattle.graph_objects.specs.declared.key.ObjectKey.{ObjectKey}
use Rattle.graph_objects.specs.declared.slot.Slot.{Slot}
use Rattle.graph_objects.specs.declared.slot.Side.{Side}
use Rattle.graph_objects.specs.declared.slot.Side.TheVariants.{Held, Wanted}
use Rattle.graph_objects.specs.Keys.{key_of}
use Rattle.graph_objects.specs.Slots.{on, Entries, set_on, AreSlots}
use Rattle.graph_objects.specs.Alone.{alone}
use Rattle.graph_objects.proofs.SlotLemmas.{at_key, in_slot, of_slot, lone}

-- the object of the one side that is not on the other
abbrev only : Option Object → Option Object → Option Object
only None other = None
only (Some a) None = Some a
only (Some a) (Some b) = if eq_by_cmp object_cmp a b then None else Some a

abbrev size_of : Option Object → ℕ
size_of None = 0
size_of (Some a) = 1

same_either_way : (a b : Object) → eq_by_cmp object_cmp a b ≡ eq_by_cmp object_cmp b a
same_either_way a b = test_of_same (eq_by_cmp object_cmp a b) b a (λ h. sym (same_object a b h)) (λ is. subst (λ x. eq_by_cmp object_cmp a x ≡ true) (sym is) (sym (test_of_same true a a (λ h. refl) (λ h. refl))))

alone_by_sides : (a b : Option Object) → alone a b ≡ size_of (only a b) + size_of (only b a)
alone_by_sides None None = refl
alone_by_sides None (Some b) = refl
alone_by_sides (Some a) None = refl
alone_by_sides (Some a) (Some b) = by (eq_by_cmp object_cmp a b) ∙ ap (λ t. size_of (if eq_by_cmp object_cmp a b then None else Some a) + size_of (if t then None else Some b)) (same_either_way a b)
  where
    by : (t : Bool) → (if t then 0 else 2) ≡ size_of (if t then None else Some a) + size_of (if t then None else Some b)
    by true = refl
    by false = refl

abbrev other : Side → Side
other Held = Wanted
other Wanted = Held

-- the objects of a side that are not on the other
abbrev alone_on : Side → Entries → List Object
alone_on side es = filter_map (λ e. only (on side e.1) (on (other side) e.1)) es

-- how many there are by slots
abbrev pub counted : Entries → ℕ
counted [] = 0
counted (e ∷ es) = alone (on Held e.1) (on Wanted e.1) + counted es

cons_length : (r : Option Object) (xs : List Object) → length (cons_option r xs) ≡ size_of r + length xs
cons_length None xs = omega arith
cons_length (Some x) xs = omega arith

counted_by_sides : (es : Entries) → counted es ≡ length (alone_on Held es) + length (alone_on Wanted es)
counted_by_sides [] = omega arith
counted_by_sides (e ∷ es) =
    let rest = counted_by_sides es in
    let first = alone_by_sides (on Held e.1) (on Wanted e.1) in
    let held = cons_length (only (on Held e.1) (on Wanted e.1)) (alone_on Held es) in
    let wanted = cons_length (only (on Wanted e.1) (on Held e.1)) (alone_on Wanted es) in
    omega arith

only_is : (a b : Option Object) (x : Object) → only a b ≡ Some x → (a ≡ Some x) × (b ≡ Some x → ⊥)
only_is None b x h = absurd (cc h)
only_is (Some a) None x h = (h, λ none. cc none)
only_is (Some a) (Some b) x h = by (eq_by_cmp object_cmp a b) refl h
  where
    by : (t : Bool) → eq_by_cmp object_cmp a b ≡ t → (if t then None else Some a) ≡ Some x → (Some a ≡ Some x) × (Some b ≡ Some x → ⊥)
    by true is h = absurd (cc h)
    by false is h = (h, λ also. let one : a ≡ b = cc (h, also) in let tie : eq_by_cmp object_cmp a b ≡ true = subst (λ y. eq_by_cmp object_cmp a y ≡ true) one (sym (test_of_same true a a (λ _. refl) (λ _. refl))) in cc (is, tie))

is_only : (a b : Option Object) (x : Object) → a ≡ Some x → (b ≡ Some x → ⊥) → only a b ≡ Some x
is_only None b x h off = cc h
is_only (Some a) None x h off = h
is_only (Some a) (Some b) x h off = by (eq_by_cmp object_cmp a b) refl
  where
    by : (t : Bool) → eq_by_cmp object_cmp a b ≡ t → (if t then None else Some a) ≡ Some x
    by true is = absurd (off (ap Some (sym (same_object a b is)) ∙ h))
    by false is = h

-- objects each of the key of its slot are as many as a set as they are as a list
module _ (eq : ObjectKey → ObjectKey → Bool) (same : (x y : ObjectKey) → eq x y ≡ true → x ≡ y) (itself : (x : ObjectKey) → eq x x ≡ true) where
  set_length : (f : ObjectKey × Slot → Option Object) (es : Entries) → ((e : ObjectKey × Slot) (o : Object) → Contains es e → f e ≡ Some o → key_of o ≡ e.0) → IsDistinct eq (keys_of es) → set.len (set_of (filter_map f es))
      ≡ length (filter_map f es)
  set_length f [] keyed once = set.len-empty object_cmp
  set_length f (e ∷ es) keyed once = by (set_length f es (λ x o member. keyed x o (there e es x member)) (IsDistinct-tail eq e.0 (keys_of es) once)) (f e) refl
    where
      by : set.len (set_of (filter_map f es)) ≡ length (filter_map f es) → (r : Option Object) → f e ≡ r → set.len (set_of (cons_option r (filter_map f es))) ≡ length (cons_option r (filter_map f es))
      by rest None is = rest
      by rest (Some o) is =
          let new : set.contains (set_of (filter_map f es)) o ≡ false = false_of_not (set.contains (set_of (filter_map f es)) o) (λ h.
          let from = from_filter_map f es o (member_of_set (filter_map f es) o h) in
          let first = keyed e o (here e es) is in
          let second = keyed from.source o (there e es from.source from.member) from.gives in
          let apart = member_of_all (λ y. eq e.0 y ≡ false) (keys_of es) from.source.0 (IsDistinct-head eq e.0 (keys_of es) once) (map_member (λ (y : ObjectKey × Slot). y.0) es from.source from.member) in
          let one : eq e.0 from.source.0 ≡ true = subst (λ k. eq e.0 k ≡ true) (sym first ∙ second) (itself e.0) in
          cc (apart, one)) in
          set.len-insert objects_total (set_of (filter_map f es)) o
          ∙ ap (λ b. cond b (set.len (set_of (filter_map f es))) (set.len (set_of (filter_map f es)) + 1)) new
          ∙ (let more = rest in omega arith)

  module _ (es : Entries) (slots : AreSlots es) (once : IsDistinct eq (keys_of es)) where
    only_keyed : (side : Side) (e : ObjectKey × Slot) (o : Object) → Contains es e → only (on side e.1) (on (other side) e.1) ≡ Some o → key_of o ≡ e.0
    only_keyed side e o member h = (at_key side e o (slots.each e member) (only_is (on side e.1) (on (other side) e.1) o h).0).key

    difference_is : (side : Side) → set.difference (set_on side es) (set_on (other side) es) ≡ set_of (alone_on side es)
    difference_is side = same_members (set.difference (set_on side es) (set_on (other side) es)) (set_of (alone_on side es))
        (λ x h.
        let parts = both (set.contains (set_on side es) x) (not (set.contains (set_on (other side) es) x)) (sym (set.contains-difference objects_total (set_on side es) (set_on (other side) es) x) ∙ h) in
        let from = in_slot side es x parts.0 in
        set_of_member (alone_on side es) x (in_filter_map (λ (e : ObjectKey × Slot). only (on side e.1) (on (other side) e.1)) es from.source x from.member
        (is_only (on side from.source.1) (on (other side) from.source.1) x from.gives (λ also. not_true (set.contains (set_on (other side) es) x) parts.1 (of_slot (other side) es from.source x from.member also)))))
        (λ x h.
        let from = from_filter_map (λ (e : ObjectKey × Slot). only (on side e.1) (on (other side) e.1)) es x (member_of_set (alone_on side es) x h) in
        let is = only_is (on side from.source.1) (on (other side) from.source.1) x from.gives in
        set.contains-difference objects_total (set_on side es) (set_on (other side) es) x
        ∙ of_both (set.contains (set_on side es) x) (not (set.contains (set_on (other side) es) x)) (of_slot side es from.source x from.member is.0)
        (of_not (set.contains (set_on (other side) es) x) (λ also.
        let there_too = in_slot (other side) es x also in
        let first = at_key side from.source x (slots.each from.source from.member) is.0 in
        let second = at_key (other side) there_too.source x (slots.each there_too.source there_too.member) there_too.gives in
        let one : from.source.1 ≡ there_too.source.1 = lone eq same itself es once from.source there_too.source from.member there_too.member (sym first.key ∙ second.key) in
        is.1 (ap (on (other side)) one ∙ there_too.gives))))

    pub counted_is_due : counted es ≡ due_count (set_on Held es) (set_on Wanted es)
    counted_is_due =
        let sides = counted_by_sides es in
        let held = ap set.len (difference_is Held) ∙ set_length (λ e. only (on Held e.1) (on Wanted e.1)) es (only_keyed Held) once in
        let wanted = ap set.len (difference_is Wanted) ∙ set_length (λ e. only (on Wanted e.1) (on Held e.1)) es (only_keyed Wanted) once in
        omega arith

-- how many there are in the first slots
abbrev pub counted_first : Entries → ℕ → ℕ
counted_first [] n = 0
counted_first (e ∷ es) zero = 0
counted_first (e ∷ es) (suc n) = alone (on Held e.1) (on Wanted e.1) + counted_first es n

pub counted_none : (es : Entries) → 0 ≡ counted_first es 0
counted_none [] = refl
counted_none (e ∷ es) = refl

counted_next : (es : Entries) (i : ℕ) (s : Slot) → slice_get (map (λ (e : ObjectKey × Slot). e.1) es) i ≡ Some s → counted_first es (suc i) ≡ counted_first es i + alone (on Held s) (on Wanted s)
counted_next [] i s at = cc at
counted_next (e ∷ es) zero s at =
    let same : e.1 ≡ s = cc at in
    let one : alone (on Held e.1) (on Wanted e.1) ≡ alone (on Held s) (on Wanted s) = ap (λ (x : Slot). alone (on Held x) (on Wanted x)) same in
    let none = counted_none es in
    omega arith
counted_next (e ∷ es) (suc i) s at = let rest = counted_next es i s at in omega arith

pub counted_more : (es : Entries) (i : ℕ) (s : Slot) → slice_get (map (λ (e : ObjectKey × Slot). e.1) es) i ≡ Some s → counted_first es (i + 1) ≡ counted_first es i + alone (on Held s) (on Wanted s)
counted_more es i s at = rw add-one (counted_next es i s at)

alone_few : (a b : Option Object) → alone a b ≤ 2
alone_few None None = omega arith
alone_few None (Some b) = omega arith
alone_few (Some a) None = omega arith
alone_few (Some a) (Some b) = by (eq_by_cmp object_cmp a b)
  where
    by : (t : Bool) → (if t then 0 else 2) ≤ 2
    by true = omega arith
    by false = omega arith

pub counted_few : (es : Entries) (i : ℕ) → counted_first es i ≤ 2 * i
counted_few [] i = omega arith
counted_few (e ∷ es) zero = omega arith
counted_few (e ∷ es) (suc i) = let rest = counted_few es i in let one = alone_few (on Held e.1) (on Wanted e.1) in omega arith

pub counted_all : (es : Entries) → counted_first es (length es) ≡ counted es
counted_all [] = refl
counted_all (e ∷ es) = ap (λ n. alone (on Held e.1) (on Wanted e.1) + n) (counted_all es)
