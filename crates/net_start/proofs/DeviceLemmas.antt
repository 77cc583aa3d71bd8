-- Devices that come one after the other.
use Rattle.std.proofs.Common.{arith, ℕ, zero, suc, ◌≡◌, ◌≢◌, ◌<◌, ◌≤◌, ◌+◌, ◌⊎◌, inl, inr, List, [], ◌∷◌, ◌++◌, take, drop, length, get_or, true, false, Bool, Option, Some, map as mapped, refl, ap, sym, subst, ◌∙◌, Contains, cond, filter}
use Rattle.std.proofs.Common.{add-zero, append-nil, length-append}
use Rattle.std.specs.Prelude.{◌||◌, not, is_some}
use Rattle.std.proofs.lemmas.List.{take_more, take-append-drop}
use Rattle.std.specs.Ordering.{nat_cmp, eq_by_cmp, is_eq}
use Rattle.std.specs.Cmp.{Equal-is, tied_itself}
use Rattle.std.proofs.lemmas.List.Elements.{filter-append}
use Rattle.std.specs.List.{AllByRecursion}
use Rattle.plane_words.specs.Causes.{Rose}
use Rattle.std.specs.Cmp.Lexicographic.{slice_cmp, nat_list_cmp_total}
use Rattle.std.specs.FinSet as set
use Rattle.std.specs.FinMap as map
use Rattle.std.proofs.lemmas.Map.Lookups.{exact_bytes}
use Rattle.kern_model.specs.declared.object.Device.{Device}
use Rattle.kern_model.specs.declared.object.Object.TheVariants as object
use Rattle.kern_model.specs.ObjectOrder.{Objects, Has}
use Rattle.kern_model.specs.declared.kernel.Asked.{Asked}
use Rattle.kern_model.specs.declared.kernel.Asked.TheVariants as asked
use Rattle.kern_model.specs.Kernel.{Devices, is_present, Exists, after_event, Records}
use Rattle.kern_model.proofs.MemberLemmas.{first_or_later, none_in_nil, here, there}
use Rattle.kern_model.proofs.SetLemmas.{none_in_empty}
use Rattle.plane_words.specs.Distinct.{AreDistinct}
use Rattle.net_start.specs.Inputs.{comes, present_of}
use Rattle.net_start.specs.Devices.{with_devices, Came, CameInFront, additions, absent_count}
use Rattle.net_start.proofs.RecordLemmas.{records_more}

-- nothing is present at first
pub none_present : (name : List ℕ) → is_present map.empty name ≡ false
none_present name = ap is_some (map.get-empty (slice_cmp nat_cmp) name)

all_item : {X : Type 0} (P : X → Type 0) (xs : List X) (i : ℕ) (x : X) → AllByRecursion P xs → i < length xs → P (get_or xs i x)
all_item P [] i x all inside = absurd (omega arith)
all_item P (y ∷ ys) zero x all inside = all.0
all_item P (y ∷ ys) (suc i) x all inside = all_item P ys i x all.1 (omega arith)

-- an item is not among those before it
pub not_before : {X : Type 0} → (xs : List X) (i : ℕ) (x : X) → AreDistinct xs → i < length xs → get_or xs i x ≡ x → Contains (take i xs) x → ⊥
not_before [] i x distinct inside is before = absurd (omega arith)
not_before (y ∷ ys) zero x distinct inside is before = none_in_nil x before
not_before {X} (y ∷ ys) (suc i) x distinct inside is before =
    elim (first_or_later y (take i ys) x before) as (λ _. ⊥) [
      | inl same ↦ all_item (λ (z : X). z ≢ y) ys i x distinct.0 (omega arith) (is ∙ sym same)
      | inr later ↦ not_before ys i x distinct.1 (omega arith) is later
    ]

pub false_of_not : (b : Bool) → (b ≡ true → ⊥) → b ≡ false
false_of_not true h = absurd (h refl)
false_of_not false h = refl

-- what is present after a device came
pub present_after : (devices : Devices) (name q : List ℕ) (device : Device) → is_present (map.insert devices name device) q ≡ (eq_by_cmp (slice_cmp nat_cmp) q name || is_present devices q)
present_after devices name q device = ap is_some (map.get-insert nat_list_cmp_total devices name device q) ∙ chosen (eq_by_cmp (slice_cmp nat_cmp) q name)
  where
    chosen : (b : Bool) → is_some (cond b (Some device) (map.get devices q)) ≡ (b || is_some (map.get devices q))
    chosen true = refl
    chosen false = refl

pub same_name : (a b : List ℕ) → eq_by_cmp (slice_cmp nat_cmp) a b ≡ true → a ≡ b
same_name a b h = exact_bytes a b ((Equal-is (slice_cmp nat_cmp a b)).0 h)

pub either : (b c : Bool) → (b || c) ≡ true → (b ≡ true) ⊎ (c ≡ true)
either true c h = inl refl
either false c h = inr h

-- one more device behind the others
pub with_one_more : (devices : Devices) (names : List (List ℕ)) (name : List ℕ) → with_devices devices (names ++ name ∷ []) ≡ after_event (with_devices devices names) (comes name)
with_one_more devices [] name = refl
with_one_more devices (n ∷ names) name = with_one_more (after_event devices (comes n)) names name

pub added : (b c : Bool) → cond b true c ≡ (b || c)
added true c = refl
added false c = refl

-- tests that agree on the members of a list pick the same of them
filter_agrees : {X : Type 0} (p q : X → Bool) → (xs : List X) → ((x : X) → Contains xs x → p x ≡ q x) → filter p xs ≡ filter q xs
filter_agrees p q [] h = refl
filter_agrees p q (x ∷ xs) h =
    ap (λ b. cond b (x ∷ filter p xs) (filter p xs)) (h x (here x xs)) ∙ ap (λ ys. cond (q x) (x ∷ ys) ys) (filter_agrees p q xs (λ y m. h y (there x xs y m)))

count_agrees : {X : Type 0} (p q : X → Bool) → (xs : List X) → ((x : X) → Contains xs x → p x ≡ q x) → length (filter p xs) ≡ length (filter q xs)
count_agrees p q xs h = ap length (filter_agrees p q xs h)

count_one_more : {X : Type 0} (p : X → Bool) (xs : List X) (x : X) → length (filter p (xs ++ x ∷ [])) ≡ length (filter p xs) + cond (p x) 1 0
count_one_more p xs x = ap length (filter-append p xs (x ∷ [])) ∙ length-append (filter p xs) (filter p (x ∷ [])) ∙ ap (λ n. length (filter p xs) + n) (one (p x))
  where
    one : (b : Bool) → length (cond b (x ∷ []) []) ≡ cond b 1 0
    one true = refl
    one false = refl

-- what was asked of the devices, one more among them
map_agrees : {X Y : Type 0} (f g : X → Y) → (xs : List X) → ((x : X) → Contains xs x → f x ≡ g x) → mapped f xs ≡ mapped g xs
map_agrees f g [] h = refl
map_agrees f g (x ∷ xs) h = ap (λ y. y ∷ mapped f xs) (h x (here x xs)) ∙ ap (λ ys. g x ∷ ys) (map_agrees f g xs (λ y m. h y (there x xs y m)))

map_one_more : {X Y : Type 0} (f : X → Y) → (xs : List X) (x : X) → mapped f (xs ++ x ∷ []) ≡ mapped f xs ++ f x ∷ []
map_one_more f [] x = refl
map_one_more f (y ∷ ys) x = ap (λ zs. f y ∷ zs) (map_one_more f ys x)

additions_more : (names : List (List ℕ)) (name : List ℕ) (before after : Devices) (done : Bool) → ((q : List ℕ) → Contains names q → is_present after q ≡ is_present before q) → is_present after name ≡ done
    → additions after (names ++ name ∷ []) ≡ additions before names ++ asked.Event (comes name) done ∷ []
additions_more names name before after done same is =
    map_one_more (λ n. asked.Event (comes n) (is_present after n)) names name
    ∙ ap (λ b. additions after names ++ asked.Event (comes name) b ∷ []) is
    ∙ ap (λ xs. xs ++ asked.Event (comes name) done ∷ []) (map_agrees (λ n. asked.Event (comes n) (is_present after n)) (λ n. asked.Event (comes n) (is_present before n)) names (λ q m. ap (λ b. asked.Event (comes q) b) (same q m)))

-- nothing came at first
pub came_none : (devices : Devices) (faults : ℕ) → devices ≡ map.empty → Came [] devices faults faults
came_none devices faults bare = record { present = bare; absent = omega arith }

-- of the names and one more that came those are present, and this one
pub present_more : (names : List (List ℕ)) (name : List ℕ) (devices devices' : Devices) → is_present devices' name ≡ true → ((q : List ℕ) → Contains names q → is_present devices' q ≡ is_present devices q)
    → present_of devices' (names ++ name ∷ []) ≡ present_of devices names ++ name ∷ []
present_more names name devices devices' is same =
    filter-append (is_present devices') names (name ∷ []) ∙ ap (λ b. filter (is_present devices') names ++ cond b (name ∷ []) []) is ∙ ap (λ xs. xs ++ name ∷ []) (filter_agrees (is_present devices') (is_present devices) names same)

-- of the names and one more that did not come those are present
pub present_not : (names : List (List ℕ)) (name : List ℕ) (devices : Devices) → is_present devices name ≡ false → present_of devices (names ++ name ∷ []) ≡ present_of devices names
present_not names name devices absent =
    filter-append (is_present devices) names (name ∷ []) ∙ ap (λ b. filter (is_present devices) names ++ cond b (name ∷ []) []) absent ∙ append-nil (filter (is_present devices) names)

-- later the kernel may have failed more often
pub came_later : (names : List (List ℕ)) (devices : Devices) (before between now : ℕ) → between ≤ now → Came names devices before between → Came names devices before now
came_later names devices before between now later came = record { present = came.present; absent = let risen = came.absent in omega arith }

-- one more device came
pub came_more : (names : List (List ℕ)) (name : List ℕ) (devices devices' : Devices) (before between now : ℕ) → (Contains names name → ⊥) → is_present devices' name ≡ true
    → ((q : List ℕ) → Contains names q → is_present devices' q ≡ is_present devices q) → devices' ≡ after_event devices (comes name) → between ≤ now → Came names devices before between → Came (names ++ name ∷ []) devices' before now
came_more names name devices devices' before between now new is same did later came =
    let one : filter (is_present devices') (names ++ name ∷ []) ≡ filter (is_present devices) names ++ name ∷ [] =
    filter-append (is_present devices') names (name ∷ []) ∙ ap (λ b. filter (is_present devices') names ++ cond b (name ∷ []) []) is ∙ ap (λ xs. xs ++ name ∷ []) (filter_agrees (is_present devices') (is_present devices) names same) in
    let count : absent_count devices' (names ++ name ∷ []) ≡ absent_count devices names =
    count_one_more (λ n. not (is_present devices' n)) names name ∙ ap (λ b. absent_count devices' names + cond (not b) 1 0) is ∙ add-zero (absent_count devices' names)
    ∙ count_agrees (λ n. not (is_present devices' n)) (λ n. not (is_present devices n)) names (λ q m. ap not (same q m)) in
    record {
      present = did ∙ ap (λ d. after_event d (comes name)) came.present ∙ sym (with_one_more map.empty (filter (is_present devices) names) name) ∙ ap (with_devices map.empty) (sym one);
      absent = let risen = came.absent in omega arith;
    }

-- one more device did not come
pub came_not : (names : List (List ℕ)) (name : List ℕ) (devices devices' : Devices) (before between now : ℕ) → is_present devices name ≡ false → devices' ≡ devices → Rose between now → Came names devices before between
    → Came (names ++ name ∷ []) devices' before now
came_not names name devices devices' before between now absent did rose came =
    let one : filter (is_present devices) (names ++ name ∷ []) ≡ filter (is_present devices) names =
    filter-append (is_present devices) names (name ∷ []) ∙ ap (λ b. filter (is_present devices) names ++ cond b (name ∷ []) []) absent ∙ append-nil (filter (is_present devices) names) in
    let count : absent_count devices (names ++ name ∷ []) ≡ absent_count devices names + 1 =
    count_one_more (λ n. not (is_present devices n)) names name ∙ ap (λ b. absent_count devices names + cond (not b) 1 0) absent in
    let risen = came.absent in
    subst (λ d. Came (names ++ name ∷ []) d before now) (sym did) (record {
      present = came.present ∙ ap (with_devices map.empty) (sym one);
      absent = omega arith;
    })

-- a device that came leaves the others as they were
pub others_stay : (devices : Devices) (names : List (List ℕ)) (name q : List ℕ) (device : Device) → (Contains names name → ⊥) → Contains names q → is_present (map.insert devices name device) q ≡ is_present devices q
others_stay devices names name q device new member =
    present_after devices name q device ∙ ap (λ b. b || is_present devices q) (false_of_not (eq_by_cmp (slice_cmp nat_cmp) q name) (λ same. new (subst (Contains names) (same_name q name same) member)))

pub now_there : (devices : Devices) (name : List ℕ) (device : Device) → is_present (map.insert devices name device) name ≡ true
now_there devices name device = present_after devices name name device ∙ ap (λ r. is_eq r || is_present devices name) (tied_itself nat_list_cmp_total name)

-- the next of the named devices came
module _ (names : List (List ℕ)) (index : ℕ) (name : List ℕ) (distinct : AreDistinct names) (inside : index < length names) (is : get_or names index name ≡ name) where
  pub one_more : take (index + 1) names ≡ take index names ++ name ∷ []
  one_more = take_more names index name inside ∙ ap (λ x. take index names ++ x ∷ []) is

  pub present_next : (before after : Devices) → after ≡ after_event before (comes name) → present_of after (take (index + 1) names) ≡ present_of before (take index names) ++ name ∷ []
  present_next before after did =
      let new : Contains (take index names) name → ⊥ = not_before names index name distinct inside is in
      ap (present_of after) one_more ∙ present_more (take index names) name before after
      (ap (λ d. is_present d name) did ∙ now_there before name _)
      (λ q member. ap (λ d. is_present d q) did ∙ others_stay before (take index names) name q _ new member)

  pub present_in_vain : (before after : Devices) → after ≡ before → is_present before name ≡ false → present_of after (take (index + 1) names) ≡ present_of before (take index names)
  present_in_vain before after did absent = ap (λ d. present_of d (take (index + 1) names)) did ∙ ap (present_of before) one_more ∙ present_not (take index names) name before absent

  pub came_in_vain : (before after : Devices) (first between now : ℕ) → after ≡ before → is_present before name ≡ false → Rose between now → Came (take index names) before first between → Came (take (index + 1) names) after first now
  came_in_vain before after first between now did absent rose came =
      subst (λ xs. Came xs after first now) (sym one_more) (came_not (take index names) name before after first between now absent did rose came)

  -- neither it nor the others were tried
  pub came_so_far : (before after : Devices) (asked_first asked_between asked_now : Option (List Asked)) (first between now : ℕ) → after ≡ before → asked_now ≡ asked_between → between ≤ now → Came (take index names) before first between
      → Records asked_first asked_between (additions before (take index names)) → CameInFront names after asked_first asked_now first now
  came_so_far before after asked_first asked_between asked_now first between now did same later came so_far = record {
    front = take index names;
    back = drop index names;
    parts = sym (take-append-drop index names);
    came = subst (λ d. Came (take index names) d first now) (sym did) (came_later (take index names) before first between now later came);
    asked = subst (λ d. Records asked_first asked_now (additions d (take index names))) (sym did) (subst (λ a. Records asked_first a (additions before (take index names))) (sym same) so_far);
  }

  pub came_next : (before after : Devices) (first between now : ℕ) → after ≡ after_event before (comes name) → between ≤ now → Came (take index names) before first between → Came (take (index + 1) names) after first now
  came_next before after first between now did later came =
      let new : Contains (take index names) name → ⊥ = not_before names index name distinct inside is in
      subst (λ xs. Came xs after first now) (sym one_more)
      (came_more (take index names) name before after first between now new
      (ap (λ d. is_present d name) did ∙ now_there before name _)
      (λ q member. ap (λ d. is_present d q) did ∙ others_stay before (take index names) name q _ new member)
      did later came)

  pub asked_next : (before after : Devices) (first between now : Option (List Asked)) → after ≡ after_event before (comes name) → Records first between (additions before (take index names))
      → Records between now (asked.Event (comes name) true ∷ []) → Records first now (additions after (take (index + 1) names))
  asked_next before after first between now did so_far more =
      let new : Contains (take index names) name → ⊥ = not_before names index name distinct inside is in
      subst (Records first now) (sym (ap (additions after) one_more ∙ additions_more (take index names) name before after true
      (λ q member. ap (λ d. is_present d q) did ∙ others_stay before (take index names) name q _ new member)
      (ap (λ d. is_present d name) did ∙ now_there before name _)))
      (records_more first between now (additions before (take index names)) (asked.Event (comes name) true ∷ []) so_far more)

  pub asked_in_vain : (before after : Devices) (first between now : Option (List Asked)) → after ≡ before → is_present before name ≡ false → Records first between (additions before (take index names))
      → Records between now (asked.Event (comes name) false ∷ []) → Records first now (additions after (take (index + 1) names))
  asked_in_vain before after first between now did absent so_far more =
      subst (Records first now) (sym (ap (additions after) one_more ∙ additions_more (take index names) name before after false
      (λ q member. ap (λ d. is_present d q) did)
      (ap (λ d. is_present d name) did ∙ absent)))
      (records_more first between now (additions before (take index names)) (asked.Event (comes name) false ∷ []) so_far more)
