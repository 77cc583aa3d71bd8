-- Places that are listed, and what gifts come at them.
use Rattle.std.proofs.Common.{arith, ℕ, zero, suc, ◌+◌, ◌-◌, ◌≡◌, ◌≢◌, ◌≤◌, ◌<◌, inl, inr, List, [], ◌∷◌, ◌++◌, length, get_or, set, swap_remove, map, slice_get, Contains, Some, true, false, Bool, refl, ap, sym, subst, ◌∙◌}
use Rattle.std.specs.Map.{keys_of}
use Rattle.std.specs.List.Sorted.{IsPermutation}
use Rattle.std.proofs.lemmas.Bool.{cases_eq, cases_lt}
use Rattle.std.proofs.lemmas.List.{get_or-set_same, get_or-set_other, length-set, length_push, get_or_append_left, get_or_push, get_or_past, get_or_read, get_or_default, get_or-take, length-take-le, length-map}
use Rattle.std.proofs.lemmas.List.Elements.{Contains-append_cases, Contains-append_left, Contains-push}
use Rattle.std.proofs.lemmas.List.Sorted.{IsPermutation-sym, IsPermutation-swap_remove, length_permutation, Contains-permutation}
use Rattle.std.proofs.lemmas.Option.{slice_get_within}
use Rattle.indexmap.specs.IndexMap.{set_value_at}
use Rattle.kern_model.proofs.TestLemmas.{of_left, of_right}
use Rattle.kern_model.proofs.MemberLemmas.{there, first_or_later, none_in_nil}
use Rattle.given_objects.specs.declared.key.GiftKey.{GiftKey}
use Rattle.given_objects.specs.declared.gift.Gift.{Gift}
use Rattle.given_objects.specs.declared.gift.Counts.{Counts}
use Rattle.given_objects.specs.declared.first.Turn.{Turn}
use Rattle.given_objects.specs.declared.first.Turn.TheVariants.{Takes, Puts}
use Rattle.given_objects.specs.Gifts.{Gifts}
use Rattle.given_objects.specs.Ordered.{is_coming}
use Rattle.given_objects.specs.Inside.{Entries, gift_in, listed}
use Rattle.given_objects.specs.Places.{count_set, AreListed, comes, AreListedFor, ComeFrom}
use Rattle.given_objects.proofs.TableLemmas.{some_key, set_at}

-- what comes in a turn comes
pub comes_in : (turn : Turn) (g : Gift) → is_coming turn g ≡ true → comes g ≡ true
comes_in Takes g on = of_left (is_coming Takes g) (is_coming Puts g) on
comes_in Puts g on = of_right (is_coming Takes g) (is_coming Puts g) on

-- how many flags are set
set_within : (flags : List Bool) → count_set flags ≤ length flags
set_within [] = omega arith
set_within (true ∷ flags) = let rest = set_within flags in omega arith
set_within (false ∷ flags) = let rest = set_within flags in omega arith

one_set : (flags : List Bool) (i : ℕ) → i < length flags → get_or flags i false ≡ false → count_set (set flags i true) ≡ suc (count_set flags)
one_set [] i within was = absurd (omega arith)
one_set (true ∷ flags) zero within was = cc was
one_set (false ∷ flags) zero within was = refl
one_set (true ∷ flags) (suc i) within was = ap suc (one_set flags i (omega arith) was)
one_set (false ∷ flags) (suc i) within was = one_set flags i (omega arith) was

one_cleared : (flags : List Bool) (i : ℕ) → count_set flags ≤ suc (count_set (set flags i false))
one_cleared [] i = omega arith
one_cleared (true ∷ flags) zero = omega arith
one_cleared (false ∷ flags) zero = omega arith
one_cleared (true ∷ flags) (suc i) = let rest = one_cleared flags i in omega arith
one_cleared (false ∷ flags) (suc i) = one_cleared flags i

one_more_set : (flags : List Bool) → count_set (flags ++ true ∷ []) ≡ suc (count_set flags)
one_more_set [] = refl
one_more_set (true ∷ flags) = ap suc (one_more_set flags)
one_more_set (false ∷ flags) = one_more_set flags

pub none_listed : (list : List ℕ) (flags : List Bool) → list ≡ [] → flags ≡ [] → AreListed list flags
none_listed list flags no_list no_flags =
    subst (λ (xs : List ℕ). AreListed xs flags) (sym no_list) (subst (λ (bs : List Bool). AreListed [] bs) (sym no_flags) (record {
      few = omega arith;
      all = λ place is. cc is;
      within = λ place member. absurd (none_in_nil place member);
    }))

module _ (list : List ℕ) (flags : List Bool) (are : AreListed list flags) where
  -- there is room for all that are listed, and for one more where one is not
  pub few_places : length list ≤ length flags
  few_places = let few = are.few in let most = set_within flags in omega arith

  pub room_for_one : (i : ℕ) → i < length flags → get_or flags i false ≡ false → length list < length flags
  room_for_one i within was =
      let few = are.few in
      let more = one_set flags i within was in
      let most = set_within (set flags i true) in
      let same = length-set flags i true in
      omega arith

  -- one more is listed
  pub listed_more : (i : ℕ) → i < length flags → get_or flags i false ≡ false → AreListed (list ++ i ∷ []) (set flags i true)
  listed_more i within was = record {
    few = let few = are.few in let more = one_set flags i within was in let longer = length_push list i in omega arith;
    all = λ place is. elim (cases_eq place i) as (λ _. Contains (list ++ i ∷ []) place) [
      | inl same ↦ subst (Contains (list ++ i ∷ [])) (sym same) (Contains-push list i)
      | inr other ↦ Contains-append_left list (i ∷ []) place (are.all place (sym (get_or-set_other flags i place true false other) ∙ is))
    ];
    within = λ place member. let same = length-set flags i true in elim (Contains-append_cases list (i ∷ []) place member) as (λ _. place < length (set flags i true)) [
      | inl old ↦ let inside = are.within place old in omega arith
      | inr new ↦ elim (first_or_later i [] place new) as (λ _. place < length (set flags i true)) [
        | inl is ↦ omega (arith, is, within, same)
        | inr none ↦ absurd (none_in_nil place none)
      ]
    ];
  }

  -- there is one place more, which is listed
  pub place_added : AreListed (list ++ length flags ∷ []) (flags ++ true ∷ [])
  place_added = record {
    few = let few = are.few in let more = one_more_set flags in let longer = length_push list (length flags) in omega arith;
    all = λ place is. elim (cases_lt place (length flags)) as (λ _. Contains (list ++ length flags ∷ []) place) [
      | inl below ↦ Contains-append_left list (length flags ∷ []) place (are.all place (sym (get_or_append_left flags (true ∷ []) false place below) ∙ is))
      | inr above ↦ elim (cases_eq place (length flags)) as (λ _. Contains (list ++ length flags ∷ []) place) [
        | inl same ↦ subst (Contains (list ++ length flags ∷ [])) (sym same) (Contains-push list (length flags))
        | inr other ↦ let longer = length_push flags true in let past = get_or_past (flags ++ true ∷ []) place false (omega (arith, longer, above, other)) in absurd (cc (past, is))
      ]
    ];
    within = λ place member. let longer = length_push flags true in elim (Contains-append_cases list (length flags ∷ []) place member) as (λ _. place < length (flags ++ true ∷ [])) [
      | inl old ↦ let inside = are.within place old in omega arith
      | inr new ↦ elim (first_or_later (length flags) [] place new) as (λ _. place < length (flags ++ true ∷ [])) [
        | inl is ↦ omega (arith, is, longer)
        | inr none ↦ absurd (none_in_nil place none)
      ]
    ];
  }

  -- one is listed no more
  module _ (k i : ℕ) (inside : k < length list) (is : i ≡ get_or list k i) where
    parted : IsPermutation list (i ∷ swap_remove list k i)
    parted = IsPermutation-swap_remove list k i inside is

    pub at_flag : i < length flags
    at_flag = are.within i (k, inside, sym is)

    pub unlisted : AreListed (swap_remove list k i) (set flags i false)
    unlisted = record {
      few = let few = are.few in let fewer = one_cleared flags i in let shorter = length_permutation list (i ∷ swap_remove list k i) parted in omega arith;
      all = λ place on. elim (cases_eq place i) as (λ _. Contains (swap_remove list k i) place) [
        | inl same ↦
            let off = ap (λ p. get_or (set flags i false) p false) same ∙ get_or-set_same flags i false false at_flag in
            absurd (cc (off, on))
        | inr other ↦
            let was = Contains-permutation list (i ∷ swap_remove list k i) place parted (are.all place (sym (get_or-set_other flags i place false false other) ∙ on)) in
            elim (first_or_later i (swap_remove list k i) place was) as (λ _. Contains (swap_remove list k i) place) [
              | inl same ↦ absurd (other (sym same))
              | inr later ↦ later
            ]
      ];
      within = λ place member.
          let same = length-set flags i false in
          let inside = are.within place (Contains-permutation (i ∷ swap_remove list k i) list place (IsPermutation-sym list (i ∷ swap_remove list k i) parted) (there i (swap_remove list k i) place member)) in
          omega arith;
    }

-- the same places are listed
pub listed_still : (gs : Gifts) (old list : List ℕ) (were flags : List Bool) → list ≡ old → flags ≡ were → AreListedFor old were gs → AreListedFor list flags gs
listed_still gs old list were flags same alike are =
    subst (λ (xs : List ℕ). AreListedFor xs flags gs) (sym same) (subst (λ (bs : List Bool). AreListedFor old bs gs) (sym alike) are)

pub none_for_none : (list : List ℕ) (flags : List Bool) → list ≡ [] → flags ≡ [] → AreListedFor list flags []
none_for_none list flags no_list no_flags = record {
  places = none_listed list flags no_list no_flags;
  size = ap length no_flags;
  coming = λ place g at on. cc at;
}

-- what is written at one place is read at no other
read_other : {X : Type 0} (xs : List X) (i j : ℕ) (x : X) → j ≢ i → slice_get (set xs i x) j ≡ slice_get xs j
read_other [] i j x other = refl
read_other (y ∷ ys) zero zero x other = absurd (other refl)
read_other (y ∷ ys) zero (suc j) x other = refl
read_other (y ∷ ys) (suc i) zero x other = refl
read_other (y ∷ ys) (suc i) (suc j) x other = read_other ys i j x (λ same. other (ap suc same))

read_front : {X : Type 0} (xs ys : List X) (i : ℕ) → i < length xs → slice_get (xs ++ ys) i ≡ slice_get xs i
read_front [] ys i within = absurd (omega arith)
read_front (x ∷ xs) ys zero within = refl
read_front (x ∷ xs) ys (suc i) within = read_front xs ys i (omega arith)

module _ (gs : Gifts) (list : List ℕ) (flags : List Bool) (are : AreListedFor list flags gs) where
  -- a gift is written whose place is listed
  pub listed_told : (i : ℕ) (g : Gift) (after : List ℕ) → i < length flags → AreListed after (set flags i true) → AreListedFor after (set flags i true) (set gs i g)
  listed_told i g after within places = record {
    places = places;
    size = length-set flags i true ∙ are.size ∙ sym (length-set gs i g);
    coming = λ place x at on. elim (cases_eq place i) as (λ _. get_or (set flags i true) place false ≡ true) [
      | inl same ↦ ap (λ p. get_or (set flags i true) p false) same ∙ get_or-set_same flags i true false within
      | inr other ↦ get_or-set_other flags i place true false other ∙ are.coming place x (sym (read_other gs i place g other) ∙ at) on
    ];
  }

  -- one more gift, whose place is listed
  pub listed_longer : (g : Gift) (after : List ℕ) → AreListed after (flags ++ true ∷ []) → AreListedFor after (flags ++ true ∷ []) (gs ++ g ∷ [])
  listed_longer g after places = record {
    places = places;
    size = let size = are.size in let more = length_push flags true in let longer = length_push gs g in omega arith;
    coming = λ place x at on.
        let size = are.size in
        let longer = length_push gs g in
        let inside = slice_get_within (gs ++ g ∷ []) place x at in
        elim (cases_lt place (length flags)) as (λ _. get_or (flags ++ true ∷ []) place false ≡ true) [
          | inl below ↦ get_or_append_left flags (true ∷ []) false place below ∙ are.coming place x (sym (read_front gs (g ∷ []) place (omega (arith, below, size))) ∙ at) on
          | inr above ↦ get_or_push flags true false place (omega (arith, above, inside, size, longer))
        ];
  }

  -- a place is listed no more at which nothing comes
  pub listed_less : (k i : ℕ) (g : Gift) → k < length list → i ≡ get_or list k i → slice_get gs i ≡ Some g → comes g ≡ false → AreListedFor (swap_remove list k i) (set flags i false) gs
  listed_less k i g inside is there off = record {
    places = unlisted list flags are.places k i inside is;
    size = length-set flags i false ∙ are.size;
    coming = λ place x at on. elim (cases_eq place i) as (λ _. get_or (set flags i false) place false ≡ true) [
      | inl same ↦
          let at_one : slice_get gs place ≡ Some g = ap (slice_get gs) same ∙ there in
          let one : x ≡ g = cc (at, at_one) in
          let told : comes g ≡ true = ap comes (sym one) ∙ on in
          absurd (cc (off, told))
      | inr other ↦ get_or-set_other flags i place false false other ∙ are.coming place x at on
    ];
  }

-- from the end of a list on something comes at all places, and at one more where it comes there or where it is listed no more
pub come_from_end : (gs : Gifts) (list : List ℕ) (start : ℕ) → start ≡ length list → ComeFrom gs list start
come_from_end gs list start end k g from within at = absurd (omega (arith, end, from, within))

module _ (gs : Gifts) (list : List ℕ) (k : ℕ) (inside : k < length list) (later : ComeFrom gs list (k + 1)) where
  pub come_here : (i : ℕ) (g : Gift) → i ≡ get_or list k i → slice_get gs i ≡ Some g → comes g ≡ true → ComeFrom gs list k
  come_here i g is there on j x from within at = elim (cases_eq j k) as (λ _. comes x ≡ true) [
    | inl same ↦
        let read : get_or list j 0 ≡ i = ap (λ n. get_or list n 0) same ∙ sym (get_or_read list k i inside is 0) in
        let at_one : slice_get gs (get_or list j 0) ≡ Some g = ap (slice_get gs) read ∙ there in
        let one : g ≡ x = cc (at, at_one) in
        ap comes (sym one) ∙ on
    | inr other ↦ later j x (omega (arith, from, other)) within at
  ]

  pub come_without : (i : ℕ) → ComeFrom gs (swap_remove list k i) k
  come_without i j x from within at =
      let n : ℕ = length list - 1 in
      let last : ℕ = get_or list n i in
      let long = length-set list k last in
      let shorter : length (swap_remove list k i) ≡ n = length-take-le n (set list k last) (omega (arith, long)) in
      let below : j < n = omega (arith, within, shorter) in
      let read : get_or (swap_remove list k i) j 0 ≡ get_or (set list k last) j 0 = get_or-take n (set list k last) j 0 below in
      elim (cases_eq j k) as (λ _. comes x ≡ true) [
        | inl same ↦
            let end : get_or list n 0 ≡ last = get_or_default list n 0 i (omega (arith, below)) in
            let is : get_or (set list k last) j 0 ≡ last = ap (λ m. get_or (set list k last) m 0) same ∙ get_or-set_same list k last 0 inside in
            later n x (omega (arith, below, same)) (omega (arith, below)) (ap (slice_get gs) (end ∙ sym is ∙ sym read) ∙ at)
        | inr other ↦
            let is : get_or (set list k last) j 0 ≡ get_or list j 0 = get_or-set_other list k j last 0 other in
            later j x (omega (arith, from, other)) (omega (arith, below)) (ap (slice_get gs) (sym is ∙ sym read) ∙ at)
      ]

-- the same of entries of a table
pub listed_written : (es : Entries) (list : List ℕ) (flags : List Bool) → AreListedFor list flags (listed es) → (i : ℕ) (c w : Counts) → slice_get (map (λ (e : GiftKey × Counts). e.1) es) i ≡ Some c
    → (after : List ℕ) (told : List Bool) → AreListed after told → told ≡ set flags i true → AreListedFor after told (listed (set_value_at es i w))
listed_written es list flags are i c w at after told places is =
    let size = are.size in
    let count = length-map es gift_in in
    let counts = length-map es (λ (e : GiftKey × Counts). e.1) in
    let inside = slice_get_within (map (λ (e : GiftKey × Counts). e.1) es) i c at in
    let gs : Gifts = set (listed es) i (gift_in (get_or (keys_of es) i some_key, w)) in
    let set_told = listed_told (listed es) list flags are i (gift_in (get_or (keys_of es) i some_key, w)) after (omega (arith, size, count, counts, inside)) (subst (AreListed after) is places) in
    subst (λ (ys : Gifts). AreListedFor after told ys) (sym (set_at es i c w at)) (subst (λ (bs : List Bool). AreListedFor after bs gs) (sym is) set_told)

-- and of an entry more
pub listed_added : (gs now : Gifts) (list : List ℕ) (flags : List Bool) → AreListedFor list flags gs → (g : Gift) → now ≡ gs ++ g ∷ [] → (after : List ℕ) (told : List Bool) → AreListed after told → told ≡ flags ++ true ∷ []
    → AreListedFor after told now
listed_added gs now list flags are g more after told places is =
    subst (λ (ys : Gifts). AreListedFor after told ys) (sym more)
    (subst (λ (bs : List Bool). AreListedFor after bs (gs ++ g ∷ [])) (sym is) (listed_longer gs list flags are g after (subst (AreListed after) is places)))
