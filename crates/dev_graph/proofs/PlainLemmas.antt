-- what one more plain name, without a device and without claims, leaves and may want
use Rattle.std.proofs.Common.{arith, ℕ, zero, suc, ◌<◌, ◌+◌, ◌≡◌, inl, inr, Bool, true, false, cond, List, [], ◌∷◌, ◌++◌, map, filter, length, get_or, Contains, Some, None, Result, Ok, Err, OnOk, refl, sym, ap, subst, ◌∙◌, length-append}
use Rattle.std.specs.Prelude.{◌&&◌, ◌||◌, is_some, nat_lt, bytes_eq}
use Rattle.std.specs.List.{flat_map, list_any}
use Rattle.std.specs.Option.{option_and_then, option_map_or}
use Rattle.std.proofs.lemmas.Grind.{flat_map-append}
use Rattle.std.proofs.lemmas.Bool.{cases_eq}
use Rattle.std.proofs.lemmas.List.{length-map, map-append}
use Rattle.std.proofs.lemmas.List.Elements.{Contains-append_cases, Contains-append_left, Contains-append_right}
use Rattle.kern_model.specs.declared.object.Object.{Object}
use Rattle.kern_model.specs.declared.object.Object.TheVariants as object
use Rattle.kern_model.specs.ObjectOrder.{Has, set_of}
use Rattle.kern_model.proofs.MemberLemmas.{here, there, none_in_nil, first_or_later, map_member, member_of_map}
use Rattle.kern_model.proofs.SetLemmas.{set_of_member, member_of_set}
use Rattle.kern_model.proofs.TestLemmas.{below_test, above_test, bytes_same}
use Rattle.kern_calls.proofs.FilterLemmas.{from_filter, in_filter}
use Rattle.net_rows.specs.Dotted.{vlan_parts}
use Rattle.net_rows.specs.declared.rows.NameKind.TheVariants.{Plain, Vlan}
use Rattle.net_rows.specs.declared.rows.NameRow.{NameRow}
use Rattle.net_rules.specs.Rows.{row_at, rowless}
use Rattle.net_rules.specs.Standing.{standing_of, standing_of_row}
use Rattle.net_rules.specs.Available.{opens}
use Rattle.net_rules.specs.Levels.{by_levels}
use Rattle.graph_objects.specs.declared.slot.Wish.{Wish}
use Rattle.graph_objects.specs.Grown.{CanExpect, HasMore}
use Rattle.graph_objects.specs.Keys.{key_of}
use Rattle.graph_objects.specs.Slots.{wished_set}
use Rattle.graph_objects.specs.Marks.{is_used}
use Rattle.graph_objects.proofs.SteadyLemmas.{grounded_within}
use Rattle.graph_rules.specs.State.{Named, Known, named_in, device_among, claims_among, name_list, names_in, place_among, claims_in}
use Rattle.graph_rules.specs.After.{with_name}
use Rattle.graph_rules.specs.Answers.{standing_in, stands_in, given_ports, port_of, has_device, available_in, row_names, used_in}
use Rattle.graph_counts.specs.Counted.{id_of, name_of}
use Rattle.graph_counts.proofs.GrowLemmas.{absent, names_more}
use Rattle.graph_counts.proofs.IdLemmas.{id_in_front, id_at, no_row}
use Rattle.graph_counts.proofs.SoundLemmas.{in_front}
use Rattle.graph_tables.specs.Wishes.{May, may_alone, mays, mays_of}
use Rattle.graph_tables.proofs.MayLemmas.{mays_apart, mays_grounded}
use Rattle.graph_tables.specs.Wished.{wish_in}
use Rattle.graph_tables.specs.Lists.{AreUsed, HaveSame}
use Rattle.graph_tables.specs.Whole.{IsWhole}
use Rattle.graph_tables.proofs.DecideLemmas.{first_known, second_known, id_inside, filter_member}
use Rattle.graph_tables.proofs.RowLemmas.{mays_row, rowless_mays}
use Rattle.dev_graph.specs.Added.{added, plain_wish}
use Rattle.dev_graph.proofs.AddLemmas.{whole_added}

-- what is told of names stays
abbrev one_more : (x : List ℕ) → Named
one_more x = record { name = x; device = None; claims = 0 }

device_at_end : (x y : List ℕ) (b : Bool) → option_and_then (λ (n : Named). n.device) (cond b (Some (one_more x)) None) ≡ None
device_at_end x y true = refl
device_at_end x y false = refl

device_more : (ns : List Named) (x y : List ℕ) → device_among (with_name ns x) y ≡ device_among ns y
device_more [] x y = device_at_end x y (bytes_eq x y)
device_more (n ∷ ns) x y = by (bytes_eq n.name y) (device_more ns x y)
  where
    by : (b : Bool) → option_and_then (λ (m : Named). m.device) (named_in (with_name ns x) y) ≡ option_and_then (λ (m : Named). m.device) (named_in ns y)
        → option_and_then (λ (m : Named). m.device) (cond b (Some n) (named_in (with_name ns x) y)) ≡ option_and_then (λ (m : Named). m.device) (cond b (Some n) (named_in ns y))
    by true rest = refl
    by false rest = rest

claims_at_end : (x y : List ℕ) (b : Bool) → option_map_or (λ (n : Named). n.claims) (cond b (Some (one_more x)) None) 0 ≡ 0
claims_at_end x y true = refl
claims_at_end x y false = refl

claims_more : (ns : List Named) (x y : List ℕ) → claims_among (with_name ns x) y ≡ claims_among ns y
claims_more [] x y = claims_at_end x y (bytes_eq x y)
claims_more (n ∷ ns) x y = by (bytes_eq n.name y) (claims_more ns x y)
  where
    by : (b : Bool) → option_map_or (λ (m : Named). m.claims) (named_in (with_name ns x) y) 0 ≡ option_map_or (λ (m : Named). m.claims) (named_in ns y) 0
        → option_map_or (λ (m : Named). m.claims) (cond b (Some n) (named_in (with_name ns x) y)) 0 ≡ option_map_or (λ (m : Named). m.claims) (cond b (Some n) (named_in ns y)) 0
    by true rest = refl
    by false rest = rest

-- so the same names are used
module _ (s : Known) (x : List ℕ) where
  device_stays : (y : List ℕ) → has_device (added s x) y ≡ has_device s y
  device_stays y = ap is_some (device_more s.names x y)

  available_stays : (y : List ℕ) → available_in (added s x) y ≡ available_in s y
  unfolding available_in
  available_stays y = λ i. by_levels 8 (λ below name. opens (device_stays name i) below (standing_in s name)) y

  pub used_stays : (y : List ℕ) → used_in (added s x) y ≡ used_in s y
  unfolding used_in
  used_stays y =
      λ i. by_levels 8 (λ above name. available_stays name i && (nat_lt 0 (claims_more s.names x name i) || list_any (λ upper. stands_in s name upper && above upper) (row_names s))) y

-- a name without a row and without a device is not used
first_level : (n : ℕ) (step : (List ℕ → Bool) → List ℕ → Bool) (name : List ℕ) → by_levels (suc n) step name ≡ step (by_levels n step) name
unfolding by_levels
first_level n step name = refl

closed_by : (b : Bool) (below : List ℕ → Bool) (more : List (List ℕ)) → opens false below (standing_of (cond b (Vlan None 0) Plain) b more) ≡ false
closed_by true below more = refl
closed_by false below more = refl

-- a name that is not among the names has no device
no_device_by : (ns : List Named) (x : List ℕ) → (Contains (name_list ns) x → ⊥) → device_among ns x ≡ None
no_device_by [] x off = refl
no_device_by (n ∷ ns) x off = by (bytes_eq n.name x) refl (no_device_by ns x (λ later. off (there n.name (name_list ns) x later)))
  where
    by : (b : Bool) → bytes_eq n.name x ≡ b → device_among ns x ≡ None → option_and_then (λ (m : Named). m.device) (cond b (Some n) (named_in ns x)) ≡ None
    by true is rest = absurd (off (subst (Contains (n.name ∷ name_list ns)) (bytes_same n.name x is) (here n.name (name_list ns))))
    by false is rest = rest

module _ (s : Known) (x : List ℕ) (whole : IsWhole s) (new : place_among s.names x ≡ None) where
  abbrev t : Known
  t = added s x

  off : Contains (names_in s) x → ⊥
  off = absent s.names x new

  row_less : row_at s.rows x ≡ rowless x
  row_less = no_row s.rows x (λ m. off (in_front s whole.names x m))

  not_available : available_in s x ≡ false
  unfolding available_in
  not_available =
      first_level 7 (λ below name. opens (has_device s name) below (standing_in s name)) x
      ∙ ap (λ d. opens (is_some d) (by_levels 7 (λ below name. opens (has_device s name) below (standing_in s name))) (standing_in s x)) (no_device_by s.names x off)
      ∙ ap (λ (r : NameRow). opens false (by_levels 7 (λ below name. opens (has_device s name) below (standing_in s name))) (standing_of_row r (given_ports (map port_of s.radio) x))) row_less
      ∙ closed_by (is_some (vlan_parts x)) (by_levels 7 (λ below name. opens (has_device s name) below (standing_in s name))) (given_ports (map port_of s.radio) x)

  not_used : used_in s x ≡ false
  unfolding used_in
  not_used =
      first_level 7 (λ above name. available_in s name && (nat_lt 0 (claims_in s name) || list_any (λ upper. stands_in s name upper && above upper) (row_names s))) x
      ∙ ap (λ b. b && (nat_lt 0 (claims_in s x) || list_any (λ upper. stands_in s x upper
      && by_levels 7 (λ above name. available_in s name && (nat_lt 0 (claims_in s name) || list_any (λ up. stands_in s name up && above up) (row_names s))) upper) (row_names s))) not_available

  whole_now : IsWhole t
  whole_now = whole_added s x whole new

  pub as_many : length t.names ≡ length s.names + 1
  as_many = length-append s.names (one_more x ∷ [])

  names_now : names_in t ≡ names_in s ++ x ∷ []
  names_now = names_more s.names x

  -- what the other names may want stays
  may_stays : (m : May) → Contains (mays s) m → wish_in t m ≡ wish_in s m
  may_stays m member =
      let first : id_of (names_in t) m.first ≡ id_of (names_in s) m.first = ap (λ ns. id_of ns m.first) names_now ∙ id_in_front (names_in s) (x ∷ []) m.first (first_known s whole.names m member) in
      let second : id_of (names_in t) m.second ≡ id_of (names_in s) m.second = ap (λ ns. id_of ns m.second) names_now ∙ id_in_front (names_in s) (x ∷ []) m.second (second_known s whole.names m member) in
      let all : wish_in t m ≡ wish_in s m = λ i. record { object = m.object; first = first i; second = second i; wanted = used_stays s x m.first i && used_stays s x m.second i } in
      all

  mays_now : mays t ≡ mays s ++ mays_of s x
  mays_now = ap (flat_map (mays_of s)) names_now ∙ flat_map-append (mays_of s) (names_in s) (x ∷ []) ∙ ap (λ ms. mays s ++ ms) (last (mays_of s x))
    where
      last : (ms : List May) → ms ++ [] ≡ ms
      last [] = refl
      last (m ∷ ms) = ap (λ (ns : List May). m ∷ ns) (last ms)

  plain_mays : (b : Bool) → is_some (vlan_parts x) ≡ b → mays_of s x ≡ cond b [] (may_alone x (object.Up x) ∷ [])
  plain_mays b is = mays_row s (rowless x) x row_less refl ∙ rowless_mays s.vlans s.radio x b is

  at_end : (ns : List (List ℕ)) → get_or (ns ++ x ∷ []) (length ns) [] ≡ x
  at_end [] = refl
  at_end (n ∷ ns) = at_end ns

  as_many_listed : length (names_in s) ≡ length s.names
  as_many_listed = length-map s.names (λ (n : Named). n.name)

  last_name : name_of t (length s.names) ≡ x
  last_name = ap (λ ns. get_or ns (length s.names) []) names_now ∙ ap (λ k. get_or (names_in s ++ x ∷ []) k []) (sym as_many_listed) ∙ at_end (names_in s)

  name_in_front : (ns : List (List ℕ)) (k : ℕ) → k < length ns → get_or (ns ++ x ∷ []) k [] ≡ get_or ns k []
  name_in_front [] k h = absurd (omega (arith, h))
  name_in_front (n ∷ ns) zero h = refl
  name_in_front (n ∷ ns) (suc k) h = name_in_front ns k (omega (arith, h))

  name_before : (id : ℕ) → id < length s.names → name_of t id ≡ name_of s id
  name_before id inside = ap (λ ns. get_or ns id []) names_now ∙ name_in_front (names_in s) id (omega (arith, inside, as_many_listed))

  last_id : id_of (names_in t) x ≡ length s.names
  last_id =
      let size : length (names_in t) ≡ length s.names + 1 = length-map t.names (λ (n : Named). n.name) ∙ as_many in
      ap (id_of (names_in t)) (sym last_name) ∙ id_at (names_in t) (length s.names) whole_now.names.names.once (omega (arith, size))

  plain_is : wish_in t (may_alone x (object.Up x)) ≡ plain_wish x (length s.names)
  plain_is =
      let unused : used_in t x ≡ false = used_stays s x x ∙ not_used in
      let all : wish_in t (may_alone x (object.Up x)) ≡ plain_wish x (length s.names) = λ i. record { object = object.Up x; first = last_id i; second = last_id i; wanted = unused i && unused i } in
      all

  wishes_stay : map (wish_in t) (mays s) ≡ map (wish_in s) (mays s)
  wishes_stay = each (mays s) (λ m member. member)
    where
      each : (ms : List May) → ((m : May) → Contains ms m → Contains (mays s) m) → map (wish_in t) ms ≡ map (wish_in s) ms
      each [] among = refl
      each (m ∷ ms) among = λ i. may_stays m (among m (here m ms)) i ∷ each ms (λ n c. among n (there m ms n c)) i

  wishes_now : (b : Bool) → is_some (vlan_parts x) ≡ b → map (wish_in t) (mays t) ≡ map (wish_in s) (mays s) ++ cond b [] (plain_wish x (length s.names) ∷ [])
  wishes_now b is =
      ap (map (wish_in t)) (mays_now ∙ ap (λ ms. mays s ++ ms) (plain_mays b is))
      ∙ map-append (wish_in t) (mays s) (cond b [] (may_alone x (object.Up x) ∷ []))
      ∙ ap (λ ws. ws ++ map (wish_in t) (cond b [] (may_alone x (object.Up x) ∷ []))) wishes_stay
      ∙ ap (λ ws. map (wish_in s) (mays s) ++ ws) (by b)
    where
      by : (b : Bool) → map (wish_in t) (cond b [] (may_alone x (object.Up x) ∷ [])) ≡ cond b [] (plain_wish x (length s.names) ∷ [])
      by true = refl
      by false = ap (λ (w : Wish). w ∷ []) plain_is

  -- of a name of the form X.N nothing is expected
  pub dotted_stays : (ws : List Wish) → is_some (vlan_parts x) ≡ true → HaveSame ws (map (wish_in s) (mays s)) → HaveSame ws (map (wish_in t) (mays t))
  dotted_stays ws is same = subst (HaveSame ws) (sym (wishes_now true is ∙ last (map (wish_in s) (mays s)))) same
    where
      last : (vs : List Wish) → vs ++ [] ≡ vs
      last [] = refl
      last (v ∷ vs) = ap (λ (us : List Wish). v ∷ us) (last vs)

  -- of another one that it is up
  module _ (plain : is_some (vlan_parts x) ≡ false) (ws : List Wish) (same : HaveSame ws (map (wish_in s) (mays s))) where
    abbrev up : May
    up = may_alone x (object.Up x)

    up_there : Contains (mays t) up
    up_there = subst (λ ms. Contains ms up) (sym (mays_now ∙ ap (λ ms. mays s ++ ms) (plain_mays false plain))) (Contains-append_right (mays s) (up ∷ []) up (here up []))

    was_there : (m : May) → Contains (mays s) m → Contains (mays t) m
    was_there m member = subst (λ ms. Contains ms m) (sym mays_now) (Contains-append_left (mays s) (mays_of s x) m member)

    within : (o : Object) → Has (wished_set (plain_wish x (length s.names) ∷ ws)) o → Has (set_of (map (λ (m : May). m.object) (mays t))) o
    within o has =
        let all : List Wish = plain_wish x (length s.names) ∷ ws in
        let from = member_of_map (λ (w : Wish). w.object) all o (member_of_set (map (λ (w : Wish). w.object) all) o has) in
        set_of_member (map (λ (m : May). m.object) (mays t)) o (elim (first_or_later (plain_wish x (length s.names)) ws from.source from.member) as (λ _. Contains (map (λ (m : May). m.object) (mays t)) o) [
          | inl first ↦ subst (Contains (map (λ (m : May). m.object) (mays t))) (ap (λ (w : Wish). w.object) first ∙ from.same) (map_member (λ (m : May). m.object) (mays t) up up_there)
          | inr later ↦
              let was = member_of_map (wish_in s) (mays s) from.source ((same from.source).0 later) in
              subst (Contains (map (λ (m : May). m.object) (mays t))) (ap (λ (w : Wish). w.object) was.same ∙ from.same) (map_member (λ (m : May). m.object) (mays t) was.source (was_there was.source was.member))
        ])

    pub can_expect_plain : CanExpect ws (plain_wish x (length s.names))
    can_expect_plain = record {
      lower = refl;
      apart = λ w member key.
          let was = member_of_map (wish_in s) (mays s) w ((same w).0 member) in
          let keys : key_of was.source.object ≡ key_of (object.Up x) = ap (λ (v : Wish). key_of v.object) was.same ∙ key in
          let one : was.source ≡ up = mays_apart t whole_now.names whole_now.vlans was.source up (was_there was.source was.member) up_there keys in
          absurd (off (subst (Contains (names_in s)) (ap (λ (m : May). m.first) one) (first_known s whole.names was.source was.member)));
      grounded = grounded_within (wished_set (plain_wish x (length s.names) ∷ ws)) (set_of (map (λ (m : May). m.object) (mays t))) within (mays_grounded t whole_now.names);
    }

    pub plain_expected : (vs : List Wish) → HasMore ws vs (plain_wish x (length s.names)) → HaveSame vs (map (wish_in t) (mays t))
    plain_expected vs more = subst (HaveSame vs) (sym (wishes_now false plain)) (λ w. (
      (λ m. elim ((more w).0 m) as (λ _. Contains (map (wish_in s) (mays s) ++ plain_wish x (length s.names) ∷ []) w) [
        | inl was ↦ Contains-append_left (map (wish_in s) (mays s)) (plain_wish x (length s.names) ∷ []) w ((same w).0 was)
        | inr one ↦ Contains-append_right (map (wish_in s) (mays s)) (plain_wish x (length s.names) ∷ []) w (subst (Contains (plain_wish x (length s.names) ∷ [])) (sym one) (here (plain_wish x (length s.names)) []))
      ]),
      (λ m. elim (Contains-append_cases (map (wish_in s) (mays s)) (plain_wish x (length s.names) ∷ []) w m) as (λ _. Contains vs w) [
        | inl was ↦ (more w).1 (inl ((same w).1 was))
        | inr one ↦ elim (first_or_later (plain_wish x (length s.names)) [] w one) as (λ _. Contains vs w) [
          | inl is ↦ (more w).1 (inr (sym is))
          | inr none ↦ absurd (none_in_nil w none)
        ]
      ]),
    ))

    pub expected_or_not : {A E : Type 0} (r : Result A E) (vs : List Wish) → OnOk r (HasMore ws vs (plain_wish x (length s.names))) → OnOk r (HaveSame vs (map (wish_in t) (mays t)))
    expected_or_not (Ok a) vs more = plain_expected vs more
    expected_or_not (Err e) vs more = tt

  below_of : (a b : ℕ) → a < b → nat_lt a b ≡ true
  below_of a b h = by (nat_lt a b) refl
    where
      by : (t : Bool) → nat_lt a b ≡ t → nat_lt a b ≡ true
      by true is = is
      by false is = absurd (omega (arith, h, above_test a b is))

  -- and it is forgotten again
  old_below : (w : Wish) → Contains (map (wish_in s) (mays s)) w → nat_lt w.first (length s.names) ≡ true
  old_below w member =
      let was = member_of_map (wish_in s) (mays s) w member in
      let inside : id_of (names_in s) was.source.first < length s.names = id_inside s was.source.first (first_known s whole.names was.source was.member) in
      subst (λ (v : Wish). nat_lt v.first (length s.names) ≡ true) was.same (below_of (id_of (names_in s) was.source.first) (length s.names) inside)

  pub plain_forgotten : (vs : List Wish) → HaveSame vs (map (wish_in t) (mays t)) → HaveSame (filter (λ (w : Wish). nat_lt w.first (length s.names)) vs) (map (wish_in s) (mays s))
  plain_forgotten vs same w = (
    (λ m.
        let is = from_filter (λ (v : Wish). nat_lt v.first (length s.names)) vs w m in
        kept (is_some (vlan_parts x)) refl is ((same w).0 (filter_member (λ (v : Wish). nat_lt v.first (length s.names)) vs w m))),
    (λ m. in_filter (λ (v : Wish). nat_lt v.first (length s.names)) vs w
        ((same w).1 (subst (λ ws. Contains ws w) (sym (wishes_now (is_some (vlan_parts x)) refl)) (Contains-append_left (map (wish_in s) (mays s)) (cond (is_some (vlan_parts x)) [] (plain_wish x (length s.names) ∷ [])) w m)))
        (old_below w m)),
  )
    where
      last_one : (b : Bool) → Contains (cond b [] (plain_wish x (length s.names) ∷ [])) w → plain_wish x (length s.names) ≡ w
      last_one true h = absurd (none_in_nil w h)
      last_one false h = elim (first_or_later (plain_wish x (length s.names)) [] w h) as (λ _. plain_wish x (length s.names) ≡ w) [
        | inl is ↦ is
        | inr none ↦ absurd (none_in_nil w none)
      ]

      kept : (b : Bool) → is_some (vlan_parts x) ≡ b → nat_lt w.first (length s.names) ≡ true → Contains (map (wish_in t) (mays t)) w → Contains (map (wish_in s) (mays s)) w
      kept b is below m = elim (Contains-append_cases (map (wish_in s) (mays s)) (cond b [] (plain_wish x (length s.names) ∷ [])) w (subst (λ ws. Contains ws w) (wishes_now b is) m)) as (λ _. Contains (map (wish_in s) (mays s)) w) [
        | inl was ↦ was
        | inr one ↦
            let same_first : length s.names ≡ w.first = ap (λ (v : Wish). v.first) (last_one b one) in
            let less : w.first < length s.names = below_test w.first (length s.names) below in
            absurd (omega (arith, same_first, less))
      ]

  -- its mark of use says that it is not used
  pub used_more : (used : List Bool) → length used ≡ length s.names → AreUsed s used → AreUsed t (used ++ false ∷ [])
  used_more used size are id inside = elim (cases_eq id (length s.names)) as (λ _. is_used (used ++ false ∷ []) id ≡ used_in t (name_of t id)) [
    | inl last ↦
        ap (is_used (used ++ false ∷ [])) (last ∙ sym size) ∙ last_mark used
        ∙ sym (ap (λ k. used_in t (name_of t k)) last ∙ ap (used_in t) last_name ∙ used_stays s x x ∙ not_used)
    | inr other ↦
        let before : id < length s.names = omega (arith, inside, as_many, other) in
        in_front_of used id (omega (arith, before, size)) ∙ are id before ∙ sym (used_stays s x (name_of s id)) ∙ ap (used_in t) (sym (name_before id before))
  ]
    where
      last_mark : (us : List Bool) → is_used (us ++ false ∷ []) (length us) ≡ false
      last_mark [] = refl
      last_mark (u ∷ us) = last_mark us

      in_front_of : (us : List Bool) (k : ℕ) → k < length us → is_used (us ++ false ∷ []) k ≡ is_used us k
      in_front_of [] k h = absurd (omega (arith, h))
      in_front_of (u ∷ us) zero h = refl
      in_front_of (u ∷ us) (suc k) h = in_front_of us k (omega (arith, h))
