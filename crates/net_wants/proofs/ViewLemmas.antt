-- What interfaces use, and what is under used names.
use Rattle.std.proofs.Common.{◌≡◌, ℕ, ◌+◌, ◌<◌, List, [], ◌∷◌, length, map, take, get_or, Bool, true, false, cond, Option, Some, None, refl, sym, ap, ◌∙◌, add-one}
use Rattle.std.specs.Prelude.{◌&&◌, ◌||◌, bytes_eq, is_some, filter}
use Rattle.std.specs.List.{list_any}
use Rattle.std.specs.Ordering.{nat_cmp}
use Rattle.std.specs.Cmp.Lexicographic.{slice_cmp, texts_ties}
use Rattle.std.specs.BTreeMap.{BTreeMap, get, is_at}
use Rattle.std.specs.BTreeSet.{BTreeSet, contains}
use Rattle.std.proofs.lemmas.List.{map-append}
use Rattle.std.proofs.lemmas.List.Elements.{filter-append}
use Rattle.std.proofs.lemmas.List.Folds.{list_any-append}
use Rattle.net_rows.specs.declared.dotted.VlanParts.{VlanParts}
use Rattle.net_rows.specs.Dotted.{vlan_parts}
use Rattle.net_rows.specs.declared.rows.NameRow.{NameRow}
use Rattle.net_rows.specs.declared.rows.NameKind.{NameKind}
use Rattle.net_rows.specs.declared.rows.NameKind.TheVariants.{Plain, Bridge, Vlan}
use Rattle.net_rows.specs.declared.rows.InterfaceRow.{InterfaceRow}
use Rattle.net_rules.specs.Facts.{Facts}
use Rattle.net_rules.specs.Firsts.{firsts}
use Rattle.net_rules.specs.Levels.{by_levels}
use Rattle.net_rules.specs.Rows.{is_name, names_of}
use Rattle.net_rules.specs.RadioPorts.{RadioPort, device_of, radio_ports_of}
use Rattle.net_rules.specs.Standing.{standing_of, standing_of_row, lowers_of, stands}
use Rattle.net_rules.specs.Available.{available}
use Rattle.net_rules.specs.Interfaces.{is_claimed, is_up, l3_device_of}
use Rattle.net_rules.specs.Used.{uses, serves_at, used}
use Rattle.net_view.specs.Places.{HasPlaces, is_place, named}
use Rattle.net_view.proofs.PortLemmas.{firsts_more, more_is, row_is, row_is_none}
use Rattle.net_view.proofs.LevelLemmas.{standing_is}
use Rattle.net_view.proofs.NameLemmas.{or_none}

pub any_firsts_more : {X : Type 0} (key : X → List ℕ) (p : X → Bool) (xs : List X) (places : BTreeMap (List ℕ) ℕ) (i : ℕ) (x : X) → HasPlaces places (map key xs) → i < length xs → x ≡ get_or xs i x
    → list_any p (firsts key (take (i + 1) xs)) ≡ (list_any p (firsts key (take i xs)) || list_any p (cond (is_place i (get (slice_cmp nat_cmp) places (key x))) (x ∷ []) []))
any_firsts_more {X} key p xs places i x has within is =
    ap (list_any p) (firsts_more key xs places i x has within is)
    ∙ list_any-append p (firsts key (take i xs)) (cond (is_place i (get (slice_cmp nat_cmp) places (key x))) (x ∷ []) [])

pub any_names_more : (p : List ℕ → Bool) (rows : List NameRow) (i : ℕ) (row : NameRow) → i < length rows → row ≡ get_or rows i row → list_any p (map (λ (r : NameRow). r.name) (take (i + 1) rows))
    ≡ (list_any p (map (λ (r : NameRow). r.name) (take i rows)) || p row.name)
any_names_more p rows i row within is =
    ap (λ (z : List NameRow). list_any p (map (λ (r : NameRow). r.name) z)) (more_is rows i row within is)
    ∙ ap (list_any p) (map-append (λ (r : NameRow). r.name) (take i rows) (row ∷ []))
    ∙ list_any-append p (map (λ (r : NameRow). r.name) (take i rows)) (row.name ∷ [])
    ∙ ap (λ b. list_any p (map (λ (r : NameRow). r.name) (take i rows)) || b) (or_none (p row.name))

-- ---- what an interface uses

pub uses_is : (facts : Facts) (row : InterfaceRow) (claimed up : Bool) (device l3_device : Option (List ℕ)) → claimed ≡ is_claimed facts row → device ≡ device_of facts row → up ≡ is_up facts row → l3_device ≡ l3_device_of facts row
    → (q : List ℕ)
    → uses facts q row ≡ ((claimed && is_name device q) || (up && is_name l3_device q))
uses_is facts row claimed up device l3_device p d u l q = sym (λ i. (p i && is_name (d i) q) || (u i && is_name (l i) q))

-- ---- what is under a used name

pub serves_is : (facts : Facts) (k : ℕ) (name : List ℕ) (ready claimed under : Bool) → ready ≡ available facts name → claimed ≡ list_any (uses facts name) (firsts (λ row. row.name) facts.conf.interfaces) → under
    ≡ list_any (λ upper. stands facts name upper && by_levels k (serves_at facts) upper) (names_of facts.conf) → (ready && (claimed || under)) ≡ by_levels (k + 1) (serves_at facts) name
unfolding by_levels
serves_is facts k name ready claimed under r c u = (λ i. r i && (c i || u i)) ∙ ap (λ (n : ℕ). by_levels n (serves_at facts) name) (sym (add-one k))

pub nothing_above : (facts : Facts) (names : List (List ℕ)) (q : List ℕ) → false ≡ list_any (λ upper. stands facts q upper && by_levels 0 (serves_at facts) upper) names
unfolding by_levels
nothing_above facts [] q = refl
nothing_above facts (name ∷ names) q = nothing_above facts names q ∙ ap (λ b. b || list_any (λ upper. stands facts q upper && by_levels 0 (serves_at facts) upper) names) (and_never (stands facts q name))
  where
    and_never : (b : Bool) → false ≡ (b && false)
    and_never true = refl
    and_never false = refl

pub is_used_by : (facts : Facts) (name : List ℕ) (b : Bool) → b ≡ by_levels 8 (serves_at facts) name → b ≡ used facts name
unfolding used
is_used_by facts name b h = h

none_lowers : (parts : Option VlanParts) (more : List (List ℕ)) → lowers_of (standing_of (cond (is_some parts) (Vlan None 0) Plain) (is_some parts) more) ≡ []
none_lowers None more = refl
none_lowers (Some parts) more = refl

pub stands_on_none : (facts : Facts) (upper : List ℕ) → ◌≡◌ {A = Option NameRow} None (named (λ r. r.name) facts.conf.names upper) → (q : List ℕ) → stands facts q upper ≡ false
stands_on_none facts upper none q =
    ap (λ r. list_any (λ n. bytes_eq n q) (lowers_of (standing_of_row r (radio_ports_of facts upper)))) (row_is_none facts.conf.names upper none)
    ∙ ap (list_any (λ n. bytes_eq n q)) (none_lowers (vlan_parts upper) (radio_ports_of facts upper))

pub stands_by_row : (facts : Facts) (upper : List ℕ) (row : NameRow) → Some row ≡ named (λ r. r.name) facts.conf.names upper → (q : List ℕ) → stands facts q upper
    ≡ list_any (λ n. bytes_eq n q) (lowers_of (standing_of_row row (radio_ports_of facts upper)))
stands_by_row facts upper row is q = ap (λ r. list_any (λ n. bytes_eq n q) (lowers_of (standing_of_row r (radio_ports_of facts upper)))) (row_is facts.conf.names upper row is)

broken_none : (kind : NameKind) (more : List (List ℕ)) → lowers_of (standing_of kind true more) ≡ []
broken_none Plain more = refl
broken_none (Bridge empty ports) more = refl
broken_none (Vlan lower id) more = refl

pub broken_lowers : (row : NameRow) (more : List (List ℕ)) → row.broken ≡ true → (q : List ℕ) → list_any (λ n. bytes_eq n q) (lowers_of (standing_of_row row more)) ≡ false
broken_lowers row more broken q = ap (λ s. list_any (λ n. bytes_eq n q) (lowers_of s)) (standing_is row row.kind true more refl broken) ∙ ap (list_any (λ n. bytes_eq n q)) (broken_none row.kind more)

pub plain_lowers : (row : NameRow) (more : List (List ℕ)) → row.kind ≡ Plain → (q : List ℕ) → list_any (λ n. bytes_eq n q) (lowers_of (standing_of_row row more)) ≡ false
plain_lowers row more kind q = ap (λ s. list_any (λ n. bytes_eq n q) (lowers_of s)) (standing_is row Plain row.broken more kind refl)

pub bridge_lowers : (row : NameRow) (empty : Bool) (ports more : List (List ℕ)) → row.kind ≡ Bridge empty ports → row.broken ≡ false → (q : List ℕ) → list_any (λ n. bytes_eq n q) (lowers_of (standing_of_row row more))
    ≡ (list_any (λ n. bytes_eq n q) ports || list_any (λ n. bytes_eq n q) more)
bridge_lowers row empty ports more kind sound q = ap (λ s. list_any (λ n. bytes_eq n q) (lowers_of s)) (standing_is row (Bridge empty ports) false more kind sound) ∙ list_any-append (λ n. bytes_eq n q) ports more

pub vlan_lowers : (row : NameRow) (lower : Option (List ℕ)) (id : ℕ) (more : List (List ℕ)) → row.kind ≡ Vlan lower id → row.broken ≡ false → (q : List ℕ) → list_any (λ n. bytes_eq n q) (lowers_of (standing_of_row row more))
    ≡ (true && is_name lower q)
vlan_lowers row lower id more kind sound q = ap (λ s. list_any (λ n. bytes_eq n q) (lowers_of s)) (standing_is row (Vlan lower id) false more kind sound) ∙ over lower
  where
    over : (lower : Option (List ℕ)) → list_any (λ n. bytes_eq n q) (lowers_of (standing_of (Vlan lower id) false more)) ≡ (true && is_name lower q)
    over None = refl
    over (Some name) = or_none (bytes_eq name q)
