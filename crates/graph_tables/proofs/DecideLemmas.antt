-- the names that decide what may be wanted are names of the graph
use Rattle.std.proofs.Common.{arith, ℕ, suc, ◌+◌, ◌<◌, ◌≡◌, ◌⊎◌, inl, inr, Bool, true, false, cond, not, List, [], ◌∷◌, ◌++◌, map, filter, length, get_or, Contains, refl, sym, ap, subst, ◌∙◌}
use Rattle.std.specs.Prelude.{bytes_eq, Option, Some, None}
use Rattle.std.specs.List.{flat_map, list_any, AllByRecursion}
use Rattle.std.proofs.lemmas.List.{length-map}
use Rattle.std.proofs.lemmas.List.Elements.{Contains-append_cases}
use Rattle.kern_model.specs.declared.object.Mac.{Mac}
use Rattle.kern_model.specs.declared.object.LinkKind.TheVariants as kind
use Rattle.kern_model.specs.declared.object.Object.{Object}
use Rattle.kern_model.specs.declared.object.Object.TheVariants as object
use Rattle.kern_model.proofs.MemberLemmas.{here, there, none_in_nil, first_or_later, member_of_map, member_of_all}
use Rattle.kern_model.proofs.TestLemmas.{from_any, bytes_same}
use Rattle.kern_calls.specs.Lower.{is_lower}
use Rattle.kern_calls.proofs.FilterLemmas.{from_filter}
use Rattle.net_rows.specs.declared.rows.VlanRow.{VlanRow}
use Rattle.net_rules.specs.Rows.{row_at, is_vlan_of}
use Rattle.net_rules.specs.Standing.{Standing, Broken, Alone, Over, Ports, lowers_of}
use Rattle.net_rules.specs.Want.{mtu_of, mac_of, local_vlan}
use Rattle.graph_rules.specs.State.{Named, Known, names_in}
use Rattle.graph_rules.specs.Answers.{standing_in}
use Rattle.graph_counts.specs.Counted.{id_of}
use Rattle.graph_counts.specs.Sound.{IsSound}
use Rattle.graph_counts.proofs.SoundLemmas.{lower_known}
use Rattle.graph_counts.proofs.IdLemmas.{id_within, later_member}
use Rattle.graph_wishes.specs.Wishes.{May, may_alone, may_master, may_entry, is_own_entry, vlan_mays, mays_by, mays_of, mays}

-- a member of a list of lists
pub record IsOfOne {X Y : Type 0} (f : X → List Y) (xs : List X) (y : Y) : Type 0 where
  pub source : X
  pub member : Contains xs source
  pub gives : Contains (f source) y

pub from_flat_map : {X Y : Type 0} (f : X → List Y) (xs : List X) (y : Y) → Contains (flat_map f xs) y → IsOfOne f xs y
from_flat_map f [] y m = absurd (none_in_nil y m)
from_flat_map f (x ∷ xs) y m = elim (Contains-append_cases (f x) (flat_map f xs) y m) as (λ _. IsOfOne f (x ∷ xs) y) [
  | inl mine ↦ record { source = x; member = here x xs; gives = mine }
  | inr later ↦ let r = from_flat_map f xs y later in record { source = r.source; member = there x xs r.source r.member; gives = r.gives }
]

pub filter_member : {X : Type 0} (p : X → Bool) (xs : List X) (x : X) → Contains (filter p xs) x → Contains xs x
filter_member p [] x m = absurd (none_in_nil x m)
filter_member p (y ∷ ys) x m = by (λ n. filter_member p ys x n) (p y) m
  where
    by : (Contains (filter p ys) x → Contains ys x) → (b : Bool) → Contains (cond b (y ∷ filter p ys) (filter p ys)) x → Contains (y ∷ ys) x
    by rest true n = elim (first_or_later y (filter p ys) x n) as (λ _. Contains (y ∷ ys) x) [
      | inl same ↦ subst (Contains (y ∷ ys)) same (here y ys)
      | inr later ↦ there y ys x (rest later)
    ]
    by rest false n = there y ys x (rest n)

-- the first name is that of the row, the second too or one on which it stands
pub record IsDecided (name : List ℕ) (lowers : List (List ℕ)) (m : May) : Type 0 where
  pub first : m.first ≡ name
  pub second : (m.second ≡ name) ⊎ Contains lowers m.second
  pub lower : is_lower m.object ≡ true

module _ (name : List ℕ) (lowers : List (List ℕ)) where
  alone_decided : (os : List Object) → AllByRecursion (λ o. is_lower o ≡ true) os → (m : May) → Contains (map (may_alone name) os) m → IsDecided name lowers m
  alone_decided os all m h =
      let from = member_of_map (may_alone name) os m h in
      record {
        first = sym (ap (λ (x : May). x.first) from.same);
        second = inl (sym (ap (λ (x : May). x.second) from.same));
        lower = subst (λ (x : May). is_lower x.object ≡ true) from.same (member_of_all (λ o. is_lower o ≡ true) os from.source all from.member);
      }

lower_mtu : (name : List ℕ) (mtu : Option ℕ) → AllByRecursion (λ o. is_lower o ≡ true) (mtu_of name mtu)
lower_mtu name None = tt
lower_mtu name (Some mtu) = (refl, tt)

lower_mac : (name : List ℕ) (mac : Option Mac) → AllByRecursion (λ o. is_lower o ≡ true) (mac_of name mac)
lower_mac name None = tt
lower_mac name (Some mac) = (refl, tt)

lower_local : (name : List ℕ) (id : ℕ) (b : Bool) → AllByRecursion (λ o. is_lower o ≡ true) (local_vlan name id b)
lower_local name id false = tt
lower_local name id true = (refl, tt)

module _ (name : List ℕ) (ports : List (List ℕ)) where
  masters_decided : (m : May) → Contains (map (may_master name) ports) m → IsDecided name ports m
  masters_decided m h =
      let from = member_of_map (may_master name) ports m h in
      record {
        first = sym (ap (λ (x : May). x.first) from.same);
        second = inr (subst (Contains ports) (ap (λ (x : May). x.second) from.same) from.member);
        lower = subst (λ (x : May). is_lower x.object ≡ true) from.same refl;
      }

  vlan_decided : (row : VlanRow) (m : May) → Contains (vlan_mays name ports row) m → IsDecided name ports m
  vlan_decided row m h = elim (Contains-append_cases (map (may_entry name row.id) (filter (is_own_entry ports) row.entries)) (map (may_alone name) (local_vlan name row.id row.local)) m h) as (λ _. IsDecided name ports m) [
    | inl entry ↦
        let from = member_of_map (may_entry name row.id) (filter (is_own_entry ports) row.entries) m entry in
        let own = from_any (λ port. bytes_eq port from.source.port) ports (from_filter (is_own_entry ports) row.entries from.source from.member) in
        let port : Contains ports from.source.port = subst (Contains ports) (bytes_same own.passing from.source.port own.passes) own.member in
        record {
          first = sym (ap (λ (x : May). x.first) from.same);
          second = inr (subst (Contains ports) (ap (λ (x : May). x.second) from.same) port);
          lower = subst (λ (x : May). is_lower x.object ≡ true) from.same refl;
        }
    | inr rest ↦ alone_decided name ports (local_vlan name row.id row.local) (lower_local name row.id row.local) m rest
  ]

  rest_decided : (rows : List VlanRow) (m : May) → Contains (map (may_master name) ports ++ flat_map (vlan_mays name ports) rows) m → IsDecided name ports m
  rest_decided rows m h = elim (Contains-append_cases (map (may_master name) ports) (flat_map (vlan_mays name ports) rows) m h) as (λ _. IsDecided name ports m) [
    | inl masters ↦ masters_decided m masters
    | inr vlans ↦ let from = from_flat_map (vlan_mays name ports) rows m vlans in vlan_decided from.source m from.gives
  ]

standing_decided : (s : Known) (name : List ℕ) (mac : Option Mac) (standing : Standing) (m : May) → Contains (mays_by s name mac standing) m → IsDecided name (lowers_of standing) m
standing_decided s name mac Broken m h = absurd (none_in_nil m h)
standing_decided s name mac (Alone sound) m h = alone_decided name [] (object.Up name ∷ mac_of name mac) (refl, lower_mac name mac) m h
standing_decided s name mac (Over lower id) m h = alone_decided name (lower ∷ []) (object.Up name ∷ object.Link name (kind.Vlan lower id mac) ∷ []) (refl, (refl, tt)) m h
standing_decided s name mac (Ports empty ports) m h =
    let two : List Object = object.Up name ∷ object.Link name (kind.Bridge mac (list_any (is_vlan_of name) s.vlans)) ∷ [] in
    let rows = filter (is_vlan_of name) s.vlans in
    elim (Contains-append_cases (map (may_alone name) two) (map (may_master name) ports ++ flat_map (vlan_mays name ports) rows) m h) as (λ _. IsDecided name ports m) [
      | inl mine ↦ alone_decided name ports two (refl, (refl, tt)) m mine
      | inr rest ↦ rest_decided name ports rows m rest
    ]

name_decided : (s : Known) (name : List ℕ) (m : May) → Contains (mays_of s name) m → IsDecided name (lowers_of (standing_in s name)) m
name_decided s name m h =
    let row = row_at s.rows name in
    elim (Contains-append_cases (map (may_alone name) (mtu_of name row.mtu)) (mays_by s name row.mac (standing_in s name)) m h) as (λ _. IsDecided name (lowers_of (standing_in s name)) m) [
      | inl mtu ↦ alone_decided name (lowers_of (standing_in s name)) (mtu_of name row.mtu) (lower_mtu name row.mtu) m mtu
      | inr rest ↦ standing_decided s name row.mac (standing_in s name) m rest
    ]

-- what may be wanted is neither an address nor a route
pub may_lower : (s : Known) (m : May) → Contains (mays s) m → is_lower m.object ≡ true
may_lower s m member = let from = from_flat_map (mays_of s) (names_in s) m member in (name_decided s from.source m from.gives).lower

module _ (s : Known) (sound : IsSound s) (m : May) (member : Contains (mays s) m) where
  pub first_known : Contains (names_in s) m.first
  first_known =
      let from = from_flat_map (mays_of s) (names_in s) m member in
      subst (Contains (names_in s)) (sym (name_decided s from.source m from.gives).first) from.member

  pub second_known : Contains (names_in s) m.second
  second_known =
      let from = from_flat_map (mays_of s) (names_in s) m member in
      elim (name_decided s from.source m from.gives).second as (λ _. Contains (names_in s) m.second) [
        | inl same ↦ subst (Contains (names_in s)) (sym same) from.member
        | inr lower ↦ lower_known s sound from.source m.second lower
      ]

-- the name of a name's id is that name
id_step : (b : Bool) (n x : List ℕ) (ns : List (List ℕ)) (k : ℕ) → bytes_eq n x ≡ b → (b ≡ false → get_or ns k [] ≡ x) → get_or (n ∷ ns) (cond (not b) (1 + k) 0) [] ≡ x
id_step true n x ns k e h = bytes_same n x e
id_step false n x ns k e h = ap (λ j. get_or (n ∷ ns) j []) (let one : 1 + k ≡ suc k = omega arith in one) ∙ h refl

pub name_there : (names : List (List ℕ)) (x : List ℕ) → Contains names x → get_or names (id_of names x) [] ≡ x
name_there [] x m = absurd (none_in_nil x m)
name_there (n ∷ ns) x m = id_step (bytes_eq n x) n x ns (id_of ns x) refl (λ e. name_there ns x (later_member n x ns e m))

pub id_inside : (s : Known) (x : List ℕ) → Contains (names_in s) x → id_of (names_in s) x < length s.names
id_inside s x m = omega (arith, id_within (names_in s) x m, length-map s.names (λ (n : Named). n.name))
