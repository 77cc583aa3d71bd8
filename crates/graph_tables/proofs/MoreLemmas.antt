-- lists of what may be wanted that are made one item after another
use Rattle.std.proofs.Common.{ℕ, ◌+◌, ◌<◌, ◌≡◌, Bool, true, false, cond, List, [], ◌∷◌, ◌++◌, map, filter, length, take, OnOk, Result, get_or, sym, ap, subst, ◌∙◌}
use Rattle.std.specs.Prelude.{bytes_eq}
use Rattle.std.specs.List.{flat_map, list_any}
use Rattle.std.proofs.lemmas.Grind.{flat_map-append}
use Rattle.std.proofs.lemmas.List.{map-append, take_more, append_assoc, append-nil}
use Rattle.std.proofs.lemmas.List.Elements.{filter-append}
use Rattle.kern_model.specs.declared.object.LinkKind.TheVariants as kind
use Rattle.kern_model.specs.declared.object.Object.TheVariants as object
use Rattle.net_rows.specs.declared.rows.NameRow.{NameRow}
use Rattle.net_rows.specs.declared.rows.VlanRow.{VlanRow}
use Rattle.net_rows.specs.declared.rows.VlanEntry.{VlanEntry}
use Rattle.net_rules.specs.RadioPorts.{RadioPort}
use Rattle.net_rules.specs.Rows.{is_vlan_of}
use Rattle.graph_rules.specs.declared.ids.RadioPort.{RadioPort as GivenPort}
use Rattle.graph_rules.specs.State.{Known}
use Rattle.graph_rules.specs.Answers.{given_ports, port_of}
use Rattle.graph_objects.specs.declared.slot.Wish.{Wish}
use Rattle.graph_wishes.specs.Wishes.{may_alone, may_master, may_entry, is_own_entry, vlan_mays, mays_of}
use Rattle.graph_tables.specs.Wished.{wish_at, wishes_at, bridge_mays}

-- what is made of a list part by part grows by what is made of one item more
pub one_more : {X W : Type 0} (made : List X → List W) → ((xs ys : List X) → made (xs ++ ys) ≡ made xs ++ made ys) → (front now new : List W) (xs : List X) (k : ℕ) (x d : X) → k < length xs → x ≡ get_or xs k d → now ≡ front
    ++ made (take k xs) → new ≡ now ++ made (x ∷ []) → new ≡ front ++ made (take (k + 1) xs)
one_more {X} {W} made parts front now new xs k x d h is before after =
    after
    ∙ ap (λ (ws : List W). ws ++ made (x ∷ [])) before
    ∙ append_assoc front (made (take k xs)) (made (x ∷ []))
    ∙ ap (λ (ws : List W). front ++ ws) (sym (parts (take k xs) (x ∷ [])) ∙ ap made (sym (take_more xs k d h ∙ ap (λ (z : X). take k xs ++ z ∷ []) (sym is))))

-- one part behind the other
pub then_more : {W : Type 0} (front mid new a b : List W) → mid ≡ front ++ a → new ≡ mid ++ b → new ≡ front ++ (a ++ b)
then_more {W} front mid new a b first second = second ∙ ap (λ (ws : List W). ws ++ b) first ∙ append_assoc front a b

pub then_last : {W X E : Type 0} (r : Result X E) (front mid new a b all : List W) → mid ≡ front ++ a → a ++ b ≡ all → OnOk r (new ≡ mid ++ b) → OnOk r (new ≡ front ++ all)
then_last {W} {X} {E} r front mid new a b all first same second =
    subst (λ (ws : List W). OnOk r (new ≡ ws)) (ap (λ (ws : List W). ws ++ b) first ∙ append_assoc front a b ∙ ap (λ (ws : List W). front ++ ws) same) second

pub as_well : {W X E : Type 0} (r : Result X E) (front new a b : List W) → a ≡ b → OnOk r (new ≡ front ++ a) → OnOk r (new ≡ front ++ b)
as_well {W} {X} {E} r front new a b same h = subst (λ (ws : List W). OnOk r (new ≡ front ++ ws)) same h

-- the parts of each list
module _ (names : List (List ℕ)) (bridge : List ℕ) where
  pub masters_parts : (xs ys : List (List ℕ)) → wishes_at names (map (may_master bridge) (xs ++ ys)) ≡ wishes_at names (map (may_master bridge) xs) ++ wishes_at names (map (may_master bridge) ys)
  masters_parts xs ys = ap (wishes_at names) (map-append (may_master bridge) xs ys) ∙ map-append (wish_at names) (map (may_master bridge) xs) (map (may_master bridge) ys)

  module _ (ports : List (List ℕ)) where
    pub entries_parts : (id : ℕ) (xs ys : List VlanEntry) → wishes_at names (map (may_entry bridge id) (filter (is_own_entry ports) (xs ++ ys)))
        ≡ wishes_at names (map (may_entry bridge id) (filter (is_own_entry ports) xs)) ++ wishes_at names (map (may_entry bridge id) (filter (is_own_entry ports) ys))
    entries_parts id xs ys =
        let kept = filter (is_own_entry ports) in
        ap (λ es. wishes_at names (map (may_entry bridge id) es)) (filter-append (is_own_entry ports) xs ys)
        ∙ ap (wishes_at names) (map-append (may_entry bridge id) (kept xs) (kept ys))
        ∙ map-append (wish_at names) (map (may_entry bridge id) (kept xs)) (map (may_entry bridge id) (kept ys))

    pub vlans_parts : (xs ys : List VlanRow) → wishes_at names (flat_map (vlan_mays bridge ports) (filter (is_vlan_of bridge) (xs ++ ys)))
        ≡ wishes_at names (flat_map (vlan_mays bridge ports) (filter (is_vlan_of bridge) xs)) ++ wishes_at names (flat_map (vlan_mays bridge ports) (filter (is_vlan_of bridge) ys))
    vlans_parts xs ys =
        let kept = filter (is_vlan_of bridge) in
        ap (λ rs. wishes_at names (flat_map (vlan_mays bridge ports) rs)) (filter-append (is_vlan_of bridge) xs ys)
        ∙ ap (wishes_at names) (flat_map-append (vlan_mays bridge ports) (kept xs) (kept ys))
        ∙ map-append (wish_at names) (flat_map (vlan_mays bridge ports) (kept xs)) (flat_map (vlan_mays bridge ports) (kept ys))

pub given_parts : (bridge : List ℕ) (xs ys : List GivenPort) → given_ports (map port_of (xs ++ ys)) bridge ≡ given_ports (map port_of xs) bridge ++ given_ports (map port_of ys) bridge
given_parts bridge xs ys =
    ap (λ (ps : List RadioPort). given_ports ps bridge) (map-append port_of xs ys) ∙ in_parts bridge (map port_of xs) (map port_of ys)
  where
    in_parts : (bridge : List ℕ) (ps qs : List RadioPort) → given_ports (ps ++ qs) bridge ≡ given_ports ps bridge ++ given_ports qs bridge
    in_parts bridge ps qs =
        let to : RadioPort → Bool = λ joins. bytes_eq joins.bridge bridge in
        ap (map (λ (joins : RadioPort). joins.port)) (filter-append to ps qs) ∙ map-append (λ (joins : RadioPort). joins.port) (filter to ps) (filter to qs)

pub names_parts : (names : List (List ℕ)) (s : Known) (xs ys : List (List ℕ)) → wishes_at names (flat_map (mays_of s) (xs ++ ys)) ≡ wishes_at names (flat_map (mays_of s) xs) ++ wishes_at names (flat_map (mays_of s) ys)
names_parts names s xs ys = ap (wishes_at names) (flat_map-append (mays_of s) xs ys) ∙ map-append (wish_at names) (flat_map (mays_of s) xs) (flat_map (mays_of s) ys)

-- what is passed over makes nothing
pub none_more : {W : Type 0} (now a : List W) → a ≡ [] → now ≡ now ++ a
none_more {W} now a none = sym (ap (λ (ws : List W). now ++ ws) none ∙ append-nil now)

-- what is made of one item
pub given_one : (bridge : List ℕ) (x : GivenPort) → bytes_eq x.bridge bridge ≡ true → given_ports (map port_of (x ∷ [])) bridge ≡ x.port ∷ []
given_one bridge x is = ap (λ b. map (λ (joins : RadioPort). joins.port) (cond b (port_of x ∷ []) [])) is

pub given_none : (bridge : List ℕ) (x : GivenPort) → bytes_eq x.bridge bridge ≡ false → given_ports (map port_of (x ∷ [])) bridge ≡ []
given_none bridge x is = ap (λ b. map (λ (joins : RadioPort). joins.port) (cond b (port_of x ∷ []) [])) is

module _ (names : List (List ℕ)) (bridge : List ℕ) (ports : List (List ℕ)) where
  pub entry_one : (id : ℕ) (x : VlanEntry) → is_own_entry ports x ≡ true → wishes_at names (map (may_entry bridge id) (filter (is_own_entry ports) (x ∷ []))) ≡ wish_at names (may_entry bridge id x) ∷ []
  entry_one id x is = ap (λ b. wishes_at names (map (may_entry bridge id) (cond b (x ∷ []) []))) is

  pub entry_none : (id : ℕ) (x : VlanEntry) → is_own_entry ports x ≡ false → wishes_at names (map (may_entry bridge id) (filter (is_own_entry ports) (x ∷ []))) ≡ []
  entry_none id x is = ap (λ b. wishes_at names (map (may_entry bridge id) (cond b (x ∷ []) []))) is

  pub vlan_one : (x : VlanRow) → is_vlan_of bridge x ≡ true → wishes_at names (flat_map (vlan_mays bridge ports) (filter (is_vlan_of bridge) (x ∷ []))) ≡ wishes_at names (vlan_mays bridge ports x)
  vlan_one x is =
      ap (λ b. wishes_at names (flat_map (vlan_mays bridge ports) (cond b (x ∷ []) []))) is ∙ ap (wishes_at names) (append-nil (vlan_mays bridge ports x))

  pub vlan_none : (x : VlanRow) → is_vlan_of bridge x ≡ false → wishes_at names (flat_map (vlan_mays bridge ports) (filter (is_vlan_of bridge) (x ∷ []))) ≡ []
  vlan_none x is = ap (λ b. wishes_at names (flat_map (vlan_mays bridge ports) (cond b (x ∷ []) []))) is

-- what a bridge may want, in its parts
pub bridge_same : (names : List (List ℕ)) (vlans : List VlanRow) (row : NameRow) (filtering : Bool) (ps all : List (List ℕ)) → filtering ≡ list_any (is_vlan_of row.name) vlans → ps ≡ all
    → (wish_at names (may_alone row.name (object.Up row.name)) ∷ wish_at names (may_alone row.name (object.Link row.name (kind.Bridge row.mac filtering))) ∷ wishes_at names (map (may_master row.name) ps))
    ++ wishes_at names (flat_map (vlan_mays row.name ps) (filter (is_vlan_of row.name) vlans))
    ≡ wishes_at names (bridge_mays vlans row all)
bridge_same names vlans row filtering ps all filters same =
    let up = wish_at names (may_alone row.name (object.Up row.name)) in
    let link : Bool → Wish = λ b. wish_at names (may_alone row.name (object.Link row.name (kind.Bridge row.mac b))) in
    let rows = filter (is_vlan_of row.name) vlans in
    ap (λ (ws : List Wish). up ∷ link filtering ∷ ws) (sym (map-append (wish_at names) (map (may_master row.name) ps) (flat_map (vlan_mays row.name ps) rows)))
    ∙ ap (λ (b : Bool). up ∷ link b ∷ wishes_at names (map (may_master row.name) ps ++ flat_map (vlan_mays row.name ps) rows)) filters
    ∙ ap (λ (qs : List (List ℕ)). up ∷ link (list_any (is_vlan_of row.name) vlans) ∷ wishes_at names (map (may_master row.name) qs ++ flat_map (vlan_mays row.name qs) rows)) same
