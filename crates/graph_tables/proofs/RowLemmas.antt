-- what the rows of names may want
use Rattle.std.proofs.Common.{arith, ℕ, zero, suc, ◌<◌, ◌≤◌, ◌≡◌, Bool, true, false, cond, is_some, List, [], ◌∷◌, ◌++◌, map, length, get_or, Contains, Option, None, refl, sym, ap, subst, ◌∙◌}
use Rattle.std.proofs.lemmas.List.{map-append}
use Rattle.std.proofs.lemmas.List.Elements.{Contains-get_or}
use Rattle.kern_model.specs.declared.object.Mac.{Mac}
use Rattle.kern_model.specs.declared.object.Object.TheVariants as object
use Rattle.plane_words.specs.Distinct.{AreDistinct}
use Rattle.net_rows.specs.Dotted.{vlan_parts}
use Rattle.net_rows.specs.declared.rows.NameRow.{NameRow}
use Rattle.net_rows.specs.declared.rows.NameKind.{NameKind}
use Rattle.net_rows.specs.declared.rows.NameKind.TheVariants.{Plain, Bridge, Vlan}
use Rattle.net_rows.specs.declared.rows.VlanRow.{VlanRow}
use Rattle.net_rules.specs.Rows.{row_at, rowless, is_plain_kind}
use Rattle.net_rules.specs.Standing.{Standing, Broken, Alone, Over, Ports, standing_of, standing_of_row}
use Rattle.net_rules.specs.Want.{mtu_of}
use Rattle.graph_rules.specs.declared.ids.RadioPort.{RadioPort}
use Rattle.graph_rules.specs.State.{Named, Known, name_list}
use Rattle.graph_rules.specs.After.{name_at}
use Rattle.graph_rules.specs.Answers.{given_ports, port_of}
use Rattle.graph_counts.specs.Sound.{BeginWithRows}
use Rattle.graph_counts.proofs.IdLemmas.{own_row, no_row, apart, distinct_front, at_member}
use Rattle.graph_wishes.specs.Wishes.{May, may_alone, mays_by, mays_of}
use Rattle.graph_tables.specs.Wished.{known, with_vlans, standing_mays, row_mays}

-- by the standing of a row, where its kind is known and whether a fault makes it unavailable
pub standing_by : (vlans : List VlanRow) (radio : List RadioPort) (row : NameRow) (kind : NameKind) (broken : Bool) → row.kind ≡ kind → row.broken ≡ broken
    → mays_by (with_vlans vlans) row.name row.mac (standing_of kind broken (given_ports (map port_of radio) row.name)) ≡ standing_mays vlans radio row
standing_by vlans radio row kind broken is fault =
    let given = given_ports (map port_of radio) row.name in
    sym (ap (λ k. mays_by (with_vlans vlans) row.name row.mac (standing_of k row.broken given)) is ∙ ap (λ b. mays_by (with_vlans vlans) row.name row.mac (standing_of kind b given)) fault)

-- a bridge or a VLAN that a fault makes unavailable wants nothing
broken_by : (vlans : List VlanRow) (name : List ℕ) (mac : Option Mac) (given : List (List ℕ)) (kind : NameKind) → is_plain_kind kind ≡ false → mays_by (with_vlans vlans) name mac (standing_of kind true given) ≡ []
broken_by vlans name mac given Plain h = cc h
broken_by vlans name mac given (Bridge empty ports) h = refl
broken_by vlans name mac given (Vlan lower id) h = refl

pub broken_mays : (vlans : List VlanRow) (radio : List RadioPort) (row : NameRow) (kind : NameKind) → row.kind ≡ kind → row.broken ≡ true → is_plain_kind kind ≡ false → standing_mays vlans radio row ≡ []
broken_mays vlans radio row kind is fault made =
    sym (standing_by vlans radio row kind true is fault) ∙ broken_by vlans row.name row.mac (given_ports (map port_of radio) row.name) kind made

-- what a name without a row may want
rowless_by : (name : List ℕ) (vlans : List VlanRow) (given : List (List ℕ)) (b : Bool) → mays_by (with_vlans vlans) name None (standing_of (cond b (Vlan None 0) Plain) b given) ≡ cond b [] (may_alone name (object.Up name) ∷ [])
rowless_by name vlans given true = refl
rowless_by name vlans given false = refl

pub rowless_mays : (vlans : List VlanRow) (radio : List RadioPort) (name : List ℕ) (b : Bool) → is_some (vlan_parts name) ≡ b → row_mays vlans radio (rowless name) ≡ cond b [] (may_alone name (object.Up name) ∷ [])
rowless_mays vlans radio name b is =
    rowless_by name vlans (given_ports (map port_of radio) name) (is_some (vlan_parts name)) ∙ ap (λ x. cond x [] (may_alone name (object.Up name) ∷ [])) is

-- beside a name's standing only the VLANs count
by_vlans : (s : Known) (name : List ℕ) (mac : Option Mac) (standing : Standing) → mays_by s name mac standing ≡ mays_by (with_vlans s.vlans) name mac standing
by_vlans s name mac Broken = refl
by_vlans s name mac (Alone sound) = refl
by_vlans s name mac (Over lower id) = refl
by_vlans s name mac (Ports empty ports) = refl

pub mays_row : (s : Known) (row : NameRow) (name : List ℕ) → row_at s.rows name ≡ row → row.name ≡ name → mays_of s name ≡ row_mays s.vlans s.radio row
mays_row s row name is named =
    let given = given_ports (map port_of s.radio) in
    ap (λ (r : NameRow). map (may_alone name) (mtu_of name r.mtu) ++ mays_by s name r.mac (standing_of_row r (given name))) is
    ∙ ap (λ ms. map (may_alone name) (mtu_of name row.mtu) ++ ms) (by_vlans s name row.mac (standing_of_row row (given name)))
    ∙ ap (λ n. map (may_alone n) (mtu_of n row.mtu) ++ mays_by (with_vlans s.vlans) n row.mac (standing_of_row row (given n))) (sym named)

-- names and rows by their places
pub named_there : (ns : List Named) (k : ℕ) → get_or (name_list ns) k [] ≡ (name_at ns k).name
named_there [] k = refl
named_there (n ∷ ns) zero = refl
named_there (n ∷ ns) (suc k) = named_there ns k

row_there : (rows : List NameRow) (plain : List (List ℕ)) (k : ℕ) (d : NameRow) → k < length rows → get_or (map (λ (r : NameRow). r.name) rows ++ plain) k [] ≡ (get_or rows k d).name
row_there [] plain k d h = absurd (omega (arith, h))
row_there (r ∷ rs) plain zero d h = refl
row_there (r ∷ rs) plain (suc k) d h = row_there rs plain k d (omega (arith, h))

plain_there : (rows : List NameRow) (plain : List (List ℕ)) (k : ℕ) → length rows ≤ k → k < length (map (λ (r : NameRow). r.name) rows ++ plain) → Contains plain (get_or (map (λ (r : NameRow). r.name) rows ++ plain) k [])
plain_there [] plain k h within = at_member plain k within
plain_there (r ∷ rs) plain zero h within = absurd (omega (arith, h))
plain_there (r ∷ rs) plain (suc k) h within = plain_there rs plain k (omega (arith, h)) (omega (arith, within))

module _ (names : List (List ℕ)) (s : Known) (begin : BeginWithRows names s.rows) where
  once : AreDistinct (map (λ (r : NameRow). r.name) s.rows ++ begin.plain)
  once = subst AreDistinct begin.front begin.once

  -- what the name of a row's place may want
  pub row_name_mays : (k : ℕ) (row : NameRow) → k < length s.rows → row ≡ get_or s.rows k row → mays_of s (get_or names k []) ≡ row_mays s.vlans s.radio row
  row_name_mays k row h is =
      let named : get_or names k [] ≡ row.name = ap (λ ns. get_or ns k []) begin.front ∙ row_there s.rows begin.plain k row h ∙ ap (λ (r : NameRow). r.name) (sym is) in
      let member : Contains s.rows row = subst (Contains s.rows) (sym is) (Contains-get_or s.rows k row h) in
      ap (mays_of s) named ∙ mays_row s row row.name (own_row s.rows row (distinct_front (map (λ (r : NameRow). r.name) s.rows) begin.plain once) member) refl

  -- what a further name may want
  pub plain_name_mays : (k : ℕ) → length s.rows ≤ k → k < length names → mays_of s (get_or names k []) ≡ row_mays [] [] (rowless (get_or names k []))
  plain_name_mays k h within =
      let name = get_or names k [] in
      let inside : k < length (map (λ (r : NameRow). r.name) s.rows ++ begin.plain) = omega (arith, within, ap length begin.front) in
      let member : Contains begin.plain name = subst (Contains begin.plain) (ap (λ ns. get_or ns k []) (sym begin.front)) (plain_there s.rows begin.plain k h inside) in
      mays_row s (rowless name) name (no_row s.rows name (λ in_rows. apart (map (λ (r : NameRow). r.name) s.rows) begin.plain name once in_rows member)) refl
      ∙ rowless_mays s.vlans s.radio name (is_some (vlan_parts name)) refl
      ∙ sym (rowless_mays [] [] name (is_some (vlan_parts name)) refl)

-- the MTU goes before the rest
pub mtu_first : {W : Type 0} (f : May → W) (a b : List May) → map f a ++ map f b ≡ map f (a ++ b)
mtu_first f a b = sym (map-append f a b)
