-- Where VLANs lead down to, whether a fault breaks them or not.
use Rattle.std.specs.Prelude.{ℕ, zero, suc, ◌≡◌, List, [], ◌∷◌, length, Bool, Option, Some, None, if◌then◌else◌}
use Rattle.std.specs.Prelude.{bytes_eq}
use Rattle.std.specs.List.{flat_map, filter_map}
use Rattle.kern_model.specs.Standing.{Step, lead_up}
use Rattle.net_rows.specs.Dotted.{vlan_parts}
use Rattle.net_rows.specs.declared.dotted.VlanParts.{VlanParts}
use Rattle.net_rows.specs.declared.rows.NameRow.{NameRow}
use Rattle.net_rows.specs.declared.rows.NameKind.{NameKind}
use Rattle.net_rows.specs.declared.rows.NameKind.TheVariants.{Plain, Bridge, Vlan}

-- the lower of a VLAN, by its kind
abbrev pub lower_of_kind : NameKind → Option (List ℕ)
lower_of_kind Plain = None
lower_of_kind (Bridge empty ports) = None
lower_of_kind (Vlan lower id) = lower

-- the X of a name X.N
abbrev pub lower_of_parts : Option VlanParts → Option (List ℕ)
lower_of_parts None = None
lower_of_parts (Some parts) = Some parts.lower

-- The lower of a name that is a VLAN. Its row says it, the first of several, broken or not. A name
-- X.N without a row is over X (OpenWrt's device names).
abbrev pub lower_in : List NameRow → List ℕ → Option (List ℕ)
lower_in [] name = lower_of_parts (vlan_parts name)
lower_in (row ∷ rows) name =
    if bytes_eq row.name name then lower_of_kind row.kind else lower_in rows name

-- VLANs lead from a name down to a base: the name is the base, or it is a VLAN whose lower leads
-- there. Chains may have any length, and may come back to where they were.
pub data LeadsDown (rows : List NameRow) (base : List ℕ) : List ℕ → Type 0 where
  itself : LeadsDown rows base base
  over : (name lower : List ℕ) → lower_in rows name ≡ Some lower → LeadsDown rows base lower
      → LeadsDown rows base name

-- The test of it looks at the steps between all names that can come on the way. These are the name,
-- the lowers of all rows, and of each X.N among them the X, and so on.

-- what stands behind a name X.N
abbrev pub behind : (List ℕ → List (List ℕ)) → Option VlanParts → List (List ℕ)
behind more None = []
behind more (Some parts) = more parts.lower

-- a name, and the X of each X.N from there on, as many dots far as a number says
abbrev pub dotted : ℕ → List ℕ → List (List ℕ)
dotted zero name = name ∷ []
dotted (suc dots) name = name ∷ behind (dotted dots) (vlan_parts name)

abbrev pub all_dotted : List ℕ → List (List ℕ)
all_dotted name = dotted (length name) name

abbrev pub names_on_way : List NameRow → List ℕ → List (List ℕ)
names_on_way rows name =
    flat_map all_dotted (name ∷ filter_map (λ row. lower_of_kind row.kind) rows)

-- a step from the lower of a name up to the name, where it has a lower
abbrev pub step_to : List ℕ → Option (List ℕ) → Option Step
step_to name None = None
step_to name (Some lower) = Some (record { lower = lower; name = name })

abbrev pub steps_on_way : List NameRow → List ℕ → List Step
steps_on_way rows name =
    filter_map (λ other. step_to other (lower_in rows other)) (names_on_way rows name)

-- the test: VLANs lead from the name down to the base
unfoldable pub leads_down : List NameRow → List ℕ → List ℕ → Bool
leads_down rows name base = lead_up (steps_on_way rows name) base name
