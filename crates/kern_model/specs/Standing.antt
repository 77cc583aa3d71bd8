-- What stands on a name: the objects at it, the VLANs over it, and what stands on those.
use Rattle.std.specs.Prelude.{ℕ, List, [], ◌∷◌, Bool, false, ◌&&◌, ◌||◌, not, bytes_eq, Option, Some, None}
use Rattle.std.specs.List.{list_any, filter_map}
use Rattle.std.specs.FinSet as set
use Rattle.kern_model.specs.declared.object.Mac.{Mac}
use Rattle.kern_model.specs.declared.object.LinkKind.TheVariants.{Bridge, Vlan}
use Rattle.kern_model.specs.declared.object.Object.{Object}
use Rattle.kern_model.specs.declared.object.Object.TheVariants as object
use Rattle.kern_model.specs.ObjectOrder.{Objects, Has}

-- the names that an object is at: a VLAN link at the name under it, a master and a VLAN of a bridge
-- at their port and at their bridge
abbrev pub places_of : Object → List (List ℕ)
places_of (object.Link name (Bridge mac filtering)) = []
places_of (object.Link name (Vlan lower id mac)) = lower ∷ []
places_of (object.Mtu name mtu) = name ∷ []
places_of (object.Mac name mac) = name ∷ []
places_of (object.Master port bridge) = port ∷ bridge ∷ []
places_of (object.Vlan bridge port id pvid untagged) = port ∷ bridge ∷ []
places_of (object.Up name) = name ∷ []
places_of (object.Address dev cidr) = dev ∷ []
places_of (object.Route r) = r.dev ∷ []

-- a VLAN is a step from the name under it to its own
pub record Step : Type 0 where
  pub lower : List ℕ
  pub name : List ℕ

abbrev pub step_of : Object → Option Step
step_of (object.Link name (Vlan lower id mac)) = Some (record { lower = lower; name = name })
step_of _ = None

-- the steps of the VLANs among the objects
abbrev pub steps_of : Objects → List Step
steps_of objects = filter_map step_of (set.items objects)

-- Steps lead up from a base to a name: there are none to go, or all but the first lead there, or
-- they lead to the first, and on from there.
abbrev pub lead_up : List Step → List ℕ → List ℕ → Bool
lead_up [] base name = bytes_eq base name
lead_up (step ∷ steps) base name =
    lead_up steps base name || (lead_up steps base step.lower && lead_up steps step.name name)

-- a name is the base, or that of a VLAN over it, however far up
abbrev pub is_over : Objects → List ℕ → List ℕ → Bool
is_over objects base name = lead_up (steps_of objects) base name

-- That relation by its cases, of which `is_over` is the test: a name is over itself, and a VLAN is
-- over what its lower name is over.
pub data IsOver (objects : Objects) (base : List ℕ) : List ℕ → Type 0 where
  itself : IsOver objects base base
  above : (name lower : List ℕ) (id : ℕ) (mac : Option Mac)
      → Has objects (object.Link name (Vlan lower id mac)) → IsOver objects base lower
      → IsOver objects base name

-- an object stands on a name
abbrev pub stands_on : Objects → List ℕ → Object → Bool
stands_on objects base o = list_any (is_over objects base) (places_of o)

-- what is left when a device of that name goes: all that stands on it goes with it
abbrev pub gone : Objects → List ℕ → Objects
gone objects name = set.retain objects (λ o. not (stands_on objects name o))

-- a VLAN that the name is over
abbrev pub is_vlan_under : Objects → List ℕ → Object → Bool
is_vlan_under objects name (object.Link vlan (Vlan lower id mac)) = is_over objects vlan name
is_vlan_under objects name _ = false

-- How many VLANs a name is over, its own counted. In an allowed set that is one more for a VLAN
-- than for the name under it, and 0 for every other name.
abbrev pub height : Objects → List ℕ → ℕ
height objects name = set.len (set.retain objects (is_vlan_under objects name))
