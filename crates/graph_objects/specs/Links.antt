-- Links of names, as they are looked up.
use Rattle.std.specs.Prelude.{ℕ, List, Option, Some, None}
use Rattle.kern_model.specs.declared.object.Mac.{Mac}
use Rattle.kern_model.specs.declared.object.LinkKind.{LinkKind}
use Rattle.kern_model.specs.declared.object.LinkKind.TheVariants.{Bridge, Vlan}
use Rattle.kern_model.specs.declared.object.Object.{Object}
use Rattle.kern_model.specs.declared.object.Object.TheVariants as object
use Rattle.kern_model.specs.ObjectOrder.{Objects, Has}

-- the kind of a link
abbrev pub link_kind : Object → Option LinkKind
link_kind (object.Link name kind) = Some kind
link_kind _ = None

-- the name under a VLAN
abbrev pub lower_name : LinkKind → Option (List ℕ)
lower_name (Bridge mac filtering) = None
lower_name (Vlan lower id mac) = Some lower

-- a link of that name is a VLAN over the other
pub record IsVlanAt (objects : Objects) (name lower : List ℕ) : Type 0 where
  pub id : ℕ
  pub mac : Option Mac
  pub held : Has objects (object.Link name (Vlan lower id mac))

-- no VLAN has that name
abbrev pub HasNoVlan : Objects → List ℕ → Type 0
HasNoVlan objects name =
    (lower : List ℕ) (id : ℕ) (mac : Option Mac)
    → Has objects (object.Link name (Vlan lower id mac)) → ⊥
