-- Sets of objects that have one object of a key.
use Rattle.std.specs.Prelude.{ℕ, ◌≡◌, List, Option, true}
use Rattle.kern_model.specs.declared.object.Mac.{Mac}
use Rattle.kern_model.specs.declared.object.LinkKind.TheVariants.{Vlan}
use Rattle.kern_model.specs.declared.object.Object.{Object}
use Rattle.kern_model.specs.declared.object.Object.TheVariants.{Link}
use Rattle.kern_model.specs.ObjectOrder.{Objects, Has}
use Rattle.kern_model.specs.Standing.{is_over}
use Rattle.graph_objects.specs.Keys.{key_of}

-- no VLAN is under itself
abbrev pub IsGrounded : Objects → Type 0
IsGrounded objects =
    (name lower : List ℕ) (id : ℕ) (mac : Option Mac) → Has objects (Link name (Vlan lower id mac))
    → is_over objects name lower ≡ true → ⊥

-- there is one object of a key, and no VLAN is under itself
pub record IsSteady (objects : Objects) : Type 0 where
  pub one : (a b : Object) → Has objects a → Has objects b → key_of a ≡ key_of b → a ≡ b
  pub grounded : IsGrounded objects
