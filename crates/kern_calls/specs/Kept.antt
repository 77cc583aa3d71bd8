-- What the calls leave alone, and what loses its link with a link that is taken.
use Rattle.std.specs.Prelude.{ℕ, ◌≡◌, List, Contains, true}
use Rattle.kern_model.specs.declared.object.LinkKind.{LinkKind}
use Rattle.kern_model.specs.declared.object.Object.{Object}
use Rattle.kern_model.specs.declared.object.Object.TheVariants.{Link}
use Rattle.kern_model.specs.ObjectOrder.{Objects, Has}
use Rattle.kern_model.specs.Standing.{places_of, IsOver}
use Rattle.kern_model.specs.Touched.{is_taken}

-- a name is that of a link that is taken, or over one
pub record IsOverTaken (held wanted : Objects) (name : List ℕ) : Type 0 where
  pub base : List ℕ
  pub kind : LinkKind
  pub taken : is_taken held wanted (Link base kind) ≡ true
  pub over : IsOver held base name

-- no name that an object is at is that of a link that is taken, or over one
abbrev pub IsOffTaken : Objects → Objects → Object → Type 0
IsOffTaken held wanted o =
    (place : List ℕ) → Contains (places_of o) place → IsOverTaken held wanted place → ⊥

-- objects that are held and wanted, and with each of them the held links that it stands on
pub record IsWholePart (held wanted part : Objects) : Type 0 where
  pub was : (o : Object) → Has part o → Has held o
  pub stays : (o : Object) → Has part o → Has wanted o
  pub whole : (o : Object) (place base : List ℕ) (kind : LinkKind) → Has part o
      → Contains (places_of o) place → Has held (Link base kind) → IsOver held base place
      → Has part (Link base kind)
