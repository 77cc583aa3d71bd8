-- What stands in front of the value of a line (OpenWrt's uci).
use Rattle.std.specs.Prelude.{ℕ, ◌≡◌, List, ◌∷◌, ◌++◌, Option, Some, None}
use Rattle.uci_text.specs.declared.byte_class.ByteClass.TheVariants.{Name, PackageName}
use Rattle.uci_text.specs.Byte.{dot}
use Rattle.uci_text.specs.Table.{IsNameOf}
use Rattle.uci_tree.specs.Split.{HasNone, CutsAtFirst}
use Rattle.uci_delta.specs.declared.head.Kind.{Kind}
use Rattle.uci_delta.specs.declared.head.Kind.TheVariants as kind
use Rattle.uci_delta.specs.Line.{IsNamedOption}
use Rattle.uci_delta.specs.Print.{sign_of, option_text}

-- which kinds sections and options have
abbrev pub KindFits : Kind → Option (List ℕ) → Type 0
KindFits kind.Set option = Unit {0}
KindFits kind.Remove option = Unit {0}
KindFits kind.Add None = Unit {0}
KindFits kind.Add (Some name) = ⊥
KindFits kind.Rename option = Unit {0}
KindFits kind.Reorder None = Unit {0}
KindFits kind.Reorder (Some name) = ⊥
KindFits kind.ListAdd None = ⊥
KindFits kind.ListAdd (Some name) = Unit {0}
KindFits kind.ListDel None = ⊥
KindFits kind.ListDel (Some name) = Unit {0}

-- the head is the sign, the package, the section and perhaps the option, whose names are of their form
pub record IsHead (name head : List ℕ) (kind : Kind) (section : List ℕ) (option : Option (List ℕ)) : Type 0 where
  pub whole : head ≡ (sign_of kind ++ name) ++ dot ∷ (section ++ option_text option)
  pub in_package : IsNameOf PackageName name
  pub section_named : IsNameOf Name section
  pub option_named : IsNamedOption option
  pub fits : KindFits kind option

-- a place is cut at its first `.`, where it has one
abbrev pub CutsPlace : List ℕ → List ℕ → Option (List ℕ) → Type 0
CutsPlace place section None = (section ≡ place) × HasNone dot place
CutsPlace place section (Some name) = CutsAtFirst dot place section name
