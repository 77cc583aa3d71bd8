-- Deltas that are printed one a line, as a delta file has them (OpenWrt's uci).
use Rattle.std.specs.Prelude.{ℕ, ◌≡◌, List, [], ◌∷◌, ◌++◌, Option, Some, None}
use Rattle.std.specs.List.{flat_map}
use Rattle.uci_text.specs.declared.byte_class.ByteClass.TheVariants.{NotZero}
use Rattle.uci_text.specs.Byte.{newline}
use Rattle.uci_text.specs.ByteClass.{AllIn}
use Rattle.uci_delta.specs.declared.delta.Delta.{Delta}
use Rattle.uci_delta.specs.Line.{IsNamed}
use Rattle.uci_delta.specs.Print.{value_of, spelled}
use Rattle.uci_delta.specs.Shape.{HasShape}

-- no value, or one without a zero byte
abbrev pub IsCleanValue : Option (List ℕ) → Type 0
IsCleanValue None = Unit {0}
IsCleanValue (Some value) = AllIn NotZero value

-- a delta of this package that a line tells: its names are of their form, it has a shape, and its value has no zero
-- byte
pub record IsLine (name : List ℕ) (delta : Delta) : Type 0 where
  pub in_package : delta.package ≡ name
  pub named : IsNamed delta
  pub shape : HasShape delta
  pub clean : IsCleanValue (value_of delta.change)

-- the lines of deltas, each with its newline
abbrev pub lines_of : List Delta → List ℕ
lines_of deltas = flat_map (λ delta. spelled delta ++ newline ∷ []) deltas
