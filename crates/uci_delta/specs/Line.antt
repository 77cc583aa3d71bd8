-- The file form of a delta (OpenWrt's uci).
use Rattle.std.specs.Prelude.{ℕ, ◌≡◌, List, [], ◌∷◌, ◌++◌, Option, Some, None}
use Rattle.uci_text.specs.declared.byte_class.ByteClass.TheVariants.{Name, PackageName, NotZero}
use Rattle.uci_text.specs.ByteClass.{AllIn}
use Rattle.uci_text.specs.Table.{IsNameOf}
use Rattle.uci_text.specs.Word.{SpellsWord}
use Rattle.uci_delta.specs.declared.delta.Delta.{Delta}
use Rattle.uci_delta.specs.Shape.{HasShape}
use Rattle.uci_delta.specs.Print.{equals_sign, mark_of, place_text, value_of}

-- nothing, or `=` and a word of this value
abbrev pub SpellsValue : List ℕ → Option (List ℕ) → Type 0
SpellsValue text None = text ≡ []
SpellsValue text (Some value) = (word : List ℕ) × (text ≡ equals_sign ∷ word) × SpellsWord word value

-- no option, or one with a name
abbrev pub IsNamedOption : Option (List ℕ) → Type 0
IsNamedOption None = Unit {0}
IsNamedOption (Some name) = IsNameOf Name name

-- the names of the delta are of their form
pub record IsNamed (delta : Delta) : Type 0 where
  pub in_package : IsNameOf PackageName delta.package
  pub section : IsNameOf Name delta.section
  pub option : IsNamedOption delta.option

-- the part is the delta: its sign, its place, and its value as any word; there is no zero byte
pub record SpellsDelta (part : List ℕ) (delta : Delta) : Type 0 where
  pub value : List ℕ
  pub whole : part ≡ mark_of delta.change ++ (place_text delta ++ value)
  pub spelled : SpellsValue value (value_of delta.change)
  pub named : IsNamed delta
  pub shape : HasShape delta
  pub clean : AllIn NotZero part
