-- Paths into packages (OpenWrt's uci): a package, perhaps `.` and a section, perhaps `.` and an option.
use Rattle.std.specs.Prelude.{ℕ, ℤ, pos, neg_ℤ, ◌≡◌, ◌<◌, ◌≤◌, ◌^◌, List, [], ◌∷◌, ◌++◌, Option, Some, None}
use Rattle.std.specs.Net.Grammar.{IsNumber}
use Rattle.uci_text.specs.declared.byte_class.ByteClass.TheVariants.{Name, PackageName, Printable}
use Rattle.uci_text.specs.Byte.{dash, dot, at_sign, opening_bracket, closing_bracket}
use Rattle.uci_text.specs.Table.{IsNameOf}
use Rattle.uci_tree.specs.declared.path.Path.{Path}
use Rattle.uci_tree.specs.declared.path.SectionRef.{SectionRef}
use Rattle.uci_tree.specs.declared.path.SectionRef.TheVariants.{Name as ByName, Place as ByPlace}

-- decimal digits, perhaps with zeros in front, and before them `-` for a number below zero; the number has 32 bits
pub data SpellsIndex (text : List ℕ) (index : ℤ) : Type 0 where
  forwards : (n : ℕ) → IsNumber 10 text n → n < 2 ^ 31 → index ≡ pos n → SpellsIndex text index
  backwards : (digits : List ℕ) (n : ℕ) → text ≡ dash ∷ digits → IsNumber 10 digits n → n ≤ 2 ^ 31 → index
      ≡ neg_ℤ (pos n) → SpellsIndex text index

-- a section's name, or `@TYPE[INDEX]`; the index has no `[`, so the type reaches to the last one
abbrev pub SpellsRef : List ℕ → SectionRef → Type 0
SpellsRef text (ByName name) = (text ≡ name) × IsNameOf Name name
SpellsRef text (ByPlace kind index) = (digits : List ℕ)
    × (text ≡ at_sign ∷ (kind ++ opening_bracket ∷ (digits ++ closing_bracket ∷ []))) × IsNameOf Printable kind
    × SpellsIndex digits index

-- nothing, or `.` and an option's name
abbrev pub SpellsOption : List ℕ → Option (List ℕ) → Type 0
SpellsOption text None = text ≡ []
SpellsOption text (Some name) = (text ≡ dot ∷ name) × IsNameOf Name name

-- nothing, or `.` and a section and perhaps an option of it
abbrev pub SpellsPlace : List ℕ → Option SectionRef → Option (List ℕ) → Type 0
SpellsPlace text None None = text ≡ []
SpellsPlace text None (Some name) = ⊥
SpellsPlace text (Some reference) option = (section behind : List ℕ) × (text ≡ dot ∷ (section ++ behind))
    × SpellsRef section reference × SpellsOption behind option

-- a package's name, and what is in it
pub record SpellsPath (text : List ℕ) (path : Path) : Type 0 where
  pub behind : List ℕ
  pub whole : text ≡ path.package ++ behind
  pub named : IsNameOf PackageName path.package
  pub place : SpellsPlace behind path.section path.option
