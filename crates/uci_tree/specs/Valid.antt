-- Packages whose names, types and values are of their form (OpenWrt's UCI file syntax).
use Rattle.std.specs.Prelude.{ℕ, ◌<◌, List, length, map}
use Rattle.std.specs.List.{AllByRecursion}
use Rattle.plane_words.specs.Distinct.{AreDistinct}
use Rattle.uci_text.specs.declared.byte_class.ByteClass.TheVariants.{Name, PackageName, Printable, NotZero}
use Rattle.uci_text.specs.ByteClass.{AllIn}
use Rattle.uci_text.specs.Table.{IsNameOf}
use Rattle.uci_tree.specs.declared.package.Value.{Value}
use Rattle.uci_tree.specs.declared.package.Value.TheVariants.{One, Many}
use Rattle.uci_tree.specs.declared.package.Opt.{Opt}
use Rattle.uci_tree.specs.declared.package.Section.{Section}
use Rattle.uci_tree.specs.declared.package.Package.{Package}

-- a value is not empty, and has no zero byte; an item of a list may be empty
abbrev pub IsValidValue : Value → Type 0
IsValidValue (One text) = (0 < length text) × AllIn NotZero text
IsValidValue (Many items) = (0 < length items) × AllByRecursion (λ item. AllIn NotZero item) items

pub record IsValidOption (option : Opt) : Type 0 where
  pub named : IsNameOf Name option.name
  pub value : IsValidValue option.value

abbrev pub names_of : List Opt → List (List ℕ)
names_of options = map (λ option. option.name) options

pub record IsValidSection (section : Section) : Type 0 where
  pub named : IsNameOf Name section.name
  pub typed : IsNameOf Printable section.kind
  pub options : AllByRecursion IsValidOption section.options
  pub distinct : AreDistinct (names_of section.options)

pub record IsValid (tree : Package) : Type 0 where
  pub named : IsNameOf PackageName tree.name
  pub sections : AllByRecursion IsValidSection tree.sections
