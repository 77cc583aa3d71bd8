-- Options by their names, as the program keeps them.
use Rattle.std.specs.Prelude.{ℕ, ◌≡◌, List, map}
use Rattle.std.specs.Ordering.{nat_cmp}
use Rattle.std.specs.Cmp.Lexicographic.{slice_cmp}
use Rattle.std.specs.BTreeMap.{BTreeMap, IsOrdered}
use Rattle.uci_tree.specs.declared.package.Opt.{Opt}

-- each option with its name
abbrev pub named_options : List Opt → List (List ℕ × Opt)
named_options options = map (λ o. (o.name, o)) options

-- the map has these options, each at its name
pub record IsByName (options : List Opt) (by_name : BTreeMap (List ℕ) Opt) : Type 0 where
  pub entries : by_name.entries ≡ named_options options
  pub ordered : IsOrdered (slice_cmp nat_cmp) by_name
