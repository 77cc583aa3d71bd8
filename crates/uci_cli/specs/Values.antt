-- Values of options as one text.
use Rattle.std.specs.Prelude.{ℕ, List, [], ◌∷◌, ◌++◌, Bool, ◌||◌, nat_eq, if◌then◌else◌}
use Rattle.std.specs.List.{flat_map, list_any}
use Rattle.uci_text.specs.Byte.{tab, newline, carriage_return, space}
use Rattle.uci_text.specs.Quote.{quoted}
use Rattle.uci_tree.specs.declared.package.Value.{Value}
use Rattle.uci_tree.specs.declared.package.Value.TheVariants.{One, Many}

-- items, each as it is written, with a text between them
abbrev pub joined : List ℕ → (List ℕ → List ℕ) → List (List ℕ) → List ℕ
joined between written [] = []
joined between written (item ∷ items) = written item ++ flat_map (λ other. between ++ written other) items

-- a space, a tab, a carriage return or a newline
abbrev pub is_gap : ℕ → Bool
is_gap byte = nat_eq byte space || nat_eq byte tab || nat_eq byte carriage_return || nat_eq byte newline

-- an item as `get` writes it: quoted where it holds a gap
abbrev pub item_text : List ℕ → List ℕ
item_text item = if list_any is_gap item then quoted item else item

-- a value as `show` writes it, and as `get` does
abbrev pub shown_value : List ℕ → Value → List ℕ
shown_value between (One value) = quoted value
shown_value between (Many items) = joined between quoted items

abbrev pub given_value : List ℕ → Value → List ℕ
given_value between (One value) = value
given_value between (Many items) = joined between item_text items
