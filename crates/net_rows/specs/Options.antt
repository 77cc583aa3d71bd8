-- Options by their names.
use Rattle.std.specs.Prelude.{ℕ, Bool, List, [], ◌∷◌, Option, Some, None, if◌then◌else◌, bytes_eq}
use Rattle.std.specs.List.{list_any}
use Rattle.std.specs.Option.{option_and_then}
use Rattle.uci_tree.specs.declared.package.Value.{Value}
use Rattle.uci_tree.specs.declared.package.Value.TheVariants.{One, Many}
use Rattle.uci_tree.specs.declared.package.Opt.{Opt}

-- the value of the first option of a name
abbrev pub value_of : List ℕ → List Opt → Option Value
value_of name [] = None
value_of name (option ∷ options) = if bytes_eq option.name name then Some option.value else value_of name options

-- there is an option of the name
abbrev pub is_given : List ℕ → List Opt → Bool
is_given name options = list_any (λ option. bytes_eq option.name name) options

-- the text of a value that is no list
abbrev pub single : Value → Option (List ℕ)
single (One text) = Some text
single (Many items) = None

-- the text of the first option of a name, where it is no list
abbrev pub text_of : List ℕ → List Opt → Option (List ℕ)
text_of name options = option_and_then single (value_of name options)
