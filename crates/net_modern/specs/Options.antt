-- What the rewriting of old network files makes of the options of a section (OpenWrt's network configuration, the
-- change of its syntax in release 21.02).
use Rattle.std.specs.Prelude.{ℕ, Bool, false, not, List, [], ◌∷◌, ◌++◌, filter, Option, Some, None, if◌then◌else◌}
use Rattle.std.specs.Prelude.{codes, bytes_eq}
use Rattle.uci_tree.specs.declared.package.Value.{Value}
use Rattle.uci_tree.specs.declared.package.Value.TheVariants.{One, Many}
use Rattle.uci_tree.specs.declared.package.Opt.{Opt}
use Rattle.net_rows.specs.Options.{value_of, is_given, text_of}
use Rattle.net_rows.specs.Words.{words_of}

-- the options but for all of a name
abbrev pub without : List ℕ → List Opt → List Opt
without name options = filter (λ option. not (bytes_eq option.name name)) options

-- an option, where there is a value for it
abbrev pub option_if : List ℕ → Option Value → List Opt
option_if name None = []
option_if name (Some value) = record { name = name; value = value } ∷ []

-- an option whose value is a text
abbrev pub text_option : List ℕ → List ℕ → List Opt
text_option name text = option_if name (Some (One text))

-- words as the value of an option, where there is one
abbrev pub list_if : List (List ℕ) → Option Value
list_if [] = None
list_if (word ∷ words) = Some (Many (word ∷ words))

-- the first of words as the value of an option, where there is one
abbrev pub first_if : List (List ℕ) → Option Value
first_if [] = None
first_if (word ∷ words) = Some (One word)

abbrev pub is_text : List ℕ → Option (List ℕ) → Bool
is_text text None = false
is_text text (Some other) = bytes_eq other text

-- the option of the name is this text
abbrev pub has_text : List ℕ → List ℕ → List Opt → Bool
has_text name text options = is_text text (text_of name options)

abbrev pub words_if : Option Value → List (List ℕ)
words_if None = []
words_if (Some value) = words_of value

-- the words of `ifname`, of a text or of all items of a list
abbrev pub ifname_words : List Opt → List (List ℕ)
ifname_words options = words_if (value_of (codes "ifname") options)

-- `ports` is last and has the words of `ifname`, unless it is there or there is no word; `ifname` goes
abbrev pub with_ports : List Opt → List Opt
with_ports options =
    without (codes "ifname") options
    ++ (if is_given (codes "ports") options then [] else option_if (codes "ports") (list_if (ifname_words options)))

-- `device` is last and is the first word of `ifname`; `ifname` goes
abbrev pub on_device : List Opt → List Opt
on_device options = without (codes "ifname") options ++ option_if (codes "device") (first_if (ifname_words options))

-- what of an interface is its bridge's goes, and `device` is last and is the bridge
abbrev pub on_bridge : List ℕ → List Opt → List Opt
on_bridge bridge options =
    without (codes "type") (without (codes "ifname")
    (without (codes "macaddr") (without (codes "mtu") (without (codes "bridge_empty") options))))
    ++ text_option (codes "device") bridge

-- an option goes over from the interface, where it has it
abbrev pub moved : List ℕ → List Opt → List Opt
moved name options = option_if name (value_of name options)

-- the options of the bridge
abbrev pub of_bridge : List ℕ → List Opt → List Opt
of_bridge bridge options =
    text_option (codes "name") bridge
    ++ (text_option (codes "type") (codes "bridge")
    ++ (option_if (codes "ports") (list_if (ifname_words options))
    ++ (moved (codes "bridge_empty") options
    ++ (moved (codes "mtu") options
    ++ moved (codes "macaddr") options))))
