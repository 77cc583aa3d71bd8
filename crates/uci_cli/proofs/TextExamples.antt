-- Texts of packages, values and refusals that the checker computes.
use Rattle.std.proofs.Common.{◌≡◌, [], ◌∷◌, Some, None, true, false, codes, refl}
use Rattle.std.specs.Prelude.{pos}
use Rattle.std.specs.Fmt.{digits}
use Rattle.uci_tree.specs.declared.fault.Reason.TheVariants.{OpenQuote}
use Rattle.uci_tree.specs.declared.package.Value.TheVariants.{One, Many}
use Rattle.uci_tree.specs.declared.package.Package.{Package}
use Rattle.uci_tree.specs.declared.path.SectionRef.TheVariants.{Name as ByName, Place as ByPlace}
use Rattle.uci_cli.specs.declared.options.Options.{Options}
use Rattle.uci_cli.specs.Options.{usual}
use Rattle.uci_cli.specs.declared.refusal.Refusal.TheVariants.{Parse}
use Rattle.uci_cli.specs.Refusal.{text_of}
use Rattle.uci_cli.specs.Values.{given_value}
use Rattle.uci_cli.specs.Show.{shown, shown_path}
use Rattle.uci_cli.specs.Get.{given_path}

-- an anonymous section behind a named one of its type
abbrev pub bridges : Package
bridges = record {
  name = codes "network";
  sections = record {
    name = codes "d";
    anonymous = false;
    kind = codes "device";
    options = [];
  } ∷ record {
    name = codes "cfg020f15";
    anonymous = true;
    kind = codes "device";
    options = record { name = codes "name"; value = One (codes "it's") } ∷ record { name = codes "ports"; value = Many (codes "lan1" ∷ codes "lan 2" ∷ []) } ∷ [];
  } ∷ [];
  made = 2;
}

abbrev pub by_name : Options
by_name = record usual { by_name = true }

by_place : shown usual bridges ≡ codes "network.d=device\nnetwork.@device[1]=device\nnetwork.@device[1].name='it'\\''s'\nnetwork.@device[1].ports='lan1' 'lan 2'\n"
unfolding digits
by_place = refl

named : shown by_name bridges ≡ codes "network.d=device\nnetwork.cfg020f15=device\nnetwork.cfg020f15.name='it'\\''s'\nnetwork.cfg020f15.ports='lan1' 'lan 2'\n"
named = refl

-- asked for by its name, an anonymous section is still shown by its place
asked_by_name : shown_path usual bridges (record { «package» = codes "network"; section = Some (ByName (codes "cfg020f15")); option = Some (codes "name") }) ≡ Some (codes "network.@device[1].name='it'\\''s'\n")
unfolding digits
asked_by_name = refl

third_is_not_there : shown_path usual bridges (record { «package» = codes "network"; section = Some (ByPlace (codes "device") (pos 2)); option = None }) ≡ None
third_is_not_there = refl

-- `get` gives one value as it is, and quotes an item with a space
one_value : given_path (codes " ") bridges (record { «package» = codes "network"; section = Some (ByPlace (codes "device") (pos 1)); option = Some (codes "name") }) ≡ Some (codes "it's\n")
one_value = refl

many_values : given_path (codes ", ") bridges (record { «package» = codes "network"; section = Some (ByPlace (codes "device") (pos 1)); option = Some (codes "ports") }) ≡ Some (codes "lan1, 'lan 2'\n")
many_values = refl

type_alone : given_path (codes " ") bridges (record { «package» = codes "network"; section = Some (ByName (codes "d")); option = None }) ≡ Some (codes "device\n")
type_alone = refl

spaced_value : given_value (codes " ") (One (codes "a b")) ≡ codes "a b"
spaced_value = refl

parse_error : text_of (Parse (record { line = 3; reason = OpenQuote })) ≡ codes "uci: Parse error (open quote) at line 3\n"
unfolding digits
parse_error = refl
