-- Names, paths, packages and faults that the checker computes.
use Rattle.std.proofs.Common.{◌≡◌, [], ◌∷◌, length, true, false, Some, None, codes, refl, ap, arith, length-append}
use Rattle.std.specs.Prelude.{ℤ, negsuc}
use Rattle.std.specs.Fmt.{digits}
use Rattle.std.specs.Net.Grammar.{IsNumber}
use Rattle.uci_text.specs.declared.text_error.TextError.TheVariants.{OpenQuote}
use Rattle.uci_text.specs.declared.byte_class.ByteClass.TheVariants.{PackageName, Printable}
use Rattle.uci_text.specs.declared.cmd.Cmd.TheVariants.{Item as ItemCmd}
use Rattle.uci_text.proofs.Examples.{tested, option_alone, open_on_second_line}
use Rattle.uci_tree.specs.declared.tree_error.TreeError.TheVariants.{Text, NoSection}
use Rattle.uci_tree.specs.declared.path.Path.{Path}
use Rattle.uci_tree.specs.declared.path.SectionRef.TheVariants.{Place as ByPlace}
use Rattle.uci_tree.specs.Anonymous.{anonymous_name}
use Rattle.uci_tree.specs.Path.{SpellsPath, backwards}
use Rattle.uci_tree.specs.Find.{place_of}
use Rattle.uci_tree.specs.Reading.{HasTreeFault}
use Rattle.uci_tree.specs.declared.package.Value.TheVariants.{One, Many}
use Rattle.uci_tree.specs.declared.package.Package.{Package}
use Rattle.uci_tree.specs.Print.{printed}
use Rattle.uci_tree.specs.Placed.{IsClean}

abbrev pub two_values : Package
two_values = record {
  name = codes "t";
  sections = record {
    name = codes "s";
    anonymous = false;
    kind = codes "x";
    options = record { name = codes "a"; value = One (codes "it's") } ∷ record { name = codes "b"; value = One (codes "1\n2") } ∷ [];
  } ∷ [];
  made = 1;
}

with_header : printed two_values true false ≡ codes "package t\n\nconfig x 's'\n\toption a 'it'\\''s'\n\toption b '1\n2'\n\n"
with_header = refl

without_header : printed two_values false true ≡ codes "\nconfig x 's'\n\toption a 'it'\\''s'\n\toption b '1\n2'\n\n"
without_header = refl

-- an anonymous section of a type that is quoted, and a list
abbrev pub with_list : Package
with_list = record {
  name = codes "t";
  sections = record {
    name = codes "cfg01b61d";
    anonymous = true;
    kind = codes "x#";
    options = record { name = codes "a"; value = Many (codes "1" ∷ [] ∷ []) } ∷ [];
  } ∷ [];
  made = 1;
}

not_named : printed with_list false false ≡ codes "\nconfig 'x#'\n\tlist a '1'\n\tlist a ''\n\n"
not_named = refl

named : printed with_list false true ≡ codes "\nconfig 'x#' 'cfg01b61d'\n\tlist a '1'\n\tlist a ''\n\n"
named = refl

nothing : (printed (record { name = codes "t"; sections = []; made = 0 }) true false ≡ codes "package t\n\n") × (printed (record { name = codes "t"; sections = []; made = 0 }) false false ≡ codes "\n")
nothing = (refl, refl)

clean : IsClean two_values
clean [] section behind e n = tt
clean (x ∷ front) section behind e n = absurd (omega (arith, ap length e, length-append front (section ∷ behind)))

-- a named section behind an anonymous one that has its name where it is read
not_clean : IsClean (record {
  name = codes "t";
  sections = record { name = codes "cfg02b61d"; anonymous = true; kind = codes "x"; options = [] } ∷ record { name = codes "cfg01b61d"; anonymous = false; kind = codes "y"; options = [] } ∷ [];
  made = 2;
}) → ⊥
unfolding digits
not_clean c = (c (record { name = codes "cfg02b61d"; anonymous = true; kind = codes "x"; options = [] } ∷ []) (record { name = codes "cfg01b61d"; anonymous = false; kind = codes "y"; options = [] }) [] refl refl).0 refl

-- the third section that was added, of the type `device`
name_of_third : anonymous_name 3 (codes "device") ≡ codes "cfg030f15"
unfolding digits
name_of_third = refl

-- two sections of one type, with one of another type between them
abbrev two_devices : Package
two_devices = record {
  name = codes "network";
  sections = record { name = codes "cfg010f15"; anonymous = true; kind = codes "device"; options = [] }
      ∷ record { name = codes "lan"; anonymous = false; kind = codes "interface"; options = [] }
      ∷ record { name = codes "cfg030f15"; anonymous = true; kind = codes "device"; options = [] } ∷ [];
  made = 3;
}

abbrev device_at : ℤ → Path
device_at index = record { «package» = codes "network"; section = Some (ByPlace (codes "device") index); option = None }

-- `@device[-1]` is the last of them, `@device[-2]` the one before, and there is no third
last_device : place_of two_devices (device_at (negsuc 0)) ≡ Some (record { section = 2; option = None })
last_device = refl

device_before : place_of two_devices (device_at (negsuc 1)) ≡ Some (record { section = 0; option = None })
device_before = refl

no_third_device : place_of two_devices (device_at (negsuc 2)) ≡ None
no_third_device = refl

last_device_spelled : SpellsPath (codes "network.@device[-1]") (device_at (negsuc 0))
last_device_spelled = record {
  behind = codes ".@device[-1]";
  whole = refl;
  named = (omega arith, tested PackageName (codes "network") refl);
  place = (
    codes "@device[-1]",
    [],
    refl,
    (codes "-1", refl, (omega arith, tested Printable (codes "device") refl), backwards (codes "1") 1 refl one (omega arith) refl),
    refl,
  );
}
  where
    one : IsNumber 10 (codes "1") 1
    one = ((omega arith, (omega arith, tt)), refl)

-- an option before any section, on the first line
no_section : HasTreeFault (codes "option a b") (NoSection 1)
no_section = record {
  commands = ItemCmd 1 (codes "a") (codes "b") ∷ [];
  spelled = option_alone;
  folded = refl;
}

-- a quote that is open on the second line
open_quote : HasTreeFault (codes "config x\n\"a") (Text (OpenQuote 2))
open_quote = open_on_second_line
