-- The network of so many bridges, each over a VLAN of one device and with an interface on it.
use Rattle.std.specs.Prelude.{ℕ, zero, suc, ◌/◌, ◌%◌, ◌==◌, List, [], ◌∷◌, ◌++◌, length, Bool, true, false, not, codes}
use Rattle.std.specs.Prelude.{decimal, if◌then◌else◌}
use Rattle.std.specs.List.{flat_map}
use Rattle.uci_tree.specs.declared.package.Package.{Package}
use Rattle.uci_tree.specs.declared.package.Section.{Section}
use Rattle.uci_tree.specs.declared.package.Opt.{Opt}
use Rattle.uci_tree.specs.declared.package.Value.TheVariants as value
use Rattle.net_gen.specs.declared.packages.Standing.{Standing}
use Rattle.net_gen.specs.declared.packages.Standing.TheVariants as standing

-- a package that says nothing
abbrev pub no_package : Package
no_package = record { name = []; sections = []; made = 0 }

-- the numbers from 1 to this one
abbrev pub up_to : ℕ → List ℕ
up_to zero = []
up_to (suc n) = up_to n ++ suc n ∷ []

-- an option with one text
abbrev pub option : List ℕ → List ℕ → Opt
option name text = record { name = name; value = value.One text }

-- the bridge of a number, and the VLAN that is its port
abbrev pub bridge_name : ℕ → List ℕ
bridge_name k = codes "b" ++ decimal k

abbrev pub port_name : ℕ → List ℕ
port_name k = codes "eth0." ++ decimal k

abbrev pub bridge : ℕ → Section
bridge k = record {
  name = bridge_name k;
  anonymous = false;
  kind = codes "device";
  options = option (codes "name") (bridge_name k) ∷ option (codes "type") (codes "bridge")
      ∷ record { name = codes "ports"; value = value.Many (port_name k ∷ []) } ∷ [];
}

-- the address of the interface of a number: no two of fewer than 65,536 numbers have one
abbrev pub address : ℕ → List ℕ
address k =
    codes "10." ++ decimal (k / 256) ++ codes "." ++ decimal (k % 256) ++ codes ".1/24"

-- the static interface of a number, on its bridge
abbrev pub interface : ℕ → Section
interface k = record {
  name = codes "n" ++ decimal k;
  anonymous = false;
  kind = codes "interface";
  options = option (codes "proto") (codes "static") ∷ option (codes "device") (bridge_name k)
      ∷ option (codes "ipaddr") (address k) ∷ [];
}

-- whether the interface of a number stands
abbrev pub stands : Standing → ℕ → Bool
stands standing.All k = true
stands standing.WithoutThirds k = not (k % 3 == 0)

-- the bridge of a number, and its interface where it stands
abbrev pub sections_of : Standing → ℕ → List Section
sections_of which k = bridge k ∷ (if stands which k then interface k ∷ [] else [])

abbrev pub sections : Standing → ℕ → List Section
sections which count = flat_map (sections_of which) (up_to count)

-- the `network` package of so many bridges
abbrev pub network : Standing → ℕ → Package
network which count = record {
  name = codes "network";
  sections = sections which count;
  made = length (sections which count);
}
