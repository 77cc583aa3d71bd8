-- Commands that the checker carries out. What a text of a file reads as is not computed, so none of these reads one.
use Rattle.std.proofs.Common.{ℕ, ◌≡◌, List, [], ◌∷◌, Some, None, codes, refl}
use Rattle.std.specs.Prelude.{negsuc}
use Rattle.snap_disk.specs.Opened.{settled}
use Rattle.uci_tree.specs.declared.path.SectionRef.TheVariants.{Place as ByPlace}
use Rattle.uci_delta.specs.declared.delta.Change.TheVariants.{Set, Remove}
use Rattle.uci_delta.specs.declared.delta.Delta.{Delta}
use Rattle.uci_tool.specs.Folder.{Folder}
use Rattle.uci_tool.specs.Paths.{path_in}
use Rattle.uci_tool.specs.Done.{UciDone, uci_done}

place_from_the_end : path_in (codes "network.@device[-1].name") ≡ Some (record { «package» = codes "network"; section = Some (ByPlace (codes "device") (negsuc 0)); option = Some (codes "name") })
unfolding path_in
place_from_the_end = refl

no_type : path_in (codes "network.@[0]") ≡ None
unfolding path_in
no_type = refl

abbrev pub address : Delta
address = record { «package» = codes "network"; section = codes "lan"; option = Some (codes "ipaddr"); change = Set (codes "10.0.0.1") }

abbrev pub removal : Delta
removal = record { «package» = codes "network"; section = codes "wan"; option = None; change = Remove }

-- the command line and a session have staged a change each
abbrev pub one_package : Folder
one_package = record {
  names = codes "network" ∷ [];
  files = settled ([] ∷ []);
  staged = record { holder = 0; file = 2; delta = address } ∷ record { holder = 7; file = 2; delta = removal } ∷ [];
}

abbrev pub refused : List ℕ → ℕ → UciDone
refused told number = record { output = []; told = told; status = 1; refusal = number; after = one_package }

own_changes : uci_done (codes "changes" ∷ []) one_package [] ≡ record {
  output = codes "network.lan.ipaddr='10.0.0.1'\n";
  told = [];
  status = 0;
  refusal = 0;
  after = one_package;
}
own_changes = refl

reverted : uci_done (codes "revert" ∷ codes "network.lan" ∷ []) one_package [] ≡ record {
  output = [];
  told = [];
  status = 0;
  refusal = 0;
  after = record one_package { staged = record { holder = 7; file = 2; delta = removal } ∷ [] };
}
unfolding path_in
reverted = refl

-- the form of an argument goes before the package
no_section : uci_done (codes "get" ∷ codes "absent" ∷ []) one_package [] ≡ refused (codes "uci: Invalid argument\n") 21
unfolding path_in
no_section = refl

no_package : uci_done (codes "get" ∷ codes "absent.a" ∷ []) one_package [] ≡ refused (codes "uci: Entry not found\n") 35
unfolding path_in
no_package = refl

not_set : uci_done (codes "set" ∷ codes "absent.a=b" ∷ []) one_package [] ≡ refused (codes "uci: Entry not found\n") 35
unfolding path_in
not_set = refl

nothing_to_set : uci_done (codes "set" ∷ codes "network.lan" ∷ []) one_package [] ≡ refused (codes "uci: Invalid argument\n") 21
nothing_to_set = refl

usage : uci_done (codes "bogus" ∷ []) one_package [] ≡ record { output = []; told = codes "uci: usage\n"; status = 2; refusal = 0; after = one_package }
usage = refl

quiet_usage : uci_done (codes "-q" ∷ codes "bogus" ∷ []) one_package [] ≡ record { output = []; told = []; status = 2; refusal = 0; after = one_package }
quiet_usage = refl
