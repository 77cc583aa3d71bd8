-- Words that the checker reads.
use Rattle.std.proofs.Common.{◌≡◌, [], ◌∷◌, Some, None, true, codes, refl}
use Rattle.uci_cli.specs.declared.command.Command.TheVariants.{Show, Stage, Commit}
use Rattle.uci_cli.specs.declared.keyword.Verb.TheVariants.{Set}
use Rattle.uci_cli.specs.Options.{usual}
use Rattle.uci_cli.specs.Words.{asked_of}

-- `-X show network.@device[0]`
shown_by_name : asked_of (codes "-X" ∷ codes "show" ∷ codes "network.@device[0]" ∷ []) ≡ record {
  options = record usual { by_name = true };
  command = Some (Show (Some (codes "network.@device[0]")));
}
shown_by_name = refl

-- `-c -q commit`: the folder is `-q`
field_takes_any_word : asked_of (codes "-c" ∷ codes "-q" ∷ codes "commit" ∷ []) ≡ record {
  options = record usual { files = codes "-q" };
  command = Some (Commit None);
}
field_takes_any_word = refl

-- `-n -N set a.b=c`: the last one counts
last_one_counts : asked_of (codes "-n" ∷ codes "-N" ∷ codes "set" ∷ codes "a.b=c" ∷ []) ≡ record {
  options = usual;
  command = Some (Stage Set (codes "a.b=c"));
}
last_one_counts = refl

-- `-q`, `-q --help`, `-c`, `get`, `show a b`, `-qX show` and `show -q` ask for nothing, the first two quietly
nothing_asked : asked_of (codes "-q" ∷ []) ≡ record { options = record usual { quiet = true }; command = None }
nothing_asked = refl

unknown_option : asked_of (codes "-q" ∷ codes "--help" ∷ []) ≡ record { options = record usual { quiet = true }; command = None }
unknown_option = refl

lacks_its_word : asked_of (codes "-c" ∷ []) ≡ record { options = usual; command = None }
lacks_its_word = refl

too_few : asked_of (codes "get" ∷ []) ≡ record { options = usual; command = None }
too_few = refl

too_many : asked_of (codes "show" ∷ codes "a" ∷ codes "b" ∷ []) ≡ record { options = usual; command = None }
too_many = refl

joined : asked_of (codes "-qX" ∷ codes "show" ∷ []) ≡ record { options = usual; command = None }
joined = refl
