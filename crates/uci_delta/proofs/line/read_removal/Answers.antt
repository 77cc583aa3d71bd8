use Rattle.uci_delta.specs.Print.{kind_of}
use Rattle.uci_delta.proofs.LineLemmas.{removal_head, removal_kind}
use Rattle.uci_delta.proofs.line.read_removal.Goals as goal

pub returns-in_default : goal.returns-in_default
returns-in_default c = λ delta n s. c.in_default.ensures (kind_of delta.change) delta.section delta.option (removal_head _ _ delta c.requires.bare n s)

pub returns-in_default-kind : goal.returns-in_default-kind
returns-in_default-kind c = λ delta n s. c.in_default-kind.not-Remove (removal_kind _ _ _ _ _ delta c.requires.bare c.in-Some.ensures n s)
