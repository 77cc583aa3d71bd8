use Rattle.uci_delta.proofs.NameLemmas.{named_is}
use Rattle.uci_delta.proofs.names.is_named.Goals as goal

pub returns : goal.returns
returns c = named_is _ _ _ _ c.as_bytes.ensures c.is_name.ensures
