use Rattle.uci_text.specs.declared.byte_class.ByteClass.TheVariants.{NotZero}
use Rattle.uci_delta.proofs.NameLemmas.{value_is}
use Rattle.uci_delta.proofs.names.is_value.Goals as goal

pub returns : goal.returns
returns c = value_is NotZero _ _ _ c.as_bytes.ensures c.contains_all.ensures
