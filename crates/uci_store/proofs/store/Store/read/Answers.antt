use Rattle.std.proofs.Common.{subst}
use Rattle.uci_text.specs.declared.byte_class.ByteClass.TheVariants.{PackageName}
use Rattle.uci_text.specs.Table.{IsNameOf}
use Rattle.uci_store.proofs.StoreLemmas.{name_is}
use Rattle.uci_store.proofs.store.Store.read.Goals as goal

pub returns-in-Ok-clause-valid : goal.returns-in-Ok-clause-valid
returns-in-Ok-clause-valid c =
    c.in-Ok.ensures.valid (subst (IsNameOf PackageName) c.requires.name (name_is c.args.self.now.packages.items c.args.file c.requires.store.named c.requires.low c.requires.number))
