use Rattle.std.proofs.Common.{subst}
use Rattle.uci_store.specs.Refusals.{ReadRefuses}
use Rattle.step_net.proofs.LoadLemmas.{loaded, absent}
use Rattle.step_net.proofs.loading.load_package.Goals as goal

pub returns-in-Ok-clause-found : goal.returns-in-Ok-clause-found
returns-in-Ok-clause-found c =
    loaded c.args.store.now c.args.name.now c.in-Ok.tree c.in-Ok.ensures.found

pub returns-in-Err-NoPackage-clause-found : goal.returns-in-Err-NoPackage-clause-found
returns-in-Err-NoPackage-clause-found c =
    absent c.args.store.now c.args.name.now c.no_package.result c.no_package.ensures
    (subst (ReadRefuses c.args.store.now c.args.name.now) c.in-Err-NoPackage.field-0-is c.in-Err-NoPackage.ensures.refused)
