use Rattle.std.proofs.Common.{◌≡◌, ℕ, List, Option, Some, sym, subst, rules}
use Rattle.uci_store.specs.Stops.{StopLeaves}
use Rattle.uci_store.specs.Committing.{CommitsTo}
use Rattle.rpc_rules.specs.Arguments.{config_in}
use Rattle.rpc_uci.specs.Done.{ConfigLeads}
use Rattle.rpc_uci.proofs.ending.commit.Goals as goal

pub returns-in-Ok-clause-images : goal.returns-in-Ok-clause-images
returns-in-Ok-clause-images g c =
    let named : config_in c.args.args.now ≡ Some c.in-Some.name.now = search rules in
    subst (λ (z : Option (List ℕ)). StopLeaves c.args.store.now (g.D.Disk.view c.args.files.now) (g.D.Disk.view c.commit.new.files) (ConfigLeads z (CommitsTo c.args.store.now c.args.holder))) (sym named) c.in-Ok.ensures.images

pub returns-in-Err-clause-images : goal.returns-in-Err-clause-images
returns-in-Err-clause-images g c =
    let named : config_in c.args.args.now ≡ Some c.in-Some.name.now = search rules in
    subst (λ (z : Option (List ℕ)). StopLeaves c.args.store.now (g.D.Disk.view c.args.files.now) (g.D.Disk.view c.commit.new.files) (ConfigLeads z (CommitsTo c.args.store.now c.args.holder))) (sym named) c.in-Err.ensures.images
