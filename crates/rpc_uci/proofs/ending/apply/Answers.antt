use Rattle.std.proofs.Common.{◌≡◌, ℕ, Option, Result, Ok, sym, subst, rules}
use Rattle.uci_store.specs.Stops.{StopLeaves}
use Rattle.uci_store.specs.Applying.{AppliesTo}
use Rattle.rpc_rules.specs.Arguments.{apply_deadline}
use Rattle.rpc_uci.specs.Done.{DeadlineLeads}
use Rattle.rpc_uci.proofs.ending.apply.Goals as goal

pub returns-in-Err-apply-clause-images : goal.returns-in-Err-apply-clause-images
returns-in-Err-apply-clause-images g c =
    let found : apply_deadline c.args.args.now c.args.now ≡ Ok c.in-Ok.deadline = search rules in
    subst (λ (z : Result (Option ℕ) ℕ). StopLeaves c.args.store.now (g.D.Disk.view c.args.files.now) (g.D.Disk.view c.apply.new.files) (DeadlineLeads z (AppliesTo c.args.store.now c.args.holder))) (sym found) c.in-Err-apply.ensures.images
