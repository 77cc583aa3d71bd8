use Rattle.std.proofs.Common.{ℕ, subst}
use Rattle.uci_store.specs.Stops.{StopLeaves}
use Rattle.uci_store.specs.Applying.{AppliesTo}
use Rattle.rpc_rules.specs.declared.method.Method.TheVariants.{Apply}
use Rattle.rpc_rules.specs.Arguments.{apply_deadline}
use Rattle.rpc_uci.specs.Call.{call_by}
use Rattle.rpc_uci.specs.Done.{DeadlineLeads}
use Rattle.rpc_uci.proofs.GrantLemmas.{apply_is_free}
use Rattle.rpc_uci.proofs.ServeLemmas.{none_missing, leads_by_method}
use Rattle.rpc_uci.proofs.serving.carry_out.Goals as goal

pub apply-requires-clause-free : goal.apply-requires-clause-free
apply-requires-clause-free g c =
    let call = call_by c.args.sessions.now c.args.caller c.args.args.now c.args.now in
    apply_is_free call c.args.store.now (none_missing c.args.method Apply call c.args.store.now c.in-Apply.is c.requires.granted)

pub returns-in-Apply-clause-images : goal.returns-in-Apply-clause-images
returns-in-Apply-clause-images g c =
    let before = g.D.Disk.view c.args.files.now in
    let behind = g.D.Disk.view c.apply.new.files in
    leads_by_method c.args.method Apply (call_by c.args.sessions.now c.args.caller c.args.args.now c.args.now) c.args.store.now before behind c.in-Apply.is
    (subst (λ (holder : ℕ). StopLeaves c.args.store.now before behind (DeadlineLeads (apply_deadline c.args.args.now c.args.now) (AppliesTo c.args.store.now holder))) c.holder-holder.ensures c.apply.ensures.images)
