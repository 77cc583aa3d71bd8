use Rattle.std.proofs.Common.{rules, subst}
use Rattle.uci_tool.specs.Folder.{folder_of}
use Rattle.step_net.specs.Reload.{ReloadAsks}
use Rattle.step_net.specs.ReloadTaken.{TakesOne}
use Rattle.step_net.proofs.TakenLemmas.{told_one}
use Rattle.rpc_objects.proofs.UciLemmas.{rests_after, loads_after, halts_after}
use Rattle.rpc_objects.proofs.uci_call.reload_after.Goals as goal

pub returns-then-not-anew-clause-reloads : goal.returns-then-not-anew-clause-reloads
returns-then-not-anew-clause-reloads c = λ sessions.
    rests_after sessions c.args.store.now c.args.net.now c.args.answer c.quiet.result (search rules) c.requires.told c.quiet.ensures

pub returns-in-Ok-clause-reloads : goal.returns-in-Ok-clause-reloads
returns-in-Ok-clause-reloads c = λ sessions.
    loads_after sessions c.args.store.now c.args.net.now c.reload.new.net c.args.answer c.in-Ok.told c.of_reload.result
    (search rules)
    (subst (TakesOne (ReloadAsks (folder_of c.args.store.now)) c.args.net.now c.reload.new.net) c.in-Ok.is
    (told_one (ReloadAsks (folder_of c.args.store.now)) c.args.net.now c.reload.new.net c.reload.result c.tell.result
    c.reload.ensures.takes c.tell.ensures))
    c.of_reload.ensures

pub returns-in-Err-clause-reloads : goal.returns-in-Err-clause-reloads
returns-in-Err-clause-reloads c = λ sessions.
    halts_after sessions c.args.store.now c.args.net.now c.reload.new.net c.args.answer (search rules)
    (subst (TakesOne (ReloadAsks (folder_of c.args.store.now)) c.args.net.now c.reload.new.net) c.in-Err.is
    (told_one (ReloadAsks (folder_of c.args.store.now)) c.args.net.now c.reload.new.net c.reload.result c.tell.result
    c.reload.ensures.takes c.tell.ensures))
