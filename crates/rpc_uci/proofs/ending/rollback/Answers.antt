use Rattle.std.proofs.Common.{Err, sym, subst}
use Rattle.uci_store.specs.Store.{has_failed}
use Rattle.uci_store.specs.Waiting.{RollsBackTo}
use Rattle.rpc_rules.specs.declared.rpc_error.RpcError.{RpcError}
use Rattle.rpc_uci.specs.declared.reply.Reply.{Reply}
use Rattle.rpc_uci.specs.Done.{reloading, Rests, EndDone}
use Rattle.rpc_uci.specs.Staging.{HasCause}
use Rattle.rpc_uci.proofs.EndingLemmas.{end_refused}
use Rattle.rpc_uci.proofs.ending.rollback.Goals as goal

pub returns-in-Err-clause-done : goal.returns-in-Err-clause-done
returns-in-Err-clause-done g c =
    let rests : Rests c.args.store.now c.rollback.new.self = record { files = c.in-Err.ensures.kept; staged = c.in-Err.ensures.staged } in
    let both = end_refused reloading (RollsBackTo c.args.store.now c.args.holder) c.args.store.now c.rollback.new.self c.args.holder (has_failed c.rollback.new.self) (g.D.Disk.view c.args.files.now) (g.D.Disk.view c.rollback.new.files)
    c.in-Err.error c.requires.ready c.requires.own rests c.in-Err.ensures.closes c.in-Err.ensures.refused in
    subst (λ (e : RpcError). EndDone reloading (RollsBackTo c.args.store.now c.args.holder) c.args.store.now c.rollback.new.self (Err e)) (sym c.refused.ensures) both.0

pub returns-in-Err-clause-cause : goal.returns-in-Err-clause-cause
returns-in-Err-clause-cause g c =
    let rests : Rests c.args.store.now c.rollback.new.self = record { files = c.in-Err.ensures.kept; staged = c.in-Err.ensures.staged } in
    let both = end_refused reloading (RollsBackTo c.args.store.now c.args.holder) c.args.store.now c.rollback.new.self c.args.holder (has_failed c.rollback.new.self) (g.D.Disk.view c.args.files.now) (g.D.Disk.view c.rollback.new.files)
    c.in-Err.error c.requires.ready c.requires.own rests c.in-Err.ensures.closes c.in-Err.ensures.refused in
    subst (λ (e : RpcError). HasCause {X = Reply} (Err e) (has_failed c.rollback.new.self) (g.D.Disk.view c.args.files.now) (g.D.Disk.view c.rollback.new.files)) (sym c.refused.ensures) both.1
