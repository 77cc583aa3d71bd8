use Rattle.std.proofs.Common.{subst}
use Rattle.rpc_rules.specs.Method.{method_of}
use Rattle.rpc_rules.specs.Arguments.{caller_in}
use Rattle.rpc_rules.specs.Grants.{is_admitted}
use Rattle.rpc_uci.specs.Call.{call_of}
use Rattle.rpc_uci.specs.Done.{Answers}
use Rattle.rpc_uci.proofs.ServeLemmas.{denied_is, is_denied, reloads_once_told}
use Rattle.rpc_uci.proofs.serving.serve.Goals as goal

pub returns-clause-denied : goal.returns-clause-denied
returns-clause-denied g c grant e =
    denied_is (method_of c.args.method.now) (is_admitted (caller_in c.args.args.now) c.args.now c.args.sessions.now) (call_of c.args.sessions.now c.args.args.now c.args.now) c.args.store.now c.answer.new.store grant
    (subst (Answers c.args.sessions.now c.args.method.now c.args.args.now c.args.now c.args.store.now c.answer.new.store) e c.answer.ensures.done)

pub returns-clause-denies : goal.returns-clause-denies
returns-clause-denies g c grant ample e =
    is_denied (method_of c.args.method.now) (is_admitted (caller_in c.args.args.now) c.args.now c.args.sessions.now) (call_of c.args.sessions.now c.args.args.now c.args.now) c.args.store.now c.answer.new.store c.answer.result grant
    c.answer.ensures.done ample e

pub returns-clause-reload : goal.returns-clause-reload
returns-clause-reload g c =
    reloads_once_told (method_of c.args.method.now) (is_admitted (caller_in c.args.args.now) c.args.now c.args.sessions.now) (call_of c.args.sessions.now c.args.args.now c.args.now) c.args.store.now c.answer.new.store c.answer.result
    c.answer.ensures.done
