use Rattle.std.proofs.Common.{ℕ, Option, Some, sym, subst}
use Rattle.std.specs.Prelude.{Ok, Err}
use Rattle.rpc_objects.specs.declared.local_answer.LocalAnswer.{LocalAnswer}
use Rattle.bus_lines.specs.CallLine.{Admits, call_with}
use Rattle.bus_lines.proofs.AdmitLemmas.{not_live, may_call, lacks_grant}
use Rattle.bus_lines.proofs.call_line.admit.Goals as goal

pub returns-in_default : goal.returns-in_default
returns-in_default c =
    subst (λ (o : Option ℕ). Admits c.args.now c.args.sessions.now (call_with c.args.words.now c.args.args) o
    c.args.sessions.now (Ok c.args.args)) (sym c.in_default.is) Admits.nobody

pub returns-in_default-used : goal.returns-in_default-used
returns-in_default-used c =
    let call = call_with c.args.words.now c.args.args in
    subst (λ (o : Option ℕ). Admits c.args.now c.args.sessions.now call o c.used.new.self (Err c.refused.result))
    (sym c.in-Some.is)
    (subst (λ (a : LocalAnswer). Admits c.args.now c.args.sessions.now call (Some c.in-Some.session) c.used.new.self (Err a))
    (sym c.refused.ensures)
    (not_live c.args.now c.in-Some.session c.args.sessions.now c.used.new.self call c.in_default-used.field-0
    c.in_default-used.ensures.done))

pub returns-in_ok-name_session-in-Ok-allowed : goal.returns-in_ok-name_session-in-Ok-allowed
returns-in_ok-name_session-in-Ok-allowed c =
    let call = call_with c.args.words.now c.args.args in
    let named = c.in_ok-name_session-in-Ok-allowed.field-0 in
    subst (λ (o : Option ℕ). Admits c.args.now c.args.sessions.now call o c.used.new.self (Ok named)) (sym c.in-Some.is)
    (may_call c.args.now c.in-Some.session c.args.sessions.now c.used.new.self call c.in-Ok.field-0 c.in-Ok.ensures.done
    c.in_ok-grant.grant (rw (c.as_bytes.ensures, c.as_bytes-2.ensures) at c.in_ok-grant.ensures) c.in-Ok-allowed.field-0
    named c.in-Ok-allowed.ensures c.in_ok-name_session-in-Ok-allowed.ensures)

pub returns-in_ok-denied-in-Err : goal.returns-in_ok-denied-in-Err
returns-in_ok-denied-in-Err c =
    let call = call_with c.args.words.now c.args.args in
    let answer = c.in_ok-denied-in-Err.field-0 in
    subst (λ (o : Option ℕ). Admits c.args.now c.args.sessions.now call o c.used.new.self (Err answer)) (sym c.in-Some.is)
    (lacks_grant c.args.now c.in-Some.session c.args.sessions.now c.used.new.self call c.in-Ok.field-0 c.in-Ok.ensures.done
    c.in_ok-grant.grant (rw (c.as_bytes.ensures, c.as_bytes-2.ensures) at c.in_ok-grant.ensures) c.in-Err.field-0
    answer c.in-Err.ensures c.in_ok-denied-in-Err.ensures)
