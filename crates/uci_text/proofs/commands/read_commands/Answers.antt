use Rattle.std.proofs.Common.{◌≡◌, Err, ap, sym, ◌∙◌}
use Rattle.std.proofs.lemmas.Result.{err_from_is_err_and}
use Rattle.uci_text.proofs.ClassLemmas.{has_none}
use Rattle.uci_text.proofs.CommandsLemmas.{commands_none, commands_more, commands_all, bytes_refused, words_refused, gap_bytes_refused, commands_are_one}
use Rattle.uci_text.proofs.commands.read_commands.Goals as goal

pub returns-in_err-rest-clause-refused : goal.returns-in_err-rest-clause-refused
returns-in_err-rest-clause-refused c = λ error e n.
    let p = err_from_is_err_and c.from_residual.result c.from_residual.ensures.1 in
    let same : c.in_err-rest.field-0.0 ≡ error = cc (p.1, p.2, e) in
    gap_bytes_refused _ _ (c.in_err-rest.ensures.refused error (ap Err same))

pub loop-rest-init : goal.loop-rest-init
loop-rest-init c = commands_none _ _ _ _ c.in_ok-rest.ensures.found c.new-commands.ensures

pub returns-in_err-line-clause-refused : goal.returns-in_err-line-clause-refused
returns-in_err-line-clause-refused c = λ error e n.
    let p = err_from_is_err_and c.from_residual-in_err-line.result c.from_residual-in_err-line.ensures.1 in
    let same : c.in_err-line.field-0.0 ≡ error = cc (p.1, p.2, e) in
    bytes_refused _ _ _ _ _ c.loop-rest.invariant (c.in_err-line.ensures.refused error (ap Err same) n)

pub returns-in_err-command-clause-refused : goal.returns-in_err-command-clause-refused
returns-in_err-command-clause-refused c = λ error e n.
    let p = err_from_is_err_and c.from_residual-in_err-command.result c.from_residual-in_err-command.ensures.1 in
    let same : c.in_err-command.field-0.0 ≡ error = cc (p.1, p.2, e) in
    words_refused _ _ _ _ _ _ _ _ c.loop-rest.invariant c.in_ok-line.ensures.found (c.in_err-command.ensures.refused error (ap Err same))

pub loop-rest-preserved : goal.loop-rest-preserved
loop-rest-preserved c = rw c.in_ok-push.ensures.ok (commands_more _ _ _ _ _ _ _ _ c.loop-rest.invariant c.in_ok-line.ensures.found c.in_ok-command.ensures.found)

pub returns-clause-found : goal.returns-clause-found
returns-clause-found c = commands_all _ _ _ _ c.loop-rest.invariant (has_none _ (sym c.is_empty.ensures ∙ c.loop-rest-test.false))

pub returns-clause-only : goal.returns-clause-only
returns-clause-only c = λ others s. commands_are_one _ _ _ (commands_all _ _ _ _ c.loop-rest.invariant (has_none _ (sym c.is_empty.ensures ∙ c.loop-rest-test.false))) s
