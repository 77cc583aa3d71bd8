use Rattle.std.proofs.Common.{◌≡◌, Err, ap}
use Rattle.std.proofs.lemmas.Result.{err_from_is_err_and}
use Rattle.uci_text.proofs.CommandLemmas.{next_word, next_more, command_done, command_open}
use Rattle.uci_text.proofs.command.read_command.Goals as goal

pub returns-in_err-word-clause-stopped : goal.returns-in_err-word-clause-stopped
returns-in_err-word-clause-stopped c = λ stop e n.
    let p = err_from_is_err_and c.from_residual.result c.from_residual.ensures.1 in
    let same : c.in_err-word.field-0.0 ≡ stop = cc (p.1, p.2, e) in
    command_open _ _ _ _ c.loop-words.invariant (c.in_err-word.ensures.stopped stop (ap Err same) n)

pub returns-then-ends_command-clause-found : goal.returns-then-ends_command-clause-found
returns-then-ends_command-clause-found c = rw c.in_ok-push.ensures.ok (command_done _ _ _ _ _ (next_word _ _ _ _ _ c.loop-words.invariant c.in_ok-word.ensures.found) c.split.ensures c.if-ends_command.ensures)

pub loop-words-preserved : goal.loop-words-preserved
loop-words-preserved c = rw c.in_ok-push.ensures.ok (next_more _ _ _ _ _ (next_word _ _ _ _ _ c.loop-words.invariant c.in_ok-word.ensures.found) c.in_ok-word.ensures.found.end c.split.ensures c.if-ends_command.ensures)
