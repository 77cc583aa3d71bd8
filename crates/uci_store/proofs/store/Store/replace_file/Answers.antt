use Rattle.std.proofs.Common.{Err, ◌≡◌, sym, subst}
use Rattle.std.specs.Prelude.{IfErr}
use Rattle.std.proofs.lemmas.Result.{err_from_is_err_and}
use Rattle.uci_store.specs.Refusals.{HasFile}
use Rattle.uci_store.specs.Committing.{ReplaceStops}
use Rattle.uci_store.proofs.CommitLemmas.{replace_waits}
use Rattle.uci_store.proofs.store.Store.replace_file.Goals as goal

pub returns-in_err-refuse_waiting-clause-refused : goal.returns-in_err-refuse_waiting-clause-refused
returns-in_err-refuse_waiting-clause-refused c =
    let p = err_from_is_err_and c.from_residual-in_err-refuse_waiting.result c.from_residual-in_err-refuse_waiting.ensures.1 in
    let e : c.from_residual-in_err-refuse_waiting.result ≡ Err c.in_err-refuse_waiting.field-0.0 = cc (p.1, p.2) in
    let number : HasFile c.args.self.now c.args.«package».now.name c.in-Some.file = let a = c.in-Some.ensures.is in let b = c.as_bytes.ensures in cc in
    subst (λ (r : _). IfErr r (ReplaceStops c.args.self.now c.args.«package».now)) (sym e) (replace_waits c.args.self.now c.args.«package».now c.in-Some.file c.in_err-refuse_waiting.field-0.0 number c.in_err-refuse_waiting.ensures.refused)
