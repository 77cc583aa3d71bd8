use Rattle.std.proofs.Common.{◌≡◌, ◌≢◌, Err, refl, ap, sym, subst, ◌∙◌}
use Rattle.std.proofs.lemmas.Result.{err_from_is_err_and}
use Rattle.uci_text.specs.declared.stop.Stop.TheVariants.{Memory as NoMemory}
use Rattle.uci_text.specs.declared.text_error.TextError.{TextError}
use Rattle.uci_text.specs.declared.text_error.TextError.TheVariants.{Memory}
use Rattle.uci_text.specs.Found.{RefusesExtent}
use Rattle.uci_text.proofs.ExtentLemmas.{between, front_fits, reads, refuses, refuses_open}
use Rattle.uci_text.proofs.extent.read_extent.Goals as goal

pub returns-in-Err-clause-refused : goal.returns-in-Err-clause-refused
returns-in-Err-clause-refused c = λ error e n.
    let same : c.fault_of.result ≡ error = cc in
    let k : c.in-Err.stop ≢ NoMemory = λ m. n (sym same ∙ c.fault_of.ensures.memory m) in
    let f : c.fault_of.result ≢ Memory = λ m. n (sym same ∙ m) in
    let P : TextError → Type 0 = λ z. RefusesExtent c.args.number c.args.bytes.now z in
    subst P same (refuses_open _ _ _ _ (c.in-Err.ensures.stopped _ refl k) (c.fault_of.ensures.fault f))

pub line_behind-requires : goal.line_behind-requires
line_behind-requires c =
    let b = between _ _ _ _ c.in-Ok.ensures.found c.behind_gap-behind.ensures in
    front_fits _ _ _ _ _ c.requires.room b.whole (c.before-2.ensures b.extent b.whole)

pub returns-in_err-next-clause-refused : goal.returns-in_err-next-clause-refused
returns-in_err-next-clause-refused c = λ error e n.
    let p = err_from_is_err_and c.from_residual.result c.from_residual.ensures.1 in
    let same : c.in_err-next.field-0.0 ≡ error = cc (p.1, p.2, e) in
    let b = between _ _ _ _ c.in-Ok.ensures.found c.behind_gap-behind.ensures in
    refuses _ _ _ _ _ _ b (c.before-2.ensures b.extent b.whole) (c.in_err-next.ensures.refused error (ap Err same))

pub returns-clause-found : goal.returns-clause-found
returns-clause-found c =
    let b = between _ _ _ _ c.in-Ok.ensures.found c.behind_gap-behind.ensures in
    reads _ _ _ _ _ _ b (c.before-2.ensures b.extent b.whole) c.in_ok-next.ensures.clean c.in_ok-next.ensures.line
