use Rattle.std.proofs.Common.{◌≢◌, refl, subst}
use Rattle.uci_text.specs.declared.stop.Stop.{Stop}
use Rattle.uci_text.specs.declared.stop.Stop.TheVariants.{Memory}
use Rattle.uci_text.specs.Found.{HasNoEnd}
use Rattle.uci_text.proofs.ExtentLemmas.{open_fault, backslash_fault}
use Rattle.uci_text.proofs.extent.fault_of.Goals as goal

pub returns-in-Ok-clause-fault : goal.returns-in-Ok-clause-fault
returns-in-Ok-clause-fault c = λ n.
    let P : Stop → Type 0 = λ z. HasNoEnd c.args.bytes.now z in
    let k : c.args.stop ≢ Memory = λ m. cc (m, c.in-Quote.is) in
    open_fault _ _ _ _ (subst P c.in-Quote.is (c.requires.stopped k)) c.in-Ok.ensures.clean c.in-Ok.ensures.line

pub returns-in-Err-clause-fault : goal.returns-in-Err-clause-fault
returns-in-Err-clause-fault c = λ n. c.in-Err.ensures.refused _ refl

pub returns-in-Ok-line_of_end-clause-fault : goal.returns-in-Ok-line_of_end-clause-fault
returns-in-Ok-line_of_end-clause-fault c = λ n.
    let P : Stop → Type 0 = λ z. HasNoEnd c.args.bytes.now z in
    let k : c.args.stop ≢ Memory = λ m. cc (m, c.in-Backslash.is) in
    backslash_fault _ _ _ (subst P c.in-Backslash.is (c.requires.stopped k)) c.in-Ok-line_of_end.ensures.clean c.in-Ok-line_of_end.ensures.line

pub returns-in-Err-line_of_end-clause-fault : goal.returns-in-Err-line_of_end-clause-fault
returns-in-Err-line_of_end-clause-fault c = λ n. c.in-Err-line_of_end.ensures.refused _ refl
