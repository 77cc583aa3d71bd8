use Rattle.std.proofs.Common.{◌≡◌, ◌+◌, ap, sym, ◌∙◌}
use Rattle.uci_text.specs.declared.text_error.TextError.TheVariants.{BadWord}
use Rattle.uci_text.proofs.ExtentLemmas.{zero_found}
use Rattle.uci_text.proofs.extent.line_behind.Goals as goal

pub returns-else-is_empty-clause-refused : goal.returns-else-is_empty-clause-refused
returns-else-is_empty-clause-refused c = λ error e.
    let same : error ≡ BadWord (c.args.number + c.newlines.result) = cc in
    zero_found _ _ _ _ _ c.split.ensures (sym c.is_empty.ensures ∙ c.if-is_empty.false) (same ∙ ap (λ n. BadWord (c.args.number + n)) c.newlines.ensures)
