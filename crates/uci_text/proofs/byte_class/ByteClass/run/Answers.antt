use Rattle.std.proofs.Common.{refl, not, ap, ◌∙◌, length}
use Rattle.std.specs.Prelude.{unwrap_or}
use Rattle.uci_text.specs.declared.byte_class.ByteClass.TheVariants.{NotZero}
use Rattle.lanes_scan.specs.ByteTest.{is_nul}
use Rattle.uci_text.proofs.ScanLemmas.{run_of_class, place_or_length}
use Rattle.uci_text.proofs.byte_class.ByteClass.run.Goals as goal

pub returns-in-NotZero : goal.returns-in-NotZero
returns-in-NotZero c =
    let bytes = c.args.bytes.now in
    let found = c.unwrap_or.ensures ∙ ap (λ place. unwrap_or place (length bytes)) c.first_nul.ensures ∙ place_or_length is_nul bytes in
    run_of_class (λ byte. not (is_nul byte)) bytes c.args.self NotZero _ c.in-NotZero.is found c.type_inv.bytes refl
