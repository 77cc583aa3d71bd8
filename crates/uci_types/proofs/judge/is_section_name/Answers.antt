use Rattle.uci_types.specs.Values.{is_section_name}
use Rattle.uci_types.proofs.WordLemmas.{name_is, name_from, same_test}
use Rattle.uci_types.proofs.judge.is_section_name.Goals as goal

pub returns : goal.returns
returns c = same_test c.is_name.result (is_section_name c.args.value.now)
    (λ e. name_is c.args.value.now (c.is_name.ensures.0 e)) (λ e. c.is_name.ensures.1 (name_from c.args.value.now e))
