use Rattle.std.proofs.Common.{sym, ◌∙◌}
use Rattle.uci_delta.proofs.OptionLemmas.{option_found, without_none, without_at}
use Rattle.uci_tool.proofs.merging.drop_option.Goals as goal

pub returns-in_default : goal.returns-in_default
returns-in_default c = sym (without_none c.args.name.now c.args.options.now.items (option_found _ c.args.options.now.items _ c.args.name.now _ _ c.option_place.ensures c.as_slice.ensures.value c.as_bytes.ensures c.in_default.is))

pub returns : goal.returns
returns c = c.remove-gone.ensures.items ∙ sym (without_at c.args.name.now c.args.options.now.items _
    (option_found _ c.args.options.now.items _ c.args.name.now _ _ c.option_place.ensures c.as_slice.ensures.value c.as_bytes.ensures c.in-Some.is))
