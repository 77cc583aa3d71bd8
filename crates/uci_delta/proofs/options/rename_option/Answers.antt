use Rattle.std.proofs.Common.{sym, ◌∙◌}
use Rattle.uci_delta.proofs.OptionLemmas.{option_found, renamed_lacks, renamed_invalid, renamed_duplicate, renamed_done}
use Rattle.uci_delta.proofs.options.rename_option.Goals as goal

pub returns-in_default-clause-refused : goal.returns-in_default-clause-refused
returns-in_default-clause-refused c = renamed_lacks c.args.name.now c.args.new.now c.args.options.now.items
    (option_found _ c.args.options.now.items _ c.args.name.now _ _ c.option_place.ensures c.as_slice.ensures.value c.as_bytes.ensures c.in_default.is)

pub returns-then-not-is_named-clause-refused : goal.returns-then-not-is_named-clause-refused
returns-then-not-is_named-clause-refused c = renamed_invalid c.args.name.now c.args.new.now c.args.options.now.items _
    (option_found _ c.args.options.now.items _ c.args.name.now _ _ c.option_place.ensures c.as_slice.ensures.value c.as_bytes.ensures c.in-Some.is) (sym c.is_named.ensures ∙ c.if-not-is_named.true)

pub returns-in_default-option_place-clause-refused :
    goal.returns-in_default-option_place-clause-refused
returns-in_default-option_place-clause-refused c = renamed_duplicate c.args.name.now c.args.new.now c.args.options.now.items _ _
    (option_found _ c.args.options.now.items _ c.args.name.now _ _ c.option_place.ensures c.as_slice.ensures.value c.as_bytes.ensures c.in-Some.is) (sym c.is_named.ensures ∙ c.if-not-is_named.false)
    (option_found _ c.args.options.now.items _ c.args.new.now _ _ c.option_place-2.ensures c.as_slice-2.ensures.value c.as_bytes-2.ensures c.in_default-option_place.is)

pub returns-clause-done : goal.returns-clause-done
returns-clause-done c = renamed_done c.args.name.now c.args.new.now _ c.args.options.now.items _ c.index_mut.result.now
    (option_found _ c.args.options.now.items _ c.args.name.now _ _ c.option_place.ensures c.as_slice.ensures.value c.as_bytes.ensures c.in-Some.is) c.index_mut.ensures.value (sym c.is_named.ensures ∙ c.if-not-is_named.false)
    (option_found _ c.args.options.now.items _ c.args.new.now _ _ c.option_place-2.ensures c.as_slice-2.ensures.value c.as_bytes-2.ensures c.in-None.is) c.in_ok-new.ensures
