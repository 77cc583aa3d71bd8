use Rattle.uci_delta.proofs.OptionLemmas.{option_found, item_gone, item_left}
use Rattle.uci_delta.proofs.options.delete_item.Goals as goal

pub returns-then-delete_equal-clause-done : goal.returns-then-delete_equal-clause-done
returns-then-delete_equal-clause-done c = item_gone c.args.name.now c.args.item.now c.args.options.now.items _ _ c.index_mut.result.now _ _ c.is_valid.ensures c.if-not-is_valid.false
    (option_found _ c.args.options.now.items _ c.args.name.now _ _ c.option_place.ensures c.as_slice.ensures.value c.as_bytes.ensures c.in-Some.is) c.index_mut.ensures.value c.if-delete_equal.ensures c.remove-emptied.ensures.items

pub returns-else-delete_equal-clause-done : goal.returns-else-delete_equal-clause-done
returns-else-delete_equal-clause-done c = item_left c.args.name.now c.args.item.now c.args.options.now.items _ c.index_mut.result.now _ _ c.is_valid.ensures c.if-not-is_valid.false
    (option_found _ c.args.options.now.items _ c.args.name.now _ _ c.option_place.ensures c.as_slice.ensures.value c.as_bytes.ensures c.in-Some.is) c.index_mut.ensures.value c.if-delete_equal.ensures
