use Rattle.std.proofs.Common.{◌∙◌, ap}
use Rattle.net_modern.specs.Options.{ifname_words}
use Rattle.net_modern.proofs.OptionLemmas.{bridge_is}
use Rattle.net_modern.proofs.options.move_to_bridge.Goals as goal

pub returns-clause-bridge : goal.returns-clause-bridge
returns-clause-bridge c = bridge_is c.args.bridge.now c.args.options.now.items c.move_option.new.from.items c.move_option-2.new.from.items c.new-moved.result.items c.push_text.new.options.items c.push_text-2.new.options.items
    c.push_list.new.options.items c.move_option.new.into.items c.move_option-2.new.into.items _ c.in_ok-words.words (c.in_ok-words.ensures ∙ ap ifname_words c.as_slice.ensures.value) c.in_ok-move_option.ensures.from
    c.in_ok-move_option-2.ensures.from c.new-moved.ensures.items c.in_ok-push_text.ensures c.in_ok-push_text-2.ensures c.in_ok-push_list.ensures c.in_ok-move_option.ensures.into c.in_ok-move_option-2.ensures.into
    c.in_ok-move_option-3.ensures.into
