use Rattle.std.proofs.Common.{rules}
use Rattle.uci_cli.specs.Values.{item_text}
use Rattle.uci_cli.proofs.ValueLemmas.{joined_from}
use Rattle.uci_cli.proofs.values.give_items.Goals as goal

pub returns : goal.returns
returns c = joined_from item_text c.args.between.now c.in-Some.first.now c.args.out.now.items c.give_item.new.out.items c.loop-item.out.items c.args.items.now c.in-Some.others.now c.loop-item.item-index (search rules) (search rules)
    c.loop-item.invariant c.loop-item-test.false
