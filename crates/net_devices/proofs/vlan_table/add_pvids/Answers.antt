use Rattle.std.proofs.Common.{◌+◌, take, ap, sym, ◌∙◌}
use Rattle.std.specs.Prelude.{◌||◌}
use Rattle.std.specs.List.{list_any}
use Rattle.std.proofs.lemmas.List.Folds.{list_any_more}
use Rattle.net_devices.specs.BridgeVlans.{gives_pvid}
use Rattle.net_devices.proofs.TableLemmas.{more_pvids}
use Rattle.net_devices.proofs.vlan_table.add_pvids.Goals as goal

pub loop-entry-preserved : goal.loop-entry-preserved
loop-entry-preserved c =
    let entry = c.entry-item.result in
    more_pvids c.args.pvids.now c.loop-entry.pvids c.add_pvid.new.pvids c.args.bridge.now (take c.loop-entry.entry-index c.args.entries.now) (take (c.loop-entry.entry-index + 1) c.args.entries.now) entry c.loop-entry.invariant
    c.in_ok-add_pvid.ensures
    (λ q. list_any_more (gives_pvid q.1) c.args.entries.now c.loop-entry.entry-index entry c.loop-entry-test.true
    ∙ ap (λ z. list_any (gives_pvid q.1) (take c.loop-entry.entry-index c.args.entries.now) || gives_pvid q.1 z) (sym c.entry-item.is))
