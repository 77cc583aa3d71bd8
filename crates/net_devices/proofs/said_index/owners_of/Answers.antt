use Rattle.std.proofs.Common.{List, take, subst, sym}
use Rattle.net_devices.specs.declared.said.Said.{Said}
use Rattle.net_devices.specs.Found.{HasOwners}
use Rattle.net_devices.proofs.FoundLemmas.{owners_more}
use Rattle.net_devices.proofs.KeyLemmas.{take_more}
use Rattle.net_devices.proofs.said_index.owners_of.Goals as goal

pub loop-saying-preserved : goal.loop-saying-preserved
loop-saying-preserved c =
    let saying = c.saying-item.result in
    let said : List Said = c.args.said.now in
    subst (HasOwners c.add_owned_by.new.owners) (sym (take_more said c.loop-saying.saying-index saying c.loop-saying-test.true c.saying-item.is))
    (owners_more c.loop-saying.owners c.add_owned_by.new.owners (take c.loop-saying.saying-index said) saying c.loop-saying.invariant c.in_ok-add_owned_by.ensures)
