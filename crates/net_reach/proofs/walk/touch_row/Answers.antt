use Rattle.net_reach.proofs.WalkLemmas.{touched_unnamed, touched_named, read_some, read_none}
use Rattle.net_reach.proofs.walk.touch_row.Goals as goal

pub returns-in-Some : goal.returns-in-Some
returns-in-Some c = λ before rows was. touched_named c.args.at_device.now c.args.at_l3_device.now c.args.names.now rows c.args.row c.in-Some.name.now before c.args.touched.now c.touch_at.new.touched
    (read_some c.args.names.now c.args.row c.get.result c.in-Some.name c.get.ensures.lookup c.in-Some.is) c.touch_at.ensures.stays c.touch_at.ensures.touches c.touch_at.ensures.only was

pub returns-in-None : goal.returns-in-None
returns-in-None c = λ before rows was. touched_unnamed c.args.at_device.now c.args.at_l3_device.now c.args.names.now rows c.args.row before c.args.touched.now
    (read_none c.args.names.now c.args.row c.get.result c.get.ensures.lookup c.in-None.is) was
