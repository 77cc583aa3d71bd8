use Rattle.net_reach.proofs.WalkLemmas.{stays_then, stays_with, leads_to, still_leads, touches_only}
use Rattle.net_reach.proofs.walk.touch_at.Goals as goal

pub returns-clause-stays : goal.returns-clause-stays
returns-clause-stays c = stays_then c.args.touched.now c.add_all.new.self c.add_all-2.new.self (stays_with c.args.touched.now c.add_all.new.self c.places_at.result.now c.add_all.ensures)
    (stays_with c.add_all.new.self c.add_all-2.new.self c.places_at-2.result.now c.add_all-2.ensures)

pub returns-clause-touches : goal.returns-clause-touches
returns-clause-touches c = record {
  device = still_leads c.args.at_device.now c.args.name.now c.add_all.new.self c.add_all-2.new.self (stays_with c.add_all.new.self c.add_all-2.new.self c.places_at-2.result.now c.add_all-2.ensures)
      (leads_to c.args.at_device.now c.args.name.now c.args.touched.now c.add_all.new.self c.places_at.result.now c.places_at.ensures c.add_all.ensures);
  l3_device = leads_to c.args.at_l3_device.now c.args.name.now c.add_all.new.self c.add_all-2.new.self c.places_at-2.result.now c.places_at-2.ensures c.add_all-2.ensures;
}

pub returns-clause-only : goal.returns-clause-only
returns-clause-only c = touches_only c.args.at_device.now c.args.at_l3_device.now c.args.name.now c.args.touched.now c.add_all.new.self c.add_all-2.new.self c.places_at.result.now c.places_at-2.result.now c.places_at.ensures
    c.places_at-2.ensures c.add_all.ensures c.add_all-2.ensures
