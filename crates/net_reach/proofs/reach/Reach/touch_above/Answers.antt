use Rattle.std.proofs.Common.{ap, ◌∙◌}
use Rattle.net_reach.specs.Places.{Places}
use Rattle.net_reach.proofs.ReachLemmas.{walked}
use Rattle.net_reach.proofs.reach.Reach.touch_above.Goals as goal

pub returns-clause-touched : goal.returns-clause-touched
returns-clause-touched c = λ inputs is. walked inputs c.args.self.now is c.args.name.now c.as_slice-names.result.now c.places-rows.result.now c.climb.new.rows c.clear.new.self c.touch_at.new.touched c.touch_rows.new.touched c.sort.new.self
    c.as_slice-names.ensures.value c.places-rows.ensures.places c.climb.ensures.bound c.clear.ensures c.climb.ensures.first c.climb.ensures.further c.climb.ensures.only c.touch_at.ensures.stays c.touch_at.ensures.touches
    c.touch_at.ensures.only c.touch_rows.ensures c.sort.ensures.same c.sort.ensures.rising

pub returns-clause-stays : goal.returns-clause-stays
returns-clause-stays c = λ inputs is. record {
  interfaces = is.interfaces;
  radios = is.radios;
  devices = is.devices;
  rows = is.rows;
  names = is.names;
  above = is.above;
  at_device = is.at_device;
  at_l3_device = is.at_l3_device;
  routes = is.routes;
  row_room = c.climb.ensures.bound ∙ is.row_room;
  place_room = c.sort.ensures.bound ∙ c.touch_rows.ensures.stays.bound ∙ c.touch_at.ensures.stays.bound ∙ ap (λ (s : Places). s.bound) c.clear.ensures ∙ is.place_room;
}
