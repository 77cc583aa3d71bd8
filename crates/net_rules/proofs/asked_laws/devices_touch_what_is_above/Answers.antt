use Rattle.net_rules.proofs.AboveLemmas.{above_stays, names_off, places_stay, needs_off, uses_off, needs_stay}
use Rattle.net_rules.proofs.TouchEventLemmas.{device_differs}
use Rattle.net_rules.proofs.asked_laws.devices_touch_what_is_above.Goals as goal

pub returns : goal.returns
returns c = record {
  event = device_differs;
  above = λ before now base other name differs. above_stays before now base differs other name;
  names = λ before now base name differs. names_off before now base differs name;
  places = λ before now base row differs. places_stay before now base differs row;
  needs = λ before now base row differs. needs_off before now base differs row;
  uses = λ before now base row differs. uses_off before now base differs row;
  stay = λ before now base touched differs. needs_stay before now base differs touched;
}
