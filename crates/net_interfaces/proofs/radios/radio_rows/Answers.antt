use Rattle.std.proofs.Common.{◌≡◌, [], ◌∙◌, map}
use Rattle.net_interfaces.specs.Names.{HasPlaces}
use Rattle.net_interfaces.specs.Radios.{radio_names, radios, radio_row}
use Rattle.net_interfaces.proofs.RadioLemmas.{wifi_goes_on, bare_from, places_are}
use Rattle.net_interfaces.proofs.radios.radio_rows.Goals as goal

pub loop-section-init : goal.loop-section-init
loop-section-init c = c.in_ok-rows.ensures ∙ bare_from (radio_names c.args.sections.now) 0 (radios c.args.sections.now)

pub loop-section-preserved : goal.loop-section-preserved
loop-section-preserved c =
    let rows_are : c.as_slice.result.now ≡ map (λ radio. radio_row radio []) (radios c.args.sections.now) = c.as_slice.ensures.value ∙ c.in_ok-rows.ensures in
    let has : HasPlaces c.in_ok-places.places (radio_names c.args.sections.now) = places_are c.in_ok-places.places c.args.sections.now c.as_slice.result.now rows_are c.in_ok-places.ensures in
    wifi_goes_on (radio_names c.args.sections.now) c.args.sections.now c.loop-section.section-index c.section-item.result (radios c.args.sections.now) c.loop-section.rows.items c.add_wifi.new.rows.items c.loop-section-test.true
    c.section-item.is c.loop-section.invariant (c.in_ok-add_wifi.ensures (radio_names c.args.sections.now) has)
