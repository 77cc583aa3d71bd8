use Rattle.settling_laws.proofs.DeviceLemmas.{comes_below, leaves_below, carrier_below, claimed_below}
use Rattle.settling_laws.proofs.laws.devices_lead_graphs_on.Goals as goal

pub returns : goal.returns
returns c = record {
  comes = λ inputs s name id carrier mtu mac agrees place. comes_below inputs s agrees name id place carrier mtu mac;
  leaves = λ inputs s name id agrees place. leaves_below inputs s agrees name id place;
  carrier = λ inputs s name id on agrees place. carrier_below inputs s agrees name id place on;
  claims = claimed_below;
}
