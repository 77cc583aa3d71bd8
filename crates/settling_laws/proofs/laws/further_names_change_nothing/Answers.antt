use Rattle.settling_laws.proofs.FurtherLemmas.{beside_grown, ready_grown, below_grown, same_claims, more_names}
use Rattle.settling_laws.proofs.laws.further_names_change_nothing.Goals as goal

pub returns : goal.returns
returns c = record {
  beside = λ inputs c name sound beside other. beside_grown inputs c name sound beside other;
  ready = λ inputs c name sound beside other ready. ready_grown inputs c name sound beside other ready;
  below = λ facts s name below. below_grown facts s name below;
  claims = λ s name q. same_claims s.known.names name q;
  names = λ s name q h. more_names s.known.names name q h;
}
