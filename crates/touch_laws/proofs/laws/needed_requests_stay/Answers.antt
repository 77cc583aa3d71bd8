use Rattle.touch_laws.proofs.IdleLemmas.{requests_stay, none_told}
use Rattle.touch_laws.proofs.OwnLemmas.{own_requests}
use Rattle.touch_laws.proofs.laws.needed_requests_stay.Goals as goal

pub returns : goal.returns
returns c = record {
  stay = λ inputs touched reached. requests_stay inputs reached touched;
  told = λ inputs touched reached. none_told inputs reached touched;
  own = λ inputs o row reached member named. own_requests inputs reached o row member named;
}
