use Rattle.http_requests.proofs.FrontLemmas.{one_front}
use Rattle.http_requests.proofs.laws.one_front.Goals as goal

pub returns : goal.returns
returns c = one_front
