use Rattle.http_requests.proofs.FrontLemmas.{some_front}
use Rattle.http_requests.proofs.laws.some_front.Goals as goal

pub returns : goal.returns
returns c = some_front
