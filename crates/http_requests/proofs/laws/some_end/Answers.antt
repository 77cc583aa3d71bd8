use Rattle.http_requests.proofs.AskedLemmas.{some_end}
use Rattle.http_requests.proofs.laws.some_end.Goals as goal

pub returns : goal.returns
returns c = some_end 100000
