use Rattle.http_requests.proofs.AskedLemmas.{one_end}
use Rattle.http_requests.proofs.laws.one_end.Goals as goal

pub returns : goal.returns
returns c = one_end 100000
