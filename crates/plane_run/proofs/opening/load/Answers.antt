use Rattle.plane_run.proofs.OpeningLemmas.{requests_are}
use Rattle.plane_run.proofs.opening.load.Goals as goal

pub returns-in-Ok-lines_of_requests-clause-requests : goal.returns-in-Ok-lines_of_requests-clause-requests
returns-in-Ok-lines_of_requests-clause-requests c =
    requests_are c.args.net.now c.load.new.self c.args.network.now c.args.wireless.now
    c.in-Ok-lines_of_requests.lines.items c.in-Ok.ensures.ok c.in-Ok-lines_of_requests.ensures.lines
