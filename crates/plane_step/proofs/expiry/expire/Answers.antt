use Rattle.std.proofs.Common.{arith}
use Rattle.std.proofs.lemmas.Result.{on_ok_weaker}
use Rattle.net_plane.specs.Network.{Network}
use Rattle.plane_step.specs.Expiry.{Reached}
use Rattle.plane_step.proofs.ExpiryLemmas.{reaches, stays_itself}
use Rattle.plane_step.proofs.expiry.expire.Goals as goal

pub returns-then-next-now-clause-reached : goal.returns-then-next-now-clause-reached
returns-then-next-now-clause-reached c = λ (net : Network). Reached.past c.if-next-now.true

pub returns-then-next-now-clause-live : goal.returns-then-next-now-clause-live
returns-then-next-now-clause-live c = λ later. absurd (omega arith)

pub returns-then-next-now-clause-stays : goal.returns-then-next-now-clause-stays
returns-then-next-now-clause-stays c = stays_itself c.args.store.now

pub returns-clause-reached : goal.returns-clause-reached
returns-clause-reached c =
    λ (net : Network). reaches c.args.now c.args.next c.args.store.now c.end_expired.new.store c.args.callers.now
    c.end_expired.new.sessions net c.if-next-now.false c.end_expired.ensures.stays c.end_expired.ensures.goes

pub returns-clause-live : goal.returns-clause-live
returns-clause-live c = on_ok_weaker c.end_expired.result (λ live later. live) c.end_expired.ensures.live
