use Rattle.std.proofs.Common.{arith, sym}
use Rattle.rpc_session.proofs.StepLemmas.{not_live, permitted, missing}
use Rattle.rpc_session.proofs.sessions.Sessions.allowed.Goals as goal

pub returns-then-not-is_live : goal.returns-then-not-is_live
returns-then-not-is_live c =
    let at = rw c.deref.ensures.value at c.in-Ok.ensures.found in
    rw (sym c.self.view_is) (not_live (record { sessions = c.self.inside.rows.items; next = c.self.inside.next }) c.args.sid c.args.now c.in-Ok.place c.args.wanted.now c.index-session.result.now c.self.invariant.rise at
    c.index-session.ensures (grind (arith, c.is_live.ensures, c.if-not-is_live.true)))

pub returns-then-may : goal.returns-then-may
returns-then-may c =
    let at = rw c.deref.ensures.value at c.in-Ok.ensures.found in
    rw (sym c.self.view_is) (permitted (record { sessions = c.self.inside.rows.items; next = c.self.inside.next }) c.args.sid c.args.now c.in-Ok.place c.args.wanted.now c.index-session.result.now c.self.invariant.rise at
    c.index-session.ensures (grind (arith, c.is_live.ensures, c.if-not-is_live.false)) (grind (arith, c.may.ensures, c.if-may.true)))

pub returns-else-may : goal.returns-else-may
returns-else-may c =
    let at = rw c.deref.ensures.value at c.in-Ok.ensures.found in
    rw (sym c.self.view_is) (missing (record { sessions = c.self.inside.rows.items; next = c.self.inside.next }) c.args.sid c.args.now c.in-Ok.place c.args.wanted.now c.index-session.result.now c.self.invariant.rise at
    c.index-session.ensures (grind (arith, c.is_live.ensures, c.if-not-is_live.false)) (grind (arith, c.may.ensures, c.if-may.false)))
