use Rattle.std.proofs.Common.{arith, ◌≡◌, drop, sym, refl, ap, subst, ◌∙◌}
use Rattle.net_settle.specs.Outside.{outside_of}
use Rattle.net_settle.specs.Settle.{SettledAlone, StopsAtCall}
use Rattle.net_settle.proofs.SettleLemmas.{nothing_settled, settled_more, stops_at_line, stops_at_call}
use Rattle.graph_settle.specs.SettlingState.{SettlingState, calls_of, IsReady, IsAlike, HoldsAs}
use Rattle.graph_settle.proofs.MadeLemmas.{first_and_rest, is_admitted}
use Rattle.graph_settle.proofs.EndLemmas.{none_left, is_reached, ready_at_end, admits, alike_itself, alike_on, holds_then}
use Rattle.graph_settle.proofs.settling.GraphSettling.settle.Goals as goal

pub loop-call-init : goal.loop-call-init
loop-call-init g c =
    let same : c.args.self.now ≡ c.prepare.new.self = sym c.prepare.ensures in
    let first = outside_of g.O.Sink g.K.Kernel c.args.out.now c.args.kernel.now in
    record {
      settled = subst (λ (s : SettlingState). SettledAlone (calls_of c.args.self.now) (calls_of s) first first) same (nothing_settled (calls_of c.args.self.now) first);
      ready = subst IsReady same c.requires.ready;
      of = subst (HoldsAs g.K.Kernel c.args.kernel.now) same c.requires.of;
      stays = subst (IsAlike c.args.self.now) same (alike_itself c.args.self.now);
      may_lose_link = ap (λ (s : SettlingState). s.may_lose_link) c.prepare.ensures;
      kernel_later = omega arith;
      out_later = omega arith;
    }

pub apply-requires : goal.apply-requires
apply-requires g c =
    admits g.K.Kernel c.loop-call.kernel c.loop-call.self c.in-Some.call c.loop-call.invariant.of
    (is_admitted c.loop-call.self c.loop-call.invariant.ready c.in-Some.call (sym c.next_call.ensures ∙ c.in-Some.is))

pub did-requires-clause-next : goal.did-requires-clause-next
did-requires-clause-next g c = sym c.next_call.ensures ∙ c.in-Some.is

pub loop-call-preserved : goal.loop-call-preserved
loop-call-preserved g c =
    let first = outside_of g.O.Sink g.K.Kernel c.args.out.now c.args.kernel.now in
    let so_far = outside_of g.O.Sink g.K.Kernel c.loop-call.out c.loop-call.kernel in
    let last = outside_of g.O.Sink g.K.Kernel c.write_line.new.out c.apply.new.self in
    let kernel_rose = c.in-Ok.ensures.cause.later in
    let out_rose = c.in-Ok-write_line.ensures.cause.later in
    let kernel_later = c.loop-call.invariant.kernel_later in
    let out_later = c.loop-call.invariant.out_later in
    record {
      settled = settled_more (calls_of c.args.self.now) (calls_of c.did.new.self) c.in-Some.call first so_far last (subst (λ rest. SettledAlone (calls_of c.args.self.now) rest first so_far) c.did.ensures.left c.loop-call.invariant.settled)
          c.in-Ok.ensures.did c.in-Ok.ensures.logged c.in-Ok.ensures.asked c.in-Ok-write_line.ensures.written;
      ready = c.did.ensures.ready;
      of = holds_then g.K.Kernel c.loop-call.kernel c.apply.new.self c.loop-call.self c.did.new.self c.in-Some.call c.loop-call.invariant.of c.in-Ok.ensures.devices c.in-Ok.ensures.did c.did.ensures.held c.did.ensures.stays.known;
      stays = alike_on c.args.self.now c.loop-call.self c.did.new.self c.loop-call.invariant.stays c.did.ensures.stays;
      may_lose_link = c.did.ensures.may_lose_link ∙ c.loop-call.invariant.may_lose_link;
      kernel_later = omega arith;
      out_later = omega arith;
    }

pub returns-in_default-apply-clause-ends : goal.returns-in_default-apply-clause-ends
returns-in_default-apply-clause-ends g c =
    let first = outside_of g.O.Sink g.K.Kernel c.args.out.now c.args.kernel.now in
    let last = outside_of g.O.Sink g.K.Kernel c.loop-call.out c.apply.new.self in
    let so_far = outside_of g.O.Sink g.K.Kernel c.loop-call.out c.loop-call.kernel in
    let split = first_and_rest (calls_of c.loop-call.self) c.in-Some.call (sym c.next_call.ensures ∙ c.in-Some.is) in
    let rose = c.in_default-apply.ensures.cause.failed in
    let later = c.loop-call.invariant.kernel_later in
    subst (λ rest. StopsAtCall (calls_of c.args.self.now) rest first last) (sym split)
    (stops_at_call (calls_of c.args.self.now) (drop 1 (calls_of c.loop-call.self)) c.in-Some.call first so_far last (subst (λ rest. SettledAlone (calls_of c.args.self.now) rest first so_far) split c.loop-call.invariant.settled)
    c.in_default-apply.ensures.err.0 c.in_default-apply.ensures.err.1 refl c.in_default-apply.ensures.asked (omega arith))

pub returns-in_default-apply-clause-of : goal.returns-in_default-apply-clause-of
returns-in_default-apply-clause-of g c =
    let of = c.loop-call.invariant.of in
    record { devices = c.in_default-apply.ensures.devices ∙ of.devices; objects = c.in_default-apply.ensures.err.0 ∙ of.objects }

pub returns-in_default-write_line-clause-ends : goal.returns-in_default-write_line-clause-ends
returns-in_default-write_line-clause-ends g c =
    let first = outside_of g.O.Sink g.K.Kernel c.args.out.now c.args.kernel.now in
    let so_far = outside_of g.O.Sink g.K.Kernel c.loop-call.out c.loop-call.kernel in
    let last = outside_of g.O.Sink g.K.Kernel c.write_line.new.out c.apply.new.self in
    let rose = c.in_default-write_line.ensures.cause.failed in
    let later = c.loop-call.invariant.out_later in
    stops_at_line (calls_of c.args.self.now) (calls_of c.did.new.self) c.in-Some.call first so_far last (subst (λ rest. SettledAlone (calls_of c.args.self.now) rest first so_far) c.did.ensures.left c.loop-call.invariant.settled)
    c.in-Ok.ensures.did c.in-Ok.ensures.logged c.in-Ok.ensures.asked c.in_default-write_line.ensures.in_part (omega arith)

pub returns-in_default-write_line-clause-of : goal.returns-in_default-write_line-clause-of
returns-in_default-write_line-clause-of g c = holds_then g.K.Kernel c.loop-call.kernel c.apply.new.self c.loop-call.self c.did.new.self c.in-Some.call c.loop-call.invariant.of c.in-Ok.ensures.devices c.in-Ok.ensures.did c.did.ensures.held
    c.did.ensures.stays.known

pub returns-in_default-write_line-clause-stays : goal.returns-in_default-write_line-clause-stays
returns-in_default-write_line-clause-stays g c = alike_on c.args.self.now c.loop-call.self c.did.new.self c.loop-call.invariant.stays c.did.ensures.stays

pub returns-in_default-write_line-clause-stopped : goal.returns-in_default-write_line-clause-stopped
returns-in_default-write_line-clause-stopped g c = c.did.ensures.may_lose_link ∙ c.loop-call.invariant.may_lose_link

pub returns-clause-ends : goal.returns-clause-ends
returns-clause-ends g c =
    let first = outside_of g.O.Sink g.K.Kernel c.args.out.now c.args.kernel.now in
    let last = outside_of g.O.Sink g.K.Kernel c.loop-call.out c.loop-call.kernel in
    let none = none_left c.loop-call.self c.loop-call.invariant.ready (sym c.next_call.ensures ∙ c.in_default.is) in
    (none, subst (λ rest. SettledAlone (calls_of c.args.self.now) rest first last) none c.loop-call.invariant.settled)

pub returns-clause-reached : goal.returns-clause-reached
returns-clause-reached g c =
    is_reached c.loop-call.self c.loop-call.invariant.ready (sym c.next_call.ensures ∙ c.in_default.is) ∙ c.loop-call.invariant.stays.wanted

pub returns-clause-of : goal.returns-clause-of
returns-clause-of g c = let of = c.loop-call.invariant.of in record { devices = of.devices; objects = of.objects }

pub returns-clause-stays : goal.returns-clause-stays
returns-clause-stays g c =
    let stays = c.loop-call.invariant.stays in
    record { known = stays.known; wanted = stays.wanted; loads = stays.loads; givers = stays.givers; places = stays.places }

pub returns-clause-ready : goal.returns-clause-ready
returns-clause-ready g c = ready_at_end c.loop-call.self c.loop-call.invariant.ready (sym c.next_call.ensures ∙ c.in_default.is) c.are_gifts.ensures
