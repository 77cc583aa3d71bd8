use Rattle.std.proofs.Common.{◌≡◌, ◌∙◌, ap, sym, subst, refl, Err, arith}
use Rattle.std.specs.Prelude.{⊤}
use Rattle.net_rules.specs.Moment.{devices_of, want_of}
use Rattle.net_settle.specs.Outside.{outside_of}
use Rattle.net_plane.specs.Network.{calls_of}
use Rattle.net_plane.specs.Settled.{Settles}
use Rattle.net_start.proofs.SettlingLemmas.{line_cut, done_reached, requests_cut, stopped, told, stopped_writing, same_calls, same_count}
use Rattle.net_start.proofs.bring_up.settle.Goals as goal

pub returns-in-WriteFailed : goal.returns-in-WriteFailed
returns-in-WriteFailed g c =
    let before = outside_of g.O.Sink g.K.Kernel c.args.out.now c.args.kernel.now in
    let after = outside_of g.O.Sink g.K.Kernel c.settle.new.out c.settle.new.kernel in
    let inputs = c.settle.ensures.made.1.inputs in
    let same = c.settle.ensures.of.devices ∙ (ap devices_of inputs ∙ sym c.requires.devices) in
    line_cut (calls_of c.args.net.now) (calls_of c.settle.new.self) before after same
    c.settle.ensures.later.0 c.args.requests.now
    (subst (λ r. Settles (calls_of c.args.net.now) (calls_of c.settle.new.self) before after r)
    (c.in-Err.is ∙ ap Err c.in-WriteFailed.is) c.settle.ensures.settles)

pub returns-in-Ok : goal.returns-in-Ok
returns-in-Ok g c =
    let all = calls_of c.args.net.now in
    let before = outside_of g.O.Sink g.K.Kernel c.args.out.now c.args.kernel.now in
    let middle = outside_of g.O.Sink g.K.Kernel c.settle.new.out c.settle.new.kernel in
    let after = outside_of g.O.Sink g.K.Kernel c.tell.new.out c.settle.new.kernel in
    let inputs = c.settle.ensures.made.1.inputs in
    let same = c.settle.ensures.of.devices ∙ (ap devices_of inputs ∙ sym c.requires.devices) in
    let later = c.settle.ensures.later.1 in
    told all c.args.requests.now (want_of c.args.net.now.inputs) before after middle.out middle.out_faults
    c.tell.result c.tell.ensures.written c.tell.ensures.in_part c.tell.ensures.cause.failed
    c.tell.ensures.error
    (λ grows. record {
      reached = done_reached all (calls_of c.settle.new.self) before middle same
          c.settle.ensures.later.0 c.args.requests.now after.out after.out_faults
          c.in-Ok.ensures.settles.1 grows;
      held = c.in-Ok.ensures.reached ∙ ap want_of inputs;
    })
    (λ front rose. requests_cut all (calls_of c.settle.new.self) before middle same
    c.settle.ensures.later.0 c.args.requests.now after.out after.out_faults c.settle.result
    c.settle.ensures.settles (λ e. absurd (cc e)) front (omega arith))

pub returns-in-Ok-tell : goal.returns-in-Ok-tell
returns-in-Ok-tell g c =
    let all = calls_of c.args.net.now in
    let before = outside_of g.O.Sink g.K.Kernel c.args.out.now c.args.kernel.now in
    let middle = outside_of g.O.Sink g.K.Kernel c.settle.new.out c.settle.new.kernel in
    let after = outside_of g.O.Sink g.K.Kernel c.tell-in_default.new.out c.settle.new.kernel in
    let inputs = c.settle.ensures.made.1.inputs in
    let same = c.settle.ensures.of.devices ∙ (ap devices_of inputs ∙ sym c.requires.devices) in
    let held = sym c.settle.ensures.of.objects in
    let wants = ap want_of inputs in
    stopped all (calls_of c.settle.new.self) before middle same c.settle.ensures.later.0
    c.args.requests.now after.out after.out_faults c.due.result (want_of c.args.net.now.inputs)
    c.settle.result c.in-Err.error c.in-Err.is c.settle.ensures.settles
    (λ e. c.in_default.not-WriteFailed (cc (e, c.in-Err.is)))
    c.in-Ok-tell.ensures.written
    (same_calls _ _ _ _ _ _ (sym c.settle.ensures.of.devices) held wants)
    (sym (c.due.ensures ∙ same_count _ _ _ _ held wants))

pub returns-in-Err-tell : goal.returns-in-Err-tell
returns-in-Err-tell g c =
    let all = calls_of c.args.net.now in
    let before = outside_of g.O.Sink g.K.Kernel c.args.out.now c.args.kernel.now in
    let middle = outside_of g.O.Sink g.K.Kernel c.settle.new.out c.settle.new.kernel in
    let after = outside_of g.O.Sink g.K.Kernel c.tell-in_default.new.out c.settle.new.kernel in
    let inputs = c.settle.ensures.made.1.inputs in
    let same = c.settle.ensures.of.devices ∙ (ap devices_of inputs ∙ sym c.requires.devices) in
    let later = c.settle.ensures.later.1 in
    let rose = c.in-Err-tell.ensures.cause.failed in
    stopped_writing {X = ⊤} all c.args.requests.now (want_of c.args.net.now.inputs) before after
    (Err c.in-Err-tell.error) c.in-Err-tell.error refl c.in-Err-tell.ensures.error
    (requests_cut all (calls_of c.settle.new.self) before middle same c.settle.ensures.later.0
    c.args.requests.now after.out after.out_faults c.settle.result c.settle.ensures.settles
    (λ e. c.in_default.not-WriteFailed (cc (e, c.in-Err.is))) c.in-Err-tell.ensures.in_part
    (omega arith))
