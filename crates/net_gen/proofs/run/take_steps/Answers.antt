use Rattle.std.proofs.Common.{arith, refl, subst}
use Rattle.plane_words.specs.Growth.{Grows, GrowsByFront}
use Rattle.net_settle.specs.Outside.{outside_of}
use Rattle.net_plane.specs.Network.{moment_of}
use Rattle.net_gen.specs.Steps.{steps, number_line}
use Rattle.net_gen.proofs.RunLemmas.{none_ran, same_item, halted_at, ran_more, cut_at, ran_through}
use Rattle.net_gen.proofs.run.take_steps.Goals as goal

pub loop-step-init : goal.loop-step-init
loop-step-init g c = record {
  ran = none_ran c.args.rows.now (moment_of c.args.net.now)
      (outside_of g.O.Sink g.K.Kernel c.args.out.now c.args.kernel.now);
  of = c.requires.of;
  silent = c.requires.told;
}

pub take_step-requires-clause-told : goal.take_step-requires-clause-told
take_step-requires-clause-told g c = c.loop-step.invariant.silent

pub take_step-requires-clause-of : goal.take_step-requires-clause-of
take_step-requires-clause-of g c = c.loop-step.invariant.of

pub returns-in_default-clause-ends : goal.returns-in_default-clause-ends
returns-in_default-clause-ends g c =
    halted_at c.args.rows.now (moment_of c.args.net.now) (moment_of c.loop-step.net)
    (moment_of c.take_step.new.net) c.loop-step.step-index _
    (outside_of g.O.Sink g.K.Kernel c.args.out.now c.args.kernel.now)
    (outside_of g.O.Sink g.K.Kernel c.loop-step.out c.loop-step.kernel)
    (outside_of g.O.Sink g.K.Kernel c.loop-step.out c.take_step.new.kernel)
    c.loop-step.invariant.ran (omega arith)
    (same_item steps c.loop-step.step-index _ _ (omega arith)) refl refl c.in_default.ensures.ends

pub returns-in_default-write_number-clause-ends : goal.returns-in_default-write_number-clause-ends
returns-in_default-write_number-clause-ends g c =
    cut_at c.args.rows.now (moment_of c.args.net.now) (moment_of c.loop-step.net)
    (moment_of c.take_step.new.net) c.loop-step.step-index _
    (outside_of g.O.Sink g.K.Kernel c.args.out.now c.args.kernel.now)
    (outside_of g.O.Sink g.K.Kernel c.loop-step.out c.loop-step.kernel)
    (outside_of g.O.Sink g.K.Kernel c.write_number.new.out c.take_step.new.kernel)
    c.loop-step.invariant.ran (omega arith)
    (same_item steps c.loop-step.step-index _ _ (omega arith)) c.in-Ok.calls c.in-Ok.ensures.ends
    c.write_number.ensures.cause.later
    (subst (λ w. GrowsByFront (g.O.Sink.held c.loop-step.out) (g.O.Sink.held c.write_number.new.out)
    (number_line w c.in-Ok.calls)) c.word.ensures.is c.in_default-write_number.ensures.err)
    c.in_default-write_number.ensures.cause.failed

pub loop-step-preserved : goal.loop-step-preserved
loop-step-preserved g c = record {
  ran = ran_more c.args.rows.now (moment_of c.args.net.now) (moment_of c.loop-step.net)
      (moment_of c.take_step.new.net) c.loop-step.step-index _
      (outside_of g.O.Sink g.K.Kernel c.args.out.now c.args.kernel.now)
      (outside_of g.O.Sink g.K.Kernel c.loop-step.out c.loop-step.kernel)
      (outside_of g.O.Sink g.K.Kernel c.write_number.new.out c.take_step.new.kernel)
      c.loop-step.invariant.ran (omega arith)
      (same_item steps c.loop-step.step-index _ _ (omega arith)) c.in-Ok.calls c.in-Ok.ensures.ends
      c.write_number.ensures.cause.later
      (subst (λ w. Grows (g.O.Sink.held c.loop-step.out) (g.O.Sink.held c.write_number.new.out)
      (number_line w c.in-Ok.calls)) c.word.ensures.is c.in-Ok-write_number.ensures.ok)
      c.in-Ok.ensures.holds;
  of = c.take_step.ensures.of;
  silent = c.in-Ok.ensures.silent;
}

pub returns-clause-ends : goal.returns-clause-ends
returns-clause-ends g c =
    ran_through c.args.rows.now (moment_of c.args.net.now) (moment_of c.loop-step.net)
    (outside_of g.O.Sink g.K.Kernel c.args.out.now c.args.kernel.now)
    (outside_of g.O.Sink g.K.Kernel c.loop-step.out c.loop-step.kernel)
    c.loop-step.step-index c.loop-step.invariant.ran (omega arith)

pub returns-clause-holds : goal.returns-clause-holds
returns-clause-holds g c = c.loop-step.invariant.ran.holds (omega arith)
