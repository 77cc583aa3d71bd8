use Rattle.std.proofs.Common.{inl, inr, refl, ap, subst, ◌∙◌, Err}
use Rattle.net_plane.specs.Network.{calls_of}
use Rattle.net_plane.specs.Settled as plane
use Rattle.net_gen.specs.Counted.{kernel_alone}
use Rattle.net_gen.proofs.CountLemmas.{unwritten, none_so_far, one_more, ended, counted, rose, broken_off}
use Rattle.net_gen.proofs.counted.settle_and_count.Goals as goal

pub loop-count-init : goal.loop-count-init
loop-count-init g c = record {
  far = none_so_far c.args.net.now (kernel_alone g.K.Kernel c.args.kernel.now);
  of = c.requires;
}

pub settle-requires : goal.settle-requires
settle-requires g c = c.loop-count.invariant.of

pub loop-count-preserved : goal.loop-count-preserved
loop-count-preserved g c =
    let now = c.loop-count.net in
    let next = c.settle.new.self in
    let before = unwritten g.K.Kernel c.loop-count.kernel in
    let after = unwritten g.K.Kernel c.settle.new.kernel in
    record {
      far = one_more c.args.net.now now next (kernel_alone g.K.Kernel c.args.kernel.now) before after
          c.loop-count.count c.loop-count.invariant.far refl refl c.settle.ensures.made.1.inputs
          c.settle.ensures.made.1.notices c.settle.ensures.later.0
          (subst (λ r. plane.Settles (calls_of now) (calls_of next) before after r)
          (c.in-Err.is ∙ ap Err c.in-WriteFailed.is) c.settle.ensures.settles);
      of = c.settle.ensures.of;
    }

pub returns-in_default-clause-ends : goal.returns-in_default-clause-ends
returns-in_default-clause-ends g c =
    ended c.args.net.now c.loop-count.net c.settle.new.self
    (kernel_alone g.K.Kernel c.args.kernel.now) (unwritten g.K.Kernel c.loop-count.kernel)
    (unwritten g.K.Kernel c.settle.new.kernel) c.loop-count.count c.loop-count.invariant.far refl refl
    c.settle.ensures.made.1.inputs c.settle.ensures.made.1.notices c.settle.ensures.later.0
    c.requires.objects c.settle.ensures.of.objects c.in_default.ensures.settles.1

pub returns-in_default-clause-holds : goal.returns-in_default-clause-holds
returns-in_default-clause-holds g c = inl c.in_default.ensures.reached

pub returns-in_default-clause-notices : goal.returns-in_default-clause-notices
returns-in_default-clause-notices g c =
    c.settle.ensures.made.1.notices ∙ c.loop-count.invariant.far.notices

pub returns-in_default-error-clause-ends : goal.returns-in_default-error-clause-ends
returns-in_default-error-clause-ends g c =
    counted c.args.net.now c.loop-count.net c.settle.new.self
    (kernel_alone g.K.Kernel c.args.kernel.now) (unwritten g.K.Kernel c.loop-count.kernel)
    (unwritten g.K.Kernel c.settle.new.kernel) c.loop-count.count c.loop-count.invariant.far refl refl
    c.settle.ensures.made.1.inputs c.settle.ensures.made.1.notices c.settle.ensures.later.0
    c.requires.objects c.settle.ensures.of.objects c.settle.result
    (λ e. c.in_default-error.not-WriteFailed (cc (e, c.in-Err.is))) c.settle.ensures.settles

pub returns-in_default-error-clause-holds : goal.returns-in_default-error-clause-holds
returns-in_default-error-clause-holds g c =
    inr (rose c.args.net.now c.loop-count.net c.settle.new.self
    (kernel_alone g.K.Kernel c.args.kernel.now) (unwritten g.K.Kernel c.loop-count.kernel)
    (unwritten g.K.Kernel c.settle.new.kernel) c.loop-count.count c.loop-count.invariant.far refl refl
    c.settle.ensures.made.1.inputs c.settle.ensures.made.1.notices c.settle.ensures.later.0
    c.requires.objects c.settle.ensures.of.objects c.settle.result c.in-Err.error c.in-Err.is
    (λ e. c.in_default-error.not-WriteFailed (cc (e, c.in-Err.is))) c.settle.ensures.settles)

pub returns-in_default-error-clause-notices : goal.returns-in_default-error-clause-notices
returns-in_default-error-clause-notices g c =
    c.settle.ensures.made.1.notices ∙ c.loop-count.invariant.far.notices

pub returns-clause-ends : goal.returns-clause-ends
returns-clause-ends g c =
    broken_off c.args.net.now c.loop-count.net (kernel_alone g.K.Kernel c.args.kernel.now)
    (kernel_alone g.K.Kernel c.loop-count.kernel) c.loop-count.count c.loop-count.invariant.far
    c.requires.objects c.loop-count.invariant.of.objects

pub returns-clause-notices : goal.returns-clause-notices
returns-clause-notices g c = c.loop-count.invariant.far.notices
