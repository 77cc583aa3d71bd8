use Rattle.std.proofs.Common.{refl, sym, ◌∙◌}
use Rattle.std.specs.Prelude.{⊤}
use Rattle.net_settle.specs.Outside.{outside_of}
use Rattle.net_plane.specs.Network.{moment_of}
use Rattle.net_gen.proofs.RunLemmas.{lacked_at_first, run_stopped, run_ended}
use Rattle.net_gen.proofs.run.generate.Goals as goal

pub returns-in_default : goal.returns-in_default
returns-in_default g c = record {
  ends = lacked_at_first c.args.count
      (outside_of g.O.Sink g.K.Kernel c.args.out.now c.args.kernel.now) c.requires.0;
}

pub returns-in_default-load_all : goal.returns-in_default-load_all
returns-in_default-load_all g c = record {
  ends = lacked_at_first c.args.count
      (outside_of g.O.Sink g.K.Kernel c.args.out.now c.args.kernel.now) c.requires.0;
}

pub take_steps-requires-clause-of : goal.take_steps-requires-clause-of
take_steps-requires-clause-of g c = record {
  devices = c.requires.1 ∙ sym c.in-Ok-load_all.ensures.bare.0;
  objects = c.requires.0 ∙ sym c.in-Ok-load_all.ensures.bare.1;
}

pub returns-in-Ok-take_steps : goal.returns-in-Ok-take_steps
returns-in-Ok-take_steps g c =
    let before = outside_of g.O.Sink g.K.Kernel c.args.out.now c.args.kernel.now in
    let middle = outside_of g.O.Sink g.K.Kernel c.take_steps.new.out c.take_steps.new.kernel in
    let after = outside_of g.O.Sink g.K.Kernel c.tell_held.new.out c.take_steps.new.kernel in
    record {
      ends = run_ended c.args.count c.in-Ok.rows (moment_of c.in-Ok-load_all.net)
          (moment_of c.take_steps.new.net) before middle after c.in-Ok.ensures
          c.in-Ok-load_all.ensures.loaded c.in-Ok-take_steps.ensures.ends
          c.take_steps.ensures.of.objects c.take_steps.ensures.of.devices refl refl refl
          c.tell_held.ensures.later
          c.tell_held.result c.in-Ok-take_steps.ensures.holds c.take_steps.ensures.of.objects
          c.tell_held.ensures.ends;
    }

pub returns : goal.returns
returns g c =
    let before = outside_of g.O.Sink g.K.Kernel c.args.out.now c.args.kernel.now in
    let middle = outside_of g.O.Sink g.K.Kernel c.take_steps.new.out c.take_steps.new.kernel in
    record {
      ends = run_stopped c.args.count c.in-Ok.rows (moment_of c.in-Ok-load_all.net)
          (moment_of c.take_steps.new.net) before middle middle c.in-Ok.ensures
          c.in-Ok-load_all.ensures.loaded ⊤ ⊤ c.in-Err.error c.take_steps.ensures.of.objects
          c.in-Err.ensures.ends;
    }
