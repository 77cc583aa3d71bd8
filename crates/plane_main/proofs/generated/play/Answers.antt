use Rattle.std.proofs.Common.{subst}
use Rattle.std.specs.Prelude.{Err, ⊤}
use Rattle.net_settle.specs.Outside.{outside_of}
use Rattle.net_gen.specs.Run.{RunEnds}
use Rattle.plane_main.proofs.generated.play.Goals as goal

pub returns-in-Err-Memory : goal.returns-in-Err-Memory
returns-in-Err-Memory g c =
    let before = outside_of g.O.Sink g.K.Kernel c.args.out.now c.args.kernel.now in
    let after = outside_of g.O.Sink g.K.Kernel c.generate.new.out c.generate.new.kernel in
    record {
      cause = subst (λ e. RunEnds {X = ⊤} c.args.count before after (Err e)) c.in-Err-Memory.field-0-is c.in-Err-Memory.ensures.ends;
    }
