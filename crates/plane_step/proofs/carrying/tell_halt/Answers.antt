use Rattle.std.proofs.Common.{sym, subst}
use Rattle.plane_step.specs.declared.stop.Stop.{Stop}
use Rattle.plane_step.specs.Ran.{TellsHalt, disk_line, memory_line}
use Rattle.plane_step.proofs.LineLemmas.{tells_line}
use Rattle.plane_step.proofs.carrying.tell_halt.Goals as goal

pub returns-in-DiskFailed : goal.returns-in-DiskFailed
returns-in-DiskFailed g c =
    subst (λ (why : Stop). TellsHalt why (g.O.Sink.held c.args.out.now) (g.O.Sink.held c.write.new.self)
    (g.O.Sink.faults c.args.out.now) (g.O.Sink.faults c.write.new.self)) (sym c.in-DiskFailed.is)
    (tells_line disk_line (g.O.Sink.held c.args.out.now) (g.O.Sink.held c.write.new.self)
    (g.O.Sink.faults c.args.out.now) (g.O.Sink.faults c.write.new.self) c.write.result c.write.ensures.ok
    c.write.ensures.err c.write.ensures.cause)

pub returns-in-Memory : goal.returns-in-Memory
returns-in-Memory g c =
    subst (λ (why : Stop). TellsHalt why (g.O.Sink.held c.args.out.now) (g.O.Sink.held c.write-in-Memory.new.self)
    (g.O.Sink.faults c.args.out.now) (g.O.Sink.faults c.write-in-Memory.new.self)) (sym c.in-Memory.is)
    (tells_line memory_line (g.O.Sink.held c.args.out.now) (g.O.Sink.held c.write-in-Memory.new.self)
    (g.O.Sink.faults c.args.out.now) (g.O.Sink.faults c.write-in-Memory.new.self) c.write-in-Memory.result
    c.write-in-Memory.ensures.ok c.write-in-Memory.ensures.err c.write-in-Memory.ensures.cause)
