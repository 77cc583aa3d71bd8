use Rattle.std.proofs.Common.{refl, sym, subst}
use Rattle.step_net.specs.NetLine.{load_line}
use Rattle.step_net.specs.Taken.{TakesEvent, TriesEvent, telled_of}
use Rattle.net_gen.specs.Packages.{no_package}
use Rattle.net_gen.specs.Steps as spec
use Rattle.net_gen.proofs.StepLemmas.{load_tries}
use Rattle.net_gen.proofs.steps.act.Goals as goal

pub returns-in-Reload-clause-tries : goal.returns-in-Reload-clause-tries
returns-in-Reload-clause-tries g c =
    let old = c.args.net.now in
    let new = c.take_load.new.net in
    let told = telled_of g.K.Kernel c.args.kernel.now c.args.kernel.now in
    subst (λ s. TriesEvent (spec.line_of c.args.rows.now s) old new told c.take_load.result)
    (sym c.in-Reload.is)
    (load_tries c.args.rows.now no_package old new told refl refl c.take_load.result
    (subst (λ p. TakesEvent (load_line c.args.rows.now p) old new c.take_load.result)
    c.no_package.ensures c.take_load.ensures.takes))
