use Rattle.std.proofs.Common.{arith, subst, All, List, refl}
use Rattle.std.proofs.lemmas.List.{take_all}
use Rattle.std.proofs.lemmas.List.Elements.{All-more}
use Rattle.use_counts.specs.declared.node.Kind.TheVariants.{Broken}
use Rattle.use_counts.specs.declared.node.Row.{Row}
use Rattle.use_counts.specs.Order.{HasLevel}
use Rattle.use_counts.proofs.loads.levels_fit.Goals as goal

pub loop-row-preserved : goal.loop-row-preserved
loop-row-preserved c = record {
  fit = All-more HasLevel c.args.rows.now c.loop-row.row-index (record { kind = Broken; level = 0 }) c.loop-row-test.true c.loop-row.invariant.fit
      (omega (arith, c.if-row-eq0.false), omega (arith, c.if-row-gt8.false));
}

pub returns : goal.returns
returns c = (λ _. subst (λ (rs : List Row). All HasLevel rs) (take_all c.loop-row.row-index c.args.rows.now (omega (arith, c.loop-row-test.false))) c.loop-row.invariant.fit, λ _. refl)
