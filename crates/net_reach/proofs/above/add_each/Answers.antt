use Rattle.std.proofs.Common.{arith, ℕ, List, subst}
use Rattle.std.specs.Prelude.{◌||◌, bytes_eq}
use Rattle.std.specs.List.{list_any}
use Rattle.std.proofs.lemmas.List.{take_all}
use Rattle.net_reach.specs.Groups.{Gains}
use Rattle.net_reach.proofs.GroupLemmas.{gains_first, gains_next}
use Rattle.net_reach.proofs.above.add_each.Goals as goal

pub loop-name-init : goal.loop-name-init
loop-name-init c = λ before at below gains. gains_first before c.args.above.now at c.args.place gains

pub loop-name-preserved : goal.loop-name-preserved
loop-name-preserved c = λ before at below gains. gains_next before c.loop-name.above c.add_last.new.groups at c.args.place c.args.names.now c.loop-name.name-index c.name-item.result c.loop-name-test.true c.name-item.is below
    (c.loop-name.invariant before at below gains) c.in_ok-add_last.ensures

pub returns : goal.returns
returns c = λ before at below gains. subst (λ (z : List (List ℕ)). Gains before c.loop-name.above (λ q. at q || list_any (λ n. bytes_eq n q) z) c.args.place)
    (take_all c.loop-name.name-index c.args.names.now (omega (arith, c.loop-name-test.false))) (c.loop-name.invariant before at below gains)
