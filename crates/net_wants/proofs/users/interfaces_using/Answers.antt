use Rattle.std.proofs.Common.{◌≡◌, ℕ, ◌+◌, List, Bool, cond, map, length, take, sym, subst, arith}
use Rattle.std.specs.Prelude.{filter}
use Rattle.net_rows.specs.declared.rows.InterfaceRow.{InterfaceRow}
use Rattle.net_rules.specs.Firsts.{firsts}
use Rattle.net_rules.specs.Used.{uses}
use Rattle.net_rules.specs.Inputs.{facts_of}
use Rattle.net_view.specs.Places.{HasPlaces}
use Rattle.net_wants.proofs.UserLemmas.{count_firsts_more, counted_on, counts_one, counts_none}
use Rattle.net_wants.proofs.users.interfaces_using.Goals as goal
use Rattle.net_wants.proofs.users.interfaces_using.Goals.{then-uses_first, else-uses_first}

pub loop-place-preserved : goal.loop-place-preserved
loop-place-preserved c =
    let key : InterfaceRow → List ℕ = λ row. row.name in
    let rows : List InterfaceRow = c.args.interfaces.now in
    let test : InterfaceRow → Bool = uses (facts_of c.args.inputs.now) c.args.name.now in
    let has : HasPlaces c.args.levels.now.ports.index.interfaces (map key rows) =
    subst (λ (z : List InterfaceRow). HasPlaces c.args.levels.now.ports.index.interfaces (map key z)) (sym c.requires.interfaces) c.requires.levels.ports.index.interfaces in
    let before : ℕ = length (filter test (firsts key (take c.loop-place.place rows))) in
    let after : ℕ = length (filter test (firsts key (take (c.loop-place.place + 1) rows))) in
    let more : after ≡ before + cond c.uses_first.result 1 0 =
    count_firsts_more key test rows c.args.levels.now.ports.index.interfaces c.loop-place.place c.index-interfaces-place.result c.uses_first.result has c.loop-place-test.true c.index-interfaces-place.is c.uses_first.ensures in
    elim c.if-uses_first.branch [
      | then-uses_first w ↦ (
        counted_on c.loop-place.count c.if-uses_first.count before after c.uses_first.result c.loop-place.invariant.0 more
            (counts_one c.loop-place.count c.if-uses_first.count c.uses_first.result w.if-uses_first.true w.count-is),
        omega (arith, c.loop-place.invariant.1, w.count-is),
      )
      | else-uses_first w ↦ (
        counted_on c.loop-place.count c.if-uses_first.count before after c.uses_first.result c.loop-place.invariant.0 more (counts_none c.loop-place.count c.if-uses_first.count c.uses_first.result w.if-uses_first.false w.count-is),
        omega (arith, c.loop-place.invariant.1, w.count-is),
      )
    ]
