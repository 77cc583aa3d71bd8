use Rattle.std.proofs.Common.{ℕ, ◌+◌, List, Bool, map, take, ap, ◌∙◌}
use Rattle.std.specs.Prelude.{◌&&◌}
use Rattle.std.specs.List.{list_any}
use Rattle.net_rows.specs.declared.rows.NameRow.{NameRow}
use Rattle.net_rules.specs.Levels.{by_levels}
use Rattle.net_rules.specs.Standing.{stands}
use Rattle.net_rules.specs.Used.{serves_at}
use Rattle.net_rules.specs.Facts.{Facts}
use Rattle.net_rules.specs.Inputs.{facts_of}
use Rattle.std.proofs.lemmas.List.{take_all}
use Rattle.net_view.proofs.NameLemmas.{names_more}
use Rattle.net_wants.proofs.ViewLemmas.{any_names_more}
use Rattle.net_wants.proofs.view.one_level_under.Goals as goal

pub loop-row-preserved : goal.loop-row-preserved
loop-row-preserved c =
    let facts : Facts = facts_of c.args.inputs.now in
    let rows : List NameRow = c.args.names.now in
    let i : ℕ = c.loop-row.row-index in
    let row : NameRow = c.row-item.result in
    λ k above.
    let test : List ℕ → List ℕ → Bool = λ q upper. stands facts q upper && by_levels (k + 1) (serves_at facts) upper in
    names_more c.loop-row.more c.add_lowers_if_used.new.names
    (λ q. list_any (test q) (map (λ (r : NameRow). r.name) (take i rows)))
    (λ q. test q row.name)
    (λ q. list_any (test q) (map (λ (r : NameRow). r.name) (take (i + 1) rows)))
    (c.loop-row.invariant k above) (c.in_ok-add_lowers_if_used.ensures k above)
    (λ q. any_names_more (test q) rows i row c.loop-row-test.true c.row-item.is)

pub returns : goal.returns
returns c =
    let facts : Facts = facts_of c.args.inputs.now in
    λ k above q.
    let test : List ℕ → Bool = λ upper. stands facts q upper && by_levels (k + 1) (serves_at facts) upper in
    c.loop-row.invariant k above q
    ∙ ap (λ (z : List NameRow). list_any test (map (λ (r : NameRow). r.name) z)) (take_all c.loop-row.row-index c.args.names.now c.loop-row-test.false ∙ c.requires.names)
