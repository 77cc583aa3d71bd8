use Rattle.std.proofs.Common.{◌≡◌, false, map, ap, ◌∙◌, refl}
use Rattle.std.proofs.lemmas.List.{take_all}
use Rattle.net_rows.specs.declared.rows.NameRow.{NameRow}
use Rattle.net_view.specs.Levels.{step_of}
use Rattle.net_view.proofs.LevelLemmas.{no_level}
use Rattle.net_view.proofs.levels.nothing_told.Goals as goal

pub returns : goal.returns
returns c =
    let none : c.loop-row.by_row.items ≡ map (λ (row : NameRow). false) c.args.names.now = c.loop-row.invariant ∙ ap (map (λ (row : NameRow). false)) (take_all c.loop-row.row-index c.args.names.now c.loop-row-test.false) in
    λ facts all. record {
      question = refl;
      levels = refl;
      right = none ∙ ap (map (λ (row : NameRow). false)) all ∙ no_level (step_of facts c.args.question) facts.conf.names;
    }
