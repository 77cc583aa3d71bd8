use Rattle.std.proofs.Common.{ℕ, ◌≡◌, ◌+◌, ◌<◌, ◌≤◌, ◌∙◌, Bool, ap, subst, sym, arith}
use Rattle.net_devices.specs.Levels.{level_over, level_within}
use Rattle.net_devices.proofs.LevelLemmas.{level_is, levels_more}
use Rattle.net_devices.proofs.LevelLaws.{within_bound}
use Rattle.net_devices.proofs.levels.+level_within.Goals as goal

pub returns-in-Some-clause-level : goal.returns-in-Some-clause-level
returns-in-Some-clause-level t c = c.requires.levels (c.args.name.now, c.args.more) c.in-Some.level (sym c.get.ensures.value ∙ (sym c.copied.ensures ∙ c.in-Some.is))

pub returns-in-Some-clause-bound : goal.returns-in-Some-clause-bound
returns-in-Some-clause-bound t c =
    let is : c.in-Some.level ≡ level_within c.args.said.now c.args.more c.args.name.now = c.requires.levels (c.args.name.now, c.args.more) c.in-Some.level (sym c.get.ensures.value ∙ (sym c.copied.ensures ∙ c.in-Some.is)) in
    subst (λ (z : ℕ). z ≤ c.args.more + 1) (sym is) (within_bound c.args.said.now c.args.more c.args.name.now)

pub returns-clause-level : goal.returns-clause-level
returns-clause-level t c =
    let some : 0 < c.args.more = omega arith in
    c.level_over-level.ensures.level ∙ (ap (λ (z : Bool). level_over z c.loop-lower.highest) c.is_bridge.ensures
    ∙ level_is c.args.said.now c.args.more c.args.name.now c.as_slice-lowers.result.now c.loop-lower.lower-index c.loop-lower.highest some (c.as_slice-lowers.ensures ∙ c.in_ok-names.ensures) c.loop-lower-test.false
    c.loop-lower.invariant.highest)

pub returns-clause-kept : goal.returns-clause-kept
returns-clause-kept t c =
    let some : 0 < c.args.more = omega arith in
    let is : c.level_over-level.result ≡ level_within c.args.said.now c.args.more c.args.name.now = c.level_over-level.ensures.level
    ∙ (ap (λ (z : Bool). level_over z c.loop-lower.highest) c.is_bridge.ensures
    ∙ level_is c.args.said.now c.args.more c.args.name.now c.as_slice-lowers.result.now c.loop-lower.lower-index c.loop-lower.highest some (c.as_slice-lowers.ensures ∙ c.in_ok-names.ensures) c.loop-lower-test.false
    c.loop-lower.invariant.highest) in
    levels_more c.args.said.now c.loop-lower.levels.found c.insert.new.self c.args.name.now c.args.more c.level_over-level.result c.loop-lower.invariant.kept is c.in_ok-insert.ensures.updates.0
