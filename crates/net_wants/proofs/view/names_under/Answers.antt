use Rattle.std.proofs.Common.{◌≡◌, false, ◌∙◌, rules}
use Rattle.std.specs.Ordering.{nat_cmp}
use Rattle.std.specs.Cmp.Lexicographic.{slice_cmp}
use Rattle.std.specs.BTreeSet.{contains}
use Rattle.net_rules.specs.Inputs.{facts_of}
use Rattle.net_rules.specs.Rows.{names_of}
use Rattle.net_wants.proofs.ViewLemmas.{nothing_above}
use Rattle.net_wants.proofs.view.names_under.Goals as goal

pub loop-level-init : goal.loop-level-init
loop-level-init c = λ q.
    let none : contains (slice_cmp nat_cmp) c.new-under.result q ≡ false = search rules in
    none ∙ nothing_above (facts_of c.args.inputs.now) (names_of c.args.inputs.now.conf) q
