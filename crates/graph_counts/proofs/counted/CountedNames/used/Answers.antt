use Rattle.std.proofs.Common.{ap, arith, length, ◌<◌, ◌∙◌}
use Rattle.use_counts.specs.Network as counts
use Rattle.graph_rules.specs.State.{Known}
use Rattle.graph_rules.specs.Answers.{used_in}
use Rattle.graph_counts.specs.Counted.{name_of}
use Rattle.graph_counts.specs.Inside.{known_of}
use Rattle.graph_counts.proofs.AnswerLemmas.{used_at}
use Rattle.graph_counts.proofs.counted.CountedNames.used.Goals as goal

pub returns : goal.returns
returns c =
    let id = c.args.id.0 in
    let s : Known = known_of c.self.inside in
    let within : id < length s.names = omega (arith, c.requires, ap (λ (k : Known). length k.names) c.self.view_is) in
    c.used.ensures
    ∙ ap (λ net. counts.used net id) c.self.invariant.counts
    ∙ used_at s c.self.invariant.sound id within
    ∙ ap (λ (k : Known). used_in k (name_of k id)) c.self.view_is
