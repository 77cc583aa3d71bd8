use Rattle.std.proofs.Common.{ap, arith, length, ◌<◌, ◌∙◌}
use Rattle.use_counts.specs.Network as counts
use Rattle.graph_rules.specs.State.{Known}
use Rattle.graph_rules.specs.Answers.{link_in}
use Rattle.graph_counts.specs.Counted.{name_of}
use Rattle.graph_counts.specs.Inside.{known_of}
use Rattle.graph_counts.proofs.AnswerLemmas.{link_at}
use Rattle.graph_counts.proofs.counted.CountedNames.link.Goals as goal

pub returns : goal.returns
returns c =
    let id = c.args.id.0 in
    let s : Known = known_of c.self.inside in
    let within : id < length s.names = omega (arith, c.requires, ap (λ (k : Known). length k.names) c.self.view_is) in
    c.link.ensures
    ∙ ap (λ net. counts.link net id) c.self.invariant.counts
    ∙ link_at s c.self.invariant.sound id within
    ∙ ap (λ (k : Known). link_in k (name_of k id)) c.self.view_is
