use Rattle.std.proofs.Common.{◌≡◌, [], sym, ap, ◌∙◌, rules, arith}
use Rattle.std.proofs.lemmas.Grind.{common_steps}
use Rattle.std.proofs.lemmas.Result.{IfOk-weaker}
use Rattle.uci_tree.specs.declared.package.Package.{Package}
use Rattle.std.specs.Vec.Iter.{into_iter_items}
use Rattle.net_modern.specs.Rewriting.{after_sections, finished}
use Rattle.net_modern.specs.State.{progress_of}
use Rattle.net_modern.proofs.RewritingLemmas.{goes_on, names_go_on}
use Rattle.net_modern.proofs.rewriting.modern.Goals as goal

pub loop-section-preserved : goal.loop-section-preserved
loop-section-preserved c =
    let l = c.loop-section in
    record {
      so_far = goes_on l.progress.names (progress_of l.progress) (progress_of c.take.new.self) _ c.in-Some.section _ _ l.invariant.names l.invariant.so_far c.in-Some.ensures.steps.0 c.in_ok-take.ensures.progress;
      names = names_go_on l.progress.names c.take.new.self.names (progress_of l.progress) (progress_of c.take.new.self) c.in-Some.section _ _ l.invariant.names c.in-Some.ensures.steps.0 c.in_ok-take.ensures.progress
          c.in_ok-take.ensures.names;
    }

pub returns : goal.returns
returns c =
    let l = c.loop-section in
    let none : into_iter_items l.section-iterator ≡ [] = first_of (search rules, grind (arith, common_steps)) in
    IfOk-weaker c.finish.result _ _ (λ tree is. is c.args.network.now (sym (ap (λ (z : Package). z.name) c.in_ok-name.ensures))
    ∙ ap (finished c.args.network.now) (sym (ap (after_sections (progress_of l.progress)) none) ∙ l.invariant.so_far)) c.finish.ensures
