use Rattle.std.proofs.Common.{List, ℕ, ◌++◌, codes, ap, ◌∙◌}
use Rattle.kern_model.specs.Line.{own_address, filter_words}
use Rattle.kern_model.proofs.print.print_bridge.Goals as goal

pub returns-clause-written : goal.returns-clause-written
returns-clause-written c =
    c.append_flag.ensures.written ∙ ap (λ (z : List ℕ). z ++ filter_words c.args.filtering) (
    c.append_text-end-3.ensures.written ∙ ap (λ (z : List ℕ). z ++ codes " type bridge") (
    c.append_own_address-end.ensures.written ∙ ap (λ (z : List ℕ). z ++ own_address c.args.mac) (
    c.append_text-end-2.ensures.written ∙ ap (λ (z : List ℕ). z ++ c.text.result.now) c.append_text-end.ensures.written ∙ ap (λ (z : List ℕ). codes "link add name " ++ z) c.text.ensures.bytes
    )
    )
    )
