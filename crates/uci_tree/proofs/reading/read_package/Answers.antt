use Rattle.std.proofs.Common.{◌≡◌, length, arith, ◌∙◌, ap, List}
use Rattle.uci_tree.specs.declared.package.Section.{Section}
use Rattle.std.proofs.lemmas.List.{length-map}
use Rattle.uci_tree.specs.Slots.{section_of}
use Rattle.uci_tree.proofs.ReadingLemmas.{read_as, one_tree}
use Rattle.uci_tree.proofs.ValidLemmas.{read_is_valid}
use Rattle.uci_tree.proofs.reading.read_package.Goals as goal

pub returns-clause-found : goal.returns-clause-found
returns-clause-found c =
    let count : c.len.result ≡ length c.in_ok-sections.sections.items = omega (arith, c.len.ensures, c.in_ok-sections.sections.ok.0) in
    let all = c.in_ok-sections.ensures in
    read_as _ _ _ _ _ c.in_ok-drafts.drafts _ _ c.in_ok-commands.ensures.found c.into_vec.ensures c.in_ok-drafts.ensures.made c.in_ok-name.ensures (c.from_vec.ensures ∙ all)
    (count ∙ ap (λ (z : List Section). length z) all ∙ length-map c.in_ok-drafts.drafts.sections.items section_of)

pub returns-clause-only : goal.returns-clause-only
returns-clause-only c = λ other s.
    let count : c.len.result ≡ length c.in_ok-sections.sections.items = omega (arith, c.len.ensures, c.in_ok-sections.sections.ok.0) in
    let all = c.in_ok-sections.ensures in
    one_tree _ _ _ other (read_as _ _ _ _ _ c.in_ok-drafts.drafts _ _ c.in_ok-commands.ensures.found c.into_vec.ensures c.in_ok-drafts.ensures.made c.in_ok-name.ensures (c.from_vec.ensures ∙ all)
    (count ∙ ap (λ (z : List Section). length z) all ∙ length-map c.in_ok-drafts.drafts.sections.items section_of)) s

pub returns-clause-valid : goal.returns-clause-valid
returns-clause-valid c = λ n.
    let count : c.len.result ≡ length c.in_ok-sections.sections.items = omega (arith, c.len.ensures, c.in_ok-sections.sections.ok.0) in
    let all = c.in_ok-sections.ensures in
    read_is_valid _ _ _ n (read_as _ _ _ _ _ c.in_ok-drafts.drafts _ _ c.in_ok-commands.ensures.found c.into_vec.ensures c.in_ok-drafts.ensures.made c.in_ok-name.ensures (c.from_vec.ensures ∙ all)
    (count ∙ ap (λ (z : List Section). length z) all ∙ length-map c.in_ok-drafts.drafts.sections.items section_of))
