use Rattle.std.proofs.Common.{◌≡◌, length, arith}
use Rattle.uci_tree.specs.declared.draft_section.DraftSection.{DraftSection}
use Rattle.uci_tree.specs.Slots.{AreIndexed}
use Rattle.uci_tree.proofs.SectionLemmas.{places_added, draft_added, within_push, all_pushed}
use Rattle.uci_tree.proofs.sections.Sections.add.Goals as goal

pub returns-clause-indexed : goal.returns-clause-indexed
returns-clause-indexed c =
    let count : c.len-place.result ≡ length c.args.self.now.sections.items = omega (arith, c.len-place.ensures, c.args.self.now.sections.ok.0) in
    record {
      places = places_added c.args.self.now.places c.note.new.places _ _ _ _ c.requires.places c.in_ok-note.ensures count c.in_ok-push.ensures.items;
      within = λ place s. within_push _ _ _ _ place count c.in_ok-push.ensures.items s;
      options = all_pushed (λ (section : DraftSection). AreIndexed section.options) _ _ _ c.in_ok-push.ensures.items c.requires.options c.new.ensures.indexed;
    }

pub returns-clause-made : goal.returns-clause-made
returns-clause-made c =
    let count : c.len-place.result ≡ length c.args.self.now.sections.items = omega (arith, c.len-place.ensures, c.args.self.now.sections.ok.0) in
    draft_added _ _ _ _ c.args.self.now.current count c.in_ok-push.ensures.items c.new.ensures.none
