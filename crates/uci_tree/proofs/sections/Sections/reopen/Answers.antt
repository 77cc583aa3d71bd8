use Rattle.std.proofs.Common.{Some, length, refl}
use Rattle.uci_tree.specs.declared.package.Section.{Section}
use Rattle.uci_tree.specs.declared.draft_section.DraftSection.{DraftSection}
use Rattle.uci_tree.specs.Slots.{AreIndexed}
use Rattle.uci_tree.proofs.SectionLemmas.{draft_changed, places_stay, within_written, within_same, all_written, all_at}
use Rattle.uci_tree.proofs.sections.Sections.reopen.Goals as goal

pub returns-clause-indexed : goal.returns-clause-indexed
returns-clause-indexed c =
    let sections = c.args.self.now.sections.items in
    let old = c.index_mut-section.result.now in
    record {
      places = places_stay c.args.self.now.places sections c.args.place (λ (section : Section). record section { kind = c.args.kind }) old _ c.requires.within c.index_mut-section.ensures.value refl (λ section. refl)
          c.requires.indexed.places;
      within = λ at s. within_written sections c.args.place at _ (within_same c.args.place at (length sections) c.requires.within s);
      options = all_written (λ (section : DraftSection). AreIndexed section.options) sections c.args.place _ c.requires.indexed.options
          (all_at (λ (section : DraftSection). AreIndexed section.options) sections c.args.place old old c.requires.within c.index_mut-section.ensures.value c.requires.indexed.options);
    }

pub returns-clause-made : goal.returns-clause-made
returns-clause-made c = draft_changed c.args.self.now.sections.items c.args.place (λ (section : Section). record section { kind = c.args.kind }) c.index_mut-section.result.now _ (Some c.args.place) c.requires.within
    c.index_mut-section.ensures.value refl
