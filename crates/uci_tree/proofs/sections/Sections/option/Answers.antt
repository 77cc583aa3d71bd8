use Rattle.uci_tree.specs.declared.package.Section.{Section}
use Rattle.uci_tree.specs.declared.draft_section.DraftSection.{DraftSection}
use Rattle.std.proofs.Common.{refl}
use Rattle.uci_tree.specs.Fold.{with_option}
use Rattle.uci_tree.specs.Slots.{AreIndexed, options_of}
use Rattle.uci_tree.proofs.SectionLemmas.{options_made, places_stay, within_written, all_written}
use Rattle.uci_tree.proofs.sections.Sections.option.Goals as goal

pub returns-clause-indexed : goal.returns-clause-indexed
returns-clause-indexed c =
    let sections = c.args.self.now.sections.items in
    let place = c.in-Some.place in
    let old = c.index_mut-section.result.now in
    record {
      places = places_stay c.args.self.now.places sections place (λ (section : Section). record section { options = options_of c.set.new.self }) old _ (c.requires.within place c.in-Some.is) c.index_mut-section.ensures.value refl
          (λ section. refl) c.requires.places;
      within = λ at s. within_written sections place at _ (c.requires.within at s);
      options = all_written (λ (section : DraftSection). AreIndexed section.options) sections place _ c.requires.options c.in_ok-set.ensures.indexed;
    }

pub returns-clause-made : goal.returns-clause-made
returns-clause-made c = options_made c.args.self.now.sections.items c.in-Some.place c.args.line (with_option c.args.name c.args.value) c.index_mut-section.result.now c.set.new.self c.args.self.now.current c.in-Some.is
    (c.requires.within c.in-Some.place c.in-Some.is) c.index_mut-section.ensures.value c.in_ok-set.ensures.made
