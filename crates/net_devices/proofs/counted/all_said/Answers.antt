use Rattle.std.proofs.Common.{ℕ, ◌≡◌, ◌-◌, ◌∷◌, List, drop, reverse, ap, sym, subst, ◌∙◌}
use Rattle.uci_tree.specs.declared.package.Section.{Section}
use Rattle.net_devices.specs.Counted.{all_said}
use Rattle.net_devices.specs.FoundNames.{AreNamesOf}
use Rattle.net_devices.proofs.KeyLemmas.{drop_before}
use Rattle.net_devices.proofs.SaidLemmas.{said_before, names_before}
use Rattle.net_devices.proofs.counted.all_said.Goals as goal

pub loop-place-preserved : goal.loop-place-preserved
loop-place-preserved c =
    let sections : List Section = c.args.sections.now in
    let p : ℕ = c.loop-place.place in
    let section : Section = c.index-sections-place.result in
    let more : drop (p - 1) sections ≡ section ∷ drop p sections = drop_before sections p section c.loop-place-test.true c.loop-place.auto.place c.index-sections-place.is in
    let names : AreNamesOf c.add_said.new.names (section ∷ drop p sections) =
    subst (λ (z : List (List ℕ)). AreNamesOf z (section ∷ drop p sections)) (sym c.in_ok-add_said.ensures.names) (names_before c.loop-place.names section (drop p sections) c.loop-place.invariant.names) in
    record {
      said = ap reverse c.in_ok-add_said.ensures.said ∙ (said_before c.loop-place.names section (drop p sections) c.loop-place.said.items c.loop-place.invariant.names c.loop-place.invariant.said ∙ ap all_said (sym more));
      names = subst (AreNamesOf c.add_said.new.names) (sym more) names;
    }
