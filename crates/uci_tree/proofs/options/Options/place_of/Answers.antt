use Rattle.std.proofs.Common.{◌≡◌, ◌≤◌, ◌⊎◌, ◌∙◌, ap, length, take, None, inl, inr, ⊎_elim, arith}
use Rattle.std.proofs.lemmas.Bool.{cases_lt}
use Rattle.std.specs.Ordering.{nat_cmp}
use Rattle.std.specs.Cmp.Lexicographic.{slice_cmp}
use Rattle.std.specs.BTreeMap.{get}
use Rattle.uci_tree.specs.declared.options.TheConstants.{SCANNED}
use Rattle.uci_tree.proofs.SlotLemmas.{where_none, found_nowhere}
use Rattle.uci_tree.proofs.options.Options.place_of.Goals as goal

pub returns-in-None-clause-none : goal.returns-in-None-clause-none
returns-in-None-clause-none c =
    let all : (length c.args.self.now.slots.items ≤ c.min-count.result) ⊎ (SCANNED ≤ c.min-count.result) = ⊎_elim
    (λ few. inl (omega (arith, few, c.min-count.ensures, c.len.ensures, c.args.self.now.slots.ok.0)))
    (λ many. inr (omega (arith, many, c.min-count.ensures, c.len.ensures, c.args.self.now.slots.ok.0)))
    (cases_lt (length c.args.self.now.slots.items) SCANNED) in
    let front : c.split_at.result.0.now ≡ take c.min-count.result c.args.self.now.slots.items = c.split_at.ensures.front ∙ ap (take c.min-count.result) c.as_slice.ensures.value in
    where_none c.copied.result (λ e. let none : get (slice_cmp nat_cmp) c.args.self.now.places c.args.name.now ≡ None = cc in
    found_nowhere c.args.self.now.places c.args.self.now.slots.items c.split_at.result.0.now c.args.name.now c.min-count.result c.requires front all c.in-None.ensures.none none)
