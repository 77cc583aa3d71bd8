use Rattle.std.proofs.Common.{List, sym, ◌∙◌, ap}
use Rattle.uci_tree.specs.declared.package.Opt.{Opt}
use Rattle.uci_tree.specs.Find.{option_place}
use Rattle.net_modern.proofs.OptionLemmas.{none_moves, none_comes, some_moves, some_comes}
use Rattle.net_modern.proofs.options.move_option.Goals as goal

pub returns-in_default-clause-from : goal.returns-in_default-clause-from
returns-in_default-clause-from c = none_moves c.args.name.now c.args.from.now.items (sym (c.option_place.ensures ∙ ap (λ (z : List Opt). option_place z c.args.name.now) c.as_slice.ensures.value) ∙ c.in_default.is)

pub returns-in_default-clause-into : goal.returns-in_default-clause-into
returns-in_default-clause-into c = none_comes c.args.name.now c.args.from.now.items c.args.into.now.items (sym (c.option_place.ensures ∙ ap (λ (z : List Opt). option_place z c.args.name.now) c.as_slice.ensures.value) ∙ c.in_default.is)

pub returns-clause-from : goal.returns-clause-from
returns-clause-from c = some_moves c.args.name.now c.args.from.now.items c.remove-option.new.self.items _ c.in-Some.place
    (sym (c.option_place.ensures ∙ ap (λ (z : List Opt). option_place z c.args.name.now) c.as_slice.ensures.value) ∙ c.in-Some.is) c.remove-option.ensures.items c.take_out.ensures

pub returns-clause-into : goal.returns-clause-into
returns-clause-into c = some_comes c.args.name.now c.args.from.now.items c.args.into.now.items _ c.remove-option.result c.in-Some.place
    (sym (c.option_place.ensures ∙ ap (λ (z : List Opt). option_place z c.args.name.now) c.as_slice.ensures.value) ∙ c.in-Some.is) c.remove-option.ensures.value c.in_ok-push_option.ensures
