use Rattle.std.proofs.Common.{ℕ, ◌≡◌, ◌-◌, ◌∷◌, List, drop, subst, sym, ap}
use Rattle.uci_tree.specs.declared.package.Opt.{Opt}
use Rattle.net_rules.specs.Need.{in_order}
use Rattle.net_after.specs.ByName.{IsByName}
use Rattle.net_after.proofs.OrderLemmas.{drop_before}
use Rattle.net_after.proofs.order.options_by_name.Goals as goal

pub loop-place-preserved : goal.loop-place-preserved
loop-place-preserved c =
    let options : List Opt = c.args.options.now in
    let p : ℕ = c.loop-place.place in
    let option : Opt = c.index-options-place.result in
    let more : drop (p - 1) options ≡ option ∷ drop p options = drop_before options p option c.loop-place-test.true c.loop-place.auto.place c.index-options-place.is in
    subst (λ (z : List Opt). IsByName (in_order z) c.note_option.new.by_name) (sym more) (c.in_ok-note_option.ensures (in_order (drop p options)) c.loop-place.invariant)
