use Rattle.std.proofs.Common.{ℕ, ◌+◌, List, Bool, [], ◌∷◌, cond, map, take, subst, sym}
use Rattle.std.specs.List.{list_any}
use Rattle.std.specs.BTreeMap.{get}
use Rattle.std.specs.Ordering.{nat_cmp}
use Rattle.std.specs.Cmp.Lexicographic.{slice_cmp}
use Rattle.net_rows.specs.declared.rows.InterfaceRow.{InterfaceRow}
use Rattle.net_rules.specs.Firsts.{firsts}
use Rattle.net_rules.specs.Used.{uses}
use Rattle.net_rules.specs.Inputs.{facts_of}
use Rattle.net_view.specs.Places.{HasPlaces, is_place}
use Rattle.net_view.proofs.NameLemmas.{names_more}
use Rattle.net_wants.proofs.ViewLemmas.{any_firsts_more}
use Rattle.net_wants.proofs.view.claimed_names.Goals as goal

pub loop-place-preserved : goal.loop-place-preserved
loop-place-preserved c =
    let key : InterfaceRow → List ℕ = λ row. row.name in
    let rows : List InterfaceRow = c.args.interfaces.now in
    let i : ℕ = c.loop-place.place in
    let row : InterfaceRow = c.index-interfaces-place.result in
    let has : HasPlaces c.args.levels.now.ports.index.interfaces (map key rows) =
    subst (λ (z : List InterfaceRow). HasPlaces c.args.levels.now.ports.index.interfaces (map key z)) (sym c.requires.interfaces) c.requires.levels.ports.index.interfaces in
    let test : List ℕ → InterfaceRow → Bool = uses (facts_of c.args.inputs.now) in
    names_more c.loop-place.names c.add_uses_if_first.new.names
    (λ q. list_any (test q) (firsts key (take i rows)))
    (λ q. list_any (test q) (cond (is_place i (get (slice_cmp nat_cmp) c.args.levels.now.ports.index.interfaces row.name)) (row ∷ []) []))
    (λ q. list_any (test q) (firsts key (take (i + 1) rows)))
    c.loop-place.invariant c.in_ok-add_uses_if_first.ensures
    (λ q. any_firsts_more key (test q) rows c.args.levels.now.ports.index.interfaces i row has c.loop-place-test.true c.index-interfaces-place.is)
