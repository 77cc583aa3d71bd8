-- What interfaces give that are what facts say.
use Rattle.std.proofs.Common.{ℕ, ◌≡◌, List, [], Bool, true, false, cond, Option, refl, ap, ◌∙◌}
use Rattle.std.specs.List.{flat_map}
use Rattle.kern_model.specs.declared.object.Object.{Object}
use Rattle.net_rows.specs.declared.rows.InterfaceRow.{InterfaceRow}
use Rattle.net_rules.specs.Facts.{Facts}
use Rattle.net_rules.specs.Rows.{interfaces_of}
use Rattle.net_rules.specs.Interfaces.{is_up, l3_device_of}
use Rattle.net_rules.specs.Want.{given_by, given}
use Rattle.net_rules.specs.declared.state.InterfaceState.{InterfaceState}
use Rattle.net_rules.specs.States.{is_first, IsStateAs, AreStates}
use Rattle.net_rules.proofs.PairLemmas.{give_all_firsts}
use Rattle.net_gifts.specs.Giving.{gives, all_gives}

gives_as : (facts : Facts) (first : Bool) (row : InterfaceRow) (st : InterfaceState) → IsStateAs first facts row st → gives facts row st ≡ cond first (given facts row) []
gives_as facts true row st is =
    ap (λ b. cond {A = List Object} b (given_by facts row st.l3_device) []) is.up
    ∙ ap (λ (l : Option (List ℕ)). cond {A = List Object} (is_up facts row) (given_by facts row l) []) is.l3_device
gives_as facts false row st is = ap (λ b. cond {A = List Object} b (given_by facts row st.l3_device) []) is.up

pub gives_are : (facts : Facts) (states : List InterfaceState) → AreStates facts facts.conf.interfaces states → all_gives facts facts.conf.interfaces states ≡ flat_map (given facts) (interfaces_of facts.conf)
gives_are facts states are =
    let rows = facts.conf.interfaces in
    let key : InterfaceRow → List ℕ = λ row. row.name in
    give_all_firsts key (given facts) (λ (e : InterfaceRow × InterfaceState). gives facts e.0 e.1) rows states are.size
    (λ i row st at beside. gives_as facts (is_first rows i row.name) row st (are.each i row st at beside))
