-- Interfaces that neither claim nor give anything.
use Rattle.std.proofs.Common.{◌≡◌, ℕ, suc, List, [], ◌∷◌, ◌++◌, length, Bool, true, false, cond, refl, ap, sym, ◌∙◌}
use Rattle.std.specs.Prelude.{filter, ◌&&◌, ◌||◌, if◌then◌else◌}
use Rattle.kern_model.specs.declared.object.Object.{Object}
use Rattle.net_rows.specs.declared.rows.InterfaceRow.{InterfaceRow}
use Rattle.net_rules.specs.declared.inputs.Inputs.{Inputs}
use Rattle.net_rules.specs.Facts.{Facts}
use Rattle.net_rules.specs.Rows.{is_name}
use Rattle.net_rules.specs.Want.{given_by}
use Rattle.net_rules.specs.Inputs.{facts_of}
use Rattle.graph_rules.specs.State.{claims_in}
use Rattle.given_objects.specs.Gifts.{givers_of}
use Rattle.net_follow.specs.SettlingState.{SettlingState}
use Rattle.net_rules.specs.declared.state.InterfaceState.{InterfaceState}
use Rattle.net_rules.specs.Claims.{uses_by, claims_of}
use Rattle.net_rules.specs.States.{IsIdle}
use Rattle.net_gifts.specs.Giving.{times_in, all_gives}
use Rattle.net_follow.specs.Load.{AreIdle}
use Rattle.net_follow.specs.Counted.{AgreesWith, HasGiftRoom, IsCountedBy}

unused : (name : List ℕ) (st : InterfaceState) → IsIdle st → uses_by name st ≡ false
unused name st idle =
    ap (λ b. (b && is_name st.device name) || (st.is_up && is_name st.l3_device name)) idle.claimed
    ∙ ap (λ b. b && is_name st.l3_device name) idle.up

pub idle_claims : (states : List InterfaceState) (name : List ℕ) → AreIdle states → claims_of states name ≡ 0
idle_claims [] name idle = refl
idle_claims (st ∷ sts) name idle =
    let off : uses_by name st ≡ false = unused name st (idle 0 st refl) in
    ap (λ b. length (cond b (st ∷ filter (uses_by name) sts) (filter (uses_by name) sts))) off
    ∙ idle_claims sts name (λ place other at. idle (suc place) other at)

pub idle_gives : (facts : Facts) (rows : List InterfaceRow) (states : List InterfaceState) → AreIdle states → all_gives facts rows states ≡ []
idle_gives facts [] states idle = refl
idle_gives facts (row ∷ rows) [] idle = refl
idle_gives facts (row ∷ rows) (st ∷ sts) idle =
    ap (λ b. (if b then given_by facts row st.l3_device else []) ++ all_gives facts rows sts) (idle 0 st refl).up
    ∙ idle_gives facts rows sts (λ place other at. idle (suc place) other at)

-- nothing is claimed and given, as is counted over them
pub counted_idle : (inputs : Inputs) (states : List InterfaceState) (c : SettlingState) → AgreesWith inputs c.graph.known → ((name : List ℕ) → claims_in c.graph.known name ≡ 0) → ((o : Object) → givers_of c.gifts o ≡ 0)
    → HasGiftRoom inputs c.gifts → AreIdle states → IsCountedBy inputs states c
counted_idle inputs states c agrees claims givers room idle = record {
  agrees = agrees;
  counted = record {
    claims = λ name. claims name ∙ sym (idle_claims states name idle);
    givers = λ o. givers o ∙ sym (ap (times_in o) (idle_gives (facts_of inputs) inputs.conf.interfaces states idle));
  };
  room = room;
}
