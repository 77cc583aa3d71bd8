-- What every history keeps.
use Rattle.std.proofs.Common.{arith, ◌≡◌, ℕ, List, [], ◌++◌, Bool, true, false, None, refl, ap, sym, ◌∙◌}
use Rattle.std.specs.Prelude.{is_some, if◌then◌else◌}
use Rattle.kern_model.specs.declared.object.Call.{Call}
use Rattle.kern_model.specs.CallOrder.{AreCalls, AreAdmitted, after_calls}
use Rattle.kern_model.proofs.MemberLemmas.{none_in_nil}
use Rattle.kern_model.proofs.LeadLemmas.{admitted, reached}
use Rattle.kern_model.proofs.KeepLemmas.{all_keep}
use Rattle.kern_model.proofs.AllowedLemmas.{nothing_allowed}
use Rattle.kern_calls.proofs.KeptLemmas.{front_admitted}
use Rattle.net_rows.specs.Dotted.{vlan_parts}
use Rattle.net_rows.specs.declared.rows.NameKind.TheVariants.{Plain, Vlan}
use Rattle.net_rules.specs.Rows.{is_bridge_kind}
use Rattle.net_rules.specs.Standing.{Over, standing_of}
use Rattle.net_rules.specs.Sound.{IsSound}
use Rattle.net_rules.specs.Inputs.{no_conf}
use Rattle.net_rules.specs.Want.{want}
use Rattle.net_rules.specs.Fresh.{IsReached, fresh_start}
use Rattle.net_rules.specs.Moment.{devices_of, want_of, Moment, IsHistory, IsOrderly}
use Rattle.net_rules.proofs.StandingLemmas.{rowless_alone, none_owned}
use Rattle.net_rules.proofs.FreshLemmas.{fresh_facts}
use Rattle.net_rules.proofs.StretchLemmas.{inputs_allowed, sound_after, allowed_after}

-- no rows are sound rows
no_bridge_kind : (b : Bool) → is_bridge_kind (if b then Vlan None 0 else Plain) ≡ true → ⊥
no_bridge_kind true h = cc h
no_bridge_kind false h = cc h

not_over : (b : Bool) (lower : List ℕ) (id : ℕ) → standing_of (if b then Vlan None 0 else Plain) b [] ≡ Over lower id → ⊥
not_over true lower id h = cc h
not_over false lower id h = cc h

pub no_rows_sound : IsSound no_conf
no_rows_sound = record {
  levels = record {
    plain = λ name is. refl;
    bridge = λ name is. absurd (no_bridge_kind (is_some (vlan_parts name)) is);
    least = λ name. omega arith;
    most = λ name fit. omega arith;
    rises = λ upper lower h. absurd (rowless_alone (is_some (vlan_parts upper)) [] lower h);
  };
  names = record {
    named = λ upper lower h. absurd (rowless_alone (is_some (vlan_parts upper)) [] lower h);
    no_bridge = λ bridge port h. absurd (none_owned (is_some (vlan_parts bridge)) port h);
    one_owner = λ bridge other port h g. absurd (none_owned (is_some (vlan_parts bridge)) port h);
    least_id = λ name lower id is. absurd (not_over (is_some (vlan_parts name)) lower id is);
    most_id = λ name lower id is. absurd (not_over (is_some (vlan_parts name)) lower id is);
    one_vlan = λ name other lower id is again. absurd (not_over (is_some (vlan_parts name)) lower id is);
  };
  vlans = record {
    one_row = λ bridge a b on same. absurd (none_in_nil a on.first);
    one_entry = λ bridge row member on x y first second same. absurd (none_in_nil row member);
    one_pvid = λ bridge a b on x y first second same p q. absurd (none_in_nil a on.first);
  };
}

pub orderly : (moment : Moment) → IsHistory moment → IsOrderly moment
orderly moment IsHistory.nothing = record { sound = no_rows_sound; held_allowed = nothing_allowed (devices_of moment.inputs); wanted_allowed = inputs_allowed moment.inputs no_rows_sound }
orderly moment (IsHistory.came before event history comes) =
    let was = orderly before history in
    let sound = sound_after before event was.sound comes in
    record { sound = sound; held_allowed = allowed_after before event was.held_allowed comes; wanted_allowed = inputs_allowed moment.inputs sound }
orderly moment (IsHistory.settled before made rest history are) =
    let was = orderly before history in
    record {
      sound = was.sound;
      held_allowed = all_keep (devices_of before.inputs) before.held made was.held_allowed
          (front_admitted (devices_of before.inputs) before.held made rest (admitted (devices_of before.inputs) before.held (want_of before.inputs) (made ++ rest) was.held_allowed was.wanted_allowed are)).0;
      wanted_allowed = was.wanted_allowed;
    }

pub history_admits : (moment : Moment) (calls : List Call) → IsHistory moment → AreCalls (devices_of moment.inputs) moment.held (want_of moment.inputs) calls → AreAdmitted (devices_of moment.inputs) moment.held calls
history_admits moment calls history are = let was = orderly moment history in admitted (devices_of moment.inputs) moment.held (want_of moment.inputs) calls was.held_allowed was.wanted_allowed are

pub history_reaches : (moment : Moment) (calls : List Call) → IsHistory moment → AreCalls (devices_of moment.inputs) moment.held (want_of moment.inputs) calls → after_calls moment.held calls ≡ want_of moment.inputs
history_reaches moment calls history are = let was = orderly moment history in reached (devices_of moment.inputs) moment.held (want_of moment.inputs) calls was.held_allowed was.wanted_allowed are

history_reached : (moment : Moment) → IsHistory moment → IsReached moment.inputs
history_reached moment IsHistory.nothing = IsReached.nothing
history_reached moment (IsHistory.came before event history comes) = IsReached.behind before.inputs event (history_reached before history)
history_reached moment (IsHistory.settled before made rest history are) = history_reached before history

pub history_as_fresh : (moment : Moment) (calls : List Call) → IsHistory moment → AreCalls (devices_of moment.inputs) moment.held (want_of moment.inputs) calls → after_calls moment.held calls ≡ want_of (fresh_start moment.inputs)
history_as_fresh moment calls history are = history_reaches moment calls history are ∙ sym (ap want (fresh_facts moment.inputs (history_reached moment history)))
