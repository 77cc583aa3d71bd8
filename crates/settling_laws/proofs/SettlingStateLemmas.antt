-- A graph and gifts beside inputs: what they want, when they are ready, and what a settling leaves.
use Rattle.std.proofs.Common.{arith, ℕ, ◌≡◌, ◌<◌, List, ◌++◌, Contains, true, false, refl, ap, sym, subst, ◌∙◌}
use Rattle.std.specs.Prelude.{◌&&◌}
use Rattle.std.proofs.lemmas.Bool.Decides.{nat_tests}
use Rattle.std.specs.FinSet as set
use Rattle.kern_model.specs.declared.object.Object.{Object}
use Rattle.kern_model.specs.declared.object.Object.TheVariants as object
use Rattle.kern_model.specs.declared.object.Call.{Call}
use Rattle.kern_model.specs.Kernel.{name_of}
use Rattle.kern_model.specs.Allowed.{AreAllowed}
use Rattle.kern_model.specs.CallOrder.{AreCalls, after_calls}
use Rattle.kern_model.proofs.MemberLemmas.{member_of_map}
use Rattle.kern_model.proofs.TestLemmas.{of_both, of_right, same_bytes}
use Rattle.kern_calls.specs.Calls.{calls}
use Rattle.kern_calls.specs.Lower.{lower_part}
use Rattle.kern_calls.proofs.CallsLemmas.{are_the_calls}
use Rattle.kern_calls.specs.Upper.{upper_part}
use Rattle.kern_calls.proofs.FollowLemmas.{parts_are_whole}
use Rattle.net_rules.specs.declared.inputs.Inputs.{Inputs}
use Rattle.net_rules.specs.Facts.{Facts}
use Rattle.net_rules.specs.Rows.{is_name, interfaces_of}
use Rattle.net_rules.specs.RadioPorts.{device_of}
use Rattle.net_rules.specs.Sound.{IsSound}
use Rattle.net_rules.specs.Interfaces.{is_claimed, is_up, l3_device_of}
use Rattle.net_rules.specs.Used.{uses, used}
use Rattle.net_rules.specs.Want.{given, want}
use Rattle.net_rules.specs.Inputs.{facts_of}
use Rattle.net_rules.specs.Moment.{devices_of, want_of, Moment, IsHistory}
use Rattle.net_rules.proofs.DeviceLemmas.{used_by_interface}
use Rattle.net_rules.proofs.GivenLemmas.{IsOn, on_l3_device, l3_device_available}
use Rattle.net_rules.proofs.HistoryLemmas.{orderly}
use Rattle.net_rules.proofs.ListLemmas.{IsAmong, from_join}
use Rattle.graph_rules.specs.State.{Known}
use Rattle.graph_rules.specs.Wanted.{want_in}
use Rattle.graph_rules.specs.Calls.{loses_link_in}
use Rattle.graph_rules.specs.Agreeing.{Agrees}
use Rattle.graph_rules.proofs.AgreeLemmas.{used_same}
use Rattle.graph_counts.specs.Sound.{IsSound as IsSoundGraph}
use Rattle.graph_laws.specs.Below.{AgreesBelow}
use Rattle.graph_laws.specs.Links.{HoldsLinksOfRows}
use Rattle.graph_laws.proofs.DeviceLemmas.{same_devices}
use Rattle.graph_laws.proofs.EdgeLemmas.{rows_named}
use Rattle.graph_laws.proofs.LowerLemmas.{lower_part_wanted}
use Rattle.graph_laws.proofs.LostLinkLemmas.{no_lost_link}
use Rattle.given_objects.specs.declared.gift.Gift.{Gift}
use Rattle.given_objects.specs.Gifts.{Gifts, is_given, givers_of, given_of, AreGifts}
use Rattle.graph_settle.specs.SettlingState as settling_state
use Rattle.graph_settle.specs.SettlingState.{SettlingState, held_of, wanted_of, calls_of, IsReady, IsAlike}
use Rattle.graph_settle.specs.Leaving.{looked_at, all_looked_at}
use Rattle.settling_laws.specs.Given.{all_given}
use Rattle.settling_laws.specs.Beside.{IsSettlingStateOf, HoldsLower, AreQuiet}
use Rattle.settling_laws.proofs.GivenLemmas.{given_part, among_given, its_givers}

-- what agrees with claims agrees below them
pub below : (facts : Facts) (s : Known) → Agrees facts s → AgreesBelow facts s
below facts s agrees = record { rows = agrees.rows; vlans = agrees.vlans; radio = agrees.radio; devices = agrees.devices }

module _ (inputs : Inputs) (c : SettlingState) (beside : IsSettlingStateOf inputs c) where
  pub has_devices : settling_state.devices_of c ≡ devices_of inputs
  has_devices = same_devices inputs c.graph.known (below (facts_of inputs) c.graph.known beside.agrees) beside.sound.names.once

  module _ (sound : IsSound inputs.conf) (are : AreGifts c.gifts) where
    pub wants_all : wanted_of c ≡ want_of inputs
    wants_all =
        let facts = facts_of inputs in
        let lower : want_in c.graph.known ≡ lower_part (want facts) = lower_part_wanted facts c.graph.known sound beside.agrees (rows_named c.graph.known beside.sound) in
        let upper : given_of c.gifts ≡ upper_part (want facts) = given_part facts c.gifts are beside.given in
        let both : set.union (want_in c.graph.known) (given_of c.gifts) ≡ set.union (lower_part (want facts)) (upper_part (want facts)) = λ i. set.union (lower i) (upper i) in
        both ∙ parts_are_whole (want facts)

    pub calls_all : calls_of c ≡ calls (devices_of inputs) (held_of c) (want_of inputs)
    calls_all = λ i. calls (has_devices i) (held_of c) (wants_all i)

-- ---- ready

module _ (inputs : Inputs) (c : SettlingState) (history : IsHistory (record { inputs = inputs; held = held_of c })) (beside : IsSettlingStateOf inputs c) (are : AreGifts c.gifts) where
  abbrev moment : Moment
  moment = record { inputs = inputs; held = held_of c }

  held_is_allowed : AreAllowed (settling_state.devices_of c) (held_of c)
  held_is_allowed = subst (λ d. AreAllowed d (held_of c)) (sym (has_devices inputs c beside)) (orderly moment history).held_allowed

  wanted_is_allowed : AreAllowed (settling_state.devices_of c) (wanted_of c)
  wanted_is_allowed =
      let was = orderly moment history in
      subst (λ d. AreAllowed d (wanted_of c)) (sym (has_devices inputs c beside))
      (subst (AreAllowed (devices_of inputs)) (sym (wants_all inputs c beside was.sound are)) was.wanted_allowed)

  pub looked_ready : HoldsLower c.graph → c.may_lose_link ≡ true → (before : Gifts) → c.gifts ≡ all_looked_at c.graph before → IsReady c
  looked_ready lower may before looked = record {
    held = held_is_allowed;
    wanted = wanted_is_allowed;
    lower = lower;
    loses_link = λ g member held given.
        let from = member_of_map (looked_at c.graph) before g (subst (λ (gs : Gifts). Contains gs g) looked member) in
        subst (λ (x : Gift). x.loses_link ≡ loses_link_in c.graph (name_of x.object)) from.same refl;
    links = λ off. cc (may, off);
    quiet = λ off. cc (may, off);
  }

  -- the name of an object on a device
  name_on : (dev : List ℕ) (o : Object) → IsOn dev o → name_of o ≡ dev
  name_on dev (object.Link name kind) on = absurd on
  name_on dev (object.Mtu name mtu) on = absurd on
  name_on dev (object.Mac name mac) on = absurd on
  name_on dev (object.Master port bridge) on = absurd on
  name_on dev (object.Vlan bridge port id pvid untagged) on = absurd on
  name_on dev (object.Up name) on = absurd on
  name_on dev (object.Address other cidr) on = on
  name_on dev (object.Route r) on = on

  -- the name of what is given is used
  given_used : (o : Object) → Contains (all_given (facts_of inputs)) o → used (facts_of inputs) (name_of o) ≡ true
  given_used o h =
      let facts = facts_of inputs in
      let of : IsAmong (given facts) (interfaces_of inputs.conf) o = from_join (given facts) (interfaces_of inputs.conf) o h in
      let row = of.source in
      let on = on_l3_device facts row o of.among in
      let named : is_name (l3_device_of facts row) on.l3_device ≡ true = ap (λ l. is_name l on.l3_device) on.l3_device_is ∙ same_bytes on.l3_device on.l3_device refl in
      let uses_it : uses facts on.l3_device row ≡ true = of_right (is_claimed facts row && is_name (device_of facts row) on.l3_device) (is_up facts row && is_name (l3_device_of facts row) on.l3_device)
      (of_both (is_up facts row) (is_name (l3_device_of facts row) on.l3_device) on.up named) in
      subst (λ n. used facts n ≡ true) (sym (name_on on.l3_device o on.on))
      (used_by_interface facts (orderly moment history).sound row on.l3_device of.member (l3_device_available facts row on.l3_device on.up on.l3_device_is) uses_it)

  -- so no such name loses its link, where links of the rows are held
  given_stands : HoldsLinksOfRows c.graph → (g : Gift) → Contains c.gifts g → is_given g ≡ true → loses_link_in c.graph (name_of g.object) ≡ false
  given_stands holds g member given =
      let upper = are.upper g member in
      let some : 0 < givers_of c.gifts g.object = subst (λ n. 0 < n) (sym (its_givers c.gifts are g member)) (grind (arith, nat_tests, given)) in
      let among = among_given (facts_of inputs) g.object (subst (λ n. 0 < n) (beside.given g.object upper) some) in
      no_lost_link c.graph holds beside.sound (name_of g.object) (used_same (facts_of inputs) c.graph.known beside.agrees (name_of g.object) ∙ given_used g.object among)

  pub quiet_ready : HoldsLower c.graph → HoldsLinksOfRows c.graph → AreQuiet c.gifts → IsReady c
  quiet_ready lower holds quiet = record {
    held = held_is_allowed;
    wanted = wanted_is_allowed;
    lower = lower;
    loses_link = λ g member held given. quiet g member held ∙ sym (given_stands holds g member given);
    links = λ off. holds;
    quiet = λ off. quiet;
  }

-- ---- led on

pub beside_then : (inputs : Inputs) (before now : SettlingState) → IsSettlingStateOf inputs before → IsAlike before now → IsSettlingStateOf inputs now
beside_then inputs before now beside alike = record {
  sound = subst IsSoundGraph (sym alike.known) beside.sound;
  agrees = subst (Agrees (facts_of inputs)) (sym alike.known) beside.agrees;
  given = λ o upper. alike.givers o ∙ beside.given o upper;
}

pub history_then : (inputs : Inputs) (before now : SettlingState) (made : List Call) → IsHistory (record { inputs = inputs; held = held_of before }) → IsSettlingStateOf inputs before → AreGifts before.gifts → calls_of before ≡ made
    ++ calls_of now
    → held_of now ≡ after_calls (held_of before) made → IsHistory (record { inputs = inputs; held = held_of now })
history_then inputs before now made history beside are parts held =
    let moment : Moment = record { inputs = inputs; held = held_of before } in
    let all = calls_all inputs before beside (orderly moment history).sound are in
    let in_parts : AreCalls (devices_of inputs) (held_of before) (want_of inputs) (made ++ calls_of now) =
    subst (AreCalls (devices_of inputs) (held_of before) (want_of inputs)) (sym all ∙ parts) (are_the_calls (devices_of inputs) (held_of before) (want_of inputs)) in
    subst (λ h. IsHistory (record { inputs = inputs; held = h })) (sym held) (IsHistory.settled moment made (calls_of now) history in_parts)
