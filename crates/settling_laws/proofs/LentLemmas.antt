-- The graph of a course beside inputs.
use Rattle.std.proofs.Common.{ℕ, ◌≡◌, List, [], ◌∷◌, map, Bool, true, false, cond, Contains, Some, refl, sym, subst, ◌∙◌}
use Rattle.std.specs.Prelude.{bytes_eq}
use Rattle.std.specs.Option.{option_and_then}
use Rattle.kern_model.specs.declared.object.Device.{Device}
use Rattle.kern_model.proofs.MemberLemmas.{here, there}
use Rattle.kern_model.proofs.TestLemmas.{bytes_same}
use Rattle.kern_calls.specs.Lower.{lower_part}
use Rattle.net_rows.specs.declared.rows.NameRow.{NameRow}
use Rattle.net_rules.specs.declared.inputs.Inputs.{Inputs}
use Rattle.net_rules.specs.Rows.{names_of}
use Rattle.net_rules.specs.Sound.{IsSound}
use Rattle.net_rules.specs.Inputs.{facts_of, device_in}
use Rattle.net_rules.specs.Moment.{want_of}
use Rattle.graph_rules.specs.State.{Named, named_in, name_list, names_in, device_among}
use Rattle.graph_rules.specs.Wanted.{want_in}
use Rattle.graph_laws.proofs.EdgeLemmas.{rows_named}
use Rattle.graph_laws.proofs.LowerLemmas.{lower_part_wanted}
use Rattle.given_objects.specs.Gifts.{AreGifts}
use Rattle.graph_settle.specs.SettlingState.{SettlingState, held_of}
use Rattle.graph_settle.proofs.SettlingStateLemmas.{held_parts}
use Rattle.settling_laws.specs.Beside.{IsSettlingStateOf, HoldsLower}

-- a name with a device is among the names
known_by : (n : Named) (ns : List Named) (name : List ℕ) (d : Device) (b : Bool) → bytes_eq n.name name ≡ b → (device_among ns name ≡ Some d → Contains (name_list ns) name)
    → option_and_then (λ (m : Named). m.device) (cond b (Some n) (named_in ns name)) ≡ Some d → Contains (n.name ∷ name_list ns) name
known_by n ns name d true is rest h = subst (Contains (n.name ∷ name_list ns)) (bytes_same n.name name is) (here n.name (name_list ns))
known_by n ns name d false is rest h = there n.name (name_list ns) name (rest h)

known_device : (ns : List Named) (name : List ℕ) (d : Device) → device_among ns name ≡ Some d → Contains (name_list ns) name
known_device [] name d h = cc h
known_device (n ∷ ns) name d h = known_by n ns name d (bytes_eq n.name name) refl (known_device ns name d) h

module _ (inputs : Inputs) (c : SettlingState) (beside : IsSettlingStateOf inputs c) where
  pub rows_known : (name : List ℕ) → Contains (names_of inputs.conf) name → Contains (names_in c.graph.known) name
  rows_known name h = rows_named c.graph.known beside.sound name (subst (λ (rows : List NameRow). Contains (map (λ (row : NameRow). row.name) rows) name) (sym beside.agrees.rows) h)

  pub devices_known : (name : List ℕ) (d : Device) → device_in inputs.devices name ≡ Some d → Contains (names_in c.graph.known) name
  devices_known name d h = known_device c.graph.known.names name d (beside.agrees.devices name ∙ h)

  pub wants_below : IsSound inputs.conf → want_in c.graph.known ≡ lower_part (want_of inputs)
  wants_below sound = lower_part_wanted (facts_of inputs) c.graph.known sound beside.agrees (rows_named c.graph.known beside.sound)

pub holds_below : (c : SettlingState) → AreGifts c.gifts → HoldsLower c.graph → c.graph.held ≡ lower_part (held_of c)
holds_below c are lower = sym (held_parts c are lower).0
