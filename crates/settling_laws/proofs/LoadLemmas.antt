-- A load beside a network with the same devices.
use Rattle.std.proofs.Common.{arith, ℕ, ◌≡◌, ◌≤◌, List, [], ◌∷◌, ◌++◌, map, Bool, true, false, cond, Contains, Option, Some, None, refl, ap, sym, ◌∙◌}
use Rattle.std.specs.Prelude.{bytes_eq, ◌||◌}
use Rattle.std.specs.List.{list_any}
use Rattle.std.specs.Option.{option_map_or}
use Rattle.kern_model.specs.declared.object.Device.{Device}
use Rattle.kern_model.proofs.TestLemmas.{bytes_same, same_bytes, of_any}
use Rattle.net_rows.specs.declared.rows.Conf.{Conf}
use Rattle.net_rules.specs.Facts.{Facts}
use Rattle.net_rules.specs.Rows.{names_of}
use Rattle.net_rules.specs.RadioPorts.{radio_ports}
use Rattle.graph_rules.specs.declared.ids.RadioPort.{RadioPort}
use Rattle.graph_rules.specs.State.{Named, Known, named_in, device_among, claims_among, claims_in}
use Rattle.graph_rules.specs.Answers.{port_of}
use Rattle.graph_rules.specs.After.{kept_name, kept_names, known_of}
use Rattle.graph_laws.specs.Below.{AgreesBelow}
use Rattle.settling_laws.proofs.DeviceLemmas.{cons_device}

abbrev is_listed : List (List ℕ) → List ℕ → Bool
is_listed names q = list_any (λ n. bytes_eq n q) names

-- names that are kept have the devices that they had
kept_by : (old : List Named) (n : List ℕ) (ns : List (List ℕ)) (q : List ℕ) (b : Bool) → bytes_eq n q ≡ b → device_among (kept_names old ns) q ≡ cond (is_listed ns q) (device_among old q) None → device_among (kept_names old (n ∷ ns)) q
    ≡ cond (b || is_listed ns q) (device_among old q) None
kept_by old n ns q true is rest = cons_device (kept_name old n) (kept_names old ns) q true is ∙ ap (device_among old) (bytes_same n q is)
kept_by old n ns q false is rest = cons_device (kept_name old n) (kept_names old ns) q false is ∙ rest

kept_device : (old : List Named) (names : List (List ℕ)) (q : List ℕ) → device_among (kept_names old names) q ≡ cond (is_listed names q) (device_among old q) None
kept_device old [] q = refl
kept_device old (n ∷ ns) q = kept_by old n ns q (bytes_eq n q) refl (kept_device old ns q)

module _ (before now : Facts) (old : Known) (plain : List (List ℕ)) (agrees : AgreesBelow before old) (same : (name : List ℕ) → now.device name ≡ before.device name)
    (among : (name : List ℕ) (d : Device) → before.device name ≡ Some d → Contains (names_of now.conf ++ plain) name) where
  abbrev names : List (List ℕ)
  names = names_of now.conf ++ plain

  devices_by : (q : List ℕ) (b : Bool) → is_listed names q ≡ b → (d : Option Device) → before.device q ≡ d → cond b (device_among old.names q) None ≡ now.device q
  devices_by q true is d at = agrees.devices q ∙ sym (same q)
  devices_by q false is None at = sym (same q ∙ at)
  devices_by q false is (Some d) at =
      let listed : is_listed names q ≡ true = of_any (λ n. bytes_eq n q) names q (among q d at) (same_bytes q q refl) in
      cc (listed, is)

  devices_stay : (q : List ℕ) → device_among (kept_names old.names names) q ≡ now.device q
  devices_stay q = kept_device old.names names q ∙ devices_by q (is_listed names q) refl (before.device q) refl

pub loaded_below : (before now : Facts) (old : Known) (plain : List (List ℕ)) (radio : List RadioPort) → AgreesBelow before old → ((name : List ℕ) → now.device name ≡ before.device name) → map port_of radio ≡ radio_ports now
    → ((name : List ℕ) (d : Device) → before.device name ≡ Some d → Contains (names_of now.conf ++ plain) name) → AgreesBelow now (known_of old.names now.conf plain radio)
loaded_below before now old plain radio agrees same ports among = record {
  rows = refl;
  vlans = refl;
  radio = ports;
  devices = devices_stay before now old plain agrees same among;
}

-- no name has more claims than it had
abbrev claims_by : Option Named → ℕ
claims_by found = option_map_or (λ (n : Named). n.claims) found 0

cons_claims : (n : Named) (ns : List Named) (q : List ℕ) (b : Bool) → bytes_eq n.name q ≡ b → claims_among (n ∷ ns) q ≡ cond b n.claims (claims_among ns q)
cons_claims n ns q true is = ap (λ b. claims_by (cond b (Some n) (named_in ns q))) is
cons_claims n ns q false is = ap (λ b. claims_by (cond b (Some n) (named_in ns q))) is

no_more_by : (old : List Named) (n : List ℕ) (ns : List (List ℕ)) (q : List ℕ) (b : Bool) → bytes_eq n q ≡ b → claims_among (kept_names old ns) q ≤ claims_among old q → claims_among (kept_names old (n ∷ ns)) q ≤ claims_among old q
no_more_by old n ns q true is rest =
    let its : claims_among (kept_names old (n ∷ ns)) q ≡ claims_among old q = cons_claims (kept_name old n) (kept_names old ns) q true is ∙ ap (claims_among old) (bytes_same n q is) in
    omega (arith, its)
no_more_by old n ns q false is rest =
    let others : claims_among (kept_names old (n ∷ ns)) q ≡ claims_among (kept_names old ns) q = cons_claims (kept_name old n) (kept_names old ns) q false is in
    omega (arith, others, rest)

no_more_claims : (old : List Named) (names : List (List ℕ)) (q : List ℕ) → claims_among (kept_names old names) q ≤ claims_among old q
no_more_claims old [] q = omega arith
no_more_claims old (n ∷ ns) q = no_more_by old n ns q (bytes_eq n q) refl (no_more_claims old ns q)

pub loaded_claims : (old : List Named) (rows : Conf) (plain : List (List ℕ)) (radio : List RadioPort) (name : List ℕ) → claims_in (known_of old rows plain radio) name ≤ claims_among old name
loaded_claims old rows plain radio name = no_more_claims old (names_of rows ++ plain) name
