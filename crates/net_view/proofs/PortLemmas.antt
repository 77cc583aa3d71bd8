-- The ports of radios, one after another.
use Rattle.std.proofs.Common.{◌≡◌, ℕ, zero, suc, ◌+◌, ◌<◌, ◌==◌, List, [], ◌∷◌, ◌++◌, length, map, take, get_or, Bool, true, false, cond, Option, Some, None, refl, sym, ap, ◌∙◌, arith, append-nil, ne_eqb, eq-eqb, eqb-true}
use Rattle.std.specs.Prelude.{not, ◌||◌, bytes_eq, filter, is_some, is_none, ◌&&◌, unwrap_or, option_to_list}
use Rattle.std.specs.List.{find, filter_map, flat_map, list_any, zip, cons_option}
use Rattle.std.specs.Option.{option_map, option_and_then}
use Rattle.std.specs.Ordering.{nat_cmp}
use Rattle.std.specs.Cmp.Lexicographic.{slice_cmp}
use Rattle.std.specs.BTreeMap.{BTreeMap, get}
use Rattle.std.proofs.lemmas.List.{take_more, map-append}
use Rattle.uci_tree.proofs.FoldLemmas.{position-cons}
use Rattle.std.proofs.lemmas.List.Elements.{filter-append, filter_map-append}
use Rattle.std.proofs.lemmas.List.Concat.{flat_map-append}
use Rattle.kern_model.proofs.TestLemmas.{bytes_same, same_bytes, true_of_both_ways, from_any, of_any}
use Rattle.net_rules.proofs.TableLemmas.{either_way}
use Rattle.net_rules.proofs.ListLemmas.{within_firsts, key_in_firsts}
use Rattle.net_rows.specs.declared.rows.NameRow.{NameRow}
use Rattle.net_rows.specs.declared.rows.WifiRow.{WifiRow}
use Rattle.net_rules.specs.Facts.{Facts}
use Rattle.net_rules.specs.Firsts.{firsts}
use Rattle.net_rules.specs.Rows.{row_at, rowless, is_plain_kind, is_bridge_kind, is_bridge, is_named_port}
use Rattle.net_rows.specs.declared.dotted.VlanParts.{VlanParts}
use Rattle.net_rows.specs.declared.rows.NameKind.TheVariants.{Plain, Vlan}
use Rattle.net_rows.specs.declared.rows.Conf.{Conf}
use Rattle.net_rows.specs.declared.rows.RadioRow.{RadioRow}
use Rattle.net_rows.specs.declared.rows.InterfaceRow.{InterfaceRow}
use Rattle.net_rules.specs.declared.inputs.Inputs.{Inputs}
use Rattle.net_rules.specs.declared.inputs.OpenRadio.{OpenRadio}
use Rattle.net_rules.specs.Inputs.{facts_of}
use Rattle.net_rules.specs.RadioPorts.{AnsweredPort, RadioPort, ports_of_radio, answered_ports, device_or_port, device_of, joined}
use Rattle.net_view.specs.Places.{place_of, HasPlaces, is_place, named}
use Rattle.net_view.specs.declared.radio_ports.PortJoin.{PortJoin}
use Rattle.net_view.specs.RadioPorts.{as_joined, port_of_pair, enabled, join_to}

-- ---- the row of a name

abbrev pub row_or : Option NameRow → List ℕ → NameRow
row_or None name = rowless name
row_or (Some row) name = row

pub row_found : (rows : List NameRow) (name : List ℕ) → row_at rows name ≡ row_or (named (λ row. row.name) rows name) name
row_found [] name = refl
row_found (row ∷ rows) name = ap (cond (bytes_eq row.name name) row) (row_found rows name) ∙ first_or (bytes_eq row.name name) row (named (λ r. r.name) rows name) name
  where
    first_or : (b : Bool) (row : NameRow) (found : Option NameRow) (name : List ℕ) → cond b row (row_or found name) ≡ row_or (cond b (Some row) found) name
    first_or true row found name = refl
    first_or false row found name = refl

pub row_is : (rows : List NameRow) (name : List ℕ) (row : NameRow) → Some row ≡ named (λ r. r.name) rows name → row_at rows name ≡ row
row_is rows name row h = row_found rows name ∙ ap (λ o. row_or o name) (sym h)

pub row_is_none : (rows : List NameRow) (name : List ℕ) → ◌≡◌ {A = Option NameRow} None (named (λ r. r.name) rows name) → row_at rows name ≡ rowless name
row_is_none rows name h = row_found rows name ∙ ap (λ o. row_or o name) (sym h)

pub plain_without_row : (parts : Option VlanParts) → is_none parts ≡ is_plain_kind (cond (is_some parts) (Vlan None 0) Plain)
plain_without_row None = refl
plain_without_row (Some parts) = refl

pub bridge_without_row : (parts : Option VlanParts) → false ≡ is_bridge_kind (cond (is_some parts) (Vlan None 0) Plain)
bridge_without_row None = refl
bridge_without_row (Some parts) = refl

-- ---- what is told of a radio

pub told_of_radio : (inputs : Inputs) (radio : RadioRow) (found : Option OpenRadio) → found ≡ named (λ (o : OpenRadio). o.request.name) inputs.radios radio.name
    → filter_map (port_of_pair (facts_of inputs)) (zip (enabled radio.rows) (unwrap_or (option_and_then (λ (o : OpenRadio). o.ports) found) [])) ≡ ports_of_radio (facts_of inputs) radio
told_of_radio inputs radio found is = ap (λ (f : Option OpenRadio). filter_map (port_of_pair (facts_of inputs)) (zip (enabled radio.rows) (unwrap_or (option_and_then (λ (o : OpenRadio). o.ports) f) []))) is

pub zip_nil : {X Y : Type 0} → (xs : List X) → ◌≡◌ {A = List (X × Y)} [] (zip xs [])
zip_nil [] = refl
zip_nil (x ∷ xs) = refl

pub no_ports : (facts : Facts) (rows : List WifiRow) (before : List AnsweredPort) → before ≡ before ++ filter_map (port_of_pair facts) (zip (enabled rows) [])
no_ports facts rows before = sym (ap (λ z. before ++ filter_map (port_of_pair facts) z) (sym (zip_nil (enabled rows))) ∙ append-nil before)

-- the device of an interface that names none
pub device_by_port : (facts : Facts) (row : InterfaceRow) (port : Option (List ℕ)) (answered : List AnsweredPort) → row.device ≡ None → answered ≡ answered_ports facts → port
    ≡ option_map (λ (a : AnsweredPort). a.port) (find (λ (a : AnsweredPort). bytes_eq a.interface row.name) answered) → port ≡ device_of facts row
device_by_port facts row port answered none all is =
    is ∙ ap (λ (z : List AnsweredPort). option_map (λ (a : AnsweredPort). a.port) (find (λ (a : AnsweredPort). bytes_eq a.interface row.name) z)) all
    ∙ sym (ap (device_or_port facts row.name) none)

-- ---- the bridge that a port joins

pub joined_by : (inputs : Inputs) (answered : AnsweredPort) (found : Option InterfaceRow) → found ≡ named (λ (r : InterfaceRow). r.name) inputs.conf.interfaces answered.interface
    → option_and_then (λ (row : InterfaceRow). option_and_then (join_to inputs.conf answered.port) row.device) found ≡ joined (facts_of inputs) answered
joined_by inputs answered found is = ap (option_and_then (λ (row : InterfaceRow). option_and_then (join_to inputs.conf answered.port) row.device)) is

pub joins_when : (conf : Conf) (port device : List ℕ) (told : Option (List ℕ)) (bridge owned b : Bool) → told ≡ Some device → bridge ≡ is_bridge conf device → owned ≡ is_named_port conf port → (bridge && not owned) ≡ b
    → cond b (Some (record { bridge = device; port = port })) None ≡ option_and_then (join_to conf port) told
joins_when conf port device told bridge owned b is p q test =
    ap (λ c. cond c (Some (record { bridge = device; port = port })) None) (sym test ∙ (λ i. p i && not (q i)))
    ∙ sym (ap (option_and_then (join_to conf port)) is)

-- ---- of several with one key the first

one_kept : {X : Type 0} (p : X → Bool) (x : X) (b any : Bool) → p x ≡ not b → filter p (cond any [] (x ∷ [])) ≡ cond (b || any) [] (x ∷ [])
one_kept p x true true h = refl
one_kept p x true false h = ap (λ c. cond c (x ∷ []) []) h
one_kept p x false true h = refl
one_kept p x false false h = ap (λ c. cond c (x ∷ []) []) h

pub firsts_push : {X : Type 0} (key : X → List ℕ) → (xs : List X) (x : X) → firsts key (xs ++ x ∷ []) ≡ firsts key xs ++ cond (list_any (λ y. bytes_eq (key y) (key x)) xs) [] (x ∷ [])
firsts_push key [] x = refl
firsts_push {X} key (y ∷ ys) x =
    let others : X → Bool = λ z. not (bytes_eq (key z) (key y)) in
    let any : Bool = list_any (λ z. bytes_eq (key z) (key x)) ys in
    ap (λ (z : List X). y ∷ filter others z) (firsts_push key ys x)
    ∙ ap (λ (z : List X). y ∷ z) (filter-append others (firsts key ys) (cond any [] (x ∷ [])))
    ∙ ap (λ (z : List X). y ∷ (filter others (firsts key ys) ++ z)) (one_kept others x (bytes_eq (key y) (key x)) any (ap not (either_way (key x) (key y))))

here_step : (b any : Bool) (i : ℕ) (place : Option ℕ) → is_place i place ≡ not any → is_place (suc i) (cond {A = Option ℕ} b (Some 0) (option_map (λ k. suc k) place)) ≡ not (b || any)
here_step true any i place h = ne_eqb 0 (suc i) (omega arith)
here_step false any i None h = h
here_step false any i (Some k) h = suc_same k i ∙ h
  where
    suc_same : (k i : ℕ) → (suc k == suc i) ≡ (k == i)
    suc_same k i = true_of_both_ways (suc k == suc i) (k == i)
        (λ h. let same : suc k ≡ suc i = eqb-true (suc k) (suc i) h in eq-eqb k i (omega arith))
        (λ h. let same : k ≡ i = eqb-true k i h in eq-eqb (suc k) (suc i) (omega arith))

pub first_here : {X : Type 0} (key : X → List ℕ) → (xs : List X) (i : ℕ) (x : X) → i < length xs → x ≡ get_or xs i x → is_place i (place_of (map key xs) (key x)) ≡ not (list_any (λ y. bytes_eq (key y) (key x)) (take i xs))
first_here key [] i x within is = absurd (omega arith)
first_here key (y ∷ ys) zero x within is =
    ap (is_place 0) (position-cons (λ other. bytes_eq other (key x)) (key y) (map key ys))
    ∙ ap (λ (b : Bool). is_place 0 (cond {A = Option ℕ} b (Some 0) (option_map (λ k. suc k) (place_of (map key ys) (key x))))) (same_bytes (key y) (key x) (ap key (sym is)))
first_here key (y ∷ ys) (suc i) x within is =
    ap (is_place (suc i)) (position-cons (λ other. bytes_eq other (key x)) (key y) (map key ys))
    ∙ here_step (bytes_eq (key y) (key x)) (list_any (λ z. bytes_eq (key z) (key x)) (take i ys)) i (place_of (map key ys) (key x)) (first_here key ys i x (omega arith) is)

flipped : {X : Type 0} (x : X) (any : Bool) → cond any [] (x ∷ []) ≡ cond (not any) (x ∷ []) []
flipped x true = refl
flipped x false = refl

pub more_is : {X : Type 0} (xs : List X) (i : ℕ) (x : X) → i < length xs → x ≡ get_or xs i x → take (i + 1) xs ≡ take i xs ++ x ∷ []
more_is {X} xs i x within is = take_more xs i x within ∙ ap (λ (z : X). take i xs ++ z ∷ []) (sym is)

pub firsts_more : {X : Type 0} (key : X → List ℕ) (xs : List X) (places : BTreeMap (List ℕ) ℕ) (i : ℕ) (x : X) → HasPlaces places (map key xs) → i < length xs → x ≡ get_or xs i x → firsts key (take (i + 1) xs) ≡ firsts key (take i xs)
    ++ cond (is_place i (get (slice_cmp nat_cmp) places (key x))) (x ∷ []) []
firsts_more {X} key xs places i x has within is =
    let any : Bool = list_any (λ y. bytes_eq (key y) (key x)) (take i xs) in
    let test : is_place i (get (slice_cmp nat_cmp) places (key x)) ≡ not any = ap (is_place i) (has (key x)) ∙ first_here key xs i x within is in
    ap (firsts key) (more_is xs i x within is)
    ∙ firsts_push key (take i xs) x
    ∙ ap (λ (z : List X). firsts key (take i xs) ++ z) (flipped x any ∙ ap (λ b. cond b (x ∷ []) []) (sym test))

-- a fold over the firsts, with one item more
pub fold_more : {X Y Z : Type 0} (key : X → List ℕ) (f : X → List Y) (image : Z → Y) (xs : List X) (places : BTreeMap (List ℕ) ℕ) (i : ℕ) (x : X) (old new : List Z) → HasPlaces places (map key xs) → i < length xs → x ≡ get_or xs i x
    → map image old ≡ flat_map f (firsts key (take i xs)) → map image new ≡ map image old ++ flat_map f (cond (is_place i (get (slice_cmp nat_cmp) places (key x))) (x ∷ []) []) → map image new ≡ flat_map f (firsts key (take (i + 1) xs))
fold_more {X} {Y} {Z} key f image xs places i x old new has within is sofar made =
    let one : List X = cond (is_place i (get (slice_cmp nat_cmp) places (key x))) (x ∷ []) [] in
    made
    ∙ ap (λ (z : List Y). z ++ flat_map f one) sofar
    ∙ sym (flat_map-append f (firsts key (take i xs)) one)
    ∙ sym (ap (flat_map f) (firsts_more key xs places i x has within is))
