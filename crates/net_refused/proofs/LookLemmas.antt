-- What look-ups by place and by number tell of names and of open requests.
use Rattle.std.proofs.Common.{arith, ℕ, ◌≡◌, ◌==◌, List, [], ◌∷◌, map, length, slice_get, Contains, Bool, true, false, cond, Option, Some, None, Bor, refl, ap, sym, subst, ◌∙◌}
use Rattle.std.specs.Prelude.{is_some, is_none, not}
use Rattle.std.specs.List.{find}
use Rattle.std.specs.Option.{option_map, option_and_then, option_copied}
use Rattle.std.specs.Slice.{IsItemAt}
use Rattle.std.proofs.lemmas.Bool.Decides.{nat_tests}
use Rattle.kern_model.specs.declared.object.Device.{Device}
use Rattle.kern_model.proofs.MemberLemmas.{here, there}
use Rattle.kern_model.proofs.TestLemmas.{bytes_same}
use Rattle.net_rows.specs.declared.rows.NameRow.{NameRow}
use Rattle.net_rows.specs.declared.rows.RadioRow.{RadioRow}
use Rattle.net_rules.specs.declared.inputs.Inputs.{Inputs}
use Rattle.net_rules.specs.declared.inputs.OpenInterface.{OpenInterface}
use Rattle.net_rules.specs.declared.inputs.OpenRadio.{OpenRadio}
use Rattle.net_rules.specs.declared.refusal.Refusal.{Refusal}
use Rattle.net_rules.specs.declared.refusal.Refusal.TheVariants as refused
use Rattle.net_rules.specs.Rows.{radio_named}
use Rattle.net_rules.specs.Inputs.{device_in, open_interface, open_radio}
use Rattle.net_rules.specs.Refusal.{or_else, refused_if, stale_number, wrong_ports, number_of_interface, number_of_radio, radio_refusal}
use Rattle.known_inputs.specs.Known.{StandOnce}
use Rattle.known_inputs.specs.Steps.{has_number, request_of}
use Rattle.known_inputs.specs.Places.{is_request_of}
use Rattle.known_inputs.proofs.FoundLemmas.{found_named}
use Rattle.net_view.specs.Places.{place_of, named}
use Rattle.net_view.proofs.PlaceLemmas.{at_place, read_at, place_is_found}

-- ---- names

-- where the one is there the other is
none_alike : {X Y : Type 0} (a : Option X) (b : Option Y) → is_some a ≡ is_some b → is_none a ≡ is_none b
none_alike None None same = refl
none_alike None (Some y) same = cc same
none_alike (Some x) None same = cc same
none_alike (Some x) (Some y) same = refl

pub lacks : {X : Type 0} (key : X → List ℕ) (xs : List X) (name : List ℕ) (place : Option ℕ) → place ≡ place_of (map key xs) name → is_none place ≡ is_none (named key xs name)
lacks key xs name place is = none_alike place (named key xs name) (ap is_some is ∙ place_is_found key xs name)

mapped_some : {X Y : Type 0} (f : X → Y) (o : Option X) → is_some o ≡ is_some (option_map f o)
mapped_some f None = refl
mapped_some f (Some x) = refl

pub device_there : (devices : List (List ℕ × Device)) (name : List ℕ) (place : Option ℕ) → place ≡ place_of (map (λ e. e.0) devices) name → is_some place ≡ is_some (device_in devices name)
device_there devices name place is =
    ap is_some is
    ∙ place_is_found (λ (e : List ℕ × Device). e.0) devices name
    ∙ mapped_some (λ (e : List ℕ × Device). e.1) (named (λ (e : List ℕ × Device). e.0) devices name)

pub none_of : {X : Type 0} (o : Option X) → not (is_some o) ≡ is_none o
none_of None = refl
none_of (Some x) = refl

-- ---- rows

pub row_by_place : (rows : List NameRow) (name : List ℕ) (place : ℕ) (seen : List NameRow) (r : Option (Bor NameRow)) → Some place ≡ place_of (map (λ (row : NameRow). row.name) rows) name → seen ≡ rows → IsItemAt seen place r
    → option_copied r ≡ named (λ (row : NameRow). row.name) rows name
row_by_place rows name place seen r is all read =
    read_at (λ (x : Bor NameRow). x.now) seen place r read
    ∙ ap (λ (z : List NameRow). slice_get z place) all
    ∙ ap (option_and_then (slice_get rows)) is
    ∙ at_place (λ (row : NameRow). row.name) rows name

pub no_row : (rows : List NameRow) (name : List ℕ) → ◌≡◌ {A = Option ℕ} None (place_of (map (λ (row : NameRow). row.name) rows) name) → ◌≡◌ {A = Option NameRow} None (named (λ (row : NameRow). row.name) rows name)
no_row rows name is = ap (option_and_then (slice_get rows)) is ∙ at_place (λ (row : NameRow). row.name) rows name

-- ---- numbers

found_by : {X : Type 0} (p : X → Bool) (y : X) (ys : List X) (x : X) (b : Bool) → p y ≡ b → (find p ys ≡ Some x → Contains ys x × (p x ≡ true)) → cond b (Some y) (find p ys) ≡ Some x → Contains (y ∷ ys) x × (p x ≡ true)
found_by p y ys x true is rest g = let same : y ≡ x = cc g in (subst (Contains (y ∷ ys)) same (here y ys), subst (λ z. p z ≡ true) same is)
found_by p y ys x false is rest g = let later = rest g in (there y ys x later.0, later.1)

found_in : {X : Type 0} (p : X → Bool) (xs : List X) (x : X) → find p xs ≡ Some x → Contains xs x × (p x ≡ true)
found_in p [] x h = cc h
found_in p (y ∷ ys) x h = found_by p y ys x (p y) refl (found_in p ys x) h

not_stale : (given current : ℕ) → (current == given) ≡ true → stale_number given (Some current) ≡ None
not_stale given current same =
    let turned : (given == current) ≡ true = grind (arith, nat_tests, same) in
    ap (λ b. refused_if (not b) (refused.Stale given current)) turned

pub number_is_open : (inputs : Inputs) (interface : List ℕ) (number : ℕ) → StandOnce inputs → is_request_of interface (request_of inputs number) ≡ true → None
    ≡ stale_number number (number_of_interface (open_interface inputs.interfaces interface))
number_is_open inputs interface number stand is = at (request_of inputs number) refl is
  where
    at : (o : Option OpenInterface) → request_of inputs number ≡ o → is_request_of interface o ≡ true → None ≡ stale_number number (number_of_interface (open_interface inputs.interfaces interface))
    at None found h = cc h
    at (Some o) found h =
        let passes = found_in (has_number number) inputs.interfaces o found in
        let asked : open_interface inputs.interfaces interface ≡ Some o = subst (λ n. open_interface inputs.interfaces n ≡ Some o) (bytes_same o.request.name interface h) (found_named inputs o stand passes.0) in
        sym (ap (λ other. stale_number number (number_of_interface other)) asked ∙ not_stale number o.number passes.1)

-- ---- radios

module _ (inputs : Inputs) (radio : List ℕ) (number : ℕ) (ports : List (Option (List ℕ))) (place : Option ℕ) (is : place ≡ place_of (map (λ (row : RadioRow). row.name) inputs.conf.radios) radio)
    (test : Bool) (told : test ≡ is_none place) where
  test_is : test ≡ is_none (radio_named inputs.conf radio)
  test_is = told ∙ lacks (λ (row : RadioRow). row.name) inputs.conf.radios radio place is

  abbrev by_request : Option OpenRadio → Option Refusal
  by_request asked = or_else (stale_number number (number_of_radio asked)) (wrong_ports (length ports) asked)

  by_test : (b : Bool) → test ≡ b → or_else (refused_if b refused.NoRadio) (by_request (open_radio inputs.radios radio)) ≡ radio_refusal inputs radio number ports
  by_test b at = ap (λ t. or_else (refused_if t refused.NoRadio) (by_request (open_radio inputs.radios radio))) (sym at ∙ test_is)

  pub radio_lacks : test ≡ true → Some refused.NoRadio ≡ radio_refusal inputs radio number ports
  radio_lacks none = by_test true none

  pub radio_known : test ≡ false → (asked : Option OpenRadio) → asked ≡ open_radio inputs.radios radio → by_request asked ≡ radio_refusal inputs radio number ports
  radio_known some asked found = ap by_request found ∙ by_test false some
