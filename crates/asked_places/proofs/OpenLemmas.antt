-- Requests that are opened, place by place.
use Rattle.std.proofs.Common.{arith, inl, inr, ℕ, suc, ◌≡◌, ◌≤◌, ◌<◌, ◌+◌, List, [], ◌∷◌, ◌++◌, length, map, take, Bool, true, false, cond, Contains, Option, Some, None, refl, ap, sym, subst, ◌∙◌, append-nil, append_assoc}
use Rattle.std.specs.Prelude.{filter, filter_map, fold, not, ◌&&◌, bytes_eq, is_none, option_to_list, slice_get}
use Rattle.std.specs.List.{flat_map, list_any, cons_option}
use Rattle.std.specs.Option.{option_map_or, option_and_then}
use Rattle.kern_model.proofs.MemberLemmas.{here, there, first_or_later, none_in_nil}
use Rattle.kern_model.proofs.TestLemmas.{bytes_same, false_of_not}
use Rattle.net_rows.specs.declared.rows.Conf.{Conf}
use Rattle.net_rows.specs.declared.rows.InterfaceRow.{InterfaceRow}
use Rattle.net_rules.specs.declared.request.InterfaceRequest.{InterfaceRequest}
use Rattle.net_rules.specs.declared.inputs.Inputs.{Inputs}
use Rattle.net_rules.specs.declared.inputs.OpenInterface.{OpenInterface}
use Rattle.net_rules.specs.Firsts.{firsts}
use Rattle.net_rules.specs.Numbers.{AreRising}
use Rattle.net_rules.specs.Inputs.{facts_of, open_interface}
use Rattle.net_rules.specs.Need.{interface_need}
use Rattle.net_rules.specs.After.{opened_interfaces}
use Rattle.net_rules.specs.Notices.{interface_notice}
use Rattle.net_rules.proofs.TableLemmas.{first_some, found_behind}
use Rattle.net_rules.proofs.NeedLemmas.{same_need, interface_named_as}
use Rattle.net_rules.specs.Touched.{touched_requests}
use Rattle.net_rules.specs.States.{is_first}
use Rattle.net_rules.proofs.PairLemmas.{give_firsts}
use Rattle.net_rules.proofs.MoveLemmas.{some_is}
use Rattle.known_inputs.specs.Steps.{place_of, with_request}
use Rattle.asked_places.specs.Touched.{has, names_of_rows, is_touched}
use Rattle.asked_places.specs.Opening.{opened_row, opened_at, with_opened, opened_after, opened_notices, told_of_all}
use Rattle.asked_places.proofs.PlaceLemmas.{place_of_first}
use Rattle.asked_places.proofs.RangeLemmas.{range, length_range, range_at, rising_range, over_range, only_where}

-- ---- one request after the other

-- inputs with some asks opened
abbrev pub with_all : Inputs → List InterfaceRequest → Inputs
with_all inputs requests = record inputs {
  interfaces = inputs.interfaces ++ opened_interfaces inputs.next requests;
  next = inputs.next + length requests;
}

none_opened : (inputs : Inputs) → inputs ≡ with_all inputs []
none_opened inputs =
    let same : inputs.next ≡ inputs.next + 0 = omega arith in
    ap (λ (os : List OpenInterface). let now : Inputs = record inputs { interfaces = os } in now) (sym (append-nil inputs.interfaces))
    ∙ ap (λ n. let now : Inputs = record inputs { interfaces = inputs.interfaces ++ []; next = n } in now) same

one_more : (inputs : Inputs) (o : Option InterfaceRequest) (requests : List InterfaceRequest) → with_all (with_opened inputs o) requests ≡ with_all inputs (cons_option o requests)
one_more inputs None requests = refl
one_more inputs (Some request) requests =
    let x : OpenInterface = record { number = inputs.next; request = request; answer = None } in
    let count : (inputs.next + 1) + length requests ≡ inputs.next + suc (length requests) = omega arith in
    ap (λ (os : List OpenInterface). let now : Inputs = record inputs { interfaces = os; next = (inputs.next + 1) + length requests } in now) (append_assoc inputs.interfaces (x ∷ []) (opened_interfaces (inputs.next + 1) requests))
    ∙ ap (λ n. let now : Inputs = record inputs { interfaces = inputs.interfaces ++ x ∷ opened_interfaces (inputs.next + 1) requests; next = n } in now) count

-- the name of what is opened at a place
opened_named : (inputs : Inputs) (place : ℕ) (request : InterfaceRequest) → opened_at inputs place ≡ Some request → (row : InterfaceRow) × (slice_get inputs.conf.interfaces place ≡ Some row)
    × (is_first inputs.conf.interfaces place row.name ≡ true)
    × (request.name ≡ row.name)
opened_named inputs place request h = by (slice_get inputs.conf.interfaces place) refl h
  where
    test : (row : InterfaceRow) → slice_get inputs.conf.interfaces place ≡ Some row → (first none : Bool) → is_first inputs.conf.interfaces place row.name ≡ first
        → cond {A = Option InterfaceRequest} (first && none) (interface_need (facts_of inputs) row) None ≡ Some request → (row : InterfaceRow) × (slice_get inputs.conf.interfaces place ≡ Some row)
        × (is_first inputs.conf.interfaces place row.name ≡ true) × (request.name ≡ row.name)
    test row at true true is h = (row, at, is, interface_named_as (facts_of inputs) row request h)
    test row at true false is h = cc h
    test row at false none is h = cc h

    by : (found : Option InterfaceRow) → slice_get inputs.conf.interfaces place ≡ found → option_and_then (opened_row inputs place) found ≡ Some request → (row : InterfaceRow) × (slice_get inputs.conf.interfaces place ≡ Some row)
        × (is_first inputs.conf.interfaces place row.name ≡ true) × (request.name ≡ row.name)
    by None at h = cc h
    by (Some row) at h = test row at (is_first inputs.conf.interfaces place row.name) (is_none (open_interface inputs.interfaces row.name)) refl h

-- a request of another name is found as before
found_still : (requests : List OpenInterface) (x : OpenInterface) (name : List ℕ) → bytes_eq x.request.name name ≡ false → open_interface (requests ++ x ∷ []) name ≡ open_interface requests name
found_still requests x name other =
    found_behind (λ (o : OpenInterface). o.request.name) requests (x ∷ []) name
    ∙ ap (λ b. first_some (open_interface requests name) (cond b (Some x) None)) other
    ∙ alone (open_interface requests name)
  where
    alone : (o : Option OpenInterface) → first_some o None ≡ o
    alone None = refl
    alone (Some y) = refl

-- what is opened at another place
opened_still : (inputs : Inputs) (p q : ℕ) → p < q → opened_at (opened_after inputs p) q ≡ opened_at inputs q
opened_still inputs p q less = with_one (opened_at inputs p) refl
  where
    with_one : (o : Option InterfaceRequest) → opened_at inputs p ≡ o → opened_at (with_opened inputs o) q ≡ opened_at inputs q
    with_one None is = refl
    with_one (Some request) is = by (slice_get inputs.conf.interfaces q) refl
      where
        x : OpenInterface
        x = record { number = inputs.next; request = request; answer = None }

        other : (row : InterfaceRow) → slice_get inputs.conf.interfaces q ≡ Some row → is_first inputs.conf.interfaces q row.name ≡ true → bytes_eq request.name row.name ≡ false
        other row at first = false_of_not (bytes_eq request.name row.name) (λ h.
            let named = opened_named inputs p request is in
            let same : named.0.name ≡ row.name = sym named.3 ∙ bytes_same request.name row.name h in
            let place : p ≡ q = some_is p q (sym (place_of_first inputs.conf.interfaces p named.0 named.1 named.2) ∙ ap (place_of (names_of_rows inputs.conf.interfaces)) same ∙ place_of_first inputs.conf.interfaces q row at first) in
            absurd (omega (arith, less, place)))

        test : (row : InterfaceRow) → slice_get inputs.conf.interfaces q ≡ Some row → (first : Bool) → is_first inputs.conf.interfaces q row.name ≡ first
            → cond {A = Option InterfaceRequest} (first && is_none (open_interface (inputs.interfaces ++ x ∷ []) row.name)) (interface_need (facts_of (with_request inputs request)) row) None
            ≡ cond {A = Option InterfaceRequest} (first && is_none (open_interface inputs.interfaces row.name)) (interface_need (facts_of inputs) row) None
        test row at true first =
            ap (λ (o : Option OpenInterface). cond {A = Option InterfaceRequest} (is_none o) (interface_need (facts_of (with_request inputs request)) row) None) (found_still inputs.interfaces x row.name (other row at first))
            ∙ ap (λ (need : Option InterfaceRequest). cond {A = Option InterfaceRequest} (is_none (open_interface inputs.interfaces row.name)) need None) (same_need (facts_of inputs) (facts_of (with_request inputs request)).answer row)
        test row at false first = refl

        by : (found : Option InterfaceRow) → slice_get inputs.conf.interfaces q ≡ found → option_and_then (opened_row (with_request inputs request) q) found ≡ option_and_then (opened_row inputs q) found
        by None at = refl
        by (Some row) at = test row at (is_first inputs.conf.interfaces q row.name) refl

-- lists that two functions give alike
given_alike : {X Y : Type 0} (f g : X → Option Y) (xs : List X) → ((x : X) → Contains xs x → f x ≡ g x) → filter_map f xs ≡ filter_map g xs
given_alike f g [] same = refl
given_alike f g (x ∷ xs) same =
    ap (λ o. cons_option o (filter_map f xs)) (same x (here x xs))
    ∙ ap (cons_option (g x)) (given_alike f g xs (λ y member. same y (there x xs y member)))

rises : (least bound : ℕ) (places : List ℕ) (q : ℕ) → AreRising least bound places → Contains places q → least ≤ q
rises least bound [] q rising member = absurd (none_in_nil q member)
rises least bound (p ∷ ps) q rising member = elim (first_or_later p ps q member) as (λ _. least ≤ q) [
  | inl same ↦ subst (λ k. least ≤ k) same rising.0
  | inr later ↦ let from = rising.0 in let above = rises (p + 1) bound ps q rising.2 later in omega (arith, from, above)
]

later_same : (inputs : Inputs) (p bound : ℕ) (ps : List ℕ) → AreRising (p + 1) bound ps → filter_map (opened_at (opened_after inputs p)) ps ≡ filter_map (opened_at inputs) ps
later_same inputs p bound ps rising = given_alike (opened_at (opened_after inputs p)) (opened_at inputs) ps (λ q member.
    let above = rises (p + 1) bound ps q rising member in
    opened_still inputs p q (omega (arith, above)))

pub opened_all : (inputs : Inputs) (least bound : ℕ) (places : List ℕ) → AreRising least bound places → fold opened_after inputs places ≡ with_all inputs (filter_map (opened_at inputs) places)
opened_all inputs least bound [] rising = none_opened inputs
opened_all inputs least bound (p ∷ ps) rising =
    opened_all (opened_after inputs p) (p + 1) bound ps rising.2
    ∙ ap (with_all (opened_after inputs p)) (later_same inputs p bound ps rising.2)
    ∙ one_more inputs (opened_at inputs p) (filter_map (opened_at inputs) ps)

-- what is told of them
told_more : (conf : Conf) (inputs : Inputs) (o : Option InterfaceRequest) (requests : List InterfaceRequest) → map (interface_notice conf) (opened_interfaces inputs.next (option_to_list o))
    ++ map (interface_notice conf) (opened_interfaces (with_opened inputs o).next requests) ≡ map (interface_notice conf) (opened_interfaces inputs.next (cons_option o requests))
told_more conf inputs None requests = refl
told_more conf inputs (Some request) requests = refl

conf_same : (inputs : Inputs) (o : Option InterfaceRequest) → (with_opened inputs o).conf ≡ inputs.conf
conf_same inputs None = refl
conf_same inputs (Some request) = refl

pub told_all : (inputs : Inputs) (least bound : ℕ) (places : List ℕ) → AreRising least bound places → told_of_all inputs places ≡ map (interface_notice inputs.conf) (opened_interfaces inputs.next (filter_map (opened_at inputs) places))
told_all inputs least bound [] rising = refl
told_all inputs least bound (p ∷ ps) rising =
    ap (λ ns. opened_notices inputs p ++ ns)
    (told_all (opened_after inputs p) (p + 1) bound ps rising.2
    ∙ ap (λ (conf : Conf). map (interface_notice conf) (opened_interfaces (opened_after inputs p).next (filter_map (opened_at (opened_after inputs p)) ps))) (conf_same inputs (opened_at inputs p))
    ∙ ap (λ requests. map (interface_notice inputs.conf) (opened_interfaces (opened_after inputs p).next requests)) (later_same inputs p bound ps rising.2))
    ∙ told_more inputs.conf inputs (opened_at inputs p) (filter_map (opened_at inputs) ps)

-- ---- they are the requests of touched interfaces

as_list : {X Y : Type 0} (f : X → Option Y) (xs : List X) → filter_map f xs ≡ flat_map (λ x. option_to_list (f x)) xs
as_list f [] = refl
as_list {X} {Y} f (x ∷ xs) = by (f x) (as_list f xs)
  where
    by : (o : Option Y) → filter_map f xs ≡ flat_map (λ y. option_to_list (f y)) xs → cons_option o (filter_map f xs) ≡ option_to_list o ++ flat_map (λ y. option_to_list (f y)) xs
    by None rest = rest
    by (Some y) rest = ap (λ ys. y ∷ ys) rest

module _ (inputs : Inputs) where
  abbrev free_request : InterfaceRequest → Bool
  free_request request = is_none (open_interface inputs.interfaces request.name)

  -- the need of a row that has no open request
  abbrev need_of : InterfaceRow → List InterfaceRequest
  need_of row = cond {A = List InterfaceRequest} (is_none (open_interface inputs.interfaces row.name)) (option_to_list (interface_need (facts_of inputs) row)) []

  filtered_need : (row : InterfaceRow) (o : Option InterfaceRequest) (rest : List InterfaceRequest) → interface_need (facts_of inputs) row ≡ o → filter free_request (cons_option o rest)
      ≡ cond {A = List InterfaceRequest} (is_none (open_interface inputs.interfaces row.name)) (option_to_list o) [] ++ filter free_request rest
  filtered_need row None rest is = none (is_none (open_interface inputs.interfaces row.name))
    where
      none : (b : Bool) → filter free_request rest ≡ cond {A = List InterfaceRequest} b [] [] ++ filter free_request rest
      none true = refl
      none false = refl
  filtered_need row (Some request) rest is =
      ap (λ name. cond (is_none (open_interface inputs.interfaces name)) (request ∷ filter free_request rest) (filter free_request rest)) (interface_named_as (facts_of inputs) row request is)
      ∙ some (is_none (open_interface inputs.interfaces row.name))
    where
      some : (b : Bool) → cond b (request ∷ filter free_request rest) (filter free_request rest) ≡ cond {A = List InterfaceRequest} b (request ∷ []) [] ++ filter free_request rest
      some true = refl
      some false = refl

  pub needs_given : (some : List InterfaceRow) → filter free_request (filter_map (interface_need (facts_of inputs)) some) ≡ flat_map need_of some
  needs_given [] = refl
  needs_given (row ∷ others) =
      filtered_need row (interface_need (facts_of inputs) row) (filter_map (interface_need (facts_of inputs)) others) refl
      ∙ ap (λ requests. need_of row ++ requests) (needs_given others)

  abbrev at_place : ℕ → List InterfaceRequest
  at_place place = option_to_list (opened_at inputs place)

  opened_where : (row : InterfaceRow) (place : ℕ) → slice_get inputs.conf.interfaces place ≡ Some row → at_place place ≡ cond {A = List InterfaceRequest} (is_first inputs.conf.interfaces place row.name) (need_of row) []
  opened_where row place at =
      ap (λ (o : Option InterfaceRow). option_to_list (option_and_then (opened_row inputs place) o)) at
      ∙ by (is_first inputs.conf.interfaces place row.name) (is_none (open_interface inputs.interfaces row.name))
    where
      by : (first none : Bool) → option_to_list (cond {A = Option InterfaceRequest} (first && none) (interface_need (facts_of inputs) row) None)
          ≡ cond {A = List InterfaceRequest} first (cond {A = List InterfaceRequest} none (option_to_list (interface_need (facts_of inputs) row)) []) []
      by true true = refl
      by true false = refl
      by false none = refl

  module _ (places : List ℕ) (rising : AreRising 0 (length inputs.conf.interfaces) places) where
    -- what is opened beside a row, where its place is touched
    abbrev beside : InterfaceRow × ℕ → List InterfaceRequest
    beside e = cond {A = List InterfaceRequest} (has places e.1) (at_place e.1) []

    swapped : (touched first : Bool) (row : InterfaceRow) → cond {A = List InterfaceRequest} touched (cond {A = List InterfaceRequest} first (need_of row) []) [] ≡ cond {A = List InterfaceRequest} (touched && first) (need_of row) []
    swapped true first row = refl
    swapped false first row = refl

    named_first : (i : ℕ) (row : InterfaceRow) → slice_get inputs.conf.interfaces i ≡ Some row → (first : Bool) → is_first inputs.conf.interfaces i row.name ≡ first → (has places i && first)
        ≡ (is_touched inputs.conf.interfaces places row.name && first)
    named_first i row at true is = ap (λ b. b && true) (sym (ap (λ (o : Option ℕ). option_map_or (has places) o false) (place_of_first inputs.conf.interfaces i row at is)))
    named_first i row at false is = never (has places i) (is_touched inputs.conf.interfaces places row.name)
      where
        never : (a b : Bool) → (a && false) ≡ (b && false)
        never true true = refl
        never true false = refl
        never false true = refl
        never false false = refl

    give_as : (i : ℕ) (row : InterfaceRow) (k : ℕ) → slice_get inputs.conf.interfaces i ≡ Some row → slice_get (range 0 (length inputs.conf.interfaces)) i ≡ Some k → beside (row, k)
        ≡ cond {A = List InterfaceRequest} (is_touched inputs.conf.interfaces places row.name && not (list_any (λ (y : InterfaceRow). bytes_eq y.name row.name) (take i inputs.conf.interfaces))) (need_of row) []
    give_as i row k at here_is =
        let same : k ≡ i = range_at 0 (length inputs.conf.interfaces) i k here_is ∙ omega arith in
        ap (λ n. beside (row, n)) same
        ∙ ap (λ requests. cond {A = List InterfaceRequest} (has places i) requests []) (opened_where row i at)
        ∙ swapped (has places i) (is_first inputs.conf.interfaces i row.name) row
        ∙ ap (λ b. cond {A = List InterfaceRequest} b (need_of row) []) (named_first i row at (is_first inputs.conf.interfaces i row.name) refl)

    pub opened_are : filter_map (opened_at inputs) places ≡ touched_requests inputs (is_touched inputs.conf.interfaces places) inputs.interfaces
    opened_are =
        let n = length inputs.conf.interfaces in
        let key : InterfaceRow → List ℕ = λ row. row.name in
        as_list (opened_at inputs) places
        ∙ ap (flat_map at_place) (sym (rising_range 0 n places (subst (λ b. AreRising 0 b places) (omega arith) rising)))
        ∙ sym (only_where (has places) at_place (range 0 n))
        ∙ sym (over_range (λ place. cond {A = List InterfaceRequest} (has places place) (at_place place) []) inputs.conf.interfaces 0)
        ∙ give_firsts key need_of beside (is_touched inputs.conf.interfaces places) inputs.conf.interfaces (range 0 n) (length_range 0 n) give_as
        ∙ sym (needs_given (filter (λ row. is_touched inputs.conf.interfaces places row.name) (firsts key inputs.conf.interfaces)))
