-- The requests of touched interfaces follow their needs.
use Rattle.std.proofs.Common.{arith, ◌≡◌, inl, inr, ℕ, ◌+◌, List, [], ◌∷◌, ◌++◌, length, Bool, true, false, cond, Contains, Option, Some, None, refl, ap, sym, subst, ◌∙◌, append-nil}
use Rattle.std.specs.Prelude.{bytes_eq, filter, not, ◌||◌, is_none}
use Rattle.std.specs.List.{filter_map, cons_option}
use Rattle.std.specs.Option.{option_map, option_and_then}
use Rattle.kern_model.proofs.MemberLemmas.{here, there, first_or_later, none_in_nil}
use Rattle.kern_model.proofs.TestLemmas.{bytes_same, from_filter_map}
use Rattle.kern_calls.proofs.FilterLemmas.{from_filter}
use Rattle.net_rows.specs.declared.rows.InterfaceRow.{InterfaceRow}
use Rattle.net_rules.specs.declared.request.InterfaceRequest.{InterfaceRequest}
use Rattle.net_rules.specs.declared.request.RadioRequest.{RadioRequest}
use Rattle.net_rules.specs.declared.inputs.Inputs.{Inputs}
use Rattle.net_rules.specs.declared.inputs.OpenInterface.{OpenInterface}
use Rattle.net_rules.specs.declared.inputs.OpenRadio.{OpenRadio}
use Rattle.net_rules.specs.Facts.{Facts}
use Rattle.net_rules.specs.Rows.{interfaces_of, radios_of, interface_named}
use Rattle.net_rules.specs.Inputs.{facts_of, open_interface, open_radio}
use Rattle.net_rules.specs.Need.{interface_need, radio_need, same_interface_request, same_radio_request}
use Rattle.net_rules.specs.After.{interface_need_of, radio_need_of, is_same_need, radios_dropped, interfaces_dropped, new_interface_requests, new_radio_requests, opened_interfaces, opened_radios, requests_opened, asked}
use Rattle.net_rules.specs.Fresh.{IsReached}
use Rattle.net_rules.proofs.TableLemmas.{first_some, found_behind, found_member}
use Rattle.net_rules.proofs.OnceLemmas.{AreOnce, found_firsts, once_firsts, found_once}
use Rattle.net_rules.proofs.ListLemmas.{within_filter}
use Rattle.net_rules.proofs.SameLemmas.{interface_requests, radio_requests}
use Rattle.net_rules.proofs.NeedLemmas.{same_need, interface_named_as, radio_need_named, radio_needs_found, radio_needs_once}
use Rattle.net_rules.proofs.RequestLemmas.{nothing_dropped, nothing_opened}
use Rattle.net_rules.proofs.ReachedLemmas.{IsKept, reached_kept}
use Rattle.net_rules.specs.Touched.{HasSameRequests, NeedsStay, is_needed, left_requests, touched_rows, touched_requests, asked_of}

-- lists that are filtered by tests that agree on their members
pub filter_alike : {X : Type 0} (p q : X → Bool) (xs : List X) → ((x : X) → Contains xs x → p x ≡ q x) → filter p xs ≡ filter q xs
filter_alike p q [] same = refl
filter_alike p q (x ∷ xs) same =
    ap (λ b. cond b (x ∷ filter p xs) (filter p xs)) (same x (here x xs))
    ∙ ap (λ ys. cond (q x) (x ∷ ys) ys) (filter_alike p q xs (λ y h. same y (there x xs y h)))

-- what a filter gives nothing for may be left out before
filter_cons : {Y : Type 0} (t : Y → Bool) (o : Option Y) (ys zs : List Y) → filter t ys ≡ filter t zs → filter t (cons_option o ys) ≡ filter t (cons_option o zs)
filter_cons t None ys zs same = same
filter_cons t (Some y) ys zs same = ap (λ us. cond (t y) (y ∷ us) us) same

filter_drop : {Y : Type 0} (t : Y → Bool) (o : Option Y) (ys : List Y) → ((y : Y) → o ≡ Some y → t y ≡ false) → filter t (cons_option o ys) ≡ filter t ys
filter_drop t None ys fails = refl
filter_drop t (Some y) ys fails = ap (λ b. cond b (y ∷ filter t ys) (filter t ys)) (fails y refl)

filter_left_out : {X Y : Type 0} (t : Y → Bool) (f : X → Option Y) (p : X → Bool) (xs : List X) → ((x : X) (y : Y) → Contains xs x → p x ≡ false → f x ≡ Some y → t y ≡ false) → filter t (filter_map f xs)
    ≡ filter t (filter_map f (filter p xs))
filter_left_out t f p [] fails = refl
filter_left_out {X} t f p (x ∷ xs) fails = by_test (p x) refl (filter_left_out t f p xs (λ y z h. fails y z (there x xs y h)))
  where
    by_test : (b : Bool) → p x ≡ b → filter t (filter_map f xs) ≡ filter t (filter_map f (filter p xs)) → filter t (filter_map f (x ∷ xs)) ≡ filter t (filter_map f (cond b (x ∷ filter p xs) (filter p xs)))
    by_test true is rest = filter_cons t (f x) (filter_map f xs) (filter_map f (filter p xs)) rest
    by_test false is rest = filter_drop t (f x) (filter_map f xs) (λ y. fails x y (here x xs) is) ∙ rest

-- the requests of interfaces that are not touched are left
module _ (now : Facts) (touched : List ℕ → Bool) where
  of_other : (q : List ℕ) (o : OpenInterface) (b : Bool) (left others : List OpenInterface) → bytes_eq o.request.name q ≡ false → open_interface left q ≡ open_interface others q → open_interface (cond b (o ∷ left) left) q
      ≡ open_interface others q
  of_other q o true left others at rest = ap (λ b. cond b (Some o) (open_interface left q)) at ∙ rest
  of_other q o false left others at rest = rest

  left_step : (q : List ℕ) → touched q ≡ false → (o : OpenInterface) (left others : List OpenInterface) (b : Bool) → bytes_eq o.request.name q ≡ b → open_interface left q ≡ open_interface others q
      → open_interface (cond (not (touched o.request.name) || is_needed now o) (o ∷ left) left) q ≡ cond b (Some o) (open_interface others q)
  left_step q off o left others true at rest =
      ap (λ t. open_interface (cond (not t || is_needed now o) (o ∷ left) left) q) (ap touched (bytes_same o.request.name q at) ∙ off)
      ∙ ap (λ b. cond b (Some o) (open_interface left q)) at
  left_step q off o left others false at rest = of_other q o (not (touched o.request.name) || is_needed now o) left others at rest

  pub left_found : (q : List ℕ) → touched q ≡ false → (requests : List OpenInterface) → open_interface (left_requests now touched requests) q ≡ open_interface requests q
  left_found q off [] = refl
  left_found q off (o ∷ os) = left_step q off o (left_requests now touched os) os (bytes_eq o.request.name q) refl (left_found q off os)

-- what is opened is asked
pub opened_from : (next : ℕ) (requests : List InterfaceRequest) (o : OpenInterface) → Contains (opened_interfaces next requests) o → Contains requests o.request
opened_from next [] o h = absurd (none_in_nil o h)
opened_from next (a ∷ others) o h = elim (first_or_later (record { number = next; request = a; answer = None }) (opened_interfaces (next + 1) others) o h) as (λ _. Contains (a ∷ others) o.request) [
  | inl same ↦ subst (λ (x : OpenInterface). Contains (a ∷ others) x.request) same (here a others)
  | inr later ↦ there a others o.request (opened_from (next + 1) others o later)
]

module _ (inputs : Inputs) (touched : List ℕ → Bool) where
  abbrev left : List OpenInterface
  left = left_requests (facts_of inputs) touched inputs.interfaces

  abbrev requests : List InterfaceRequest
  requests = touched_requests inputs touched left

  -- they are those of touched interfaces
  requests_touched : (request : InterfaceRequest) → Contains requests request → touched request.name ≡ true
  requests_touched request h =
      let rows = touched_rows inputs.conf touched in
      let from = from_filter_map (interface_need (facts_of inputs)) rows request (within_filter (λ a. is_none (open_interface left a.name)) (filter_map (interface_need (facts_of inputs)) rows) request h) in
      ap touched (interface_named_as (facts_of inputs) from.source request from.gives)
      ∙ from_filter (λ (row : InterfaceRow). touched row.name) (interfaces_of inputs.conf) from.source from.member

  none_opened : (q : List ℕ) → touched q ≡ false → (found : Option OpenInterface) → open_interface (opened_interfaces inputs.next requests) q ≡ found → found ≡ None
  none_opened q off None is = refl
  none_opened q off (Some o) is =
      let opened = found_member (λ (x : OpenInterface). x.request.name) (opened_interfaces inputs.next requests) q o is in
      let on : touched q ≡ true = ap touched (sym opened.same) ∙ requests_touched o.request (opened_from inputs.next requests o opened.member) in
      cc (on, off)

  nothing_behind : {X : Type 0} (x y : Option X) → y ≡ None → first_some x y ≡ x
  nothing_behind None y none = none
  nothing_behind (Some z) y none = refl

  pub others_stay : (q : List ℕ) → touched q ≡ false → open_interface (asked_of touched inputs).interfaces q ≡ open_interface inputs.interfaces q
  others_stay q off =
      found_behind (λ (x : OpenInterface). x.request.name) left (opened_interfaces inputs.next requests) q
      ∙ nothing_behind (open_interface left q) (open_interface (opened_interfaces inputs.next requests) q) (none_opened q off (open_interface (opened_interfaces inputs.next requests) q) refl)
      ∙ left_found (facts_of inputs) touched q off inputs.interfaces

-- inputs whose open requests are those of reached ones
module _ (before now : Inputs) (touched : List ℕ → Bool) (reached : IsReached before) (same : HasSameRequests before now) (stay : NeedsStay (facts_of before) (facts_of now) touched) where
  kept : IsKept before
  kept = reached_kept before reached

  interfaces_once : AreOnce (λ (o : OpenInterface). o.request.name) now.interfaces
  interfaces_once = subst (AreOnce (λ (o : OpenInterface). o.request.name)) (sym same.interfaces) kept.single.interfaces

  radios_once : AreOnce (λ (o : OpenRadio). o.request.name) now.radios
  radios_once = subst (AreOnce (λ (o : OpenRadio). o.request.name)) (sym same.radios) kept.single.radios

  radios_are : (q : List ℕ) → option_map (λ (o : OpenRadio). o.request) (open_radio now.radios q) ≡ radio_need_of now.conf q
  radios_are q =
      ap (λ os. option_map (λ (o : OpenRadio). o.request) (open_radio os q)) same.radios
      ∙ kept.are.radios q
      ∙ ap (λ conf. radio_need_of conf q) (sym same.conf)

  interfaces_are : (q : List ℕ) → touched q ≡ false → option_map (λ (o : OpenInterface). o.request) (open_interface now.interfaces q) ≡ interface_need_of (facts_of now) q
  interfaces_are q off =
      ap (λ os. option_map (λ (o : OpenInterface). o.request) (open_interface os q)) same.interfaces
      ∙ kept.are.interfaces q
      ∙ sym (stay q off)

  -- radios keep their requests
  abbrev radio_list : List RadioRequest
  radio_list = filter_map radio_need (radios_of now.conf)

  radios_kept : (radios_dropped now).radios ≡ now.radios
  radios_kept = nothing_dropped (λ o. o.request) (λ a. a.name) same_radio_request radio_requests (radio_need_of now.conf) (radio_need_named now.conf) now.radios radios_once radio_list (radio_needs_once now.conf) (radio_needs_found now.conf)
      radios_are

  same_inputs : radios_dropped now ≡ now
  same_inputs = λ i. record now { radios = radios_kept i }

  no_new_radios : new_radio_requests now ≡ []
  no_new_radios =
      ap new_radio_requests (sym same_inputs)
      ∙ nothing_opened (λ o. o.request) (λ a. a.name) same_radio_request radio_requests (radio_need_of now.conf) (radio_need_named now.conf) now.radios radios_once radio_list (radio_needs_once now.conf) (radio_needs_found now.conf)
      radios_are

  -- interfaces that are not touched do
  tells_needed : (o : OpenInterface) → interface_need_of (facts_of now) o.request.name ≡ Some o.request → is_needed (facts_of now) o ≡ true
  tells_needed o is = ap (λ n. is_same_need same_interface_request n o.request) is ∙ (interface_requests o.request o.request).1 refl

  test_alike : (o : OpenInterface) → Contains now.interfaces o → is_needed (facts_of now) o ≡ (not (touched o.request.name) || is_needed (facts_of now) o)
  test_alike o member = by_touched (touched o.request.name) refl
    where
      by_touched : (b : Bool) → touched o.request.name ≡ b → is_needed (facts_of now) o ≡ (not b || is_needed (facts_of now) o)
      by_touched true is = refl
      by_touched false is = tells_needed o (sym (interfaces_are o.request.name is) ∙ ap (option_map (λ (x : OpenInterface). x.request)) (found_once (λ (x : OpenInterface). x.request.name) now.interfaces interfaces_once o member))

  abbrev left_now : List OpenInterface
  left_now = left_requests (facts_of now) touched now.interfaces

  interfaces_left : (interfaces_dropped now).interfaces ≡ left_now
  interfaces_left = filter_alike (λ (o : OpenInterface). is_needed (facts_of now) o) (λ (o : OpenInterface). not (touched o.request.name) || is_needed (facts_of now) o) now.interfaces test_alike

  -- and none of them is opened
  some_there : (found : Option OpenInterface) (request : InterfaceRequest) → option_map (λ (o : OpenInterface). o.request) found ≡ Some request → is_none found ≡ false
  some_there None request h = cc h
  some_there (Some o) request h = refl

  not_opened : (row : InterfaceRow) (request : InterfaceRequest) → Contains (interfaces_of now.conf) row → touched row.name ≡ false → interface_need (facts_of now) row ≡ Some request → is_none (open_interface left_now request.name) ≡ false
  not_opened row request member off need =
      let first : interface_named now.conf row.name ≡ Some row = sym (found_firsts (λ (r : InterfaceRow). r.name) now.conf.interfaces row.name)
      ∙ found_once (λ (r : InterfaceRow). r.name) (interfaces_of now.conf) (once_firsts (λ (r : InterfaceRow). r.name) now.conf.interfaces) row member in
      let needed : interface_need_of (facts_of now) row.name ≡ Some request = ap (option_and_then (interface_need (facts_of now))) first ∙ need in
      ap (λ q. is_none (open_interface left_now q)) (interface_named_as (facts_of now) row request need)
      ∙ ap is_none (left_found (facts_of now) touched row.name off now.interfaces)
      ∙ some_there (open_interface now.interfaces row.name) request (interfaces_are row.name off ∙ needed)

  need_alike : interface_need (facts_of (interfaces_dropped now)) ≡ interface_need (facts_of now)
  need_alike = λ i row. same_need (facts_of now) (facts_of (interfaces_dropped now)).answer row i

  requests_now : new_interface_requests (interfaces_dropped now) ≡ touched_requests now touched left_now
  requests_now =
      ap (λ need. filter (λ request. is_none (open_interface (interfaces_dropped now).interfaces request.name)) (filter_map need (interfaces_of now.conf))) need_alike
      ∙ ap (λ os. filter (λ request. is_none (open_interface os request.name)) (filter_map (interface_need (facts_of now)) (interfaces_of now.conf))) interfaces_left
      ∙ filter_left_out (λ request. is_none (open_interface left_now request.name)) (interface_need (facts_of now)) (λ row. touched row.name) (interfaces_of now.conf) not_opened

  interfaces_then : (requests_opened (interfaces_dropped now)).interfaces ≡ (asked_of touched now).interfaces
  interfaces_then = λ i. interfaces_left i ++ opened_interfaces now.next (requests_now i)

  radios_then : (requests_opened (interfaces_dropped now)).radios ≡ now.radios
  radios_then =
      ap (λ requests. now.radios ++ opened_radios (now.next + length (new_interface_requests (interfaces_dropped now))) requests) no_new_radios
      ∙ append-nil now.radios

  next_then : (requests_opened (interfaces_dropped now)).next ≡ (asked_of touched now).next
  next_then =
      ap (λ requests. now.next + length requests + length (new_radio_requests now)) requests_now
      ∙ ap (λ (requests : List RadioRequest). now.next + length (touched_requests now touched left_now) + length requests) no_new_radios
      ∙ omega arith

  pub asked_then : asked now ≡ asked_of touched now
  asked_then =
      ap (λ inputs. requests_opened (interfaces_dropped inputs)) same_inputs
      ∙ (λ i. record now { interfaces = interfaces_then i; radios = radios_then i; next = next_then i })
