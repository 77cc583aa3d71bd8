-- the present devices by name, and the first calls
use Rattle.std.proofs.Common.{ℕ, ◌≡◌, ◌≢◌, inl, inr, Bool, true, false, cond, List, [], ◌∷◌, Contains, Option, Some, None, refl, sym, ap, subst, ◌∙◌}
use Rattle.std.specs.Prelude.{bytes_eq, not, replicate}
use Rattle.std.specs.List.{find, filter_map}
use Rattle.std.specs.Option.{option_map, option_map_or, option_and_then}
use Rattle.std.specs.Ordering.{nat_cmp, eq_by_cmp}
use Rattle.std.specs.Cmp.Lexicographic.{slice_cmp, nat_list_cmp_total}
use Rattle.std.specs.FinMap as map
use Rattle.plane_words.specs.Distinct.{AreDistinct}
use Rattle.kern_model.specs.declared.object.Device.{Device}
use Rattle.kern_model.specs.declared.object.Mac.{Mac}
use Rattle.kern_model.specs.declared.object.Object.{Object}
use Rattle.kern_model.specs.declared.object.Call.TheVariants.{Put, Take}
use Rattle.kern_model.specs.Kernel.{name_of}
use Rattle.kern_model.specs.ObjectOrder.{Has}
use Rattle.kern_model.specs.Touched.{is_taken}
use Rattle.kern_model.proofs.FindLemmas.{first_of, name_test}
use Rattle.kern_model.proofs.MemberLemmas.{here, there, first_or_later, none_in_nil, member_of_all}
use Rattle.kern_model.proofs.TestLemmas.{bytes_same, same_bytes, true_of_both_ways, false_of_not}
use Rattle.kern_model.proofs.LeadLemmas.{taken_call, call_of_taken}
use Rattle.kern_model.proofs.TouchLemmas.{taken_held, put_wanted}
use Rattle.kern_calls.specs.Calls.{own_take}
use Rattle.kern_calls.proofs.CallsLemmas.{are_the_calls}
use Rattle.graph_rules.specs.State.{Named, Known, State, named_in, device_among, device_in, devices_in, name_list, names_in}
use Rattle.graph_rules.specs.Wanted.{want_in}
use Rattle.graph_rules.specs.Calls.{is_take, calls_in}
use Rattle.graph_rules.specs.Conditions.{IsNext}

-- a name with its device, where that is there
abbrev told : Named → Option (List ℕ × Device)
told n = option_map (λ d. (n.name, d)) n.device

-- a name with that device
abbrev as_told : Named → Option Device → Named
as_told n device = record { name = n.name; device = device; claims = n.claims }

either_way : (a b : List ℕ) → bytes_eq a b ≡ bytes_eq b a
either_way a b = true_of_both_ways (bytes_eq a b) (bytes_eq b a) (λ h. same_bytes b a (sym (bytes_same a b h))) (λ h. same_bytes a b (sym (bytes_same b a h)))

none_first : (q : List ℕ) (ns : List Named) → (Contains (name_list ns) q → ⊥) → first_of q (filter_map told ns) ≡ None
none_first q [] h = refl
none_first q (n ∷ ns) h = by n.device (none_first q ns (λ later. h (there n.name (name_list ns) q later)))
  where
    by : (d : Option Device) → first_of q (filter_map told ns) ≡ None → first_of q (filter_map told (as_told n d ∷ ns)) ≡ None
    by None rest = rest
    by (Some e) rest =
        let other : eq_by_cmp (slice_cmp nat_cmp) q n.name ≡ false = name_test q n.name ∙ false_of_not (bytes_eq q n.name) (λ same. h (subst (Contains (n.name ∷ name_list ns)) (sym (bytes_same q n.name same)) (here n.name (name_list ns))))
        in
        ap (λ b. cond b (Some e) (first_of q (filter_map told ns))) other ∙ rest

first_named : (q : List ℕ) (ns : List Named) → AreDistinct (name_list ns) → first_of q (filter_map told ns) ≡ device_among ns q
first_named q [] once = refl
first_named q (n ∷ ns) once = by n.device (bytes_eq n.name q) refl (first_named q ns once.1)
  where
    by : (d : Option Device) (b : Bool) → bytes_eq n.name q ≡ b → first_of q (filter_map told ns) ≡ device_among ns q → first_of q (filter_map told (as_told n d ∷ ns)) ≡ device_among (as_told n d ∷ ns) q
    by None true is rest =
        none_first q ns (λ later. member_of_all (λ y. y ≢ n.name) (name_list ns) q once.0 later (sym (bytes_same n.name q is)))
        ∙ sym (ap (λ t. option_and_then (λ (x : Named). x.device) (cond t (Some (as_told n None)) (named_in ns q))) is)
    by None false is rest =
        rest ∙ sym (ap (λ t. option_and_then (λ (x : Named). x.device) (cond t (Some (as_told n None)) (named_in ns q))) is)
    by (Some e) true is rest =
        ap (λ t. cond t (Some e) (first_of q (filter_map told ns))) (name_test q n.name ∙ either_way q n.name ∙ is)
        ∙ sym (ap (λ t. option_and_then (λ (x : Named). x.device) (cond t (Some (as_told n (Some e))) (named_in ns q))) is)
    by (Some e) false is rest =
        ap (λ t. cond t (Some e) (first_of q (filter_map told ns))) (name_test q n.name ∙ either_way q n.name ∙ is)
        ∙ rest
        ∙ sym (ap (λ t. option_and_then (λ (x : Named). x.device) (cond t (Some (as_told n (Some e))) (named_in ns q))) is)

-- the map of devices has for each name the device that is told of it
pub device_at : (s : Known) (q : List ℕ) → AreDistinct (names_in s) → map.get (devices_in s) q ≡ device_in s q
device_at s q once = map.get-from_entries nat_list_cmp_total (filter_map told s.names) q ∙ first_named q s.names once

-- the take of an object carries what is told of its name
pub taken_as_told : (s : Known) (o : Object) (d : Option Device) → AreDistinct (names_in s) → d ≡ device_in s (name_of o)
    → Take o (option_map_or (λ (x : Device). x.mtu) d 1500) (option_map_or (λ (x : Device). x.mac) d (record { 0 = replicate 6 0 })) ≡ own_take (devices_in s) o
taken_as_told s o d once is =
    let same : d ≡ map.get (devices_in s) (name_of o) = is ∙ sym (device_at s (name_of o) once) in
    ap (λ (x : Option Device). Take o (option_map_or (λ (y : Device). y.mtu) x 1500) (option_map_or (λ (y : Device). y.mac) x (record { 0 = replicate 6 0 }))) same

-- what is found in a list is in it and passes
found_by : {X : Type 0} (p : X → Bool) (y : X) (ys : List X) (x : X) (b : Bool) → p y ≡ b → (find p ys ≡ Some x → Contains ys x × (p x ≡ true)) → cond b (Some y) (find p ys) ≡ Some x → Contains (y ∷ ys) x × (p x ≡ true)
found_by p y ys x true is rest g = let same : y ≡ x = cc g in (subst (Contains (y ∷ ys)) same (here y ys), subst (λ z. p z ≡ true) same is)
found_by p y ys x false is rest g = let later = rest g in (there y ys x later.0, later.1)

pub found_in : {X : Type 0} (p : X → Bool) (xs : List X) (x : X) → find p xs ≡ Some x → Contains xs x × (p x ≡ true)
found_in p [] x h = cc h
found_in p (y ∷ ys) x h = found_by p y ys x (p y) refl (found_in p ys x) h

-- where nothing is found nothing passes
none_by : {X : Type 0} (p : X → Bool) (y : X) (ys : List X) (x : X) (b : Bool) → p y ≡ b → (find p ys ≡ None → Contains ys x → p x ≡ true → ⊥) → cond b (Some y) (find p ys) ≡ None → Contains (y ∷ ys) x → p x ≡ true → ⊥
none_by p y ys x true is rest g m passes = cc g
none_by p y ys x false is rest g m passes = elim (first_or_later y ys x m) as (λ _. ⊥) [
  | inl same ↦ let off : p x ≡ false = subst (λ z. p z ≡ false) same is in cc (passes, off)
  | inr later ↦ rest g later passes
]

pub found_none : {X : Type 0} (p : X → Bool) (xs : List X) → find p xs ≡ None → (x : X) → Contains xs x → p x ≡ true → ⊥
found_none p [] h x m passes = none_in_nil x m
found_none p (y ∷ ys) h x m passes = none_by p y ys x (p y) refl (λ g later q. found_none p ys g x later q) h m passes

-- the next take is held
pub next_take_held : (s : State) (o : Object) (mtu : ℕ) (mac : Mac) → IsNext s (Take o mtu mac) → Has s.held o
next_take_held s o mtu mac (IsNext.takes is) =
    let in_list = found_in is_take (calls_in s) (Take o mtu mac) is in
    let due = (are_the_calls (devices_in s.known) s.held (want_in s.known)).sound (Take o mtu mac) in_list.0 in
    taken_held s.held (want_in s.known) o (taken_call (devices_in s.known) s.held (want_in s.known) o mtu mac due)
next_take_held s o mtu mac (IsNext.puts none is) =
    let in_list = found_in (λ call. not (is_take call)) (calls_in s) (Take o mtu mac) is in cc (in_list.1)

-- the next put is wanted, and nothing is to be taken
pub next_put_wanted : (s : State) (o : Object) → IsNext s (Put o) → Has (want_in s.known) o
next_put_wanted s o (IsNext.takes is) = let in_list = found_in is_take (calls_in s) (Put o) is in cc (in_list.1)
next_put_wanted s o (IsNext.puts none is) =
    let in_list = found_in (λ call. not (is_take call)) (calls_in s) (Put o) is in
    put_wanted s.held (want_in s.known) o ((are_the_calls (devices_in s.known) s.held (want_in s.known)).sound (Put o) in_list.0)

pub next_put_last : (s : State) (o : Object) → IsNext s (Put o) → (x : Object) → is_taken s.held (want_in s.known) x ≡ true → ⊥
next_put_last s o (IsNext.takes is) x taken = let in_list = found_in is_take (calls_in s) (Put o) is in cc (in_list.1)
next_put_last s o (IsNext.puts none is) x taken =
    let devices = devices_in s.known in
    let call = own_take devices x in
    found_none is_take (calls_in s) none call ((are_the_calls devices s.held (want_in s.known)).complete call (call_of_taken devices s.held (want_in s.known) x taken)) refl
