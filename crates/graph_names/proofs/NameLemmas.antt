-- names as the entries of a map
use Rattle.std.proofs.Common.{arith, ℕ, zero, suc, ◌<◌, ◌≡◌, Bool, true, false, cond, List, [], ◌∷◌, map, length, Option, Some, None, bytes_eq, slice_get, refl, sym, ap, ◌∙◌}
use Rattle.std.specs.Map.{keys_of}
use Rattle.std.specs.Option.{option_map, option_map_or, option_and_then}
use Rattle.indexmap.specs.IndexMap.{insert_entry, set_value_at}
use Rattle.kern_model.specs.declared.object.Device.{Device}
use Rattle.kern_model.proofs.TestLemmas.{bytes_same, same_bytes, true_of_both_ways}
use Rattle.std.proofs.lemmas.List.{length-map}
use Rattle.std.proofs.lemmas.List.Quantifiers.{position-Some}
use Rattle.uci_tree.proofs.FoldLemmas.{position-cons}
use Rattle.graph_rules.specs.State.{Named, named_in, name_list, place_among, device_among, claims_among}
use Rattle.graph_rules.specs.After.{name_at, with_device, with_claims}
use Rattle.graph_names.specs.declared.names.Told.{Told}
use Rattle.graph_names.specs.Table.{named, with_told}

abbrev pub listed : List (List ℕ × Told) → List Named
listed entries = map (λ e. named e.0 e.1) entries

pub keys_listed : (es : List (List ℕ × Told)) → keys_of es ≡ name_list (listed es)
keys_listed [] = refl
keys_listed (e ∷ es) = ap (λ ks. e.0 ∷ ks) (keys_listed es)

some_is : {X : Type 0} (x y : X) → Some x ≡ Some y → x ≡ y
some_is x y h = cc h

-- what is read at a place
pub device_read : (es : List (List ℕ × Told)) (i : ℕ) (t : Told) → slice_get (map (λ e. e.1) es) i ≡ Some t → t.device ≡ (name_at (listed es) i).device
device_read [] i t h = cc h
device_read (e ∷ es) zero t h = ap (λ (z : Told). z.device) (sym (some_is e.1 t h))
device_read (e ∷ es) (suc i) t h = device_read es i t h

pub claims_read : (es : List (List ℕ × Told)) (i : ℕ) (t : Told) → slice_get (map (λ e. e.1) es) i ≡ Some t → t.claims ≡ (name_at (listed es) i).claims
claims_read [] i t h = cc h
claims_read (e ∷ es) zero t h = ap (λ (z : Told). z.claims) (sym (some_is e.1 t h))
claims_read (e ∷ es) (suc i) t h = claims_read es i t h

-- what is written at a place
pub device_written : (es : List (List ℕ × Told)) (i : ℕ) (t : Told) (d : Option Device) → slice_get (map (λ e. e.1) es) i ≡ Some t → listed (set_value_at es i (record { device = d; claims = t.claims })) ≡ with_device (listed es) i d
device_written [] i t d h = cc h
device_written (e ∷ es) zero t d h = ap (λ (z : Told). let n : Named = record { name = e.0; device = d; claims = z.claims } in n ∷ listed es) (sym (some_is e.1 t h))
device_written (e ∷ es) (suc i) t d h = ap (λ ns. named e.0 e.1 ∷ ns) (device_written es i t d h)

pub claims_written : (es : List (List ℕ × Told)) (i : ℕ) (t : Told) (n : ℕ) → slice_get (map (λ e. e.1) es) i ≡ Some t → listed (set_value_at es i (record { device = t.device; claims = n })) ≡ with_claims (listed es) i n
claims_written [] i t n h = cc h
claims_written (e ∷ es) zero t n h = ap (λ (z : Told). let m : Named = record { name = e.0; device = z.device; claims = n } in m ∷ listed es) (sym (some_is e.1 t h))
claims_written (e ∷ es) (suc i) t n h = ap (λ ns. named e.0 e.1 ∷ ns) (claims_written es i t n h)

-- a name without a place
none_step : (b : Bool) (rest : Option ℕ) → cond {A = Option ℕ} b (Some 0) (option_map (λ k. suc k) rest) ≡ None → (b ≡ false) × (rest ≡ None)
none_step true rest h = cc h
none_step false None h = (refl, refl)
none_step false (Some k) h = cc h

pub lacks : (name : List ℕ) (n : Named) (ns : List Named) → place_among (n ∷ ns) name ≡ None → (bytes_eq name n.name ≡ false) × (place_among ns name ≡ None)
lacks name n ns h = none_step (bytes_eq name n.name) (place_among ns name) (sym (position-cons (bytes_eq name) n.name (name_list ns)) ∙ h)

-- such a name goes to the end
pub name_added : (es : List (List ℕ × Told)) (name : List ℕ) (told : Told) → place_among (listed es) name ≡ None → listed (insert_entry bytes_eq es name told) ≡ with_told (listed es) name told
name_added [] name told h = refl
name_added (e ∷ es) name told h =
    let r = lacks name (named e.0 e.1) (listed es) h in
    ap (λ b. listed (cond b ((e.0, told) ∷ es) (e ∷ insert_entry bytes_eq es name told))) r.0
    ∙ ap (λ ns. named e.0 e.1 ∷ ns) (name_added es name told r.1)

symmetric : (a b : List ℕ) → bytes_eq a b ≡ bytes_eq b a
symmetric a b = true_of_both_ways (bytes_eq a b) (bytes_eq b a) (λ h. same_bytes b a (sym (bytes_same a b h))) (λ h. same_bytes a b (sym (bytes_same b a h)))

-- what is told of a name is told at its place
find_step : (b : Bool) (n : Named) (ns : List Named) (place : Option ℕ) (found : Option Named) → option_and_then (slice_get ns) place ≡ found
    → option_and_then (slice_get (n ∷ ns)) (cond {A = Option ℕ} b (Some 0) (option_map (λ k. suc k) place)) ≡ cond b (Some n) found
find_step true n ns place found h = refl
find_step false n ns None found h = h
find_step false n ns (Some k) found h = h

pub named_at_place : (ns : List Named) (name : List ℕ) → option_and_then (slice_get ns) (place_among ns name) ≡ named_in ns name
named_at_place [] name = refl
named_at_place (n ∷ ns) name =
    ap (option_and_then (slice_get (n ∷ ns))) (position-cons (bytes_eq name) n.name (name_list ns))
    ∙ find_step (bytes_eq name n.name) n ns (place_among ns name) (named_in ns name) (named_at_place ns name)
    ∙ ap (λ b. cond b (Some n) (named_in ns name)) (symmetric name n.name)

-- of a place within the list
got : (ns : List Named) (k : ℕ) → k < length ns → slice_get ns k ≡ Some (name_at ns k)
got [] k h = absurd (omega (arith, h))
got (n ∷ ns) zero h = refl
got (n ∷ ns) (suc k) h = got ns k (omega (arith, h))

pub found_there : (ns : List Named) (name : List ℕ) (k : ℕ) → place_among ns name ≡ Some k → k < length ns → named_in ns name ≡ Some (name_at ns k)
found_there ns name k at h = sym (named_at_place ns name) ∙ ap (option_and_then (slice_get ns)) at ∙ got ns k h

pub found_nowhere : (ns : List Named) (name : List ℕ) → place_among ns name ≡ None → named_in ns name ≡ None
found_nowhere ns name at = sym (named_at_place ns name) ∙ ap (option_and_then (slice_get ns)) at

place_inside : (ns : List Named) (name : List ℕ) (k : ℕ) → place_among ns name ≡ Some k → k < length ns
place_inside ns name k h = let at = position-Some (bytes_eq name) (name_list ns) k [] h in omega (arith, at.0, length-map ns (λ (n : Named). n.name))

pub device_told : (ns : List Named) (name : List ℕ) (k : ℕ) → place_among ns name ≡ Some k → (name_at ns k).device ≡ device_among ns name
device_told ns name k at = sym (ap (option_and_then (λ (n : Named). n.device)) (found_there ns name k at (place_inside ns name k at)))

pub claims_told : (ns : List Named) (name : List ℕ) (k : ℕ) → place_among ns name ≡ Some k → (name_at ns k).claims ≡ claims_among ns name
claims_told ns name k at = sym (ap (λ o. option_map_or (λ (n : Named). n.claims) o 0) (found_there ns name k at (place_inside ns name k at)))

pub no_device_told : (ns : List Named) (name : List ℕ) → place_among ns name ≡ None → None ≡ device_among ns name
no_device_told ns name at = sym (ap (option_and_then (λ (n : Named). n.device)) (found_nowhere ns name at))

pub no_claims_told : (ns : List Named) (name : List ℕ) → place_among ns name ≡ None → 0 ≡ claims_among ns name
no_claims_told ns name at = sym (ap (λ o. option_map_or (λ (n : Named). n.claims) o 0) (found_nowhere ns name at))
