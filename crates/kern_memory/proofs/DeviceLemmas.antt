-- What a table of devices is as a map.
use Rattle.std.proofs.Common.{◌≡◌, ℕ, List, [], ◌∷◌, Some, None, cond, bytes_eq, refl, ap, sym, ◌∙◌}
use Rattle.std.specs.Ordering.{nat_cmp, eq_by_cmp}
use Rattle.std.specs.Cmp.{eq_by_cmp_equiv}
use Rattle.std.specs.Cmp.Lexicographic.{slice_cmp, nat_list_cmp_total}
use Rattle.std.specs.FinMap.{IsAntisymmetric, nat_cmp-IsAntisymmetric, slice_cmp-IsAntisymmetric}
use Rattle.std.specs.FinMap as map
use Rattle.std.specs.Map.{lookup}
use Rattle.kern_model.specs.declared.object.Device.{Device}
use Rattle.kern_model.specs.Kernel.{map_of}
use Rattle.kern_model.proofs.FindLemmas.{first_of, name_test}

names_apart : IsAntisymmetric (slice_cmp nat_cmp)
names_apart = slice_cmp-IsAntisymmetric nat_cmp-IsAntisymmetric

first_looked : (q : List ℕ) → (es : List (List ℕ × Device)) → first_of q es ≡ lookup (bytes_eq q) es
first_looked q [] = refl
first_looked q (e ∷ es) =
    ap (λ b. cond b (Some e.1) (first_of q es)) (name_test q e.0)
    ∙ ap (cond (bytes_eq q e.0) (Some e.1)) (first_looked q es)

-- the map gives what a search of the table finds
pub looked : (es : List (List ℕ × Device)) (q : List ℕ) → map.get (map_of es) q ≡ lookup (bytes_eq q) es
looked es q = map.get-from_entries nat_list_cmp_total es q ∙ first_looked q es

turned : (a b : List ℕ) → bytes_eq a b ≡ eq_by_cmp (slice_cmp nat_cmp) b a
turned a b = sym (name_test a b) ∙ (eq_by_cmp_equiv nat_list_cmp_total).symm a b

-- a device under a name
pub with_device : (es fs : List (List ℕ × Device)) (name : List ℕ) (device : Device) → ((q : List ℕ) → lookup (bytes_eq q) fs ≡ cond (bytes_eq name q) (Some device) (lookup (bytes_eq q) es)) → map_of fs ≡ map.insert (map_of es) name device
with_device es fs name device more = map.same_map nat_list_cmp_total names_apart (map_of fs) (map.insert (map_of es) name device) (λ q.
    looked fs q ∙ more q
    ∙ ap (λ b. cond b (Some device) (lookup (bytes_eq q) es)) (turned name q)
    ∙ ap (cond (eq_by_cmp (slice_cmp nat_cmp) q name) (Some device)) (sym (looked es q))
    ∙ sym (map.get-insert nat_list_cmp_total (map_of es) name device q))

-- none under a name
pub without_device : (es fs : List (List ℕ × Device)) (name : List ℕ) → ((q : List ℕ) → lookup (bytes_eq q) fs ≡ cond (bytes_eq name q) None (lookup (bytes_eq q) es)) → map_of fs ≡ map.remove (map_of es) name
without_device es fs name less = map.same_map nat_list_cmp_total names_apart (map_of fs) (map.remove (map_of es) name) (λ q.
    looked fs q ∙ less q
    ∙ ap (λ b. cond b None (lookup (bytes_eq q) es)) (turned name q)
    ∙ ap (cond (eq_by_cmp (slice_cmp nat_cmp) q name) None) (sym (looked es q))
    ∙ sym (map.get-remove nat_list_cmp_total (map_of es) name q))
