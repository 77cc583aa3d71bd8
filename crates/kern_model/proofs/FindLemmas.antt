-- Devices in a list, by name.
use Rattle.std.proofs.Common.{ℕ, suc, ◌≡◌, ◌<◌, ◌≤◌, ◌+◌, List, ◌∷◌, Option, Some, None, cond, length, drop, get_or, add-one, drop-cons, ap, sym, ◌∙◌}
use Rattle.std.specs.Prelude.{bytes_eq}
use Rattle.std.specs.Ordering.{nat_cmp, eq_by_cmp}
use Rattle.std.specs.Cmp.Lexicographic.{slice_cmp, nat_list_cmp_total}
use Rattle.std.specs.FinMap.{find}
use Rattle.std.specs.FinMap as map
use Rattle.std.proofs.lemmas.List.{drop_all}
use Rattle.std.proofs.lemmas.Map.Text.{is_eq-slice_cmp}
use Rattle.kern_model.specs.declared.object.Device.{Device}
use Rattle.kern_model.specs.Kernel.{map_of}
use Rattle.kern_model.proofs.TestLemmas.{false_of_not, bytes_same, same_bytes}

abbrev pub first_of : List ℕ → List (List ℕ × Device) → Option Device
first_of name es = find (slice_cmp nat_cmp) name es

pub name_test : (x y : List ℕ) → eq_by_cmp (slice_cmp nat_cmp) x y ≡ bytes_eq x y
name_test x y = is_eq-slice_cmp x y

first_at : (name : List ℕ) (e : List ℕ × Device) (es : List (List ℕ × Device)) → e.0 ≡ name → first_of name (e ∷ es) ≡ Some e.1
first_at name e es same = ap (λ b. cond b (Some e.1) (first_of name es)) (name_test name e.0 ∙ same_bytes name e.0 (sym same))

first_behind : (name : List ℕ) (e : List ℕ × Device) (es : List (List ℕ × Device)) → (e.0 ≡ name → ⊥) → first_of name (e ∷ es) ≡ first_of name es
first_behind name e es other = ap (λ b. cond b (Some e.1) (first_of name es)) (name_test name e.0 ∙ false_of_not (bytes_eq name e.0) (λ h. other (sym (bytes_same name e.0 h))))

at_index : (es : List (List ℕ × Device)) (i : ℕ) (e : List ℕ × Device) → i < length es → e ≡ get_or es i e → drop i es ≡ e ∷ drop (i + 1) es
at_index es i e inside is = rw add-one (drop-cons es i e inside ∙ ap (λ x. x ∷ drop (suc i) es) (sym is))

pub found : (es : List (List ℕ × Device)) (i : ℕ) (e : List ℕ × Device) (name : List ℕ) → i < length es → e ≡ get_or es i e → first_of name (drop i es) ≡ first_of name es → e.0 ≡ name → Some e.1 ≡ map.get (map_of es) name
found es i e name inside is left same =
    sym (map.get-from_entries nat_list_cmp_total es name ∙ sym left ∙ ap (first_of name) (at_index es i e inside is) ∙ first_at name e (drop (i + 1) es) same)

pub passed : (es : List (List ℕ × Device)) (i : ℕ) (e : List ℕ × Device) (name : List ℕ) → i < length es → e ≡ get_or es i e → first_of name (drop i es) ≡ first_of name es → (e.0 ≡ name → ⊥) → first_of name (drop (i + 1) es)
    ≡ first_of name es
passed es i e name inside is left other = sym (ap (first_of name) (at_index es i e inside is) ∙ first_behind name e (drop (i + 1) es) other) ∙ left

pub none_left : (es : List (List ℕ × Device)) (i : ℕ) (name : List ℕ) → length es ≤ i → first_of name (drop i es) ≡ first_of name es → None ≡ map.get (map_of es) name
none_left es i name ends left = sym (map.get-from_entries nat_list_cmp_total es name ∙ sym left ∙ ap (first_of name) (drop_all i es ends))
