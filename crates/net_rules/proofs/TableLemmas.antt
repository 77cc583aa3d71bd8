-- Lists that are looked up by a key.
use Rattle.std.proofs.Common.{◌≡◌, ℕ, List, [], ◌∷◌, ◌++◌, map, Bool, true, false, cond, Contains, Option, Some, None, refl, ap, sym, subst, ◌∙◌}
use Rattle.std.specs.Prelude.{not, bytes_eq, filter}
use Rattle.std.specs.List.{find}
use Rattle.std.specs.Option.{option_map}
use Rattle.kern_model.proofs.MemberLemmas.{here, there}
use Rattle.kern_model.proofs.TestLemmas.{true_of_both_ways, bytes_same, same_bytes}

pub either_way : (a b : List ℕ) → bytes_eq a b ≡ bytes_eq b a
either_way a b = true_of_both_ways (bytes_eq a b) (bytes_eq b a) (λ h. same_bytes b a (sym (bytes_same a b h))) (λ h. same_bytes a b (sym (bytes_same b a h)))

abbrev pub found_in : {X : Type 0} → (X → List ℕ) → List X → List ℕ → Option X
found_in key xs name = find (λ x. bytes_eq (key x) name) xs

-- the first of two values that is there
abbrev pub first_some : {X : Type 0} → Option X → Option X → Option X
first_some None other = other
first_some (Some x) other = Some x

first_step : {X : Type 0} (b : Bool) (x : X) (o other : Option X) → cond b (Some x) (first_some o other) ≡ first_some (cond b (Some x) o) other
first_step true x o other = refl
first_step false x o other = refl

pub found_behind : {X : Type 0} (key : X → List ℕ) (xs ys : List X) (name : List ℕ) → found_in key (xs ++ ys) name ≡ first_some (found_in key xs name) (found_in key ys name)
found_behind key [] ys name = refl
found_behind key (x ∷ xs) ys name = ap (cond (bytes_eq (key x) name) (Some x)) (found_behind key xs ys name) ∙ first_step (bytes_eq (key x) name) x (found_in key xs name) (found_in key ys name)

-- without those of a key
without_step : {X : Type 0} (key : X → List ℕ) (gone q : List ℕ) (x : X) (xs : List X) (b : Bool) → bytes_eq (key x) gone ≡ b → found_in key (filter (λ y. not (bytes_eq (key y) gone)) xs) q ≡ cond (bytes_eq gone q) None (found_in key xs q)
    → found_in key (cond (not b) (x ∷ filter (λ y. not (bytes_eq (key y) gone)) xs) (filter (λ y. not (bytes_eq (key y) gone)) xs)) q ≡ cond (bytes_eq gone q) None (cond (bytes_eq (key x) q) (Some x) (found_in key xs q))
without_step key gone q x xs true is rest =
    let same : key x ≡ gone = bytes_same (key x) gone is in
    rest ∙ drops (bytes_eq gone q) x (found_in key xs q) ∙ ap (λ k. cond (bytes_eq gone q) None (cond (bytes_eq k q) (Some x) (found_in key xs q))) (sym same)
  where
    drops : {X : Type 0} (b : Bool) (x : X) (o : Option X) → cond b None o ≡ cond b None (cond b (Some x) o)
    drops true x o = refl
    drops false x o = refl
without_step {X} key gone q x xs false is rest = ap (cond (bytes_eq (key x) q) (Some x)) rest ∙ swap_tests (bytes_eq gone q) refl (bytes_eq (key x) q) refl x (found_in key xs q)
  where
    swap_tests : (b : Bool) → bytes_eq gone q ≡ b → (d : Bool) → bytes_eq (key x) q ≡ d → (x : X) (o : Option X) → cond d (Some x) (cond b None o) ≡ cond b None (cond d (Some x) o)
    swap_tests true p true r y o = cc (is, same_bytes (key x) gone (bytes_same (key x) q r ∙ sym (bytes_same gone q p)))
    swap_tests true p false r y o = refl
    swap_tests false p true r y o = refl
    swap_tests false p false r y o = refl

pub no_value : (X : Type 0) (b : Bool) → ◌≡◌ {A = Option X} None (cond b None None)
no_value X true = refl
no_value X false = refl

pub found_without : {X : Type 0} (key : X → List ℕ) (gone : List ℕ) → (xs : List X) (q : List ℕ) → found_in key (filter (λ x. not (bytes_eq (key x) gone)) xs) q ≡ cond (bytes_eq gone q) None (found_in key xs q)
found_without {X} key gone [] q = no_value X (bytes_eq gone q)
found_without key gone (x ∷ xs) q = without_step key gone q x xs (bytes_eq (key x) gone) refl (found_without key gone xs q)

-- mapped by what keeps the key
mapped_step : {X : Type 0} (f : X → X) (b : Bool) (x : X) (o : Option X) → cond b (Some (f x)) (option_map f o) ≡ option_map f (cond b (Some x) o)
mapped_step f true x o = refl
mapped_step f false x o = refl

pub found_mapped : {X : Type 0} (key : X → List ℕ) (f : X → X) → ((x : X) → key (f x) ≡ key x) → (xs : List X) (q : List ℕ) → found_in key (map f xs) q ≡ option_map f (found_in key xs q)
found_mapped key f keeps [] q = refl
found_mapped key f keeps (x ∷ xs) q =
    ap (λ k. cond (bytes_eq k q) (Some (f x)) (found_in key (map f xs) q)) (keeps x)
    ∙ ap (cond (bytes_eq (key x) q) (Some (f x))) (found_mapped key f keeps xs q)
    ∙ mapped_step f (bytes_eq (key x) q) x (found_in key xs q)

-- what is found is a member of that key
pub record IsFound {X : Type 0} (key : X → List ℕ) (xs : List X) (name : List ℕ) (x : X) : Type 0 where
  pub member : Contains xs x
  pub same : key x ≡ name

found_step : {X : Type 0} (key : X → List ℕ) (y : X) (ys : List X) (name : List ℕ) (x : X) (b : Bool) → bytes_eq (key y) name ≡ b → cond b (Some y) (found_in key ys name) ≡ Some x → (found_in key ys name ≡ Some x → IsFound key ys name x)
    → IsFound key (y ∷ ys) name x
found_step key y ys name x true is h rest = let same : y ≡ x = cc h in subst (IsFound key (y ∷ ys) name) same (record { member = here y ys; same = bytes_same (key y) name is })
found_step key y ys name x false is h rest = let later = rest h in record { member = there y ys x later.member; same = later.same }

pub found_member : {X : Type 0} (key : X → List ℕ) → (xs : List X) (name : List ℕ) (x : X) → found_in key xs name ≡ Some x → IsFound key xs name x
found_member key [] name x h = cc h
found_member key (y ∷ ys) name x h = found_step key y ys name x (bytes_eq (key y) name) refl h (found_member key ys name x)
