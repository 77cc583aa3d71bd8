-- Lists that have each key once.
use Rattle.std.proofs.Common.{◌≡◌, inl, inr, ℕ, List, [], ◌∷◌, ◌++◌, map, Bool, true, false, cond, Contains, Option, Some, None, refl, ap, sym, subst, ◌∙◌}
use Rattle.std.specs.Prelude.{not, bytes_eq, filter, ⊤}
use Rattle.std.specs.List.{filter_map, cons_option}
use Rattle.std.specs.Option.{option_map, option_and_then}
use Rattle.kern_model.proofs.MemberLemmas.{here, there, first_or_later, none_in_nil}
use Rattle.kern_model.proofs.TestLemmas.{bytes_same, same_bytes}
use Rattle.net_rules.specs.Firsts.{firsts}
use Rattle.net_rules.proofs.TableLemmas.{found_in, first_some, found_behind, found_without}

-- each key stands once
abbrev pub AreOnce : {X : Type 0} → (X → List ℕ) → List X → Type 0
AreOnce key [] = ⊤
AreOnce key (x ∷ xs) = (found_in key xs (key x) ≡ None) × AreOnce key xs

-- what is kept of a value
abbrev pub kept_if : {X : Type 0} → (X → Bool) → Option X → Option X
kept_if p None = None
kept_if p (Some x) = cond (p x) (Some x) None

filter_step : {X : Type 0} (key : X → List ℕ) (p : X → Bool) (x : X) (xs ys : List X) (q : List ℕ) (b d : Bool) → p x ≡ b → bytes_eq (key x) q ≡ d → found_in key xs (key x) ≡ None → found_in key ys q ≡ kept_if p (found_in key xs q)
    → found_in key (cond b (x ∷ ys) ys) q ≡ kept_if p (cond d (Some x) (found_in key xs q))
filter_step key p x xs ys q true true passes at once rest = ap (λ d. cond d (Some x) (found_in key ys q)) at ∙ ap (λ b. cond b (Some x) None) (sym passes)
filter_step key p x xs ys q true false passes at once rest = ap (λ d. cond d (Some x) (found_in key ys q)) at ∙ rest
filter_step key p x xs ys q false true passes at once rest =
    let same : key x ≡ q = bytes_same (key x) q at in
    let none : found_in key xs q ≡ None = subst (λ k. found_in key xs k ≡ None) same once in
    rest ∙ ap (kept_if p) none ∙ ap (λ b. cond b (Some x) None) (sym passes)
filter_step key p x xs ys q false false passes at once rest = rest

pub found_filter : {X : Type 0} (key : X → List ℕ) (p : X → Bool) → (xs : List X) → AreOnce key xs → (q : List ℕ) → found_in key (filter p xs) q ≡ kept_if p (found_in key xs q)
found_filter key p [] once q = refl
found_filter key p (x ∷ xs) once q = filter_step key p x xs (filter p xs) q (p x) (bytes_eq (key x) q) refl refl once.0 (found_filter key p xs once.1 q)

kept_none : {X : Type 0} (p : X → Bool) (o : Option X) → o ≡ None → kept_if p o ≡ None
kept_none p o h = ap (kept_if p) h

once_step : {X : Type 0} (key : X → List ℕ) (x : X) (xs : List X) (b : Bool) → found_in key xs (key x) ≡ None → AreOnce key xs → AreOnce key (cond b (x ∷ xs) xs)
once_step key x xs true none once = (none, once)
once_step key x xs false none once = once

pub once_filter : {X : Type 0} (key : X → List ℕ) (p : X → Bool) → (xs : List X) → AreOnce key xs → AreOnce key (filter p xs)
once_filter key p [] once = tt
once_filter key p (x ∷ xs) once = once_step key x (filter p xs) (p x) (found_filter key p xs once.1 (key x) ∙ kept_none p (found_in key xs (key x)) once.0) (once_filter key p xs once.1)

pub once_map : {X : Type 0} (key : X → List ℕ) (f : X → X) → ((x : X) → key (f x) ≡ key x) → ((xs : List X) (q : List ℕ) → found_in key (map f xs) q ≡ option_map f (found_in key xs q)) → (xs : List X) → AreOnce key xs
    → AreOnce key (map f xs)
once_map key f keeps finds [] once = tt
once_map key f keeps finds (x ∷ xs) once = (ap (found_in key (map f xs)) (keeps x) ∙ finds xs (key x) ∙ ap (option_map f) once.0, once_map key f keeps finds xs once.1)

-- two lists, where no key of the second is in the first
first_none : {X : Type 0} (o p : Option X) → o ≡ None → p ≡ None → first_some o p ≡ None
first_none None p h g = g
first_none (Some x) p h g = cc h

pub once_behind : {X : Type 0} (key : X → List ℕ) (xs ys : List X) → AreOnce key xs → AreOnce key ys → ((q : List ℕ) (x : X) → found_in key xs q ≡ Some x → found_in key ys q ≡ None) → AreOnce key (xs ++ ys)
once_behind key [] ys once more apart = more
once_behind {X} key (x ∷ xs) ys once more apart = (
  found_behind key xs ys (key x) ∙ first_none (found_in key xs (key x)) (found_in key ys (key x)) once.0 (apart (key x) x (ap (λ b. cond b (Some x) (found_in key xs (key x))) (same_bytes (key x) (key x) refl))),
  once_behind key xs ys once.1 more (λ q y h. later q y h (bytes_eq (key x) q) refl),
)
  where
    later : (q : List ℕ) (y : X) → found_in key xs q ≡ Some y → (b : Bool) → bytes_eq (key x) q ≡ b → found_in key ys q ≡ None
    later q y h true at = apart q x (ap (λ b. cond b (Some x) (found_in key xs q)) at)
    later q y h false at = apart q y (ap (λ b. cond b (Some x) (found_in key xs q)) at ∙ h)

-- the first of each key
firsts_step : {X : Type 0} (key : X → List ℕ) (x : X) (o p : Option X) (q : List ℕ) (b : Bool) → bytes_eq (key x) q ≡ b → o ≡ cond (bytes_eq (key x) q) None p → cond b (Some x) o ≡ cond b (Some x) p
firsts_step key x o p q true at h = refl
firsts_step key x o p q false at h = h ∙ ap (λ b. cond b None p) at

pub found_firsts : {X : Type 0} (key : X → List ℕ) → (xs : List X) (q : List ℕ) → found_in key (firsts key xs) q ≡ found_in key xs q
found_firsts key [] q = refl
found_firsts key (x ∷ xs) q = firsts_step key x (found_in key (filter (λ y. not (bytes_eq (key y) (key x))) (firsts key xs)) q) (found_in key xs q) q (bytes_eq (key x) q) refl
    (found_without key (key x) (firsts key xs) q ∙ ap (cond (bytes_eq (key x) q) None) (found_firsts key xs q))

pub once_firsts : {X : Type 0} (key : X → List ℕ) → (xs : List X) → AreOnce key (firsts key xs)
once_firsts key [] = tt
once_firsts key (x ∷ xs) = (
  found_without key (key x) (firsts key xs) (key x) ∙ ap (λ b. cond b None (found_in key (firsts key xs) (key x))) (same_bytes (key x) (key x) refl),
  once_filter key (λ y. not (bytes_eq (key y) (key x))) (firsts key xs) (once_firsts key xs),
)

-- what a function that keeps the key gives
module _ {X Y : Type 0} (key : X → List ℕ) (name : Y → List ℕ) (f : X → Option Y) (keeps : (x : X) (y : Y) → f x ≡ Some y → name y ≡ key x) where
  mapped_step : (x : X) (o : Option Y) (ys : List Y) (q : List ℕ) (d : Bool) (p : Option X) → f x ≡ o → bytes_eq (key x) q ≡ d → (d ≡ true → found_in name ys q ≡ None) → found_in name ys q ≡ option_and_then f p
      → found_in name (cons_option o ys) q ≡ option_and_then f (cond d (Some x) p)
  mapped_step x None ys q true p gives at none rest = none refl ∙ sym gives
  mapped_step x None ys q false p gives at none rest = rest
  mapped_step x (Some y) ys q true p gives at none rest = ap (λ d. cond d (Some y) (found_in name ys q)) (ap (λ k. bytes_eq k q) (keeps x y gives) ∙ at) ∙ sym gives
  mapped_step x (Some y) ys q false p gives at none rest = ap (λ d. cond d (Some y) (found_in name ys q)) (ap (λ k. bytes_eq k q) (keeps x y gives) ∙ at) ∙ rest

  pub found_given : (xs : List X) → AreOnce key xs → (q : List ℕ) → found_in name (filter_map f xs) q ≡ option_and_then f (found_in key xs q)
  found_given [] once q = refl
  found_given (x ∷ xs) once q =
      let rest = found_given xs once.1 q in
      mapped_step x (f x) (filter_map f xs) q (bytes_eq (key x) q) (found_in key xs q) refl refl
      (λ at. rest ∙ ap (option_and_then f) (subst (λ k. found_in key xs k ≡ None) (bytes_same (key x) q at) once.0)) rest

  pub once_given : (xs : List X) → AreOnce key xs → AreOnce name (filter_map f xs)
  once_given [] once = tt
  once_given (x ∷ xs) once = once_more (f x) refl (once_given xs once.1)
    where
      once_more : (o : Option Y) → f x ≡ o → AreOnce name (filter_map f xs) → AreOnce name (cons_option o (filter_map f xs))
      once_more None gives rest = rest
      once_more (Some y) gives rest = (found_given xs once.1 (name y) ∙ ap (option_and_then f) (subst (λ k. found_in key xs k ≡ None) (sym (keeps x y gives)) once.0), rest)

-- a member of a list that has each key once is found
pub found_once : {X : Type 0} (key : X → List ℕ) → (xs : List X) → AreOnce key xs → (x : X) → Contains xs x → found_in key xs (key x) ≡ Some x
found_once key [] once x h = absurd (none_in_nil x h)
found_once {X} key (y ∷ ys) once x h = elim (first_or_later y ys x h) as (λ _. found_in key (y ∷ ys) (key x) ≡ Some x) [
  | inl same ↦ subst (λ z. cond (bytes_eq (key y) (key z)) (Some y) (found_in key ys (key z)) ≡ Some z) same (ap (λ b. cond b (Some y) (found_in key ys (key y))) (same_bytes (key y) (key y) refl))
  | inr later ↦ not_first x (found_once key ys once.1 x later) (bytes_eq (key y) (key x)) refl
]
  where
    not_first : (x : X) → found_in key ys (key x) ≡ Some x → (b : Bool) → bytes_eq (key y) (key x) ≡ b → cond b (Some y) (found_in key ys (key x)) ≡ Some x
    not_first x found true at = cc (found, subst (λ k. found_in key ys k ≡ None) (bytes_same (key y) (key x) at) once.0)
    not_first x found false at = found

-- lists that a filter leaves, and of which it leaves nothing
pub all_kept : {X : Type 0} (p : X → Bool) → (xs : List X) → ((x : X) → Contains xs x → p x ≡ true) → filter p xs ≡ xs
all_kept p [] passes = refl
all_kept p (x ∷ xs) passes = ap (λ b. cond b (x ∷ filter p xs) (filter p xs)) (passes x (here x xs)) ∙ ap (λ ys. x ∷ ys) (all_kept p xs (λ y h. passes y (there x xs y h)))

pub none_kept : {X : Type 0} (p : X → Bool) → (xs : List X) → ((x : X) → Contains xs x → p x ≡ false) → filter p xs ≡ []
none_kept p [] fails = refl
none_kept p (x ∷ xs) fails = ap (λ b. cond b (x ∷ filter p xs) (filter p xs)) (fails x (here x xs)) ∙ none_kept p xs (λ y h. fails y (there x xs y h))
