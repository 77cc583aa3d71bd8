-- Lists in which no item stands twice, and the sets of the texts that were seen.
use Rattle.std.proofs.Common.{ℕ, zero, suc, ◌≡◌, ◌≢◌, ◌<◌, List, [], ◌∷◌, ◌++◌, length, true, false, Bool, sym, ap, ◌∙◌, subst, refl, arith, take, drop, map, slice_index_or}
use Rattle.std.specs.Prelude.{Contains, not}
use Rattle.std.specs.List.{AllByRecursion}
use Rattle.std.proofs.Math.Logic.{⊎_elim}
use Rattle.std.specs.Ordering.{nat_cmp, is_eq}
use Rattle.std.specs.BTreeSet.{BTreeSet, contains, Updates}
use Rattle.std.specs.Cmp.Lexicographic.{slice_cmp, bytes_decides, texts_ties}
use Rattle.std.proofs.lemmas.List.Elements.{Contains-push, Contains-push_cases, Contains-append_left, Contains-append_right, Contains-append_cases}
use Rattle.plane_words.specs.Distinct.{AreDistinct}

no_item : {X : Type 0} (x : X) → Contains [] x → ⊥
no_item x (k, low, is) = absurd (omega arith)

pub first_item : {X : Type 0} (x : X) (xs : List X) → Contains (x ∷ xs) x
first_item x xs = Contains-append_left (x ∷ []) xs x (Contains-push [] x)

pub all_push : {X : Type 0} (P : X → Type 0) (xs : List X) (x : X) → AllByRecursion P xs → P x → AllByRecursion P (xs ++ x ∷ [])
all_push P [] x all h = (h, tt)
all_push P (y ∷ xs) x all h = (all.0, all_push P xs x all.1 h)

pub all_at : {X : Type 0} (P : X → Type 0) (xs : List X) (x : X) (ys : List X) → AllByRecursion P (xs ++ x ∷ ys) → P x
all_at P [] x ys all = all.0
all_at P (y ∷ xs) x ys all = all_at P xs x ys all.1

-- a new item at the end
pub distinct_push : {X : Type 0} (xs : List X) (x : X) → AreDistinct xs → (Contains xs x → ⊥) → AreDistinct (xs ++ x ∷ [])
distinct_push [] x d new = (tt, tt)
distinct_push {X} (y ∷ xs) x d new =
    let rest : Contains xs x → ⊥ = λ h. new (Contains-append_right (y ∷ []) xs x h) in
    let other : x ≢ y = λ e. new (subst (λ (z : X). Contains (y ∷ xs) z) (sym e) (first_item y xs)) in
    (all_push (λ (z : X). z ≢ y) xs x d.0 other, distinct_push xs x d.1 rest)

-- an item that stands behind does not stand in front
pub distinct_behind : {X : Type 0} (xs : List X) (x : X) (ys : List X) → AreDistinct (xs ++ x ∷ ys) → Contains xs x → ⊥
distinct_behind [] x ys d h = no_item x h
distinct_behind {X} (y ∷ xs) x ys d h =
    let other : x ≢ y = all_at (λ (z : X). z ≢ y) xs x ys d.0 in
    ⊎_elim (λ one. ⊎_elim (no_item x) (λ (e : y ≡ x). other (sym e)) (Contains-push_cases [] y x one)) (distinct_behind xs x ys d.1) (Contains-append_cases (y ∷ []) xs x h)

-- the set of the texts that were seen has these texts
pub record AreSeen (seen : BTreeSet (List ℕ)) (names : List (List ℕ)) : Type 0 where
  pub within : (q : List ℕ) → contains (slice_cmp nat_cmp) seen q ≡ true → Contains names q
  pub all : (q : List ℕ) → Contains names q → contains (slice_cmp nat_cmp) seen q ≡ true

pub seen_none : (seen : BTreeSet (List ℕ)) → ((q : List ℕ) → contains (slice_cmp nat_cmp) seen q ≡ false) → AreSeen seen []
seen_none seen empty = record {
  within = λ q h. absurd (cc (empty q));
  all = λ q h. absurd (no_item q h);
}

tied : (name q : List ℕ) → is_eq (slice_cmp nat_cmp name q) ≡ true → name ≡ q
tied name q h = (bytes_decides name q).0 (texts_ties name q ∙ h)

-- a text more is seen
pub seen_more : (seen more : BTreeSet (List ℕ)) (names : List (List ℕ)) (name : List ℕ) → AreSeen seen names → Updates (slice_cmp nat_cmp) seen more name true → AreSeen more (names ++ name ∷ [])
seen_more seen more names name s u = record {
  within = λ q h. here q (is_eq (slice_cmp nat_cmp name q)) refl h;
  all = λ q h. ⊎_elim (λ before. kept q before) (λ e. subst (λ (z : List ℕ). contains (slice_cmp nat_cmp) more z ≡ true) e u.1) (Contains-push_cases names name q h);
}
  where
    here : (q : List ℕ) (b : Bool) → is_eq (slice_cmp nat_cmp name q) ≡ b → contains (slice_cmp nat_cmp) more q ≡ true → Contains (names ++ name ∷ []) q
    here q true e h = subst (λ (z : List ℕ). Contains (names ++ name ∷ []) z) (tied name q e) (Contains-push names name)
    here q false e h = Contains-append_left names (name ∷ []) q (s.within q (sym (u.2 q e) ∙ h))

    others : (q : List ℕ) (b : Bool) → is_eq (slice_cmp nat_cmp name q) ≡ b → Contains names q → contains (slice_cmp nat_cmp) more q ≡ true
    others q true e h = subst (λ (z : List ℕ). contains (slice_cmp nat_cmp) more z ≡ true) (tied name q e) u.1
    others q false e h = u.2 q e ∙ s.all q h

    kept : (q : List ℕ) → Contains names q → contains (slice_cmp nat_cmp) more q ≡ true
    kept q h = others q (is_eq (slice_cmp nat_cmp name q)) refl h

-- what an insertion answers
pub not_seen : (seen : BTreeSet (List ℕ)) (names : List (List ℕ)) (name : List ℕ) (added : Bool) → AreSeen seen names → added ≡ not (contains (slice_cmp nat_cmp) seen name) → added ≡ true → Contains names name → ⊥
not_seen seen names name added s e new h =
    let there : contains (slice_cmp nat_cmp) seen name ≡ true = s.all name h in
    let old : added ≡ false = e ∙ ap not there in
    cc

pub was_seen : (seen : BTreeSet (List ℕ)) (names : List (List ℕ)) (name : List ℕ) (added : Bool) → AreSeen seen names → added ≡ not (contains (slice_cmp nat_cmp) seen name) → added ≡ false → Contains names name
was_seen seen names name added s e old = s.within name (found (contains (slice_cmp nat_cmp) seen name) (sym e ∙ old))
  where
    found : (b : Bool) → not b ≡ false → b ≡ true
    found true h = refl
    found false h = cc

-- a list at one of its items
pub map_split : {X Y : Type 0} (f : X → Y) (xs : List X) (i : ℕ) (x : X) → i < length xs → x ≡ slice_index_or xs i x → map f xs ≡ map f (take i xs) ++ f x ∷ map f (drop (suc i) xs)
map_split f [] i x low is = absurd (omega arith)
map_split {X} {Y} f (y ∷ xs) zero x low is = ap (λ (z : X). f z ∷ map f xs) (sym is)
map_split {X} {Y} f (y ∷ xs) (suc i) x low is = ap (λ (zs : List Y). f y ∷ zs) (map_split f xs i x (omega arith) is)
