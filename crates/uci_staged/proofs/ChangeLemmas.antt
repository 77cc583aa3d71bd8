-- Changes that are looked for, and that are dropped.
use Rattle.std.proofs.Common.{ℕ, ◌≡◌, ◌≢◌, Bool, true, false, not, cond, nat_eq, List, [], ◌∷◌, ◌++◌, map, Option, Some, None, refl, sym, ap, subst, ◌∙◌, arith}
use Rattle.std.specs.Prelude.{◌&&◌}
use Rattle.std.specs.List.{AllByRecursion, filter}
use Rattle.std.proofs.lemmas.Bool.Decides.{nat_tests}
use Rattle.std.proofs.lemmas.List.Elements.{filter-append}
use Rattle.std.proofs.lemmas.List.{append-nil}
use Rattle.std.proofs.lemmas.List.Concat.{flat_map-append}
use Rattle.plane_disk.specs.Names.{name_at}
use Rattle.uci_tree.specs.declared.path.Path.{Path}
use Rattle.uci_delta.specs.declared.delta.Delta.{Delta}
use Rattle.uci_delta.specs.Print.{spelled}
use Rattle.uci_delta.specs.Printed.{IsLine, lines_of}
use Rattle.uci_delta.specs.Shape.{HasShape}
use Rattle.uci_delta.proofs.NameLemmas.{first_true, second_true}
use Rattle.uci_staged.specs.declared.change.StagedChange.{StagedChange}
use Rattle.uci_staged.specs.Under.{is_dropped}
use Rattle.uci_staged.specs.Change.{is_of, deltas_in, stays, reverted, without, forgotten, kept_text}
use Rattle.uci_staged.specs.Kept.{IsStagedIn, AreStagedIn}

-- ---- a filter behind another one

within_step : {X : Type 0} (p q : X → Bool) (x : X) (xs : List X) → filter p (filter q xs) ≡ filter p xs → (a b : Bool) → p x ≡ a → (a ≡ true → b ≡ true) → filter p (cond {A = List X} b (x ∷ filter q xs) (filter q xs))
    ≡ cond {A = List X} a (x ∷ filter p xs) (filter p xs)
within_step {X} p q x xs more true true e h = ap (λ (t : Bool). cond {A = List X} t (x ∷ filter p (filter q xs)) (filter p (filter q xs))) e ∙ ap (λ (l : List X). x ∷ l) more
within_step {X} p q x xs more false true e h = ap (λ (t : Bool). cond {A = List X} t (x ∷ filter p (filter q xs)) (filter p (filter q xs))) e ∙ more
within_step p q x xs more true false e h = absurd (let f : false ≡ true = h refl in cc)
within_step p q x xs more false false e h = more

pub filter_within : {X : Type 0} (p q : X → Bool) (xs : List X) → ((x : X) → p x ≡ true → q x ≡ true) → filter p (filter q xs) ≡ filter p xs
filter_within p q [] h = refl
filter_within p q (x ∷ xs) h = within_step p q x xs (filter_within p q xs h) (p x) (q x) refl (h x)

apart_step : {X : Type 0} (p q : X → Bool) (x : X) (xs : List X) → filter p (filter q xs) ≡ [] → (a b : Bool) → p x ≡ a → (a ≡ true → b ≡ false) → filter p (cond {A = List X} b (x ∷ filter q xs) (filter q xs)) ≡ []
apart_step {X} p q x xs more true true e h = absurd (let f : true ≡ false = h refl in cc)
apart_step {X} p q x xs more false true e h = ap (λ (t : Bool). cond {A = List X} t (x ∷ filter p (filter q xs)) (filter p (filter q xs))) e ∙ more
apart_step p q x xs more a false e h = more

pub filter_apart : {X : Type 0} (p q : X → Bool) (xs : List X) → ((x : X) → p x ≡ true → q x ≡ false) → filter p (filter q xs) ≡ []
filter_apart p q [] h = refl
filter_apart p q (x ∷ xs) h = apart_step p q x xs (filter_apart p q xs h) (p x) (q x) refl (h x)

each_step : {X : Type 0} (P : X → Type 0) (x : X) (xs : List X) (b : Bool) → P x → AllByRecursion P xs → AllByRecursion P (cond {A = List X} b (x ∷ xs) xs)
each_step P x xs true p h = (p, h)
each_step P x xs false p h = h

pub each_filter : {X : Type 0} (P : X → Type 0) (q : X → Bool) (xs : List X) → AllByRecursion P xs → AllByRecursion P (filter q xs)
each_filter P q [] h = tt
each_filter P q (x ∷ xs) h = each_step P x (filter q xs) (q x) h.0 (each_filter P q xs h.1)

-- ---- whose a change is

same_number : (a b : ℕ) → nat_eq a b ≡ true → a ≡ b
same_number a b e = grind (arith, nat_tests)

pub other_number : (a b : ℕ) → a ≢ b → nat_eq a b ≡ false
other_number a b n = by (nat_eq a b) refl
  where
    by : (t : Bool) → nat_eq a b ≡ t → nat_eq a b ≡ false
    by true e = absurd (n (same_number a b e))
    by false e = e

pub and_false : (a b : Bool) → b ≡ false → (a && b) ≡ false
and_false true b e = e
and_false false b e = refl

pub holder_of : (holder file : ℕ) (change : StagedChange) → is_of holder file change ≡ true → change.holder ≡ holder
holder_of holder file change e = same_number change.holder holder (first_true _ _ e)

pub file_of : (holder file : ℕ) (change : StagedChange) → is_of holder file change ≡ true → change.file ≡ file
file_of holder file change e = same_number change.file file (second_true _ _ e)

pub other_holder : (k holder file : ℕ) (change : StagedChange) → holder ≢ 0 → is_of 0 k change ≡ true → is_of holder file change ≡ false
other_holder k holder file change n e =
    ap (λ (t : Bool). t && nat_eq change.file file) (other_number change.holder holder (λ s. n (sym s ∙ holder_of 0 k change e)))

pub other_file : (k holder file : ℕ) (change : StagedChange) → k ≢ file → is_of 0 k change ≡ true → is_of holder file change ≡ false
other_file k holder file change n e =
    and_false (nat_eq change.holder holder) (nat_eq change.file file) (other_number change.file file (λ s. n (sym (file_of 0 k change e) ∙ s)))

-- ---- what is dropped leaves the others

-- of holder 0, in that file, nothing is dropped
abbrev pub Leaves : ℕ → ℕ → ℕ → Type 0
Leaves holder file k = (change : StagedChange) → is_of 0 k change ≡ true → is_of holder file change ≡ false

pub reverted_leaves : (holder file k : ℕ) (path : Path) (changes : List StagedChange) → Leaves holder file k → deltas_in 0 k (reverted holder file path changes) ≡ deltas_in 0 k changes
reverted_leaves holder file k path changes h =
    ap (λ (l : List StagedChange). map (λ change. change.delta) l)
    (filter_within (is_of 0 k) (stays holder file (Some path)) changes (λ change e. ap (λ (t : Bool). not (t && is_dropped (Some path) change.delta)) (h change e)))

pub without_leaves : (holder file k : ℕ) (changes : List StagedChange) → Leaves holder file k → deltas_in 0 k (without holder file changes) ≡ deltas_in 0 k changes
without_leaves holder file k changes h =
    ap (λ (l : List StagedChange). map (λ change. change.delta) l)
    (filter_within (is_of 0 k) (λ change. not (is_of holder file change)) changes (λ change e. ap not (h change e)))

pub forgotten_leaves : (holder k : ℕ) (changes : List StagedChange) → holder ≢ 0 → deltas_in 0 k (forgotten holder changes) ≡ deltas_in 0 k changes
forgotten_leaves holder k changes n =
    ap (λ (l : List StagedChange). map (λ change. change.delta) l)
    (filter_within (is_of 0 k) (λ change. not (nat_eq change.holder holder)) changes (λ change e. ap not (other_number change.holder holder (λ s. n (sym s ∙ holder_of 0 k change e)))))

pub without_none : (holder file : ℕ) (changes : List StagedChange) → deltas_in holder file (without holder file changes) ≡ []
without_none holder file changes =
    ap (λ (l : List StagedChange). map (λ change. change.delta) l)
    (filter_apart (is_of holder file) (λ change. not (is_of holder file change)) changes (λ change e. ap not e))

pub forgotten_none : (holder file : ℕ) (changes : List StagedChange) → deltas_in holder file (forgotten holder changes) ≡ []
forgotten_none holder file changes =
    ap (λ (l : List StagedChange). map (λ change. change.delta) l)
    (filter_apart (is_of holder file) (λ change. not (nat_eq change.holder holder)) changes (λ change e. ap not (first_true _ _ e)))

-- nothing is dropped
pub all_stay : (holder file : ℕ) (changes : List StagedChange) → filter (stays holder file None) changes ≡ changes
all_stay holder file [] = refl
all_stay holder file (change ∷ changes) = stay (is_of holder file change) ∙ ap (λ (l : List StagedChange). change ∷ l) (all_stay holder file changes)
  where
    stay : (t : Bool) → cond {A = List StagedChange} (not (t && false)) (change ∷ filter (stays holder file None) changes) (filter (stays holder file None) changes) ≡ change ∷ filter (stays holder file None) changes
    stay true = refl
    stay false = refl

-- ---- one change more

pub deltas-append : (holder file : ℕ) (changes more : List StagedChange) → deltas_in holder file (changes ++ more) ≡ deltas_in holder file changes ++ deltas_in holder file more
deltas-append holder file changes more =
    ap (λ (l : List StagedChange). map (λ change. change.delta) l) (filter-append (is_of holder file) changes more) ∙ both (filter (is_of holder file) changes)
  where
    both : (xs : List StagedChange) → map (λ (change : StagedChange). change.delta) (xs ++ filter (is_of holder file) more) ≡ map (λ (change : StagedChange). change.delta) xs ++ deltas_in holder file more
    both [] = refl
    both (x ∷ xs) = ap (λ (l : List Delta). x.delta ∷ l) (both xs)

pub one_taken : (holder file : ℕ) (change : StagedChange) → is_of holder file change ≡ true → deltas_in holder file (change ∷ []) ≡ change.delta ∷ []
one_taken holder file change e = ap (λ (t : Bool). map (λ (c : StagedChange). c.delta) (cond {A = List StagedChange} t (change ∷ []) [])) e

pub one_passed : (holder file : ℕ) (change : StagedChange) → is_of holder file change ≡ false → deltas_in holder file (change ∷ []) ≡ []
one_passed holder file change e = ap (λ (t : Bool). map (λ (c : StagedChange). c.delta) (cond {A = List StagedChange} t (change ∷ []) [])) e

pub text-append : (file : ℕ) (dropped : Option Path) (changes : List StagedChange) (change : StagedChange) → kept_text file dropped (changes ++ change ∷ []) ≡ kept_text file dropped changes ++ kept_text file dropped (change ∷ [])
text-append file dropped changes change =
    ap (λ (l : List StagedChange). lines_of (deltas_in 0 file l)) (filter-append (stays 0 file dropped) changes (change ∷ []))
    ∙ ap lines_of (deltas-append 0 file (filter (stays 0 file dropped) changes) (filter (stays 0 file dropped) (change ∷ [])))
    ∙ flat_map-append (λ (delta : Delta). spelled delta ++ 10 ∷ []) (deltas_in 0 file (filter (stays 0 file dropped) changes)) (deltas_in 0 file (filter (stays 0 file dropped) (change ∷ [])))

-- the text of one change: its line where it is one of holder 0 in that file that is not dropped, and else nothing
pub text_taken : (file : ℕ) (dropped : Option Path) (change : StagedChange) → is_of 0 file change ≡ true → is_dropped dropped change.delta ≡ false → kept_text file dropped (change ∷ []) ≡ spelled change.delta ++ 10 ∷ []
text_taken file dropped change e n =
    let stay : stays 0 file dropped change ≡ true = ap not (and_false (is_of 0 file change) (is_dropped dropped change.delta) n) in
    ap (λ (t : Bool). lines_of (deltas_in 0 file (cond {A = List StagedChange} t (change ∷ []) []))) stay ∙ ap lines_of (one_taken 0 file change e) ∙ append-nil (spelled change.delta ++ 10 ∷ [])

pub text_other : (file : ℕ) (dropped : Option Path) (change : StagedChange) → is_of 0 file change ≡ false → kept_text file dropped (change ∷ []) ≡ []
text_other file dropped change e = by (stays 0 file dropped change)
  where
    by : (t : Bool) → lines_of (deltas_in 0 file (cond {A = List StagedChange} t (change ∷ []) [])) ≡ []
    by true = ap lines_of (one_passed 0 file change e)
    by false = refl

pub text_dropped : (file : ℕ) (dropped : Option Path) (change : StagedChange) → is_of 0 file change ≡ true → is_dropped dropped change.delta ≡ true → kept_text file dropped (change ∷ []) ≡ []
text_dropped file dropped change e d =
    let go : stays 0 file dropped change ≡ false = ap (λ (t : Bool). not (t && is_dropped dropped change.delta)) e ∙ ap not d in
    ap (λ (t : Bool). lines_of (deltas_in 0 file (cond {A = List StagedChange} t (change ∷ []) []))) go

-- ---- lines

line_step : (names : List (List ℕ)) (k : ℕ) (change : StagedChange) (changes : List StagedChange) (b : Bool) → is_of 0 k change ≡ b → IsStagedIn names change → AllByRecursion (IsLine (name_at names k)) (deltas_in 0 k changes)
    → AllByRecursion (IsLine (name_at names k)) (map (λ (c : StagedChange). c.delta) (cond {A = List StagedChange} b (change ∷ filter (is_of 0 k) changes) (filter (is_of 0 k) changes)))
line_step names k change changes true e s h = (subst (λ (f : ℕ). IsLine (name_at names f) change.delta) (file_of 0 k change e) s.line, h)
line_step names k change changes false e s h = h

pub each_line : (names : List (List ℕ)) (k : ℕ) (changes : List StagedChange) → AreStagedIn names changes → AllByRecursion (IsLine (name_at names k)) (deltas_in 0 k changes)
each_line names k [] h = tt
each_line names k (change ∷ changes) h = line_step names k change changes (is_of 0 k change) refl h.0 (each_line names k changes h.1)

pub each_shape : (names : List (List ℕ)) (changes : List StagedChange) → AreStagedIn names changes → AllByRecursion (λ change. HasShape change.delta) changes
each_shape names [] h = tt
each_shape names (change ∷ changes) h = (h.0.line.shape, each_shape names changes h.1)
