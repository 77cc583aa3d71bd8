-- Objects and the map that they are found by.
use Rattle.std.proofs.Common.{append-nil, arith, ℕ, zero, suc, ◌≡◌, ◌<◌, ◌≤◌, List, [], ◌∷◌, ◌++◌, map, length, get_or, Bool, true, false, cond, Option, Some, None, refl, ap, sym, subst, ◌∙◌}
use Rattle.std.specs.Prelude.{if◌then◌else◌, ◌||◌, filter, remove, is_some}
use Rattle.std.specs.Option.{option_to_list}
use Rattle.std.specs.Ordering.{nat_cmp}
use Rattle.std.specs.Cmp.Lexicographic.{slice_cmp, texts_ties, bytes_decides}
use Rattle.std.specs.List.{find, list_any}
use Rattle.std.specs.BTreeMap.{BTreeMap, is_at}
use Rattle.std.specs.Map.{lookup}
use Rattle.std.proofs.lemmas.List.Elements.{filter-append}
use Rattle.ubus_table.specs.Table.{is_path_of, same_text}
use Rattle.ubus_table.specs.declared.rows.Object.{Object}
use Rattle.ubus_state.specs.Paths.{has_path, IsFree, IsNoted, number_at, HasPaths}
use Rattle.ubus_state.specs.Rising.{object_number}
use Rattle.ubus_state.proofs.RisingLemmas.{some_found}

-- ---- what passes a test, where at most one does
few_numbers : {X : Type 0} (number : X → ℕ) (xs : List X) (one : Option ℕ) → map number xs ≡ option_to_list one → length xs ≤ 1
few_numbers number [] one same = omega arith
few_numbers number (x ∷ []) one same = omega arith
few_numbers number (x ∷ y ∷ xs) None same = absurd (let never : number x ∷ number y ∷ map number xs ≡ [] = same in cc never)
few_numbers number (x ∷ y ∷ xs) (Some n) same = absurd (let never : number x ∷ number y ∷ map number xs ≡ n ∷ [] = same in cc never)

none_left : {X : Type 0} (xs : List X) → length xs ≤ 0 → xs ≡ []
none_left [] few = refl
none_left (x ∷ xs) few = absurd (omega (arith, few))

pub one_kept : {X : Type 0} (p : X → Bool) (rows : List X) → length (filter p rows) ≤ 1 → filter p rows ≡ option_to_list (find p rows)
one_kept p [] few = refl
one_kept {X} p (row ∷ rows) few = by_test (p row) few (one_kept p rows)
  where
    by_test : (b : Bool) → length (if b then row ∷ filter p rows else filter p rows) ≤ 1 → (length (filter p rows) ≤ 1 → filter p rows ≡ option_to_list (find p rows))
        → (if b then row ∷ filter p rows else filter p rows) ≡ option_to_list (if b then Some row else find p rows)
    by_test true h rest = ap (λ (z : List X). row ∷ z) (none_left (filter p rows) (omega (arith, h)))
    by_test false h rest = rest h

none_pass : {X : Type 0} (p : X → Bool) (xs : List X) → list_any p xs ≡ false → filter p xs ≡ []
none_pass p [] none = refl
none_pass {X} p (x ∷ xs) none = by_test (p x) none (none_pass p xs)
  where
    by_test : (b : Bool) → (b || list_any p xs) ≡ false → (list_any p xs ≡ false → filter p xs ≡ []) → (if b then x ∷ filter p xs else filter p xs) ≡ []
    by_test true h rest = absurd (let never : true ≡ false = h in cc never)
    by_test false h rest = rest h

-- ---- a row that goes
some_kept : {X : Type 0} (p : X → Bool) (rows : List X) (place : ℕ) (row : X) → place < length rows → row ≡ get_or rows place row → p row ≡ true → 1 ≤ length (filter p rows)
some_kept p [] place row within is passes = absurd (omega (arith, within))
some_kept {X} p (first ∷ rows) zero row within is passes =
    let first_passes : p first ≡ true = ap p (sym is) ∙ passes in
    subst (λ (b : Bool). 1 ≤ length (if b then first ∷ filter p rows else filter p rows)) (sym first_passes) (omega arith)
some_kept {X} p (first ∷ rows) (suc place) row within is passes = by_test (p first) (some_kept p rows place row (omega (arith, within)) is passes)
  where
    by_test : (b : Bool) → 1 ≤ length (filter p rows) → 1 ≤ length (if b then first ∷ filter p rows else filter p rows)
    by_test true rest = omega arith
    by_test false rest = rest

-- one that does not pass leaves those that do
others_kept : {X : Type 0} (p : X → Bool) (rows : List X) (place : ℕ) (row : X) → place < length rows → row ≡ get_or rows place row → p row ≡ false → filter p (remove rows place) ≡ filter p rows
others_kept p [] place row within is fails = absurd (omega (arith, within))
others_kept {X} p (first ∷ rows) zero row within is fails =
    sym (ap (λ (b : Bool). if b then first ∷ filter p rows else filter p rows) (ap p (sym is) ∙ fails))
others_kept {X} p (first ∷ rows) (suc place) row within is fails =
    ap (λ (z : List X). if p first then first ∷ z else z) (others_kept p rows place row (omega (arith, within)) is fails)

-- the one that passes leaves none
none_kept_but : {X : Type 0} (p : X → Bool) (rows : List X) (place : ℕ) (row : X) → place < length rows → row ≡ get_or rows place row → p row ≡ true → length (filter p rows) ≤ 1 → filter p (remove rows place) ≡ []
none_kept_but p [] place row within is passes few = absurd (omega (arith, within))
none_kept_but {X} p (first ∷ rows) zero row within is passes few =
    none_left (filter p rows)
    (let more : length (first ∷ filter p rows) ≤ 1 = subst (λ (b : Bool). length (if b then first ∷ filter p rows else filter p rows) ≤ 1) (ap p (sym is) ∙ passes) few in omega (arith, more))
none_kept_but {X} p (first ∷ rows) (suc place) row within is passes few = by_test (p first) few (none_kept_but p rows place row (omega (arith, within)) is passes)
  where
    by_test : (b : Bool) → length (if b then first ∷ filter p rows else filter p rows) ≤ 1 → (length (filter p rows) ≤ 1 → filter p (remove rows place) ≡ [])
        → (if b then first ∷ filter p (remove rows place) else filter p (remove rows place)) ≡ []
    by_test true h rest = absurd (let one = some_kept p rows place row (omega (arith, within)) is passes in omega (arith, h, one))
    by_test false h rest = rest h

-- ---- paths

same_path : (one other : List ℕ) → same_text one other ≡ true → one ≡ other
same_path one other same = (bytes_decides one other).0 same

-- a key of the map is that of a path
path_key : (path other : List ℕ) → is_at (slice_cmp nat_cmp path) other ≡ same_text path other
path_key path other = sym (texts_ties path other)

cond_if : (b : Bool) (value other : Option ℕ) → cond b value other ≡ (if b then value else other)
cond_if true value other = refl
cond_if false value other = refl

-- what the map says of a value at a key that is this path
pub noted_at : (old new : BTreeMap (List ℕ) ℕ) (key path : List ℕ) (value : Option ℕ) → key ≡ path
    → ((other : List ℕ) → number_at new other ≡ cond (is_at (slice_cmp nat_cmp key) other) value (number_at old other)) → IsNoted old new (Some path) value
noted_at old new key path value same updates other =
    updates other
    ∙ ap (λ (k : List ℕ). cond (is_at (slice_cmp nat_cmp k) other) value (number_at old other)) same
    ∙ ap (λ (b : Bool). cond b value (number_at old other)) (path_key path other)
    ∙ cond_if (same_text path other) value (number_at old other)

-- the same entries have the same paths
pub same_numbers : (old new : BTreeMap (List ℕ) ℕ) (rows : List Object) → new.entries ≡ old.entries → HasPaths old rows → HasPaths new rows
same_numbers old new rows same has path = has path ∙ ap (λ (entries : List (List ℕ × ℕ)). option_to_list (lookup (is_at (slice_cmp nat_cmp path)) entries)) (sym same)

-- nothing has a free path
free_at : (path : Option (List ℕ)) (other : List ℕ) (rows : List Object) → IsFree path rows → is_path_of other path ≡ true → filter (has_path other) rows ≡ []
free_at None other rows free is = absurd (let never : false ≡ true = is in cc never)
free_at (Some path) other rows free is = none_pass (has_path other) rows (subst (λ (p : List ℕ). list_any (has_path p) rows ≡ false) (same_path path other is) free)

kept_at : (b : Bool) (q : Option ℕ) (value other : Option ℕ) → b ≡ true → q ≡ (if b then value else other) → q ≡ value
kept_at true q value other is noted = noted
kept_at false q value other is noted = absurd (let never : false ≡ true = is in cc never)

past_at : (b : Bool) (q : Option ℕ) (value other : Option ℕ) → b ≡ false → q ≡ (if b then value else other) → q ≡ other
past_at true q value other is noted = absurd (let never : true ≡ false = is in cc never)
past_at false q value other is noted = noted

-- an object more, whose path is free
pub path_pushed : (old new : BTreeMap (List ℕ) ℕ) (rows later : List Object) (object : Object) → HasPaths old rows → IsFree object.path rows → IsNoted old new object.path (Some object.number)
    → later ≡ rows ++ object ∷ [] → HasPaths new later
path_pushed old new rows later object has free noted made other =
    ap (λ (objects : List Object). map object_number (filter (has_path other) objects)) made
    ∙ ap (map object_number) (filter-append (has_path other) rows (object ∷ []))
    ∙ by_test (has_path other object) refl
  where
    by_test : (b : Bool) → has_path other object ≡ b
        → map object_number (filter (has_path other) rows ++ (if has_path other object then object ∷ [] else [])) ≡ option_to_list (number_at new other)
    by_test true is =
        ap (λ (kept : List Object). map object_number (kept ++ (if has_path other object then object ∷ [] else []))) (free_at object.path other rows free is)
        ∙ ap (λ (b : Bool). map object_number (if b then object ∷ [] else [])) is
        ∙ sym (ap option_to_list (kept_at (has_path other object) (number_at new other) (Some object.number) (number_at old other) is (noted other)))
    by_test false is =
        ap (λ (b : Bool). map object_number (filter (has_path other) rows ++ (if b then object ∷ [] else []))) is
        ∙ ap (map object_number) (append-nil (filter (has_path other) rows))
        ∙ has other
        ∙ sym (ap option_to_list (past_at (has_path other object) (number_at new other) (Some object.number) (number_at old other) is (noted other)))

-- the object at a place goes, with its path
pub path_taken : (old new : BTreeMap (List ℕ) ℕ) (rows later : List Object) (place : ℕ) (object : Object) → HasPaths old rows → place < length rows → object ≡ get_or rows place object
    → IsNoted old new object.path None → later ≡ remove rows place → HasPaths new later
path_taken old new rows later place object has within is forgotten made other =
    ap (λ (objects : List Object). map object_number (filter (has_path other) objects)) made ∙ by_test (has_path other object) refl
  where
    by_test : (b : Bool) → has_path other object ≡ b → map object_number (filter (has_path other) (remove rows place)) ≡ option_to_list (number_at new other)
    by_test true named =
        ap (map object_number) (none_kept_but (has_path other) rows place object within is named (few_numbers object_number (filter (has_path other) rows) (number_at old other) (has other)))
        ∙ sym (ap option_to_list (kept_at (has_path other object) (number_at new other) None (number_at old other) named (forgotten other)))
    by_test false apart =
        ap (map object_number) (others_kept (has_path other) rows place object within is apart)
        ∙ has other
        ∙ sym (ap option_to_list (past_at (has_path other object) (number_at new other) None (number_at old other) apart (forgotten other)))

-- the objects of a path are none or one
pub one_named : (paths : BTreeMap (List ℕ) ℕ) (rows : List Object) (path : List ℕ) → HasPaths paths rows → filter (has_path path) rows ≡ option_to_list (find (has_path path) rows)
one_named paths rows path has = one_kept (has_path path) rows (few_numbers object_number (filter (has_path path) rows) (number_at paths path) (has path))

both_some : {X : Type 0} (number : X → ℕ) (found : Option X) (one : Option ℕ) → map number (option_to_list found) ≡ option_to_list one → is_some found ≡ is_some one
both_some number None None same = refl
both_some number None (Some n) same = absurd (let never : [] ≡ n ∷ [] = same in cc never)
both_some number (Some x) None same = absurd (let never : number x ∷ [] ≡ [] = same in cc never)
both_some number (Some x) (Some n) same = refl

-- an object has a path where the map has it
pub path_there : (paths : BTreeMap (List ℕ) ℕ) (rows : List Object) (path : List ℕ) → HasPaths paths rows → is_some (number_at paths path) ≡ list_any (has_path path) rows
path_there paths rows path has =
    sym (both_some object_number (find (has_path path) rows) (number_at paths path) (ap (map object_number) (sym (one_named paths rows path has)) ∙ has path))
    ∙ some_found (has_path path) rows
