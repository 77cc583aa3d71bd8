-- Open calls in the order of their callers, sequences and numbers.
use Rattle.std.proofs.Common.{arith, ℕ, zero, suc, ◌≡◌, ◌<◌, ◌≤◌, ◌+◌, ◌==◌, List, [], ◌∷◌, ◌++◌, length, get_or, Bor, Bool, true, false, not, Option, Some, None, refl, ap, sym, subst, ◌∙◌}
use Rattle.std.specs.Prelude.{if◌then◌else◌, ◌&&◌, ◌||◌, filter, is_some, nat_lt, remove}
use Rattle.std.specs.Ordering.{nat_cmp, bool_cmp, ordering_then, match_ordering, is_eq, is_gt, is_le}
use Rattle.std.specs.declared.cmp.Ordering.{Ordering}
use Rattle.std.specs.declared.cmp.Ordering.TheVariants.{Less, Equal, Greater}
use Rattle.std.specs.declared.ops.Bound.TheVariants.{Included, Excluded}
use Rattle.std.specs.List.{All, AllByRecursion, list_any}
use Rattle.std.specs.List.Sorted.{IsStrictlySortedBy}
use Rattle.std.specs.Cmp.{IsTotalOrder, tied_itself, nat_cmp_total, bool_cmp_total}
use Rattle.std.specs.BTreeMap.{is_at}
use Rattle.std.specs.BTreeMap.Range.{range_contains}
use Rattle.std.specs.BTreeSet.{insert_key}
use Rattle.std.specs.Map.Iter.{TakesFirst, deref}
use Rattle.std.specs.Set.{remove_key}
use Rattle.std.proofs.lemmas.Bool.Decides.{nat_tests}
use Rattle.std.proofs.lemmas.Cmp.{on_total, then_total}
use Rattle.std.proofs.lemmas.Map.Keys.{sorted_head, sorted_tail}
use Rattle.std.proofs.lemmas.Map.Lookups.{exact_unsigned}
use Rattle.std.proofs.lemmas.List.Elements.{All-head, All-tail, All-filter}
use Rattle.ubus_state.specs.declared.calls.OpenCall.{OpenCall}
use Rattle.ubus_state.specs.Calls.{call_number, has_name, is_before, IsTied}
use Rattle.ubus_state.specs.Rising.{IsRising}
use Rattle.ubus_state.proofs.RisingLemmas.{Climbs, climbs, rising_pushed, rising_filtered, rising_removed}

-- by number, and then by what does not count
abbrev pub call_rest : OpenCall → OpenCall → Ordering
call_rest a b = ordering_then (nat_cmp a.number b.number) (ordering_then (nat_cmp a.object b.object) (bool_cmp a.no_reply b.no_reply))

abbrev pub call_cmp : OpenCall → OpenCall → Ordering
call_cmp a b = ordering_then (nat_cmp a.caller b.caller) (ordering_then (nat_cmp a.seq b.seq) (call_rest a b))

pub calls_total : IsTotalOrder call_cmp
calls_total =
    then_total (on_total (λ c. c.caller) nat_cmp_total) (then_total (on_total (λ c. c.seq) nat_cmp_total)
    (then_total (on_total (λ c. c.number) nat_cmp_total) (then_total (on_total (λ c. c.object) nat_cmp_total) (on_total (λ c. c.no_reply) bool_cmp_total))))

then_equals : (r s : Ordering) → ordering_then r s ≡ Equal → (r ≡ Equal) × (s ≡ Equal)
then_equals Less s h = cc h
then_equals Equal s h = (refl, h)
then_equals Greater s h = cc h

-- calls that compare equal have the same caller, sequence and number
tied_parts : (a b : OpenCall) → is_at (call_cmp a) b ≡ true → (a.caller ≡ b.caller) × (a.seq ≡ b.seq) × (a.number ≡ b.number)
tied_parts a b h =
    let first = then_equals (nat_cmp a.caller b.caller) (ordering_then (nat_cmp a.seq b.seq) (call_rest a b)) (equal (call_cmp a b) h) in
    let second = then_equals (nat_cmp a.seq b.seq) (call_rest a b) first.1 in
    let third = then_equals (nat_cmp a.number b.number) (ordering_then (nat_cmp a.object b.object) (bool_cmp a.no_reply b.no_reply)) second.1 in
    (exact_unsigned a.caller b.caller first.0, exact_unsigned a.seq b.seq second.0, exact_unsigned a.number b.number third.0)
  where
    equal : (r : Ordering) → is_eq r ≡ true → r ≡ Equal
    equal Less e = cc e
    equal Equal e = refl
    equal Greater e = cc e

-- a name is that of the one as of the other
name_of_tied : (caller seq : ℕ) (a b : OpenCall) → is_at (call_cmp a) b ≡ true → has_name caller seq a ≡ has_name caller seq b
name_of_tied caller seq a b h =
    let same = tied_parts a b h in
    ap (λ (n : ℕ). n == caller && a.seq == seq) same.0 ∙ ap (λ (n : ℕ). b.caller == caller && n == seq) same.1

same_name : (caller seq : ℕ) (call : OpenCall) → has_name caller seq call ≡ true → (call.caller ≡ caller) × (call.seq ≡ seq)
same_name caller seq call h = (grind (arith, nat_tests, h), grind (arith, nat_tests, h))

less_is : (a b : ℕ) → a < b → nat_cmp a b ≡ Less
less_is a b h = grind (arith, nat_tests, h)

greater_is : (a b : ℕ) → b < a → nat_cmp a b ≡ Greater
greater_is a b h = grind (arith, nat_tests, h)

itself : (a b : ℕ) → a ≡ b → nat_cmp a b ≡ Equal
itself a b h = ap (nat_cmp a) (sym h) ∙ tied_itself nat_cmp_total a

-- of one name, the call of the higher number is the greater one
later_is_greater : (caller seq : ℕ) (row call : OpenCall) → has_name caller seq row ≡ true → has_name caller seq call ≡ true → call.number < row.number → call_cmp row call ≡ Greater
later_is_greater caller seq row call own other lower =
    let mine = same_name caller seq row own in
    let its = same_name caller seq call other in
    let rest : Ordering = ordering_then (nat_cmp row.object call.object) (bool_cmp row.no_reply call.no_reply) in
    ap (λ r. ordering_then r (ordering_then (nat_cmp row.seq call.seq) (call_rest row call))) (itself row.caller call.caller (mine.0 ∙ sym its.0))
    ∙ ap (λ r. ordering_then r (call_rest row call)) (itself row.seq call.seq (mine.1 ∙ sym its.1))
    ∙ ap (λ r. ordering_then r rest) (greater_is row.number call.number lower)

-- ---- a call that is put in

-- calls that are greater than another one, but of lower number where they have the name, do not have the name
none_named : (caller seq : ℕ) (row : OpenCall) (keys : List OpenCall) → has_name caller seq row ≡ true → AllByRecursion (λ key. call_cmp row key ≡ Less) keys
    → All (λ key. key.number < row.number) (filter (has_name caller seq) keys) → filter (has_name caller seq) keys ≡ []
none_named caller seq row [] own above lower = refl
none_named caller seq row (key ∷ keys) own above lower = by_name (has_name caller seq key) refl (none_named caller seq row keys own above.1) lower
  where
    by_name : (b : Bool) → has_name caller seq key ≡ b → (All (λ (other : OpenCall). other.number < row.number) (filter (has_name caller seq) keys) → filter (has_name caller seq) keys ≡ [])
        → All (λ other. other.number < row.number) (if b then key ∷ filter (has_name caller seq) keys else filter (has_name caller seq) keys)
        → (if b then key ∷ filter (has_name caller seq) keys else filter (has_name caller seq) keys) ≡ []
    by_name true e rest below = absurd (let less : Less ≡ Greater = sym above.0 ∙ later_is_greater caller seq row key own e (All-head (λ (other : OpenCall). other.number < row.number) key (filter (has_name caller seq) keys) below) in
        cc less)
    by_name false e rest below = rest below

-- among the keys of its name a call of the highest number comes last
put_last : (caller seq : ℕ) (row : OpenCall) (keys : List OpenCall) → has_name caller seq row ≡ true → IsStrictlySortedBy call_cmp (insert_key call_cmp keys row)
    → All (λ key. key.number < row.number) (filter (has_name caller seq) keys)
    → filter (has_name caller seq) (insert_key call_cmp keys row) ≡ filter (has_name caller seq) keys ++ row ∷ []
put_last caller seq row [] own sorted lower = ap (λ (b : Bool). if b then row ∷ [] else []) own
put_last caller seq row (key ∷ keys) own sorted lower = by_order (call_cmp row key) refl sorted (put_last caller seq row keys own)
  where
    N : OpenCall → Bool
    N = has_name caller seq

    Rest : Type 0
    Rest = IsStrictlySortedBy call_cmp (insert_key call_cmp keys row) → All (λ (other : OpenCall). other.number < row.number) (filter N keys) → filter N (insert_key call_cmp keys row) ≡ filter N keys ++ row ∷ []

    more : (b : Bool) → N key ≡ b → Rest → IsStrictlySortedBy call_cmp (insert_key call_cmp keys row) → All (λ (other : OpenCall). other.number < row.number) (if b then key ∷ filter N keys else filter N keys)
        → (if b then key ∷ filter N (insert_key call_cmp keys row) else filter N (insert_key call_cmp keys row)) ≡ (if b then key ∷ filter N keys else filter N keys) ++ row ∷ []
    more true e rest order below = ap (λ (z : List OpenCall). key ∷ z) (rest order (All-tail (λ (other : OpenCall). other.number < row.number) key (filter N keys) below))
    more false e rest order below = rest order below

    tied : (b : Bool) → N key ≡ b → call_cmp row key ≡ Equal → All (λ other. other.number < row.number) (if b then key ∷ filter N keys else filter N keys) → N key ≡ true → ⊥
    tied true e equal below named =
        let lower : key.number < row.number = All-head (λ (other : OpenCall). other.number < row.number) key (filter N keys) below in
        let same : row.number ≡ key.number = (tied_parts row key (ap is_eq equal)).2 in
        omega (arith, lower, same)
    tied false e equal below named = let never : false ≡ true = sym e ∙ named in cc never

    by_order : (r : Ordering) → call_cmp row key ≡ r → IsStrictlySortedBy call_cmp (match_ordering r (row ∷ key ∷ keys) (key ∷ keys) (key ∷ insert_key call_cmp keys row)) → Rest
        → filter N (match_ordering r (row ∷ key ∷ keys) (key ∷ keys) (key ∷ insert_key call_cmp keys row)) ≡ filter N (key ∷ keys) ++ row ∷ []
    by_order Less e order rest =
        let none : filter N (key ∷ keys) ≡ [] = none_named caller seq row (key ∷ keys) own (sorted_head call_cmp row (key ∷ keys) order) lower in
        ap (λ (b : Bool). if b then row ∷ filter N (key ∷ keys) else filter N (key ∷ keys)) own ∙ ap (λ (z : List OpenCall). row ∷ z) none ∙ sym (ap (λ (z : List OpenCall). z ++ row ∷ []) none)
    by_order Equal e order rest = absurd (tied (N key) refl e lower (sym (name_of_tied caller seq row key (ap is_eq e)) ∙ own))
    by_order Greater e order rest = more (N key) refl rest (sorted_tail call_cmp key (insert_key call_cmp keys row) order) lower

-- a call of another name does not count
put_other : (caller seq : ℕ) (row : OpenCall) (keys : List OpenCall) → has_name caller seq row ≡ false
    → filter (has_name caller seq) (insert_key call_cmp keys row) ≡ filter (has_name caller seq) keys
put_other caller seq row [] other = ap (λ (b : Bool). if b then row ∷ [] else []) other
put_other caller seq row (key ∷ keys) other = by_order (call_cmp row key) (put_other caller seq row keys other)
  where
    N : OpenCall → Bool
    N = has_name caller seq

    by_order : (r : Ordering) → filter N (insert_key call_cmp keys row) ≡ filter N keys → filter N (match_ordering r (row ∷ key ∷ keys) (key ∷ keys) (key ∷ insert_key call_cmp keys row)) ≡ filter N (key ∷ keys)
    by_order Less rest = ap (λ (b : Bool). if b then row ∷ filter N (key ∷ keys) else filter N (key ∷ keys)) other
    by_order Equal rest = refl
    by_order Greater rest = ap (λ (z : List OpenCall). if N key then key ∷ z else z) rest

-- a list with one more at its end
filter_pushed : {X : Type 0} (p : X → Bool) (xs : List X) (x : X) → filter p (xs ++ x ∷ []) ≡ filter p xs ++ (if p x then x ∷ [] else [])
filter_pushed p [] x = refl
filter_pushed {X} p (y ∷ ys) x = by_test (p y) (filter_pushed p ys x)
  where
    by_test : (b : Bool) → filter p (ys ++ x ∷ []) ≡ filter p ys ++ (if p x then x ∷ [] else [])
        → (if b then y ∷ filter p (ys ++ x ∷ []) else filter p (ys ++ x ∷ [])) ≡ (if b then y ∷ filter p ys else filter p ys) ++ (if p x then x ∷ [] else [])
    by_test true rest = ap (λ (z : List X). y ∷ z) rest
    by_test false rest = rest

append_none : {X : Type 0} (xs : List X) → xs ++ [] ≡ xs
append_none [] = refl
append_none {X} (x ∷ xs) = ap (λ (z : List X). x ∷ z) (append_none xs)

pub tied_as : (rows others keys still : List OpenCall) (next : ℕ) → rows ≡ others → keys ≡ still → IsTied others still next → IsTied rows keys next
tied_as rows others keys still next same alike tied = subst (λ (ks : List OpenCall). IsTied rows ks next) (sym alike) (subst (λ (rs : List OpenCall). IsTied rs still next) (sym same) tied)

-- a call of the next number is put in, and stands last
pub tied_pushed : (rows others keys still : List OpenCall) (next : ℕ) (row : OpenCall) → IsTied rows keys next → row.number ≡ next
    → others ≡ rows ++ row ∷ [] → still ≡ insert_key call_cmp keys row → IsStrictlySortedBy call_cmp still → IsTied others still (next + 1)
tied_pushed rows others keys still next row tied is made put sorted = tied_as others (rows ++ row ∷ []) still (insert_key call_cmp keys row) (next + 1) made put (record {
  rising = subst (IsRising call_number (rows ++ row ∷ [])) (ap (λ (n : ℕ). n + 1) is) (rising_pushed call_number rows next row tied.rising is);
  named = λ caller seq. by_name caller seq (has_name caller seq row) refl ∙ sym (filter_pushed (has_name caller seq) rows row);
})
  where
    lower : (caller seq : ℕ) → All (λ key. key.number < row.number) (filter (has_name caller seq) keys)
    lower caller seq = subst (All (λ key. key.number < row.number)) (sym (tied.named caller seq))
        (All-filter (has_name caller seq) (λ key. key.number < row.number) rows (subst (λ (n : ℕ). All (λ key. call_number key < n) rows) (sym is) tied.rising.1))

    by_name : (caller seq : ℕ) (b : Bool) → has_name caller seq row ≡ b → filter (has_name caller seq) (insert_key call_cmp keys row) ≡ filter (has_name caller seq) rows ++ (if has_name caller seq row then row ∷ [] else [])
    by_name caller seq true e =
        put_last caller seq row keys e (subst (IsStrictlySortedBy call_cmp) put sorted) (lower caller seq)
        ∙ ap (λ (z : List OpenCall). z ++ row ∷ []) (tied.named caller seq)
        ∙ sym (ap (λ (b : Bool). filter (has_name caller seq) rows ++ (if b then row ∷ [] else [])) e)
    by_name caller seq false e =
        put_other caller seq row keys e
        ∙ tied.named caller seq
        ∙ sym (append_none (filter (has_name caller seq) rows))
        ∙ sym (ap (λ (b : Bool). filter (has_name caller seq) rows ++ (if b then row ∷ [] else [])) e)

-- ---- a call that is taken out

-- of the call's own name it goes
taken_own : (caller seq : ℕ) (row : OpenCall) (keys : List OpenCall) → has_name caller seq row ≡ true
    → filter (has_name caller seq) (remove_key (is_at (call_cmp row)) keys) ≡ remove_key (is_at (call_cmp row)) (filter (has_name caller seq) keys)
taken_own caller seq row [] own = refl
taken_own caller seq row (key ∷ keys) own = by_test (T key) refl (N key) refl (taken_own caller seq row keys own)
  where
    N : OpenCall → Bool
    N = has_name caller seq

    T : OpenCall → Bool
    T = is_at (call_cmp row)

    by_test : (b : Bool) → T key ≡ b → (n : Bool) → N key ≡ n → filter N (remove_key T keys) ≡ remove_key T (filter N keys)
        → filter N (if b then keys else key ∷ remove_key T keys) ≡ remove_key T (if n then key ∷ filter N keys else filter N keys)
    by_test true here true named rest = sym (ap (λ (z : Bool). if z then filter N keys else key ∷ remove_key T (filter N keys)) here)
    by_test true here false named rest = absurd (let never : false ≡ true = sym named ∙ sym (name_of_tied caller seq row key here) ∙ own in cc never)
    by_test false here true named rest =
        ap (λ (z : Bool). if z then key ∷ filter N (remove_key T keys) else filter N (remove_key T keys)) named
        ∙ ap (λ (z : List OpenCall). key ∷ z) rest
        ∙ sym (ap (λ (z : Bool). if z then filter N keys else key ∷ remove_key T (filter N keys)) here)
    by_test false here false named rest =
        ap (λ (z : Bool). if z then key ∷ filter N (remove_key T keys) else filter N (remove_key T keys)) named ∙ rest

-- of another name nothing goes
taken_other : (caller seq : ℕ) (row : OpenCall) (keys : List OpenCall) → has_name caller seq row ≡ false
    → filter (has_name caller seq) (remove_key (is_at (call_cmp row)) keys) ≡ filter (has_name caller seq) keys
taken_other caller seq row [] other = refl
taken_other caller seq row (key ∷ keys) other = by_test (T key) refl (taken_other caller seq row keys other)
  where
    N : OpenCall → Bool
    N = has_name caller seq

    T : OpenCall → Bool
    T = is_at (call_cmp row)

    by_test : (b : Bool) → T key ≡ b → filter N (remove_key T keys) ≡ filter N keys → filter N (if b then keys else key ∷ remove_key T keys) ≡ (if N key then key ∷ filter N keys else filter N keys)
    by_test true here rest = sym (ap (λ (z : Bool). if z then key ∷ filter N keys else filter N keys) (sym (name_of_tied caller seq row key here) ∙ other))
    by_test false here rest = ap (λ (z : List OpenCall). if N key then key ∷ z else z) rest

taken_out : (caller seq : ℕ) (row : OpenCall) (keys others : List OpenCall) → filter (has_name caller seq) keys ≡ filter (has_name caller seq) others
    → filter (has_name caller seq) (remove_key (is_at (call_cmp row)) keys) ≡ filter (has_name caller seq) (remove_key (is_at (call_cmp row)) others)
taken_out caller seq row keys others same = by_name (has_name caller seq row) refl
  where
    by_name : (b : Bool) → has_name caller seq row ≡ b
        → filter (has_name caller seq) (remove_key (is_at (call_cmp row)) keys) ≡ filter (has_name caller seq) (remove_key (is_at (call_cmp row)) others)
    by_name true e = taken_own caller seq row keys e ∙ ap (remove_key (is_at (call_cmp row))) same ∙ sym (taken_own caller seq row others e)
    by_name false e = taken_other caller seq row keys e ∙ same ∙ sym (taken_other caller seq row others e)

-- the row at a place is the first that compares equal to it
taken_at : (rows : List OpenCall) (place : ℕ) (row : OpenCall) → Climbs call_number rows → place < length rows → row ≡ get_or rows place row
    → remove_key (is_at (call_cmp row)) rows ≡ remove rows place
taken_at [] place row climb within is = absurd (omega arith)
taken_at (first ∷ rows) zero row climb within is =
    ap (λ (b : Bool). if b then rows else first ∷ remove_key (is_at (call_cmp row)) rows) (ap is_eq (ap (call_cmp row) (sym is) ∙ tied_itself calls_total row))
taken_at (first ∷ rows) (suc place) row climb within is =
    ap (λ (b : Bool). if b then rows else first ∷ remove_key (is_at (call_cmp row)) rows) (apart (is_at (call_cmp row) first) refl)
    ∙ ap (λ (z : List OpenCall). first ∷ z) (taken_at rows place row climb.1 (omega (arith, within)) is)
  where
    apart : (b : Bool) → is_at (call_cmp row) first ≡ b → is_at (call_cmp row) first ≡ false
    apart true e =
        let same : row.number ≡ first.number = (tied_parts row first e).2 in
        let above : first.number < call_number (get_or rows place row) = climb.0 place row (omega (arith, within)) in
        let here : row.number ≡ call_number (get_or rows place row) = ap call_number is in
        absurd (omega (arith, same, above, here))
    apart false e = e

pub tied_removed : (rows others keys still : List OpenCall) (next place : ℕ) (row : OpenCall) → IsTied rows keys next → place < length rows → row ≡ get_or rows place row
    → others ≡ remove rows place → still ≡ remove_key (is_at (call_cmp row)) keys → IsTied others still next
tied_removed rows others keys still next place row tied within is made taken = tied_as others (remove rows place) still (remove_key (is_at (call_cmp row)) keys) next made taken (record {
  rising = rising_removed call_number rows next place tied.rising;
  named = λ caller seq.
      taken_out caller seq row keys rows (tied.named caller seq)
      ∙ ap (filter (has_name caller seq)) (taken_at rows place row (climbs call_number rows tied.rising.0) within is);
})

-- ---- calls that pass a test

filter_swapped : {X : Type 0} (p q : X → Bool) (xs : List X) → filter p (filter q xs) ≡ filter q (filter p xs)
filter_swapped p q [] = refl
filter_swapped {X} p q (x ∷ xs) = by_tests (p x) refl (q x) refl (filter_swapped p q xs)
  where
    by_tests : (b : Bool) → p x ≡ b → (c : Bool) → q x ≡ c → filter p (filter q xs) ≡ filter q (filter p xs) → filter p (if c then x ∷ filter q xs else filter q xs) ≡ filter q (if b then x ∷ filter p xs else filter p xs)
    by_tests true here true there rest =
        ap (λ (z : Bool). if z then x ∷ filter p (filter q xs) else filter p (filter q xs)) here
        ∙ ap (λ (z : List X). x ∷ z) rest
        ∙ sym (ap (λ (z : Bool). if z then x ∷ filter q (filter p xs) else filter q (filter p xs)) there)
    by_tests true here false there rest = rest ∙ sym (ap (λ (z : Bool). if z then x ∷ filter q (filter p xs) else filter q (filter p xs)) there)
    by_tests false here true there rest = ap (λ (z : Bool). if z then x ∷ filter p (filter q xs) else filter p (filter q xs)) here ∙ rest
    by_tests false here false there rest = rest

pub tied_filtered : (p : OpenCall → Bool) (rows others keys still : List OpenCall) (next : ℕ) → IsTied rows keys next
    → others ≡ filter p rows → still ≡ filter p keys → IsTied others still next
tied_filtered p rows others keys still next tied made kept = tied_as others (filter p rows) still (filter p keys) next made kept (record {
  rising = rising_filtered call_number p rows next tied.rising;
  named = λ caller seq. filter_swapped (has_name caller seq) p keys ∙ ap (filter p) (tied.named caller seq) ∙ filter_swapped p (has_name caller seq) rows;
})

-- ---- the calls of a name

-- a call that stands before, or after, those of a name
abbrev pub bound_of : ℕ → ℕ → ℕ → OpenCall
bound_of caller seq number = record { caller = caller; seq = seq; number = number; object = 0; no_reply = false }

then_up : (r s : Ordering) → is_le r ≡ true → is_le s ≡ true → is_le (ordering_then r s) ≡ true
then_up Less s up rest = refl
then_up Equal s up rest = rest
then_up Greater s up rest = cc up

zero_up : (n : ℕ) → is_le (nat_cmp 0 n) ≡ true
zero_up n = grind (arith, nat_tests)

false_up : (b : Bool) → is_le (bool_cmp false b) ≡ true
false_up true = refl
false_up false = refl

rest_up : (caller seq : ℕ) (call : OpenCall) → is_le (call_rest (bound_of caller seq 0) call) ≡ true
rest_up caller seq call = then_up _ _ (zero_up call.number) (then_up _ _ (zero_up call.object) (false_up call.no_reply))

-- a call lies between the two bounds where it has the name
between_bounds : (caller seq most : ℕ) (call : OpenCall) → (has_name caller seq call ≡ true → call.number < most)
    → range_contains call_cmp (Included (bound_of caller seq 0)) (Excluded (bound_of caller seq most)) call ≡ has_name caller seq call
between_bounds caller seq most call lower = by_caller (nat_cmp caller call.caller) refl
  where
    low : Ordering
    low = call_rest (bound_of caller seq 0) call

    high : Ordering
    high = call_rest (bound_of caller seq most) call

    named : Bool
    named = has_name caller seq call

    inside : Ordering → Ordering → Bool
    inside r s = is_le (ordering_then r (ordering_then s low)) && not (is_le (ordering_then r (ordering_then s high)))

    apart_caller : (caller ≡ call.caller → ⊥) → named ≡ false
    apart_caller far = let differs : (call.caller == caller) ≡ false = grind (arith, nat_tests, far) in ap (λ (b : Bool). b && call.seq == seq) differs

    and_false : (b : Bool) → (b && false) ≡ false
    and_false true = refl
    and_false false = refl

    apart_seq : (seq ≡ call.seq → ⊥) → named ≡ false
    apart_seq far =
        let differs : (call.seq == seq) ≡ false = grind (arith, nat_tests, far) in
        ap (λ (b : Bool). call.caller == caller && b) differs ∙ and_false (call.caller == caller)

    alike : caller ≡ call.caller → seq ≡ call.seq → named ≡ true
    alike one other =
        let first : (call.caller == caller) ≡ true = grind (arith, nat_tests, one) in
        let second : (call.seq == seq) ≡ true = grind (arith, nat_tests, other) in
        ap (λ (b : Bool). b && call.seq == seq) first ∙ second

    by_seq : (s : Ordering) → nat_cmp seq call.seq ≡ s → nat_cmp caller call.caller ≡ Equal → inside Equal s ≡ named
    by_seq Less e same = sym (apart_seq (λ is. let never : Less ≡ Equal = sym e ∙ itself seq call.seq is in cc never))
    by_seq Equal e same =
        let is : named ≡ true = alike (exact_unsigned caller call.caller same) (exact_unsigned seq call.seq e) in
        let over : high ≡ Greater = ap (λ r. ordering_then r (ordering_then (nat_cmp 0 call.object) (bool_cmp false call.no_reply))) (greater_is most call.number (lower is)) in
        ap (λ (b : Bool). b && not (is_le high)) (rest_up caller seq call) ∙ ap (λ (r : Ordering). not (is_le r)) over ∙ sym is
    by_seq Greater e same = sym (apart_seq (λ is. let never : Greater ≡ Equal = sym e ∙ itself seq call.seq is in cc never))

    by_caller : (r : Ordering) → nat_cmp caller call.caller ≡ r → range_contains call_cmp (Included (bound_of caller seq 0)) (Excluded (bound_of caller seq most)) call ≡ named
    by_caller Less e =
        ap (λ r. inside r (nat_cmp seq call.seq)) e ∙ sym (apart_caller (λ is. let never : Less ≡ Equal = sym e ∙ itself caller call.caller is in cc never))
    by_caller Equal e = ap (λ r. inside r (nat_cmp seq call.seq)) e ∙ by_seq (nat_cmp seq call.seq) refl e
    by_caller Greater e =
        ap (λ r. inside r (nat_cmp seq call.seq)) e ∙ sym (apart_caller (λ is. let never : Greater ≡ Equal = sym e ∙ itself caller call.caller is in cc never))

named_between : (caller seq most : ℕ) (keys : List OpenCall) → All (λ key. key.number < most) (filter (has_name caller seq) keys)
    → filter (range_contains call_cmp (Included (bound_of caller seq 0)) (Excluded (bound_of caller seq most))) keys ≡ filter (has_name caller seq) keys
named_between caller seq most [] lower = refl
named_between caller seq most (key ∷ keys) lower = by_name (N key) refl (named_between caller seq most keys) lower
  where
    N : OpenCall → Bool
    N = has_name caller seq

    P : OpenCall → Bool
    P = range_contains call_cmp (Included (bound_of caller seq 0)) (Excluded (bound_of caller seq most))

    by_name : (b : Bool) → N key ≡ b → (All (λ (other : OpenCall). other.number < most) (filter N keys) → filter P keys ≡ filter N keys)
        → All (λ (other : OpenCall). other.number < most) (if b then key ∷ filter N keys else filter N keys)
        → (if P key then key ∷ filter P keys else filter P keys) ≡ (if b then key ∷ filter N keys else filter N keys)
    by_name true e rest below =
        ap (λ (z : Bool). if z then key ∷ filter P keys else filter P keys) (between_bounds caller seq most key (λ h. All-head (λ (other : OpenCall). other.number < most) key (filter N keys) below) ∙ e)
        ∙ ap (λ (z : List OpenCall). key ∷ z) (rest (All-tail (λ (other : OpenCall). other.number < most) key (filter N keys) below))
    by_name false e rest below =
        ap (λ (z : Bool). if z then key ∷ filter P keys else filter P keys) (between_bounds caller seq most key (λ h. absurd (let never : false ≡ true = sym e ∙ h in cc never)) ∙ e)
        ∙ rest below

-- what lies between the two bounds are the calls of the name, as they were opened
pub named_rows : (rows keys : List OpenCall) (next caller seq most : ℕ) → IsTied rows keys next → next ≤ most
    → filter (range_contains call_cmp (Included (bound_of caller seq 0)) (Excluded (bound_of caller seq most))) keys ≡ filter (has_name caller seq) rows
named_rows rows keys next caller seq most tied room =
    named_between caller seq most keys (subst (All (λ key. key.number < most)) (sym (tied.named caller seq))
    (All-filter (has_name caller seq) (λ key. key.number < most) rows (λ k d within. let below = tied.rising.1 k d within in omega (arith, below, room))))
    ∙ tied.named caller seq

-- the two bounds are in order
pub bounds_rise : (caller seq most : ℕ) → is_gt (call_cmp (bound_of caller seq 0) (bound_of caller seq most)) ≡ false
bounds_rise caller seq most =
    ap (λ r. is_gt (ordering_then r (ordering_then (nat_cmp seq seq) (ordering_then (nat_cmp 0 most) Equal)))) (tied_itself nat_cmp_total caller)
    ∙ ap (λ r. is_gt (ordering_then r (ordering_then (nat_cmp 0 most) Equal))) (tied_itself nat_cmp_total seq)
    ∙ by_number (nat_cmp 0 most) (zero_up most)
  where
    by_number : (r : Ordering) → is_le r ≡ true → is_gt (ordering_then r Equal) ≡ false
    by_number Less up = refl
    by_number Equal up = refl
    by_number Greater up = cc up

-- something passes where something is kept
abbrev pub has_any : {X : Type 0} → List X → Bool
has_any [] = false
has_any (x ∷ xs) = true

pub any_kept : {X : Type 0} (p : X → Bool) (xs : List X) → list_any p xs ≡ has_any (filter p xs)
any_kept p [] = refl
any_kept {X} p (x ∷ xs) = by_test (p x) (any_kept p xs)
  where
    by_test : (b : Bool) → list_any p xs ≡ has_any (filter p xs) → (b || list_any p xs) ≡ has_any (if b then x ∷ filter p xs else filter p xs)
    by_test true rest = refl
    by_test false rest = rest

-- what comes next is there where something is left
pub some_next : {X : Type 0} (left rest : List X) (next : Option (Bor X)) → TakesFirst deref left next rest → is_some next ≡ has_any left
some_next left rest None step = sym (ap has_any step.0)
some_next left rest (Some x) step = sym (ap has_any step)

-- ---- calls of a number on

all_pass : {X : Type 0} (p : X → Bool) (xs : List X) → All (λ x. p x ≡ true) xs → filter p xs ≡ xs
all_pass p [] pass = refl
all_pass {X} p (x ∷ xs) pass =
    ap (λ (b : Bool). if b then x ∷ filter p xs else filter p xs) (All-head (λ (y : X). p y ≡ true) x xs pass) ∙ ap (λ (z : List X). x ∷ z) (all_pass p xs (All-tail (λ (y : X). p y ≡ true) x xs pass))

before_is : (n number : ℕ) → n < number → nat_lt n number ≡ true
before_is n number h = grind (arith, nat_tests, h)

after_is : (n number : ℕ) → number ≤ n → nat_lt n number ≡ false
after_is n number h = grind (arith, nat_tests, h)

-- all calls are before the next number
pub before_next : (rows : List OpenCall) (next : ℕ) → IsRising call_number rows next → filter (is_before next) rows ≡ rows
before_next rows next rising = all_pass (is_before next) rows (λ k d within. before_is (call_number (get_or rows k d)) next (rising.1 k d within))

-- a call of a later number does not count among those before
pub before_pushed : (first : ℕ) (rows : List OpenCall) (row : OpenCall) → first ≤ row.number → filter (is_before first) (rows ++ row ∷ []) ≡ filter (is_before first) rows
before_pushed first rows row later =
    filter_pushed (is_before first) rows row
    ∙ ap (λ (b : Bool). filter (is_before first) rows ++ (if b then row ∷ [] else [])) (after_is row.number first later)
    ∙ append_none (filter (is_before first) rows)
