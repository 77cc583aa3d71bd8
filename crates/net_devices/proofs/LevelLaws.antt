-- The level that is looked for is the level that a name is on.
use Rattle.std.proofs.Common.{ℕ, zero, suc, ◌≡◌, ◌+◌, ◌<◌, ◌≤◌, Bool, true, false, List, [], ◌∷◌, map, refl, sym, ◌∙◌, ap, subst, arith}
use Rattle.std.specs.Prelude.{fold, max}
use Rattle.std.proofs.Math.Nat.{le-max_left, le-max_right, max-le, lt_of_not-le}
use Rattle.net_devices.specs.declared.said.Said.{Said}
use Rattle.net_devices.specs.declared.levels.TheConstants.{MOST_LEVELS}
use Rattle.net_devices.specs.Levels.{is_bridge, below, highest, level_over, level_within, level, IsOnLevel, AreOnLevels, over, none, next}

-- a fold of maxima is not below its start, and not below the same fold from a lower start
start_below : (top : ℕ) (xs : List ℕ) → top ≤ fold max top xs
start_below top [] = omega arith
start_below top (x ∷ xs) = let a : top ≤ max top x = le-max_left top x in let b : max top x ≤ fold max (max top x) xs = start_below (max top x) xs in omega (arith, a, b)

rises : (low top : ℕ) (xs : List ℕ) → low ≤ top → fold max low xs ≤ fold max top xs
rises low top [] h = h
rises low top (x ∷ xs) h = rises (max low x) (max top x) xs (max-le (let a : top ≤ max top x = le-max_left top x in omega (arith, a)) (le-max_right top x))

first_at_most : (x bound : ℕ) (xs : List ℕ) → highest (x ∷ xs) ≤ bound → x ≤ bound
first_at_most x bound xs h = let a : x ≤ max 0 x = le-max_right 0 x in let b : max 0 x ≤ fold max (max 0 x) xs = start_below (max 0 x) xs in omega (arith, a, b)

others_at_most : (x bound : ℕ) (xs : List ℕ) → highest (x ∷ xs) ≤ bound → highest xs ≤ bound
others_at_most x bound xs h = let a : fold max 0 xs ≤ fold max (max 0 x) xs = rises 0 (max 0 x) xs (omega arith) in omega (arith, a)

all_at_most : (top bound : ℕ) (xs : List ℕ) → top ≤ bound → fold max 0 xs ≤ bound → fold max top xs ≤ bound
all_at_most top bound [] h k = h
all_at_most top bound (x ∷ xs) h k = all_at_most (max top x) bound xs (max-le h (first_at_most x bound xs k)) (others_at_most x bound xs k)

one_above : (bridge : Bool) (top : ℕ) → top + 1 ≤ level_over bridge top
one_above true top = let a : top ≤ max top 1 = le-max_left top 1 in omega (arith, a)
one_above false top = omega arith

not_above : (bridge : Bool) (top bound : ℕ) → top ≤ bound → 1 ≤ bound → level_over bridge top ≤ bound + 1
not_above true top bound h k = let a : max top 1 ≤ bound = max-le h k in omega (arith, a)
not_above false top bound h k = omega arith

-- what is looked for so many levels down is at most one more
all_within : (said : List Said) (more : ℕ) (names : List (List ℕ)) → ((name : List ℕ) → level_within said more name ≤ more + 1) → highest (map (level_within said more) names) ≤ more + 1
all_within said more [] h = omega arith
all_within said more (name ∷ names) h = all_at_most (max 0 (level_within said more name)) (more + 1) (map (level_within said more) names) (max-le (omega arith) (h name)) (all_within said more names h)

pub within_bound : (said : List Said) (more : ℕ) (name : List ℕ) → level_within said more name ≤ more + 1
within_bound said zero name = omega arith
within_bound said (suc more) name = let a : level_over (is_bridge said name) (highest (map (level_within said more) (below said name))) ≤ (more + 1) + 1 =
    not_above (is_bridge said name) (highest (map (level_within said more) (below said name))) (more + 1) (all_within said more (below said name) (within_bound said more)) (omega arith) in omega (arith, a)

-- a level that was found is one that the name is on
all_found : (said : List Said) (more : ℕ) (names : List (List ℕ)) → ((name : List ℕ) → level_within said more name ≤ more → IsOnLevel said name (level_within said more name)) → highest (map (level_within said more) names) ≤ more
    → AreOnLevels said names (map (level_within said more) names)
all_found said more [] h k = none [] [] refl refl
all_found said more (name ∷ names) h k =
    let levels : List ℕ = map (level_within said more) names in
    next name (level_within said more name) names (name ∷ names) levels (level_within said more name ∷ levels) refl refl
    (h name (first_at_most (level_within said more name) more levels k))
    (all_found said more names h (others_at_most (level_within said more name) more levels k))

pub found : (said : List Said) (more : ℕ) (name : List ℕ) → level_within said more name ≤ more → IsOnLevel said name (level_within said more name)
found said zero name h = absurd (let a : 1 ≤ 0 = h in omega (arith, a))
found said (suc more) name h =
    let top : ℕ = highest (map (level_within said more) (below said name)) in
    let a : top + 1 ≤ level_over (is_bridge said name) top = one_above (is_bridge said name) top in
    let b : level_over (is_bridge said name) top ≤ suc more = h in
    over name (level_over (is_bridge said name) top) (map (level_within said more) (below said name)) (all_found said more (below said name) (found said more) (omega (arith, a, b))) refl

-- a level that the name is on is found
cons_same : (x y : ℕ) (xs ys : List ℕ) → x ≡ y → xs ≡ ys → x ∷ xs ≡ y ∷ ys
cons_same x y xs ys e f = cc

all_kept : (said : List Said) (more : ℕ) (names : List (List ℕ)) (levels : List ℕ) → ((name : List ℕ) (n : ℕ) → IsOnLevel said name n → n ≤ more → level_within said more name ≡ n) → AreOnLevels said names levels → highest levels ≤ more
    → map (level_within said more) names ≡ levels
all_kept said more names levels h (none _ _ e f) k = ap (map (level_within said more)) e ∙ sym f
all_kept said more names levels h (next name n others _ lower _ e f on rest) k =
    let k' : highest (n ∷ lower) ≤ more = subst (λ (z : List ℕ). highest z ≤ more) f k in
    ap (map (level_within said more)) e
    ∙ cons_same (level_within said more name) n (map (level_within said more) others) lower (h name n on (first_at_most n more lower k')) (all_kept said more others lower h rest (others_at_most n more lower k'))
    ∙ sym f

pub kept : (said : List Said) (more : ℕ) (name : List ℕ) (n : ℕ) → IsOnLevel said name n → n ≤ more → level_within said more name ≡ n
kept said zero name n (over _ _ levels are is) h =
    absurd (let a : highest levels + 1 ≤ level_over (is_bridge said name) (highest levels) = one_above (is_bridge said name) (highest levels) in omega (arith, a, is, h))
kept said (suc more) name n (over _ _ levels are is) h =
    let a : highest levels + 1 ≤ level_over (is_bridge said name) (highest levels) = one_above (is_bridge said name) (highest levels) in
    let bound : highest levels ≤ more = omega (arith, a, is, h) in
    ap (λ (z : List ℕ). level_over (is_bridge said name) (highest z)) (all_kept said more (below said name) levels (kept said more) are bound) ∙ sym is

pub level_found : (said : List Said) (name : List ℕ) (n : ℕ) → level said name ≡ n → n ≤ MOST_LEVELS → IsOnLevel said name n
level_found said name n is h = subst (IsOnLevel said name) is (found said MOST_LEVELS name (let a : level said name ≤ MOST_LEVELS = omega (arith, is, h) in a))

pub level_kept : (said : List Said) (name : List ℕ) (n : ℕ) → IsOnLevel said name n → n ≤ MOST_LEVELS → level said name ≡ n
level_kept said name n on h = kept said MOST_LEVELS name n on h

-- a name that is on no level up to the most
pub too_high : (said : List Said) (name : List ℕ) → level said name ≡ MOST_LEVELS + 1 → (n : ℕ) → IsOnLevel said name n → MOST_LEVELS < n
too_high said name is n on = lt_of_not-le (λ (low : n ≤ MOST_LEVELS). let same : level said name ≡ n = level_kept said name n on low in omega (arith, is, same, low))

pub on_none : (said : List Said) (name : List ℕ) → ((n : ℕ) → IsOnLevel said name n → MOST_LEVELS < n) → level said name ≡ MOST_LEVELS + 1
on_none said name h =
    let bound : level said name ≤ MOST_LEVELS + 1 = within_bound said MOST_LEVELS name in
    let high : MOST_LEVELS < level said name = lt_of_not-le (λ (low : level said name ≤ MOST_LEVELS). let a : MOST_LEVELS < level said name = h (level said name) (level_found said name (level said name) refl low) in omega (arith, a, low))
    in
    omega (arith, bound, high)
