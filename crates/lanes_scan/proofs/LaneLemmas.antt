-- From a vector that was computed lane by lane to the bits of a test of its lanes.
use Rattle.std.proofs.Common.{◌≡◌, ℕ, ◌+◌, ◌%◌, ◌^◌, ◌<◌, ◌≤◌, eqb, Bool, true, false, ◌||◌, cond, List, [], ◌∷◌, map, length, get_or, take, replicate, bit_or, Fits, w8, refl, sym, ap, ap₂, ◌∙◌, arith, inl, inr}
use Rattle.std.proofs.lemmas.Bool.{agree_below, agree_below_at, cases_eq, eq-eqb, ne_eqb}
use Rattle.std.proofs.lemmas.Simd.{map-map, mask_l-mod, zip2_splat, zip2_of_maps}
use Rattle.std.proofs.lemmas.List.{length-map}
use Rattle.std.proofs.lemmas.List.Folds.{list_any_more}
use Rattle.std.specs.Simd.Lanes.{Each1, zip2, mask_l, top}
use Rattle.lanes_scan.specs.ByteTest.{is_stop}

-- what a mask has in a lane
abbrev pub lane_of : Bool → ℕ
lane_of found = cond found 255 0

-- two tests that agree on each byte give the same of lanes that are bytes
same_of_bytes : (p q : ℕ → Bool) → agree_below p q 256 ≡ true → (lanes : List ℕ) → Each1 (Fits w8) lanes → map p lanes ≡ map q lanes
same_of_bytes p q agree [] fits = refl
same_of_bytes p q agree (x ∷ xs) fits = ap₂ (λ b bs. b ∷ bs) (agree_below_at p q 256 x agree fits.0.fits) (same_of_bytes p q agree xs fits.1)

-- the bits of a vector whose lane is f of the lane of a load, where the top bit of f tells the test
pub mask_of_test : (test : ℕ → Bool) (f : ℕ → ℕ) (lanes z : List ℕ) → length lanes ≤ 64 → Each1 (Fits w8) lanes → z ≡ map f lanes
    → agree_below (λ x. top 7 (f x)) test 256 ≡ true → mask_l (map (top 7) z) % 2 ^ 64 ≡ mask_l (map test lanes)
mask_of_test test f lanes z few fits computed agree =
    let tops : map (top 7) z ≡ map test lanes =
    ap (map (top 7)) computed ∙ map-map (top 7) f lanes ∙ same_of_bytes (λ x. top 7 (f x)) test agree lanes fits in
    ap (λ (bits : List Bool). mask_l bits % 2 ^ 64) tops ∙ mask_l-mod (map test lanes) 64 (omega (arith, length-map lanes test))

top-lane_of : (found : Bool) → top 7 (lane_of found) ≡ found
top-lane_of true = refl
top-lane_of false = refl

bit_or-lane_of : (a b : Bool) → bit_or (lane_of a) (lane_of b) ≡ lane_of (a || b)
bit_or-lane_of true true = refl
bit_or-lane_of true false = refl
bit_or-lane_of false true = refl
bit_or-lane_of false false = refl

map_same : {X Y : Type 0} (f g : X → Y) → ((x : X) → f x ≡ g x) → (xs : List X) → map f xs ≡ map g xs
map_same f g same [] = refl
map_same f g same (x ∷ xs) = ap₂ (λ y ys. y ∷ ys) (same x) (map_same f g same xs)

-- the bits of a mask that has the answers of a test in its lanes
pub mask_of_answers : (test : ℕ → Bool) (lanes z : List ℕ) → length lanes ≤ 64 → z ≡ map (λ x. lane_of (test x)) lanes
    → mask_l (map (top 7) z) % 2 ^ 64 ≡ mask_l (map test lanes)
mask_of_answers test lanes z few computed =
    let tops : map (top 7) z ≡ map test lanes =
    ap (map (top 7)) computed ∙ map-map (top 7) (λ x. lane_of (test x)) lanes ∙ map_same _ test (λ x. top-lane_of (test x)) lanes in
    ap (λ (bits : List Bool). mask_l bits % 2 ^ 64) tops ∙ mask_l-mod (map test lanes) 64 (omega (arith, length-map lanes test))

eqb_comm : (a b : ℕ) → eqb a b ≡ eqb b a
eqb_comm a b =
    elim (cases_eq a b) [
      | inl same ↦ eq-eqb a b same ∙ sym (eq-eqb b a (sym same))
      | inr other ↦ ne_eqb a b other ∙ sym (ne_eqb b a (λ same. other (sym same)))
    ]

-- the mask of one more stop
pub one_more_stop : (stops lanes found : List ℕ) (i : ℕ) → i < length stops → length lanes ≡ 16
    → found ≡ map (λ x. lane_of (is_stop (take i stops) x)) lanes
    → zip2 bit_or found (zip2 (λ a b. cond (eqb a b) 255 0) lanes (replicate 16 (get_or stops i 0)))
    ≡ map (λ x. lane_of (is_stop (take (i + 1) stops) x)) lanes
one_more_stop stops lanes found i inside long before =
    let stop = get_or stops i 0 in
    zip2_of_maps bit_or _ _ lanes before (zip2_splat (λ a b. cond (eqb a b) 255 0) lanes 16 stop long)
    ∙ map_same _ _ (λ (x : ℕ).
    bit_or-lane_of (is_stop (take i stops) x) (eqb x stop)
    ∙ ap (λ (b : Bool). lane_of (is_stop (take i stops) x || b)) (eqb_comm x stop)
    ∙ ap lane_of (sym (list_any_more (λ s. eqb s x) stops i 0 inside))) lanes
