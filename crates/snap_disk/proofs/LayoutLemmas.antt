-- What calls make of a layout.
use Rattle.std.proofs.Common.{◌≡◌, ℕ, zero, suc, ◌+◌, ◌≤◌, max, List, [], ◌∷◌, ◌++◌, length, refl, sym, ◌∙◌, ap, subst, arith}
use Rattle.plane_disk.specs.Files.{Files, bytes_of, IsTorn, TornAt, AtFile}
use Rattle.snap_disk.specs.Phase.{Layout, files_of, AnyGate, AnySecondGate, AnyBody, IsFilled}

-- two files and the packages
pub two_and_rest : (c : Files) (g b : List ℕ) (ps : Files) → length c ≡ length ps + 2 → bytes_of c 0 ≡ g → bytes_of c 1 ≡ b → (qs : Files) × (c ≡ g ∷ b ∷ qs) × (length qs ≡ length ps) × ((k : ℕ) → bytes_of qs k ≡ bytes_of c (k + 2))
two_and_rest [] g b ps n e0 e1 = absurd (omega (arith, n))
two_and_rest (x0 ∷ []) g b ps n e0 e1 = absurd (omega (arith, n))
two_and_rest (x0 ∷ x1 ∷ qs) g b ps n e0 e1 = (qs, (λ i. e0 i ∷ e1 i ∷ qs), omega (arith, n), λ k. let e : k + 2 ≡ suc (suc k) = omega arith in ap (λ (j : ℕ). bytes_of (x0 ∷ x1 ∷ qs) j) (sym e))

-- packages that are equal place by place
pub same_packages : (ps qs : Files) → length qs ≡ length ps → ((k : ℕ) → bytes_of qs k ≡ bytes_of ps k) → qs ≡ ps
same_packages [] [] n same = refl
same_packages [] (y ∷ qs) n same = absurd (omega (arith, n))
same_packages (x ∷ ps) [] n same = absurd (omega (arith, n))
same_packages (x ∷ ps) (y ∷ qs) n same =
    let rest = same_packages ps qs (omega (arith, n)) (λ k. same (suc k)) in
    let first : y ≡ x = same zero in
    λ i. first i ∷ rest i

-- only the front two files may differ
pub front_two : (l : Layout) (c : Files) (g b : List ℕ) → length c ≡ length l.packages + 2 → bytes_of c 0 ≡ g → bytes_of c 1 ≡ b → ((k : ℕ) → bytes_of c (k + 2) ≡ bytes_of l.packages k) → c ≡ g ∷ b ∷ l.packages
front_two l c g b n e0 e1 same =
    let parts = two_and_rest c g b l.packages n e0 e1 in
    parts.1 ∙ ap (λ (qs : Files). g ∷ b ∷ qs) (same_packages l.packages parts.0 parts.2 (λ k. parts.3 k ∙ same k))

pub package_at : (l : Layout) (k : ℕ) → bytes_of (files_of l) (k + 2) ≡ bytes_of l.packages k
package_at l k = let e : k + 2 ≡ suc (suc k) = omega arith in ap (λ (j : ℕ). bytes_of (files_of l) j) e

pub count_of : (l : Layout) → length (files_of l) ≡ length l.packages + 2
count_of l = omega arith

-- a torn byte of two
first_of_two : (g : List ℕ) (a b : ℕ) → IsTorn 0 1 (a ∷ b ∷ []) g → (x : ℕ) × (g ≡ x ∷ b ∷ [])
first_of_two [] a b torn = absurd (omega (arith, torn.no_shorter))
first_of_two (x ∷ []) a b torn = absurd (omega (arith, torn.no_shorter))
first_of_two (x ∷ y ∷ []) a b torn = (x, ap (λ (l : List ℕ). x ∷ l) torn.behind)
first_of_two (x ∷ y ∷ z ∷ g) a b torn = absurd (omega (arith, torn.no_longer))

second_of_two : (g : List ℕ) (a b : ℕ) → IsTorn 1 1 (a ∷ b ∷ []) g → (x : ℕ) × (g ≡ a ∷ x ∷ [])
second_of_two [] a b torn = absurd (omega (arith, torn.no_shorter))
second_of_two (x ∷ []) a b torn = absurd (omega (arith, torn.no_shorter))
second_of_two (x ∷ y ∷ []) a b torn = (y, ap (λ (l : List ℕ). l ++ y ∷ []) torn.before)
second_of_two (x ∷ y ∷ z ∷ g) a b torn = absurd (omega (arith, torn.no_longer))

torn_gate : (l : Layout) (c : Files) → TornAt 0 0 1 (files_of l) c → AnyGate l c
torn_gate l c step =
    let gate = first_of_two (bytes_of c 0) l.gate l.second_gate step.here in
    (gate.0, front_two l c _ _ (step.count ∙ count_of l) gate.1 (step.others 1 (omega arith)) (λ k. step.others (k + 2) (omega arith) ∙ package_at l k))

torn_second_gate : (l : Layout) (c : Files) → TornAt 0 1 1 (files_of l) c → AnySecondGate l c
torn_second_gate l c step =
    let gate = second_of_two (bytes_of c 0) l.gate l.second_gate step.here in
    (gate.0, front_two l c _ _ (step.count ∙ count_of l) gate.1 (step.others 1 (omega arith)) (λ k. step.others (k + 2) (omega arith) ∙ package_at l k))

-- a gate that is torn stays torn
pub gate_outlives : (l : Layout) (d c : Files) → AnyGate l d → TornAt 0 0 1 d c → AnyGate l c
gate_outlives l d c any step = torn_gate (record l { gate = any.0 }) c (subst (λ (f : Files). TornAt 0 0 1 f c) any.1 step)

pub second_gate_outlives : (l : Layout) (d c : Files) → AnySecondGate l d → TornAt 0 1 1 d c → AnySecondGate l c
second_gate_outlives l d c any step = torn_second_gate (record l { second_gate = any.0 }) c (subst (λ (f : Files). TornAt 0 1 1 f c) any.1 step)

-- a file that is filled
pub filled_same : (file size : ℕ) (c : Files) → IsFilled file size c c
filled_same file size c = record { count = refl; others = λ other apart. refl; small = omega arith }

pub filled_step : (file size : ℕ) (step : List ℕ → List ℕ → Type 0) (e d c : Files) → IsFilled file size e d → AtFile file step d c → length (bytes_of c file) ≤ max (length (bytes_of d file)) size → IsFilled file size e c
filled_step file size step e d c filled at small = record { count = at.count ∙ filled.count; others = λ other apart. at.others other apart ∙ filled.others other apart; small = omega (arith, filled.small, small) }

pub body_outlives : (l : Layout) (size : ℕ) (d c : Files) → AnyBody l d → IsFilled 1 size d c → AnyBody l c
body_outlives l size d c any filled =
    let b : IsFilled 1 size (files_of (record l { body = any.0 })) c = subst (λ (f : Files). IsFilled 1 size f c) any.1 filled in
    (bytes_of c 1, front_two l c _ _ (b.count ∙ count_of l) (b.others 0 (omega arith)) refl (λ k. b.others (k + 2) (omega arith) ∙ package_at (record l { body = any.0 }) k))
