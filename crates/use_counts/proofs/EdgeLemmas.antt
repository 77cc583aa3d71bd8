use Rattle.std.proofs.Common.{arith, subst, ℕ, ◌+◌, ◌-◌, ◌<◌, ◌≤◌, ◌≡◌, ◌==◌, ◌≢◌, ◌&&◌, ⊎_elim, Bool, true, false, cond, List, [], ◌∷◌, length, map, filter, refl, sym, ap, ◌∙◌}
use Rattle.std.proofs.lemmas.Bool.{cases_eq, eq-eqb, ne_eqb, true≢false, false≢true}
use Rattle.std.proofs.lemmas.List.{length-map}
use Rattle.std.proofs.lemmas.List.Sums.{sum_by-cons, length-filter, count_by-le-length}
use Rattle.std.specs.List.{AllByRecursion, All}
use Rattle.std.proofs.lemmas.List.Elements.{All-map, All-filter, All-from_recursion}
use Rattle.use_counts.specs.declared.node.Edge.{Edge}
use Rattle.use_counts.specs.NodeRule.{times, occurs}
use Rattle.use_counts.specs.Edges.{counted, joining, far_ends, edges_at}

pub at_each : (P : ℕ → Type 0) (place : ℕ) → P place → ((k : ℕ) → k ≢ place → P k) → (k : ℕ) → P k
at_each P place here others k = ⊎_elim (λ e. subst P (sym e) here) (others k) (cases_eq k place)

pub everywhere : {P : Edge → Type 0} → ((e : Edge) → P e) → (es : List Edge) → AllByRecursion P es
everywhere f [] = tt
everywhere f (e ∷ es) = (f e, everywhere f es)

pub each : {P Q : Edge → Type 0} → ((e : Edge) → P e → Q e) → (es : List Edge) → AllByRecursion P es → AllByRecursion Q es
each f [] h = h
each f (e ∷ es) h = (f e h.0, each f es h.1)

pub none_scaled : (b : Bool) → times b 0 ≡ 0
none_scaled true = refl
none_scaled false = refl

by_cases : (t a b : Bool) → cond (t && b) 1 0 + times a (cond (t && true) 1 0) ≡ cond (t && a) 1 0 + times b (cond (t && true) 1 0)
by_cases true true true = refl
by_cases true true false = refl
by_cases true false true = refl
by_cases true false false = refl
by_cases false true true = refl
by_cases false true false = refl
by_cases false false true = refl
by_cases false false false = refl

apart : (t v a b : Bool) → cond (t && v) 1 0 + times a (cond (t && false) 1 0) ≡ cond (t && v) 1 0 + times b (cond (t && false) 1 0)
apart true v true true = refl
apart true v true false = refl
apart true v false true = refl
apart true v false false = refl
apart false v true true = refl
apart false v true false = refl
apart false v false true = refl
apart false v false false = refl

at_it : (t : Bool) (f g : ℕ → Bool) (i n : ℕ) → n ≡ i → cond (t && g n) 1 0 + times (f i) (cond (t && (n == i)) 1 0) ≡ cond (t && f n) 1 0 + times (g i) (cond (t && (n == i)) 1 0)
at_it t f g i n e =
    subst (λ (m : ℕ). cond (t && g m) 1 0 + times (f i) (cond (t && (m == i)) 1 0) ≡ cond (t && f m) 1 0 + times (g i) (cond (t && (m == i)) 1 0)) (sym e)
    (subst (λ (b : Bool). cond (t && g i) 1 0 + times (f i) (cond (t && b) 1 0) ≡ cond (t && f i) 1 0 + times (g i) (cond (t && b) 1 0)) (sym (eq-eqb i i refl)) (by_cases t (f i) (g i)))

beside : (t : Bool) (f g : ℕ → Bool) (i n : ℕ) → (n ≢ i → g n ≡ f n) → n ≢ i → cond (t && g n) 1 0 + times (f i) (cond (t && (n == i)) 1 0) ≡ cond (t && f n) 1 0 + times (g i) (cond (t && (n == i)) 1 0)
beside t f g i n same ne =
    subst (λ (b : Bool). cond (t && g n) 1 0 + times (f i) (cond (t && b) 1 0) ≡ cond (t && f n) 1 0 + times (g i) (cond (t && b) 1 0)) (sym (ne_eqb n i ne))
    (subst (λ (h : Bool). cond (t && h) 1 0 + times (f i) (cond (t && false) 1 0) ≡ cond (t && f n) 1 0 + times (g i) (cond (t && false) 1 0)) (sym (same ne)) (apart t (f n) (f i) (g i)))

one_edge : (t : Bool) (f g : ℕ → Bool) (i n : ℕ) → (n ≢ i → g n ≡ f n) → cond (t && g n) 1 0 + times (f i) (cond (t && (n == i)) 1 0) ≡ cond (t && f n) 1 0 + times (g i) (cond (t && (n == i)) 1 0)
one_edge t f g i n same = ⊎_elim (at_it t f g i n) (beside t f g i n same) (cases_eq n i)

combine : (p q : Bool) (cg cf cj ag af aj bg bf bj : ℕ) → bg ≡ ag + cg → bf ≡ af + cf → bj ≡ aj + cj → ag + times p aj ≡ af + times q aj → cg + times p cj ≡ cf + times q cj → bg + times p bj ≡ bf + times q bj
combine true true cg cf cj ag af aj bg bf bj x y z h k = omega arith
combine true false cg cf cj ag af aj bg bf bj x y z h k = omega arith
combine false true cg cf cj ag af aj bg bf bj x y z h k = omega arith
combine false false cg cf cj ag af aj bg bf bj x y z h k = omega arith

pub counted_moves : (far near : Edge → ℕ) (f g : ℕ → Bool) (i k : ℕ) (es : List Edge) → AllByRecursion (λ e. near e ≢ i → g (near e) ≡ f (near e)) es → counted far near g es k + times (f i) (joining far near es i k)
    ≡ counted far near f es k + times (g i) (joining far near es i k)
unfolding counted joining
counted_moves far near f g i k [] same = omega (arith, none_scaled (f i), none_scaled (g i))
counted_moves far near f g i k (e ∷ es) same =
    let a = sum_by-cons (λ (x : Edge). cond ((far x == k) && g (near x)) 1 0) e es in
    let b = sum_by-cons (λ (x : Edge). cond ((far x == k) && f (near x)) 1 0) e es in
    let j = sum_by-cons (λ (x : Edge). cond ((far x == k) && (near x == i)) 1 0) e es in
    let here = one_edge (far e == k) f g i (near e) same.0 in
    let rest = counted_moves far near f g i k es same.1 in
    combine (f i) (g i) _ _ _ _ _ _ _ _ _ a b j here rest

at_end : (far : Edge → ℕ) (t b : Bool) (e : Edge) (es : List Edge) (old new k : ℕ) → occurs k (far e ∷ map far es) ≡ cond t 1 0 + occurs k (map far es) → occurs k (map far es) ≡ old → new ≡ cond (t && b) 1 0 + old
    → occurs k (map far (cond b (e ∷ es) es)) ≡ new
at_end far true true e es old new k a r j = omega (arith, a, r, j)
at_end far true false e es old new k a r j = omega (arith, a, r, j)
at_end far false true e es old new k a r j = omega (arith, a, r, j)
at_end far false false e es old new k a r j = omega (arith, a, r, j)

pub occurs_ends : (far near : Edge → ℕ) (es : List Edge) (i k : ℕ) → occurs k (far_ends far near es i) ≡ joining far near es i k
unfolding joining far_ends
occurs_ends far near [] i k = refl
occurs_ends far near (e ∷ es) i k =
    let rest = occurs_ends far near es i k in
    let j = sum_by-cons (λ (x : Edge). cond ((far x == k) && (near x == i)) 1 0) e es in
    let all = sum_by-cons (λ (x : ℕ). cond (x == k) 1 0) (far e) (far_ends far near es i) in
    at_end far (far e == k) (near e == i) e (filter (λ x. near x == i) es) _ _ k all rest j

pub length_ends : (far near : Edge → ℕ) (es : List Edge) (i : ℕ) → length (far_ends far near es i) ≡ edges_at near (λ n. n == i) es
unfolding far_ends edges_at
length_ends far near es i = length-map (filter (λ e. near e == i) es) far ∙ length-filter (λ e. near e == i) es

pub counted_same : (far near : Edge → ℕ) (f g : ℕ → Bool) (k : ℕ) (es : List Edge) → AllByRecursion (λ e. g (near e) ≡ f (near e)) es → counted far near g es k ≡ counted far near f es k
unfolding counted
counted_same far near f g k [] h = refl
counted_same far near f g k (e ∷ es) h =
    let a = sum_by-cons (λ (x : Edge). cond ((far x == k) && g (near x)) 1 0) e es in
    let b = sum_by-cons (λ (x : Edge). cond ((far x == k) && f (near x)) 1 0) e es in
    let here = ap (λ v. let n : ℕ = cond ((far e == k) && v) 1 0 in n) h.0 in
    let rest = counted_same far near f g k es h.1 in
    omega (arith, a, b, here, rest)

pub touching_same : (near : Edge → ℕ) (f g : ℕ → Bool) (es : List Edge) → AllByRecursion (λ e. g (near e) ≡ f (near e)) es → edges_at near g es ≡ edges_at near f es
unfolding edges_at
touching_same near f g [] h = refl
touching_same near f g (e ∷ es) h =
    let a = sum_by-cons (λ (x : Edge). cond (g (near x)) 1 0) e es in
    let b = sum_by-cons (λ (x : Edge). cond (f (near x)) 1 0) e es in
    let here = ap (λ v. let n : ℕ = cond v 1 0 in n) h.0 in
    let rest = touching_same near f g es h.1 in
    omega (arith, a, b, here, rest)

node_it : (f g : ℕ → Bool) (i n : ℕ) → f i ≡ false → g i ≡ true → n ≡ i → cond (g n) 1 0 ≡ cond (f n) 1 0 + cond (n == i) 1 0
node_it f g i n was now e =
    let a = ap (λ v. let m : ℕ = cond v 1 0 in m) (ap g e ∙ now) in
    let b = ap (λ v. let m : ℕ = cond v 1 0 in m) (ap f e ∙ was) in
    let j = ap (λ v. let m : ℕ = cond v 1 0 in m) (eq-eqb n i e) in
    omega (arith, a, b, j)

node_beside : (f g : ℕ → Bool) (i n : ℕ) → (n ≢ i → g n ≡ f n) → n ≢ i → cond (g n) 1 0 ≡ cond (f n) 1 0 + cond (n == i) 1 0
node_beside f g i n same ne =
    let a = ap (λ v. let m : ℕ = cond v 1 0 in m) (same ne) in
    let j = ap (λ v. let m : ℕ = cond v 1 0 in m) (ne_eqb n i ne) in
    omega (arith, a, j)

one_node : (f g : ℕ → Bool) (i n : ℕ) → (n ≢ i → g n ≡ f n) → f i ≡ false → g i ≡ true → cond (g n) 1 0 ≡ cond (f n) 1 0 + cond (n == i) 1 0
one_node f g i n same was now = ⊎_elim (node_it f g i n was now) (node_beside f g i n same) (cases_eq n i)

pub touching_more : (near : Edge → ℕ) (f g : ℕ → Bool) (i : ℕ) (es : List Edge) → AllByRecursion (λ e. near e ≢ i → g (near e) ≡ f (near e)) es → f i ≡ false → g i ≡ true → edges_at near g es ≡ edges_at near f es
    + edges_at near (λ n. n == i) es
unfolding edges_at
touching_more near f g i [] same was now = refl
touching_more near f g i (e ∷ es) same was now =
    let a = sum_by-cons (λ (x : Edge). cond (g (near x)) 1 0) e es in
    let b = sum_by-cons (λ (x : Edge). cond (f (near x)) 1 0) e es in
    let j = sum_by-cons (λ (x : Edge). cond (near x == i) 1 0) e es in
    let here = one_node f g i (near e) same.0 was now in
    let rest = touching_more near f g i es same.1 was now in
    omega (arith, a, b, j, here, rest)

pub edges_at-le-length : (near : Edge → ℕ) (f : ℕ → Bool) (es : List Edge) → edges_at near f es ≤ length es
unfolding edges_at
edges_at-le-length near f es = count_by-le-length (λ e. f (near e)) es

pub counted-le-length : (far near : Edge → ℕ) (f : ℕ → Bool) (es : List Edge) (k : ℕ) → counted far near f es k ≤ length es
unfolding counted
counted-le-length far near f es k = count_by-le-length (λ e. (far e == k) && f (near e)) es

pub joining-le-counted : (far near : Edge → ℕ) (f : ℕ → Bool) (i k : ℕ) (es : List Edge) → times (f i) (joining far near es i k) ≤ counted far near f es k
joining-le-counted far near f i k es =
    let g = λ (n : ℕ). cond (n == i) false (f n) in
    let moves = counted_moves far near f g i k es (everywhere (λ e ne. ap (λ b. cond b false (f (near e))) (ne_eqb (near e) i ne)) es) in
    let none = ap (λ b. times b (joining far near es i k)) (ap (λ b. cond b false (f i)) (eq-eqb i i refl)) in
    omega (arith, moves, none)

pub joining-le-length : (far near : Edge → ℕ) (es : List Edge) (i k : ℕ) → joining far near es i k ≤ length es
unfolding joining
joining-le-length far near es i k = count_by-le-length (λ e. (far e == k) && (near e == i)) es

never : (t : Bool) → ◌≡◌ {A = ℕ} (cond (t && false) 1 0) 0
never true = refl
never false = refl

pub joined_edge : (far near : Edge → ℕ) (R : ℕ → ℕ → Type 0) (i k : ℕ) (es : List Edge) → AllByRecursion (λ e. R (near e) (far e)) es → 0 < joining far near es i k → R i k
unfolding joining
joined_edge far near R i k [] h more = absurd (omega arith)
joined_edge far near R i k (e ∷ es) h more =
    let j = sum_by-cons (λ (x : Edge). cond ((far x == k) && (near x == i)) 1 0) e es in
    ⊎_elim
    (λ ef. ⊎_elim
    (λ en. subst (λ (x : ℕ). R x k) en (subst (λ (y : ℕ). R (near e) y) ef h.0))
    (λ ne. let none = ap (λ b. let n : ℕ = cond ((far e == k) && b) 1 0 in n) (ne_eqb (near e) i ne) ∙ never (far e == k) in joined_edge far near R i k es h.1 (omega (arith, j, none, more)))
    (cases_eq (near e) i))
    (λ nf. let none = ap (λ b. let n : ℕ = cond (b && (near e == i)) 1 0 in n) (ne_eqb (far e) k nf) in joined_edge far near R i k es h.1 (omega (arith, j, none, more)))
    (cases_eq (far e) k)

pub ends_pass : (far near : Edge → ℕ) (P : ℕ → Type 0) (i : ℕ) (es : List Edge) → AllByRecursion (λ e. P (far e)) es → All P (far_ends far near es i)
unfolding far_ends
ends_pass far near P i es h = All-map P far (filter (λ e. near e == i) es) (All-filter (λ e. near e == i) (λ e. P (far e)) es (All-from_recursion (λ e. P (far e)) es h))

follows : (m p q : Bool) (b r j c c' n : ℕ) → r ≡ b + c → c' + times p j ≡ c + times q j → times p j ≤ c → (m ≡ false → p ≡ q) → n ≡ times m j → (r + times q n) - times p n ≡ b + c'
follows true true true b r j c c' n x y d e f = omega arith
follows true true false b r j c c' n x y d e f = omega arith
follows true false true b r j c c' n x y d e f = omega arith
follows true false false b r j c c' n x y d e f = omega arith
follows false true true b r j c c' n x y d e f = omega arith
follows false true false b r j c c' n x y d e f = absurd (true≢false (e refl))
follows false false true b r j c c' n x y d e f = absurd (false≢true (e refl))
follows false false false b r j c c' n x y d e f = omega arith

pub count_follows : (far near : Edge → ℕ) (edges : List Edge) (place k b : ℕ) (f g : ℕ → Bool) (m : Bool) (r : ℕ) → AllByRecursion (λ e. near e ≢ place → g (near e) ≡ f (near e)) edges → (m ≡ false → f place ≡ g place) → r ≡ b
    + counted far near f edges k → (r + times (g place) (times m (occurs k (far_ends far near edges place)))) - times (f place) (times m (occurs k (far_ends far near edges place))) ≡ b + counted far near g edges k
count_follows far near edges place k b f g m r same still was =
    follows m (f place) (g place) b r (joining far near edges place k) _ _ _ was (counted_moves far near f g place k edges same) (joining-le-counted far near f place k edges) still (ap (times m) (occurs_ends far near edges place k))

pub nothing : (p q m : Bool) (r n : ℕ) → n ≡ 0 → (r + times q (times m n)) - times p (times m n) ≡ r
nothing true true true r n e = omega arith
nothing true true false r n e = omega arith
nothing true false true r n e = omega arith
nothing true false false r n e = omega arith
nothing false true true r n e = omega arith
nothing false true false r n e = omega arith
nothing false false true r n e = omega arith
nothing false false false r n e = omega arith
