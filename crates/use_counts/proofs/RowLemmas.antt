use Rattle.std.proofs.Common.{arith, ℕ, zero, suc, ◌+◌, ◌<◌, ◌≤◌, ◌≡◌, ◌==◌, ◌≢◌, ◌&&◌, ◌||◌, not, Bool, true, false, cond, nat_lt, zero-add, List, [], ◌∷◌, ◌++◌, map, count_by, refl, ap, ◌∙◌}
use Rattle.std.proofs.lemmas.Bool.{eq-eqb, ne_eqb, lt-ltb, ltb-true, ltb-false}
use Rattle.std.proofs.lemmas.List.Sums.{sum_by-cons, sum_by-append}
use Rattle.std.specs.List.{AllByRecursion, list_any}
use Rattle.use_counts.specs.declared.node.Edge.{Edge}
use Rattle.use_counts.specs.NodeRule.{opens, links, is_used, occurs}
use Rattle.use_counts.specs.Edges.{lower_end, upper_end, counted}
use Rattle.use_counts.specs.Network.{Network, edges_of, member_at, available_within, link_within, available, link, used_within, used, users}
use Rattle.use_counts.proofs.EdgeLemmas.{everywhere, counted_same}
use Rattle.use_counts.specs.Rows.{Standing, Faulty, Alone, Over, Ports, lowers_of, kind_of, standing_at, edge, edges_from, by_levels, row_opens, present_at, carries_at, row_available, row_links, row_link, names, standing_on, row_used}
use Rattle.use_counts.specs.Rows.{row_users}

some_more : (b t : Bool) (n c : ℕ) → c ≡ cond b 1 0 + n → nat_lt 0 n ≡ t → nat_lt 0 c ≡ (b || t)
some_more true t n c e h = lt-ltb 0 c (omega arith)
some_more false t n c e h = ap (nat_lt 0) (e ∙ zero-add n) ∙ h

some_pass : (f : ℕ → Bool) (xs : List ℕ) → nat_lt 0 (count_by f xs) ≡ list_any f xs
some_pass f [] = refl
some_pass f (x ∷ xs) = some_more (f x) (list_any f xs) (count_by f xs) (count_by f (x ∷ xs)) (sum_by-cons (λ (y : ℕ). cond (f y) 1 0) x xs) (some_pass f xs)

or_false : (b : Bool) → (b || false) ≡ b
or_false true = refl
or_false false = refl

pub counted-append : (far near : Edge → ℕ) (f : ℕ → Bool) (k : ℕ) (es fs : List Edge) → counted far near f (es ++ fs) k ≡ counted far near f es k + counted far near f fs k
unfolding counted
counted-append far near f k es fs = sum_by-append (λ e. cond ((far e == k) && f (near e)) 1 0) es fs

own_row : (f : ℕ → Bool) (u k : ℕ) (xs : List ℕ) → u ≡ k → counted upper_end lower_end f (map (edge u) xs) k ≡ count_by f xs
unfolding counted
own_row f u k [] e = refl
own_row f u k (x ∷ xs) e =
    let a = sum_by-cons (λ (y : Edge). cond ((y.upper == k) && f y.lower) 1 0) (edge u x) (map (edge u) xs) in
    let b = sum_by-cons (λ (y : ℕ). cond (f y) 1 0) x xs in
    let here = ap (λ t. let n : ℕ = cond (t && f x) 1 0 in n) (eq-eqb u k e) in
    omega (arith, a, b, here, own_row f u k xs e)

other_row : (f : ℕ → Bool) (u k : ℕ) (xs : List ℕ) → u ≢ k → counted upper_end lower_end f (map (edge u) xs) k ≡ 0
unfolding counted
other_row f u k [] ne = refl
other_row f u k (x ∷ xs) ne =
    let a = sum_by-cons (λ (y : Edge). cond ((y.upper == k) && f y.lower) 1 0) (edge u x) (map (edge u) xs) in
    let here = ap (λ t. let n : ℕ = cond (t && f x) 1 0 in n) (ne_eqb u k ne) in
    omega (arith, a, here, other_row f u k xs ne)

none_counted : (far near : Edge → ℕ) (f : ℕ → Bool) (k : ℕ) → counted far near f [] k ≡ 0
unfolding counted
none_counted far near f k = refl

later_rows : (f : ℕ → Bool) (u k : ℕ) (ss : List Standing) → k < u → counted upper_end lower_end f (edges_from u ss) k ≡ 0
later_rows f u k [] h = none_counted upper_end lower_end f k
later_rows f u k (s ∷ ss) h = omega (arith, counted-append upper_end lower_end f k (map (edge u) (lowers_of s)) (edges_from (u + 1) ss), other_row f u k (lowers_of s) (λ e. omega arith), later_rows f (u + 1) k ss (omega arith))

below_row : (f : ℕ → Bool) (u k n : ℕ) (ss : List Standing) → n ≡ u + k → counted upper_end lower_end f (edges_from u ss) n ≡ count_by f (lowers_of (standing_at ss k))
below_row f u k n [] e = none_counted upper_end lower_end f n
below_row f u zero n (s ∷ ss) e =
    omega (arith, counted-append upper_end lower_end f n (map (edge u) (lowers_of s)) (edges_from (u + 1) ss), own_row f u n (lowers_of s) (omega arith), later_rows f (u + 1) n ss (omega arith))
below_row f u (suc k) n (s ∷ ss) e =
    omega (arith, counted-append upper_end lower_end f n (map (edge u) (lowers_of s)) (edges_from (u + 1) ss), other_row f u n (lowers_of s) (λ d. omega arith), below_row f (u + 1) k n ss (omega arith))

one_above : (t b : Bool) (n c : ℕ) → c ≡ cond t 1 0 + n → cond (t && b) 1 0 + cond b n 0 ≡ cond b c 0
one_above true true n c e = omega arith
one_above true false n c e = refl
one_above false true n c e = omega arith
one_above false false n c e = refl

none_of : (b : Bool) → ◌≡◌ {A = ℕ} 0 (cond b 0 0)
none_of true = refl
none_of false = refl

own_above : (f : ℕ → Bool) (u k : ℕ) (xs : List ℕ) → counted lower_end upper_end f (map (edge u) xs) k ≡ cond (f u) (count_by (λ l. l == k) xs) 0
unfolding counted
own_above f u k [] = none_of (f u)
own_above f u k (x ∷ xs) =
    let a = sum_by-cons (λ (y : Edge). cond ((y.lower == k) && f y.upper) 1 0) (edge u x) (map (edge u) xs) in
    let b = sum_by-cons (λ (l : ℕ). cond (l == k) 1 0) x xs in
    omega (arith, a, one_above (x == k) (f u) (count_by (λ l. l == k) xs) (count_by (λ l. l == k) (x ∷ xs)) b, own_above f u k xs)

once : (b t : Bool) (n : ℕ) → n ≤ 1 → nat_lt 0 n ≡ t → ◌≡◌ {A = ℕ} (cond b n 0) (cond (b && t) 1 0)
once true true n few h = omega (arith, few, ltb-true 0 n h)
once true false n few h = omega (arith, ltb-false 0 n h)
once false t n few h = refl

-- above: the rows that stand on k
above_row : (f : ℕ → Bool) (k u : ℕ) (ss : List Standing) → AllByRecursion (λ s. (n : ℕ) → occurs n (lowers_of s) ≤ 1) ss → counted lower_end upper_end f (edges_from u ss) k ≡ standing_on f k u ss
above_row f k u [] h = none_counted lower_end upper_end f k
above_row f k u (s ∷ ss) h =
    let own = own_above f u k (lowers_of s) ∙ once (f u) (names s k) (count_by (λ l. l == k) (lowers_of s)) (h.0 k) (some_pass (λ l. l == k) (lowers_of s)) in
    omega (arith, counted-append lower_end upper_end f k (map (edge u) (lowers_of s)) (edges_from (u + 1) ss), own, above_row f k (u + 1) ss h.1)

opens_as : (present : Bool) (f : ℕ → Bool) (s : Standing) → opens (kind_of s) present (count_by f (lowers_of s)) ≡ row_opens present f s
unfolding opens
opens_as present f Faulty = refl
opens_as present f (Alone sound) = refl
opens_as present f (Over lower) = ap (λ b. not present && b) (some_pass f (lower ∷ []) ∙ or_false (f lower))
opens_as present f (Ports empty ports) = ap (λ b. not present && (empty || b)) (some_pass f ports)

links_as : (ready carries : Bool) (f : ℕ → Bool) (s : Standing) → links (kind_of s) ready carries (count_by f (lowers_of s)) ≡ row_links carries ready f s
unfolding links
links_as ready carries f Faulty = refl
links_as ready carries f (Alone sound) = refl
links_as ready carries f (Over lower) = ap (λ b. ready && b) (some_pass f (lower ∷ []) ∙ or_false (f lower))
links_as ready carries f (Ports empty ports) = ap (λ b. ready && b) (some_pass f ports)

-- a network whose edges count as those of some rows
pub record AreEdges (rows : List Standing) (net : Network) : Type 0 where
  pub kinds : (k : ℕ) → (member_at net.members k).kind ≡ kind_of (standing_at rows k)
  pub counts : (far near : Edge → ℕ) (f : ℕ → Bool) (k : ℕ) → counted far near f (edges_of net) k ≡ counted far near f (edges_from 0 rows) k
  pub once : AllByRecursion (λ s. (k : ℕ) → occurs k (lowers_of s) ≤ 1) rows

-- what is counted below k, where f and g answer alike
below_net : (rows : List Standing) (net : Network) (f g : ℕ → Bool) (k : ℕ) → AreEdges rows net → ((n : ℕ) → f n ≡ g n) → counted upper_end lower_end f (edges_of net) k ≡ count_by g (lowers_of (standing_at rows k))
below_net rows net f g k r same = counted_same upper_end lower_end g f k (edges_of net) (everywhere (λ e. same e.lower) (edges_of net)) ∙ r.counts upper_end lower_end g k ∙ below_row g 0 k k rows (omega arith)

above_net : (rows : List Standing) (net : Network) (f g : ℕ → Bool) (k : ℕ) → AreEdges rows net → ((n : ℕ) → f n ≡ g n) → counted lower_end upper_end f (edges_of net) k ≡ standing_on g k 0 rows
above_net rows net f g k r same = counted_same lower_end upper_end g f k (edges_of net) (everywhere (λ e. same e.upper) (edges_of net)) ∙ r.counts lower_end upper_end g k ∙ above_row g k 0 rows r.once

available_rows : (rows : List Standing) (net : Network) → AreEdges rows net → (levels k : ℕ) → available_within levels net k ≡ by_levels levels (λ below n. row_opens (present_at net n) below (standing_at rows n)) k
unfolding available_within by_levels
available_rows rows net r zero k = refl
available_rows rows net r (suc levels) k =
    let p = member_at net.members k in
    let below = by_levels levels (λ f n. row_opens (present_at net n) f (standing_at rows n)) in
    ap (λ kind. opens kind p.present (counted upper_end lower_end (available_within levels net) (edges_of net) k)) (r.kinds k)
    ∙ ap (opens (kind_of (standing_at rows k)) p.present) (below_net rows net (available_within levels net) below k r (available_rows rows net r levels))
    ∙ opens_as p.present below (standing_at rows k)

pub available_row : (rows : List Standing) (net : Network) → AreEdges rows net → (k : ℕ) → available net k ≡ row_available rows net k
unfolding available
available_row rows net r k = available_rows rows net r 8 k

link_rows : (rows : List Standing) (net : Network) → AreEdges rows net → (levels k : ℕ) → link_within levels net k ≡ by_levels levels (λ below n. row_links (carries_at net n) (row_available rows net n) below (standing_at rows n)) k
unfolding link_within by_levels
link_rows rows net r zero k = refl
link_rows rows net r (suc levels) k =
    let carries = carries_at net k in
    let below = by_levels levels (λ f n. row_links (carries_at net n) (row_available rows net n) f (standing_at rows n)) in
    let count = counted upper_end lower_end (link_within levels net) (edges_of net) k in
    ap (λ b. links (member_at net.members k).kind b carries count) (available_row rows net r k)
    ∙ ap (λ kind. links kind (row_available rows net k) carries count) (r.kinds k)
    ∙ ap (links (kind_of (standing_at rows k)) (row_available rows net k) carries) (below_net rows net (link_within levels net) below k r (link_rows rows net r levels))
    ∙ links_as (row_available rows net k) carries below (standing_at rows k)

pub link_row : (rows : List Standing) (net : Network) → AreEdges rows net → (k : ℕ) → link net k ≡ row_link rows net k
unfolding link
link_row rows net r k = link_rows rows net r 8 k

used_rows : (rows : List Standing) (net : Network) → AreEdges rows net → (levels k : ℕ) → used_within levels net k
    ≡ by_levels levels (λ above n. is_used (row_available rows net n) ((member_at net.members n).claims + standing_on above n 0 rows)) k
unfolding used_within by_levels
used_rows rows net r zero k = refl
used_rows rows net r (suc levels) k =
    let claims = (member_at net.members k).claims in
    let above = by_levels levels (λ f n. is_used (row_available rows net n) ((member_at net.members n).claims + standing_on f n 0 rows)) in
    ap (λ b. is_used b (claims + counted lower_end upper_end (used_within levels net) (edges_of net) k)) (available_row rows net r k)
    ∙ ap (λ n. is_used (row_available rows net k) (claims + n)) (above_net rows net (used_within levels net) above k r (used_rows rows net r levels))

pub used_row : (rows : List Standing) (net : Network) → AreEdges rows net → (k : ℕ) → used net k ≡ row_used rows net k
unfolding used
used_row rows net r k = used_rows rows net r 8 k

pub users_row : (rows : List Standing) (net : Network) → AreEdges rows net → (k : ℕ) → users net k ≡ row_users rows net k
unfolding users
users_row rows net r k =
    let claims = (member_at net.members k).claims in
    ap (λ b. cond b (claims + counted lower_end upper_end (used net) (edges_of net) k) 0) (available_row rows net r k)
    ∙ ap (λ n. cond (row_available rows net k) (claims + n) 0) (above_net rows net (used net) (row_used rows net) k r (used_row rows net r))
