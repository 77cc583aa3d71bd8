-- edges to the ports of radios are those of rows that have these ports
use Rattle.std.proofs.Common.{arith, ⊎_elim, ℕ, zero, suc, ◌+◌, ◌-◌, ◌<◌, ◌≤◌, ◌≡◌, ◌==◌, ◌&&◌, Bool, true, false, cond, nat_lt, List, [], ◌∷◌, map, filter, count_by, refl, sym, ap, ◌∙◌}
use Rattle.std.proofs.lemmas.Bool.{cases_eq, cases_lt, eq-eqb, ne_eqb, lt-ltb, le-ltb, false≢true}
use Rattle.std.proofs.lemmas.List.{map-append}
use Rattle.std.proofs.lemmas.List.Sums.{sum_by-cons, sum_by-append}
use Rattle.std.specs.List.{AllByRecursion}
use Rattle.use_counts.specs.declared.node.Edge.{Edge}
use Rattle.use_counts.specs.Edges.{lower_end, upper_end, counted, far_ends}
use Rattle.use_counts.specs.Network.{Network}
use Rattle.use_counts.specs.Rows.{Standing, Faulty, Alone, Over, Ports, lowers_of, kind_of, standing_at, edge, edges_from, is_bridge, with_more, joined_from, joined, AreRows}
use Rattle.use_counts.proofs.EdgeLemmas.{each}
use Rattle.use_counts.proofs.RowLemmas.{AreEdges, counted-append}

no_pass : (b : Bool) → ◌≡◌ {A = ℕ} (cond (b && false) 1 0) 0
no_pass true = refl
no_pass false = refl

own_pass : (b : Bool) → ◌≡◌ {A = ℕ} (cond (b && true) 1 0) (cond b 1 0)
own_pass true = refl
own_pass false = refl

given_case : (t : Edge → Bool) (u : ℕ) (b : Bool) (e : Edge) (es : List Edge) (rest total : ℕ) → (b ≡ true → t (edge u e.lower) ≡ t e) → count_by t (map (edge u) (map lower_end es)) ≡ rest → total ≡ cond (t e && b) 1 0 + rest
    → count_by t (map (edge u) (map lower_end (cond b (e ∷ es) es))) ≡ total
given_case t u true e es rest total same r j =
    omega (arith, sum_by-cons (λ (x : Edge). cond (t x) 1 0) (edge u e.lower) (map (edge u) (map lower_end es)), ap (λ b. let n : ℕ = cond b 1 0 in n) (same refl), own_pass (t e), r, j)
given_case t u false e es rest total same r j = omega (arith, no_pass (t e), r, j)

same_edge : (t : Edge → Bool) (u : ℕ) (e : Edge) → (e.upper == u) ≡ true → t (edge u e.lower) ≡ t e
same_edge t u e is = ⊎_elim (λ (d : e.upper ≡ u). ap (λ n. t (edge n e.lower)) (sym d)) (λ ne. absurd (false≢true (sym (ne_eqb e.upper u ne) ∙ is))) (cases_eq e.upper u)

-- the ports that radios give to a row
given_at : (t : Edge → Bool) (u : ℕ) (ports : List Edge) → count_by t (map (edge u) (far_ends lower_end upper_end ports u)) ≡ count_by (λ e. t e && (e.upper == u)) ports
unfolding far_ends
given_at t u [] = refl
given_at t u (e ∷ es) =
    given_case t u (e.upper == u) e (filter (λ x. x.upper == u) es) _ _ (same_edge t u e) (given_at t u es) (sum_by-cons (λ (x : Edge). cond (t x && (x.upper == u)) 1 0) e es)

none_given : (t : Edge → Bool) (u : ℕ) (ports : List Edge) → AllByRecursion (λ e. e.upper ≡ u → ◌≡◌ {A = Bool} false true) ports → count_by (λ e. t e && (e.upper == u)) ports ≡ 0
none_given t u [] h = refl
none_given t u (e ∷ es) h =
    let here : ◌≡◌ {A = ℕ} (cond (t e && (e.upper == u)) 1 0) 0 = ⊎_elim (λ d. absurd (false≢true (h.0 d))) (λ ne. ap (λ b. let n : ℕ = cond (t e && b) 1 0 in n) (ne_eqb e.upper u ne) ∙ no_pass (t e)) (cases_eq e.upper u) in
    omega (arith, sum_by-cons (λ (x : Edge). cond (t x && (x.upper == u)) 1 0) e es, here, none_given t u es h.1)

row_given : (t : Edge → Bool) (u : ℕ) (s : Standing) (ports : List Edge) → AllByRecursion (λ e. e.upper ≡ u → is_bridge s ≡ true) ports
    → count_by t (map (edge u) (lowers_of (with_more s (far_ends lower_end upper_end ports u)))) ≡ count_by t (map (edge u) (lowers_of s)) + count_by (λ e. t e && (e.upper == u)) ports
row_given t u Faulty ports h = omega (arith, none_given t u ports h)
row_given t u (Alone sound) ports h = omega (arith, none_given t u ports h)
row_given t u (Over lower) ports h = omega (arith, none_given t u ports h)
row_given t u (Ports empty own) ports h =
    let more = far_ends lower_end upper_end ports u in
    ap (count_by t) (map-append (edge u) own more) ∙ sum_by-append (λ (e : Edge). cond (t e) 1 0) (map (edge u) own) (map (edge u) more) ∙ ap (λ n. count_by t (map (edge u) own) + n) (given_at t u ports)

-- an edge from a row of the number or a later one
one_split : (b : Bool) (u n : ℕ) → cond (b && nat_lt u (n + 1)) 1 0 ≡ cond (b && (n == u)) 1 0 + cond (b && nat_lt (u + 1) (n + 1)) 1 0
one_split b u n =
    ⊎_elim
    (λ (e : n ≡ u).
    omega (
      arith,
      ap (λ x. let m : ℕ = cond (b && x) 1 0 in m) (lt-ltb u (n + 1) (omega (arith, e))),
      ap (λ x. let m : ℕ = cond (b && x) 1 0 in m) (eq-eqb n u e),
      ap (λ x. let m : ℕ = cond (b && x) 1 0 in m) (le-ltb (u + 1) (n + 1) (omega (arith, e))),
      no_pass b,
    ))
    (λ ne. ⊎_elim
    (λ (h : u < n). omega (
      arith,
      ap (λ x. let m : ℕ = cond (b && x) 1 0 in m) (lt-ltb u (n + 1) (omega (arith, h))),
      ap (λ x. let m : ℕ = cond (b && x) 1 0 in m) (ne_eqb n u ne),
      ap (λ x. let m : ℕ = cond (b && x) 1 0 in m) (lt-ltb (u + 1) (n + 1) (omega (arith, h))),
      no_pass b,
    ))
    (λ (h : n ≤ u). omega (
      arith,
      ap (λ x. let m : ℕ = cond (b && x) 1 0 in m) (le-ltb u (n + 1) (omega (arith, h, ne))),
      ap (λ x. let m : ℕ = cond (b && x) 1 0 in m) (ne_eqb n u ne),
      ap (λ x. let m : ℕ = cond (b && x) 1 0 in m) (le-ltb (u + 1) (n + 1) (omega (arith, h))),
      no_pass b,
    ))
    (cases_lt u n))
    (cases_eq n u)

split_ports : (t : Edge → Bool) (u : ℕ) (es : List Edge) → count_by (λ e. t e && nat_lt u (e.upper + 1)) es ≡ count_by (λ e. t e && (e.upper == u)) es + count_by (λ e. t e && nat_lt (u + 1) (e.upper + 1)) es
split_ports t u [] = refl
split_ports t u (e ∷ es) =
    omega (
      arith,
      sum_by-cons (λ (x : Edge). cond (t x && nat_lt u (x.upper + 1)) 1 0) e es,
      sum_by-cons (λ (x : Edge). cond (t x && (x.upper == u)) 1 0) e es,
      sum_by-cons (λ (x : Edge). cond (t x && nat_lt (u + 1) (x.upper + 1)) 1 0) e es,
      one_split (t e) u e.upper,
      split_ports t u es,
    )

none_later : (t : Edge → Bool) (u : ℕ) (es : List Edge) → AllByRecursion (λ e. u ≤ e.upper → ◌≡◌ {A = Bool} false true) es → count_by (λ e. t e && nat_lt u (e.upper + 1)) es ≡ 0
none_later t u [] h = refl
none_later t u (e ∷ es) h =
    let here : ◌≡◌ {A = ℕ} (cond (t e && nat_lt u (e.upper + 1)) 1 0) 0 =
    ⊎_elim (λ (d : e.upper < u). ap (λ b. let n : ℕ = cond (t e && b) 1 0 in n) (le-ltb u (e.upper + 1) (omega (arith, d))) ∙ no_pass (t e)) (λ d. absurd (false≢true (h.0 d))) (cases_lt e.upper u) in
    omega (arith, sum_by-cons (λ (x : Edge). cond (t x && nat_lt u (x.upper + 1)) 1 0) e es, here, none_later t u es h.1)

first_place : (s : Standing) (ss : List Standing) (u n : ℕ) → n ≡ u → standing_at (s ∷ ss) (n - u) ≡ s
first_place s ss u n e = ap (standing_at (s ∷ ss)) (let zero_left : n - u ≡ 0 = omega (arith, e) in zero_left)

later_place : (s : Standing) (ss : List Standing) (u n : ℕ) → u + 1 ≤ n → standing_at (s ∷ ss) (n - u) ≡ standing_at ss (n - (u + 1))
later_place s ss u n h = ap (standing_at (s ∷ ss)) (let more : n - u ≡ suc (n - (u + 1)) = omega (arith, h) in more)

all_given : (t : Edge → Bool) (u : ℕ) (rows : List Standing) (ports : List Edge) → AllByRecursion (λ e. u ≤ e.upper → is_bridge (standing_at rows (e.upper - u)) ≡ true) ports
    → count_by t (edges_from u (joined_from u ports rows)) ≡ count_by t (edges_from u rows) + count_by (λ e. t e && nat_lt u (e.upper + 1)) ports
all_given t u [] ports h = omega (arith, none_later t u ports h)
all_given t u (s ∷ ss) ports h =
    let more = far_ends lower_end upper_end ports u in
    let here = row_given t u s ports (each (λ e d is. sym (ap is_bridge (first_place s ss u e.upper is)) ∙ d (omega (arith, is))) ports h) in
    let rest = all_given t (u + 1) ss ports (each (λ e d up. sym (ap is_bridge (later_place s ss u e.upper up)) ∙ d (omega (arith, up))) ports h) in
    omega (
      arith,
      here,
      rest,
      split_ports t u ports,
      sum_by-append (λ (e : Edge). cond (t e) 1 0) (map (edge u) (lowers_of (with_more s more))) (edges_from (u + 1) (joined_from (u + 1) ports ss)),
      sum_by-append (λ (e : Edge). cond (t e) 1 0) (map (edge u) (lowers_of s)) (edges_from (u + 1) ss),
    )

all_later : (t : Edge → Bool) (es : List Edge) → count_by (λ e. t e && nat_lt 0 (e.upper + 1)) es ≡ count_by t es
all_later t [] = refl
all_later t (e ∷ es) =
    omega (
      arith,
      sum_by-cons (λ (x : Edge). cond (t x && nat_lt 0 (x.upper + 1)) 1 0) e es,
      sum_by-cons (λ (x : Edge). cond (t x) 1 0) e es,
      ap (λ b. let n : ℕ = cond (t e && b) 1 0 in n) (lt-ltb 0 (e.upper + 1) (omega arith)),
      own_pass (t e),
      all_later t es,
    )

at_bridges : (rows : List Standing) (ports : List Edge) → AllByRecursion (λ e. is_bridge (standing_at rows e.upper) ≡ true) ports → AllByRecursion (λ e. 0 ≤ e.upper → is_bridge (standing_at rows (e.upper - 0)) ≡ true) ports
at_bridges rows ports h = each (λ e is _. ap (λ n. is_bridge (standing_at rows n)) (let same : e.upper - 0 ≡ e.upper = omega arith in same) ∙ is) ports h

counts_joined : (rows : List Standing) (ports : List Edge) → AllByRecursion (λ e. is_bridge (standing_at rows e.upper) ≡ true) ports → (far near : Edge → ℕ) (f : ℕ → Bool) (k : ℕ)
    → counted far near f (edges_from 0 (joined ports rows)) k ≡ counted far near f (edges_from 0 rows) k + counted far near f ports k
unfolding counted
counts_joined rows ports h far near f k =
    let t = λ (e : Edge). (far e == k) && f (near e) in
    omega (arith, all_given t 0 rows ports (at_bridges rows ports h), all_later t ports)

kind_more : (s : Standing) (more : List ℕ) → kind_of (with_more s more) ≡ kind_of s
kind_more Faulty more = refl
kind_more (Alone sound) more = refl
kind_more (Over lower) more = refl
kind_more (Ports empty ports) more = refl

kind_joined : (u : ℕ) (ports : List Edge) (rows : List Standing) (k : ℕ) → kind_of (standing_at (joined_from u ports rows) k) ≡ kind_of (standing_at rows k)
kind_joined u ports [] k = refl
kind_joined u ports (s ∷ ss) zero = kind_more s (far_ends lower_end upper_end ports u)
kind_joined u ports (s ∷ ss) (suc k) = kind_joined (u + 1) ports ss k

pub edges_joined : (rows : List Standing) (net : Network) → AreRows rows net → AreEdges (joined net.ports rows) net
edges_joined rows net r =
    record {
      kinds = λ k. r.kinds k ∙ sym (kind_joined 0 net.ports rows k);
      counts = λ far near f k. counted-append far near f k net.fixed net.ports ∙ ap (λ es. counted far near f es k + counted far near f net.ports k) r.fixed ∙ sym (counts_joined rows net.ports r.bridges far near f k);
      once = r.once;
    }
