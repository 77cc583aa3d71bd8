use Rattle.std.proofs.Common.{arith, ℕ, ◌+◌, ◌-◌, ◌<◌, ◌≤◌, ◌≡◌, ◌==◌, ◌≢◌, ◌^◌, ◌||◌, ◌&&◌, nat_lt, Bool, true, false, cond, List, length, take, get_or, slice_set, get_or-set_same, get_or-set_other, refl, sym, ap, ◌∙◌}
use Rattle.std.proofs.lemmas.Bool.{eq-eqb, ne_eqb, lt-ltb, ltb-false}
use Rattle.std.proofs.lemmas.Bool.Decides.{nat_tests}
use Rattle.std.proofs.lemmas.List.{take_more}
use Rattle.std.proofs.lemmas.List.Sums.{sum_by_push, sum_by_more_le}
use Rattle.use_counts.specs.declared.node.Node.{Node}
use Rattle.use_counts.specs.declared.node.Change.{Change}
use Rattle.use_counts.proofs.EdgeLemmas.{at_each}
use Rattle.use_counts.specs.NodeRule.{no_node, node_at, times, occurs, is_used, after_lower, after_upper}

pub occurs_more : (k : ℕ) (xs : List ℕ) (i d : ℕ) → i < length xs → occurs k (take (i + 1) xs) ≡ occurs k (take i xs) + cond (get_or xs i d == k) 1 0
occurs_more k xs i d h = ap (occurs k) (take_more xs i d h) ∙ sum_by_push (λ x. cond (x == k) 1 0) (take i xs) (get_or xs i d)

pub occurs_same : (xs : List ℕ) (i d : ℕ) → i < length xs → occurs (get_or xs i d) (take (i + 1) xs) ≡ occurs (get_or xs i d) (take i xs) + 1
occurs_same xs i d h =
    let u = get_or xs i d in
    occurs_more u xs i d h ∙ ap (λ b. occurs u (take i xs) + cond b 1 0) (eq-eqb u u refl)

pub occurs_other : (k : ℕ) (xs : List ℕ) (i d : ℕ) → i < length xs → get_or xs i d ≢ k → occurs k (take (i + 1) xs) ≡ occurs k (take i xs)
occurs_other k xs i d h ne =
    let more = occurs_more k xs i d h ∙ ap (λ b. occurs k (take i xs) + cond b 1 0) (ne_eqb (get_or xs i d) k ne) in
    omega (arith, more)

pub occurs_now : (xs : List ℕ) (i d : ℕ) → i < length xs → occurs (get_or xs i d) (take i xs) + 1 ≤ occurs (get_or xs i d) xs
occurs_now xs i d h =
    let u = get_or xs i d in
    let more = sum_by_more_le (λ (x : ℕ). cond (x == u) 1 0) xs i d h in
    let here = ap (λ b. let n : ℕ = cond b 1 0 in n) (eq-eqb u u refl) in
    omega (arith, more, here)

pub left_before : (was now : Bool) (r n all : ℕ) → times was all ≤ r → n + 1 ≤ all → times was 1 ≤ (r + times now n) - times was n
left_before true true r n all h k = omega arith
left_before true false r n all h k = omega arith
left_before false true r n all h k = omega arith
left_before false false r n all h k = omega arith

pub fits_before : (was now : Bool) (r n all : ℕ) → times was all ≤ r → r + all < 2 ^ 32 → n + 1 ≤ all → ((r + times now n) - times was n) + 1 < 2 ^ 32
fits_before true true r n all p h k = omega arith
fits_before true false r n all p h k = omega arith
fits_before false true r n all p h k = omega arith
fits_before false false r n all p h k = omega arith

one_more : (was now : Bool) (r n all : ℕ) → times was all ≤ r → n + 1 ≤ all → (((r + times now n) - times was n) + times now 1) - times was 1 ≡ (r + times now (n + 1)) - times was (n + 1)
one_more true true r n all h k = omega arith
one_more true false r n all h k = omega arith
one_more false true r n all h k = omega arith
one_more false false r n all h k = omega arith

marked : (u : Bool) (n : ℕ) → (u || nat_lt 0 n) || nat_lt 0 1 ≡ (u || nat_lt 0 (n + 1))
marked true n = refl
marked false n = grind (arith, nat_tests)

same_node : (node : Node) (r r' l l' : ℕ) (u u' : Bool) → r ≡ r' → l ≡ l' → u ≡ u' → record node { open_lowers = r; linked_lowers = l; stale = u } ≡ record node { open_lowers = r'; linked_lowers = l'; stale = u' }
same_node node r r' l l' u u' a b c = cc

pub told_more : (change : Change) (node : Node) (n all : ℕ) → times change.was_available all ≤ node.open_lowers → times change.had_link all ≤ node.linked_lowers → n + 1 ≤ all → after_lower change (after_lower change node n) 1
    ≡ after_lower change node (n + 1)
told_more change node n all a b h =
    same_node node _ _ _ _ _ _ (one_more change.was_available change.now_available node.open_lowers n all a h) (one_more change.had_link change.has_link node.linked_lowers n all b h) (marked node.stale n)

none_scaled : (b : Bool) → times b 0 ≡ 0
none_scaled true = refl
none_scaled false = refl

unmarked : (u : Bool) → (u || nat_lt 0 0) ≡ u
unmarked true = refl
unmarked false = refl

pub told_none : (change : Change) (node : Node) → after_lower change node 0 ≡ node
told_none change node =
    same_node node _ node.open_lowers _ node.linked_lowers _ node.stale (omega (arith, none_scaled change.was_available, none_scaled change.now_available)) (omega (arith, none_scaled change.had_link, none_scaled change.has_link))
    (unmarked node.stale)

pub told_nothing : (change : Change) (node : Node) (n : ℕ) → nat_lt 0 n ≡ false → after_lower change node n ≡ node
told_nothing change node n h =
    let none : n ≡ 0 = omega (arith, ltb-false 0 n h) in
    ap (after_lower change node) none ∙ told_none change node

used_more : (is_made available used : Bool) (was now : Bool) (r n all : ℕ) → times was all ≤ r → n + 1 ≤ all →
    cond is_made (cond is_made used (cond (nat_lt 0 n) (is_used available ((r + times now n) - times was n)) used))
    (cond (nat_lt 0 1) (is_used available ((((r + times now n) - times was n) + times now 1) - times was 1)) (cond is_made used (cond (nat_lt 0 n) (is_used available ((r + times now n) - times was n)) used)))
    ≡ cond is_made used (cond (nat_lt 0 (n + 1)) (is_used available ((r + times now (n + 1)) - times was (n + 1))) used)
used_more true available used was now r n all h k = refl
used_more false available used was now r n all h k =
    ap (is_used available) (one_more was now r n all h k) ∙ ap (λ b. cond b (is_used available ((r + times now (n + 1)) - times was (n + 1))) used) (sym (lt-ltb 0 (n + 1) (omega arith)))

called_mark : (d m : Bool) (n : ℕ) → ((d || (m && nat_lt 0 n)) || (m && nat_lt 0 1)) ≡ (d || (m && nat_lt 0 (n + 1)))
called_mark true m n = refl
called_mark false true n = marked false n
called_mark false false n = refl

same_called : (node : Node) (r r' : ℕ) (d d' u u' : Bool) → r ≡ r' → d ≡ d' → u ≡ u' → record node { demand = r; use_stale = d; used = u } ≡ record node { demand = r'; use_stale = d'; used = u' }
same_called node r r' d d' u u' a b c = cc

pub called_more : (was now is_made : Bool) (node : Node) (n all : ℕ) → times was all ≤ node.demand → n + 1 ≤ all → after_upper was now is_made (after_upper was now is_made node n) 1 ≡ after_upper was now is_made node (n + 1)
called_more was now is_made node n all h k =
    same_called node _ _ _ _ _ _ (one_more was now node.demand n all h k) (called_mark node.use_stale is_made n) (used_more is_made node.available node.used was now node.demand n all h k)

none_marked : (d m : Bool) → (d || (m && nat_lt 0 0)) ≡ d
none_marked true m = refl
none_marked false true = refl
none_marked false false = refl

none_used : (m a u : Bool) → cond m u (cond (nat_lt 0 0) a u) ≡ u
none_used true a u = refl
none_used false a u = refl

pub called_none : (was now is_made : Bool) (node : Node) → after_upper was now is_made node 0 ≡ node
called_none was now is_made node =
    same_called node _ node.demand _ node.use_stale _ node.used (omega (arith, none_scaled was, none_scaled now)) (none_marked node.use_stale is_made)
    (none_used is_made (is_used node.available ((node.demand + times now 0) - times was 0)) node.used)

pub called_nothing : (was now is_made : Bool) (node : Node) (n : ℕ) → nat_lt 0 n ≡ false → after_upper was now is_made node n ≡ node
called_nothing was now is_made node n h =
    let none : n ≡ 0 = omega (arith, ltb-false 0 n h) in
    ap (after_upper was now is_made node) none ∙ called_none was now is_made node

pub told_next : (change : Change) (uppers : List ℕ) (i : ℕ) (before nodes : List Node) (now : Node) → i < length uppers → get_or uppers i 0 < length nodes
    → ((k : ℕ) → times change.was_available (occurs k uppers) ≤ (node_at before k).open_lowers) → ((k : ℕ) → times change.had_link (occurs k uppers) ≤ (node_at before k).linked_lowers)
    → ((k : ℕ) → node_at nodes k ≡ after_lower change (node_at before k) (occurs k (take i uppers))) → now ≡ after_lower change (node_at nodes (get_or uppers i 0)) 1 → (k : ℕ) → node_at (slice_set nodes (get_or uppers i 0) now) k
    ≡ after_lower change (node_at before k) (occurs k (take (i + 1) uppers))
told_next change uppers i before nodes now h within open_lowers linked_lowers all is =
    let u = get_or uppers i 0 in
    at_each (λ k. node_at (slice_set nodes u now) k ≡ after_lower change (node_at before k) (occurs k (take (i + 1) uppers))) u
    (get_or-set_same nodes u now no_node within ∙ is ∙ ap (λ n. after_lower change n 1) (all u) ∙ told_more change (node_at before u) (occurs u (take i uppers)) (occurs u uppers) (open_lowers u) (linked_lowers u) (occurs_now uppers i 0 h)
    ∙ ap (after_lower change (node_at before u)) (sym (occurs_same uppers i 0 h)))
    (λ k ne. get_or-set_other nodes u k now no_node ne ∙ all k ∙ ap (after_lower change (node_at before k)) (sym (occurs_other k uppers i 0 h (λ e. ne (sym e)))))

pub called_next : (was is : Bool) (rank : ℕ → ℕ) (lowers : List ℕ) (i : ℕ) (before nodes : List Node) (now : Node) → i < length lowers → get_or lowers i 0 < length nodes → ((k : ℕ) → times was (occurs k lowers) ≤ (node_at before k).demand)
    → ((k : ℕ) → node_at nodes k ≡ after_upper was is (nat_lt 0 (rank k)) (node_at before k) (occurs k (take i lowers))) → now ≡ after_upper was is (nat_lt 0 (rank (get_or lowers i 0))) (node_at nodes (get_or lowers i 0)) 1 → (k : ℕ)
    → node_at (slice_set nodes (get_or lowers i 0) now) k ≡ after_upper was is (nat_lt 0 (rank k)) (node_at before k) (occurs k (take (i + 1) lowers))
called_next was is rank lowers i before nodes now h within demand all one =
    let u = get_or lowers i 0 in
    let m = nat_lt 0 (rank u) in
    at_each (λ k. node_at (slice_set nodes u now) k ≡ after_upper was is (nat_lt 0 (rank k)) (node_at before k) (occurs k (take (i + 1) lowers))) u
    (get_or-set_same nodes u now no_node within ∙ one ∙ ap (λ n. after_upper was is m n 1) (all u) ∙ called_more was is m (node_at before u) (occurs u (take i lowers)) (occurs u lowers) (demand u) (occurs_now lowers i 0 h)
    ∙ ap (after_upper was is m (node_at before u)) (sym (occurs_same lowers i 0 h)))
    (λ k ne. get_or-set_other nodes u k now no_node ne ∙ all k ∙ ap (after_upper was is (nat_lt 0 (rank k)) (node_at before k)) (sym (occurs_other k lowers i 0 h (λ e. ne (sym e)))))
