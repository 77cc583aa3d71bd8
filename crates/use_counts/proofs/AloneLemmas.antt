-- what is told of a node at no edge
use Rattle.std.proofs.Common.{arith, ℕ, zero, suc, ◌+◌, ◌≡◌, ◌≢◌, ◌&&◌, ◌||◌, Bool, true, false, cond, List, [], ◌∷◌, count_by, refl, sym, ap, ◌∙◌}
use Rattle.std.proofs.lemmas.List.{get_or-set_other}
use Rattle.std.proofs.lemmas.List.Sums.{sum_by-cons}
use Rattle.std.proofs.lemmas.List.Elements.{recursion_from_All}
use Rattle.std.specs.List.{AllByRecursion}
use Rattle.use_counts.specs.declared.node.Edge.{Edge}
use Rattle.use_counts.specs.NodeRule.{opens, links, is_used}
use Rattle.use_counts.specs.Edges.{lower_end, upper_end, counted}
use Rattle.use_counts.specs.Held.{Member, differs}
use Rattle.use_counts.specs.Network.{Network, IsAlone, edges_of, member_at, no_member, with_member, available_within, available, link_within, link, used_within, used, changed, changed_edges}
use Rattle.use_counts.proofs.EdgeLemmas.{each, counted_same}

beside : (net : Network) (k : ℕ) (p : Member) (j : ℕ) → j ≢ k → member_at (with_member net k p).members j ≡ member_at net.members j
beside net k p j ne = get_or-set_other net.members k j p no_member ne

available_beside : (net : Network) (k : ℕ) (p : Member) → AllByRecursion (λ e. (e.lower ≢ k) × (e.upper ≢ k)) (edges_of net) → (levels j : ℕ) → j ≢ k → available_within levels (with_member net k p) j ≡ available_within levels net j
unfolding available_within
available_beside net k p h zero j ne = refl
available_beside net k p h (suc levels) j ne =
    let new = with_member net k p in
    ap (λ (m : Member). opens m.kind m.present (counted upper_end lower_end (available_within levels new) (edges_of net) j)) (beside net k p j ne)
    ∙ ap (opens (member_at net.members j).kind (member_at net.members j).present)
    (counted_same upper_end lower_end (available_within levels net) (available_within levels new) j (edges_of net) (each (λ e a. available_beside net k p h levels e.lower a.0) (edges_of net) h))

available_same : (net : Network) (k : ℕ) (p : Member) → AllByRecursion (λ e. (e.lower ≢ k) × (e.upper ≢ k)) (edges_of net) → (j : ℕ) → j ≢ k → available (with_member net k p) j ≡ available net j
unfolding available
available_same net k p h j ne = available_beside net k p h 8 j ne

link_beside : (net : Network) (k : ℕ) (p : Member) → AllByRecursion (λ e. (e.lower ≢ k) × (e.upper ≢ k)) (edges_of net) → (levels j : ℕ) → j ≢ k → link_within levels (with_member net k p) j ≡ link_within levels net j
unfolding link_within
link_beside net k p h zero j ne = refl
link_beside net k p h (suc levels) j ne =
    let new = with_member net k p in
    let m = member_at net.members j in
    ap (λ (m : Member). links m.kind (available new j) (m.present && m.carrier) (counted upper_end lower_end (link_within levels new) (edges_of net) j)) (beside net k p j ne)
    ∙ ap (λ b. links m.kind b (m.present && m.carrier) (counted upper_end lower_end (link_within levels new) (edges_of net) j)) (available_same net k p h j ne)
    ∙ ap (links m.kind (available net j) (m.present && m.carrier))
    (counted_same upper_end lower_end (link_within levels net) (link_within levels new) j (edges_of net) (each (λ e a. link_beside net k p h levels e.lower a.0) (edges_of net) h))

link_same : (net : Network) (k : ℕ) (p : Member) → AllByRecursion (λ e. (e.lower ≢ k) × (e.upper ≢ k)) (edges_of net) → (j : ℕ) → j ≢ k → link (with_member net k p) j ≡ link net j
unfolding link
link_same net k p h j ne = link_beside net k p h 8 j ne

used_beside : (net : Network) (k : ℕ) (p : Member) → AllByRecursion (λ e. (e.lower ≢ k) × (e.upper ≢ k)) (edges_of net) → (levels j : ℕ) → j ≢ k → used_within levels (with_member net k p) j ≡ used_within levels net j
unfolding used_within
used_beside net k p h zero j ne = refl
used_beside net k p h (suc levels) j ne =
    let new = with_member net k p in
    ap (λ (m : Member). is_used (available new j) (m.claims + counted lower_end upper_end (used_within levels new) (edges_of net) j)) (beside net k p j ne)
    ∙ ap (λ b. is_used b ((member_at net.members j).claims + counted lower_end upper_end (used_within levels new) (edges_of net) j)) (available_same net k p h j ne)
    ∙ ap (λ n. is_used (available net j) ((member_at net.members j).claims + n))
    (counted_same lower_end upper_end (used_within levels net) (used_within levels new) j (edges_of net) (each (λ e a. used_beside net k p h levels e.upper a.1) (edges_of net) h))

used_same : (net : Network) (k : ℕ) (p : Member) → AllByRecursion (λ e. (e.lower ≢ k) × (e.upper ≢ k)) (edges_of net) → (j : ℕ) → j ≢ k → used (with_member net k p) j ≡ used net j
unfolding used
used_same net k p h j ne = used_beside net k p h 8 j ne

no_difference : (a b : Bool) → b ≡ a → differs a b ≡ false
no_difference true true e = refl
no_difference true false e = sym e
no_difference false true e = e
no_difference false false e = refl

neither : (a b : Bool) → a ≡ false → b ≡ false → (a || b) ≡ false
neither true b h k = h
neither false b h k = k

unchanged : (net : Network) (k : ℕ) (p : Member) → AllByRecursion (λ e. (e.lower ≢ k) × (e.upper ≢ k)) (edges_of net) → (j : ℕ) → j ≢ k → changed net (with_member net k p) j ≡ false
unchanged net k p h j ne =
    neither _ _ (neither _ _ (no_difference _ _ (available_same net k p h j ne)) (no_difference _ _ (link_same net k p h j ne))) (no_difference _ _ (used_same net k p h j ne))

none_counted : (t : Edge → Bool) (es : List Edge) → AllByRecursion (λ e. t e ≡ false) es → count_by t es ≡ 0
none_counted t [] h = refl
none_counted t (e ∷ es) h = omega (arith, sum_by-cons (λ (x : Edge). cond (t x) 1 0) e es, ap (λ b. let n : ℕ = cond b 1 0 in n) h.0, none_counted t es h.1)

pub alone_unchanged : (net : Network) (k : ℕ) (p : Member) → IsAlone net k → changed_edges net (with_member net k p) ≡ 0
unfolding changed_edges
alone_unchanged net k p alone =
    let h : AllByRecursion (λ e. (e.lower ≢ k) × (e.upper ≢ k)) (edges_of net) = recursion_from_All (λ e. (e.lower ≢ k) × (e.upper ≢ k)) (edges_of net) alone in
    none_counted _ (edges_of net) (each (λ e a. neither _ _ (unchanged net k p h e.lower a.0) (unchanged net k p h e.upper a.1)) (edges_of net) h)
