use Rattle.std.proofs.Common.{arith, subst, ℕ, ◌<◌, ◌≡◌, ◌==◌, ◌&&◌, ⊎_elim, Bool, true, false, cond, List, [], ◌∷◌, length, map, refl, sym, ap, ◌∙◌}
use Rattle.std.proofs.lemmas.Bool.{cases_lt, lt-ltb, ltb-true, ltb-false, false≢true, true≢false}
use Rattle.std.proofs.lemmas.List.{get_or_past, ext_get_or, length-map}
use Rattle.std.proofs.lemmas.List.Sums.{sum_by-cons}
use Rattle.std.proofs.Math.ListN.{get_or-map}
use Rattle.use_counts.specs.declared.node.Edge.{Edge}
use Rattle.use_counts.specs.declared.node.Kind.TheVariants.{Broken, Plain, Vlan, Bridge}
use Rattle.use_counts.specs.declared.node.Kind.{Kind}
use Rattle.use_counts.specs.declared.node.Node.{Node}
use Rattle.use_counts.specs.declared.node.Row.{Row}
use Rattle.use_counts.specs.NodeRule.{no_node, opens, links, is_made, node_at, rank_at, rank_of, new_node, row_at}
use Rattle.use_counts.specs.Edges.{lower_end, upper_end, counted}
use Rattle.use_counts.specs.Held.{FollowsCounts, HoldsCounts, available_at, link_at, used_at, member_of}
use Rattle.use_counts.specs.Network.{loaded}
use Rattle.use_counts.proofs.EdgeLemmas.{everywhere, counted_same}
use Rattle.use_counts.proofs.HeldUp.{UseFollows}

pub record AreFresh (rank : ℕ → ℕ) (rows : List Row) (nodes : List Node) : Type 0 where
  pub size : length nodes ≡ length rows
  pub each : (k : ℕ) → k < length rows → node_at nodes k ≡ new_node (rank k) (row_at rows k)

at_fresh : (rank : ℕ → ℕ) (rows : List Row) (nodes : List Node) → AreFresh rank rows nodes → (P : Node → Type 0) (k : ℕ) → P (new_node (rank k) (row_at rows k)) → P no_node → P (node_at nodes k)
at_fresh rank rows nodes f P k here none =
    ⊎_elim (λ within. subst P (sym (f.each k within)) here) (λ past. subst P (sym (get_or_past nodes k no_node (omega (arith, f.size, past)))) none) (cases_lt k (length rows))

never : (t : Bool) → ◌≡◌ {A = ℕ} (cond (t && false) 1 0) 0
never true = refl
never false = refl

counted_none : (far near : Edge → ℕ) (k : ℕ) (es : List Edge) → counted far near (λ _. false) es k ≡ 0
unfolding counted
counted_none far near k [] = refl
counted_none far near k (e ∷ es) = omega (arith, sum_by-cons (λ (x : Edge). cond ((far x == k) && false) 1 0) e es, never (far e == k), counted_none far near k es)

pub at_first : (kind : Kind) → is_made kind ≡ false → (opens kind false 0 ≡ false) × (links kind false false 0 ≡ false)
unfolding opens links
at_first Broken h = (refl, refl)
at_first (Plain sound) h = (refl, refl)
at_first Vlan h = absurd (true≢false h)
at_first (Bridge empty) h = absurd (true≢false h)

right_fresh : (rank : ℕ → ℕ) (rows : List Row) (k : ℕ) → ((k : ℕ) → rank k ≡ 0 → is_made (row_at rows k).kind ≡ false) → (new_node (rank k) (row_at rows k)).stale ≡ false → FollowsCounts (new_node (rank k) (row_at rows k))
right_fresh rank rows k plain h = let first = at_first (row_at rows k).kind (plain k (omega (arith, ltb-false 0 (rank k) h))) in record { available = sym first.0; link = sym first.1 }

pub right_blank : FollowsCounts no_node
unfolding opens links no_node
right_blank = record { available = refl; link = refl }

pub kept_fresh : (rank : ℕ → ℕ) (rows : List Row) (nodes : List Node) (edges : List Edge) → AreFresh rank rows nodes → ((k : ℕ) → rank k ≡ 0 → is_made (row_at rows k).kind ≡ false) → HoldsCounts edges nodes
unfolding no_node
kept_fresh rank rows nodes edges f plain =
    let available : (k : ℕ) → available_at nodes k ≡ false = λ k. at_fresh rank rows nodes f (λ n. n.available ≡ false) k refl refl in
    let link : (k : ℕ) → link_at nodes k ≡ false = λ k. at_fresh rank rows nodes f (λ n. n.link ≡ false) k refl refl in
    let used : (k : ℕ) → used_at nodes k ≡ false = λ k. at_fresh rank rows nodes f (λ n. n.used ≡ false) k refl refl in
    record {
      open_lowers = λ k. omega (
        arith,
        at_fresh rank rows nodes f (λ n. n.open_lowers ≡ 0) k refl refl,
        counted_same upper_end lower_end (λ _. false) (available_at nodes) k edges (everywhere (λ e. available e.lower) edges),
        counted_none upper_end lower_end k edges,
      );
      linked_lowers = λ k. omega (
        arith,
        at_fresh rank rows nodes f (λ n. n.linked_lowers ≡ 0) k refl refl,
        counted_same upper_end lower_end (λ _. false) (link_at nodes) k edges (everywhere (λ e. link e.lower) edges),
        counted_none upper_end lower_end k edges,
      );
      demand = λ k. omega (
        arith,
        at_fresh rank rows nodes f (λ n. n.demand ≡ n.claims) k refl refl,
        counted_same lower_end upper_end (λ _. false) (used_at nodes) k edges (everywhere (λ e. used e.upper) edges),
        counted_none lower_end upper_end k edges,
      );
      stale = λ k. at_fresh rank rows nodes f (λ n. n.stale ≡ false → FollowsCounts n) k (right_fresh rank rows k plain) (λ _. right_blank);
      use_stale = λ k. at_fresh rank rows nodes f UseFollows k (λ _. refl) (λ _. refl);
    }

pub fresh_up : (rank : ℕ → ℕ) (rows : List Row) (nodes : List Node) → AreFresh rank rows nodes → (k : ℕ) → (node_at nodes k).stale ≡ true → 0 < rank k
unfolding no_node
fresh_up rank rows nodes f k = at_fresh rank rows nodes f (λ n. n.stale ≡ true → 0 < rank k) k (ltb-true 0 (rank k)) (λ h. absurd (false≢true h))

-- a new node that is made is stale
pub fresh_stale : (rank : ℕ → ℕ) (rows : List Row) (nodes : List Node) → AreFresh rank rows nodes → (k : ℕ) → 0 < rank_at nodes k → (node_at nodes k).stale ≡ true
unfolding no_node
fresh_stale rank rows nodes f k = at_fresh rank rows nodes f (λ n. 0 < n.rank → n.stale ≡ true) k (λ h. lt-ltb 0 (rank k) h) (λ h. absurd (omega (arith, h)))

-- past the rows there is no rank
pub fresh_ranks : (ranks : List ℕ) (rows : List Row) (nodes : List Node) → length ranks ≡ length rows → AreFresh (rank_of ranks) rows nodes → (k : ℕ) → rank_at nodes k ≡ rank_of ranks k
unfolding no_node
fresh_ranks ranks rows nodes same f k =
    ⊎_elim (λ within. ap (λ (n : Node). n.rank) (f.each k within)) (λ past. ap (λ (n : Node). n.rank) (get_or_past nodes k no_node (omega (arith, f.size, past))) ∙ sym (get_or_past ranks k 0 (omega (arith, same, past))))
    (cases_lt k (length rows))

pub fresh_down : (rank : ℕ → ℕ) (rows : List Row) (nodes : List Node) → AreFresh rank rows nodes → (k : ℕ) → (node_at nodes k).use_stale ≡ false
unfolding no_node
fresh_down rank rows nodes f k = at_fresh rank rows nodes f (λ n. n.use_stale ≡ false) k refl refl

pub fresh_claims : (rank : ℕ → ℕ) (rows : List Row) (nodes : List Node) → AreFresh rank rows nodes → (k : ℕ) → (node_at nodes k).claims ≡ 0
unfolding no_node
fresh_claims rank rows nodes f k = at_fresh rank rows nodes f (λ n. n.claims ≡ 0) k refl refl

pub fresh_points : (rank : ℕ → ℕ) (rows : List Row) (nodes : List Node) → AreFresh rank rows nodes → map member_of nodes ≡ map loaded rows
unfolding no_node
fresh_points rank rows nodes f =
    ext_get_or (member_of no_node) (map member_of nodes) (map loaded rows) (length-map nodes member_of ∙ f.size ∙ sym (length-map rows loaded))
    (λ k h. get_or-map member_of nodes k no_node ∙ ap member_of (f.each k (omega (arith, h, length-map nodes member_of, f.size))) ∙ sym (get_or-map loaded rows k (record { kind = Broken; level = 0 })))

pub none_marked_up : (nodes : List Node) (k : ℕ) → length nodes ≡ 0 → (node_at nodes k).stale ≡ false
unfolding no_node
none_marked_up nodes k h = ap (λ (n : Node). n.stale) (get_or_past nodes k no_node (omega arith))

pub none_marked_down : (nodes : List Node) (k : ℕ) → length nodes ≡ 0 → (node_at nodes k).use_stale ≡ false
unfolding no_node
none_marked_down nodes k h = ap (λ (n : Node). n.use_stale) (get_or_past nodes k no_node (omega arith))
