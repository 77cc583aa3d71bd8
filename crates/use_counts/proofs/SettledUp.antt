use Rattle.std.proofs.Common.{arith, subst, ℕ, ◌+◌, ◌^◌, ◌<◌, ◌≤◌, ◌≡◌, true, nat_lt, List, length, slice_set, All, get_or-set_same, get_or-set_other, sym, ap, ◌∙◌}
use Rattle.use_counts.specs.declared.node.Edge.{Edge}
use Rattle.use_counts.specs.declared.node.Node.{Node}
use Rattle.use_counts.specs.NodeRule.{no_node, times, node_at, occurs, after_lower}
use Rattle.use_counts.specs.Edges.{lower_end, upper_end}
use Rattle.use_counts.specs.Held.{AllRunUp, HoldsCounts, SettledAt, available_at, link_at, moved, settled, change_of}
use Rattle.use_counts.proofs.EdgeLemmas.{at_each, each, occurs_ends, joining-le-counted, joining-le-length, counted-le-length, ends_pass}
use Rattle.use_counts.proofs.HeldUp.{uppers_of}
use Rattle.use_counts.proofs.VisitLemmas.{told_none}

pub written : {X : Type 0} (field : Node → X) (nodes : List Node) (place : ℕ) (now : Node) → place < length nodes → field now ≡ field (node_at nodes place) → (k : ℕ) → field (node_at (slice_set nodes place now) k) ≡ field (node_at nodes k)
written field nodes place now within same =
    at_each (λ k. field (node_at (slice_set nodes place now) k) ≡ field (node_at nodes k)) place
    (ap field (get_or-set_same nodes place now no_node within) ∙ same)
    (λ k ne. ap field (get_or-set_other nodes place k now no_node ne))

pub uppers_inside : (rank : ℕ → ℕ) (size : ℕ) (edges : List Edge) (place : ℕ) → AllRunUp rank size edges → All (λ u. u < size) (uppers_of edges place)
uppers_inside rank size edges place stand = ends_pass upper_end lower_end (λ u. u < size) place edges (each (λ e s. s.node_upper) edges stand)

pub ready_allows : (edges : List Edge) (nodes : List Node) (place k : ℕ) → HoldsCounts edges nodes → times (available_at nodes place) (occurs k (uppers_of edges place)) ≤ (node_at nodes k).open_lowers
ready_allows edges nodes place k kept =
    let part = joining-le-counted upper_end lower_end (available_at nodes) place k edges in
    let same = ap (times (available_at nodes place)) (occurs_ends upper_end lower_end edges place k) in
    omega (arith, part, same, kept.open_lowers k)

pub linked_allows : (edges : List Edge) (nodes : List Node) (place k : ℕ) → HoldsCounts edges nodes → times (link_at nodes place) (occurs k (uppers_of edges place)) ≤ (node_at nodes k).linked_lowers
linked_allows edges nodes place k kept =
    let part = joining-le-counted upper_end lower_end (link_at nodes) place k edges in
    let same = ap (times (link_at nodes place)) (occurs_ends upper_end lower_end edges place k) in
    omega (arith, part, same, kept.linked_lowers k)

pub ready_fits : (edges : List Edge) (nodes : List Node) (place k : ℕ) → HoldsCounts edges nodes → length edges < 2 ^ 20 → (node_at nodes k).open_lowers + occurs k (uppers_of edges place) < 2 ^ 32
ready_fits edges nodes place k kept few =
    omega (arith, kept.open_lowers k, counted-le-length upper_end lower_end (available_at nodes) edges k, occurs_ends upper_end lower_end edges place k, joining-le-length upper_end lower_end edges place k)

pub linked_fits : (edges : List Edge) (nodes : List Node) (place k : ℕ) → HoldsCounts edges nodes → length edges < 2 ^ 20 → (node_at nodes k).linked_lowers + occurs k (uppers_of edges place) < 2 ^ 32
linked_fits edges nodes place k kept few =
    omega (arith, kept.linked_lowers k, counted-le-length upper_end lower_end (link_at nodes) edges k, occurs_ends upper_end lower_end edges place k, joining-le-length upper_end lower_end edges place k)

pub here_moved : (rank : ℕ → ℕ) (uppers : List ℕ) (place : ℕ) (old new : List Node) (now : Node) → place < length old → occurs place uppers ≡ 0
    → ((k : ℕ) → node_at new k ≡ after_lower (change_of (node_at old place) now) (node_at (slice_set old place now) k) (occurs k uppers)) → node_at new place ≡ now
here_moved rank uppers place old new now within none all =
    all place ∙ ap (after_lower (change_of (node_at old place) now) (node_at (slice_set old place now) place)) none ∙ told_none _ _ ∙ get_or-set_same old place now no_node within

pub spreads_moved : (rank : ℕ → ℕ) (uppers : List ℕ) (place : ℕ) (old new : List Node) (now : Node) → place < length old → occurs place uppers ≡ 0 → now ≡ settled (nat_lt 0 (rank place)) (node_at old place) → moved (node_at old place) now
    ≡ true → ((k : ℕ) → node_at new k ≡ after_lower (change_of (node_at old place) now) (node_at (slice_set old place now) k) (occurs k uppers)) → SettledAt rank uppers place old new
spreads_moved rank uppers place old new now within none is went all =
    let here = here_moved rank uppers place old new now within none all in
    record {
      here = here ∙ is;
      others = λ k ne. subst (λ (n : Node). node_at new k ≡ after_lower (change_of (node_at old place) n) (node_at old k) (times (moved (node_at old place) n) (occurs k uppers))) (sym here)
          (all k ∙ ap (λ n. after_lower (change_of (node_at old place) now) n (occurs k uppers)) (get_or-set_other old place k now no_node ne)
          ∙ ap (λ b. after_lower (change_of (node_at old place) now) (node_at old k) (times b (occurs k uppers))) (sym went));
    }
