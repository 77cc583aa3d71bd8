use mathlib.Core.Bool.{beq, not}
use Rattle.std.proofs.Common.{arith, subst, ℕ, ◌+◌, ◌^◌, ◌<◌, ◌≤◌, ◌≡◌, Bool, true, false, nat_lt, List, length, slice_set, All, get_or-set_same, get_or-set_other, sym, ap, ◌∙◌}
use Rattle.use_counts.specs.declared.node.Edge.{Edge}
use Rattle.use_counts.specs.declared.node.Node.{Node}
use Rattle.use_counts.specs.NodeRule.{no_node, times, node_at, occurs, after_upper}
use Rattle.use_counts.specs.Edges.{lower_end, upper_end}
use Rattle.use_counts.specs.Held.{AllRunUp, HoldsCounts, UseSettledAt, used_at, differs, use_settled}
use Rattle.use_counts.proofs.EdgeLemmas.{each, occurs_ends, joining-le-counted, joining-le-length, counted-le-length, ends_pass}
use Rattle.use_counts.proofs.HeldDown.{lowers_of}
use Rattle.use_counts.proofs.VisitLemmas.{called_none}

pub lowers_inside : (rank : ℕ → ℕ) (size : ℕ) (edges : List Edge) (place : ℕ) → AllRunUp rank size edges → All (λ l. l < size) (lowers_of edges place)
lowers_inside rank size edges place stand = ends_pass lower_end upper_end (λ l. l < size) place edges (each (λ e s. s.node_lower) edges stand)

pub demand_allows : (edges : List Edge) (nodes : List Node) (place k : ℕ) → HoldsCounts edges nodes → times (used_at nodes place) (occurs k (lowers_of edges place)) ≤ (node_at nodes k).demand
demand_allows edges nodes place k kept =
    let part = joining-le-counted lower_end upper_end (used_at nodes) place k edges in
    let same = ap (times (used_at nodes place)) (occurs_ends lower_end upper_end edges place k) in
    omega (arith, part, same, kept.demand k)

pub demand_fits : (edges : List Edge) (nodes : List Node) (place k : ℕ) → HoldsCounts edges nodes → (node_at nodes k).claims ≤ 1024 → length edges < 2 ^ 20 → (node_at nodes k).demand + occurs k (lowers_of edges place) < 2 ^ 32
demand_fits edges nodes place k kept claims few =
    omega (arith, kept.demand k, counted-le-length lower_end upper_end (used_at nodes) edges k, occurs_ends lower_end upper_end edges place k, joining-le-length lower_end upper_end edges place k)

pub here_called : (rank : ℕ → ℕ) (lowers : List ℕ) (place : ℕ) (old new : List Node) (now : Node) → place < length old → occurs place lowers ≡ 0
    → ((k : ℕ) → node_at new k ≡ after_upper (node_at old place).used now.used (nat_lt 0 (rank k)) (node_at (slice_set old place now) k) (occurs k lowers)) → node_at new place ≡ now
here_called rank lowers place old new now within none all =
    all place ∙ ap (after_upper (node_at old place).used now.used (nat_lt 0 (rank place)) (node_at (slice_set old place now) place)) none ∙ called_none (node_at old place).used now.used (nat_lt 0 (rank place)) _
    ∙ get_or-set_same old place now no_node within

pub calls_changed : (rank : ℕ → ℕ) (lowers : List ℕ) (place : ℕ) (old new : List Node) (now : Node) → place < length old → occurs place lowers ≡ 0 → now ≡ use_settled (node_at old place) → differs (node_at old place).used now.used ≡ true
    → ((k : ℕ) → node_at new k ≡ after_upper (node_at old place).used now.used (nat_lt 0 (rank k)) (node_at (slice_set old place now) k) (occurs k lowers)) → UseSettledAt rank lowers place old new
calls_changed rank lowers place old new now within none is went all =
    let here = here_called rank lowers place old new now within none all in
    record {
      here = here ∙ is;
      others = λ k ne. subst (λ (n : Node). node_at new k ≡ after_upper (used_at old place) n.used (nat_lt 0 (rank k)) (node_at old k) (times (differs (used_at old place) n.used) (occurs k lowers))) (sym here)
          (all k ∙ ap (λ n. after_upper (used_at old place) now.used (nat_lt 0 (rank k)) n (occurs k lowers)) (get_or-set_other old place k now no_node ne)
          ∙ ap (λ b. after_upper (used_at old place) now.used (nat_lt 0 (rank k)) (node_at old k) (times b (occurs k lowers))) (sym went));
    }

pub differs_true : (a b : Bool) → not (beq a b) ≡ true → differs a b ≡ true
differs_true true true h = h
differs_true true false h = h
differs_true false true h = h
differs_true false false h = h
