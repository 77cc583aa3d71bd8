use Rattle.std.proofs.Common.{arith, subst, ℕ, ◌+◌, ◌<◌, ◌≡◌, ◌||◌, Bool, true, false, zero-add, cond, List, refl, sym, ap, ◌∙◌}
use Rattle.std.proofs.lemmas.Bool.{true≢false, lt-ltb}
use Rattle.use_counts.specs.declared.node.Edge.{Edge}
use Rattle.use_counts.specs.declared.node.Node.{Node}
use Rattle.use_counts.specs.NodeRule.{opens, is_used, node_at, occurs}
use Rattle.use_counts.specs.Edges.{lower_end, upper_end, counted, joining, far_ends}
use Rattle.use_counts.specs.Held.{RunsUp, AllRunUp, FollowsCounts, HoldsCounts, SettledAt, available_at, link_at, used_at, differs, moved}
use Rattle.use_counts.proofs.EdgeLemmas.{at_each, everywhere, each, counted_same, occurs_ends, joined_edge, count_follows, nothing}
use Rattle.use_counts.proofs.VisitLemmas.{told_nothing}

pub differs_not : (a b : Bool) → differs a b ≡ false → a ≡ b
differs_not true true h = refl
differs_not true false h = absurd (true≢false h)
differs_not false true h = absurd (true≢false h)
differs_not false false h = refl

pub or_left : (a b : Bool) → (a || b) ≡ false → a ≡ false
or_left true b h = h
or_left false b h = refl

pub or_right : (a b : Bool) → (a || b) ≡ false → b ≡ false
or_right true b h = absurd (true≢false h)
or_right false b h = h

pub apart_from_itself : (rank : ℕ → ℕ) (size place : ℕ) → RunsUp rank size place place → ⊥
apart_from_itself rank size place s = omega (arith, s.made_upper, s.order)

abbrev pub uppers_of : List Edge → ℕ → List ℕ
uppers_of edges place = far_ends upper_end lower_end edges place

pub none_itself : (rank : ℕ → ℕ) (size : ℕ) (edges : List Edge) (place : ℕ) → AllRunUp rank size edges → occurs place (uppers_of edges place) ≡ 0
none_itself rank size edges place stand =
    let some = joined_edge upper_end lower_end (RunsUp rank size) place place edges stand in
    let never : ¬ (0 < joining upper_end lower_end edges place place) = λ h. apart_from_itself rank size place (some h) in
    omega (arith, never, occurs_ends upper_end lower_end edges place place)

pub used_kept : (rank : ℕ → ℕ) (uppers : List ℕ) (place : ℕ) (old new : List Node) → SettledAt rank uppers place old new → (k : ℕ) → 0 < rank k → used_at new k ≡ used_at old k
used_kept rank uppers place old new s =
    at_each (λ k. 0 < rank k → used_at new k ≡ used_at old k) place
    (λ h. ap (λ (n : Node). n.used) s.here ∙ ap (λ b. cond b (node_at old place).used (is_used (opens (node_at old place).kind (node_at old place).present (node_at old place).open_lowers) (node_at old place).demand))
    (lt-ltb 0 (rank place) h))
    (λ k ne h. ap (λ (n : Node). n.used) (s.others k ne))

ready_kept : (rank : ℕ → ℕ) (size : ℕ) (edges : List Edge) (place : ℕ) (old new : List Node) → AllRunUp rank size edges → HoldsCounts edges old → SettledAt rank (uppers_of edges place) place old new → (k : ℕ) → (node_at new k).open_lowers
    ≡ counted upper_end lower_end (available_at new) edges k
ready_kept rank size edges place old new stand kept s =
    let m = moved (node_at old place) (node_at new place) in
    let fact = λ (k : ℕ). count_follows upper_end lower_end edges place k 0 (available_at old) (available_at new) m (node_at old k).open_lowers (everywhere (λ e ne. ap (λ (x : Node). x.available) (s.others e.lower ne)) edges)
    (λ h. differs_not _ _ (or_left _ _ h)) (kept.open_lowers k ∙ sym (zero-add _)) ∙ zero-add _ in
    at_each (λ k. (node_at new k).open_lowers ≡ counted upper_end lower_end (available_at new) edges k) place
    (ap (λ (x : Node). x.open_lowers) s.here ∙ sym (nothing (available_at old place) (available_at new place) m _ _ (none_itself rank size edges place stand)) ∙ fact place)
    (λ k ne. ap (λ (x : Node). x.open_lowers) (s.others k ne) ∙ fact k)

linked_kept : (rank : ℕ → ℕ) (size : ℕ) (edges : List Edge) (place : ℕ) (old new : List Node) → AllRunUp rank size edges → HoldsCounts edges old → SettledAt rank (uppers_of edges place) place old new → (k : ℕ)
    → (node_at new k).linked_lowers ≡ counted upper_end lower_end (link_at new) edges k
linked_kept rank size edges place old new stand kept s =
    let m = moved (node_at old place) (node_at new place) in
    let fact = λ (k : ℕ). count_follows upper_end lower_end edges place k 0 (link_at old) (link_at new) m (node_at old k).linked_lowers (everywhere (λ e ne. ap (λ (x : Node). x.link) (s.others e.lower ne)) edges)
    (λ h. differs_not _ _ (or_right _ _ h)) (kept.linked_lowers k ∙ sym (zero-add _)) ∙ zero-add _ in
    at_each (λ k. (node_at new k).linked_lowers ≡ counted upper_end lower_end (link_at new) edges k) place
    (ap (λ (x : Node). x.linked_lowers) s.here ∙ sym (nothing (link_at old place) (link_at new place) m _ _ (none_itself rank size edges place stand)) ∙ fact place)
    (λ k ne. ap (λ (x : Node). x.linked_lowers) (s.others k ne) ∙ fact k)

demand_kept : (rank : ℕ → ℕ) (size : ℕ) (edges : List Edge) (place : ℕ) (old new : List Node) → AllRunUp rank size edges → HoldsCounts edges old → SettledAt rank (uppers_of edges place) place old new → (k : ℕ) → (node_at new k).demand
    ≡ (node_at new k).claims + counted lower_end upper_end (used_at new) edges k
demand_kept rank size edges place old new stand kept s k =
    let same = counted_same lower_end upper_end (used_at old) (used_at new) k edges (each (λ e h. used_kept rank (uppers_of edges place) place old new s e.upper h.made_upper) edges stand) in
    let demand = at_each (λ n. (node_at new n).demand ≡ (node_at old n).demand) place (ap (λ (x : Node). x.demand) s.here) (λ n ne. ap (λ (x : Node). x.demand) (s.others n ne)) k in
    let claims = at_each (λ n. (node_at new n).claims ≡ (node_at old n).claims) place (ap (λ (x : Node). x.claims) s.here) (λ n ne. ap (λ (x : Node). x.claims) (s.others n ne)) k in
    omega (arith, same, demand, claims, kept.demand k)

up_kept : (rank : ℕ → ℕ) (size : ℕ) (edges : List Edge) (place : ℕ) (old new : List Node) → AllRunUp rank size edges → HoldsCounts edges old → SettledAt rank (uppers_of edges place) place old new → (k : ℕ) → (node_at new k).stale ≡ false
    → FollowsCounts (node_at new k)
up_kept rank size edges place old new stand kept s =
    at_each (λ k. (node_at new k).stale ≡ false → FollowsCounts (node_at new k)) place
    (λ _. subst FollowsCounts (sym s.here) (record { available = refl; link = refl }))
    (λ k ne h. let unmarked = sym (ap (λ (x : Node). x.stale) (s.others k ne)) ∙ h in subst FollowsCounts (sym (s.others k ne ∙ told_nothing _ _ _ (or_right _ _ unmarked))) (kept.stale k (or_left _ _ unmarked)))

abbrev pub UseFollows : Node → Type 0
UseFollows node = node.use_stale ≡ false → node.used ≡ is_used node.available node.demand

down_kept : (rank : ℕ → ℕ) (size : ℕ) (edges : List Edge) (place : ℕ) (old new : List Node) → AllRunUp rank size edges → HoldsCounts edges old → SettledAt rank (uppers_of edges place) place old new → (k : ℕ) → UseFollows (node_at new k)
down_kept rank size edges place old new stand kept s =
    at_each (λ k. UseFollows (node_at new k)) place
    (subst UseFollows (sym s.here) (λ h. ap (λ b. cond b (node_at old place).used (is_used (opens (node_at old place).kind (node_at old place).present (node_at old place).open_lowers) (node_at old place).demand)) (or_right _ _ h)))
    (λ k ne. subst UseFollows (sym (s.others k ne)) (kept.use_stale k))

pub kept_up : (rank : ℕ → ℕ) (size : ℕ) (edges : List Edge) (place : ℕ) (old new : List Node) → AllRunUp rank size edges → HoldsCounts edges old → SettledAt rank (uppers_of edges place) place old new → HoldsCounts edges new
kept_up rank size edges place old new stand kept s =
    record {
      open_lowers = ready_kept rank size edges place old new stand kept s;
      linked_lowers = linked_kept rank size edges place old new stand kept s;
      demand = demand_kept rank size edges place old new stand kept s;
      stale = up_kept rank size edges place old new stand kept s;
      use_stale = down_kept rank size edges place old new stand kept s;
    }
