use Rattle.std.proofs.Common.{arith, ℕ, ◌+◌, ◌<◌, ◌≤◌, ◌≡◌, ◌==◌, ◌≢◌, ◌&&◌, ⊎_elim, Bool, true, false, nat_lt, List, length, slice_index, refl, sym, ap, ◌∙◌}
use Rattle.std.proofs.lemmas.Bool.{cases_eq, or_cases, and_parts, ltb-true, true≢false, false≢true}
use Rattle.std.specs.List.{AllByRecursion}
use Rattle.use_counts.specs.declared.node.Edge.{Edge}
use Rattle.use_counts.specs.declared.node.Node.{Node}
use Rattle.use_counts.specs.NodeRule.{times, node_at, rank_at, occurs}
use Rattle.use_counts.specs.Marked.{IsLastUseStale}
use Rattle.use_counts.specs.Edges.{lower_end, upper_end, edges_at}
use Rattle.use_counts.specs.Held.{RunsUp, IsOrder, AllRunUp, HoldsCounts, UseSettledAt, DownTo, used_at, differs, moved, member_of}
use Rattle.use_counts.proofs.EdgeLemmas.{at_each, each, occurs_ends, joined_edge, touching_same, touching_more}
use Rattle.use_counts.proofs.HeldUp.{differs_not}
use Rattle.use_counts.proofs.HeldDown.{lowers_of, kept_down, use_stays, stays}
use Rattle.use_counts.proofs.UpLemmas.{one_turn, scaled_some, differs_self, moved_self}

still_touching : (edges : List Edge) (place : ℕ) (f g : ℕ → Bool) → AllByRecursion (λ e. e.upper ≢ place → g e.upper ≡ f e.upper) edges → f place ≡ false → g place ≡ false → edges_at upper_end g edges ≡ edges_at upper_end f edges
still_touching edges place f g same was now = touching_same upper_end f g edges (each (λ e h. ⊎_elim (λ eq. ap g eq ∙ now ∙ sym was ∙ ap f (sym eq)) h (cases_eq e.upper place)) edges same)

paid : (edges : List Edge) (place : ℕ) (f g : ℕ → Bool) (m : Bool) → AllByRecursion (λ e. e.upper ≢ place → g e.upper ≡ f e.upper) edges → f place ≡ false → g place ≡ m → edges_at upper_end g edges ≡ edges_at upper_end f edges
    + times m (edges_at upper_end (λ k. k == place) edges)
paid edges place f g true same was now = touching_more upper_end f g place edges same was now
paid edges place f g false same was now = omega (arith, still_touching edges place f g same was now)

called_mark : (rank : ℕ → ℕ) (size : ℕ) (edges : List Edge) (place k : ℕ) (m : Bool) → AllRunUp rank size edges → (nat_lt 0 (rank k) && nat_lt 0 (times m (occurs k (lowers_of edges place)))) ≡ true → (0 < rank k) × (rank k < rank place)
called_mark rank size edges place k m stand h =
    let parts = and_parts (nat_lt 0 (rank k)) (nat_lt 0 (times m (occurs k (lowers_of edges place)))) h in
    let some : 0 < occurs k (lowers_of edges place) = scaled_some m _ (ltb-true 0 _ parts.1) in
    let st = joined_edge lower_end upper_end (λ u l. RunsUp rank size l u) place k edges stand (omega (arith, some, occurs_ends lower_end upper_end edges place k)) in
    (ltb-true 0 (rank k) parts.0, st.order (ltb-true 0 (rank k) parts.0))

pub falling_more : (order : List ℕ) (rank : ℕ → ℕ) (size : ℕ) (edges : List Edge) (turn : ℕ) (before old new : List Node) (started spent now : ℕ) → IsOrder order rank size → turn < length order → AllRunUp rank size edges → length new
    ≡ length before → DownTo edges rank (turn + 1) before old started spent → UseSettledAt rank (lowers_of edges (slice_index order turn)) (slice_index order turn) old new → now ≡ spent
    + times (differs (used_at old (slice_index order turn)) (used_at new (slice_index order turn))) (edges_at upper_end (λ k. k == slice_index order turn) edges) → DownTo edges rank turn before new started now
falling_more order rank size edges turn before old new started spent now t h stand same_size r s ticks =
    let place = slice_index order turn in
    let lowers = lowers_of edges place in
    let mine = (t.made_at turn h).1 in
    let here = r.untouched place (omega (arith, mine)) (omega (arith, mine)) in
    record {
      kept = kept_down rank size edges place old new stand r.kept s;
      ranks = λ k. stays (λ n. n.rank) rank lowers place old new s refl (λ _ _ _ _ _. refl) k ∙ r.ranks k;
      size = same_size;
      ups = λ k. stays (λ n. n.stale) rank lowers place old new s refl (λ _ _ _ _ _. refl) k ∙ r.ups k;
      use_marks = at_each (λ k. (node_at new k).use_stale ≡ true → (0 < rank k) × (rank k ≤ turn)) place
          (λ d. absurd (false≢true (sym (ap (λ (n : Node). n.use_stale) s.here) ∙ d)))
          (λ k ne d. ⊎_elim
          (λ (a : (node_at old k).use_stale ≡ true). let apart : rank k ≢ turn + 1 = λ e. ne (one_turn order rank size turn k t e) in ((r.use_marks k a).0, omega (arith, (r.use_marks k a).1, apart)))
          (λ a. let c = called_mark rank size edges place k (differs (used_at old place) (used_at new place)) stand a in (c.0, omega (arith, c.1, mine)))
          (or_cases _ _ (sym (ap (λ (n : Node). n.use_stale) (s.others k ne)) ∙ d)));
      untouched = λ k a b. ap (differs (used_at before k)) (use_stays rank lowers place old new s k a (λ e. omega (arith, b, ap rank e, mine))) ∙ r.untouched k a (omega arith);
      members = λ k. stays member_of rank lowers place old new s refl (λ _ _ _ _ _. refl) k ∙ r.members k;
      still = λ k. stays (λ n. moved (node_at before k) n) rank lowers place old new s refl (λ _ _ _ _ _. refl) k ∙ r.still k;
      cost = omega (
        arith,
        ticks,
        r.cost,
        paid edges place (λ k. differs (used_at before k) (used_at old k)) (λ k. differs (used_at before k) (used_at new k)) _
            (each (λ e st ne. ap (differs (used_at before e.upper)) (use_stays rank lowers place old new s e.upper st.made_upper ne)) edges stand) here (ap (λ b. differs b (used_at new place)) (differs_not _ _ here)),
      );
    }

-- none above the last stale use is stale
pub skip_down : (edges : List Edge) (rank : ℕ → ℕ) (turn next : ℕ) (before nodes : List Node) (started spent : ℕ) → IsLastUseStale nodes next → DownTo edges rank turn before nodes started spent
    → DownTo edges rank (next + 1) before nodes started spent
skip_down edges rank turn next before nodes started spent found r =
    let on : next + 1 ≤ turn = omega (arith, (r.use_marks found.place found.use_stale).1, r.ranks found.place, found.rank) in
    record {
      kept = r.kept;
      ranks = r.ranks;
      size = r.size;
      ups = r.ups;
      use_marks = λ k d. let some = (r.use_marks k d).0 in (some, omega (arith, found.greatest k (omega (arith, some, r.ranks k)) d, r.ranks k));
      untouched = λ k a b. r.untouched k a (omega arith);
      members = r.members;
      still = r.still;
      cost = r.cost;
    }

-- no use is stale
pub done_down : (edges : List Edge) (rank : ℕ → ℕ) (turn : ℕ) (before nodes : List Node) (started spent : ℕ) → ((k : ℕ) → 0 < rank_at nodes k → (node_at nodes k).use_stale ≡ false) → DownTo edges rank turn before nodes started spent
    → DownTo edges rank 0 before nodes started spent
done_down edges rank turn before nodes started spent none r =
    record {
      kept = r.kept;
      ranks = r.ranks;
      size = r.size;
      ups = r.ups;
      use_marks = λ k d. absurd (true≢false (sym d ∙ none k (omega (arith, (r.use_marks k d).0, r.ranks k))));
      untouched = λ k a b. absurd (omega arith);
      members = r.members;
      still = r.still;
      cost = r.cost;
    }

pub next_below : (edges : List Edge) (order : List ℕ) (rank : ℕ → ℕ) (size turn next : ℕ) (before nodes : List Node) (started spent : ℕ) → IsOrder order rank size → IsLastUseStale nodes next
    → DownTo edges rank turn before nodes started spent → (next < length order) × (next < turn)
next_below edges order rank size turn next before nodes started spent t found r =
    let is : rank found.place ≡ next + 1 = sym (r.ranks found.place) ∙ found.rank in
    (omega (arith, is, (t.turn_of found.place (omega (arith, is))).0), omega (arith, is, (r.use_marks found.place found.use_stale).1))

pub falling_start : (edges : List Edge) (order : List ℕ) (rank : ℕ → ℕ) (size : ℕ) (nodes : List Node) (started : ℕ) → IsOrder order rank size → HoldsCounts edges nodes → ((k : ℕ) → rank_at nodes k ≡ rank k)
    → ((k : ℕ) → (node_at nodes k).stale ≡ false) → ((k : ℕ) → (node_at nodes k).use_stale ≡ true → 0 < rank k) → DownTo edges rank (length order) nodes nodes started started
falling_start edges order rank size nodes started t kept ranks ups use_marks =
    record {
      kept = kept;
      ranks = ranks;
      size = refl;
      ups = ups;
      use_marks = λ k d. (use_marks k d, (t.turn_of k (use_marks k d)).0);
      untouched = λ k _ _. differs_self (used_at nodes k);
      members = λ k. refl;
      still = λ k. moved_self (node_at nodes k);
      cost = omega arith;
    }
