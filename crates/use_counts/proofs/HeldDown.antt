use Rattle.std.proofs.Common.{arith, subst, ℕ, ◌+◌, ◌-◌, ◌<◌, ◌≡◌, ◌≢◌, ⊎_elim, Bool, true, false, nat_lt, cond, List, refl, sym, ap, ◌∙◌}
use Rattle.std.proofs.lemmas.Bool.{cases_Bool, false≢true, lt-ltb}
use Rattle.use_counts.specs.declared.node.Edge.{Edge}
use Rattle.use_counts.specs.declared.node.Node.{Node}
use Rattle.use_counts.specs.NodeRule.{is_used, times, node_at, occurs, after_upper}
use Rattle.use_counts.specs.Edges.{lower_end, upper_end, counted, joining, far_ends}
use Rattle.use_counts.specs.Held.{RunsUp, AllRunUp, FollowsCounts, HoldsCounts, UseSettledAt, available_at, link_at, used_at, differs, use_settled}
use Rattle.use_counts.proofs.EdgeLemmas.{at_each, everywhere, each, counted_same, occurs_ends, joined_edge, count_follows, nothing}
use Rattle.use_counts.proofs.HeldUp.{differs_not, or_right, apart_from_itself, UseFollows}
use Rattle.use_counts.proofs.VisitLemmas.{called_nothing}

abbrev pub lowers_of : List Edge → ℕ → List ℕ
lowers_of edges place = far_ends lower_end upper_end edges place

pub none_below_itself : (rank : ℕ → ℕ) (size : ℕ) (edges : List Edge) (place : ℕ) → AllRunUp rank size edges → occurs place (lowers_of edges place) ≡ 0
none_below_itself rank size edges place stand =
    let some = joined_edge lower_end upper_end (λ u l. RunsUp rank size l u) place place edges stand in
    let never : ¬ (0 < joining lower_end upper_end edges place place) = λ h. apart_from_itself rank size place (some h) in
    omega (arith, never, occurs_ends lower_end upper_end edges place place)

made_use : (b u v : Bool) → b ≡ true → cond b u v ≡ u
made_use true u v h = refl
made_use false u v h = absurd (false≢true h)

pub use_stays : (rank : ℕ → ℕ) (lowers : List ℕ) (place : ℕ) (old new : List Node) → UseSettledAt rank lowers place old new → (k : ℕ) → 0 < rank k → k ≢ place → used_at new k ≡ used_at old k
use_stays rank lowers place old new s k h ne = ap (λ (n : Node). n.used) (s.others k ne) ∙ made_use (nat_lt 0 (rank k)) (node_at old k).used _ (lt-ltb 0 (rank k) h)

pub stays : {X : Type 0} (field : Node → X) (rank : ℕ → ℕ) (lowers : List ℕ) (place : ℕ) (old new : List Node) → UseSettledAt rank lowers place old new → field (use_settled (node_at old place)) ≡ field (node_at old place)
    → ((was now is_made : Bool) (node : Node) (n : ℕ) → field (after_upper was now is_made node n) ≡ field node) → (k : ℕ) → field (node_at new k) ≡ field (node_at old k)
stays field rank lowers place old new s here others =
    at_each (λ k. field (node_at new k) ≡ field (node_at old k)) place (ap field s.here ∙ here)
    (λ k ne. ap field (s.others k ne) ∙ others (used_at old place) (used_at new place) (nat_lt 0 (rank k)) (node_at old k) (times (differs (used_at old place) (used_at new place)) (occurs k lowers)))

demand_follows : (rank : ℕ → ℕ) (size : ℕ) (edges : List Edge) (place : ℕ) (old new : List Node) → AllRunUp rank size edges → HoldsCounts edges old → UseSettledAt rank (lowers_of edges place) place old new → (k : ℕ) → (node_at new k).demand
    ≡ (node_at new k).claims + counted lower_end upper_end (used_at new) edges k
demand_follows rank size edges place old new stand kept s k =
    let m = differs (used_at old place) (used_at new place) in
    let claims = stays (λ n. n.claims) rank (lowers_of edges place) place old new s refl (λ _ _ _ _ _. refl) in
    let fact = λ (k : ℕ). count_follows lower_end upper_end edges place k (node_at old k).claims (used_at old) (used_at new) m (node_at old k).demand
    (each (λ e st ne. use_stays rank (lowers_of edges place) place old new s e.upper st.made_upper ne) edges stand) (λ d. differs_not _ _ d) (kept.demand k) in
    at_each (λ k. (node_at new k).demand ≡ (node_at old k).claims + counted lower_end upper_end (used_at new) edges k) place
    (ap (λ (x : Node). x.demand) s.here ∙ sym (nothing (used_at old place) (used_at new place) m _ _ (none_below_itself rank size edges place stand)) ∙ fact place)
    (λ k ne. ap (λ (x : Node). x.demand) (s.others k ne) ∙ fact k)
    k ∙ ap (λ n. n + counted lower_end upper_end (used_at new) edges k) (sym (claims k))

right_same : (a b : Node) → a.kind ≡ b.kind → a.present ≡ b.present → a.carrier ≡ b.carrier → a.available ≡ b.available → a.link ≡ b.link → a.open_lowers ≡ b.open_lowers → a.linked_lowers ≡ b.linked_lowers → FollowsCounts b
    → FollowsCounts a
right_same a b kind present carrier available link open_lowers linked_lowers h = record { available = cc (h.available); link = cc (h.link) }

called_right : (was now is_made : Bool) (node : Node) (n : ℕ) → UseFollows node → UseFollows (after_upper was now is_made node n)
called_right was now true node n h d = subst UseFollows (sym (called_nothing was now true node n (or_right _ _ d))) h d
called_right was now false node n h d =
    ⊎_elim
    (λ e. ap (λ b. cond b (is_used node.available ((node.demand + times now n) - times was n)) node.used) e)
    (λ e. subst UseFollows (sym (called_nothing was now false node n e)) h d)
    (cases_Bool (nat_lt 0 n))

pub kept_down : (rank : ℕ → ℕ) (size : ℕ) (edges : List Edge) (place : ℕ) (old new : List Node) → AllRunUp rank size edges → HoldsCounts edges old → UseSettledAt rank (lowers_of edges place) place old new → HoldsCounts edges new
kept_down rank size edges place old new stand kept s =
    let lowers = lowers_of edges place in
    let available = stays (λ n. n.available) rank lowers place old new s refl (λ _ _ _ _ _. refl) in
    let link = stays (λ n. n.link) rank lowers place old new s refl (λ _ _ _ _ _. refl) in
    record {
      open_lowers = λ k. stays (λ n. n.open_lowers) rank lowers place old new s refl (λ _ _ _ _ _. refl) k ∙ kept.open_lowers k
          ∙ sym (counted_same upper_end lower_end (available_at old) (available_at new) k edges (everywhere (λ e. available e.lower) edges));
      linked_lowers = λ k. stays (λ n. n.linked_lowers) rank lowers place old new s refl (λ _ _ _ _ _. refl) k ∙ kept.linked_lowers k
          ∙ sym (counted_same upper_end lower_end (link_at old) (link_at new) k edges (everywhere (λ e. link e.lower) edges));
      demand = demand_follows rank size edges place old new stand kept s;
      stale = λ k u. right_same (node_at new k) (node_at old k)
          (stays (λ n. n.kind) rank lowers place old new s refl (λ _ _ _ _ _. refl) k)
          (stays (λ n. n.present) rank lowers place old new s refl (λ _ _ _ _ _. refl) k)
          (stays (λ n. n.carrier) rank lowers place old new s refl (λ _ _ _ _ _. refl) k)
          (available k) (link k)
          (stays (λ n. n.open_lowers) rank lowers place old new s refl (λ _ _ _ _ _. refl) k)
          (stays (λ n. n.linked_lowers) rank lowers place old new s refl (λ _ _ _ _ _. refl) k)
          (kept.stale k (sym (stays (λ n. n.stale) rank lowers place old new s refl (λ _ _ _ _ _. refl) k) ∙ u));
      use_stale = at_each (λ k. UseFollows (node_at new k)) place
          (subst UseFollows (sym s.here) (λ _. refl))
          (λ k ne. subst UseFollows (sym (s.others k ne)) (called_right (used_at old place) (used_at new place) (nat_lt 0 (rank k)) (node_at old k) (times (differs (used_at old place) (used_at new place)) (occurs k lowers))
          (kept.use_stale k)));
    }
