use Rattle.std.proofs.Common.{arith, subst, ℕ, ◌+◌, ◌<◌, ◌≤◌, ◌≡◌, ◌==◌, ◌≢◌, ◌||◌, ⊎_elim, Bool, true, false, nat_lt, List, length, slice_index, ◌-◌, refl, sym, ap, ◌∙◌}
use Rattle.std.proofs.lemmas.Bool.{cases_lt, or_cases, ltb-true, true≢false, false≢true}
use Rattle.use_counts.specs.declared.node.Edge.{Edge}
use Rattle.use_counts.specs.declared.node.Node.{Node}
use Rattle.use_counts.specs.NodeRule.{times, node_at, rank_at, occurs}
use Rattle.use_counts.specs.Marked.{IsFirstStale}
use Rattle.use_counts.specs.Edges.{lower_end, upper_end, edges_at}
use Rattle.use_counts.specs.Held.{RunsUp, IsOrder, AllRunUp, HoldsCounts, SettledAt, UpTo, used_at, differs, moved, member_of}
use Rattle.use_counts.proofs.EdgeLemmas.{at_each, everywhere, occurs_ends, joined_edge, touching_same, touching_more}
use Rattle.use_counts.proofs.HeldUp.{uppers_of, kept_up, used_kept, differs_not, or_left, or_right}

pub record UpToBut (edges : List Edge) (rank : ℕ → ℕ) (q place : ℕ) (before nodes : List Node) (started spent : ℕ) : Type 0 where
  pub kept : HoldsCounts edges nodes
  pub ranks : (k : ℕ) → rank_at nodes k ≡ rank k
  pub marks : (k : ℕ) → k ≢ place → (node_at nodes k).stale ≡ true → q < rank k
  pub use_marks : (k : ℕ) → (node_at nodes k).use_stale ≡ true → 0 < rank k
  pub here : moved (node_at before place) (node_at nodes place) ≡ false
  pub untouched : (k : ℕ) → q < rank k → moved (node_at before k) (node_at nodes k) ≡ false
  pub members : (k : ℕ) → member_of (node_at nodes k) ≡ member_of (node_at before k)
  pub used : (k : ℕ) → 0 < rank k → used_at nodes k ≡ used_at before k
  pub cost : spent ≤ started + edges_at lower_end (λ k. moved (node_at before k) (node_at nodes k)) edges
  pub beyond : (k : ℕ) → q < rank k → k ≢ place
  pub reached : (k : ℕ) → 0 < rank k → (0 < rank place → rank place < rank k) → q < rank k

pub differs_self : (a : Bool) → differs a a ≡ false
differs_self true = refl
differs_self false = refl

pub moved_self : (node : Node) → moved node node ≡ false
moved_self node = ap (λ b. b || differs node.link node.link) (differs_self node.available) ∙ differs_self node.link

pub moved_from : (a b n : Node) → moved a b ≡ false → moved a n ≡ moved b n
moved_from a b n still = ap (λ x. differs x n.available || differs a.link n.link) (differs_not _ _ (or_left _ _ still)) ∙ ap (λ x. differs b.available n.available || differs x n.link) (differs_not _ _ (or_right _ _ still))

pub scaled_some : (m : Bool) (n : ℕ) → 0 < times m n → 0 < n
scaled_some true n h = h
scaled_some false n h = absurd (omega arith)

told_mark : (rank : ℕ → ℕ) (size : ℕ) (edges : List Edge) (q place : ℕ) (before old : List Node) (started spent : ℕ) → AllRunUp rank size edges → UpToBut edges rank q place before old started spent → (k : ℕ) (m : Bool)
    → nat_lt 0 (times m (occurs k (uppers_of edges place))) ≡ true → q < rank k
told_mark rank size edges q place before old started spent stand r k m h =
    let some : 0 < occurs k (uppers_of edges place) = scaled_some m _ (ltb-true 0 _ h) in
    let st = joined_edge upper_end lower_end (RunsUp rank size) place k edges stand (omega (arith, some, occurs_ends upper_end lower_end edges place k)) in
    r.reached k st.made_upper st.order

still_touching : (edges : List Edge) (place : ℕ) (f g : ℕ → Bool) → ((k : ℕ) → k ≢ place → g k ≡ f k) → f place ≡ false → g place ≡ false → edges_at lower_end g edges ≡ edges_at lower_end f edges
still_touching edges place f g same was now = touching_same lower_end f g edges (everywhere (λ e. at_each (λ k. g k ≡ f k) place (now ∙ sym was) same e.lower) edges)

paid : (edges : List Edge) (place : ℕ) (f g : ℕ → Bool) (m : Bool) → ((k : ℕ) → k ≢ place → g k ≡ f k) → f place ≡ false → g place ≡ m → edges_at lower_end g edges ≡ edges_at lower_end f edges
    + times m (edges_at lower_end (λ k. k == place) edges)
paid edges place f g true same was now = touching_more lower_end f g place edges (everywhere (λ e. same e.lower) edges) was now
paid edges place f g false same was now = omega (arith, still_touching edges place f g same was now)

new_marks : (rank : ℕ → ℕ) (size : ℕ) (edges : List Edge) (q place : ℕ) (before old new : List Node) (started spent : ℕ) → AllRunUp rank size edges → UpToBut edges rank q place before old started spent
    → SettledAt rank (uppers_of edges place) place old new → (k : ℕ) → (node_at new k).stale ≡ true → q < rank k
new_marks rank size edges q place before old new started spent stand r s =
    at_each (λ k. (node_at new k).stale ≡ true → q < rank k) place
    (λ h. absurd (false≢true (sym (ap (λ (n : Node). n.stale) s.here) ∙ h)))
    (λ k ne h. ⊎_elim (r.marks k ne) (λ h. told_mark rank size edges q place before old started spent stand r k (moved (node_at old place) (node_at new place)) h) (or_cases _ _ (sym (ap (λ (n : Node). n.stale) (s.others k ne)) ∙ h)))

pub rising_more : (rank : ℕ → ℕ) (size : ℕ) (edges : List Edge) (q place : ℕ) (before old new : List Node) (started spent now : ℕ) → AllRunUp rank size edges → length new ≡ length before → UpToBut edges rank q place before old started spent
    → SettledAt rank (uppers_of edges place) place old new → now ≡ spent + times (moved (node_at old place) (node_at new place)) (edges_at lower_end (λ k. k == place) edges) → UpTo edges rank q before new started now
rising_more rank size edges q place before old new started spent now stand same_size r s ticks =
    record {
      kept = kept_up rank size edges place old new stand r.kept s;
      ranks = at_each (λ k. rank_at new k ≡ rank k) place (ap (λ (n : Node). n.rank) s.here ∙ r.ranks place) (λ k ne. ap (λ (n : Node). n.rank) (s.others k ne) ∙ r.ranks k);
      size = same_size;
      marks = new_marks rank size edges q place before old new started spent stand r s;
      use_marks = at_each (λ k. (node_at new k).use_stale ≡ true → 0 < rank k) place
          (λ h. ⊎_elim (r.use_marks place) (ltb-true 0 (rank place)) (or_cases _ _ (sym (ap (λ (n : Node). n.use_stale) s.here) ∙ h)))
          (λ k ne h. r.use_marks k (sym (ap (λ (n : Node). n.use_stale) (s.others k ne)) ∙ h));
      untouched = λ k a. subst (λ (n : Node). moved (node_at before k) n ≡ false) (sym (s.others k (r.beyond k a))) (r.untouched k a);
      members = at_each (λ k. member_of (node_at new k) ≡ member_of (node_at before k)) place (ap member_of s.here ∙ r.members place) (λ k ne. ap member_of (s.others k ne) ∙ r.members k);
      used = λ k h. used_kept rank (uppers_of edges place) place old new s k h ∙ r.used k h;
      cost = omega (
        arith,
        ticks,
        r.cost,
        paid edges place (λ k. moved (node_at before k) (node_at old k)) (λ k. moved (node_at before k) (node_at new k)) _ (λ k ne. ap (moved (node_at before k)) (s.others k ne)) r.here
            (moved_from (node_at before place) (node_at old place) (node_at new place) r.here),
      );
    }

pub but_start : (edges : List Edge) (rank : ℕ → ℕ) (place : ℕ) (nodes : List Node) (started : ℕ) → HoldsCounts edges nodes → ((k : ℕ) → rank_at nodes k ≡ rank k) → ((k : ℕ) → k ≢ place → (node_at nodes k).stale ≡ true → rank place < rank k)
    → ((k : ℕ) → (node_at nodes k).use_stale ≡ true → 0 < rank k) → UpToBut edges rank (rank place) place nodes nodes started started
but_start edges rank place nodes started kept ranks marks use_marks =
    record {
      kept = kept;
      ranks = ranks;
      marks = marks;
      use_marks = use_marks;
      here = moved_self (node_at nodes place);
      untouched = λ k _. moved_self (node_at nodes k);
      members = λ k. refl;
      used = λ k _. refl;
      cost = omega arith;
      beyond = λ k a e. omega (arith, a, ap rank e);
      reached = λ k a b. ⊎_elim b (λ z. omega (arith, a, z)) (cases_lt 0 (rank place));
    }

pub one_turn : (order : List ℕ) (rank : ℕ → ℕ) (size turn k : ℕ) → IsOrder order rank size → rank k ≡ turn + 1 → k ≡ slice_index order turn
one_turn order rank size turn k t e =
    let turn_is : rank k - 1 ≡ turn = omega arith in
    sym ((t.turn_of k (omega arith)).1) ∙ ap (slice_index order) turn_is

pub but_next : (edges : List Edge) (order : List ℕ) (rank : ℕ → ℕ) (size turn : ℕ) (before nodes : List Node) (started spent : ℕ) → IsOrder order rank size → turn < length order → UpTo edges rank turn before nodes started spent
    → UpToBut edges rank (turn + 1) (slice_index order turn) before nodes started spent
but_next edges order rank size turn before nodes started spent t h r =
    let place = slice_index order turn in
    let mine = (t.made_at turn h).1 in
    record {
      kept = r.kept;
      ranks = r.ranks;
      marks = λ k ne stale. let apart : rank k ≢ turn + 1 = λ e. ne (one_turn order rank size turn k t e) in omega (arith, r.marks k stale, apart);
      use_marks = r.use_marks;
      here = r.untouched place (omega (arith, mine));
      untouched = λ k a. r.untouched k (omega arith);
      members = r.members;
      used = r.used;
      cost = r.cost;
      beyond = λ k a e. omega (arith, a, ap rank e, mine);
      reached = λ k a b. omega (arith, b, mine);
    }

-- none below the first stale one is stale
pub skip_up : (edges : List Edge) (rank : ℕ → ℕ) (turn next : ℕ) (before nodes : List Node) (started spent : ℕ) → IsFirstStale nodes next → UpTo edges rank turn before nodes started spent → UpTo edges rank next before nodes started spent
skip_up edges rank turn next before nodes started spent found r =
    let on : turn ≤ next = omega (arith, r.marks found.place found.stale, r.ranks found.place, found.rank) in
    record {
      kept = r.kept;
      ranks = r.ranks;
      size = r.size;
      marks = λ k stale. omega (arith, found.least k (omega (arith, r.marks k stale, r.ranks k)) stale, r.ranks k);
      use_marks = r.use_marks;
      untouched = λ k a. r.untouched k (omega arith);
      members = r.members;
      used = r.used;
      cost = r.cost;
    }

-- none is stale
pub done_up : (edges : List Edge) (rank : ℕ → ℕ) (turn last : ℕ) (before nodes : List Node) (started spent : ℕ) → ((k : ℕ) → 0 < rank_at nodes k → (node_at nodes k).stale ≡ false) → turn ≤ last
    → UpTo edges rank turn before nodes started spent → UpTo edges rank last before nodes started spent
done_up edges rank turn last before nodes started spent none on r =
    record {
      kept = r.kept;
      ranks = r.ranks;
      size = r.size;
      marks = λ k stale. absurd (true≢false (sym stale ∙ none k (omega (arith, r.marks k stale, r.ranks k))));
      use_marks = r.use_marks;
      untouched = λ k a. r.untouched k (omega arith);
      members = r.members;
      used = r.used;
      cost = r.cost;
    }

-- the place of the first stale one in the order
pub next_within : (edges : List Edge) (order : List ℕ) (rank : ℕ → ℕ) (size turn next : ℕ) (before nodes : List Node) (started spent : ℕ) → IsOrder order rank size → IsFirstStale nodes next → UpTo edges rank turn before nodes started spent
    → next < length order
next_within edges order rank size turn next before nodes started spent t found r =
    let is : rank found.place ≡ next + 1 = sym (r.ranks found.place) ∙ found.rank in
    omega (arith, is, (t.turn_of found.place (omega (arith, is))).0)

pub rank_within : (order : List ℕ) (rank : ℕ → ℕ) (size k : ℕ) → IsOrder order rank size → rank k ≤ length order
rank_within order rank size k t = ⊎_elim (λ some. (t.turn_of k some).0) (λ none. omega (arith, none)) (cases_lt 0 (rank k))
