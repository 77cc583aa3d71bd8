use Rattle.std.proofs.Common.{arith, subst, ℕ, ◌+◌, ◌-◌, ◌^◌, ◌<◌, ◌≤◌, ◌≡◌, ◌||◌, Bool, true, false, nat_lt, cond, List, length, map, slice_set, get_or-set_same, get_or-set_other, refl, sym, ap, ◌∙◌}
use Rattle.std.proofs.lemmas.Bool.{lt-ltb, true≢false}
use Rattle.std.proofs.lemmas.List.{ext_get_or, map-set, length-map}
use Rattle.std.proofs.Math.ListN.{get_or-map}
use Rattle.use_counts.specs.declared.node.Edge.{Edge}
use Rattle.use_counts.specs.declared.node.Node.{Node}
use Rattle.use_counts.specs.NodeRule.{no_node, is_used, node_at, rank_at, with_claims}
use Rattle.use_counts.specs.Edges.{lower_end, upper_end, counted}
use Rattle.use_counts.specs.Held.{AllRunUp, IsOrder, FollowsCounts, HoldsCounts, UpTo, DownTo, IsCalm, Settles, available_at, link_at, used_at, differs, moved, visits_due, member_of}
use Rattle.use_counts.proofs.EdgeLemmas.{at_each, everywhere, each, counted_same, touching_same, counted-le-length}
use Rattle.use_counts.proofs.HeldUp.{UseFollows, differs_not, or_left, or_right}
use Rattle.use_counts.proofs.SettledUp.{written}

moved_to : (a b n : Node) → moved b n ≡ false → moved a n ≡ moved a b
moved_to a b n still = ap (λ x. differs a.available x || differs a.link n.link) (sym (differs_not _ _ (or_left _ _ still))) ∙ ap (λ x. differs a.available b.available || differs a.link x) (sym (differs_not _ _ (or_right _ _ still)))

not_marked : (b : Bool) → (b ≡ true → ⊥) → b ≡ false
not_marked true h = absurd (h refl)
not_marked false h = refl

pub none_up : (edges : List Edge) (order : List ℕ) (rank : ℕ → ℕ) (size : ℕ) (before nodes : List Node) (started spent : ℕ) → IsOrder order rank size → UpTo edges rank (length order) before nodes started spent → (k : ℕ)
    → (node_at nodes k).stale ≡ false
none_up edges order rank size before nodes started spent t r k = not_marked _ (λ h. omega (arith, r.marks k h, (t.turn_of k (omega (arith, r.marks k h))).0))

none_down : (edges : List Edge) (rank : ℕ → ℕ) (before nodes : List Node) (started spent : ℕ) → DownTo edges rank 0 before nodes started spent → (k : ℕ) → (node_at nodes k).use_stale ≡ false
none_down edges rank before nodes started spent f k = not_marked _ (λ h. omega (arith, (f.use_marks k h).0, (f.use_marks k h).1))

pub at_rest : (edges : List Edge) (rank : ℕ → ℕ) (before nodes : List Node) (started spent : ℕ) → DownTo edges rank 0 before nodes started spent → IsCalm edges nodes
at_rest edges rank before nodes started spent f = record { kept = f.kept; ups = f.ups; downs = none_down edges rank before nodes started spent f }

pub settles : (rank : ℕ → ℕ) (size p : ℕ) (edges : List Edge) (before mid nodes : List Node) (started stale spent : ℕ) → AllRunUp rank size edges → ((k : ℕ) → rank_at before k ≡ rank k) → UpTo edges rank p before mid started stale
    → DownTo edges rank 0 mid nodes stale spent → Settles edges before nodes started spent
settles rank size p edges before mid nodes started stale spent stand start r f =
    let ups = touching_same lower_end (λ k. moved (node_at before k) (node_at mid k)) (λ k. moved (node_at before k) (node_at nodes k)) edges
    (everywhere (λ e. moved_to (node_at before e.lower) (node_at mid e.lower) (node_at nodes e.lower) (f.still e.lower)) edges) in
    let downs = touching_same upper_end (λ k. differs (used_at mid k) (used_at nodes k)) (λ k. differs (used_at before k) (used_at nodes k)) edges
    (each (λ e s. ap (λ b. differs b (used_at nodes e.upper)) (sym (r.used e.upper s.made_upper))) edges stand) in
    record {
      rest = at_rest edges rank mid nodes stale spent f;
      ranks = λ k. f.ranks k ∙ sym (start k);
      size = f.size ∙ r.size;
      members = λ k. f.members k ∙ r.members k;
      cost = omega (arith, ups, downs, r.cost, f.cost);
    }

pub kept_device : (edges : List Edge) (old : List Node) (place : ℕ) (present carrier : Bool) → place < length old → HoldsCounts edges old
    → HoldsCounts edges (slice_set old place (record (node_at old place) { present = present; carrier = carrier; stale = true }))
kept_device edges old place present carrier within kept =
    let now = record (node_at old place) { present = present; carrier = carrier; stale = true } in
    let new = slice_set old place now in
    let here = get_or-set_same old place now no_node within in
    let available = written (λ n. n.available) old place now within refl in
    let link = written (λ n. n.link) old place now within refl in
    let used = written (λ n. n.used) old place now within refl in
    let claims = written (λ n. n.claims) old place now within refl in
    record {
      open_lowers = λ k. written (λ n. n.open_lowers) old place now within refl k ∙ kept.open_lowers k ∙ sym (counted_same upper_end lower_end (available_at old) (available_at new) k edges (everywhere (λ e. available e.lower) edges));
      linked_lowers = λ k. written (λ n. n.linked_lowers) old place now within refl k ∙ kept.linked_lowers k ∙ sym (counted_same upper_end lower_end (link_at old) (link_at new) k edges (everywhere (λ e. link e.lower) edges));
      demand = λ k. omega (arith, written (λ n. n.demand) old place now within refl k, kept.demand k, claims k, counted_same lower_end upper_end (used_at old) (used_at new) k edges (everywhere (λ e. used e.upper) edges));
      stale = at_each (λ k. (node_at new k).stale ≡ false → FollowsCounts (node_at new k)) place
          (λ h. absurd (true≢false (sym (ap (λ (n : Node). n.stale) here) ∙ h)))
          (λ k ne. subst (λ (n : Node). n.stale ≡ false → FollowsCounts n) (sym (get_or-set_other old place k now no_node ne)) (kept.stale k));
      use_stale = at_each (λ k. UseFollows (node_at new k)) place
          (subst UseFollows (sym here) (kept.use_stale place))
          (λ k ne. subst UseFollows (sym (get_or-set_other old place k now no_node ne)) (kept.use_stale k));
    }

pub same_points : (xs ys : List Node) → length xs ≡ length ys → ((k : ℕ) → member_of (node_at xs k) ≡ member_of (node_at ys k)) → map member_of xs ≡ map member_of ys
same_points xs ys long same =
    ext_get_or (member_of no_node) (map member_of xs) (map member_of ys) (length-map xs member_of ∙ long ∙ sym (length-map ys member_of)) (λ i _. get_or-map member_of xs i no_node ∙ same i ∙ sym (get_or-map member_of ys i no_node))

pub points_after : (old new : List Node) (place : ℕ) (now : Node) → length new ≡ length (slice_set old place now) → ((k : ℕ) → member_of (node_at new k) ≡ member_of (node_at (slice_set old place now) k)) → map member_of new
    ≡ slice_set (map member_of old) place (member_of now)
points_after old new place now long same = same_points new (slice_set old place now) long same ∙ map-set member_of old place now

pub payment_after : (edges : List Edge) (old new : List Node) (place : ℕ) (rank : ℕ → ℕ) (size : ℕ) (now : Node) → place < length old → AllRunUp rank size edges → now.available ≡ (node_at old place).available → now.link
    ≡ (node_at old place).link → (0 < rank place → now.used ≡ (node_at old place).used) → visits_due edges (slice_set old place now) new ≡ visits_due edges old new
payment_after edges old new place rank size now within stand available link used =
    let mid = slice_set old place now in
    let a = written (λ n. n.available) old place now within available in
    let l = written (λ n. n.link) old place now within link in
    let u : (k : ℕ) → 0 < rank k → used_at mid k ≡ used_at old k =
    at_each (λ k. 0 < rank k → used_at mid k ≡ used_at old k) place (λ h. ap (λ (n : Node). n.used) (get_or-set_same old place now no_node within) ∙ used h)
    (λ k ne _. ap (λ (n : Node). n.used) (get_or-set_other old place k now no_node ne)) in
    let ups = touching_same lower_end (λ k. moved (node_at old k) (node_at new k)) (λ k. moved (node_at mid k) (node_at new k)) edges
    (everywhere (λ e. ap (λ b. differs b (available_at new e.lower) || differs (link_at mid e.lower) (link_at new e.lower)) (a e.lower)
    ∙ ap (λ b. differs (available_at old e.lower) (available_at new e.lower) || differs b (link_at new e.lower)) (l e.lower)) edges) in
    let downs = touching_same upper_end (λ k. differs (used_at old k) (used_at new k)) (λ k. differs (used_at mid k) (used_at new k)) edges (each (λ e s. ap (λ b. differs b (used_at new e.upper)) (u e.upper s.made_upper)) edges stand) in
    omega (arith, ups, downs)

pub claimed_use : (claims place : ℕ) (rank : ℕ → ℕ) (node : Node) → 0 < rank place → (with_claims claims (nat_lt 0 (rank place)) node).used ≡ node.used
claimed_use claims place rank node h = ap (λ b. cond b node.used (is_used node.available ((node.demand + claims) - node.claims))) (lt-ltb 0 (rank place) h)

right_claimed : (claims : ℕ) (is_made : Bool) (node : Node) → FollowsCounts node → FollowsCounts (with_claims claims is_made node)
right_claimed claims is_made node r = record { available = r.available; link = r.link }

pub kept_claimed : (rank : ℕ → ℕ) (size : ℕ) (edges : List Edge) (old : List Node) (place claims : ℕ) → place < length old → AllRunUp rank size edges → HoldsCounts edges old
    → HoldsCounts edges (slice_set old place (with_claims claims (nat_lt 0 (rank place)) (node_at old place)))
kept_claimed rank size edges old place claims within stand kept =
    let now = with_claims claims (nat_lt 0 (rank place)) (node_at old place) in
    let new = slice_set old place now in
    let here = get_or-set_same old place now no_node within in
    let available = written (λ n. n.available) old place now within refl in
    let link = written (λ n. n.link) old place now within refl in
    let used : (k : ℕ) → 0 < rank k → used_at new k ≡ used_at old k =
    at_each (λ k. 0 < rank k → used_at new k ≡ used_at old k) place (λ h. ap (λ (n : Node). n.used) here ∙ claimed_use claims place rank (node_at old place) h)
    (λ k ne _. ap (λ (n : Node). n.used) (get_or-set_other old place k now no_node ne)) in
    let above = λ (k : ℕ). counted_same lower_end upper_end (used_at old) (used_at new) k edges (each (λ e s. used e.upper s.made_upper) edges stand) in
    record {
      open_lowers = λ k. written (λ n. n.open_lowers) old place now within refl k ∙ kept.open_lowers k ∙ sym (counted_same upper_end lower_end (available_at old) (available_at new) k edges (everywhere (λ e. available e.lower) edges));
      linked_lowers = λ k. written (λ n. n.linked_lowers) old place now within refl k ∙ kept.linked_lowers k ∙ sym (counted_same upper_end lower_end (link_at old) (link_at new) k edges (everywhere (λ e. link e.lower) edges));
      demand = at_each (λ k. (node_at new k).demand ≡ (node_at new k).claims + counted lower_end upper_end (used_at new) edges k) place
          (omega (arith, ap (λ (n : Node). n.demand) here, ap (λ (n : Node). n.claims) here, kept.demand place, above place))
          (λ k ne. omega (arith, ap (λ (n : Node). n.demand) (get_or-set_other old place k now no_node ne), ap (λ (n : Node). n.claims) (get_or-set_other old place k now no_node ne), kept.demand k, above k));
      stale = at_each (λ k. (node_at new k).stale ≡ false → FollowsCounts (node_at new k)) place
          (λ h. subst FollowsCounts (sym here) (right_claimed claims (nat_lt 0 (rank place)) (node_at old place) (kept.stale place (sym (ap (λ (n : Node). n.stale) here) ∙ h))))
          (λ k ne. subst (λ (n : Node). n.stale ≡ false → FollowsCounts n) (sym (get_or-set_other old place k now no_node ne)) (kept.stale k));
      use_stale = at_each (λ k. UseFollows (node_at new k)) place
          (subst UseFollows (sym here) (λ d. ap (λ b. cond b (node_at old place).used (is_used (node_at old place).available (((node_at old place).demand + claims) - (node_at old place).claims))) (or_right _ _ d)))
          (λ k ne. subst UseFollows (sym (get_or-set_other old place k now no_node ne)) (kept.use_stale k));
    }

pub claims_fit : (edges : List Edge) (nodes : List Node) (place claims : ℕ) → HoldsCounts edges nodes → (node_at nodes place).claims ≤ 1024 → claims ≤ 1024 → length edges < 2 ^ 20 → (node_at nodes place).demand + claims < 2 ^ 32
claims_fit edges nodes place claims kept few new short = omega (arith, kept.demand place, counted-le-length lower_end upper_end (used_at nodes) edges place)

pub pays_down : (edges : List Edge) (rank : ℕ → ℕ) (before nodes : List Node) (started spent : ℕ) → DownTo edges rank 0 before nodes started spent → spent ≤ started + visits_due edges before nodes
pays_down edges rank before nodes started spent f = omega (arith, f.cost)
