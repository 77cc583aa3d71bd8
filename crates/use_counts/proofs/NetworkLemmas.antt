use Rattle.std.proofs.Common.{arith, subst, ℕ, zero, suc, ◌+◌, ◌++◌, take, drop, ◌*◌, ◌<◌, ◌≤◌, ◌≡◌, ◌==◌, ◌||◌, ◌&&◌, ⊎_elim, Bool, true, false, cond, List, [], ◌∷◌, length, map, slice_set, count_by, refl, sym, ap, ◌∙◌}
use Rattle.std.proofs.lemmas.Bool.{cases_eq, ne_eqb, cases_lt, false≢true}
use Rattle.std.proofs.lemmas.List.{get_or-map, get_or_past, length-map, take-append-drop, get_or-set_same, get_or-set_other, length-set}
use Rattle.std.proofs.lemmas.List.Sums.{sum_by-cons}
use Rattle.std.proofs.lemmas.List.Elements.{recursion_from_All, All-weaker, All-set}
use Rattle.std.specs.List.{AllByRecursion}
use Rattle.use_counts.specs.declared.node.Edge.{Edge}
use Rattle.use_counts.specs.declared.node.Node.{Node}
use Rattle.use_counts.specs.declared.node.Row.{Row}
use Rattle.use_counts.specs.NodeRule.{no_node, opens, links, carries, is_made, is_used, node_at}
use Rattle.use_counts.specs.Edges.{lower_end, upper_end, counted, edges_at}
use Rattle.use_counts.specs.Held.{IsCalm, Member, available_at, link_at, used_at, differs, moved, visits_due, member_of}
use Rattle.use_counts.specs.Network.{Network, HasLevels, Rises, no_member, member_at, row_of, available_within, link_within, available, link, used_within, used, users, changed, changed_edges}
use Rattle.use_counts.proofs.EdgeLemmas.{at_each, each}

abbrev pub net : List Edge → List Edge → List Node → Network
net fixed ports nodes = record { members = map member_of nodes; fixed = fixed; ports = ports }

pub at_points : (nodes : List Node) (k : ℕ) → k < length nodes → member_at (map member_of nodes) k ≡ member_of (node_at nodes k)
at_points nodes k h = get_or-map member_of nodes k no_node no_member h

counted_agree : (far near : Edge → ℕ) (f g : ℕ → Bool) (k : ℕ) (es : List Edge) → AllByRecursion (λ e. far e ≡ k → g (near e) ≡ f (near e)) es → counted far near g es k ≡ counted far near f es k
unfolding counted
counted_agree far near f g k [] h = refl
counted_agree far near f g k (e ∷ es) h =
    let a = sum_by-cons (λ (x : Edge). cond ((far x == k) && g (near x)) 1 0) e es in
    let b = sum_by-cons (λ (x : Edge). cond ((far x == k) && f (near x)) 1 0) e es in
    let here : ◌≡◌ {A = ℕ} (cond ((far e == k) && g (near e)) 1 0) (cond ((far e == k) && f (near e)) 1 0) = ⊎_elim
    (λ eq. ap (λ v. let n : ℕ = cond ((far e == k) && v) 1 0 in n) (h.0 eq))
    (λ ne. ap (λ v. let n : ℕ = cond (v && g (near e)) 1 0 in n) (ne_eqb (far e) k ne) ∙ sym (ap (λ v. let n : ℕ = cond (v && f (near e)) 1 0 in n) (ne_eqb (far e) k ne)))
    (cases_eq (far e) k) in
    let rest = counted_agree far near f g k es h.1 in
    omega (arith, a, b, here, rest)

pub record RisesAt (nodes : List Node) (e : Edge) : Type 0 where
  pub lower_in : e.lower < length nodes
  pub upper_in : e.upper < length nodes
  pub order : (node_at nodes e.lower).level < (node_at nodes e.upper).level

rises_at : (nodes : List Node) (e : Edge) → Rises (map member_of nodes) e → RisesAt nodes e
rises_at nodes e t =
    let lower : e.lower < length nodes = omega (arith, t.lower, length-map nodes member_of) in
    let upper : e.upper < length nodes = omega (arith, t.upper, length-map nodes member_of) in
    record {
      lower_in = lower;
      upper_in = upper;
      order = omega (arith, t.order, ap (λ (p : Member). p.level) (at_points nodes e.lower lower), ap (λ (p : Member). p.level) (at_points nodes e.upper upper));
    }

pub edges_rise : (fixed ports : List Edge) (nodes : List Node) → HasLevels (net fixed ports nodes) → AllByRecursion (RisesAt nodes) (fixed ++ ports)
edges_rise fixed ports nodes h =
    recursion_from_All (RisesAt nodes) (fixed ++ ports) (All-weaker (Rises (map member_of nodes)) (RisesAt nodes) (rises_at nodes) (fixed ++ ports) h.edges)

level_in : (fixed ports : List Edge) (nodes : List Node) → HasLevels (net fixed ports nodes) → (k : ℕ) → k < length nodes → (1 ≤ (node_at nodes k).level) × ((node_at nodes k).level ≤ 8)
level_in fixed ports nodes h k within =
    let t = h.levels k no_member (omega (arith, within, length-map nodes member_of)) in
    let same = ap (λ (p : Member). p.level) (at_points nodes k within) in
    (omega (arith, t.0, same), omega (arith, t.1, same))

available_is : (fixed ports : List Edge) (nodes : List Node) → HasLevels (net fixed ports nodes) → IsCalm (fixed ++ ports) nodes → (levels k : ℕ) → k < length nodes → (node_at nodes k).level ≤ levels → available_at nodes k
    ≡ available_within levels (net fixed ports nodes) k
unfolding available_within
available_is fixed ports nodes h rest zero k within low = absurd (omega (arith, (level_in fixed ports nodes h k within).0))
available_is fixed ports nodes h rest (suc levels) k within low =
    let below = available_within levels (net fixed ports nodes) in
    let same = counted_agree upper_end lower_end below (available_at nodes) k (fixed ++ ports)
    (each (λ e r eq. available_is fixed ports nodes h rest levels e.lower r.lower_in (omega (arith, r.order, low, ap (λ n. (node_at nodes n).level) eq))) (fixed ++ ports) (edges_rise fixed ports nodes h)) in
    (rest.kept.stale k (rest.ups k)).available ∙ ap (opens (node_at nodes k).kind (node_at nodes k).present) (rest.kept.open_lowers k ∙ same)
    ∙ ap (λ (p : Member). opens p.kind p.present (counted upper_end lower_end below (fixed ++ ports) k)) (sym (at_points nodes k within))

pub kept_available : (fixed ports : List Edge) (nodes : List Node) → HasLevels (net fixed ports nodes) → IsCalm (fixed ++ ports) nodes → (k : ℕ) → k < length nodes → available_at nodes k ≡ available (net fixed ports nodes) k
unfolding available
kept_available fixed ports nodes h rest k within = available_is fixed ports nodes h rest 8 k within (level_in fixed ports nodes h k within).1

link_is : (fixed ports : List Edge) (nodes : List Node) → HasLevels (net fixed ports nodes) → IsCalm (fixed ++ ports) nodes → (levels k : ℕ) → k < length nodes → (node_at nodes k).level ≤ levels → link_at nodes k
    ≡ link_within levels (net fixed ports nodes) k
unfolding link_within
link_is fixed ports nodes h rest zero k within low = absurd (omega (arith, (level_in fixed ports nodes h k within).0))
link_is fixed ports nodes h rest (suc levels) k within low =
    let below = link_within levels (net fixed ports nodes) in
    let n = node_at nodes k in
    let here = available (net fixed ports nodes) k in
    let same = counted_agree upper_end lower_end below (link_at nodes) k (fixed ++ ports)
    (each (λ e r eq. link_is fixed ports nodes h rest levels e.lower r.lower_in (omega (arith, r.order, low, ap (λ n. (node_at nodes n).level) eq))) (fixed ++ ports) (edges_rise fixed ports nodes h)) in
    (rest.kept.stale k (rest.ups k)).link ∙ ap (λ b. links n.kind b (carries n) n.linked_lowers) (kept_available fixed ports nodes h rest k within)
    ∙ ap (links n.kind here (carries n)) (rest.kept.linked_lowers k ∙ same)
    ∙ ap (λ (p : Member). links p.kind here (p.present && p.carrier) (counted upper_end lower_end below (fixed ++ ports) k)) (sym (at_points nodes k within))

pub kept_link : (fixed ports : List Edge) (nodes : List Node) → HasLevels (net fixed ports nodes) → IsCalm (fixed ++ ports) nodes → (k : ℕ) → k < length nodes → link_at nodes k ≡ link (net fixed ports nodes) k
unfolding link
kept_link fixed ports nodes h rest k within = link_is fixed ports nodes h rest 8 k within (level_in fixed ports nodes h k within).1

used_is : (fixed ports : List Edge) (nodes : List Node) → HasLevels (net fixed ports nodes) → IsCalm (fixed ++ ports) nodes → (levels k : ℕ) → k < length nodes → 9 ≤ (node_at nodes k).level + levels → used_at nodes k
    ≡ used_within levels (net fixed ports nodes) k
unfolding used_within
used_is fixed ports nodes h rest zero k within high = absurd (omega (arith, (level_in fixed ports nodes h k within).1))
used_is fixed ports nodes h rest (suc levels) k within high =
    let over = used_within levels (net fixed ports nodes) in
    let same = counted_agree lower_end upper_end over (used_at nodes) k (fixed ++ ports)
    (each (λ e r eq. used_is fixed ports nodes h rest levels e.upper r.upper_in (omega (arith, r.order, high, ap (λ n. (node_at nodes n).level) eq))) (fixed ++ ports) (edges_rise fixed ports nodes h)) in
    let claims = ap (λ (p : Member). p.claims) (at_points nodes k within) in
    let demand : (node_at nodes k).demand ≡ (member_at (map member_of nodes) k).claims + counted lower_end upper_end over (fixed ++ ports) k = omega (arith, rest.kept.demand k, same, claims) in
    rest.kept.use_stale k (rest.downs k) ∙ ap (λ b. is_used b (node_at nodes k).demand) (kept_available fixed ports nodes h rest k within) ∙ ap (is_used (available (net fixed ports nodes) k)) demand

pub kept_used : (fixed ports : List Edge) (nodes : List Node) → HasLevels (net fixed ports nodes) → IsCalm (fixed ++ ports) nodes → (k : ℕ) → k < length nodes → used_at nodes k ≡ used (net fixed ports nodes) k
unfolding used
kept_used fixed ports nodes h rest k within = used_is fixed ports nodes h rest 8 k within (omega (arith, (level_in fixed ports nodes h k within).0))

pub kept_users : (fixed ports : List Edge) (nodes : List Node) → HasLevels (net fixed ports nodes) → IsCalm (fixed ++ ports) nodes → (k : ℕ) → k < length nodes → cond (node_at nodes k).available (node_at nodes k).demand 0
    ≡ users (net fixed ports nodes) k
unfolding users
kept_users fixed ports nodes h rest k within =
    let same = counted_agree lower_end upper_end (used (net fixed ports nodes)) (used_at nodes) k (fixed ++ ports) (each (λ e r eq. kept_used fixed ports nodes h rest e.upper r.upper_in) (fixed ++ ports) (edges_rise fixed ports nodes h)) in
    let claims = ap (λ (p : Member). p.claims) (at_points nodes k within) in
    let demand : (node_at nodes k).demand ≡ (member_at (map member_of nodes) k).claims + counted lower_end upper_end (used (net fixed ports nodes)) (fixed ++ ports) k = omega (arith, rest.kept.demand k, same, claims) in
    ap (λ b. cond b (node_at nodes k).demand 0) (kept_available fixed ports nodes h rest k within) ∙ ap (λ n. cond (available (net fixed ports nodes) k) n 0) demand

at_most : (a b : Bool) → (a ≡ true → b ≡ true) → cond a 1 0 ≤ cond b 1 0
at_most true true h = omega arith
at_most true false h = absurd (false≢true (h refl))
at_most false true h = omega arith
at_most false false h = omega arith

touching_among : (near : Edge → ℕ) (f : ℕ → Bool) (t : Edge → Bool) (es : List Edge) → AllByRecursion (λ e. f (near e) ≡ true → t e ≡ true) es → edges_at near f es ≤ count_by t es
unfolding edges_at
touching_among near f t [] h = omega arith
touching_among near f t (e ∷ es) h =
    let a = sum_by-cons (λ (x : Edge). cond (f (near x)) 1 0) e es in
    let b = sum_by-cons (λ (x : Edge). cond (t x) 1 0) e es in
    let here = at_most (f (near e)) (t e) h.0 in
    let rest = touching_among near f t es h.1 in
    omega (arith, a, b, here, rest)

or_first : (a b : Bool) → a ≡ true → (a || b) ≡ true
or_first true b h = refl
or_first false b h = absurd (false≢true h)

or_second : (a b : Bool) → b ≡ true → (a || b) ≡ true
or_second true b h = refl
or_second false b h = h

both_same : (a a' b b' l l' m m' : Bool) → a ≡ a' → b ≡ b' → l ≡ l' → m ≡ m' → (differs a b || differs l m) ≡ (differs a' b' || differs l' m')
both_same a a' b b' l l' m m' p q r s = cc

moved_changed : (fixed ports : List Edge) (old new : List Node) → HasLevels (net fixed ports old) → HasLevels (net fixed ports new) → IsCalm (fixed ++ ports) old → IsCalm (fixed ++ ports) new → length new ≡ length old → (k : ℕ)
    → k < length old → moved (node_at old k) (node_at new k) ≡ true → changed (net fixed ports old) (net fixed ports new) k ≡ true
moved_changed fixed ports old new h i before after long k within t =
    let there : k < length new = omega arith in
    or_first _ _ (sym (both_same _ _ _ _ _ _ _ _ (kept_available fixed ports old h before k within) (kept_available fixed ports new i after k there) (kept_link fixed ports old h before k within) (kept_link fixed ports new i after k there))
    ∙ t)

used_changed : (fixed ports : List Edge) (old new : List Node) → HasLevels (net fixed ports old) → HasLevels (net fixed ports new) → IsCalm (fixed ++ ports) old → IsCalm (fixed ++ ports) new → length new ≡ length old → (k : ℕ)
    → k < length old → differs (used_at old k) (used_at new k) ≡ true → changed (net fixed ports old) (net fixed ports new) k ≡ true
used_changed fixed ports old new h i before after long k within t =
    let there : k < length new = omega arith in
    or_second _ _ (sym (ap (λ b. differs b (used_at new k)) (kept_used fixed ports old h before k within) ∙ ap (differs (used (net fixed ports old) k)) (kept_used fixed ports new i after k there)) ∙ t)

pub payment_within : (fixed ports : List Edge) (old new : List Node) → HasLevels (net fixed ports old) → HasLevels (net fixed ports new) → IsCalm (fixed ++ ports) old → IsCalm (fixed ++ ports) new → length new ≡ length old
    → visits_due (fixed ++ ports) old new ≤ 2 * changed_edges (net fixed ports old) (net fixed ports new)
unfolding changed_edges
payment_within fixed ports old new h i before after long =
    let ups = touching_among lower_end (λ k. moved (node_at old k) (node_at new k)) (λ e. changed (net fixed ports old) (net fixed ports new) e.lower || changed (net fixed ports old) (net fixed ports new) e.upper) (fixed ++ ports)
    (each (λ e r t. or_first _ _ (moved_changed fixed ports old new h i before after long e.lower r.lower_in t)) (fixed ++ ports) (edges_rise fixed ports old h)) in
    let downs = touching_among upper_end (λ k. differs (used_at old k) (used_at new k)) (λ e. changed (net fixed ports old) (net fixed ports new) e.lower || changed (net fixed ports old) (net fixed ports new) e.upper) (fixed ++ ports)
    (each (λ e r t. or_second _ _ (used_changed fixed ports old new h i before after long e.upper r.upper_in t)) (fixed ++ ports) (edges_rise fixed ports old h)) in
    omega (arith, ups, downs)

same_row : (members : List Member) (id : ℕ) (p : Member) → id < length members → row_of p ≡ row_of (member_at members id) → (k : ℕ) → row_of (member_at (slice_set members id p) k) ≡ row_of (member_at members k)
same_row members id p within same =
    at_each (λ k. row_of (member_at (slice_set members id p) k) ≡ row_of (member_at members k)) id
    (ap row_of (get_or-set_same members id p no_member within) ∙ same)
    (λ k ne. ap row_of (get_or-set_other members id k p no_member ne))

-- an edge rises among nodes of the same rows
pub rises_as : (old new : List Member) → length new ≡ length old → ((k : ℕ) → row_of (member_at new k) ≡ row_of (member_at old k)) → (e : Edge) → Rises old e → Rises new e
rises_as old new long same e t =
    record {
      lower = omega (arith, t.lower, long);
      upper = omega (arith, t.upper, long);
      made = ap (λ (r : Row). is_made r.kind) (same e.upper) ∙ t.made;
      order = omega (arith, t.order, ap (λ (r : Row). r.level) (same e.lower), ap (λ (r : Row). r.level) (same e.upper));
    }

levels_kept : (n : Network) (id : ℕ) (p : Member) → id < length n.members → HasLevels n → row_of p ≡ row_of (member_at n.members id) → p.claims ≤ 1024 → HasLevels (record n { members = slice_set n.members id p })
levels_kept n id p within h same claims =
    let old = h.levels id no_member within in
    let level = ap (λ (r : Row). r.level) same in
    record {
      levels = All-set (λ q. (1 ≤ q.level) × (q.level ≤ 8)) n.members id p (omega (arith, level, old.0), omega (arith, level, old.1)) h.levels;
      edges = All-weaker (Rises n.members) (Rises (slice_set n.members id p)) (rises_as n.members (slice_set n.members id p) (length-set n.members id p) (same_row n.members id p within same)) (n.fixed ++ n.ports) h.edges;
      claims = All-set (λ q. q.claims ≤ 1024) n.members id p claims h.claims;
    }

pub levels_after : (fixed ports : List Edge) (old new : List Node) (id : ℕ) (p : Member) → id < length old → HasLevels (net fixed ports old) → map member_of new ≡ slice_set (map member_of old) id p → row_of p
    ≡ row_of (member_of (node_at old id)) → p.claims ≤ 1024 → HasLevels (net fixed ports new)
levels_after fixed ports old new id p within h is same claims =
    let within_points : id < length (map member_of old) = omega (arith, length-map old member_of) in
    let P : List Member → Type 0 = λ ps. HasLevels (record { members = ps; fixed = fixed; ports = ports }) in
    subst P (sym is) (levels_kept (net fixed ports old) id p within_points h (same ∙ sym (ap row_of (at_points old id within))) claims)

-- what holds with all edges holds with these in two parts
pub calm_parts : (n : ℕ) (edges : List Edge) (nodes : List Node) → IsCalm edges nodes → IsCalm (take n edges ++ drop n edges) nodes
calm_parts n edges nodes rest = subst (λ (es : List Edge). IsCalm es nodes) (sym (take-append-drop n edges)) rest

pub due_parts : (n : ℕ) (edges : List Edge) (old new : List Node) → visits_due (take n edges ++ drop n edges) old new ≡ visits_due edges old new
due_parts n edges old new = ap (λ (es : List Edge). visits_due es old new) (take-append-drop n edges)

pub few_claims : (fixed ports : List Edge) (nodes : List Node) → HasLevels (net fixed ports nodes) → (k : ℕ) → k < length nodes → (node_at nodes k).claims ≤ 1024
few_claims fixed ports nodes h k within = omega (arith, h.claims k no_member (omega (arith, length-map nodes member_of)), ap (λ (p : Member). p.claims) (at_points nodes k within))

pub few_claims_all : (fixed ports : List Edge) (nodes : List Node) → HasLevels (net fixed ports nodes) → (k : ℕ) → (node_at nodes k).claims ≤ 1024
unfolding no_node
few_claims_all fixed ports nodes h k =
    ⊎_elim (few_claims fixed ports nodes h k) (λ past. omega (arith, ap (λ (n : Node). n.claims) (get_or_past nodes k no_node past))) (cases_lt k (length nodes))
