-- the edges at names that changed are as many as those at their ids
use Rattle.std.proofs.Common.{arith, ⊎_elim, ℕ, zero, suc, ◌+◌, ◌<◌, ◌≡◌, ◌≢◌, ◌==◌, ◌&&◌, ◌||◌, Bool, true, false, cond, List, [], ◌∷◌, ◌++◌, map, filter, length, count_by, All, Contains, Option, is_some, slice_index_or, refl, sym, ap}
use Rattle.std.proofs.Common.{subst, ◌∙◌}
use Rattle.std.specs.List.{AllByRecursion, flat_map}
use Rattle.std.specs.Option.{option_map_or}
use Rattle.std.proofs.lemmas.Bool.{cases_eq, eq-eqb, ne_eqb}
use Rattle.std.proofs.lemmas.List.{length-map, length-append, append_assoc, append-nil}
use Rattle.std.proofs.lemmas.List.Elements.{filter-append}
use Rattle.std.proofs.lemmas.List.Sums.{sum_by-cons, sum_by-append}
use Rattle.kern_model.specs.declared.object.Device.{Device}
use Rattle.kern_model.proofs.MemberLemmas.{here, there, all_members}
use Rattle.net_rules.specs.Standing.{lowers_of}
use Rattle.use_counts.specs.declared.node.Edge.{Edge}
use Rattle.use_counts.specs.Edges.{lower_end, upper_end, counted}
use Rattle.use_counts.specs.Held as held
use Rattle.use_counts.specs.Network as counts
use Rattle.use_counts.specs.Network.{Network, Rises}
use Rattle.use_counts.specs.Rows.{Standing, edge, edges_from, joined}
use Rattle.use_counts.specs.Rows as rows_of
use Rattle.use_counts.proofs.JoinLemmas.{edges_joined}
use Rattle.graph_rules.specs.State.{Named, Known, name_list, names_in}
use Rattle.graph_rules.specs.After.{with_device, with_claims}
use Rattle.graph_rules.specs.Answers.{standing_in, row_names, available_in, link_in, used_in}
use Rattle.graph_rules.specs.Edges.{differs, has_changed, edges_of, edges_in, changed_edges}
use Rattle.graph_rules.specs.Edges as named
use Rattle.graph_counts.specs.Counted.{id_of, name_of, by_id, member_in, network_of}
use Rattle.graph_counts.specs.Sound.{IsSound}
use Rattle.graph_counts.proofs.CountLemmas.{back}
use Rattle.graph_counts.proofs.IdLemmas.{id_within, id_at, at_member}
use Rattle.graph_counts.proofs.SoundLemmas.{lower_known, plain_alone}
use Rattle.graph_counts.proofs.TieLemmas.{lowers_by_id, is_counted}
use Rattle.graph_counts.proofs.LevelLemmas.{edges_all, fixed_rise, ports_rise}
use Rattle.graph_counts.proofs.AnswerLemmas.{available_at, link_at, used_at, tied_after_device, tied_after_claims, device_spelled, claims_spelled}

-- sums over the numbers below one
abbrev sum_to : (ℕ → ℕ) → ℕ → ℕ
sum_to f zero = 0
sum_to f (suc n) = sum_to f n + f n

sum_zero : (f : ℕ → ℕ) (n : ℕ) → ((k : ℕ) → k < n → f k ≡ 0) → sum_to f n ≡ 0
sum_zero f zero h = refl
sum_zero f (suc n) h = omega (arith, sum_zero f n (λ k less. h k (omega (arith, less))), h n (omega arith))

sum_same : (f g : ℕ → ℕ) (n : ℕ) → ((k : ℕ) → k < n → f k ≡ g k) → sum_to f n ≡ sum_to g n
sum_same f g zero h = refl
sum_same f g (suc n) h = omega (arith, sum_same f g n (λ k less. h k (omega (arith, less))), h n (omega arith))

sum_plus : (f g : ℕ → ℕ) (n : ℕ) → sum_to (λ k. f k + g k) n ≡ sum_to f n + sum_to g n
sum_plus f g zero = refl
sum_plus f g (suc n) = omega (arith, sum_plus f g n)

sum_at : (f : ℕ → ℕ) (n i : ℕ) → i < n → ((k : ℕ) → k ≢ i → f k ≡ 0) → sum_to f n ≡ f i
sum_at f zero i h none = absurd (omega (arith, h))
sum_at f (suc n) i h none =
    ⊎_elim
    (λ (e : n ≡ i). omega (arith, sum_zero f n (λ k less. none k (omega (arith, less, e))), ap f e))
    (λ ne. omega (arith, sum_at f n i (omega (arith, h, ne)) none, none n ne))
    (cases_eq n i)

-- edges by their upper ends
count_split : (P : ℕ → ℕ → Bool) (n : ℕ) (es : List Edge) → AllByRecursion (λ e. e.upper < n) es → count_by (λ e. P e.upper e.lower) es ≡ sum_to (λ k. counted upper_end lower_end (P k) es k) n
unfolding counted
count_split P n [] h = sym (sum_zero (λ k. 0) n (λ k less. refl))
count_split P n (e ∷ es) h =
    let one = λ (k : ℕ). let m : ℕ = cond ((e.upper == k) && P k e.lower) 1 0 in m in
    let rest = λ (k : ℕ). count_by (λ (x : Edge). (x.upper == k) && P k x.lower) es in
    let parts : sum_to (λ k. count_by (λ (x : Edge). (x.upper == k) && P k x.lower) (e ∷ es)) n ≡ sum_to one n + sum_to rest n =
    sum_same (λ k. count_by (λ (x : Edge). (x.upper == k) && P k x.lower) (e ∷ es)) (λ k. one k + rest k) n (λ k less. sum_by-cons (λ (x : Edge). cond ((x.upper == k) && P k x.lower) 1 0) e es) ∙ sum_plus one rest n in
    let at : sum_to one n ≡ one e.upper = sum_at one n e.upper h.0 (λ k ne. ap (λ b. let m : ℕ = cond (b && P k e.lower) 1 0 in m) (ne_eqb e.upper k (λ f. ne (sym f)))) in
    let own = ap (λ b. let m : ℕ = cond (b && P e.upper e.lower) 1 0 in m) (eq-eqb e.upper e.upper refl) in
    omega (arith, sum_by-cons (λ (x : Edge). cond (P x.upper x.lower) 1 0) e es, parts, at, own, count_split P n es h.1)

uppers_within : (members : ℕ) (net : Network) (es : List Edge) → All (Rises net.members) es → length net.members ≡ members → AllByRecursion (λ e. e.upper < members) es
uppers_within members net es rise size = all_members (λ (e : Edge). e.upper < members) es (λ e m. let r = subst (Rises net.members) m.2 (rise m.0 e m.1) in omega (arith, r.upper, size))

differs_same : (a b : Bool) → held.differs a b ≡ differs a b
differs_same true b = refl
differs_same false b = refl

-- the edges at one name
lowers_counted : (names : List (List ℕ)) (P : ℕ → ℕ → Bool) (Q : named.Edge → Bool) (upper : List ℕ) (k : ℕ) (ls : List (List ℕ)) → ((l : List ℕ) → Contains ls l → P k (id_of names l) ≡ Q (record { upper = upper; lower = l }))
    → count_by (λ (e : Edge). P e.upper e.lower) (map (edge k) (map (id_of names) ls)) ≡ length (filter Q (map (λ lower. record { upper = upper; lower = lower }) ls))
lowers_counted names P Q upper k [] h = refl
lowers_counted names P Q upper k (l ∷ ls) h =
    let first = ap (λ b. let m : ℕ = cond b 1 0 in m) (h l (here l ls)) in
    omega (
      arith,
      sum_by-cons (λ (e : Edge). cond (P e.upper e.lower) 1 0) (edge k (id_of names l)) (map (edge k) (map (id_of names) ls)),
      first,
      kept (Q (record { upper = upper; lower = l })) (record { upper = upper; lower = l }) (filter Q (map (λ (lower : List ℕ). let e : named.Edge = record { upper = upper; lower = lower } in e) ls)),
      lowers_counted names P Q upper k ls (λ x m. h x (there l ls x m)),
    )
  where
    kept : (b : Bool) (e : named.Edge) (es : List named.Edge) → length (cond b (e ∷ es) es) ≡ cond b 1 0 + length es
    kept true e es = omega arith
    kept false e es = omega arith

-- the edges at one name after another
all_counted : (s : Known) (P : ℕ → ℕ → Bool) (Q : named.Edge → Bool) (u : ℕ) (ns : List (List ℕ))
    → ((i : ℕ) → i < length ns → (l : List ℕ) → Contains (lowers_of (standing_in s (slice_index_or ns i []))) l → P (u + i) (id_of (names_in s) l) ≡ Q (record { upper = slice_index_or ns i []; lower = l }))
    → count_by (λ (e : Edge). P e.upper e.lower) (edges_from u (map (λ n. by_id (names_in s) (standing_in s n)) ns)) ≡ length (filter Q (flat_map (edges_of s) ns))
all_counted s P Q u [] h = refl
all_counted s P Q u (n ∷ ns) h =
    let names = names_in s in
    let test = λ (e : Edge). P e.upper e.lower in
    let own = map (edge u) (rows_of.lowers_of (by_id names (standing_in s n))) in
    let behind = edges_from (u + 1) (map (λ (x : List ℕ). by_id names (standing_in s x)) ns) in
    let first : count_by test own ≡ length (filter Q (edges_of s n)) =
    ap (λ ls. count_by test (map (edge u) ls)) (lowers_by_id names (standing_in s n))
    ∙ lowers_counted names P Q n u (lowers_of (standing_in s n)) (λ l m. ap (λ k. P k (id_of names l)) (let at : u ≡ u + 0 = omega arith in at) ∙ h 0 (omega arith) l m) in
    let rest = all_counted s P Q (u + 1) ns (λ i hi l m. ap (λ k. P k (id_of names l)) (let at : (u + 1) + i ≡ u + suc i = omega arith in at) ∙ h (suc i) (omega (arith, hi)) l m) in
    let parts = ap length (filter-append Q (edges_of s n) (flat_map (edges_of s) ns)) ∙ length-append (filter Q (edges_of s n)) (filter Q (flat_map (edges_of s) ns)) in
    omega (arith, sum_by-append (λ (e : Edge). cond (test e) 1 0) own behind, first, rest, parts)

none_flat : (s : Known) (ns : List (List ℕ)) → AllByRecursion (λ n. lowers_of (standing_in s n) ≡ []) ns → flat_map (edges_of s) ns ≡ []
none_flat s [] h = refl
none_flat s (n ∷ ns) h = ap (λ ls. map (λ (lower : List ℕ). let e : named.Edge = record { upper = n; lower = lower } in e) ls ++ flat_map (edges_of s) ns) h.0 ∙ none_flat s ns h.1

flat_append : (s : Known) (xs ys : List (List ℕ)) → flat_map (edges_of s) (xs ++ ys) ≡ flat_map (edges_of s) xs ++ flat_map (edges_of s) ys
flat_append s [] ys = refl
flat_append s (x ∷ xs) ys = ap (λ (es : List named.Edge). edges_of s x ++ es) (flat_append s xs ys) ∙ sym (append_assoc (edges_of s x) (flat_map (edges_of s) xs) (flat_map (edges_of s) ys))

both_parts : (P : Edge → Type 0) (xs ys : List Edge) → AllByRecursion P xs → AllByRecursion P ys → AllByRecursion P (xs ++ ys)
both_parts P [] ys hx hy = hy
both_parts P (x ∷ xs) ys hx hy = (hx.0, both_parts P xs ys hx.1 hy)

three : (a b c d e f p q r t u v : Bool) → a ≡ p → b ≡ q → c ≡ r → d ≡ t → e ≡ u → f ≡ v → ((held.differs a b || held.differs c d) || held.differs e f) ≡ ((differs p q || differs r t) || differs u v)
three a b c d e f p q r t u v ea eb ec ed ee ef =
    ap (λ x. (held.differs x b || held.differs c d) || held.differs e f) ea
    ∙ ap (λ x. (held.differs p x || held.differs c d) || held.differs e f) eb
    ∙ ap (λ x. (held.differs p q || held.differs x d) || held.differs e f) ec
    ∙ ap (λ x. (held.differs p q || held.differs r x) || held.differs e f) ed
    ∙ ap (λ x. (held.differs p q || held.differs r t) || held.differs x f) ee
    ∙ ap (λ x. (held.differs p q || held.differs r t) || held.differs u x) ef
    ∙ ap (λ x. (x || held.differs r t) || held.differs u v) (differs_same p q)
    ∙ ap (λ x. (differs p q || x) || held.differs u v) (differs_same r t)
    ∙ ap (λ x. (differs p q || differs r t) || x) (differs_same u v)

module _ (s t : Known) (hs : IsSound s) (ht : IsSound t) (same : names_in t ≡ names_in s) where
  changed_alike : (x : List ℕ) → Contains (names_in s) x → counts.changed (network_of s) (network_of t) (id_of (names_in s) x) ≡ has_changed s t x
  changed_alike x m =
      let id = id_of (names_in s) x in
      let inside : id < length (names_in s) = id_within (names_in s) x m in
      let in_s : id < length s.names = omega (arith, inside, length-map s.names (λ (n : Named). n.name)) in
      let in_t : id < length t.names = omega (arith, inside, ap length same, length-map t.names (λ (n : Named). n.name)) in
      let at_s : name_of s id ≡ x = back (names_in s) x inside in
      let at_t : name_of t id ≡ x = ap (λ ns. slice_index_or ns id []) same ∙ at_s in
      three _ _ _ _ _ _ _ _ _ _ _ _
      (available_at s hs id in_s ∙ ap (available_in s) at_s) (available_at t ht id in_t ∙ ap (available_in t) at_t)
      (link_at s hs id in_s ∙ ap (link_in s) at_s) (link_at t ht id in_t ∙ ap (link_in t) at_t)
      (used_at s hs id in_s ∙ ap (used_in s) at_s) (used_at t ht id in_t ∙ ap (used_in t) at_t)

  pub cost_same : counts.changed_edges (network_of s) (network_of t) ≡ changed_edges s t
  unfolding counts.changed_edges changed_edges
  cost_same =
      let names = names_in s in
      let P = λ (k l : ℕ). counts.changed (network_of s) (network_of t) l || counts.changed (network_of s) (network_of t) k in
      let Q = λ (e : named.Edge). has_changed s t e.lower || has_changed s t e.upper in
      let n = length names in
      let net = network_of s in
      let g = λ (x : List ℕ). by_id names (standing_in s x) in
      let c = is_counted s hs in
      let size : length net.members ≡ n = length-map s.names (member_in s.rows) ∙ sym (length-map s.names (λ (q : Named). q.name)) in
      let by_network : AllByRecursion (λ (e : Edge). e.upper < n) (counts.edges_of net) =
      both_parts (λ (e : Edge). e.upper < n) net.fixed net.ports (uppers_within n net net.fixed (fixed_rise s hs) size) (uppers_within n net net.ports (ports_rise s hs) size) in
      let by_rows : AllByRecursion (λ (e : Edge). e.upper < n) (edges_from 0 (map g names)) =
      all_members (λ (e : Edge). e.upper < n) (edges_from 0 (map g names)) (edges_all (λ (e : Edge). e.upper < n) g 0 names (λ i hi l m. omega (arith, hi))) in
      let split = count_split P n (counts.edges_of net) by_network in
      let joined_same = sum_same (λ k. counted upper_end lower_end (P k) (counts.edges_of net) k) (λ k. counted upper_end lower_end (P k) (edges_from 0 (map g names)) k) n
      (λ k less. (edges_joined c.rows net c.are).counts upper_end lower_end (P k) k ∙ ap (λ rows. counted upper_end lower_end (P k) (edges_from 0 rows) k) c.stand) in
      let rows = all_counted s P Q 0 names (λ i hi l m.
      let x = slice_index_or names i [] in
      let known = lower_known s hs x l m in
      let at : 0 + i ≡ id_of names x = (let e : 0 + i ≡ i = omega arith in e) ∙ sym (id_at names i hs.names.once hi) in
      ap (λ b. b || counts.changed (network_of s) (network_of t) (0 + i)) (changed_alike l known)
      ∙ ap (λ k. has_changed s t l || counts.changed (network_of s) (network_of t) k) at
      ∙ ap (λ b. has_changed s t l || b) (changed_alike x (at_member names i hi))) in
      let front : flat_map (edges_of s) names ≡ edges_in s =
      ap (flat_map (edges_of s)) hs.names.front ∙ flat_append s (row_names s) hs.names.plain ∙ ap (λ es. flat_map (edges_of s) (row_names s) ++ es) (none_flat s hs.names.plain (plain_alone s hs))
      ∙ append-nil (flat_map (edges_of s) (row_names s)) in
      split ∙ joined_same ∙ sym (count_split P n (edges_from 0 (map g names)) by_rows) ∙ rows ∙ ap (λ es. length (filter Q es)) front

-- the steps that an event may take, by names
pub cost_after_device : (s : Known) (ns : List Named) (was net : Network) (id : ℕ) (d : Option Device) (present carrier : Bool) → IsSound s → was ≡ network_of s → id < length s.names → present ≡ is_some d → carrier
    ≡ option_map_or (λ device. device.carrier) d false
    → ns ≡ with_device s.names id d → net ≡ counts.with_device was id present carrier → counts.changed_edges was net ≡ changed_edges s (record s { names = ns })
cost_after_device s ns was net id d present carrier sound is within here up names told =
    let tied = tied_after_device s ns was net id d present carrier sound is within here up names told in
    let t : Known = record s { names = ns } in
    ap (λ m. counts.changed_edges m net) is ∙ ap (counts.changed_edges (network_of s)) tied.1 ∙ cost_same s t sound tied.0 (ap name_list names ∙ device_spelled s.names id d)

pub cost_after_claims : (s : Known) (ns : List Named) (was net : Network) (id claims : ℕ) → IsSound s → was ≡ network_of s → id < length s.names → ns ≡ with_claims s.names id claims → net ≡ counts.with_claim was id claims
    → counts.changed_edges was net ≡ changed_edges s (record s { names = ns })
cost_after_claims s ns was net id claims sound is within names told =
    let tied = tied_after_claims s ns was net id claims sound is within names told in
    let t : Known = record s { names = ns } in
    ap (λ m. counts.changed_edges m net) is ∙ ap (counts.changed_edges (network_of s)) tied.1 ∙ cost_same s t sound tied.0 (ap name_list names ∙ claims_spelled s.names id claims)
