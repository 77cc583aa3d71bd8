-- the levels of nodes rise along the edges
use Rattle.std.proofs.Common.{arith, ⊎_elim, ℕ, zero, suc, ◌+◌, ◌<◌, ◌≤◌, ◌≡◌, Bool, true, false, cond, not, List, [], ◌∷◌, map, filter, length, All, Contains, Some, None, slice_index_or, nat_lt, refl, ap, subst, ◌∙◌}
use Rattle.std.specs.List.{AllByRecursion}
use Rattle.std.proofs.lemmas.List.{length-map}
use Rattle.std.proofs.lemmas.List.Elements.{All-from_recursion, Contains-append_cases}
use Rattle.kern_model.proofs.MemberLemmas.{none_in_nil, all_members, member_of_map}
use Rattle.kern_model.proofs.TestLemmas.{above_test, below_test, false_of_not}
use Rattle.kern_calls.proofs.FilterLemmas.{from_filter}
use Rattle.net_rules.proofs.ListLemmas.{within_filter}
use Rattle.net_rows.specs.declared.rows.NameKind.{NameKind}
use Rattle.net_rows.specs.declared.rows.NameKind.TheVariants.{Plain, Bridge, Vlan}
use Rattle.net_rules.specs.Rows.{row_at, is_bridge_kind, is_plain_kind}
use Rattle.net_rules.specs.Standing.{standing_of, standing_of_row, lowers_of}
use Rattle.use_counts.specs.declared.node.Edge.{Edge}
use Rattle.use_counts.specs.NodeRule.{is_made}
use Rattle.use_counts.specs.Held.{Member}
use Rattle.use_counts.specs.Network.{Rises, member_at}
use Rattle.use_counts.specs.Order.{HasLevel}
use Rattle.use_counts.specs.Rows as counts
use Rattle.graph_rules.specs.State.{Named, Known, name_list, names_in}
use Rattle.graph_rules.specs.After.{no_name}
use Rattle.graph_counts.specs.Counted.{id_of, by_id, node_row, capped, port_edge, joins_sound, member_in, network_of}
use Rattle.graph_counts.specs.Sound.{IsSound}
use Rattle.graph_counts.proofs.CountLemmas.{back}
use Rattle.graph_counts.proofs.IdLemmas.{id_within, id_at, at_member}
use Rattle.graph_counts.proofs.SoundLemmas.{bridge_named, in_front}
use Rattle.graph_counts.proofs.TieLemmas.{own_at, lowers_by_id, fixed_edges, member_there}

-- capped levels
least_step : (b : Bool) (n : ℕ) → 1 ≤ n → 1 ≤ cond b 8 n
least_step true n h = omega arith
least_step false n h = h

most_step : (b : Bool) (n : ℕ) → (b ≡ false → n ≤ 8) → cond b 8 n ≤ 8
most_step true n h = omega arith
most_step false n h = h refl

pub capped_least : (n : ℕ) → 1 ≤ n → 1 ≤ capped n
capped_least n h = least_step (nat_lt 8 n) n h

pub capped_most : (n : ℕ) → capped n ≤ 8
capped_most n = most_step (nat_lt 8 n) n (above_test 8 n)

not_above : (n : ℕ) → n ≤ 8 → nat_lt 8 n ≡ false
not_above n h = false_of_not (nat_lt 8 n) (λ t. let above = below_test 8 n t in omega (arith, h, above))

pub uncapped : (n : ℕ) → n ≤ 8 → capped n ≡ n
uncapped n h = ap (λ b. cond b 8 n) (not_above n h)

-- a name that stands on another by its row is made, and no fault makes it unavailable
made_by : (kind : NameKind) (broken : Bool) (lower : List ℕ) → Contains (lowers_of (standing_of kind broken [])) lower → (is_made (counts.kind_of (by_id [] (standing_of kind broken []))) ≡ true) × (broken ≡ false)
made_by Plain broken lower m = absurd (none_in_nil lower m)
made_by (Bridge empty ports) true lower m = absurd (none_in_nil lower m)
made_by (Bridge empty ports) false lower m = (refl, refl)
made_by (Vlan below id) true lower m = absurd (none_in_nil lower m)
made_by (Vlan None id) false lower m = absurd (none_in_nil lower m)
made_by (Vlan (Some below) id) false lower m = (refl, refl)

made_bridge : (kind : NameKind) (broken : Bool) → is_bridge_kind kind ≡ true → broken ≡ false → is_made (counts.kind_of (by_id [] (standing_of kind broken []))) ≡ true
made_bridge Plain broken is e = cc is
made_bridge (Bridge empty ports) true is e = cc e
made_bridge (Bridge empty ports) false is e = refl
made_bridge (Vlan below id) broken is e = cc is

plain_is : (kind : NameKind) → is_plain_kind kind ≡ true → kind ≡ Plain
plain_is Plain is = refl
plain_is (Bridge empty ports) is = cc is
plain_is (Vlan below id) is = cc is

sound_flag : (b : Bool) → not b ≡ true → b ≡ false
sound_flag true h = cc h
sound_flag false h = refl

-- every edge of rows, one row after another
pub edges_all : (P : Edge → Type 0) (f : List ℕ → counts.Standing) (u : ℕ) (ns : List (List ℕ)) → ((i : ℕ) → i < length ns → (l : ℕ) → Contains (counts.lowers_of (f (slice_index_or ns i []))) l → P (counts.edge (u + i) l)) → (e : Edge)
    → Contains (counts.edges_from u (map f ns)) e → P e
edges_all P f u [] h e m = absurd (none_in_nil e m)
edges_all P f u (n ∷ ns) h e m =
    ⊎_elim
    (λ (own : Contains (map (counts.edge u) (counts.lowers_of (f n))) e).
    let from = member_of_map (counts.edge u) (counts.lowers_of (f n)) e own in
    subst P (ap (λ k. counts.edge k from.source) (let at : u + 0 ≡ u = omega arith in at) ∙ from.same) (h 0 (omega arith) from.source from.member))
    (λ (later : Contains (counts.edges_from (u + 1) (map f ns)) e).
    edges_all P f (u + 1) ns (λ i hi l ml. subst P (ap (λ k. counts.edge k l) (let at : u + suc i ≡ (u + 1) + i = omega arith in at)) (h (suc i) (omega (arith, hi)) l ml)) e later)
    (Contains-append_cases (map (counts.edge u) (counts.lowers_of (f n))) (counts.edges_from (u + 1) (map f ns)) e m)

module _ (s : Known) (h : IsSound s) where
  -- the node of a known name
  node_of : (name : List ℕ) → Contains (names_in s) name → (member_at (network_of s).members (id_of (names_in s) name)).level ≡ (node_row (row_at s.rows name)).level
  node_of name m =
      let names = names_in s in
      let id = id_of names name in
      let inside : id < length s.names = omega (arith, id_within names name m, length-map s.names (λ (n : Named). n.name)) in
      ap (λ (p : Member). p.level) (member_there s.rows s.names id inside)
      ∙ ap (λ (n : List ℕ). (node_row (row_at s.rows n)).level) (name_there s.names id inside ∙ back names name (id_within names name m))
    where
      name_there : (ns : List Named) (k : ℕ) → k < length ns → (slice_index_or ns k no_name).name ≡ slice_index_or (name_list ns) k []
      name_there [] k within = absurd (omega (arith, within))
      name_there (n ∷ ns) zero within = refl
      name_there (n ∷ ns) (suc k) within = name_there ns k (omega (arith, within))

  kind_of_node : (name : List ℕ) → Contains (names_in s) name → (member_at (network_of s).members (id_of (names_in s) name)).kind ≡ (node_row (row_at s.rows name)).kind
  kind_of_node name m =
      let names = names_in s in
      let id = id_of names name in
      let inside : id < length s.names = omega (arith, id_within names name m, length-map s.names (λ (n : Named). n.name)) in
      ap (λ (p : Member). p.kind) (member_there s.rows s.names id inside)
      ∙ ap (λ (n : List ℕ). (node_row (row_at s.rows n)).kind) (name_there s.names id inside ∙ back names name (id_within names name m))
    where
      name_there : (ns : List Named) (k : ℕ) → k < length ns → (slice_index_or ns k no_name).name ≡ slice_index_or (name_list ns) k []
      name_there [] k within = absurd (omega (arith, within))
      name_there (n ∷ ns) zero within = refl
      name_there (n ∷ ns) (suc k) within = name_there ns k (omega (arith, within))

  size_of : (name : List ℕ) → Contains (names_in s) name → id_of (names_in s) name < length (network_of s).members
  size_of name m = omega (arith, id_within (names_in s) name m, length-map s.names (λ (n : Named). n.name), length-map s.names (member_in s.rows))

  -- an edge between two known names, the upper one made and of a greater level
  rises : (upper lower : List ℕ) → Contains (names_in s) upper → Contains (names_in s) lower → is_made (node_row (row_at s.rows upper)).kind ≡ true → (row_at s.rows lower).level < (row_at s.rows upper).level
      → (row_at s.rows upper).level ≤ 8
      → Rises (network_of s).members (record { lower = id_of (names_in s) lower; upper = id_of (names_in s) upper })
  rises upper lower mu ml made less most =
      let over : (member_at (network_of s).members (id_of (names_in s) upper)).level ≡ capped (row_at s.rows upper).level = node_of upper mu in
      let under : (member_at (network_of s).members (id_of (names_in s) lower)).level ≡ capped (row_at s.rows lower).level = node_of lower ml in
      let high = uncapped (row_at s.rows upper).level most in
      let low = uncapped (row_at s.rows lower).level (omega (arith, less, most)) in
      record {
        lower = size_of lower ml;
        upper = size_of upper mu;
        made = ap is_made (kind_of_node upper mu) ∙ made;
        order = omega (arith, over, under, high, low, less);
      }

  -- the edges of the rows
  pub fixed_rise : All (Rises (network_of s).members) (network_of s).fixed
  fixed_rise =
      All-from_recursion (Rises (network_of s).members) (network_of s).fixed
      (all_members (Rises (network_of s).members) (network_of s).fixed (λ e m. edges_all (Rises (network_of s).members) (own_at (names_in s) s.rows) 0 (names_in s) edge_rises e (subst (λ es. Contains es e) (fixed_edges s h) m)))
    where
      edge_rises : (i : ℕ) → i < length (names_in s) → (l : ℕ) → Contains (counts.lowers_of (own_at (names_in s) s.rows (slice_index_or (names_in s) i []))) l → Rises (network_of s).members (counts.edge (0 + i) l)
      edge_rises i hi l m =
          let names = names_in s in
          let upper = slice_index_or names i [] in
          let row = row_at s.rows upper in
          let from = member_of_map (id_of names) (lowers_of (standing_of_row row [])) l (subst (λ ks. Contains ks l) (lowers_by_id names (standing_of_row row [])) m) in
          let lower = from.source in
          let made = made_by row.kind row.broken lower from.member in
          let at : id_of names upper ≡ 0 + i = id_at names i h.names.once hi ∙ (let e : i ≡ 0 + i = omega arith in e) in
          subst (λ (e : Edge). Rises (network_of s).members e) (ap (λ k. counts.edge k (id_of names lower)) at ∙ ap (counts.edge (0 + i)) from.same)
          (rises upper lower (at_member names i hi) (in_front s h lower (h.standing.named upper lower from.member)) made.0 (h.levels.rises upper lower from.member) (h.levels.most upper made.1))

  -- the edges to the ports of radios
  pub ports_rise : All (Rises (network_of s).members) (network_of s).ports
  ports_rise = All-from_recursion (Rises (network_of s).members) (network_of s).ports (all_members (Rises (network_of s).members) (network_of s).ports port_rises)
    where
      port_rises : (e : Edge) → Contains (network_of s).ports e → Rises (network_of s).members e
      port_rises e m =
          let names = names_in s in
          let from = member_of_map (port_edge names) (filter (joins_sound s.rows) s.radio) e m in
          let p = from.source in
          let given = within_filter (joins_sound s.rows) s.radio p from.member in
          let sound = sound_flag (row_at s.rows p.bridge).broken (from_filter (joins_sound s.rows) s.radio p from.member) in
          let bridge = h.ports.bridges p given in
          let low = h.levels.plain p.port (plain_is (row_at s.rows p.port).kind (h.ports.plain p given)) in
          let high = h.levels.bridge p.bridge bridge in
          subst (λ (x : Edge). Rises (network_of s).members x) from.same
          (rises p.bridge p.port (in_front s h p.bridge (bridge_named s.rows p.bridge bridge)) (h.ports.known p given) (made_bridge (row_at s.rows p.bridge).kind (row_at s.rows p.bridge).broken bridge sound) (omega (arith, low, high))
          (h.levels.most p.bridge sound))

  -- the levels of the nodes
  pub levels_fit : All HasLevel (map (λ (n : Named). node_row (row_at s.rows n.name)) s.names)
  levels_fit = All-from_recursion HasLevel (map (λ (n : Named). node_row (row_at s.rows n.name)) s.names) (fit s.names)
    where
      fit : (ns : List Named) → AllByRecursion HasLevel (map (λ (n : Named). node_row (row_at s.rows n.name)) ns)
      fit [] = tt
      fit (n ∷ ns) = ((capped_least (row_at s.rows n.name).level (h.levels.least n.name), capped_most (row_at s.rows n.name).level), fit ns)
