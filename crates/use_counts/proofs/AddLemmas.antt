-- one node more, which is not made and stands at no edge
use Rattle.std.proofs.Common.{arith, subst, ℕ, zero, suc, ◌+◌, ◌-◌, ◌<◌, ◌≤◌, ◌≡◌, ◌==◌, ⊎_elim, Bool, false, cond, List, [], ◌∷◌, ◌++◌, length, map, filter, slice_index, Some, None, Vec, Global, refl, sym, ap, ◌∙◌}
use Rattle.std.specs.List.{AllByRecursion, All}
use Rattle.std.proofs.lemmas.Bool.{cases_lt, ne_eqb}
use Rattle.std.proofs.lemmas.List.{ext_get_or, length-map, length-append, map-append, get_or_append_left, get_or_push}
use Rattle.std.proofs.lemmas.List.Elements.{All-weaker, All-push, recursion_from_All}
use Rattle.slab.specs.Slab.{Slab, get, Updates}
use Rattle.use_counts.specs.declared.node.Edge.{Edge}
use Rattle.use_counts.specs.declared.node.Node.{Node}
use Rattle.use_counts.specs.declared.node.Row.{Row}
use Rattle.use_counts.specs.NodeRule.{no_node, is_made, node_at, rank_at, rank_of, new_node}
use Rattle.use_counts.specs.Edges.{lower_end, upper_end, far_ends}
use Rattle.use_counts.specs.Held.{FollowsCounts, IsCalm, IsOrder, Member, RunsUp, available_at, items_at, link_at, member_of, used_at}
use Rattle.use_counts.specs.Network.{Network, HasLevels, Rises, edges_of, loaded, no_member}
use Rattle.use_counts.specs.Marked.{mark}
use Rattle.use_counts.specs.NodesInside.{AreMarked, AreRanked, AreSound, downward_index, is_stale, is_use_stale, list_of, stored, upward_index}
use Rattle.use_counts.proofs.EdgeLemmas.{counted_same, everywhere}
use Rattle.use_counts.proofs.HeldUp.{UseFollows}
use Rattle.use_counts.proofs.NewLemmas.{at_first}
use Rattle.use_counts.proofs.NodesLemmas.{keys_push, nodes_push, node_pushed}

-- a rank at the end is read past the end too
pub rank_pushed : (ranks : List ℕ) (k : ℕ) → rank_of (ranks ++ 0 ∷ []) k ≡ rank_of ranks k
rank_pushed [] zero = refl
rank_pushed [] (suc k) = refl
rank_pushed (r ∷ ranks) zero = refl
rank_pushed (r ∷ ranks) (suc k) = rank_pushed ranks k

pub stand_more : (ranks : List ℕ) (size more : ℕ) (edges : List Edge) → more ≡ size + 1 → All (λ e. RunsUp (rank_of ranks) size e.lower e.upper) edges → All (λ e. RunsUp (rank_of (ranks ++ 0 ∷ [])) more e.lower e.upper) edges
stand_more ranks size more edges is =
    All-weaker (λ e. RunsUp (rank_of ranks) size e.lower e.upper) (λ e. RunsUp (rank_of (ranks ++ 0 ∷ [])) more e.lower e.upper)
    (λ e r. record {
      made_upper = omega (arith, r.made_upper, rank_pushed ranks e.upper);
      node_upper = omega (arith, r.node_upper, is);
      node_lower = omega (arith, r.node_lower, is);
      order = λ h. omega (arith, rank_pushed ranks e.lower, rank_pushed ranks e.upper, r.order (omega (arith, h, rank_pushed ranks e.lower)));
    })
    edges

pub lowers_within : (ranks : List ℕ) (size count : ℕ) (edges : List Edge) → count ≡ size → All (λ e. RunsUp (rank_of ranks) size e.lower e.upper) edges → AllByRecursion (λ e. lower_end e < count) edges
lowers_within ranks size count edges is stand =
    recursion_from_All (λ e. lower_end e < count) edges
    (All-weaker (λ e. RunsUp (rank_of ranks) size e.lower e.upper) (λ e. lower_end e < count) (λ e r. omega (arith, r.node_lower, is)) edges stand)

pub uppers_within : (ranks : List ℕ) (size count : ℕ) (edges : List Edge) → count ≡ size → All (λ e. RunsUp (rank_of ranks) size e.lower e.upper) edges → AllByRecursion (λ e. upper_end e < count) edges
uppers_within ranks size count edges is stand =
    recursion_from_All (λ e. upper_end e < count) edges
    (All-weaker (λ e. RunsUp (rank_of ranks) size e.lower e.upper) (λ e. upper_end e < count) (λ e r. omega (arith, r.node_upper, is)) edges stand)

pub order_more : (order ranks : List ℕ) (size more : ℕ) → more ≡ size + 1 → IsOrder order (rank_of ranks) size → IsOrder order (rank_of (ranks ++ 0 ∷ [])) more
order_more order ranks size more is o =
    record {
      made_at = λ turn h. let m = o.made_at turn h in (omega (arith, m.0, is), rank_pushed ranks (slice_index order turn) ∙ m.1);
      turn_of = λ k some.
          let t = o.turn_of k (omega (arith, some, rank_pushed ranks k)) in
          (omega (arith, t.0, rank_pushed ranks k), ap (λ r. slice_index order (r - 1)) (rank_pushed ranks k) ∙ t.1);
    }

items_left : (lists : List (Vec ℕ Global)) (v : Vec ℕ Global) (k : ℕ) → k < length lists → items_at (lists ++ v ∷ []) k ≡ items_at lists k
items_left [] v k h = absurd (omega (arith, h))
items_left (x ∷ xs) v zero h = refl
items_left (x ∷ xs) v (suc k) h = items_left xs v k (omega (arith, h))

items_last : (lists : List (Vec ℕ Global)) (v : Vec ℕ Global) → items_at (lists ++ v ∷ []) (length lists) ≡ v.items
items_last [] v = refl
items_last (x ∷ xs) v = items_last xs v

no_ends : (far near : Edge → ℕ) (k : ℕ) (edges : List Edge) → AllByRecursion (λ e. near e < k) edges → far_ends far near edges k ≡ []
unfolding far_ends
no_ends far near k [] h = refl
no_ends far near k (e ∷ es) h =
    ap (λ b. map far (cond b (e ∷ filter (λ x. near x == k) es) (filter (λ x. near x == k) es))) (ne_eqb (near e) k (λ is. omega (arith, h.0, is)))
    ∙ no_ends far near k es h.1

-- no edge ends at a node more
pub lists_more : (far near : Edge → ℕ) (lists : List (Vec ℕ Global)) (v : Vec ℕ Global) (edges : List Edge) → v.items ≡ [] → AllByRecursion (λ e. near e < length lists) edges
    → ((k : ℕ) → k < length lists → items_at lists k ≡ far_ends far near edges k) → (k : ℕ) → k < length lists + 1 → items_at (lists ++ v ∷ []) k ≡ far_ends far near edges k
lists_more far near lists v edges none within are k h =
    ⊎_elim
    (λ (inside : k < length lists). items_left lists v k inside ∙ are k inside)
    (λ past.
    let last : k ≡ length lists = omega (arith, h, past) in
    ap (items_at (lists ++ v ∷ [])) last ∙ items_last lists v ∙ none ∙ sym (ap (far_ends far near edges) last ∙ no_ends far near (length lists) edges within))
    (cases_lt k (length lists))

-- what is told of a node more as of none stays as it was everywhere
pub same_at : {A : Type 0} (f : Node → A) (nodes : List Node) (node : Node) → f node ≡ f no_node → (k : ℕ) → f (node_at (nodes ++ node ∷ []) k) ≡ f (node_at nodes k)
same_at f [] node e zero = e
same_at f [] node e (suc k) = refl
same_at f (n ∷ ns) node e zero = refl
same_at f (n ∷ ns) node e (suc k) = same_at f ns node e k

at_pushed : (P : Node → Type 0) (nodes : List Node) (node : Node) → P node → ((k : ℕ) → P (node_at nodes k)) → (k : ℕ) → P (node_at (nodes ++ node ∷ []) k)
at_pushed P [] node here all zero = here
at_pushed P [] node here all (suc k) = all 0
at_pushed P (n ∷ ns) node here all zero = all 0
at_pushed P (n ∷ ns) node here all (suc k) = at_pushed P ns node here (λ j. all (suc j)) k

alone_follows : (row : Row) → is_made row.kind ≡ false → FollowsCounts (new_node 0 row)
alone_follows row plain = let first = at_first row.kind plain in record { available = sym first.0; link = sym first.1 }

pub calm_more : (edges : List Edge) (nodes : List Node) (row : Row) → is_made row.kind ≡ false → IsCalm edges nodes → IsCalm edges (nodes ++ new_node 0 row ∷ [])
unfolding no_node
calm_more edges nodes row plain c =
    let node = new_node 0 row in
    let available = same_at (λ n. n.available) nodes node refl in
    let link = same_at (λ n. n.link) nodes node refl in
    let used = same_at (λ n. n.used) nodes node refl in
    record {
      kept = record {
        open_lowers = λ k. omega (
          arith,
          same_at (λ n. n.open_lowers) nodes node refl k,
          c.kept.open_lowers k,
          counted_same upper_end lower_end (available_at nodes) (available_at (nodes ++ node ∷ [])) k edges (everywhere (λ e. available e.lower) edges),
        );
        linked_lowers = λ k. omega (
          arith,
          same_at (λ n. n.linked_lowers) nodes node refl k,
          c.kept.linked_lowers k,
          counted_same upper_end lower_end (link_at nodes) (link_at (nodes ++ node ∷ [])) k edges (everywhere (λ e. link e.lower) edges),
        );
        demand = λ k. omega (
          arith,
          same_at (λ n. n.demand) nodes node refl k,
          same_at (λ n. n.claims) nodes node refl k,
          c.kept.demand k,
          counted_same lower_end upper_end (used_at nodes) (used_at (nodes ++ node ∷ [])) k edges (everywhere (λ e. used e.upper) edges),
        );
        stale = at_pushed (λ n. n.stale ≡ false → FollowsCounts n) nodes node (λ _. alone_follows row plain) c.kept.stale;
        use_stale = at_pushed UseFollows nodes node (λ _. refl) c.kept.use_stale;
      };
      ups = at_pushed (λ n. n.stale ≡ false) nodes node refl c.ups;
      downs = at_pushed (λ n. n.use_stale ≡ false) nodes node refl c.downs;
    }

pub ranks_more : (nodes : List Node) (row : Row) (ranks : List ℕ) → ((k : ℕ) → rank_at nodes k ≡ rank_of ranks k) → (k : ℕ) → rank_at (nodes ++ new_node 0 row ∷ []) k ≡ rank_of (ranks ++ 0 ∷ []) k
unfolding no_node
ranks_more nodes row ranks are k = same_at (λ n. n.rank) nodes (new_node 0 row) refl k ∙ are k ∙ sym (rank_pushed ranks k)

rises_more : (members : List Member) (p : Member) (e : Edge) → Rises members e → Rises (members ++ p ∷ []) e
rises_more members p e r =
    let lower = get_or_append_left members (p ∷ []) no_member e.lower r.lower in
    let upper = get_or_append_left members (p ∷ []) no_member e.upper r.upper in
    record {
      lower = omega (arith, r.lower, length-append members (p ∷ []));
      upper = omega (arith, r.upper, length-append members (p ∷ []));
      made = ap (λ (m : Member). is_made m.kind) upper ∙ r.made;
      order = omega (arith, r.order, ap (λ (m : Member). m.level) lower, ap (λ (m : Member). m.level) upper);
    }

pub levels_more : (net : Network) (p : Member) → (1 ≤ p.level) × (p.level ≤ 8) → p.claims ≤ 1024 → HasLevels net → HasLevels (record net { members = net.members ++ p ∷ [] })
levels_more net p level few h =
    record {
      levels = All-push (λ (m : Member). (1 ≤ m.level) × (m.level ≤ 8)) net.members p h.levels level;
      edges = All-weaker (Rises net.members) (Rises (net.members ++ p ∷ [])) (rises_more net.members p) (edges_of net) h.edges;
      claims = All-push (λ (m : Member). m.claims ≤ 1024) net.members p h.claims few;
    }

pub members_more : (nodes : List Node) (row : Row) → map member_of (nodes ++ new_node 0 row ∷ []) ≡ map member_of nodes ++ loaded row ∷ []
members_more nodes row = map-append member_of nodes (new_node 0 row ∷ [])

-- one node more is stored
pub list_pushed : (slab new : Slab Node) (keys : List ℕ) (key : ℕ) (node : Node) (made : ℕ) (stale use_stale : List ℕ) → AreSound slab keys made stale use_stale → get slab key ≡ None → Updates slab new key (Some node)
    → list_of new (keys ++ key ∷ []) ≡ list_of slab keys ++ node ∷ []
list_pushed slab new keys key node made stale use_stale s vacant updates =
    let old = list_of slab keys in
    let long : length (list_of new (keys ++ key ∷ [])) ≡ length (old ++ node ∷ []) = omega (arith, length-map (keys ++ key ∷ []) (stored new), length-append keys (key ∷ []), length-append old (node ∷ []), length-map keys (stored slab)) in
    ext_get_or no_node (list_of new (keys ++ key ∷ [])) (old ++ node ∷ []) long
    (λ k h. ⊎_elim
    (λ (inside : k < length keys). nodes_push slab new keys key node s.keyed vacant updates k inside ∙ sym (get_or_append_left old (node ∷ []) no_node k (omega (arith, inside, length-map keys (stored slab)))))
    (λ past.
    let last : k ≡ length keys = omega (arith, h, past, length-map (keys ++ key ∷ []) (stored new), length-append keys (key ∷ [])) in
    ap (node_at (list_of new (keys ++ key ∷ []))) last ∙ node_pushed slab new keys key node updates ∙ sym (get_or_push old node no_node k (length-map keys (stored slab) ∙ sym last)))
    (cases_lt k (length keys)))

marked_more : (index : ℕ → ℕ) (flag : Node → Bool) (nodes : List Node) (node : Node) (words : List ℕ) → node.rank ≡ no_node.rank → flag node ≡ flag no_node → AreMarked index flag nodes words → AreMarked index flag (nodes ++ node ∷ []) words
marked_more index flag nodes node words rank same are =
    let ranks = same_at (λ n. n.rank) nodes node rank in
    let flags = same_at flag nodes node same in
    record {
      some = λ n h.
          let m = are.some n h in
          record {
            place = m.place;
            made = omega (arith, m.made, ranks m.place);
            is = m.is ∙ ap index (sym (ranks m.place));
            flagged = flags m.place ∙ m.flagged;
          };
      all = λ k some flagged. ap (λ r. mark words (index r)) (ranks k) ∙ are.all k (omega (arith, some, ranks k)) (sym (flags k) ∙ flagged);
    }

pub sound_more : (slab new : Slab Node) (keys : List ℕ) (key : ℕ) (row : Row) (made : ℕ) (stale use_stale : List ℕ) → AreSound slab keys made stale use_stale → get slab key ≡ None → Updates slab new key (Some (new_node 0 row))
    → AreSound new (keys ++ key ∷ []) made stale use_stale
unfolding no_node
sound_more slab new keys key row made stale use_stale s vacant updates =
    let node = new_node 0 row in
    let nodes = list_of slab keys in
    let is = sym (list_pushed slab new keys key node made stale use_stale s vacant updates) in
    let ranks = same_at (λ n. n.rank) nodes node refl in
    record {
      keyed = keys_push slab new keys key node s.keyed vacant updates;
      ranked = subst (λ (ns : List Node). AreRanked made ns) is
          (record {
            top = λ k. omega (arith, ranks k, s.ranked.top k);
            one = λ j k some e. s.ranked.one j k (omega (arith, ranks j, some)) (sym (ranks j) ∙ e ∙ ranks k);
          });
      stale_room = s.stale_room;
      use_room = s.use_room;
      stale_marks = subst (λ (ns : List Node). AreMarked upward_index is_stale ns stale) is (marked_more upward_index is_stale nodes node stale refl refl s.stale_marks);
      use_marks = subst (λ (ns : List Node). AreMarked (downward_index made) is_use_stale ns use_stale) is (marked_more (downward_index made) is_use_stale nodes node use_stale refl refl s.use_marks);
    }

-- room alone changes nothing that is stored
pub sound_with_room : (slab : Slab Node) (room : ℕ) (keys : List ℕ) (made : ℕ) (stale use_stale : List ℕ) → AreSound slab keys made stale use_stale → AreSound (record slab { capacity = room }) keys made stale use_stale
sound_with_room slab room keys made stale use_stale s =
    record {
      keyed = record { held = s.keyed.held; apart = s.keyed.apart };
      ranked = s.ranked;
      stale_room = s.stale_room;
      use_room = s.use_room;
      stale_marks = s.stale_marks;
      use_marks = s.use_marks;
    }
