-- stored nodes and their marks, when one node is written
use Rattle.std.proofs.Common.{arith, subst, ℕ, ◌+◌, ◌-◌, ◌<◌, ◌≤◌, ◌≡◌, ◌≢◌, ⊎_elim, Bool, true, false, cond, List, [], ◌∷◌, ◌++◌, ◌*◌, ◌⊎◌, inl, inr, length, slice_index, slice_set, Option, Some, None, IsSome, is_some, IfSome, IfNone}
use Rattle.std.proofs.Common.{unwrap_or, get_or-set_same, get_or-set_other, length-set, refl, sym, ap, ◌∙◌}
use Rattle.std.proofs.lemmas.Bool.{cases_eq, cases_lt, false≢true}
use Rattle.std.proofs.lemmas.List.{get_or-map, get_or_past, ext_get_or, length-map, length-append, get_or_append_left, get_or_push}
use Rattle.slab.specs.Slab.{Slab, get, with_value, Updates}
use Rattle.use_counts.specs.declared.node.Node.{Node}
use Rattle.use_counts.specs.NodeRule.{HasRank, no_node, node_at, rank_at, rank_of}
use Rattle.use_counts.specs.declared.node.Row.{Row}
use Rattle.use_counts.proofs.NewLemmas.{AreFresh, fresh_ranks, fresh_down, fresh_stale}
use Rattle.use_counts.specs.Marked.{mark, IsFirstStale, IsLastUseStale}
use Rattle.use_counts.specs.NodesInside.{stored, list_of, AreKeys, AreRanked, IsMarked, AreMarked, AreSound, upward_index, downward_index, is_stale, is_use_stale}

pub at_keys : (slab : Slab Node) (keys : List ℕ) (k : ℕ) → k < length keys → node_at (list_of slab keys) k ≡ stored slab (slice_index keys k)
at_keys slab keys k h = get_or-map (stored slab) keys k 0 no_node h

slot_within : (slab : Slab Node) (key : ℕ) → IsSome (get slab key) → key < length slab.slots
slot_within slab key some = ⊎_elim (λ h. h) (λ past. absurd (false≢true (sym (ap is_some (get_or_past slab.slots key None past)) ∙ some))) (cases_lt key (length slab.slots))

stored_same : (slab : Slab Node) (key : ℕ) (node : Node) → IsSome (get slab key) → stored (with_value slab key node) key ≡ node
stored_same slab key node some = ap (λ o. unwrap_or o no_node) (get_or-set_same slab.slots key (Some node) None (slot_within slab key some))

stored_other : (slab : Slab Node) (key other : ℕ) (node : Node) → other ≢ key → stored (with_value slab key node) other ≡ stored slab other
stored_other slab key other node ne = ap (λ o. unwrap_or o no_node) (get_or-set_other slab.slots key other (Some node) None ne)

-- one node is written under its key
pub put_list : (slab : Slab Node) (keys : List ℕ) (place : ℕ) (node : Node) → place < length keys → AreKeys slab keys → list_of (with_value slab (slice_index keys place) node) keys ≡ slice_set (list_of slab keys) place node
put_list slab keys place node within are =
    let key = slice_index keys place in
    let new = with_value slab key node in
    let old = list_of slab keys in
    let inside : place < length old = omega (arith, within, length-map keys (stored slab)) in
    ext_get_or no_node (list_of new keys) (slice_set old place node) (length-map keys (stored new) ∙ sym (length-map keys (stored slab)) ∙ sym (length-set old place node))
    (λ k h.
    let there : k < length keys = omega (arith, h, length-map keys (stored new)) in
    ⊎_elim
    (λ e. subst (λ (n : ℕ). node_at (list_of new keys) n ≡ node_at (slice_set old place node) n) (sym e)
    (at_keys new keys place within ∙ stored_same slab key node (are.held place within) ∙ sym (get_or-set_same old place node no_node inside)))
    (λ ne. at_keys new keys k there ∙ stored_other slab key (slice_index keys k) node (λ e. ne (are.apart k place there within e)) ∙ sym (at_keys slab keys k there) ∙ sym (get_or-set_other old place k node no_node ne))
    (cases_eq k place))

keys_put : (slab : Slab Node) (keys : List ℕ) (key : ℕ) (node : Node) → AreKeys slab keys → AreKeys (with_value slab key node) keys
keys_put slab keys key node are =
    record {
      held = λ k h. ⊎_elim
          (λ e. subst IsSome (sym (ap (get (with_value slab key node)) e ∙ get_or-set_same slab.slots key (Some node) None (slot_within slab key (subst (λ n. IsSome (get slab n)) e (are.held k h))))) refl)
          (λ ne. subst IsSome (sym (get_or-set_other slab.slots key (slice_index keys k) (Some node) None ne)) (are.held k h))
          (cases_eq (slice_index keys k) key);
      apart = are.apart;
    }

-- what is written at a place, and elsewhere
pub rank_put : (nodes : List Node) (place : ℕ) (node : Node) → place < length nodes → node.rank ≡ rank_at nodes place → (k : ℕ) → rank_at (slice_set nodes place node) k ≡ rank_at nodes k
rank_put nodes place node within same k =
    ⊎_elim
    (λ e. ap (rank_at (slice_set nodes place node)) e ∙ ap (λ (n : Node). n.rank) (get_or-set_same nodes place node no_node within) ∙ same ∙ sym (ap (rank_at nodes) e))
    (λ ne. ap (λ (n : Node). n.rank) (get_or-set_other nodes place k node no_node ne))
    (cases_eq k place)

ranked_put : (made : ℕ) (nodes : List Node) (place : ℕ) (node : Node) → place < length nodes → node.rank ≡ rank_at nodes place → AreRanked made nodes → AreRanked made (slice_set nodes place node)
ranked_put made nodes place node within same are =
    let stays = rank_put nodes place node within same in
    record {
      top = λ k. omega (arith, stays k, are.top k);
      one = λ j k some e. are.one j k (omega (arith, stays j, some)) (sym (stays j) ∙ e ∙ stays k);
    }

flag_is : (b : Bool) → ◌≡◌ {A = ℕ} (cond b 1 0) 1 → b ≡ true
flag_is true h = refl
flag_is false h = absurd (omega arith)

module _ (index : ℕ → ℕ) (flag : Node → Bool) (nodes : List Node) (words words' : List ℕ) (place : ℕ) (node : Node) (within : place < length nodes) (same : node.rank ≡ rank_at nodes place) (are : AreMarked index flag nodes words) where
  new : List Node
  new = slice_set nodes place node

  other : (k : ℕ) → k ≢ place → node_at (slice_set nodes place node) k ≡ node_at nodes k
  other k ne = get_or-set_other nodes place k node no_node ne

  here : node_at (slice_set nodes place node) place ≡ node
  here = get_or-set_same nodes place node no_node within

  moved_mark : (n : ℕ) (m : IsMarked index flag nodes n) → m.place ≢ place → IsMarked index flag (slice_set nodes place node) n
  moved_mark n m ne =
      record {
        place = m.place;
        made = subst (λ (x : Node). 0 < x.rank) (sym (other m.place ne)) m.made;
        is = m.is ∙ ap (λ (x : Node). index x.rank) (sym (other m.place ne));
        flagged = ap flag (other m.place ne) ∙ m.flagged;
      }

  -- a node that is not made has no mark
  pub marked_plain : node.rank ≡ 0 → AreMarked index flag (slice_set nodes place node) words
  marked_plain none =
      record {
        some = λ n h. let m = are.some n h in moved_mark n m (λ e. omega (arith, m.made, ap (rank_at nodes) e, same, none));
        all = λ k made flagged.
            let ne : k ≢ place = λ e. omega (arith, made, ap (λ n. rank_at (slice_set nodes place node) n) e, ap (λ (x : Node). x.rank) here, none) in
            let is = other k ne in
            subst (λ (x : Node). mark words (index x.rank) ≡ 1) (sym is) (are.all k (subst (λ (x : Node). 0 < x.rank) is made) (ap flag (sym is) ∙ flagged));
      }

  pub marked_put : 0 < node.rank → ((k : ℕ) → 0 < rank_at nodes k → k ≢ place → index (rank_at nodes k) ≢ index node.rank) → mark words' (index node.rank) ≡ cond (flag node) 1 0
      → ((n : ℕ) → n ≢ index node.rank → mark words' n ≡ mark words n) → AreMarked index flag (slice_set nodes place node) words'
  marked_put made apart put others =
      record {
        some = λ n h. ⊎_elim
            (λ e. record {
              place = place;
              made = subst (λ (x : Node). 0 < x.rank) (sym here) made;
              is = e ∙ ap (λ (x : Node). index x.rank) (sym here);
              flagged = ap flag here ∙ flag_is (flag node) (sym put ∙ ap (mark words') (sym e) ∙ h);
            })
            (λ ne. let m = are.some n (sym (others n ne) ∙ h) in moved_mark n m (λ e. ne (m.is ∙ ap (λ k. index (rank_at nodes k)) e ∙ ap index (sym same))))
            (cases_eq n (index node.rank));
        all = λ k some flagged. ⊎_elim
            (λ e.
            let is : node_at (slice_set nodes place node) k ≡ node = ap (node_at (slice_set nodes place node)) e ∙ here in
            ap (λ (x : Node). mark words' (index x.rank)) is ∙ put ∙ ap (λ b. let n : ℕ = cond b 1 0 in n) (ap flag (sym is) ∙ flagged))
            (λ ne.
            let is = other k ne in
            let before : 0 < rank_at nodes k = subst (λ (x : Node). 0 < x.rank) is some in
            ap (λ (x : Node). mark words' (index x.rank)) is ∙ others (index (rank_at nodes k)) (apart k before ne) ∙ are.all k before (ap flag (sym is) ∙ flagged))
            (cases_eq k place);
      }

upward_apart : (made : ℕ) (nodes : List Node) (place : ℕ) (node : Node) → AreRanked made nodes → node.rank ≡ rank_at nodes place → 0 < node.rank → (k : ℕ) → 0 < rank_at nodes k → k ≢ place
    → upward_index (rank_at nodes k) ≢ upward_index node.rank
upward_apart made nodes place node are same some k there ne e = ne (are.one k place there (omega (arith, e, same, some, there)))

downward_apart : (made : ℕ) (nodes : List Node) (place : ℕ) (node : Node) → AreRanked made nodes → node.rank ≡ rank_at nodes place → 0 < node.rank → (k : ℕ) → 0 < rank_at nodes k → k ≢ place
    → downward_index made (rank_at nodes k) ≢ downward_index made node.rank
downward_apart made nodes place node are same some k there ne e = ne (are.one k place there (omega (arith, e, same, some, there, are.top k, are.top place)))

-- the marks after a write of a node that is not made, and of one that is
pub sound_plain : (slab : Slab Node) (keys : List ℕ) (made : ℕ) (stale use_stale : List ℕ) (place : ℕ) (node : Node) → AreSound slab keys made stale use_stale → place < length keys → node.rank ≡ rank_at (list_of slab keys) place → node.rank
    ≡ 0 → AreSound (with_value slab (slice_index keys place) node) keys made stale use_stale
sound_plain slab keys made stale use_stale place node s within same none =
    let nodes = list_of slab keys in
    let inside : place < length nodes = omega (arith, within, length-map keys (stored slab)) in
    let is = sym (put_list slab keys place node within s.keyed) in
    record {
      keyed = keys_put slab keys (slice_index keys place) node s.keyed;
      ranked = subst (λ (ns : List Node). AreRanked made ns) is (ranked_put made nodes place node inside same s.ranked);
      stale_room = s.stale_room;
      use_room = s.use_room;
      stale_marks = subst (λ (ns : List Node). AreMarked upward_index is_stale ns stale) is (marked_plain upward_index is_stale nodes stale stale place node inside same s.stale_marks none);
      use_marks = subst (λ (ns : List Node). AreMarked (downward_index made) is_use_stale ns use_stale) is (marked_plain (downward_index made) is_use_stale nodes use_stale use_stale place node inside same s.use_marks none);
    }

pub sound_put : (slab : Slab Node) (keys : List ℕ) (made : ℕ) (stale use_stale stale' use_stale' : List ℕ) (place : ℕ) (node : Node) → AreSound slab keys made stale use_stale → place < length keys → node.rank
    ≡ rank_at (list_of slab keys) place → 0 < node.rank → length stale' ≡ length stale → length use_stale' ≡ length use_stale → mark stale' (node.rank - 1) ≡ cond node.stale 1 0 → ((n : ℕ) → n ≢ node.rank - 1 → mark stale' n ≡ mark stale n)
    → mark use_stale' (made - node.rank) ≡ cond node.use_stale 1 0 → ((n : ℕ) → n ≢ made - node.rank → mark use_stale' n ≡ mark use_stale n) → AreSound (with_value slab (slice_index keys place) node) keys made stale' use_stale'
sound_put slab keys made stale use_stale stale' use_stale' place node s within same some long use_long put others use_put use_others =
    let nodes = list_of slab keys in
    let inside : place < length nodes = omega (arith, within, length-map keys (stored slab)) in
    let is = sym (put_list slab keys place node within s.keyed) in
    record {
      keyed = keys_put slab keys (slice_index keys place) node s.keyed;
      ranked = subst (λ (ns : List Node). AreRanked made ns) is (ranked_put made nodes place node inside same s.ranked);
      stale_room = omega (arith, s.stale_room, long);
      use_room = omega (arith, s.use_room, use_long);
      stale_marks = subst (λ (ns : List Node). AreMarked upward_index is_stale ns stale') is
          (marked_put upward_index is_stale nodes stale stale' place node inside same s.stale_marks some (upward_apart made nodes place node s.ranked same some) put others);
      use_marks = subst (λ (ns : List Node). AreMarked (downward_index made) is_use_stale ns use_stale') is
          (marked_put (downward_index made) is_use_stale nodes use_stale use_stale' place node inside same s.use_marks some (downward_apart made nodes place node s.ranked same some) use_put use_others);
    }

not_flagged : (b : Bool) → (b ≡ true → ⊥) → b ≡ false
not_flagged true h = absurd (h refl)
not_flagged false h = refl

-- the first mark is that of the least rank
pub first_found : (slab : Slab Node) (keys : List ℕ) (made : ℕ) (stale use_stale : List ℕ) (result : Option ℕ) → AreSound slab keys made stale use_stale → IfSome result (λ n. mark stale n ≡ 1)
    → IfSome result (λ n. (m : ℕ) → m < n → mark stale m ≡ 0) → IfSome result (IsFirstStale (list_of slab keys))
first_found slab keys made stale use_stale None s found least = tt
first_found slab keys made stale use_stale (Some n) s found least =
    let m = s.stale_marks.some n found in
    let nodes = list_of slab keys in
    record {
      place = m.place;
      rank = omega (arith, m.is, m.made);
      stale = m.flagged;
      least = λ k some flagged. ⊎_elim (λ (h : n < rank_at nodes k). h) (λ past. absurd (omega (arith, s.stale_marks.all k some flagged, least (rank_at nodes k - 1) (omega (arith, past, some))))) (cases_lt n (rank_at nodes k));
    }

pub first_none : (slab : Slab Node) (keys : List ℕ) (made : ℕ) (stale use_stale : List ℕ) (result : Option ℕ) → AreSound slab keys made stale use_stale → IfNone result ((m : ℕ) → mark stale m ≡ 0)
    → IfNone result ((k : ℕ) → 0 < rank_at (list_of slab keys) k → (node_at (list_of slab keys) k).stale ≡ false)
first_none slab keys made stale use_stale (Some n) s none = tt
first_none slab keys made stale use_stale None s none = λ k some. not_flagged (node_at (list_of slab keys) k).stale (λ flagged. omega (arith, s.stale_marks.all k some flagged, none (rank_at (list_of slab keys) k - 1)))

pub last_found : (slab : Slab Node) (keys : List ℕ) (made : ℕ) (stale use_stale : List ℕ) (n turn : ℕ) → AreSound slab keys made stale use_stale → mark use_stale n ≡ 1 → ((m : ℕ) → m < n → mark use_stale m ≡ 0) → turn ≡ made - 1 - n
    → IsLastUseStale (list_of slab keys) turn
last_found slab keys made stale use_stale n turn s found least is =
    let m = s.use_marks.some n found in
    let nodes = list_of slab keys in
    record {
      place = m.place;
      rank = omega (arith, m.is, m.made, s.ranked.top m.place, is);
      use_stale = m.flagged;
      greatest = λ k some flagged. ⊎_elim (λ (h : turn + 1 < rank_at nodes k). absurd
          (omega (arith, s.use_marks.all k some flagged, least (made - rank_at nodes k) (omega (arith, h, m.is, m.made, s.ranked.top k, s.ranked.top m.place, is))))) (λ h. h) (cases_lt (turn + 1) (rank_at nodes k));
    }

pub last_within : (slab : Slab Node) (keys : List ℕ) (made : ℕ) (stale use_stale : List ℕ) (n : ℕ) → AreSound slab keys made stale use_stale → mark use_stale n ≡ 1 → n < made
last_within slab keys made stale use_stale n s found = let m = s.use_marks.some n found in omega (arith, m.is, m.made, s.ranked.top m.place)

pub last_none : (slab : Slab Node) (keys : List ℕ) (made : ℕ) (stale use_stale : List ℕ) → AreSound slab keys made stale use_stale → ((m : ℕ) → mark use_stale m ≡ 0) → (k : ℕ) → 0 < rank_at (list_of slab keys) k
    → (node_at (list_of slab keys) k).use_stale ≡ false
last_none slab keys made stale use_stale s none k some = not_flagged (node_at (list_of slab keys) k).use_stale (λ flagged. omega (arith, s.use_marks.all k some flagged, none (made - rank_at (list_of slab keys) k)))

-- one node more is stored
pub keys_push : (slab new : Slab Node) (keys : List ℕ) (key : ℕ) (node : Node) → AreKeys slab keys → get slab key ≡ None → Updates slab new key (Some node) → AreKeys new (keys ++ key ∷ [])
keys_push slab new keys key node are vacant updates =
    let apart_from : (k : ℕ) → k < length keys → slice_index keys k ≢ key = λ k h e. false≢true (sym (ap is_some (ap (get slab) e ∙ vacant)) ∙ are.held k h) in
    let before : (k : ℕ) → k < length keys → slice_index (keys ++ key ∷ []) k ≡ slice_index keys k = λ k h. get_or_append_left keys (key ∷ []) 0 k h in
    let last : (k : ℕ) → k ≡ length keys → slice_index (keys ++ key ∷ []) k ≡ key = λ k e. get_or_push keys key 0 k (sym e) in
    let cases : (k : ℕ) → k < length (keys ++ key ∷ []) → (k < length keys) ⊎ (k ≡ length keys) = λ k h. ⊎_elim inl (λ past. inr (omega (arith, h, past, length-append keys (key ∷ [])))) (cases_lt k (length keys)) in
    record {
      held = λ k h. ⊎_elim
          (λ within. ap (λ n. is_some (get new n)) (before k within) ∙ ap is_some (updates.others (slice_index keys k) (apart_from k within)) ∙ are.held k within)
          (λ e. ap (λ n. is_some (get new n)) (last k e) ∙ ap is_some updates.changed)
          (cases k h);
      apart = λ j k h i e. ⊎_elim
          (λ jin. ⊎_elim
          (λ kin. are.apart j k jin kin (sym (before j jin) ∙ e ∙ before k kin))
          (λ kout. absurd (apart_from j jin (sym (before j jin) ∙ e ∙ last k kout)))
          (cases k i))
          (λ jout. ⊎_elim
          (λ kin. absurd (apart_from k kin (sym (before k kin) ∙ sym e ∙ last j jout)))
          (λ kout. jout ∙ sym kout)
          (cases k i))
          (cases j h);
    }

pub nodes_push : (slab new : Slab Node) (keys : List ℕ) (key : ℕ) (node : Node) → AreKeys slab keys → get slab key ≡ None → Updates slab new key (Some node) → (k : ℕ) → k < length keys → node_at (list_of new (keys ++ key ∷ [])) k
    ≡ node_at (list_of slab keys) k
nodes_push slab new keys key node are vacant updates k h =
    let there : k < length (keys ++ key ∷ []) = omega (arith, h, length-append keys (key ∷ [])) in
    at_keys new (keys ++ key ∷ []) k there ∙ ap (stored new) (get_or_append_left keys (key ∷ []) 0 k h)
    ∙ ap (λ o. unwrap_or o no_node) (updates.others (slice_index keys k) (λ e. false≢true (sym (ap is_some (ap (get slab) e ∙ vacant)) ∙ are.held k h))) ∙ sym (at_keys slab keys k h)

pub node_pushed : (slab new : Slab Node) (keys : List ℕ) (key : ℕ) (node : Node) → Updates slab new key (Some node) → node_at (list_of new (keys ++ key ∷ [])) (length keys) ≡ node
node_pushed slab new keys key node updates =
    at_keys new (keys ++ key ∷ []) (length keys) (omega (arith, length-append keys (key ∷ []))) ∙ ap (stored new) (get_or_push keys key 0 (length keys) refl)
    ∙ ap (λ o. unwrap_or o no_node) updates.changed

-- new nodes, of which each made one is stale
pub sound_new : (slab : Slab Node) (keys ranks : List ℕ) (made : ℕ) (stale use_stale : List ℕ) (rows : List Row) → AreKeys slab keys → AreFresh (rank_of ranks) rows (list_of slab keys) → length ranks ≡ length rows
    → ((k : ℕ) → rank_of ranks k ≤ made) → ((j k : ℕ) → 0 < rank_of ranks j → rank_of ranks j ≡ rank_of ranks k → j ≡ k) → ((turn : ℕ) → turn < made → HasRank ranks turn) → made ≤ 64 * length stale → made ≤ 64 * length use_stale
    → ((n : ℕ) → mark stale n ≡ 1 → n < made) → ((n : ℕ) → n < made → mark stale n ≡ 1) → ((n : ℕ) → mark use_stale n ≡ 0) → AreSound slab keys made stale use_stale
sound_new slab keys ranks made stale use_stale rows are fresh same top one all room use_room within marked none =
    let nodes = list_of slab keys in
    let is = fresh_ranks ranks rows nodes same fresh in
    record {
      keyed = are;
      ranked = record {
        top = λ k. omega (arith, is k, top k);
        one = λ j k some e. one j k (omega (arith, is j, some)) (sym (is j) ∙ e ∙ is k);
      };
      stale_room = room;
      use_room = use_room;
      stale_marks = record {
        some = λ n h.
            let r = all n (within n h) in
            let some : 0 < rank_at nodes r.place = omega (arith, is r.place, r.is) in
            record { place = r.place; made = some; is = omega (arith, is r.place, r.is); flagged = fresh_stale (rank_of ranks) rows nodes fresh r.place some };
        all = λ k some flagged. marked (rank_at nodes k - 1) (omega (arith, is k, top k, some));
      };
      use_marks = record {
        some = λ n h. absurd (omega (arith, h, none n));
        all = λ k some flagged. absurd (false≢true (sym (fresh_down (rank_of ranks) rows nodes fresh k) ∙ flagged));
      };
    }
