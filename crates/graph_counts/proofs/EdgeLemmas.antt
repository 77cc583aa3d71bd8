-- edges that are listed one row, or one port, after another
use Rattle.std.proofs.Common.{arith, ℕ, suc, ◌+◌, ◌<◌, ◌≡◌, Bool, true, false, cond, not, List, [], ◌∷◌, ◌++◌, map, filter, length, take, Contains, None, bytes_eq, slice_index_or, refl, sym, ap, ◌∙◌}
use Rattle.std.proofs.lemmas.List.{map-append, length-map, take_more, append_assoc, append-nil, length-take-le}
use Rattle.std.proofs.lemmas.List.Elements.{filter-append}
use Rattle.kern_model.proofs.MemberLemmas.{none_in_nil}
use Rattle.kern_model.proofs.TestLemmas.{same_bytes, bytes_same, false_of_not}
use Rattle.net_rows.specs.declared.rows.NameRow.{NameRow}
use Rattle.net_rows.specs.declared.rows.NameKind.{NameKind}
use Rattle.net_rows.specs.declared.rows.NameKind.TheVariants.{Plain, Bridge, Vlan}
use Rattle.net_rules.specs.Rows.{row_at}
use Rattle.net_rules.specs.Standing.{standing_of}
use Rattle.use_counts.specs.declared.node.Edge.{Edge}
use Rattle.use_counts.specs.Rows as counts
use Rattle.graph_rules.specs.declared.ids.RadioPort.{RadioPort}
use Rattle.graph_rules.specs.State.{Named, name_list, place_among}
use Rattle.graph_names.proofs.NameLemmas.{lacks}
use Rattle.graph_counts.specs.Counted.{id_of, by_id, own_standing, row_edges, port_edge, port_edges, joins_sound}
use Rattle.graph_counts.specs.Sound.{BeginWithRows}
use Rattle.graph_counts.proofs.IdLemmas.{id_within, id_in_front, later_member}

edges_push : (u k : ℕ) (xs : List counts.Standing) (x : counts.Standing) → k ≡ u + length xs → counts.edges_from u (xs ++ x ∷ []) ≡ counts.edges_from u xs ++ map (counts.edge k) (counts.lowers_of x)
edges_push u k [] x e = append-nil (map (counts.edge u) (counts.lowers_of x)) ∙ ap (λ n. map (counts.edge n) (counts.lowers_of x)) (let same : u ≡ k = omega (arith, e) in same)
edges_push u k (y ∷ ys) x e =
    ap (λ es. map (counts.edge u) (counts.lowers_of y) ++ es) (edges_push (u + 1) k ys x (omega (arith, e)))
    ∙ sym (append_assoc (map (counts.edge u) (counts.lowers_of y)) (counts.edges_from (u + 1) ys) (map (counts.edge k) (counts.lowers_of x)))

-- the edges of one more row
pub row_edges_more : (names : List (List ℕ)) (rows : List NameRow) (k : ℕ) (row : NameRow) → k < length rows → row ≡ slice_index_or rows k row
    → row_edges names (take k rows) ++ map (counts.edge k) (counts.lowers_of (own_standing names row)) ≡ row_edges names (take (k + 1) rows)
row_edges_more names rows k row h is =
    let size : k ≡ 0 + length (map (own_standing names) (take k rows)) = omega (arith, h, length-map (take k rows) (own_standing names), length-take-le k rows (omega (arith, h))) in
    let all : map (own_standing names) (take (k + 1) rows) ≡ map (own_standing names) (take k rows) ++ own_standing names row ∷ [] =
    ap (map (own_standing names)) (take_more rows k row h ∙ ap (λ (r : NameRow). take k rows ++ r ∷ []) (sym is)) ∙ map-append (own_standing names) (take k rows) (row ∷ []) in
    sym (ap (counts.edges_from 0) all ∙ edges_push 0 k (map (own_standing names) (take k rows)) (own_standing names row) size)

-- the edges of one more port
port_step : (names : List (List ℕ)) (b : Bool) (p : RadioPort) (done : List Edge) → map (port_edge names) (cond b (p ∷ []) []) ≡ cond b (port_edge names p ∷ []) []
port_step names true p done = refl
port_step names false p done = refl

more_ports : (names : List (List ℕ)) (rows : List NameRow) (radio : List RadioPort) (k : ℕ) (p : RadioPort) → k < length radio → p ≡ slice_index_or radio k p
    → port_edges names rows (take (k + 1) radio) ≡ port_edges names rows (take k radio) ++ map (port_edge names) (cond (joins_sound rows p) (p ∷ []) [])
more_ports names rows radio k p h is =
    ap (λ ps. map (port_edge names) (filter (joins_sound rows) ps)) (take_more radio k p h ∙ ap (λ (q : RadioPort). take k radio ++ q ∷ []) (sym is))
    ∙ ap (map (port_edge names)) (filter-append (joins_sound rows) (take k radio) (p ∷ []))
    ∙ map-append (port_edge names) (filter (joins_sound rows) (take k radio)) (filter (joins_sound rows) (p ∷ []))

pub port_joins : (names : List (List ℕ)) (rows : List NameRow) (radio : List RadioPort) (k : ℕ) (p : RadioPort) → k < length radio → p ≡ slice_index_or radio k p → (row_at rows p.bridge).broken ≡ false
    → port_edges names rows (take k radio) ++ port_edge names p ∷ [] ≡ port_edges names rows (take (k + 1) radio)
port_joins names rows radio k p h is sound =
    sym (more_ports names rows radio k p h is ∙ ap (λ b. port_edges names rows (take k radio) ++ map (port_edge names) (cond (not b) (p ∷ []) [])) sound)

pub port_stays : (names : List (List ℕ)) (rows : List NameRow) (radio : List RadioPort) (k : ℕ) (p : RadioPort) → k < length radio → p ≡ slice_index_or radio k p → (row_at rows p.bridge).broken ≡ true
    → port_edges names rows (take k radio) ≡ port_edges names rows (take (k + 1) radio)
port_stays names rows radio k p h is broken =
    sym (more_ports names rows radio k p h is ∙ ap (λ b. port_edges names rows (take k radio) ++ map (port_edge names) (cond (not b) (p ∷ []) [])) broken ∙ append-nil (port_edges names rows (take k radio)))

-- the row of a name stands at its place among the names of rows
row_step : (b : Bool) (r d : NameRow) (rs : List NameRow) (k : ℕ) (found : NameRow) → (b ≡ false → slice_index_or rs k d ≡ found) → slice_index_or (r ∷ rs) (cond (not b) (1 + k) 0) d ≡ cond b r found
row_step true r d rs k found h = refl
row_step false r d rs k found h = ap (λ n. slice_index_or (r ∷ rs) n d) (let e : 1 + k ≡ suc k = omega arith in e) ∙ h refl

pub row_there : (rows : List NameRow) (name : List ℕ) (d : NameRow) → Contains (map (λ r. r.name) rows) name → slice_index_or rows (id_of (map (λ r. r.name) rows) name) d ≡ row_at rows name
row_there [] name d m = absurd (none_in_nil name m)
row_there (r ∷ rs) name d m = row_step (bytes_eq r.name name) r d rs (id_of (map (λ (q : NameRow). q.name) rs) name) (row_at rs name) (λ e. row_there rs name d (later_member r.name name (map (λ (q : NameRow). q.name) rs) e m))

module _ (names : List (List ℕ)) (rows : List NameRow) (begin : BeginWithRows names rows) (name : List ℕ) (m : Contains (map (λ r. r.name) rows) name) where
  id_same : id_of names name ≡ id_of (map (λ r. r.name) rows) name
  id_same = ap (λ ns. id_of ns name) begin.front ∙ id_in_front (map (λ (r : NameRow). r.name) rows) begin.plain name m

  pub row_inside : id_of names name < length rows
  row_inside = omega (arith, id_same, id_within (map (λ (r : NameRow). r.name) rows) name m, length-map rows (λ (r : NameRow). r.name))

  pub row_of_id : (d : NameRow) → slice_index_or rows (id_of names name) d ≡ row_at rows name
  row_of_id d = ap (λ k. slice_index_or rows k d) id_same ∙ row_there rows name d m

-- a name that is not found has the id past the last one
pub no_id : (ns : List Named) (x : List ℕ) → place_among ns x ≡ None → id_of (name_list ns) x ≡ length ns
no_id [] x h = refl
no_id (n ∷ ns) x h =
    let r = lacks x n ns h in
    let other : bytes_eq n.name x ≡ false = false_of_not (bytes_eq n.name x) (λ yes. let no_yes = same_bytes x n.name (sym (bytes_same n.name x yes)) in let no = r.0 in cc (no_yes, no)) in
    ap (λ b. let m : ℕ = cond (not b) (1 + id_of (name_list ns) x) 0 in m) other ∙ (let one : 1 + id_of (name_list ns) x ≡ suc (id_of (name_list ns) x) = omega arith in one) ∙ ap suc (no_id ns x r.1)

-- one more item of a list, each made into another
pub mapped_more : {X Y : Type 0} (f : X → Y) (front : List Y) (xs : List X) (k : ℕ) (x : X) (y : Y) → k < length xs → x ≡ slice_index_or xs k x → y ≡ f x → (front ++ map f (take k xs)) ++ y ∷ [] ≡ front ++ map f (take (k + 1) xs)
mapped_more {X} {Y} f front xs k x y h is made =
    append_assoc front (map f (take k xs)) (y ∷ [])
    ∙ ap (λ (z : Y). front ++ (map f (take k xs) ++ z ∷ [])) made
    ∙ ap (λ (ys : List Y). front ++ ys) (sym (ap (map f) (take_more xs k x h ∙ ap (λ (z : X). take k xs ++ z ∷ []) (sym is)) ∙ map-append f (take k xs) (x ∷ [])))

-- one more port of a bridge
pub ports_more : (names : List (List ℕ)) (u : ℕ) (front : List Edge) (ports : List (List ℕ)) (k id : ℕ) (p : List ℕ) → k < length ports → p ≡ slice_index_or ports k p → id ≡ id_of names p
    → (front ++ map (counts.edge u) (map (id_of names) (take k ports))) ++ record { lower = id; upper = u } ∷ [] ≡ front ++ map (counts.edge u) (map (id_of names) (take (k + 1) ports))
ports_more names u front ports k id p h is at =
    append_assoc front (map (counts.edge u) (map (id_of names) (take k ports))) (record { lower = id; upper = u } ∷ [])
    ∙ ap (λ (n : ℕ). front ++ (map (counts.edge u) (map (id_of names) (take k ports)) ++ counts.edge u n ∷ [])) at
    ∙ ap (λ (es : List Edge). front ++ es) (sym (ap (λ ps. map (counts.edge u) (map (id_of names) ps)) (take_more ports k p h ∙ ap (λ (z : List ℕ). take k ports ++ z ∷ []) (sym is))
    ∙ ap (map (counts.edge u)) (map-append (id_of names) (take k ports) (p ∷ []))
    ∙ map-append (counts.edge u) (map (id_of names) (take k ports)) (id_of names p ∷ [])))

-- a name that a fault makes unavailable has no edges
broken_by : (names : List (List ℕ)) (kind : NameKind) → counts.lowers_of (by_id names (standing_of kind true [])) ≡ []
broken_by names Plain = refl
broken_by names (Bridge empty ports) = refl
broken_by names (Vlan lower id) = refl

pub broken_lowers : (names : List (List ℕ)) (u : ℕ) (front : List Edge) (row : NameRow) → row.broken ≡ true → front ≡ front ++ map (counts.edge u) (counts.lowers_of (own_standing names row))
broken_lowers names u front row is =
    sym (ap (λ b. front ++ map (counts.edge u) (counts.lowers_of (by_id names (standing_of row.kind b [])))) is ∙ ap (λ ls. front ++ map (counts.edge u) ls) (broken_by names row.kind) ∙ append-nil front)

pub sound_lowers : (names : List (List ℕ)) (u : ℕ) (front : List Edge) (row : NameRow) (kind : NameKind) → row.broken ≡ false → row.kind ≡ kind → front ++ map (counts.edge u) (counts.lowers_of (by_id names (standing_of kind false [])))
    ≡ front ++ map (counts.edge u) (counts.lowers_of (own_standing names row))
sound_lowers names u front row kind sound is =
    sym (ap (λ b. front ++ map (counts.edge u) (counts.lowers_of (by_id names (standing_of row.kind b [])))) sound ∙ ap (λ k. front ++ map (counts.edge u) (counts.lowers_of (by_id names (standing_of k false [])))) is)
