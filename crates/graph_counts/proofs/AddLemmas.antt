-- one more plain name is one more node
use Rattle.std.proofs.Common.{ℕ, ◌≡◌, List, [], ◌∷◌, ◌++◌, map, filter, Contains, None, refl, sym, ap, subst, ◌∙◌}
use Rattle.std.proofs.lemmas.List.{map-append}
use Rattle.kern_model.proofs.MemberLemmas.{here, there}
use Rattle.net_rows.specs.declared.rows.NameRow.{NameRow}
use Rattle.net_rules.specs.Rows.{row_at, rowless}
use Rattle.net_rules.specs.Standing.{Standing, Broken, Alone, Over, Ports, standing_of_row, lowers_of}
use Rattle.net_rules.proofs.ListLemmas.{within_filter}
use Rattle.use_counts.specs.declared.node.Edge.{Edge}
use Rattle.use_counts.specs.Held.{Member}
use Rattle.use_counts.specs.Network.{Network, loaded}
use Rattle.use_counts.specs.Rows as counts
use Rattle.graph_rules.specs.declared.ids.RadioPort.{RadioPort}
use Rattle.graph_rules.specs.State.{Known, name_list, names_in, place_among}
use Rattle.graph_rules.specs.After.{with_name}
use Rattle.graph_counts.specs.Counted.{id_of, by_id, own_standing, joins_sound, member_in, network_of, node_row, port_edge, port_edges, row_edges}
use Rattle.graph_counts.specs.Sound.{IsSound}
use Rattle.graph_counts.proofs.GrowLemmas.{absent, names_more}
use Rattle.graph_counts.proofs.IdLemmas.{id_in_front, no_row, own_row}
use Rattle.graph_counts.proofs.SoundLemmas.{bridge_named, in_front, rows_distinct}

-- ids of names that are there stay
ids_more : (names more xs : List (List ℕ)) → ((x : List ℕ) → Contains xs x → Contains names x) → map (id_of (names ++ more)) xs ≡ map (id_of names) xs
ids_more names more [] h = refl
ids_more names more (x ∷ xs) h =
    ap (λ (k : ℕ). k ∷ map (id_of (names ++ more)) xs) (id_in_front names more x (h x (here x xs)))
    ∙ ap (λ (ks : List ℕ). id_of names x ∷ ks) (ids_more names more xs (λ y m. h y (there x xs y m)))

stands_more : (names more : List (List ℕ)) (st : Standing) → ((x : List ℕ) → Contains (lowers_of st) x → Contains names x) → by_id (names ++ more) st ≡ by_id names st
stands_more names more Broken h = refl
stands_more names more (Alone sound) h = refl
stands_more names more (Over lower id) h = ap counts.Over (id_in_front names more lower (h lower (here lower [])))
stands_more names more (Ports empty ports) h = ap (counts.Ports empty) (ids_more names more ports h)

rows_more : (names more : List (List ℕ)) (rows : List NameRow) → ((r : NameRow) → Contains rows r → (x : List ℕ) → Contains (lowers_of (standing_of_row r [])) x → Contains names x) → map (own_standing (names ++ more)) rows
    ≡ map (own_standing names) rows
rows_more names more [] h = refl
rows_more names more (r ∷ rs) h =
    ap (λ (st : counts.Standing). st ∷ map (own_standing (names ++ more)) rs) (stands_more names more (standing_of_row r []) (h r (here r rs)))
    ∙ ap (λ (sts : List counts.Standing). own_standing names r ∷ sts) (rows_more names more rs (λ q m. h q (there r rs q m)))

port_more : (names more : List (List ℕ)) (p : RadioPort) → Contains names p.port → Contains names p.bridge → port_edge (names ++ more) p ≡ port_edge names p
port_more names more p port bridge =
    ap (λ (k : ℕ). let e : Edge = record { lower = k; upper = id_of (names ++ more) p.bridge } in e) (id_in_front names more p.port port)
    ∙ ap (λ (k : ℕ). let e : Edge = record { lower = id_of names p.port; upper = k } in e) (id_in_front names more p.bridge bridge)

ports_more : (names more : List (List ℕ)) (ps : List RadioPort) → ((p : RadioPort) → Contains ps p → Contains names p.port) → ((p : RadioPort) → Contains ps p → Contains names p.bridge) → map (port_edge (names ++ more)) ps
    ≡ map (port_edge names) ps
ports_more names more [] port bridge = refl
ports_more names more (p ∷ ps) port bridge =
    ap (λ (e : Edge). e ∷ map (port_edge (names ++ more)) ps) (port_more names more p (port p (here p ps)) (bridge p (here p ps)))
    ∙ ap (λ (es : List Edge). port_edge names p ∷ es) (ports_more names more ps (λ q m. port q (there p ps q m)) (λ q m. bridge q (there p ps q m)))

module _ (s : Known) (h : IsSound s) (x : List ℕ) (new : place_among s.names x ≡ None) where
  own_known : (r : NameRow) → Contains s.rows r → (y : List ℕ) → Contains (lowers_of (standing_of_row r [])) y → Contains (names_in s) y
  own_known r m y own =
      in_front s h y (h.standing.named r.name y (subst (λ (q : NameRow). Contains (lowers_of (standing_of_row q [])) y) (sym (own_row s.rows r (rows_distinct s h) m)) own))

  fixed_added : row_edges (name_list (with_name s.names x)) s.rows ≡ row_edges (names_in s) s.rows
  fixed_added =
      ap (λ (ns : List (List ℕ)). row_edges ns s.rows) (names_more s.names x)
      ∙ ap (counts.edges_from 0) (rows_more (names_in s) (x ∷ []) s.rows own_known)

  ports_added : port_edges (name_list (with_name s.names x)) s.rows s.radio ≡ port_edges (names_in s) s.rows s.radio
  ports_added =
      ap (λ (ns : List (List ℕ)). port_edges ns s.rows s.radio) (names_more s.names x)
      ∙ ports_more (names_in s) (x ∷ []) (filter (joins_sound s.rows) s.radio)
      (λ p m. h.ports.known p (within_filter (joins_sound s.rows) s.radio p m))
      (λ p m. in_front s h p.bridge (bridge_named s.rows p.bridge (h.ports.bridges p (within_filter (joins_sound s.rows) s.radio p m))))

  row_less : row_at s.rows x ≡ rowless x
  row_less = no_row s.rows x (λ m. absent s.names x new (in_front s h x m))

  members_added : map (member_in s.rows) s.names ++ loaded (node_row (rowless x)) ∷ [] ≡ map (member_in s.rows) (with_name s.names x)
  members_added =
      ap (λ (r : NameRow). map (member_in s.rows) s.names ++ loaded (node_row r) ∷ []) (sym row_less)
      ∙ sym (map-append (member_in s.rows) s.names (record { name = x; device = None; claims = 0 } ∷ []))

  -- the network with one more node is that of one more name
  pub network_added : (was net : Network) → was ≡ network_of s → (net ≡ (let m : Network = record was { members = was.members ++ loaded (node_row (rowless x)) ∷ [] } in m)) → net ≡ network_of (record s { names = with_name s.names x })
  network_added was net is more =
      more
      ∙ ap (λ (n : Network). let m : Network = record n { members = n.members ++ loaded (node_row (rowless x)) ∷ [] } in m) is
      ∙ ap (λ (ms : List Member). let m : Network = record { members = ms; fixed = row_edges (names_in s) s.rows; ports = port_edges (names_in s) s.rows s.radio } in m) members_added
      ∙ ap (λ (es : List Edge). let m : Network = record { members = map (member_in s.rows) (with_name s.names x); fixed = es; ports = port_edges (names_in s) s.rows s.radio } in m) (sym fixed_added)
      ∙ ap (λ (es : List Edge). let m : Network = record { members = map (member_in s.rows) (with_name s.names x); fixed = row_edges (name_list (with_name s.names x)) s.rows; ports = es } in m) (sym ports_added)
