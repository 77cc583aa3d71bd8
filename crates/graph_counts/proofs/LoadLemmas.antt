-- what is loaded is sound, and its counts can be loaded
use Rattle.std.proofs.Common.{arith, ⊎_elim, ℕ, zero, suc, ◌+◌, ◌^◌, ◌<◌, ◌≤◌, ◌≡◌, Bool, true, false, cond, List, [], ◌∷◌, ◌++◌, map, length, All, Contains, Option, Some, bytes_eq, slice_index_or, refl, sym, ap, subst, ◌∙◌}
use Rattle.std.specs.Option.{option_map_or}
use Rattle.std.proofs.lemmas.List.{map-append, length-map}
use Rattle.std.proofs.lemmas.List.Elements.{All-head, All-tail, All-cons, All-nil, All-weaker}
use Rattle.kern_model.proofs.MemberLemmas.{here, there}
use Rattle.plane_words.specs.Distinct.{AreDistinct}
use Rattle.net_rows.specs.declared.rows.Conf.{Conf}
use Rattle.net_rows.specs.declared.rows.NameRow.{NameRow}
use Rattle.net_rows.specs.declared.rows.VlanRow.{VlanRow}
use Rattle.net_rules.specs.Rows.{row_at, rowless, names_of}
use Rattle.use_counts.specs.declared.node.Edge.{Edge}
use Rattle.use_counts.specs.declared.node.Row.{Row}
use Rattle.use_counts.specs.Held.{Member}
use Rattle.use_counts.specs.Network.{Network, Rises, loaded, member_at, network_from, row_of}
use Rattle.use_counts.specs.Order as order
use Rattle.use_counts.proofs.NetworkLemmas.{rises_as}
use Rattle.graph_rules.specs.declared.ids.RadioPort.{RadioPort}
use Rattle.graph_rules.specs.State.{Named, Known, named_in, name_list, names_in, claims_among}
use Rattle.graph_rules.specs.After.{kept_name, kept_names, known_of}
use Rattle.graph_rules.specs.Conditions.{ArePorts, CanLoad}
use Rattle.graph_counts.specs.Counted.{node_row, member_in, row_edges, port_edges, network_of}
use Rattle.graph_counts.specs.Sound.{BeginWithRows, IsSound}
use Rattle.graph_counts.specs.Told.{HasFewClaims, told_members}
use Rattle.graph_counts.proofs.IdLemmas.{apart, no_row, own_row, distinct_front}
use Rattle.graph_counts.proofs.LevelLemmas.{fixed_rise, ports_rise, levels_fit}
use Rattle.graph_counts.proofs.TellLemmas.{loaded_told}

pub names_kept : (old : List Named) (names : List (List ℕ)) → name_list (kept_names old names) ≡ names
names_kept old [] = refl
names_kept old (n ∷ ns) = ap (λ (xs : List (List ℕ)). n ∷ xs) (names_kept old ns)

-- what can be loaded is sound
pub sound_loaded : (old : List Named) (conf : Conf) (plain : List (List ℕ)) (radio : List RadioPort) → CanLoad conf plain radio → IsSound (known_of old conf plain radio)
sound_loaded old conf plain radio h =
    let same = names_kept old (names_of conf ++ plain) in
    let levels = h.sound.levels in
    let standing = h.sound.names in
    record {
      levels = record { plain = levels.plain; bridge = levels.bridge; least = levels.least; most = levels.most; rises = levels.rises };
      standing =
          record {
            named = standing.named;
            no_bridge = standing.no_bridge;
            one_owner = standing.one_owner;
            least_id = standing.least_id;
            most_id = standing.most_id;
            one_vlan = standing.one_vlan;
          };
      names = record { once = subst AreDistinct (sym same) h.once; plain = plain; front = same };
      ports_once = h.ports_once;
      ports = subst (λ names. ArePorts conf.names names radio) (sym same) h.ports;
    }

few_step : (b : Bool) (o : Option Named) (m : Named) → m.claims ≤ 1024 → option_map_or (λ (x : Named). x.claims) o 0 ≤ 1024 → option_map_or (λ (x : Named). x.claims) (cond b (Some m) o) 0 ≤ 1024
few_step true o m first later = first
few_step false o m first later = later

few_found : (old : List Named) (name : List ℕ) → HasFewClaims old → claims_among old name ≤ 1024
few_found [] name h = omega arith
few_found (n ∷ ns) name h = few_step (bytes_eq n.name name) (named_in ns name) n (All-head (λ (x : Named). x.claims ≤ 1024) n ns h) (few_found ns name (All-tail (λ (x : Named). x.claims ≤ 1024) n ns h))

pub few_kept : (old : List Named) (names : List (List ℕ)) → HasFewClaims old → HasFewClaims (kept_names old names)
few_kept old [] h = All-nil (λ (x : Named). x.claims ≤ 1024)
few_kept old (n ∷ ns) h = All-cons (λ (x : Named). x.claims ≤ 1024) (kept_name old n) (kept_names old ns) (few_found old n h) (few_kept old ns h)

-- the nodes of rows and of further names, name by name
by_names : (rows : List NameRow) (ns : List Named) → map (λ (n : Named). node_row (row_at rows n.name)) ns ≡ map (λ (name : List ℕ). node_row (row_at rows name)) (name_list ns)
by_names rows [] = refl
by_names rows (n ∷ ns) = ap (λ (xs : List Row). node_row (row_at rows n.name) ∷ xs) (by_names rows ns)

own_nodes : (rows rs : List NameRow) → ((r : NameRow) → Contains rs r → row_at rows r.name ≡ r) → map (λ (name : List ℕ). node_row (row_at rows name)) (map (λ r. r.name) rs) ≡ map node_row rs
own_nodes rows [] h = refl
own_nodes rows (r ∷ rs) h =
    ap (λ (q : NameRow). node_row q ∷ map (λ (name : List ℕ). node_row (row_at rows name)) (map (λ (x : NameRow). x.name) rs)) (h r (here r rs))
    ∙ ap (λ (xs : List Row). node_row r ∷ xs) (own_nodes rows rs (λ q m. h q (there r rs q m)))

rowless_nodes : (rows : List NameRow) (plain : List (List ℕ)) → ((n : List ℕ) → Contains plain n → row_at rows n ≡ rowless n) → map (λ (name : List ℕ). node_row (row_at rows name)) plain ≡ map (λ name. node_row (rowless name)) plain
rowless_nodes rows [] h = refl
rowless_nodes rows (n ∷ ns) h =
    ap (λ (q : NameRow). node_row q ∷ map (λ (name : List ℕ). node_row (row_at rows name)) ns) (h n (here n ns))
    ∙ ap (λ (xs : List Row). node_row (rowless n) ∷ xs) (rowless_nodes rows ns (λ x m. h x (there n ns x m)))

module _ (s : Known) (h : IsSound s) (plain : List (List ℕ)) (front : names_in s ≡ map (λ r. r.name) s.rows ++ plain) where
  once : AreDistinct (map (λ (r : NameRow). r.name) s.rows ++ plain)
  once = subst AreDistinct front h.names.once

  pub nodes_are : map node_row s.rows ++ map (λ name. node_row (rowless name)) plain ≡ map (λ (n : Named). node_row (row_at s.rows n.name)) s.names
  nodes_are =
      let at = λ (name : List ℕ). node_row (row_at s.rows name) in
      let rows_once = distinct_front (map (λ (r : NameRow). r.name) s.rows) plain once in
      sym (by_names s.rows s.names
      ∙ ap (map at) front
      ∙ map-append at (map (λ (r : NameRow). r.name) s.rows) plain
      ∙ ap (λ (xs : List Row). xs ++ map at plain) (own_nodes s.rows s.rows (λ r m. own_row s.rows r rows_once m))
      ∙ ap (λ (xs : List Row). map node_row s.rows ++ xs) (rowless_nodes s.rows plain (λ n m. no_row s.rows n (λ in_rows. apart (map (λ (r : NameRow). r.name) s.rows) plain n once in_rows m))))

same_rows : (rows : List NameRow) (ns : List Named) (k : ℕ) → row_of (member_at (map loaded (map (λ (n : Named). node_row (row_at rows n.name)) ns)) k) ≡ row_of (member_at (map (member_in rows) ns) k)
same_rows rows [] k = refl
same_rows rows (n ∷ ns) zero = refl
same_rows rows (n ∷ ns) (suc k) = same_rows rows ns k

same_size : (rows : List NameRow) (ns : List Named) → length (map loaded (map (λ (n : Named). node_row (row_at rows n.name)) ns)) ≡ length (map (member_in rows) ns)
same_size rows ns = length-map (map (λ (n : Named). node_row (row_at rows n.name)) ns) loaded ∙ length-map ns (λ (n : Named). node_row (row_at rows n.name)) ∙ sym (length-map ns (member_in rows))

-- the counts of sound names can be loaded, where there is room for the edges
pub can_load : (s : Known) → IsSound s → (nodes : List Row) (fixed ports : List Edge) → nodes ≡ map (λ (n : Named). node_row (row_at s.rows n.name)) s.names → fixed ≡ (network_of s).fixed → ports ≡ (network_of s).ports → length fixed
    + length ports < 2 ^ 20 → order.CanLoad nodes fixed ports
can_load s h nodes fixed ports are is_fixed are_ports few =
    let made = map loaded (map (λ (n : Named). node_row (row_at s.rows n.name)) s.names) in
    let rise = rises_as (network_of s).members made (same_size s.rows s.names) (same_rows s.rows s.names) in
    let low = All-weaker (Rises (network_of s).members) (Rises made) rise (network_of s).fixed (fixed_rise s h) in
    let high = All-weaker (Rises (network_of s).members) (Rises made) rise (network_of s).ports (ports_rise s h) in
    record {
      levels = subst (All order.HasLevel) (sym are) (levels_fit s h);
      fixed_rise = subst (λ (rs : List Row). All (Rises (map loaded rs)) fixed) (sym are) (subst (All (Rises made)) (sym is_fixed) low);
      ports_rise = subst (λ (rs : List Row). All (Rises (map loaded rs)) ports) (sym are) (subst (All (Rises made)) (sym are_ports) high);
      few = few;
    }

-- rows of VLANs make no difference
pub other_vlans : (s : Known) (vlans : List VlanRow) → IsSound s → IsSound (record s { vlans = vlans })
other_vlans s vlans h = record { levels = h.levels; standing = h.standing; names = h.names; ports_once = h.ports_once; ports = h.ports }

-- names that were kept, beside rows that are those of a configuration
pub sound_parts : (old ns : List Named) (conf : Conf) (plain : List (List ℕ)) (radio : List RadioPort) (rows : List NameRow) (vlans : List VlanRow) → CanLoad conf plain radio → rows ≡ conf.names → ns
    ≡ kept_names old (map (λ r. r.name) rows ++ plain)
    → IsSound (record { rows = rows; vlans = vlans; names = ns; radio = radio })
sound_parts old ns conf plain radio rows vlans h is_rows kept =
    let now : ns ≡ kept_names old (names_of conf ++ plain) = kept ∙ ap (λ (rs : List NameRow). kept_names old (map (λ (r : NameRow). r.name) rs ++ plain)) is_rows in
    subst (λ (rs : List NameRow). IsSound (record { rows = rs; vlans = vlans; names = ns; radio = radio })) (sym is_rows)
    (subst (λ (ms : List Named). IsSound (record { rows = conf.names; vlans = vlans; names = ms; radio = radio })) (sym now) (other_vlans (known_of old conf plain radio) vlans (sound_loaded old conf plain radio h)))

-- the loaded counts, told of the names, have the network of what is known
pub told_network : (s : Known) (nodes : List Row) (fixed ports : List Edge) (start now : Network) → nodes ≡ map (λ (n : Named). node_row (row_at s.rows n.name)) s.names → fixed ≡ (network_of s).fixed → ports ≡ (network_of s).ports → start
    ≡ network_from nodes fixed ports → now ≡ record start { members = told_members start.members s.names } → now ≡ network_of s
told_network s nodes fixed ports start now are is_fixed are_ports begun told =
    told
    ∙ ap (λ (n : Network). let m : Network = record n { members = told_members n.members s.names } in m) begun
    ∙ ap (λ (rs : List Row). let m : Network = record { members = told_members (map loaded rs) s.names; fixed = fixed; ports = ports } in m) are
    ∙ ap (λ (ps : List Member). let m : Network = record { members = ps; fixed = fixed; ports = ports } in m) (loaded_told s.rows s.names)
    ∙ ap (λ (es : List Edge). let m : Network = record { members = map (member_in s.rows) s.names; fixed = es; ports = ports } in m) is_fixed
    ∙ ap (λ (es : List Edge). let m : Network = record { members = map (member_in s.rows) s.names; fixed = (network_of s).fixed; ports = es } in m) are_ports

pub loaded_size : (s : Known) (nodes : List Row) (fixed ports : List Edge) (start : Network) → nodes ≡ map (λ (n : Named). node_row (row_at s.rows n.name)) s.names → start ≡ network_from nodes fixed ports → length start.members
    ≡ length s.names
loaded_size s nodes fixed ports start are begun =
    ap (λ (n : Network). length n.members) begun ∙ length-map nodes loaded ∙ ap length are ∙ length-map s.names (λ (n : Named). node_row (row_at s.rows n.name))
