-- What can be loaded brings few edges.
use Rattle.std.proofs.Common.{arith, suc, ◌≡◌, ◌+◌, ◌*◌, ◌^◌, ◌≤◌, ◌<◌, ℕ, List, [], ◌∷◌, ◌++◌, map, length, length-append, Bool, true, false, Contains, Some, None, refl, ap, sym, subst, ◌∙◌}
use Rattle.std.specs.Prelude.{filter, bytes_eq}
use Rattle.std.specs.List.{flat_map}
use Rattle.std.proofs.lemmas.List.{length-map}
use Rattle.std.proofs.lemmas.List.Elements.{Contains-append_left}
use Rattle.plane_words.specs.Distinct.{AreDistinct}
use Rattle.kern_model.proofs.MemberLemmas.{here, there, none_in_nil, member_of_map}
use Rattle.kern_model.proofs.TestLemmas.{bytes_same}
use Rattle.kern_calls.proofs.FilterLemmas.{from_filter}
use Rattle.net_rows.specs.declared.rows.Conf.{Conf}
use Rattle.net_rows.specs.declared.rows.NameRow.{NameRow}
use Rattle.net_rows.specs.declared.rows.NameKind.{NameKind}
use Rattle.net_rows.specs.declared.rows.NameKind.TheVariants.{Plain, Bridge, Vlan}
use Rattle.net_rules.specs.Rows.{row_at, names_of, ports_of_kind}
use Rattle.net_rules.specs.RadioPorts.{RadioPort}
use Rattle.net_rules.specs.Standing.{Standing, Broken, Alone, Over, Ports, standing_of, standing_of_row, lowers_of}
use Rattle.net_rules.specs.Sound.{RowOwns, RowStands}
use Rattle.net_rules.proofs.ListLemmas.{IsAmong, from_join, within_filter}
use Rattle.graph_rules.specs.declared.ids.RadioPort.{RadioPort as GivenPort}
use Rattle.graph_rules.specs.State.{Named, Known, names_in}
use Rattle.graph_rules.specs.Answers.{port_of, given_ports, standing_in}
use Rattle.graph_rules.specs.After.{kept_name, known_of}
use Rattle.graph_rules.specs.Conditions.{CanLoad, most_names}
use Rattle.graph_rules.specs.Edges.{Edge, edges_of, edges_in}
use Rattle.use_counts.specs.Rows as counts
use Rattle.graph_counts.specs.Counted.{id_of, by_id, own_standing, joins_sound, port_edge, network_of}
use Rattle.graph_counts.specs.Sound.{conf_of, IsSound}
use Rattle.graph_counts.proofs.LoadLemmas.{sound_loaded}
use Rattle.graph_counts.proofs.IdLemmas.{own_row, distinct_front}
use Rattle.graph_laws.proofs.ListLemmas.{distinct_join, keys_kept, one_of_key, kept_length, no_longer}

-- the own ports of a bridge that no fault makes unavailable
abbrev own_ports : NameKind → Bool → List (List ℕ)
own_ports kind true = []
own_ports kind false = ports_of_kind kind

abbrev ports_of_row : NameRow → List (List ℕ)
ports_of_row row = own_ports row.kind row.broken

-- a name stands on one lower, or on its own ports, and on ports of radios
lower_count : (kind : NameKind) (broken : Bool) (more : List (List ℕ)) → length (lowers_of (standing_of kind broken more)) ≤ suc (length (own_ports kind broken)) + length more
lower_count Plain true more = omega arith
lower_count Plain false more = omega arith
lower_count (Bridge empty ports) true more = omega arith
lower_count (Bridge empty ports) false more = let parts : length (ports ++ more) ≡ length ports + length more = length-append ports more in omega (arith, parts)
lower_count (Vlan lower id) true more = omega arith
lower_count (Vlan None id) false more = omega arith
lower_count (Vlan (Some lower) id) false more = omega arith

owned : (kind : NameKind) (broken : Bool) (port : List ℕ) → Contains (own_ports kind broken) port → Contains (ports_of_kind kind) port
owned kind true port h = absurd (none_in_nil port h)
owned kind false port h = h

stood_on : (kind : NameKind) (broken : Bool) (port : List ℕ) → Contains (own_ports kind broken) port → Contains (lowers_of (standing_of kind broken [])) port
stood_on kind true port h = absurd (none_in_nil port h)
stood_on Plain false port h = h
stood_on (Bridge empty ports) false port h = Contains-append_left ports [] port h
stood_on (Vlan lower id) false port h = absurd (none_in_nil port h)

own_once : (kind : NameKind) (broken : Bool) → AreDistinct (ports_of_kind kind) → AreDistinct (own_ports kind broken)
own_once kind true once = tt
own_once kind false once = once

-- the edges at the names of rows: a lower for each, the own ports, and the ports of radios
edge_count : (s : Known) (rows : List NameRow) → ((row : NameRow) → Contains rows row → row_at s.rows row.name ≡ row)
    → length (flat_map (edges_of s) (map (λ (row : NameRow). row.name) rows)) ≤ (length rows + length (flat_map ports_of_row rows)) + length (flat_map (given_ports (map port_of s.radio)) (map (λ (row : NameRow). row.name) rows))
edge_count s [] own = omega arith
edge_count s (row ∷ rows) own =
    let names : List (List ℕ) = map (λ (r : NameRow). r.name) rows in
    let given : List ℕ → List (List ℕ) = given_ports (map port_of s.radio) in
    let lowers : List (List ℕ) = lowers_of (standing_in s row.name) in
    let is : length lowers ≡ length (lowers_of (standing_of_row row (given row.name))) = ap (λ (r : NameRow). length (lowers_of (standing_of_row r (given row.name)))) (own row (here row rows)) in
    let most : length (lowers_of (standing_of_row row (given row.name))) ≤ suc (length (ports_of_row row)) + length (given row.name) = lower_count row.kind row.broken (given row.name) in
    let edges : length (edges_of s row.name) ≡ length lowers = length-map lowers (λ (lower : List ℕ). let e : Edge = record { upper = row.name; lower = lower } in e) in
    let rest : length (flat_map (edges_of s) names) ≤ (length rows + length (flat_map ports_of_row rows)) + length (flat_map given names) = edge_count s rows (λ r h. own r (there row rows r h)) in
    let a : length (edges_of s row.name ++ flat_map (edges_of s) names) ≡ length (edges_of s row.name) + length (flat_map (edges_of s) names) = length-append (edges_of s row.name) (flat_map (edges_of s) names) in
    let b : length (ports_of_row row ++ flat_map ports_of_row rows) ≡ length (ports_of_row row) + length (flat_map ports_of_row rows) = length-append (ports_of_row row) (flat_map ports_of_row rows) in
    let c : length (given row.name ++ flat_map given names) ≡ length (given row.name) + length (flat_map given names) = length-append (given row.name) (flat_map given names) in
    omega (arith, is, most, edges, rest, a, b, c)

same_ports : (radio : List GivenPort) → map (λ (j : RadioPort). j.port) (map port_of radio) ≡ map (λ (p : GivenPort). p.port) radio
same_ports [] = refl
same_ports (p ∷ ps) = ap (λ (z : List (List ℕ)). p.port ∷ z) (same_ports ps)

-- the edges of the counts: those of the rows, and those to the ports of radios
counted_lowers : (names : List (List ℕ)) (st : Standing) → length (counts.lowers_of (by_id names st)) ≡ length (lowers_of st)
counted_lowers names Broken = refl
counted_lowers names (Alone sound) = refl
counted_lowers names (Over lower id) = refl
counted_lowers names (Ports empty ports) = length-map ports (id_of names)

fixed_count : (names : List (List ℕ)) (number : ℕ) (rows : List NameRow) → length (counts.edges_from number (map (own_standing names) rows)) ≤ length rows + length (flat_map ports_of_row rows)
fixed_count names number [] = omega arith
fixed_count names number (row ∷ rows) =
    let lowers : List ℕ = counts.lowers_of (own_standing names row) in
    let behind = counts.edges_from (number + 1) (map (own_standing names) rows) in
    let is : length lowers ≡ length (lowers_of (standing_of_row row [])) = counted_lowers names (standing_of_row row []) in
    let most : length (lowers_of (standing_of_row row [])) ≤ suc (length (ports_of_row row)) + 0 = lower_count row.kind row.broken [] in
    let edges : length (map (counts.edge number) lowers) ≡ length lowers = length-map lowers (counts.edge number) in
    let rest : length behind ≤ length rows + length (flat_map ports_of_row rows) = fixed_count names (number + 1) rows in
    let a : length (map (counts.edge number) lowers ++ behind) ≡ length (map (counts.edge number) lowers) + length behind = length-append (map (counts.edge number) lowers) behind in
    let b : length (ports_of_row row ++ flat_map ports_of_row rows) ≡ length (ports_of_row row) + length (flat_map ports_of_row rows) = length-append (ports_of_row row) (flat_map ports_of_row rows) in
    omega (arith, is, most, edges, rest, a, b)

module _ (s : Known) (sound : IsSound s) where
  abbrev conf : Conf
  conf = conf_of s.rows

  names_once : AreDistinct (names_of conf)
  names_once = distinct_front (names_of conf) sound.names.plain (subst AreDistinct sound.names.front sound.names.once)

  pub rows_named : (name : List ℕ) → Contains (names_of conf) name → Contains (names_in s) name
  rows_named name h = subst (λ (z : List (List ℕ)). Contains z name) (sym sound.names.front) (Contains-append_left (names_of conf) sound.names.plain name h)

  -- own ports stand once, and have rows
  owns : (row : NameRow) (port : List ℕ) → Contains s.rows row → Contains (ports_of_row row) port → RowOwns conf row.name port
  owns row port member h = subst (λ (r : NameRow). Contains (ports_of_kind r.kind) port) (sym (own_row s.rows row names_once member)) (owned row.kind row.broken port h)

  own_ports_once : AreDistinct (flat_map ports_of_row s.rows)
  own_ports_once = distinct_join (λ (row : NameRow). row.name) ports_of_row s.rows names_once
      (λ row member. own_once row.kind row.broken (sound.ports_once row member))
      (λ row other port member another h k. sound.standing.one_owner row.name other.name port (owns row port member h) (owns other port another k))

  own_named : (port : List ℕ) → Contains (flat_map ports_of_row s.rows) port → Contains (names_of conf) port
  own_named port h =
      let from : IsAmong ports_of_row s.rows port = from_join ports_of_row s.rows port h in
      let row : NameRow = from.source in
      let stands : RowStands conf row.name port = subst (λ (r : NameRow). Contains (lowers_of (standing_of_row r [])) port) (sym (own_row s.rows row names_once from.member)) (stood_on row.kind row.broken port from.among) in
      sound.standing.named row.name port stands

  few_own : length (flat_map ports_of_row s.rows) ≤ length s.rows
  few_own =
      let own : length (flat_map ports_of_row s.rows) ≤ length (names_of conf) = no_longer (flat_map ports_of_row s.rows) (names_of conf) own_ports_once own_named in
      let rows : length (names_of conf) ≡ length s.rows = length-map s.rows (λ (row : NameRow). row.name) in
      omega (arith, own, rows)

  -- ports of radios stand once, and are known
  abbrev joins : List RadioPort
  joins = map port_of s.radio

  joins_once : AreDistinct (map (λ (j : RadioPort). j.port) joins)
  joins_once = subst AreDistinct (sym (same_ports s.radio)) sound.ports.once

  abbrev is_at : List ℕ → RadioPort → Bool
  is_at bridge j = bytes_eq j.bridge bridge

  record IsGiven (bridge port : List ℕ) : Type 0 where
    given : RadioPort
    member : Contains joins given
    at : given.bridge ≡ bridge
    is : given.port ≡ port

  is_given : (bridge port : List ℕ) → Contains (given_ports joins bridge) port → IsGiven bridge port
  is_given bridge port h =
      let from = member_of_map (λ (j : RadioPort). j.port) (filter (is_at bridge) joins) port h in
      record {
        given = from.source;
        member = within_filter (is_at bridge) joins from.source from.member;
        at = bytes_same from.source.bridge bridge (from_filter (is_at bridge) joins from.source from.member);
        is = from.same;
      }

  one_bridge : (bridge other port : List ℕ) → Contains (given_ports joins bridge) port → Contains (given_ports joins other) port → bridge ≡ other
  one_bridge bridge other port h k =
      let a : IsGiven bridge port = is_given bridge port h in
      let b : IsGiven other port = is_given other port k in
      let same : a.given ≡ b.given = one_of_key (λ (j : RadioPort). j.port) joins a.given b.given joins_once a.member b.member (a.is ∙ sym b.is) in
      sym a.at ∙ ap (λ (j : RadioPort). j.bridge) same ∙ b.at

  names_as_keys : (xs : List (List ℕ)) → map (λ (x : List ℕ). x) xs ≡ xs
  names_as_keys [] = refl
  names_as_keys (x ∷ xs) = ap (λ (z : List (List ℕ)). x ∷ z) (names_as_keys xs)

  given_once : AreDistinct (flat_map (given_ports joins) (names_of conf))
  given_once = distinct_join (λ (name : List ℕ). name) (given_ports joins) (names_of conf) (subst AreDistinct (sym (names_as_keys (names_of conf))) names_once)
      (λ bridge member. keys_kept (λ (j : RadioPort). j.port) (is_at bridge) joins joins_once)
      (λ bridge other port member another h k. one_bridge bridge other port h k)

  given_known : (port : List ℕ) → Contains (flat_map (given_ports joins) (names_of conf)) port → Contains (names_in s) port
  given_known port h =
      let from : IsAmong (given_ports joins) (names_of conf) port = from_join (given_ports joins) (names_of conf) port h in
      let is : IsGiven from.source port = is_given from.source port from.among in
      let of = member_of_map port_of s.radio is.given is.member in
      subst (Contains (names_in s)) (ap (λ (j : RadioPort). j.port) of.same ∙ is.is) (sound.ports.known of.source of.member)

  all_names : length (names_in s) ≡ length s.names
  all_names = length-map s.names (λ (n : Named). n.name)

  pub few_edges : length (edges_in s) ≤ 2 * length s.rows + length s.names
  few_edges =
      let all : length (edges_in s) ≤ (length s.rows + length (flat_map ports_of_row s.rows)) + length (flat_map (given_ports joins) (names_of conf)) = edge_count s s.rows (λ row h. own_row s.rows row names_once h) in
      let own = few_own in
      let given : length (flat_map (given_ports joins) (names_of conf)) ≤ length (names_in s) = no_longer (flat_map (given_ports joins) (names_of conf)) (names_in s) given_once given_known in
      let names = all_names in
      omega (arith, all, own, given, names)

  radio_known : (port : List ℕ) → Contains (map (λ (p : GivenPort). p.port) s.radio) port → Contains (names_in s) port
  radio_known port h =
      let from = member_of_map (λ (p : GivenPort). p.port) s.radio port h in
      subst (Contains (names_in s)) from.same (sound.ports.known from.source from.member)

  pub few_counted : length (network_of s).fixed + length (network_of s).ports ≤ 2 * length s.rows + length s.names
  few_counted =
      let sounds : List GivenPort = filter (joins_sound s.rows) s.radio in
      let fixed : length (network_of s).fixed ≤ length s.rows + length (flat_map ports_of_row s.rows) = fixed_count (names_in s) 0 s.rows in
      let own = few_own in
      let mapped : length (network_of s).ports ≡ length sounds = length-map sounds (port_edge (names_in s)) in
      let kept : length sounds ≤ length s.radio = kept_length (joins_sound s.rows) s.radio in
      let all : length (map (λ (p : GivenPort). p.port) s.radio) ≡ length s.radio = length-map s.radio (λ (p : GivenPort). p.port) in
      let known : length (map (λ (p : GivenPort). p.port) s.radio) ≤ length (names_in s) = no_longer (map (λ (p : GivenPort). p.port) s.radio) (names_in s) sound.ports.once radio_known in
      let names = all_names in
      omega (arith, fixed, own, mapped, kept, all, known, names)

-- what is loaded
module _ (old : List Named) (rows : Conf) (plain : List (List ℕ)) (radio : List GivenPort) (can : CanLoad rows plain radio) (few : length plain < 2 ^ 19) where
  abbrev s : Known
  s = known_of old rows plain radio

  loaded_names : length s.names ≤ most_names + length plain
  loaded_names =
      let kept : length s.names ≡ length (names_of rows ++ plain) = length-map (names_of rows ++ plain) (kept_name old) in
      let both : length (names_of rows ++ plain) ≡ length (names_of rows) + length plain = length-append (names_of rows) plain in
      let named : length (names_of rows) ≡ length rows.names = length-map rows.names (λ (row : NameRow). row.name) in
      let most : length rows.names ≤ most_names = can.few in
      omega (arith, kept, both, named, most)

  pub loaded_edges : length (edges_in s) < 2 ^ 20
  loaded_edges =
      let most = few_edges s (sound_loaded old rows plain radio can) in
      let names = loaded_names in
      let fit : length rows.names ≤ most_names = can.few in
      omega (arith, most, names, fit, few)

  pub loaded_counts : length (network_of s).fixed + length (network_of s).ports < 2 ^ 20
  loaded_counts =
      let most = few_counted s (sound_loaded old rows plain radio can) in
      let names = loaded_names in
      let fit : length rows.names ≤ most_names = can.few in
      omega (arith, most, names, fit, few)
