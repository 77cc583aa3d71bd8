-- the network of what is known answers by ids, and follows devices and claims
use Rattle.std.proofs.Common.{arith, ℕ, zero, suc, ◌<◌, ◌≡◌, Bool, false, is_some, List, [], ◌∷◌, map, length, Option, Some, None, slice_set, refl, sym, ap, subst, ◌∙◌}
use Rattle.std.specs.Option.{option_map, option_map_or}
use Rattle.std.proofs.lemmas.List.{length-map}
use Rattle.kern_model.specs.declared.object.Device.{Device}
use Rattle.net_rows.specs.declared.rows.NameRow.{NameRow}
use Rattle.use_counts.specs.Held.{Member}
use Rattle.use_counts.specs.Network.{Network, member_at}
use Rattle.use_counts.specs.Network as counts
use Rattle.use_counts.specs.Rows.{joined}
use Rattle.use_counts.proofs.JoinLemmas.{edges_joined}
use Rattle.use_counts.proofs.RowLemmas.{available_row, link_row, used_row, users_row}
use Rattle.graph_rules.specs.State.{Named, Known, name_list, names_in}
use Rattle.graph_rules.specs.Answers.{available_in, link_in, used_in, users_in}
use Rattle.graph_rules.specs.After.{name_at, with_device, with_claims}
use Rattle.graph_counts.specs.Counted.{name_of, member_in, row_edges, port_edges, network_of}
use Rattle.graph_rules.specs.Conditions.{ArePorts}
use Rattle.graph_counts.specs.Sound.{BeginWithRows, IsSound}
use Rattle.graph_counts.proofs.CountLemmas.{available_alike, link_alike, used_alike, users_alike}
use Rattle.graph_counts.proofs.SoundLemmas.{has_ids}
use Rattle.graph_counts.proofs.TieLemmas.{is_counted, member_there}

module _ (s : Known) (h : IsSound s) (id : ℕ) (within : id < length s.names) where
  inside : id < length (names_in s)
  inside = omega (arith, within, length-map s.names (λ (n : Named). n.name))

  pub available_at : counts.available (network_of s) id ≡ available_in s (name_of s id)
  available_at =
      let c = is_counted s h in
      available_row (joined (network_of s).ports c.rows) (network_of s) (edges_joined c.rows (network_of s) c.are) id
      ∙ available_alike s (network_of s) (has_ids s h) c id inside

  pub link_at : counts.link (network_of s) id ≡ link_in s (name_of s id)
  link_at =
      let c = is_counted s h in
      link_row (joined (network_of s).ports c.rows) (network_of s) (edges_joined c.rows (network_of s) c.are) id
      ∙ link_alike s (network_of s) (has_ids s h) c id inside

  pub used_at : counts.used (network_of s) id ≡ used_in s (name_of s id)
  used_at =
      let c = is_counted s h in
      used_row (joined (network_of s).ports c.rows) (network_of s) (edges_joined c.rows (network_of s) c.are) id
      ∙ used_alike s (network_of s) (has_ids s h) c id inside

  pub users_at : counts.users (network_of s) id ≡ users_in s (name_of s id)
  users_at =
      let c = is_counted s h in
      users_row (joined (network_of s).ports c.rows) (network_of s) (edges_joined c.rows (network_of s) c.are) id
      ∙ users_alike s (network_of s) (has_ids s h) c id inside

-- other things told of a name leave the names
same_names : (ns : List Named) (id : ℕ) (n : Named) → n.name ≡ (name_at ns id).name → name_list (slice_set ns id n) ≡ name_list ns
same_names [] id n e = refl
same_names (m ∷ ms) zero n e = ap (λ (x : List ℕ). x ∷ name_list ms) e
same_names (m ∷ ms) (suc id) n e = ap (λ (xs : List (List ℕ)). m.name ∷ xs) (same_names ms id n e)

member_set : (rows : List NameRow) (ns : List Named) (id : ℕ) (n : Named) → slice_set (map (member_in rows) ns) id (member_in rows n) ≡ map (member_in rows) (slice_set ns id n)
member_set rows [] id n = refl
member_set rows (m ∷ ms) zero n = refl
member_set rows (m ∷ ms) (suc id) n = ap (λ (ps : List Member). member_in rows m ∷ ps) (member_set rows ms id n)

-- a network with other names of the same spelling
names_told : (s : Known) (ns : List Named) (members : List Member) → members ≡ map (member_in s.rows) ns → name_list ns ≡ names_in s
    → (let m : Network = record { members = members; fixed = (network_of s).fixed; ports = (network_of s).ports } in m) ≡ network_of (record s { names = ns })
names_told s ns members is same =
    ap (λ ms. let m : Network = record { members = ms; fixed = (network_of s).fixed; ports = (network_of s).ports } in m) is
    ∙ ap (λ names. let m : Network = record { members = map (member_in s.rows) ns; fixed = row_edges names s.rows; ports = port_edges names s.rows s.radio } in m) (sym same)

device_told : (n : Named) (rows : List NameRow) (p : Member) (d : Option Device) (present carrier : Bool) → p ≡ member_in rows n → present ≡ is_some d → carrier ≡ option_map_or (λ device. device.carrier) d false
    → (let q : Member = record p { present = present; carrier = carrier } in q) ≡ member_in rows (record n { device = d })
device_told n rows p d present carrier is here up =
    ap (λ (m : Member). let q : Member = record m { present = present; carrier = carrier } in q) is
    ∙ ap (λ b. let q : Member = record (member_in rows n) { present = b; carrier = carrier } in q) here
    ∙ ap (λ b. let q : Member = record (member_in rows n) { present = is_some d; carrier = b } in q) up

module _ (s : Known) (id : ℕ) (within : id < length s.names) where
  -- the device of a name is told to its node
  pub network_with_device : (d : Option Device) (present carrier : Bool) → present ≡ is_some d → carrier ≡ option_map_or (λ device. device.carrier) d false
      → counts.with_device (network_of s) id present carrier ≡ network_of (record s { names = with_device s.names id d })
  network_with_device d present carrier here up =
      let n = name_at s.names id in
      let told = device_told n s.rows (member_at (network_of s).members id) d present carrier (member_there s.rows s.names id within) here up in
      names_told s (with_device s.names id d) _ (ap (λ (q : Member). slice_set (network_of s).members id q) told ∙ member_set s.rows s.names id (record n { device = d })) (same_names s.names id (record n { device = d }) refl)

  pub network_with_claims : (claims : ℕ) → counts.with_claim (network_of s) id claims ≡ network_of (record s { names = with_claims s.names id claims })
  network_with_claims claims =
      let n = name_at s.names id in
      let told = ap (λ (m : Member). let q : Member = record m { claims = claims } in q) (member_there s.rows s.names id within) in
      names_told s (with_claims s.names id claims) _ (ap (λ (q : Member). slice_set (network_of s).members id q) told ∙ member_set s.rows s.names id (record n { claims = claims })) (same_names s.names id (record n { claims = claims }) refl)

-- names of the same spelling are sound
pub sound_names : (s : Known) (ns : List Named) → IsSound s → name_list ns ≡ names_in s → IsSound (record s { names = ns })
sound_names s ns h same =
    record {
      levels = h.levels;
      standing = h.standing;
      names = subst (λ names. BeginWithRows names s.rows) (sym same) h.names;
      ports_once = h.ports_once;
      ports = subst (λ names. ArePorts s.rows names s.radio) (sym same) h.ports;
    }

pub device_spelled : (ns : List Named) (id : ℕ) (d : Option Device) → name_list (with_device ns id d) ≡ name_list ns
device_spelled ns id d = same_names ns id (record (name_at ns id) { device = d }) refl

pub claims_spelled : (ns : List Named) (id claims : ℕ) → name_list (with_claims ns id claims) ≡ name_list ns
claims_spelled ns id claims = same_names ns id (record (name_at ns id) { claims = claims }) refl

pub sound_with_device : (s : Known) (id : ℕ) (d : Option Device) → IsSound s → IsSound (record s { names = with_device s.names id d })
sound_with_device s id d h = sound_names s (with_device s.names id d) h (same_names s.names id (record (name_at s.names id) { device = d }) refl)

pub sound_with_claims : (s : Known) (id : ℕ) (claims : ℕ) → IsSound s → IsSound (record s { names = with_claims s.names id claims })
sound_with_claims s id claims h = sound_names s (with_claims s.names id claims) h (same_names s.names id (record (name_at s.names id) { claims = claims }) refl)

pub members_size : (s : Known) (net : Network) → net ≡ network_of s → length net.members ≡ length s.names
members_size s net is = ap (λ (n : Network). length n.members) is ∙ length-map s.names (member_in s.rows)

-- a device is told to names and to their counts
pub tied_after_device : (s : Known) (ns : List Named) (was net : Network) (id : ℕ) (d : Option Device) (present carrier : Bool) → IsSound s → was ≡ network_of s → id < length s.names → present ≡ is_some d → carrier
    ≡ option_map_or (λ device. device.carrier) d false
    → ns ≡ with_device s.names id d → net ≡ counts.with_device was id present carrier → IsSound (record s { names = ns }) × (net ≡ network_of (record s { names = ns }))
tied_after_device s ns was net id d present carrier sound is within here up names told = (
  subst (λ ms. IsSound (record s { names = ms })) (sym names) (sound_with_device s id d sound),
  told ∙ ap (λ n. counts.with_device n id present carrier) is ∙ network_with_device s id within d present carrier here up
      ∙ ap (λ ms. network_of (record s { names = ms })) (sym names),
)

-- claims are told to names and to their counts
pub tied_after_claims : (s : Known) (ns : List Named) (was net : Network) (id claims : ℕ) → IsSound s → was ≡ network_of s → id < length s.names → ns ≡ with_claims s.names id claims → net ≡ counts.with_claim was id claims
    → IsSound (record s { names = ns }) × (net ≡ network_of (record s { names = ns }))
tied_after_claims s ns was net id claims sound is within names told = (
  subst (λ ms. IsSound (record s { names = ms })) (sym names) (sound_with_claims s id claims sound),
  told ∙ ap (λ n. counts.with_claim n id claims) is ∙ network_with_claims s id within claims
      ∙ ap (λ ms. network_of (record s { names = ms })) (sym names),
)

-- the carrier of a device that is not there is told to nobody
none_told : (ns : List Named) (id : ℕ) (d : Option Device) → (name_at ns id).device ≡ d → ns ≡ with_device ns id d
none_told [] id d e = refl
none_told (n ∷ ns) zero d e = ap (λ (x : Option Device). let m : Named = record n { device = x } in m ∷ ns) e
none_told (n ∷ ns) (suc id) d e = ap (λ ms. n ∷ ms) (none_told ns id d e)

pub no_carrier : (s : Known) (id : ℕ) (f : Device → Device) → (name_at s.names id).device ≡ None → s ≡ record s { names = with_device s.names id (option_map f (name_at s.names id).device) }
no_carrier s id f e = ap (λ ns. record s { names = ns }) (none_told s.names id (option_map f (name_at s.names id).device) (e ∙ sym (ap (option_map f) e)))

pub carrier_told : (s : Known) (id : ℕ) (f : Device → Device) (d : Device) → (name_at s.names id).device ≡ Some d → record s { names = with_device s.names id (Some (f d)) }
    ≡ record s { names = with_device s.names id (option_map f (name_at s.names id).device) }
carrier_told s id f d e = ap (λ x. record s { names = with_device s.names id x }) (sym (ap (option_map f) e))
