-- nodes that are told the devices and the claims of their names, one after another
use Rattle.std.proofs.Common.{arith, ℕ, zero, suc, ◌+◌, ◌<◌, ◌≤◌, ◌≡◌, Bool, false, is_some, List, [], ◌∷◌, map, length, take, slice_set, refl, sym, ap, ◌∙◌}
use Rattle.std.specs.Option.{option_map_or}
use Rattle.net_rows.specs.declared.rows.NameRow.{NameRow}
use Rattle.net_rules.specs.Rows.{row_at}
use Rattle.use_counts.specs.Held.{Member}
use Rattle.std.proofs.lemmas.List.{length-set}
use Rattle.use_counts.specs.Network.{Network, loaded, member_at, with_device}
use Rattle.use_counts.proofs.PortsLemmas.{told_to}
use Rattle.graph_rules.specs.State.{Named}
use Rattle.graph_rules.specs.After.{name_at}
use Rattle.graph_counts.specs.Counted.{node_row, member_in}
use Rattle.graph_counts.specs.Told.{told_member, told_members}

none_told : (ps : List Member) → told_members ps [] ≡ ps
none_told [] = refl
none_told (p ∷ ps) = refl

pub told_size : (ps : List Member) (ns : List Named) → length (told_members ps ns) ≡ length ps
told_size [] ns = refl
told_size (p ∷ ps) [] = refl
told_size (p ∷ ps) (n ∷ ns) = ap suc (told_size ps ns)

told_first : (p : Member) (ps : List Member) (n : Named) (present carrier : Bool) (claims : ℕ) → present ≡ is_some n.device → carrier ≡ option_map_or (λ device. device.carrier) n.device false → claims ≡ n.claims
    → (let q : Member = record p { present = present; carrier = carrier; claims = claims } in q ∷ ps) ≡ told_member p n ∷ told_members ps []
told_first p ps n present carrier claims here up many =
    ap (λ (b : Bool). let q : Member = record p { present = b; carrier = carrier; claims = claims } in q ∷ ps) here
    ∙ ap (λ (b : Bool). let q : Member = record p { present = is_some n.device; carrier = b; claims = claims } in q ∷ ps) up
    ∙ ap (λ (m : ℕ). let q : Member = record p { present = is_some n.device; carrier = option_map_or (λ device. device.carrier) n.device false; claims = m } in q ∷ ps) many
    ∙ ap (λ (qs : List Member). told_member p n ∷ qs) (sym (none_told ps))

told_next : (ps : List Member) (ns : List Named) (k : ℕ) (present carrier : Bool) (claims : ℕ) → length ps ≡ length ns → k < length ns → present ≡ is_some (name_at ns k).device → carrier
    ≡ option_map_or (λ device. device.carrier) (name_at ns k).device false → claims ≡ (name_at ns k).claims
    → told_to (told_members ps (take k ns)) k present carrier claims ≡ told_members ps (take (suc k) ns)
told_next [] [] k present carrier claims size h here up many = absurd (omega (arith, h))
told_next [] (n ∷ ns) k present carrier claims size h here up many = absurd (omega (arith, size))
told_next (p ∷ ps) [] k present carrier claims size h here up many = absurd (omega (arith, h))
told_next (p ∷ ps) (n ∷ ns) zero present carrier claims size h here up many = told_first p ps n present carrier claims here up many
told_next (p ∷ ps) (n ∷ ns) (suc k) present carrier claims size h here up many =
    ap (λ (qs : List Member). told_member p n ∷ qs) (told_next ps ns k present carrier claims (omega (arith, size)) (omega (arith, h)) here up many)

-- one more node is told
pub told_more : (start was now : Network) (ns : List Named) (k : ℕ) (present carrier : Bool) (claims : ℕ) → length start.members ≡ length ns → k < length ns → present ≡ is_some (name_at ns k).device → carrier
    ≡ option_map_or (λ device. device.carrier) (name_at ns k).device false → claims ≡ (name_at ns k).claims
    → was ≡ record start { members = told_members start.members (take k ns) } → now ≡ record was { members = told_to was.members k present carrier claims } → now ≡ record start { members = told_members start.members (take (k + 1) ns) }
told_more start was now ns k present carrier claims size h here up many is next =
    next
    ∙ ap (λ (w : Network). let m : Network = record w { members = told_to w.members k present carrier claims } in m) is
    ∙ ap (λ (ms : List Member). let m : Network = record start { members = ms } in m)
    (told_next start.members ns k present carrier claims size h here up many ∙ ap (λ j. told_members start.members (take j ns)) (let same : suc k ≡ k + 1 = omega arith in same))

pub loaded_told : (rows : List NameRow) (ns : List Named) → told_members (map loaded (map (λ (n : Named). node_row (row_at rows n.name)) ns)) ns ≡ map (member_in rows) ns
loaded_told rows [] = refl
loaded_told rows (n ∷ ns) = ap (λ (ps : List Member). member_in rows n ∷ ps) (loaded_told rows ns)

-- before the first node nothing is told
pub start_told : (start : Network) (ns : List Named) → start ≡ record start { members = told_members start.members (take 0 ns) }
start_told start ns = ap (λ (ms : List Member). let m : Network = record start { members = ms } in m) (sym (none_told start.members))

pub length_told : (start was : Network) (ns : List Named) (k : ℕ) → was ≡ record start { members = told_members start.members (take k ns) } → length was.members ≡ length start.members
length_told start was ns k is = ap (λ (n : Network). length n.members) is ∙ told_size start.members (take k ns)

pub length_device : (was now : Network) (id : ℕ) (present carrier : Bool) → now ≡ with_device was id present carrier → length now.members ≡ length was.members
length_device was now id present carrier is = ap (λ (n : Network). length n.members) is ∙ length-set was.members id (record (member_at was.members id) { present = present; carrier = carrier })
