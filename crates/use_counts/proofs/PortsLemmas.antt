-- a graph that is built anew with other ports
use Rattle.std.proofs.Common.{arith, subst, ℕ, ◌<◌, ◌≡◌, ◌≢◌, ◌++◌, take, drop, Bool, List, All, length, map, slice_set, sym, ap, ◌∙◌}
use Rattle.std.proofs.lemmas.List.{length-map, length-set, get_or-set_same, get_or-set_other, ext_get_or, map-id, take-append-drop}
use Rattle.std.proofs.lemmas.List.Elements.{All-map, All-take, All-weaker}
use Rattle.std.proofs.lemmas.Simd.{map-map}
use Rattle.std.proofs.Math.ListN.{get_or-map}
use Rattle.std.proofs.Math.Seq.{take-append_seam, drop-append_seam}
use Rattle.use_counts.specs.declared.node.Edge.{Edge}
use Rattle.use_counts.specs.declared.node.Row.{Row}
use Rattle.use_counts.specs.NodeRule.{row_at}
use Rattle.use_counts.specs.Held.{Member}
use Rattle.use_counts.specs.Network.{Network, CanJoin, HasLevels, Rises, loaded, member_at, no_member, row_of}
use Rattle.use_counts.specs.Order.{CanLoad, HasLevel}
use Rattle.use_counts.proofs.NetworkLemmas.{rises_as}

-- a list of two parts, cut where they meet
pub both_parts : (n : ℕ) (fixed ports edges : List Edge) (ps qs : List Member) → n ≡ length fixed → edges ≡ fixed ++ ports → ps ≡ qs
    → (let m : Network = record { members = ps; fixed = take n edges; ports = drop n edges } in m) ≡ record { members = qs; fixed = fixed; ports = ports }
both_parts n fixed ports edges ps qs size is same =
    let first : take n edges ≡ fixed = ap (λ m. take m edges) size ∙ ap (take (length fixed)) is ∙ take-append_seam fixed ports in
    let second : drop n edges ≡ ports = ap (λ m. drop m edges) size ∙ ap (drop (length fixed)) is ∙ drop-append_seam fixed ports in
    ap (λ xs. let m : Network = record { members = xs; fixed = take n edges; ports = drop n edges } in m) same
    ∙ ap (λ xs. let m : Network = record { members = qs; fixed = xs; ports = drop n edges } in m) first
    ∙ ap (λ xs. let m : Network = record { members = qs; fixed = fixed; ports = xs } in m) second

as_told : (m t : Member) (a b : Bool) (n : ℕ) → row_of m ≡ row_of t → a ≡ t.present → b ≡ t.carrier → n ≡ t.claims → (let q : Member = record m { present = a; carrier = b; claims = n } in q) ≡ t
as_told m t a b n same is_present is_carried is_claimed =
    ap (λ (r : Row). let q : Member = record { kind = r.kind; level = r.level; present = a; carrier = b; claims = n } in q) same
    ∙ ap (λ (x : Bool). let q : Member = record t { present = x; carrier = b; claims = n } in q) is_present
    ∙ ap (λ (x : Bool). let q : Member = record t { carrier = x; claims = n } in q) is_carried
    ∙ ap (λ (x : ℕ). let q : Member = record t { claims = x } in q) is_claimed

-- the device of a node is written, and then its claims
abbrev pub told_to : List Member → ℕ → Bool → Bool → ℕ → List Member
told_to ms id a b n =
    let mid = slice_set ms id (record (member_at ms id) { present = a; carrier = b }) in
    slice_set mid id (record (member_at mid id) { claims = n })

pub told_here : (ms : List Member) (t : Member) (id : ℕ) (a b : Bool) (n : ℕ) → id < length ms → row_of (member_at ms id) ≡ row_of t → a ≡ t.present → b ≡ t.carrier → n ≡ t.claims → member_at (told_to ms id a b n) id ≡ t
told_here ms t id a b n within same is_present is_carried is_claimed =
    let p : Member = record (member_at ms id) { present = a; carrier = b } in
    let mid = slice_set ms id p in
    let long : id < length mid = omega (arith, length-set ms id p, within) in
    get_or-set_same mid id _ no_member long
    ∙ ap (λ (m : Member). let q : Member = record m { claims = n } in q) (get_or-set_same ms id p no_member within)
    ∙ as_told (member_at ms id) t a b n same is_present is_carried is_claimed

pub told_beside : (ms : List Member) (id : ℕ) (a b : Bool) (n k : ℕ) → k ≢ id → member_at (told_to ms id a b n) k ≡ member_at ms k
told_beside ms id a b n k ne = get_or-set_other _ id k _ no_member ne ∙ get_or-set_other ms id k _ no_member ne

pub told_length : (ms : List Member) (id : ℕ) (a b : Bool) (n : ℕ) → length (told_to ms id a b n) ≡ length ms
told_length ms id a b n = length-set _ id _ ∙ length-set ms id _

pub row_member : (ms : List Member) (k : ℕ) → row_at (map row_of ms) k ≡ row_of (member_at ms k)
row_member ms k = get_or-map row_of ms k no_member

pub same_rows_at : (ps qs : List Member) (k : ℕ) → map row_of ps ≡ map row_of qs → row_of (member_at ps k) ≡ row_of (member_at qs k)
same_rows_at ps qs k same = sym (row_member ps k) ∙ ap (λ rs. row_at rs k) same ∙ row_member qs k

pub all_members : (ps qs : List Member) → length ps ≡ length qs → ((k : ℕ) → k < length qs → member_at ps k ≡ member_at qs k) → ps ≡ qs
all_members ps qs long same = ext_get_or no_member ps qs long (λ k h. same k (omega (arith, h, long)))

-- rows, loaded, are those rows
pub rows_again : (ms : List Member) → map row_of (map loaded (map row_of ms)) ≡ map row_of ms
rows_again ms = map-map row_of loaded (map row_of ms) ∙ map-id (map row_of ms)

again_at : (ms : List Member) (k : ℕ) → row_of (member_at (map loaded (map row_of ms)) k) ≡ row_of (member_at ms k)
again_at ms k = same_rows_at (map loaded (map row_of ms)) ms k (rows_again ms)

rises_again : (ms : List Member) (es : List Edge) → All (Rises ms) es → All (Rises (map loaded (map row_of ms))) es
rises_again ms es h =
    All-weaker (Rises ms) (Rises (map loaded (map row_of ms))) (rises_as ms (map loaded (map row_of ms)) (length-map (map row_of ms) loaded ∙ length-map ms row_of) (again_at ms)) es h

-- what can be joined to a network can be loaded with its rows
pub loads_again : (n : ℕ) (edges ports : List Edge) (ms : List Member) → HasLevels (record { members = ms; fixed = take n edges; ports = drop n edges }) → CanJoin (record { members = ms; fixed = take n edges; ports = drop n edges }) ports
    → CanLoad (map row_of ms) (take n edges) ports
loads_again n edges ports ms levels join =
    record {
      levels = All-map HasLevel row_of ms levels.levels;
      fixed_rise = rises_again ms (take n edges) (All-take (Rises ms) n edges (subst (All (Rises ms)) (take-append-drop n edges) levels.edges));
      ports_rise = rises_again ms ports join.rise;
      few = join.few;
    }
