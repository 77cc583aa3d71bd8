-- Names of a graph, of which one is claimed otherwise.
use mathlib.Core.Bool.{beq}
use Rattle.std.proofs.Common.{arith, inl, inr, ℕ, zero, suc, ◌≡◌, ◌⊎◌, ◌+◌, ◌-◌, ◌<◌, ◌≤◌, List, [], ◌∷◌, Bool, true, false, cond, Option, Some, None, refl, ap, sym, subst, ◌∙◌}
use Rattle.std.specs.Prelude.{bytes_eq, is_some}
use Rattle.std.specs.Option.{option_map, option_map_or, option_and_then}
use Rattle.kern_model.proofs.TestLemmas.{bytes_same, same_bytes}
use Rattle.uci_tree.proofs.FoldLemmas.{position-cons}
use Rattle.graph_rules.specs.State.{Named, Known, State, claims_in, named_in, device_among, claims_among, name_list, place_among}
use Rattle.graph_rules.specs.After.{with_claims, claimed_after}
use Rattle.graph_counts.proofs.AnswerLemmas.{claims_spelled}
use Rattle.graph_names.proofs.NameLemmas.{no_claims_told}
use Rattle.claim_moves.specs.Claiming.{DiffersInClaims, one, one_at}

-- the place of a name is the first, or one further on than behind it
split : (b : Bool) (rest : Option ℕ) (id : ℕ) → cond {A = Option ℕ} b (Some 0) (option_map (λ k. suc k) rest) ≡ Some id → ((b ≡ true) × (id ≡ 0)) ⊎ ((b ≡ false) × ((k : ℕ) × (rest ≡ Some k) × (id ≡ suc k)))
split true rest id h = inl (refl, cc h)
split false None id h = cc h
split false (Some k) id h = inr (refl, (k, refl, cc h))

count_of : Option Named → ℕ
count_of o = option_map_or (λ (n : Named). n.claims) o 0

-- the first is claimed otherwise
here_told : (m : Named) (found : Option Named) (claims : ℕ) (b : Bool) → option_map_or (λ (n : Named). n.claims) (cond b (Some (record m { claims = claims })) found) 0
    ≡ cond b claims (option_map_or (λ (n : Named). n.claims) (cond b (Some m) found) 0)
here_told m found claims true = refl
here_told m found claims false = refl

-- one behind it is
there_told : (m : Named) (now before : Option Named) (claims : ℕ) (b d : Bool) → (b ≡ true → d ≡ true → ⊥) → option_map_or (λ (n : Named). n.claims) now 0 ≡ cond d claims (option_map_or (λ (n : Named). n.claims) before 0)
    → option_map_or (λ (n : Named). n.claims) (cond b (Some m) now) 0 ≡ cond d claims (option_map_or (λ (n : Named). n.claims) (cond b (Some m) before) 0)
there_told m now before claims true true apart rest = absurd (apart refl refl)
there_told m now before claims true false apart rest = refl
there_told m now before claims false d apart rest = rest

pub claims_set : (ns : List Named) (id : ℕ) (name q : List ℕ) (claims : ℕ) → place_among ns name ≡ Some id → claims_among (with_claims ns id claims) q ≡ cond (bytes_eq name q) claims (claims_among ns q)
claims_set [] id name q claims at = cc at
claims_set (m ∷ ms) id name q claims at =
    elim (split (bytes_eq name m.name) (place_among ms name) id (sym (position-cons (bytes_eq name) m.name (name_list ms)) ∙ at)) as
    (λ _. claims_among (with_claims (m ∷ ms) id claims) q ≡ cond (bytes_eq name q) claims (claims_among (m ∷ ms) q)) [
      | inl first ↦
          subst (λ k. claims_among (with_claims (m ∷ ms) k claims) q ≡ cond (bytes_eq name q) claims (claims_among (m ∷ ms) q)) (sym first.1)
          (here_told m (named_in ms q) claims (bytes_eq m.name q)
          ∙ ap (λ (x : List ℕ). cond (bytes_eq x q) claims (claims_among (m ∷ ms) q)) (sym (bytes_same name m.name first.0)))
      | inr later ↦
          let k = later.1.0 in
          let other = later.0 in
          subst (λ j. claims_among (with_claims (m ∷ ms) j claims) q ≡ cond (bytes_eq name q) claims (claims_among (m ∷ ms) q)) (sym later.1.2)
          (there_told m (named_in (with_claims ms k claims) q) (named_in ms q) claims (bytes_eq m.name q) (bytes_eq name q)
          (λ one_is other_is. let same : bytes_eq name m.name ≡ true = same_bytes name m.name (bytes_same name q other_is ∙ sym (bytes_same m.name q one_is)) in cc (other, same))
          (claims_set ms k name q claims later.1.1))
    ]

device_kept : (m : Named) (now before : Option Named) (claims : ℕ) (b : Bool) → option_and_then (λ (n : Named). n.device) now ≡ option_and_then (λ (n : Named). n.device) before
    → option_and_then (λ (n : Named). n.device) (cond b (Some m) now) ≡ option_and_then (λ (n : Named). n.device) (cond b (Some m) before)
device_kept m now before claims true rest = refl
device_kept m now before claims false rest = rest

device_here : (m : Named) (found : Option Named) (claims : ℕ) (b : Bool) → option_and_then (λ (n : Named). n.device) (cond b (Some (record m { claims = claims })) found) ≡ option_and_then (λ (n : Named). n.device) (cond b (Some m) found)
device_here m found claims true = refl
device_here m found claims false = refl

pub devices_set : (ns : List Named) (id claims : ℕ) (q : List ℕ) → device_among (with_claims ns id claims) q ≡ device_among ns q
devices_set [] id claims q = refl
devices_set (m ∷ ms) zero claims q = device_here m (named_in ms q) claims (bytes_eq m.name q)
devices_set (m ∷ ms) (suc id) claims q = device_kept m (named_in (with_claims ms id claims) q) (named_in ms q) claims (bytes_eq m.name q) (devices_set ms id claims q)

pub claims_alone : (s : State) (id claims : ℕ) → DiffersInClaims s (claimed_after s id claims)
claims_alone s id claims = record {
  rows = refl;
  vlans = refl;
  radio = refl;
  names = claims_spelled s.known.names id claims;
  devices = devices_set s.known.names id claims;
  held = refl;
  loads = refl;
}

pub claims_same : (s : State) → DiffersInClaims s s
claims_same s = record { rows = refl; vlans = refl; radio = refl; names = refl; devices = λ name. refl; held = refl; loads = refl }

pub claims_twice : (r s t : State) → DiffersInClaims r s → DiffersInClaims s t → DiffersInClaims r t
claims_twice r s t first then = record {
  rows = then.rows ∙ first.rows;
  vlans = then.vlans ∙ first.vlans;
  radio = then.radio ∙ first.radio;
  names = then.names ∙ first.names;
  devices = λ name. then.devices name ∙ first.devices name;
  held = then.held ∙ first.held;
  loads = then.loads ∙ first.loads;
}

-- what is claimed is a name of the graph
pub claimed_known : (ns : List Named) (name : List ℕ) → 0 < claims_among ns name → is_some (place_among ns name) ≡ true
claimed_known ns name some = by (place_among ns name) refl
  where
    by : (o : Option ℕ) → place_among ns name ≡ o → is_some o ≡ true
    by None is = let none = no_claims_told ns name is in absurd (omega (arith, some, none))
    by (Some k) is = refl

-- one claim less or more
pub claim_moved : (before now : List ℕ → ℕ) (name : List ℕ) (claims : ℕ) (used uses : Bool) → ((q : List ℕ) → now q ≡ cond (bytes_eq name q) claims (before q)) → claims + one used ≡ before name + one uses → (q : List ℕ) → now q
    + one_at name q used ≡ before q + one_at name q uses
claim_moved before now name claims used uses told moved q = by (bytes_eq name q) refl
  where
    by : (b : Bool) → bytes_eq name q ≡ b → now q + cond b (one used) 0 ≡ before q + cond b (one uses) 0
    by true is =
        let at : now q ≡ claims = told q ∙ ap (λ b. cond b claims (before q)) is in
        let same : before name ≡ before q = ap before (bytes_same name q is) in
        omega (arith, at, same, moved)
    by false is =
        let at : now q ≡ before q = told q ∙ ap (λ b. cond b claims (before q)) is in
        omega (arith, at)

-- of an unknown name nothing moves
pub unknown_moves : (s : Known) (name : List ℕ) (used uses : Bool) → place_among s.names name ≡ None → (used ≡ true → 0 < claims_in s name) → (uses ≡ true → is_some (place_among s.names name) ≡ true) → (q : List ℕ) → claims_in s q
    + one_at name q used ≡ claims_in s q + one_at name q uses
unknown_moves s name true uses lacks claimed known q =
    let some : is_some (place_among s.names name) ≡ true = claimed_known s.names name (claimed refl) in
    let none : is_some (place_among s.names name) ≡ false = ap (λ (o : Option ℕ). is_some o) lacks in
    cc (some, none)
unknown_moves s name false true lacks claimed known q =
    let some : is_some (place_among s.names name) ≡ true = known refl in
    let none : is_some (place_among s.names name) ≡ false = ap (λ (o : Option ℕ). is_some o) lacks in
    cc (some, none)
unknown_moves s name false false lacks claimed known q = refl

-- one is little
pub one_few : (b : Bool) → one b ≤ 1
one_few true = omega arith
one_few false = omega arith

-- where one of two is so, and not the other
pub was_used : (used uses : Bool) → beq used uses ≡ false → uses ≡ false → used ≡ true
was_used true uses differ h = refl
was_used false true differ h = cc h
was_used false false differ h = cc differ

pub moved_up : (claims moved : ℕ) (used uses : Bool) → beq used uses ≡ false → uses ≡ true → moved ≡ claims + 1 → moved + one used ≡ claims + one uses
moved_up claims moved true true differ h is = cc differ
moved_up claims moved true false differ h is = cc h
moved_up claims moved false true differ h is = omega (arith, is)
moved_up claims moved false false differ h is = cc h

pub moved_down : (claims moved : ℕ) (used uses : Bool) → beq used uses ≡ false → uses ≡ false → 0 < claims → moved ≡ claims - 1 → moved + one used ≡ claims + one uses
moved_down claims moved true true differ h some is = cc h
moved_down claims moved true false differ h some is = omega (arith, some, is)
moved_down claims moved false true differ h some is = cc h
moved_down claims moved false false differ h some is = cc differ
