-- Claims that are taken back.
use Rattle.std.proofs.Common.{arith, ℕ, zero, suc, ◌≡◌, ◌<◌, ◌+◌, List, [], ◌∷◌, Bool, true, false, None, refl, ap, sym, ◌∙◌}
use Rattle.std.specs.Prelude.{filter, bytes_eq}
use Rattle.kern_model.proofs.TestLemmas.{bytes_same}
use Rattle.net_rules.specs.Rows.{is_name}
use Rattle.graph_rules.specs.State.{Known, claims_in, place_among}
use Rattle.graph_names.proofs.NameLemmas.{no_claims_told}
use Rattle.net_rules.specs.declared.state.InterfaceState.{InterfaceState}
use Rattle.net_rules.specs.Claims.{uses_by, claim_of, claims_of}
use Rattle.net_rules.proofs.MoveLemmas.{length_kept}
use Rattle.claim_moves.proofs.ClaimLemmas.{unused}

-- an unknown name has no claims, nor has one that was told so
pub none_unknown : (s : Known) (name q : List ℕ) → place_among s.names name ≡ None → bytes_eq name q ≡ true → claims_in s q ≡ 0
none_unknown s name q lacks is = ap (claims_in s) (sym (bytes_same name q is)) ∙ sym (no_claims_told s.names name lacks)

-- what was claimed of a name by the first of these is claimed by the others, where its device and its layer-3 device are other names
pub claimed_later : (st : InterfaceState) (others : List InterfaceState) (name : List ℕ) → is_name st.device name ≡ false → is_name st.l3_device name ≡ false → 0 < claims_of (st ∷ others) name → 0 < claims_of others name
claimed_later st others name no_device no_l3_device some =
    let all : claims_of (st ∷ others) name ≡ claim_of name st + claims_of others name = length_kept (uses_by name st) st (filter (uses_by name) others) in
    let none : claim_of name st ≡ 0 = unused st name no_device no_l3_device in
    omega (arith, some, all, none)

-- the claims that are left behind one interface more
pub left_claimed : (before mid now : Known) (st : InterfaceState) (others : List InterfaceState) → ((q : List ℕ) → 0 < claims_in before q → 0 < claims_of (st ∷ others) q) → ((q : List ℕ) → is_name st.device q ≡ true → claims_in mid q ≡ 0)
    → ((q : List ℕ) → is_name st.device q ≡ false → claims_in mid q ≡ claims_in before q) → ((q : List ℕ) → is_name st.l3_device q ≡ true → claims_in now q ≡ 0)
    → ((q : List ℕ) → is_name st.l3_device q ≡ false → claims_in now q ≡ claims_in mid q)
    → (q : List ℕ) → 0 < claims_in now q → 0 < claims_of others q
left_claimed before mid now st others claimed device other_device l3_device other_l3_device q some = by (is_name st.device q) (is_name st.l3_device q) refl refl
  where
    by : (a b : Bool) → is_name st.device q ≡ a → is_name st.l3_device q ≡ b → 0 < claims_of others q
    by a true is_a is_b = let none : claims_in now q ≡ 0 = l3_device q is_b in absurd (omega (arith, some, none))
    by true false is_a is_b =
        let none : claims_in mid q ≡ 0 = device q is_a in
        let same : claims_in now q ≡ claims_in mid q = other_l3_device q is_b in
        absurd (omega (arith, some, none, same))
    by false false is_a is_b =
        let one : claims_in mid q ≡ claims_in before q = other_device q is_a in
        let same : claims_in now q ≡ claims_in mid q = other_l3_device q is_b in
        claimed_later st others q is_a is_b (claimed q (omega (arith, some, one, same)))

-- where none is left nothing is claimed
pub none_claimed : (s : Known) → ((q : List ℕ) → 0 < claims_in s q → 0 < claims_of [] q) → (q : List ℕ) → claims_in s q ≡ 0
none_claimed s claimed q = by (claims_in s q) refl
  where
    by : (n : ℕ) → claims_in s q ≡ n → claims_in s q ≡ 0
    by zero is = is
    by (suc n) is = let some : 0 < claims_of [] q = claimed q (omega (arith, is)) in absurd (omega (arith, some))
