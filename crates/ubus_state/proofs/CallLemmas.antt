-- The first open call that passes a test, and calls that are added.
use Rattle.std.proofs.Common.{arith, ℕ, suc, ◌≡◌, ◌<◌, ◌+◌, List, [], ◌∷◌, ◌++◌, length, take, get_or, Bool, true, false, Some, None, refl, ap, sym, ◌∙◌}
use Rattle.std.proofs.lemmas.List.{append_assoc, map-append, take_more}
use Rattle.std.specs.Prelude.{if◌then◌else◌, remove}
use Rattle.std.specs.List.{position, position_from}
use Rattle.std.proofs.lemmas.Iterator.Adapters.{position_from-zero}
use Rattle.ubus_table.specs.Table.{Call}
use Rattle.ubus_table.specs.Calls.{without_first}
use Rattle.ubus_state.specs.declared.calls.OpenCall.{OpenCall}
use Rattle.ubus_state.specs.Calls.{call_of, calls_of}

rest_from : (p : Call → Bool) (calls : List Call) (i k : ℕ) → position_from p i calls ≡ Some k → (j : ℕ) × (k ≡ i + j) × (without_first p calls ≡ remove calls j)
rest_from p [] i k h = absurd (no h)
  where
    no : None ≡ Some k → ⊥
    no e = grind (arith, e)
rest_from p (call ∷ calls) i k h = by_test (p call) refl h (rest_from p calls (i + 1) k)
  where
    by_test : (b : Bool) → p call ≡ b → (if b then Some i else position_from p (i + 1) calls) ≡ Some k → (position_from p (i + 1) calls ≡ Some k → (j : ℕ) × (k ≡ i + 1 + j) × (without_first p calls ≡ remove calls j)) → (j : ℕ) × (k ≡ i + j)
        × (without_first p (call ∷ calls) ≡ remove (call ∷ calls) j)
    by_test true e here more = (0, grind (arith, here), rw e refl)
    by_test false e here more = let m = more here in (suc m.0, (let at = m.1 in omega (arith, at)), rw e (ap (λ cs. call ∷ cs) m.2))

pub without_first_at : (p : Call → Bool) (calls : List Call) (k : ℕ) → position p calls ≡ Some k → without_first p calls ≡ remove calls k
without_first_at p calls k h = let f = rest_from p calls 0 k (sym (position_from-zero p calls) ∙ h) in let e : f.0 ≡ k = (let at = f.1 in omega (arith, at)) in f.2 ∙ ap (remove calls) e

-- one call more of those that are added
pub added_more : (before rows : List Call) (calls : List OpenCall) (i : ℕ) (d : OpenCall) → i < length calls
    → rows ≡ before ++ calls_of (take i calls) → rows ++ call_of (get_or calls i d) ∷ [] ≡ before ++ calls_of (take (i + 1) calls)
added_more before rows calls i d within added =
    ap (λ (z : List Call). z ++ call_of (get_or calls i d) ∷ []) added
    ∙ append_assoc before (calls_of (take i calls)) (call_of (get_or calls i d) ∷ [])
    ∙ ap (λ (z : List Call). before ++ z)
    (sym (map-append call_of (take i calls) (get_or calls i d ∷ [])) ∙ ap calls_of (sym (take_more calls i d within)))
