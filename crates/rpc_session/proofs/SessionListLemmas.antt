-- Where the session of an id stands, and what a change at its place does.
use Rattle.std.proofs.Common.{◌≡◌, ◌≢◌, ℕ, zero, suc, ◌<◌, ◌≤◌, ◌+◌, ◌*◌, ◌^◌, List, [], ◌∷◌, ◌++◌, length, get_or, set, Some, None, Result, Ok, Err, IfOk, IfErr, refl, sym, ap, ◌∙◌, arith}
use Rattle.std.specs.Prelude.{remove}
use Rattle.std.specs.List.Sorted.{IsSearchInRange, IsBinarySearchResult, IsNonDecreasingBy}
use Rattle.std.specs.Ordering.{nat_cmp, ordering_index}
use Rattle.std.proofs.lemmas.Cmp.{ranked}
use Rattle.std.proofs.lemmas.List.Sorted.{IsNonDecreasingBy-from_default}
use Rattle.std.proofs.lemmas.List.{get_or_default}
use Rattle.std.proofs.lemmas.List.Edits.{length-remove, get_or-remove_below, get_or-remove_above}
use Rattle.std.proofs.lemmas.Bool.Decides.{nat_tests}
use Rattle.std.proofs.lemmas.Grind.{common_steps}
use Rattle.rpc_session.specs.declared.session.Session.{Session}
use Rattle.rpc_session.specs.SessionList.{nobody, id_at, RiseById, AreInOrder, IsAt}
use Rattle.rpc_session.specs.Sessions.{session_of, changed, without}

-- no session before a place has the id
abbrev pub NoneBefore : List Session → ℕ → ℕ → Type 0
NoneBefore l id i = (j : ℕ) → j < i → id_at l j ≢ id

none_before_tail : (s : Session) (l : List Session) (id i : ℕ) → NoneBefore (s ∷ l) id (suc i) → NoneBefore l id i
none_before_tail s l id i none j lt = none (suc j) (omega arith)

is_at_tail : (s : Session) (l : List Session) (id i : ℕ) → IsAt (s ∷ l) id (suc i) → IsAt l id i
is_at_tail s l id i at = record { in_range = omega (arith, at.in_range); has_id = at.has_id }

pub absent : (l : List Session) (id : ℕ) → NoneBefore l id (length l) → session_of id l ≡ None
absent [] id none = refl
absent (s ∷ l) id none = grind (arith, nat_tests, none 0 (omega arith), absent l id (none_before_tail s l id _ none))

pub present : (l : List Session) (id i : ℕ) → IsAt l id i → NoneBefore l id i → session_of id l ≡ Some (get_or l i nobody)
present [] id i at none = absurd (omega (arith, at.in_range))
present (s ∷ l) id zero at none = grind (arith, nat_tests, at.has_id)
present (s ∷ l) id (suc i) at none = grind (arith, nat_tests, none 0 (omega arith), present l id i (is_at_tail s l id i at) (none_before_tail s l id i none))

pub changed_at : (l : List Session) (id i : ℕ) (f : Session → Session) → IsAt l id i → NoneBefore l id i → changed id f l ≡ set l i (f (get_or l i nobody))
changed_at [] id i f at none = absurd (omega (arith, at.in_range))
changed_at (s ∷ l) id zero f at none = grind (arith, nat_tests, at.has_id)
changed_at (s ∷ l) id (suc i) f at none = grind (arith, nat_tests, none 0 (omega arith), changed_at l id i f (is_at_tail s l id i at) (none_before_tail s l id i none))

pub without_at : (l : List Session) (id i : ℕ) → IsAt l id i → NoneBefore l id i → without id l ≡ remove l i
without_at [] id i at none = absurd (omega (arith, at.in_range))
without_at (s ∷ l) id zero at none = grind (arith, nat_tests, at.has_id)
without_at (s ∷ l) id (suc i) at none = grind (arith, nat_tests, none 0 (omega arith), without_at l id i (is_at_tail s l id i at) (none_before_tail s l id i none))

module _ (l : List Session) (rise : RiseById l) (id : ℕ) where
  -- the comparisons with the id rise along the list, as a binary search asks
  comparisons_rise : IsNonDecreasingBy (λ session. ordering_index (nat_cmp session.id id)) l
  comparisons_rise = IsNonDecreasingBy-from_default (λ session. ordering_index (nat_cmp session.id id)) l nobody (λ i j le in_range.
      let ids_rise : id_at l i ≤ id_at l j = grind (arith, rise i j, λ (same : i ≡ j). ap (id_at l) same) in
      grind (arith, nat_tests))

  -- none before the place has the id
  pub none_before_at : (i : ℕ) → IsAt l id i → NoneBefore l id i
  none_before_at i at j lt same = omega (arith, rise j i lt at.in_range, at.has_id)

  -- a binary search ends at the session, or finds none
  pub searched : (r : Result ℕ ℕ) → IsSearchInRange r (length l) → IsBinarySearchResult (λ session. nat_cmp session.id id) l r → record { found : IfOk r (IsAt l id); absent : IfErr r (λ gap. session_of id l ≡ None) }
  searched (Ok at) in_range equal = record { found = record { in_range = in_range; has_id = ranked _ id _ (sym (equal nobody)) }; absent = tt }
  searched (Err at) in_range parted = record {
    found = tt;
    absent = absent l id (λ j lt same. grind (
      arith,
      λ (below : j < at). ranked (id_at l j) id _ (sym ((parted comparisons_rise).0 j nobody (omega arith) below)),
      λ (above : at ≤ j). ranked (id_at l j) id _ (sym ((parted comparisons_rise).1 j nobody above lt)),
      same,
    ));
  }

  pub here : (i : ℕ) → IsAt l id i → session_of id l ≡ Some (get_or l i nobody)
  here i at = present l id i at (none_before_at i at)

  pub changed_here : (i : ℕ) (f : Session → Session) → IsAt l id i → changed id f l ≡ set l i (f (get_or l i nobody))
  changed_here i f at = changed_at l id i f at (none_before_at i at)

  pub without_here : (i : ℕ) → IsAt l id i → without id l ≡ remove l i
  without_here i at = without_at l id i at (none_before_at i at)

-- the order stays where a session changes and keeps its id
pub order_set : (l : List Session) (next i : ℕ) (s : Session) → AreInOrder l next → s.id ≡ id_at l i → i < length l → AreInOrder (set l i s) next
order_set l next i s order same in_range = record {
  rise = λ a b lt within. grind (arith, common_steps, order.rise a b, order.rise a i, order.rise i b, same, in_range);
  below = λ a within. grind (arith, common_steps, order.below a, order.below i, same, in_range);
}

-- the order stays where a session goes
pub order_remove : (l : List Session) (next i : ℕ) → AreInOrder l next → i < length l → AreInOrder (remove l i) next
order_remove l next i order in_range =
    let fewer = length-remove l i in_range in
    let below : (k : ℕ) → k < i → id_at (remove l i) k ≡ id_at l k = λ k lt. ap (λ (s : Session). s.id) (get_or-remove_below l i nobody k lt in_range) in
    let above : (k : ℕ) → i ≤ k → id_at (remove l i) k ≡ id_at l (k + 1) = λ k le. ap (λ (s : Session). s.id) (get_or-remove_above l i nobody k le in_range) in
    record {
      rise = λ a b lt within. grind (arith, fewer, below a, above a, below b, above b, order.rise a b, order.rise a (b + 1), order.rise (a + 1) (b + 1));
      below = λ a within. grind (arith, fewer, below a, above a, order.below a, order.below (a + 1));
    }

-- the order stays where a session with the next number comes
pub order_push : (l : List Session) (next word : ℕ) (s : Session) → AreInOrder l next → s.id ≡ next * 2 ^ 64 + word → word < 2 ^ 64 → AreInOrder (l ++ s ∷ []) (next + 1)
order_push l next word s order same small = record {
  rise = λ a b lt within. grind (arith, common_steps, order.rise a b, order.below a, same);
  below = λ a within. grind (arith, common_steps, order.below a, same, small);
}

-- what stands at a place within the list, whatever stands where there is none
pub read_at : (l : List Session) (i : ℕ) (s : Session) → i < length l → s ≡ get_or l i s → s ≡ get_or l i nobody
read_at l i s in_range is = is ∙ get_or_default l i s nobody in_range

pub same_id : (l : List Session) (i : ℕ) (s : Session) → i < length l → s ≡ get_or l i s → s.id ≡ id_at l i
same_id l i s in_range is = ap (λ (t : Session). t.id) (read_at l i s in_range is)
