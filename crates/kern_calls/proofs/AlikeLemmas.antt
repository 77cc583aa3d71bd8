-- Calls in one order are in another in which heights compare alike.
use Rattle.std.proofs.Common.{arith, ℕ, ◌≡◌, ◌≤◌, ◌<◌, ◌-◌, List, [], ◌∷◌, ◌++◌, inl, inr, Contains, refl, ap, sym, subst, ◌∙◌}
use Rattle.std.specs.Ordering.{nat_cmp, ordering_then, MatchOrdering}
use Rattle.std.specs.declared.cmp.Ordering.{Ordering}
use Rattle.std.specs.declared.cmp.Ordering.TheVariants.{Less, Equal, Greater}
use Rattle.std.specs.Cmp.{ranks}
use Rattle.std.specs.Cmp.Lexicographic.{slice_cmp}
use Rattle.std.specs.List.Sorted.{IsStrictlySortedBy}
use Rattle.std.proofs.lemmas.List.Elements.{Contains-append_right}
use Rattle.kern_model.specs.declared.object.Call.{Call}
use Rattle.kern_model.specs.ObjectOrder.{Objects, call_key}
use Rattle.kern_model.specs.Line.{line_of}
use Rattle.kern_model.specs.CallOrder.{rank, height_place, call_cmp}
use Rattle.kern_model.proofs.OrderLemmas.{tied_of_equal}
use Rattle.kern_model.proofs.MemberLemmas.{here, there, first_or_later, none_in_nil, all_members, member_of_all}

-- numbers that are ordered alike compare alike
alike_at : (r s : Ordering) (x y u v : ℕ) → MatchOrdering r (x < y) (x ≡ y) (y < x) → MatchOrdering s (u < v) (u ≡ v) (v < u) → (x < y → u < v) → (x ≡ y → u ≡ v) → (y < x → v < u) → r ≡ s
alike_at Less Less x y u v p q l e g = refl
alike_at Less Equal x y u v p q l e g = let below = l p in absurd (omega arith)
alike_at Less Greater x y u v p q l e g = let below = l p in absurd (omega arith)
alike_at Equal Less x y u v p q l e g = let same = e p in absurd (omega arith)
alike_at Equal Equal x y u v p q l e g = refl
alike_at Equal Greater x y u v p q l e g = let same = e p in absurd (omega arith)
alike_at Greater Less x y u v p q l e g = let above = g p in absurd (omega arith)
alike_at Greater Equal x y u v p q l e g = let above = g p in absurd (omega arith)
alike_at Greater Greater x y u v p q l e g = refl

alike : (x y u v : ℕ) → (x < y → u < v) → (x ≡ y → u ≡ v) → (y < x → v < u) → nat_cmp x y ≡ nat_cmp u v
alike x y u v l e g = alike_at (nat_cmp x y) (nat_cmp u v) x y u v (ranks x y) (ranks u v) l e g

-- what is left of one size and of another
pub left_alike : (m n a b : ℕ) → a ≤ m → b ≤ m → a ≤ n → b ≤ n → nat_cmp (m - a) (m - b) ≡ nat_cmp (n - a) (n - b)
left_alike m n a b am bm an bn = alike (m - a) (m - b) (n - a) (n - b) (λ h. omega arith) (λ h. omega arith) (λ h. omega arith)

then_alike : (r h k l : Ordering) → (r ≡ Equal → h ≡ k) → ordering_then r (ordering_then h l) ≡ Less → ordering_then r (ordering_then k l) ≡ Less
then_alike Less h k l same less = refl
then_alike Equal h k l same less = ap (λ x. ordering_then x l) (sym (same refl)) ∙ less
then_alike Greater h k l same less = cc less

pub less_alike : (held wanted now to : Objects) (a b : Call) → (rank a ≡ rank b → nat_cmp (height_place held wanted a) (height_place held wanted b) ≡ nat_cmp (height_place now to a) (height_place now to b)) → call_cmp held wanted a b ≡ Less
    → call_cmp now to a b ≡ Less
less_alike held wanted now to a b same less =
    then_alike (nat_cmp (rank a) (rank b)) (nat_cmp (height_place held wanted a) (height_place held wanted b)) (nat_cmp (height_place now to a) (height_place now to b))
    (ordering_then (slice_cmp nat_cmp (line_of a) (line_of b)) (slice_cmp nat_cmp (call_key a) (call_key b)))
    (λ tied. same (tied_of_equal (rank a) (rank b) tied)) less

-- a sorted list stays so in an order that has each of its steps
pub resorted : {X : Type 0} (cmp other : X → X → Ordering) → (xs : List X) → ((a b : X) → Contains xs a → Contains xs b → cmp a b ≡ Less → other a b ≡ Less) → IsStrictlySortedBy cmp xs → IsStrictlySortedBy other xs
unfolding IsStrictlySortedBy
resorted cmp other [] same sorted = tt
resorted cmp other (x ∷ xs) same sorted = (
  all_members (λ y. other x y ≡ Less) xs (λ y member. same x y (here x xs) (there x xs y member) (member_of_all (λ z. cmp x z ≡ Less) xs y sorted.0 member)),
  resorted cmp other xs (λ a b m n. same a b (there x xs a m) (there x xs b n)) sorted.1,
)

-- a front of a sorted list comes before the rest
pub front_less : {X : Type 0} (cmp : X → X → Ordering) → (front rest : List X) → IsStrictlySortedBy cmp (front ++ rest) → (a b : X) → Contains front a → Contains rest b → cmp a b ≡ Less
unfolding IsStrictlySortedBy
front_less cmp [] rest sorted a b early late = absurd (none_in_nil a early)
front_less cmp (x ∷ front) rest sorted a b early late = elim (first_or_later x front a early) as (λ _. cmp a b ≡ Less) [
  | inl same ↦ subst (λ z. cmp z b ≡ Less) same (member_of_all (λ z. cmp x z ≡ Less) (front ++ rest) b sorted.0 (Contains-append_right front rest b late))
  | inr later ↦ front_less cmp front rest sorted.1 a b later late
]
