-- When a disk has no reading.
use Rattle.std.proofs.Common.{◌≡◌, ◌≢◌, ◌⊎◌, inl, inr, ⊎_elim, ℕ, List, [], ◌∷◌, length, drop, Bool, true, false, nat_eq, nat_lt, Result, Ok, Err, refl, sym, ◌∙◌, ap, subst, arith}
use Rattle.std.specs.Prelude.{◌↔◌, if◌then◌else◌}
use Rattle.std.proofs.lemmas.Bool.{cases_eq, cases_lt}
use Rattle.std.proofs.lemmas.Bool.Decides.{nat_tests}
use Rattle.plane_disk.specs.Files.{Files, bytes_of}
use Rattle.plane_disk.specs.Names.{AreDiskNames}
use Rattle.snap_disk.specs.Body.{read_body}
use Rattle.snap_disk.specs.Opened.{Found, opened, by_gates, waiting_until, restored, at_rest, put}
use Rattle.snap_disk.specs.Grammar.{IsFirstWrongPlace}
use Rattle.snap_disk.specs.Unread.{GatesWrong, BodyWrong}
use Rattle.snap_disk.specs.declared.kept.Kept.{Kept}
use Rattle.snap_disk.proofs.ReadBackLemmas.{else_of, not_below}
use Rattle.snap_disk.proofs.GrammarLemmas.{then_of, below}
use Rattle.snap_disk.proofs.GrammarWhole.{refuses_exactly}

abbrev place_of : Result Found ℕ → ℕ
place_of (Ok found) = 0
place_of (Err place) = place

is_open : (gate : ℕ) → gate ≡ 79 → nat_eq gate 79 ≡ true
is_open gate is = grind (arith, nat_tests)

is_shut : (gate : ℕ) → gate ≢ 79 → nat_eq gate 79 ≡ false
is_shut gate is = grind (arith, nat_tests)

-- with the first gate open a body is looked at
opened_wrong : (a b place : ℕ) (packages : Files) (now : ℕ) → a ≡ 79 → by_gates (a ∷ b ∷ []) (Err place) packages now ≡ Err place
opened_wrong a b place packages now is = then_of _ _ _ (is_open a is) ∙ elim (cases_eq b 79) [
  | inl both ↦ then_of _ _ _ (is_open b both)
  | inr one ↦ else_of _ _ _ (is_shut b one)
]

waiting_right : (kept : Kept) (packages : Files) (now : ℕ) → (found : Found) × (waiting_until (Ok kept) packages now ≡ Ok found)
waiting_right kept packages now = elim (cases_lt now kept.pending.deadline) [
  | inl early ↦ (_, then_of _ _ _ (below now kept.pending.deadline early))
  | inr late ↦ (_, else_of _ _ _ (not_below now kept.pending.deadline late))
]

opened_right : (a b : ℕ) (kept : Kept) (packages : Files) (now : ℕ) → a ≡ 79 → (found : Found) × (by_gates (a ∷ b ∷ []) (Ok kept) packages now ≡ Ok found)
opened_right a b kept packages now is = elim (cases_eq b 79) [
  | inl both ↦ let right = waiting_right kept packages now in (right.0, then_of _ _ _ (is_open a is) ∙ then_of _ _ _ (is_open b both) ∙ right.1)
  | inr one ↦ (at_rest (put kept.files packages), then_of _ _ _ (is_open a is) ∙ else_of _ _ _ (is_shut b one))
]

body_wrong : (a b : ℕ) (r : Result Kept ℕ) (packages : Files) (now place : ℕ) → a ≡ 79 → by_gates (a ∷ b ∷ []) r packages now ≡ Err place → r ≡ Err place
body_wrong a b (Err p) packages now place is wrong = ap (λ (n : ℕ). Err n) (ap place_of (sym (opened_wrong a b p packages now is) ∙ wrong))
body_wrong a b (Ok kept) packages now place is wrong = let right = opened_right a b kept packages now is in let e = right.1 in absurd (cc (e, wrong))

abbrev Wrong : List ℕ → Result Kept ℕ → ℕ → Type 0
Wrong gates r place = ((length gates ≢ 2) × (place ≡ length gates)) ⊎ ((second : ℕ) × (gates ≡ 79 ∷ second ∷ []) × (r ≡ Err place))

gates_wrong : (gates : List ℕ) (r : Result Kept ℕ) (packages : Files) (now place : ℕ) → by_gates gates r packages now ≡ Err place → Wrong gates r place
gates_wrong [] r packages now place wrong = inl ((λ e. omega (arith, e)), ap place_of (sym wrong))
gates_wrong (a ∷ []) r packages now place wrong = inl ((λ e. omega (arith, e)), ap place_of (sym wrong))
gates_wrong (a ∷ b ∷ []) r packages now place wrong = elim (cases_eq a 79) [
  | inl is ↦ inr (b, ap (λ (n : ℕ). n ∷ b ∷ []) is, body_wrong a b r packages now place is wrong)
  | inr shut ↦ let e = else_of (nat_eq a 79) (if nat_eq b 79 then waiting_until r packages now else restored r packages) (Ok (at_rest packages)) (is_shut a shut) in absurd (cc (e, wrong))
]
gates_wrong (a ∷ b ∷ c ∷ gates) r packages now place wrong = inl ((λ e. omega (arith, e)), ap place_of (sym wrong))

not_two : (gates : List ℕ) (r : Result Kept ℕ) (packages : Files) (now : ℕ) → length gates ≢ 2 → by_gates gates r packages now ≡ Err (length gates)
not_two [] r packages now apart = refl
not_two (a ∷ []) r packages now apart = refl
not_two (a ∷ b ∷ []) r packages now apart = absurd (apart refl)
not_two (a ∷ b ∷ c ∷ gates) r packages now apart = refl

pub unread_exactly : (names : List (List ℕ)) (image : Files) (now place : ℕ) → AreDiskNames names → (opened names image now ≡ Err place) ↔ (GatesWrong image place ⊎ BodyWrong names image place)
unread_exactly names image now place are = (
  λ wrong. ⊎_elim
      (λ w. inl (record { count = w.0; is = w.1 }))
      (λ w. inr (record { second_gate = w.0; gates = w.1; body = (refuses_exactly names (bytes_of image 1) place are).0 w.2 }))
      (gates_wrong (bytes_of image 0) (read_body names (bytes_of image 1)) (drop 2 image) now place wrong),
  λ cause. ⊎_elim
      (λ w. not_two (bytes_of image 0) (read_body names (bytes_of image 1)) (drop 2 image) now w.count ∙ ap (λ (n : ℕ). Err n) (sym w.is))
      (λ w. (λ i. by_gates (w.gates i) ((refuses_exactly names (bytes_of image 1) place are).1 w.body i) (drop 2 image) now) ∙ opened_wrong 79 w.second_gate place (drop 2 image) now refl)
      cause,
)
