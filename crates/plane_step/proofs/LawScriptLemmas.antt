-- A script comes to one thing.
use Rattle.std.proofs.Common.{ℕ, ◌≡◌, List, [], ◌∷◌, ◌++◌, Option, Bool, refl, sym, subst}
use Rattle.uci_text.specs.declared.line.Line.{Line}
use Rattle.script_lines.specs.declared.script_line.ScriptLine.{ScriptLine}
use Rattle.script_lines.specs.Lines.{line_of}
use Rattle.bus_lines.specs.World.{World}
use Rattle.bus_lines.specs.Did.{Did}
use Rattle.plane_step.specs.Does.{Does}
use Rattle.plane_step.specs.Moved.{Luck, Moved, moved, followed, Folds}
use Rattle.plane_step.specs.Plain.{IsPlain, ArePlain}

-- lists with one item more are equal where their parts are
not_nil : {X : Type 0} (xs : List X) (x : X) → [] ≡ xs ++ x ∷ [] → ⊥
not_nil [] x h = absurd (cc h)
not_nil (y ∷ xs) x h = absurd (cc h)

same_front : {X : Type 0} (xs ys : List X) (x y : X) → xs ++ x ∷ [] ≡ ys ++ y ∷ [] → xs ≡ ys
same_front [] [] x y h = refl
same_front [] (b ∷ ys) x y h = let rest : [] ≡ ys ++ y ∷ [] = cc h in absurd (not_nil ys y rest)
same_front (a ∷ xs) [] x y h = let rest : xs ++ x ∷ [] ≡ [] = cc h in absurd (not_nil xs x (sym rest))
same_front (a ∷ xs) (b ∷ ys) x y h =
    let head : a ≡ b = cc h in
    let rest : xs ++ x ∷ [] ≡ ys ++ y ∷ [] = cc h in
    let tail = same_front xs ys x y rest in
    λ i. head i ∷ tail i

same_last : {X : Type 0} (xs ys : List X) (x y : X) → xs ++ x ∷ [] ≡ ys ++ y ∷ [] → x ≡ y
same_last [] [] x y h = cc h
same_last [] (b ∷ ys) x y h = let rest : [] ≡ ys ++ y ∷ [] = cc h in absurd (not_nil ys y rest)
same_last (a ∷ xs) [] x y h = let rest : xs ++ x ∷ [] ≡ [] = cc h in absurd (not_nil xs x (sym rest))
same_last (a ∷ xs) (b ∷ ys) x y h =
    let rest : xs ++ x ∷ [] ≡ ys ++ y ∷ [] = cc h in same_last xs ys x y rest

-- no line of a front is a caller's, nor the last one, where none of all is
plain_front : (lines : List Line) (line : Line) → ArePlain (lines ++ line ∷ []) → ArePlain lines
plain_front [] line plain = tt
plain_front (first ∷ lines) line plain = (plain.0, plain_front lines line plain.1)

plain_last : (lines : List Line) (line : Line) → ArePlain (lines ++ line ∷ [])
    → IsPlain (line_of line.words)
plain_last [] line plain = plain.0
plain_last (first ∷ lines) line plain = plain_last lines line plain.1

module _ (one : (world : World) (number : ℕ) (read : Option ScriptLine) (words : List ℕ)
    (events : List Bool) (did other : Did) → IsPlain read → Does world number read words events did
    → Does world number read words events other → did ≡ other) (start : World) where
  fold_by : (lines others : List Line) (lucks more : List Luck) (end other : Moved) → ArePlain others
      → Folds start lines lucks end → Folds start others more other → lines ≡ others → lucks ≡ more
      → end ≡ other
  fold_by _ _ _ _ _ _ plain Folds.none Folds.none p q = refl
  fold_by _ _ _ _ _ _ plain Folds.none (Folds.more ls ks so l k s f m) p q = absurd (not_nil ls l p)
  fold_by _ _ _ _ _ _ plain (Folds.more ls ks so l k s f m) Folds.none p q = absurd (not_nil ls l (sym p))
  fold_by _ _ _ _ _ _ plain (Folds.more ls ks so l k s f m) (Folds.more js ms to j n t g o) p q =
      let fronts = same_front ls js l j p in
      let last = same_last ls js l j p in
      let lucks = same_front ks ms k n q in
      let luck = same_last ks ms k n q in
      let before = fold_by ls js ks ms so to (plain_front js j plain) f g fronts lucks in
      let does : Does to.world j.line (line_of j.words) n.words n.events s =
      subst (λ (k : Luck). Does to.world j.line (line_of j.words) k.words k.events s) luck
      (subst (λ (l : Line). Does to.world l.line (line_of l.words) k.words k.events s) last
      (subst (λ (so : Moved). Does so.world l.line (line_of l.words) k.words k.events s) before m)) in
      let did = one to.world j.line (line_of j.words) n.words n.events s t (plain_last js j plain) does o in
      λ i. followed (before i) (moved (did i) (luck i).failed_after)

  pub one_fold : (lines : List Line) (lucks : List Luck) (end other : Moved) → ArePlain lines
      → Folds start lines lucks end → Folds start lines lucks other → end ≡ other
  one_fold lines lucks end other plain p q =
      fold_by lines lines lucks lucks end other plain p q refl refl
