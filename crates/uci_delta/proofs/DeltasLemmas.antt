-- The deltas of a text, part by part.
use Rattle.std.proofs.Common.{ℕ, ◌≡◌, List, [], ◌∷◌, ◌++◌, Option, Some, None, refl, sym, ap, subst, ◌∙◌, append_assoc}
use Rattle.std.specs.List.{AllZip}
use Rattle.uci_delta.specs.declared.delta.Delta.{Delta}
use Rattle.uci_delta.specs.Parts.{AreParts, IsCut}
use Rattle.uci_delta.specs.Deltas.{Gives, given, AreDeltas, GivesTo}
use Rattle.uci_delta.proofs.PartLemmas.{one_cut}
use Rattle.uci_delta.proofs.LineLemmas.{one_delta}

given_first : (first : Option Delta) (found : List (Option Delta)) (more : List Delta) → more ≡ given found → given (first ∷ []) ++ more ≡ given (first ∷ found)
given_first None found more e = e
given_first (Some delta) found more e = ap (λ (z : List Delta). delta ∷ z) e

-- the deltas of a text, where those of its rest are known
abbrev pub ReadsOn : List ℕ → List ℕ → List ℕ → List Delta → Type 0
ReadsOn name text rest deltas = (more : List Delta) → AreDeltas name rest more → AreDeltas name text (deltas ++ more)

pub reads_on : (name text rest front back : List ℕ) (old new : List Delta) → ReadsOn name text rest old → IsCut rest front back → GivesTo name front old new → ReadsOn name text back new
reads_on name text rest front back old new h c g = λ more m.
    let d : AreDeltas name rest (given (g.0 ∷ []) ++ more) = record { parts = front ∷ m.parts; cut = c.parts m.parts m.cut; found = g.0 ∷ m.found; each = (g.1, m.each); are = given_first g.0 m.found more m.are } in
    subst (AreDeltas name text) (sym (append_assoc old (given (g.0 ∷ [])) more) ∙ ap (λ (z : List Delta). z ++ more) (sym g.2)) (h (given (g.0 ∷ []) ++ more) d)

pub reads_last : (name text rest : List ℕ) (old new : List Delta) → ReadsOn name text rest old → AreParts rest (rest ∷ []) → GivesTo name rest old new → AreDeltas name text new
reads_last name text rest old new h c g =
    let d : AreDeltas name rest (given (g.0 ∷ [])) = record { parts = rest ∷ []; cut = c; found = g.0 ∷ []; each = (g.1, tt); are = refl } in
    subst (AreDeltas name text) (sym g.2) (h (given (g.0 ∷ [])) d)

-- a text has one list of deltas
one_given : (name part : List ℕ) (a b : Option Delta) → Gives name part a → Gives name part b → b ≡ a
one_given name part None None g h = refl
one_given name part None (Some b) g h = absurd (g b h.0 h.1)
one_given name part (Some a) None g h = absurd (h a g.0 g.1)
one_given name part (Some a) (Some b) g h = ap Some (one_delta part b a (h.0 ∙ sym g.0) h.1 g.1)

same_found : (name : List ℕ) (parts : List (List ℕ)) (a b : List (Option Delta)) → AllZip (Gives name) parts a → AllZip (Gives name) parts b → b ≡ a
same_found name [] [] [] g h = refl
same_found name [] [] (y ∷ b) g h = absurd h
same_found name [] (x ∷ a) b g h = absurd g
same_found name (part ∷ parts) [] b g h = absurd g
same_found name (part ∷ parts) (x ∷ a) [] g h = absurd h
same_found name (part ∷ parts) (x ∷ a) (y ∷ b) g h = ap (λ (z : Option Delta). z ∷ b) (one_given name part x y g.0 h.0) ∙ ap (λ (z : List (Option Delta)). x ∷ z) (same_found name parts a b g.1 h.1)

pub one_list : (name text : List ℕ) (deltas others : List Delta) → AreDeltas name text deltas → AreDeltas name text others → others ≡ deltas
one_list name text deltas others a b =
    let e : AllZip (Gives name) a.parts b.found = subst (λ (z : List (List ℕ)). AllZip (Gives name) z b.found) (one_cut text b.parts a.parts b.cut a.cut) b.each in
    b.are ∙ ap given (same_found name a.parts a.found b.found a.each e) ∙ sym a.are
