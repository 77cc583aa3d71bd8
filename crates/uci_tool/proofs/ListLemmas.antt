-- Texts of packages one after another.
use Rattle.std.proofs.Common.{ℕ, suc, ◌≡◌, ◌<◌, ◌+◌, List, ◌∷◌, ◌++◌, length, drop, get_or, add-one, drop-cons, Option, Some, None, Result, Ok, Err, ap, sym, ◌∙◌, append_assoc}
use Rattle.std.proofs.lemmas.List.{append-nil}
use Rattle.std.proofs.Math.Seq.{drop-length}
use Rattle.uci_cli.specs.declared.refusal.Refusal.{Refusal}
use Rattle.uci_tool.specs.declared.texts.Printed.{Printed}
use Rattle.uci_tool.specs.Texts.{before, each}

printed_from : List ℕ → Option Refusal → Printed
printed_from output refusal = record { output = output; refusal = refusal }

-- what was printed with more in front
abbrev pub in_front : List ℕ → Printed → Printed
in_front out printed = record { output = out ++ printed.output; refusal = printed.refusal }

pub from_here : (names : List (List ℕ)) (place : ℕ) (name : List ℕ) → place < length names → name ≡ get_or names place name → drop place names ≡ name ∷ drop (place + 1) names
from_here names place name inside is = rw add-one (drop-cons names place name inside ∙ ap (λ y. y ∷ drop (suc place) names) (sym is))

-- the next package is printed
pub list_step : (f : List ℕ → Result (List ℕ) Refusal) (names : List (List ℕ)) (place : ℕ) (name text out more : List ℕ) → place < length names → name ≡ get_or names place name → f name ≡ Ok text → more ≡ out ++ text
    → in_front more (each f (drop (place + 1) names)) ≡ in_front out (each f (drop place names))
unfolding printed_from
list_step f names place name text out more inside is done grown =
    let rest : Printed = each f (drop (place + 1) names) in
    ap (λ (z : List ℕ). printed_from (z ++ rest.output) rest.refusal) grown
    ∙ ap (λ (z : List ℕ). printed_from z rest.refusal) (append_assoc out text rest.output)
    ∙ ap (λ (z : Result (List ℕ) Refusal). in_front out (before z rest)) (sym done)
    ∙ ap (λ (z : List (List ℕ)). in_front out (each f z)) (sym (from_here names place name inside is))

-- or is refused, and no more is printed
pub list_end : (f : List ℕ → Result (List ℕ) Refusal) (names : List (List ℕ)) (place : ℕ) (name out : List ℕ) (refusal : Refusal) → place < length names → name ≡ get_or names place name → f name ≡ Err refusal
    → in_front out (each f (drop place names)) ≡ record { output = out; refusal = Some refusal }
unfolding printed_from
list_end f names place name out refusal inside is refused =
    let rest : Printed = each f (drop (place + 1) names) in
    ap (λ (z : List (List ℕ)). in_front out (each f z)) (from_here names place name inside is)
    ∙ ap (λ (z : Result (List ℕ) Refusal). in_front out (before z rest)) refused
    ∙ ap (λ (z : List ℕ). printed_from z (Some refusal)) (append-nil out)

-- all were printed
pub list_all_done : (f : List ℕ → Result (List ℕ) Refusal) (names : List (List ℕ)) (out : List ℕ) → in_front out (each f (drop (length names) names)) ≡ record { output = out; refusal = None }
unfolding printed_from
list_all_done f names out =
    ap (λ (z : List (List ℕ)). in_front out (each f z)) (drop-length names)
    ∙ ap (λ (z : List ℕ). printed_from z None) (append-nil out)
