-- What is held of a source.
use Rattle.std.proofs.Common.{arith, ℕ, ◌≡◌, ◌<◌, ◌++◌, List, [], length, ap, sym, subst, ◌∙◌, length-append, ◌⊎◌, inl, inr, Option, Some, None, refl}
use Rattle.std.specs.Prelude.{IfSome}
use Rattle.std.proofs.lemmas.List.{append_assoc, nil_from_length}
use Rattle.plane_words.specs.Growth.{Gives}
use Rattle.http_requests.specs.Front.{IsUnfinished}
use Rattle.http_requests.specs.Look.{Awaits}
use Rattle.http_requests.specs.Next.{Keeps, IsEmpty, HasNoWhole}
use Rattle.http_requests.proofs.FrontLemmas.{unfinished_not_whole}

-- bytes that wait go on to wait until there are enough
pub awaits_more : (bytes given : List ℕ) (wanted : ℕ) → Awaits bytes wanted → length (bytes ++ given) < wanted → Awaits (bytes ++ given) wanted
awaits_more bytes given wanted awaits few = record {
  unfinished = λ more short. subst IsUnfinished (sym (append_assoc bytes given more))
      (awaits.unfinished (given ++ more) (subst (λ z. length z < wanted) (append_assoc bytes given more) short));
  more = few;
  bounded = awaits.bounded;
}

-- what is given is held
pub keeps_on : (left now next : Option (List ℕ)) (held held_now given : List ℕ) → Keeps left now held held_now → Gives now next given → Keeps left next held (held_now ++ given)
keeps_on None now next held held_now given keeps gives = subst (λ z. Gives z next given) keeps gives
keeps_on (Some left) now next held held_now given keeps gives =
    let g = subst (λ z. Gives z next given) keeps.1 gives in
    (g.0, g.2, append_assoc held_now given g.0 ∙ (ap (λ z. held_now ++ z) (sym g.1) ∙ keeps.2))

-- a source that gives nothing more has nothing left
pub empty_stays : (now next : Option (List ℕ)) (given : List ℕ) → IfSome now (λ bytes. bytes ≡ []) → Gives now next given → IsEmpty next
empty_stays None next given none gives = subst IsEmpty (sym gives) tt
empty_stays (Some bytes) next given none gives =
    let long = length-append given gives.0 in
    let all : length (given ++ gives.0) ≡ 0 = sym (ap length gives.1) ∙ ap length none in
    let rest : gives.0 ≡ [] = nil_from_length gives.0 (omega (arith, long, all)) in
    subst IsEmpty (sym gives.2) rest

-- no whole request was held where what is held now is unfinished
pub none_was_held : {A : Type 0} (held old : List ℕ) → (A × (held ≡ old)) ⊎ HasNoWhole old → IsUnfinished held → HasNoWhole old
none_was_held held old (inl untouched) unfinished = subst HasNoWhole untouched.1 (unfinished_not_whole held unfinished)
none_was_held held old (inr none) unfinished = none
