-- Random words that are used up.
use Rattle.std.proofs.Common.{zero, suc, ℕ, ◌≡◌, ◌+◌, List, [], ◌∷◌, ◌++◌, Option, Some, None, Bool, true, false, refl, ap, sym, subst, ◌∙◌, arith}
use Rattle.std.specs.Prelude.{if◌then◌else◌}
use Rattle.plane_outside.specs.Given.{Advances}
use Rattle.plane_outside.specs.Supply.{Supply, ahead, supply_of, AreNext, Uses, IsFirst}
use Rattle.bus_lines.specs.Words.{used_by}

-- no word
pub uses_none : (supply : Supply) → Uses supply [] supply
uses_none None = refl
uses_none (Some words) = (words, refl, λ k. refl)

-- words that are the same one by one
next_same : (words between : ℕ → ℕ) (more : List ℕ) (after : ℕ → ℕ)
    → ((k : ℕ) → between k ≡ words k) → AreNext between more after → AreNext words more after
next_same words between [] after same q = λ k. q k ∙ same k
next_same words between (word ∷ more) after same q =
    (q.0 ∙ same 0, next_same (λ k. words (k + 1)) (λ k. between (k + 1)) more after (λ k. same (k + 1)) q.1)

next_more : (words : ℕ → ℕ) (used more : List ℕ) (between after : ℕ → ℕ)
    → AreNext words used between → AreNext between more after → AreNext words (used ++ more) after
next_more words [] more between after p q = next_same words between more after p q
next_more words (word ∷ used) more between after p q =
    (p.0, next_more (λ k. words (k + 1)) used more between after p.1 q)

-- words behind others
pub uses_more : (a b c : Supply) (used more : List ℕ) → Uses a used b → Uses b more c
    → Uses a (used ++ more) c
uses_more None None c used more p q = q
uses_more None (Some between) c used more p q = absurd (cc p)
uses_more (Some words) None c used more p q = absurd (cc p.1)
uses_more (Some words) (Some between) c used more p q =
    let same : p.0 ≡ between = cc p.1 in
    (q.0, q.1, next_more words used more between q.0 (subst (λ (f : ℕ → ℕ). AreNext words used f) same p.2) q.2)

-- ---- the word that is at hand

suc_is : (k : ℕ) → k + 1 ≡ suc k
suc_is k = omega arith

ahead_next : (word : ℕ) (words : ℕ → ℕ) (k : ℕ) → ahead word words (k + 1) ≡ words k
ahead_next word words k = ap (ahead word words) (suc_is k)

ahead_is : (word : ℕ) (next words : ℕ → ℕ) → word ≡ words 0 → ((k : ℕ) → next k ≡ words (k + 1))
    → (k : ℕ) → ahead word next k ≡ words k
ahead_is word next words first rest zero = first
ahead_is word next words first rest (suc k) = rest k ∙ ap words (suc_is k)

pub first_kept : (word : ℕ) (source : Supply) → IsFirst (supply_of (Some word) source) word
first_kept word None = tt
first_kept word (Some words) = refl

pub first_drawn : (old new : Supply) (word : ℕ) → Advances old new word
    → IsFirst (supply_of None old) word
first_drawn None new word a = tt
first_drawn (Some words) new word a = a.0

pub stays_drawn : (old new : Supply) (word : ℕ) → Advances old new word
    → Uses (supply_of None old) [] (supply_of (Some word) new)
stays_drawn None new word a = ap (supply_of (Some word)) a
stays_drawn (Some words) new word a =
    let rest = a.1 in
    (ahead word rest.0, ap (supply_of (Some word)) rest.1, ahead_is word rest.0 words a.0 rest.2)

-- the word is used up where a session was made
pub used_after : (front source : Supply) (word : ℕ) (created : Bool) → IsFirst front word
    → Uses front [] (supply_of (Some word) source)
    → Uses front (used_by created word) (supply_of (if created then None else Some word) source)
used_after None None word created first stays = refl
used_after None (Some source) word created first stays = absurd (cc stays)
used_after (Some words) None word created first stays = absurd (cc stays.1)
used_after (Some words) (Some source) word false first stays = stays
used_after (Some words) (Some source) word true first stays =
    let same : ahead word source ≡ stays.0 = cc stays.1 in (
      source,
      refl,
      (first, λ k. sym (ahead_next word source k) ∙ ap (λ (f : ℕ → ℕ). f (k + 1)) same ∙ stays.2 (k + 1)),
    )

pub used_up : (front source : Supply) (word : ℕ) (created : Bool) (kept spare : Option ℕ)
    → kept ≡ Some word → spare ≡ (if created then None else kept) → IsFirst front word
    → Uses front [] (supply_of kept source) → Uses front (used_by created word) (supply_of spare source)
used_up front source word created kept spare is next first stays =
    subst (λ (o : Option ℕ). Uses front (used_by created word) (supply_of o source))
    (sym (next ∙ ap (λ (o : Option ℕ). if created then None else o) is))
    (used_after front source word created first
    (subst (λ (o : Option ℕ). Uses front [] (supply_of o source)) is stays))
