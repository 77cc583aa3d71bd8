-- ids are marked as their nodes are
use Rattle.std.proofs.Common.{arith, ℕ, ◌<◌, ◌≡◌, inl, inr, ⊎_elim, Bool, true, false, length, refl, sym, ap, ◌∙◌}
use Rattle.std.proofs.lemmas.Bool.{false≢true}
use Rattle.use_counts.specs.Held as held
use Rattle.use_counts.specs.Network.{Network, used}
use Rattle.use_counts.specs.Uses.{Marking}
use Rattle.use_counts.specs.Uses as counts
use Rattle.use_counts.proofs.UseLemmas.{stay_still}
use Rattle.graph_rules.specs.State.{Known}
use Rattle.graph_rules.specs.Answers.{used_in}
use Rattle.graph_rules.specs.Edges.{differs}
use Rattle.graph_counts.specs.Counted.{name_of, network_of}
use Rattle.graph_counts.specs.Sound.{IsSound}
use Rattle.graph_counts.specs.Uses.{TellsUses}
use Rattle.graph_counts.proofs.AnswerLemmas.{members_size, used_at}

same_test : (a b : Bool) → held.differs a b ≡ differs a b
same_test true b = refl
same_test false b = refl

alike : (a : Bool) → differs a a ≡ false
alike true = refl
alike false = refl

-- nothing is marked where nothing is told
pub no_uses : (s : Known) (old : Marking) → TellsUses s s old old
no_uses s old =
    record {
      all = λ id within d. absurd (false≢true (sym (alike (used_in s (name_of s id))) ∙ d));
      only = λ id m. inl m;
      stay = stay_still old;
    }

pub told_uses : (s t : Known) (was net : Network) (old new : Marking) → IsSound s → IsSound t → length t.names ≡ length s.names → was ≡ network_of s → net ≡ network_of t → counts.TellsUses was net old new → TellsUses s t old new
told_uses s t was net old new h k long is tied told =
    let size = members_size s was is in
    record {
      all = λ id within d.
          let before = ap (λ (n : Network). used n id) is ∙ used_at s h id within in
          let after = ap (λ (n : Network). used n id) tied ∙ used_at t k id (omega (arith, within, long)) in
          told.all id (omega (arith, within, size)) (ap (λ b. held.differs b (used net id)) before ∙ ap (held.differs (used_in s (name_of s id))) after ∙ same_test (used_in s (name_of s id)) (used_in t (name_of t id)) ∙ d);
      only = λ id m. ⊎_elim inl (λ (below : id < length was.members). inr (omega (arith, below, size))) (told.only id m);
      stay = told.stay;
    }
