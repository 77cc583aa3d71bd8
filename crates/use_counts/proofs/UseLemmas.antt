-- which nodes are marked since their use changed
use mathlib.Core.Bool.{beq, not}
use Rattle.std.proofs.Common.{ℕ, ◌<◌, ◌≡◌, ◌⊎◌, inl, inr, ⊎_elim, Bool, true, false, List, length, slice_set, get_or-set_same, get_or-set_other, length-set, subst, refl, sym, ap, ◌∙◌}
use Rattle.std.specs.List.{Contains}
use Rattle.std.proofs.lemmas.Bool.{false≢true}
use Rattle.use_counts.specs.declared.node.Node.{Node}
use Rattle.use_counts.specs.NodeRule.{no_node, node_at}
use Rattle.use_counts.specs.Held.{differs, used_at}
use Rattle.use_counts.specs.Uses.{Marking, Stay, AreMarked}
use Rattle.use_counts.proofs.EdgeLemmas.{at_each}

alike : (a : Bool) → differs a a ≡ false
alike true = refl
alike false = refl

-- as a body tests it
differ_so : (a b : Bool) → differs a b ≡ true → not (beq a b) ≡ true
differ_so true true h = h
differ_so true false h = h
differ_so false true h = h
differ_so false false h = h

-- where the ends differ, one of two steps differs
by_steps : (R : Type 0) (a b c : Bool) → (differs a b ≡ true → R) → (differs b c ≡ true → R) → differs a c ≡ true → R
by_steps R true true c first second h = second h
by_steps R true false c first second h = first refl
by_steps R false true c first second h = first refl
by_steps R false false c first second h = second h

pub stay_still : (old : Marking) → Stay old old
stay_still old = record { ids = λ k h. h; room = refl }

pub stay_more : (old mid new : Marking) → Stay old mid → Stay mid new → Stay old new
stay_more old mid new s t = record { ids = λ k h. t.ids k (s.ids k h); room = t.room ∙ s.room }

-- nothing is marked where no use differs
pub same_uses : (before after : List Node) (old : Marking) → length after ≡ length before → ((k : ℕ) → used_at after k ≡ used_at before k) → AreMarked before after old old
same_uses before after old size same =
    record {
      all = λ k h. absurd (false≢true (sym (ap (differs (used_at before k)) (same k) ∙ alike (used_at before k)) ∙ h));
      only = λ k h. inl h;
      size = size;
      stay = stay_still old;
    }

pub marked_more : (before mid after : List Node) (old between new : Marking) → AreMarked before mid old between → AreMarked mid after between new → AreMarked before after old new
marked_more before mid after old between new s t =
    record {
      all = λ k. by_steps (Contains new.ids k) (used_at before k) (used_at mid k) (used_at after k) (λ h. t.stay.ids k (s.all k h)) (t.all k);
      only = λ k h. ⊎_elim (s.only k) (λ (below : k < length mid). inr (subst (λ (n : ℕ). k < n) s.size below)) (t.only k h);
      size = t.size ∙ s.size;
      stay = stay_more old between new s.stay t.stay;
    }

-- one node is written, and marked where its use changed
marked_put : (nodes : List Node) (place : ℕ) (now : Node) (old new : Marking) → place < length nodes → (differs (used_at nodes place) now.used ≡ true → Contains new.ids place)
    → ((k : ℕ) → Contains new.ids k → Contains old.ids k ⊎ (k ≡ place)) → Stay old new → AreMarked nodes (slice_set nodes place now) old new
marked_put nodes place now old new within here only stay =
    record {
      all = at_each (λ k. differs (used_at nodes k) (used_at (slice_set nodes place now) k) ≡ true → Contains new.ids k) place
          (λ h. here (sym (ap (λ (n : Node). differs (used_at nodes place) n.used) (get_or-set_same nodes place now no_node within)) ∙ h))
          (λ k ne h. absurd (false≢true (sym (ap (λ (n : Node). differs (used_at nodes k) n.used) (get_or-set_other nodes place k now no_node ne) ∙ alike (used_at nodes k)) ∙ h)));
      only = λ k h. ⊎_elim inl (λ (e : k ≡ place). inr (subst (λ (n : ℕ). n < length nodes) (sym e) within)) (only k h);
      size = length-set nodes place now;
      stay = stay;
    }

-- the same, as a body writes and marks it
pub noted_put : (nodes written : List Node) (place : ℕ) (was now : Node) (old new : Marking) → place < length nodes → written ≡ slice_set nodes place now → was ≡ node_at nodes place
    → (not (beq was.used now.used) ≡ true → Contains new.ids place) → ((k : ℕ) → Contains new.ids k → Contains old.ids k ⊎ (k ≡ place)) → Stay old new → AreMarked nodes written old new
noted_put nodes written place was now old new within is read here only stay =
    subst (λ (ns : List Node). AreMarked nodes ns old new) (sym is)
    (marked_put nodes place now old new within (λ h. here (differ_so was.used now.used (ap (λ (n : Node). differs n.used now.used) read ∙ h))) only stay)
