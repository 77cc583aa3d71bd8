-- Open requests that are renewed by needs: those that are no longer needed are dropped, and the needs without one are opened.
use Rattle.std.proofs.Common.{◌≡◌, ℕ, List, [], ◌++◌, Bool, true, false, cond, Option, Some, None, refl, ap, sym, subst, ◌∙◌}
use Rattle.std.specs.Prelude.{filter, is_none}
use Rattle.std.specs.Bool.{Decides}
use Rattle.std.specs.Option.{option_map, option_and_then}
use Rattle.net_rules.specs.After.{is_same_need}
use Rattle.net_rules.proofs.TableLemmas.{found_in, first_some, found_behind, found_member}
use Rattle.net_rules.proofs.OnceLemmas.{AreOnce, kept_if, found_filter, once_filter, once_behind, found_once, all_kept, none_kept}

-- open requests, what each asks, and the needs by name
module _ {O A : Type 0} (request : O → A) (name : A → List ℕ) (same : A → A → Bool) (tells : (a b : A) → Decides (same a b) (a ≡ b)) (need : List ℕ → Option A) (named : (q : List ℕ) (a : A) → need q ≡ Some a → name a ≡ q) where
  module _ (xs : List O) (once : AreOnce (λ o. name (request o)) xs) (needs : List A) (once_needs : AreOnce name needs) (all : (q : List ℕ) → found_in name needs q ≡ need q) where
    abbrev left : List O
    left = filter (λ o. is_same_need same (need (name (request o))) (request o)) xs

    abbrev new : List A
    new = filter (λ a. is_none (found_in (λ o. name (request o)) left (name a))) needs

    pub left_found : (q : List ℕ) → found_in (λ o. name (request o)) left q ≡ kept_if (λ o. is_same_need same (need (name (request o))) (request o)) (found_in (λ o. name (request o)) xs q)
    left_found q = found_filter (λ o. name (request o)) (λ o. is_same_need same (need (name (request o))) (request o)) xs once q

    new_found : (q : List ℕ) → found_in name new q ≡ kept_if (λ a. is_none (found_in (λ o. name (request o)) left (name a))) (need q)
    new_found q = found_filter name (λ a. is_none (found_in (λ o. name (request o)) left (name a))) needs once_needs q ∙ ap (kept_if (λ a. is_none (found_in (λ o. name (request o)) left (name a)))) (all q)

    -- a request that is left is the need
    left_needed : (q : List ℕ) (o : O) → found_in (λ o. name (request o)) left q ≡ Some o → need q ≡ Some (request o)
    left_needed q o h = was (found_in (λ o. name (request o)) xs q) refl (sym (left_found q) ∙ h)
      where
        by_need : (p : O) (n : Option A) → need (name (request p)) ≡ n → is_same_need same n (request p) ≡ true → need (name (request p)) ≡ Some (request p)
        by_need p None is passes = cc passes
        by_need p (Some a) is passes = is ∙ ap Some ((tells a (request p)).0 passes)

        kept : (p : O) (b : Bool) → is_same_need same (need (name (request p))) (request p) ≡ b → name (request p) ≡ q → cond b (Some p) None ≡ Some o → need q ≡ Some (request o)
        kept p true passes at e =
            let equal : p ≡ o = cc e in
            subst (λ k. need k ≡ Some (request o)) at (subst (λ z. need (name (request p)) ≡ Some (request z)) equal (by_need p (need (name (request p))) refl passes))
        kept p false passes at e = cc e

        was : (x : Option O) → found_in (λ o. name (request o)) xs q ≡ x → kept_if (λ o. is_same_need same (need (name (request o))) (request o)) x ≡ Some o → need q ≡ Some (request o)
        was None is e = cc e
        was (Some p) is e = kept p (is_same_need same (need (name (request p))) (request p)) refl (found_member (λ o. name (request o)) xs q p is).same e

    module _ (ys : List O) (once_ys : AreOnce (λ o. name (request o)) ys) (opened : (q : List ℕ) → option_map request (found_in (λ o. name (request o)) ys q) ≡ found_in name new q) where
      opened_none : (q : List ℕ) → found_in name new q ≡ None → found_in (λ o. name (request o)) ys q ≡ None
      opened_none q none = by_found (found_in (λ o. name (request o)) ys q) (opened q ∙ none)
        where
          by_found : (x : Option O) → option_map request x ≡ None → x ≡ None
          by_found None e = refl
          by_found (Some o) e = cc e

      -- what is opened has no request that was left
      new_apart : (q : List ℕ) (o : O) → found_in (λ o. name (request o)) left q ≡ Some o → found_in (λ o. name (request o)) ys q ≡ None
      new_apart q o h = opened_none q (new_found q ∙ ap (kept_if (λ a. is_none (found_in (λ o. name (request o)) left (name a)))) (left_needed q o h) ∙ not_new)
        where
          at_q : name (request o) ≡ q
          at_q = named q (request o) (left_needed q o h)

          not_new : cond (is_none (found_in (λ o. name (request o)) left (name (request o)))) (Some (request o)) None ≡ None
          not_new = ap (λ k. cond (is_none (found_in (λ o. name (request o)) left k)) (Some (request o)) None) at_q ∙ ap (λ x. cond (is_none x) (Some (request o)) None) h

      pub renewed_once : AreOnce (λ o. name (request o)) (left ++ ys)
      renewed_once = once_behind (λ o. name (request o)) left ys (once_filter (λ o. name (request o)) (λ o. is_same_need same (need (name (request o))) (request o)) xs once) once_ys new_apart

      -- the requests are the needs
      pub renewed : (q : List ℕ) → option_map request (found_in (λ o. name (request o)) (left ++ ys) q) ≡ need q
      renewed q = ap (option_map request) (found_behind (λ o. name (request o)) left ys q) ∙ by_left (found_in (λ o. name (request o)) left q) refl
        where
          none_left : (n : Option A) → need q ≡ n → found_in (λ o. name (request o)) left q ≡ None → kept_if (λ a. is_none (found_in (λ o. name (request o)) left (name a))) n ≡ n
          none_left None is none = refl
          none_left (Some a) is none = ap (λ k. cond (is_none (found_in (λ o. name (request o)) left k)) (Some a) None) (named q a is) ∙ ap (λ x. cond (is_none x) (Some a) None) none

          by_left : (x : Option O) → found_in (λ o. name (request o)) left q ≡ x → option_map request (first_some x (found_in (λ o. name (request o)) ys q)) ≡ need q
          by_left None is = opened q ∙ new_found q ∙ none_left (need q) refl is
          by_left (Some o) is = sym (left_needed q o is)

      -- what an open request has beside its question: none that is opened has it yet
      pub renewed_value : {V : Type 0} (value : O → Option V) → ((q : List ℕ) (o : O) → found_in (λ o. name (request o)) ys q ≡ Some o → value o ≡ None) → (q : List ℕ)
          → option_and_then value (found_in (λ o. name (request o)) (left ++ ys) q)
          ≡ option_and_then value (found_in (λ o. name (request o)) left q)
      renewed_value value bare q = ap (option_and_then value) (found_behind (λ o. name (request o)) left ys q) ∙ by_left (found_in (λ o. name (request o)) left q) (found_in (λ o. name (request o)) ys q) refl
        where
          by_left : (x y : Option O) → found_in (λ o. name (request o)) ys q ≡ y → option_and_then value (first_some x y) ≡ option_and_then value x
          by_left None None is = refl
          by_left None (Some o) is = bare q o is
          by_left (Some p) y is = refl

    -- where the requests are the needs already, nothing is dropped and nothing opened
    module _ (are : (q : List ℕ) → option_map request (found_in (λ o. name (request o)) xs q) ≡ need q) where
      pub nothing_dropped : left ≡ xs
      nothing_dropped = all_kept (λ o. is_same_need same (need (name (request o))) (request o)) xs (λ o member.
          let is : need (name (request o)) ≡ Some (request o) = sym (are (name (request o))) ∙ ap (option_map request) (found_once (λ o. name (request o)) xs once o member) in
          ap (λ n. is_same_need same n (request o)) is ∙ (tells (request o) (request o)).1 refl)

      pub nothing_opened : new ≡ []
      nothing_opened = none_kept (λ a. is_none (found_in (λ o. name (request o)) left (name a))) needs (λ a member.
          let is : need (name a) ≡ Some a = sym (all (name a)) ∙ found_once name needs once_needs a member in
          some_there a (found_in (λ o. name (request o)) left (name a)) (ap (λ zs. option_map request (found_in (λ o. name (request o)) zs (name a))) nothing_dropped ∙ are (name a) ∙ is))
        where
          some_there : (a : A) (x : Option O) → option_map request x ≡ Some a → is_none x ≡ false
          some_there a None e = cc e
          some_there a (Some o) e = refl
