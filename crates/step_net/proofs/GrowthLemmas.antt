-- What was asked and printed, one piece after the other.
use Rattle.std.proofs.Common.{◌≡◌, inl, inr, List, [], ◌++◌, Option, Some, None, ap, sym, subst, ◌∙◌, append_assoc, append-nil, refl}
use Rattle.plane_words.specs.Growth.{Grows, GrowsByFront}
use Rattle.kern_model.specs.declared.kernel.Asked.{Asked}
use Rattle.kern_model.specs.Kernel.{Records}

pub grows_none : {X : Type 0} → (held : Option (List X)) → Grows held held []
grows_none None = refl
grows_none (Some l) = ap Some (sym (append-nil l))

pub grows_more : {X : Type 0} → (old between new : Option (List X)) (xs ys : List X)
    → Grows old between xs → Grows between new ys → Grows old new (xs ++ ys)
grows_more None None new xs ys p q = q
grows_more None (Some l) new xs ys p q = cc p
grows_more (Some o) None new xs ys p q = cc p
grows_more (Some o) (Some l) new xs ys p q =
    let same : l ≡ o ++ xs = cc p in
    q ∙ ap (λ x. Some (x ++ ys)) same ∙ ap Some (append_assoc o xs ys)

-- a front behind a whole part is a front of both
unfoldable pub grows_to_front : {X : Type 0} → (old between new : Option (List X)) (xs ys : List X)
    → Grows old between xs → GrowsByFront between new ys → GrowsByFront old new (xs ++ ys)
grows_to_front old between new xs ys p q = record {
  front = xs ++ q.front;
  back = q.back;
  parts = ap (λ z. xs ++ z) q.parts ∙ sym (append_assoc xs q.front q.back);
  grows = grows_more old between new xs q.front p q.grows;
}

-- a front of the first part is a front of both
unfoldable pub front_of_more : {X : Type 0} → (old new : Option (List X)) (xs ys : List X)
    → GrowsByFront old new xs → GrowsByFront old new (xs ++ ys)
front_of_more old new xs ys q = record {
  front = q.front;
  back = q.back ++ ys;
  parts = ap (λ z. z ++ ys) q.parts ∙ append_assoc q.front q.back ys;
  grows = q.grows;
}

pub records_none : (asked : Option (List Asked)) → Records asked asked []
records_none asked = inr (grows_none asked)

pub records_more : (old between new : Option (List Asked)) (xs ys : List Asked)
    → Records old between xs → Records between new ys → Records old new (xs ++ ys)
records_more old between new xs ys p (inl ended) = inl ended
records_more old between new xs ys (inl ended) (inr q) = inl (subst (λ l. Grows l new ys) ended q)
records_more old between new xs ys (inr p) (inr q) = inr (grows_more old between new xs ys p q)
