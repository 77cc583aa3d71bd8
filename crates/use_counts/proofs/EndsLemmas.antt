use Rattle.std.proofs.Common.{arith, ℕ, zero, suc, ◌+◌, ◌<◌, ◌≡◌, ◌==◌, ◌≢◌, ⊎_elim, cond, List, [], ◌∷◌, ◌++◌, length, map, filter, take, get_or, slice_set, Vec, Global, refl, sym, ap, ◌∙◌}
use Rattle.std.proofs.lemmas.Bool.{cases_eq, eq-eqb, ne_eqb}
use Rattle.std.proofs.lemmas.List.{map-append, append-nil}
use Rattle.std.proofs.lemmas.List.Elements.{filter_more}
use Rattle.use_counts.specs.declared.node.Edge.{Edge}
use Rattle.use_counts.specs.Edges.{far_ends}
use Rattle.use_counts.specs.Held.{items_at}

pub items_push : (xs : List (Vec ℕ Global)) (v : Vec ℕ Global) (k : ℕ) → v.items ≡ [] → items_at xs k ≡ [] → items_at (xs ++ v ∷ []) k ≡ []
items_push [] v zero e h = e
items_push [] v (suc k) e h = refl
items_push (x ∷ xs) v zero e h = h
items_push (x ∷ xs) v (suc k) e h = items_push xs v k e h

items_set_same : (xs : List (Vec ℕ Global)) (i : ℕ) (v : Vec ℕ Global) → i < length xs → items_at (slice_set xs i v) i ≡ v.items
items_set_same [] i v h = absurd (omega arith)
items_set_same (x ∷ xs) zero v h = refl
items_set_same (x ∷ xs) (suc i) v h = items_set_same xs i v (omega arith)

items_set_other : (xs : List (Vec ℕ Global)) (i k : ℕ) (v : Vec ℕ Global) → k ≢ i → items_at (slice_set xs i v) k ≡ items_at xs k
items_set_other [] i k v ne = refl
items_set_other (x ∷ xs) zero zero v ne = absurd (ne refl)
items_set_other (x ∷ xs) zero (suc k) v ne = refl
items_set_other (x ∷ xs) (suc i) zero v ne = refl
items_set_other (x ∷ xs) (suc i) (suc k) v ne = items_set_other xs i k v (λ e. ne (ap suc e))

items_read : (xs : List (Vec ℕ Global)) (i : ℕ) (v : Vec ℕ Global) → i < length xs → v ≡ get_or xs i v → items_at xs i ≡ v.items
items_read [] i v h e = absurd (omega arith)
items_read (x ∷ xs) zero v h e = ap (λ (w : Vec ℕ Global). w.items) (sym e)
items_read (x ∷ xs) (suc i) v h e = items_read xs i v (omega arith) e

ends_more : (far near : Edge → ℕ) (es : List Edge) (i k : ℕ) (d : Edge) → i < length es → far_ends far near (take (i + 1) es) k ≡ far_ends far near (take i es) k ++ map far (cond (near (get_or es i d) == k) (get_or es i d ∷ []) [])
unfolding far_ends
ends_more far near es i k d h = ap (map far) (filter_more (λ e. near e == k) es i d h) ∙ map-append far (filter (λ e. near e == k) (take i es)) _

pub listed : (far near : Edge → ℕ) (es : List Edge) (i k : ℕ) (d : Edge) (lists : List (Vec ℕ Global)) (was now : Vec ℕ Global) → i < length es → near (get_or es i d) < length lists → was ≡ get_or lists (near (get_or es i d)) was
    → now.items ≡ was.items ++ far (get_or es i d) ∷ [] → items_at lists k ≡ far_ends far near (take i es) k → items_at (slice_set lists (near (get_or es i d)) now) k ≡ far_ends far near (take (i + 1) es) k
listed far near es i k d lists was now h within read pushed kept =
    let place = near (get_or es i d) in
    let more = ends_more far near es i k d h in
    ⊎_elim
    (λ e. ap (items_at (slice_set lists place now)) (sym e) ∙ items_set_same lists place now within ∙ pushed
    ∙ ap (λ xs. xs ++ far (get_or es i d) ∷ []) (sym (items_read lists place was within read) ∙ ap (items_at lists) e ∙ kept)
    ∙ sym (more ∙ ap (λ b. far_ends far near (take i es) k ++ map far (cond b (get_or es i d ∷ []) [])) (eq-eqb place k e)))
    (λ ne. items_set_other lists place k now (λ e. ne (sym e)) ∙ kept ∙ sym (more ∙ ap (λ b. far_ends far near (take i es) k ++ map far (cond b (get_or es i d ∷ []) [])) (ne_eqb place k ne) ∙ append-nil _))
    (cases_eq place k)
