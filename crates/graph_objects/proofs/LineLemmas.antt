-- Lines that take objects compare alike whatever the own values are, and tell objects of one key apart from others.
use Rattle.std.proofs.Common.{arith, ℕ, ◌≡◌, ◌≢◌, inl, inr, List, [], ◌∷◌, ◌++◌, refl, ap, sym, ◌∙◌}
use Rattle.std.specs.Prelude.{codes, decimal}
use Rattle.std.specs.Ordering.{nat_cmp, ordering_then}
use Rattle.std.specs.List.{AllByRecursion}
use Rattle.std.specs.declared.cmp.Ordering.{Ordering}
use Rattle.std.specs.declared.cmp.Ordering.TheVariants.{Less, Equal, Greater}
use Rattle.std.specs.Cmp.{tied_itself, nat_cmp_total}
use Rattle.std.specs.Cmp.Lexicographic.{slice_cmp}
use Rattle.std.proofs.lemmas.List.{append_assoc}
use Rattle.kern_model.specs.declared.object.Mac.{Mac}
use Rattle.kern_model.specs.declared.object.Object.{Object}
use Rattle.kern_model.specs.declared.object.Object.TheVariants as object
use Rattle.kern_model.specs.declared.object.Call.TheVariants.{Put, Take}
use Rattle.kern_model.specs.Line.{take_line, put_line, mac_text, IsPrintable, HaveOneVlan, HaveOneName}
use Rattle.kern_model.specs.CallOrder.{rank}
use Rattle.kern_model.proofs.OrderLemmas.{tied_of_equal}
use Rattle.kern_model.proofs.WordLemmas.{Plain, name}
use Rattle.kern_model.proofs.LineLemmas.{object_of_line, taken_of_line}
use Rattle.graph_objects.specs.Keys.{key_of}

-- objects of one name or of one VLAN have one key
key_of_vlan : (a b : Object) → HaveOneVlan a b → key_of a ≡ key_of b
key_of_vlan (object.Vlan b p i v u) (object.Vlan c q j w x) same = λ k. record { rank = rank (Put (object.Vlan b p i v u)); name = same.0 k; id = same.1 k }
key_of_vlan a b same = absurd same

key_of_name : (a b : Object) → HaveOneName a b → key_of a ≡ key_of b
key_of_name (object.Link n k) (object.Link m j) same = λ i. record { rank = rank (Put (object.Link n k)); name = same i; id = 0 }
key_of_name (object.Mtu n k) (object.Mtu m j) same = λ i. record { rank = rank (Put (object.Mtu n k)); name = same i; id = 0 }
key_of_name (object.Mac n k) (object.Mac m j) same = λ i. record { rank = rank (Put (object.Mac n k)); name = same i; id = 0 }
key_of_name (object.Master p b) (object.Master q c) same = λ i. record { rank = rank (Put (object.Master p b)); name = same i; id = 0 }
key_of_name (object.Vlan b p i v u) (object.Vlan c q j w x) same = key_of_vlan (object.Vlan b p i v u) (object.Vlan c q j w x) same
key_of_name a b same = absurd same

pub key_of_put : (a b : Object) → IsPrintable a → IsPrintable b → put_line a ≡ put_line b → key_of a ≡ key_of b
key_of_put a b p q h = elim (object_of_line a b p q h) as (λ _. key_of a ≡ key_of b) [
  | inl same ↦ ap key_of same
  | inr vlan ↦ key_of_vlan a b vlan
]

pub key_of_take : (a b : Object) (x : Mac) → IsPrintable a → IsPrintable b → take_line a 0 x ≡ take_line b 0 x → key_of a ≡ key_of b
key_of_take a b x p q h = elim (taken_of_line a b 0 0 x x p q (omega arith) (omega arith) h) as (λ _. key_of a ≡ key_of b) [
  | inl same ↦ ap key_of same
  | inr named ↦ key_of_name a b named
]

-- a comparison behind equal fronts
prefix_alike : (p u v : List ℕ) → slice_cmp nat_cmp (p ++ u) (p ++ v) ≡ slice_cmp nat_cmp u v
prefix_alike [] u v = refl
prefix_alike (x ∷ xs) u v = ap (λ r. ordering_then r (slice_cmp nat_cmp (xs ++ u) (xs ++ v))) (tied_itself nat_cmp_total x) ∙ prefix_alike xs u v

-- what is decided needs no more
decided : (r s t : Ordering) → (r ≡ Equal → ⊥) → ordering_then r s ≡ ordering_then r t
decided Less s t apart = refl
decided Equal s t apart = absurd (apart refl)
decided Greater s t apart = refl

-- where it is equal, what comes behind decides
behind : (r s t : Ordering) → (r ≡ Equal → s ≡ t) → ordering_then r s ≡ ordering_then r t
behind Less s t same = refl
behind Equal s t same = same refl
behind Greater s t same = refl

-- of two texts without a space that are not equal, each before a space, what comes behind does not count
texts_alike : (n m : List ℕ) → AllByRecursion (λ b. b ≢ 32) n → AllByRecursion (λ b. b ≢ 32) m → (n ≡ m → ⊥) → (u v w x : List ℕ) → slice_cmp nat_cmp (n ++ 32 ∷ u) (m ++ 32 ∷ v) ≡ slice_cmp nat_cmp (n ++ 32 ∷ w) (m ++ 32 ∷ x)
texts_alike [] [] p q apart u v w x = absurd (apart refl)
texts_alike [] (b ∷ ys) p q apart u v w x = decided (nat_cmp 32 b) _ _ (λ tie. q.0 (sym (tied_of_equal 32 b tie)))
texts_alike (a ∷ xs) [] p q apart u v w x = decided (nat_cmp a 32) _ _ (λ tie. p.0 (tied_of_equal a 32 tie))
texts_alike (a ∷ xs) (b ∷ ys) p q apart u v w x = behind (nat_cmp a b) _ _ (λ tie. texts_alike xs ys p.1 q.1 (λ same. apart (λ i. tied_of_equal a b tie i ∷ same i)) u v w x)

-- the same behind an equal front, as a line is put together
words_alike : (front n m : List ℕ) → Plain n → Plain m → (n ≡ m → ⊥) → (between u v w x : List ℕ) → slice_cmp nat_cmp (front ++ n ++ (32 ∷ between) ++ u) (front ++ m ++ (32 ∷ between) ++ v)
    ≡ slice_cmp nat_cmp (front ++ n ++ (32 ∷ between) ++ w) (front ++ m ++ (32 ∷ between) ++ x)
words_alike front n m p q apart between u v w x =
    ap2 u v ∙ texts_alike n m p.bytes q.bytes apart (between ++ u) (between ++ v) (between ++ w) (between ++ x) ∙ sym (ap2 w x)
  where
    joined : (k r : List ℕ) → front ++ k ++ (32 ∷ between) ++ r ≡ front ++ (k ++ 32 ∷ (between ++ r))
    joined k r = append_assoc (front ++ k) (32 ∷ between) r ∙ append_assoc front k (32 ∷ (between ++ r))

    ap2 : (r s : List ℕ) → slice_cmp nat_cmp (front ++ n ++ (32 ∷ between) ++ r) (front ++ m ++ (32 ∷ between) ++ s) ≡ slice_cmp nat_cmp (n ++ 32 ∷ (between ++ r)) (m ++ 32 ∷ (between ++ s))
    ap2 r s = (λ i. slice_cmp nat_cmp (joined n r i) (joined m s i)) ∙ prefix_alike front (n ++ 32 ∷ (between ++ r)) (m ++ 32 ∷ (between ++ s))

-- takes of one kind that are not of one name compare alike with any own values
pub takes_alike : (a b : Object) (i j k l : ℕ) (x y z w : Mac) → IsPrintable a → IsPrintable b → rank (Take a i x) ≡ rank (Take b j y) → (key_of a ≡ key_of b → ⊥) → slice_cmp nat_cmp (take_line a i x) (take_line b j y)
    ≡ slice_cmp nat_cmp (take_line a k z) (take_line b l w)
takes_alike (object.Mtu n t) (object.Mtu m s) i j k l x y z w p q level apart =
    words_alike (codes "link set dev ") n m (name n p.0) (name m q.0) (λ same. apart (λ h. record { rank = rank (Put (object.Mtu n t)); name = same h; id = 0 })) (codes "mtu ") (decimal i) (decimal j) (decimal k) (decimal l)
takes_alike (object.Mac n t) (object.Mac m s) i j k l x y z w p q level apart =
    words_alike (codes "link set dev ") n m (name n p.0) (name m q.0) (λ same. apart (λ h. record { rank = rank (Put (object.Mac n t)); name = same h; id = 0 })) (codes "address ") (mac_text x) (mac_text y) (mac_text z) (mac_text w)
takes_alike (object.Link n t) (object.Link m s) i j k l x y z w p q level apart = refl
takes_alike (object.Master n t) (object.Master m s) i j k l x y z w p q level apart = refl
takes_alike (object.Vlan c n t v u) (object.Vlan d m s f g) i j k l x y z w p q level apart = refl
takes_alike (object.Up n) (object.Up m) i j k l x y z w p q level apart = refl
takes_alike (object.Address n t) (object.Address m s) i j k l x y z w p q level apart = refl
takes_alike (object.Route t) (object.Route s) i j k l x y z w p q level apart = refl
takes_alike a b i j k l x y z w p q level apart = let one = level in absurd (omega arith)
