-- Calls of addresses and routes stand in the order of their ranks, and then of their lines.
use Rattle.std.proofs.Common.{arith, ℕ, ◌≡◌, ◌-◌, inl, inr, true, refl, ap, subst, ◌∙◌}
use Rattle.std.specs.Prelude.{replicate}
use Rattle.std.specs.Ordering.{nat_cmp, ordering_then}
use Rattle.std.specs.declared.cmp.Ordering.{Ordering}
use Rattle.std.specs.declared.cmp.Ordering.TheVariants.{Less, Equal, Greater}
use Rattle.std.specs.Cmp.{tied_itself, nat_cmp_total}
use Rattle.std.specs.Cmp.Lexicographic.{slice_cmp, nat_list_cmp_total}
use Rattle.std.specs.FinSet as set
use Rattle.std.proofs.lemmas.Map.Lookups.{exact_bytes}
use Rattle.kern_model.specs.declared.object.Mac.{Mac}
use Rattle.kern_model.specs.declared.object.Object.{Object}
use Rattle.kern_model.specs.declared.object.Object.TheVariants as object
use Rattle.kern_model.specs.declared.object.Call.TheVariants.{Put, Take}
use Rattle.kern_model.specs.ObjectOrder.{Objects, call_key}
use Rattle.kern_model.specs.Line.{line_of, put_line, take_line, IsPrintable, HaveOneVlan, HaveOneName}
use Rattle.kern_model.specs.CallOrder.{rank, height_of, height_place, call_cmp}
use Rattle.kern_model.proofs.LineLemmas.{object_of_line, taken_of_line}
use Rattle.kern_calls.specs.Upper.{is_upper}
use Rattle.given_objects.specs.declared.first.Turn.{Turn}
use Rattle.given_objects.specs.declared.first.Turn.TheVariants.{Takes, Puts}
use Rattle.given_objects.specs.Turns.{call_of}

-- the hardware address of a take without own values
abbrev pub no_mac : Mac
no_mac = record { 0 = replicate 6 0 }

-- heights of addresses and routes are none
no_height : (s : Objects) (o : Object) → is_upper o ≡ true → height_of s o ≡ 0
no_height s (object.Link name kind) h = cc h
no_height s (object.Up name) h = cc h
no_height s o h = refl

-- their takes say nothing of own values
one_take_line : (o : Object) (k l : ℕ) (x y : Mac) → is_upper o ≡ true → take_line o k x ≡ take_line o l y
one_take_line (object.Address dev cidr) k l x y h = refl
one_take_line (object.Route r) k l x y h = refl
one_take_line o k l x y h = absurd (cc h)

no_vlans : (a b : Object) → is_upper a ≡ true → HaveOneVlan a b → ⊥
no_vlans (object.Vlan bridge port id pvid untagged) b h same = cc h
no_vlans a b h same = same

no_names : (a b : Object) → is_upper a ≡ true → HaveOneName a b → ⊥
no_names (object.Address dev cidr) b h same = same
no_names (object.Route r) b h same = same
no_names a b h same = absurd (cc h)

-- of one line there is one object
pub put_tells : (a b : Object) → is_upper a ≡ true → IsPrintable a → IsPrintable b → put_line a ≡ put_line b → a ≡ b
put_tells a b upper p q h = elim (object_of_line a b p q h) as (λ _. a ≡ b) [ inl same ↦ same | inr vlan ↦ absurd (no_vlans a b upper vlan) ]

pub take_tells : (a b : Object) (x : Mac) → is_upper a ≡ true → IsPrintable a → IsPrintable b → take_line a 0 x ≡ take_line b 0 x → a ≡ b
take_tells a b x upper p q h = elim (taken_of_line a b 0 0 x x p q (omega arith) (omega arith) h) as (λ _. a ≡ b) [ inl same ↦ same | inr named ↦ absurd (no_names a b upper named) ]

-- where heights tie, and keys wherever lines do, ranks and lines decide
decided : (r h s k : Ordering) → h ≡ Equal → (s ≡ Equal → k ≡ Equal) → ordering_then r (ordering_then h (ordering_then s k)) ≡ ordering_then r s
decided r h s k level keys = ap (λ x. ordering_then r (ordering_then x (ordering_then s k))) level ∙ ap (ordering_then r) (by s keys)
  where
    by : (s : Ordering) → (s ≡ Equal → k ≡ Equal) → ordering_then s k ≡ s
    by Less keys = refl
    by Equal keys = keys refl
    by Greater keys = refl

module _ (held wanted : Objects) (a b : Object) (upper : is_upper a ≡ true) (other : is_upper b ≡ true) (p : IsPrintable a) (q : IsPrintable b) where
  -- takes with own values that their objects tell
  pub takes_in_order : (mtu : Object → ℕ) (mac : Object → Mac) (x : Mac) → call_cmp held wanted (Take a (mtu a) (mac a)) (Take b (mtu b) (mac b))
      ≡ ordering_then (nat_cmp (rank (Take a 0 x)) (rank (Take b 0 x))) (slice_cmp nat_cmp (take_line a 0 x) (take_line b 0 x))
  takes_in_order mtu mac x =
      let heights = nat_cmp (height_place held wanted (Take a (mtu a) (mac a))) (height_place held wanted (Take b (mtu b) (mac b))) in
      let keys = slice_cmp nat_cmp (call_key (Take a (mtu a) (mac a))) (call_key (Take b (mtu b) (mac b))) in
      ap (λ line. ordering_then (nat_cmp (rank (Take a 0 x)) (rank (Take b 0 x))) (ordering_then heights (ordering_then (slice_cmp nat_cmp line (take_line b (mtu b) (mac b))) keys))) (one_take_line a (mtu a) 0 (mac a) x upper)
      ∙ ap (λ line. ordering_then (nat_cmp (rank (Take a 0 x)) (rank (Take b 0 x))) (ordering_then heights (ordering_then (slice_cmp nat_cmp (take_line a 0 x) line) keys))) (one_take_line b (mtu b) 0 (mac b) x other)
      ∙ decided (nat_cmp (rank (Take a 0 x)) (rank (Take b 0 x))) heights (slice_cmp nat_cmp (take_line a 0 x) (take_line b 0 x)) keys level
      (λ tie. subst (λ y. slice_cmp nat_cmp (call_key (Take a (mtu a) (mac a))) (call_key (Take y (mtu y) (mac y))) ≡ Equal)
      (take_tells a b x upper p q (exact_bytes (take_line a 0 x) (take_line b 0 x) tie))
      (tied_itself nat_list_cmp_total (call_key (Take a (mtu a) (mac a)))))
    where
      level : nat_cmp (height_place held wanted (Take a (mtu a) (mac a))) (height_place held wanted (Take b (mtu b) (mac b))) ≡ Equal
      level =
          ap (λ n. nat_cmp (set.len held - n) (set.len held - height_of held b)) (no_height held a upper)
          ∙ ap (λ n. nat_cmp (set.len held - 0) (set.len held - n)) (no_height held b other)
          ∙ tied_itself nat_cmp_total (set.len held - 0)

  pub puts_in_order : call_cmp held wanted (Put a) (Put b) ≡ ordering_then (nat_cmp (rank (Put a)) (rank (Put b))) (slice_cmp nat_cmp (put_line a) (put_line b))
  puts_in_order =
      let heights = nat_cmp (height_of wanted a) (height_of wanted b) in
      let keys = slice_cmp nat_cmp (call_key (Put a)) (call_key (Put b)) in
      decided (nat_cmp (rank (Put a)) (rank (Put b))) heights (slice_cmp nat_cmp (put_line a) (put_line b)) keys level
      (λ tie. subst (λ y. slice_cmp nat_cmp (call_key (Put a)) (call_key (Put y)) ≡ Equal)
      (put_tells a b upper p q (exact_bytes (put_line a) (put_line b) tie))
      (tied_itself nat_list_cmp_total (call_key (Put a))))
    where
      level : nat_cmp (height_of wanted a) (height_of wanted b) ≡ Equal
      level = ap (λ n. nat_cmp n (height_of wanted b)) (no_height wanted a upper) ∙ ap (nat_cmp 0) (no_height wanted b other) ∙ tied_itself nat_cmp_total 0

-- calls of a turn compare by ranks and lines
pub turns_in_order : (turn : Turn) (a b : Object) → is_upper a ≡ true → is_upper b ≡ true → IsPrintable a → IsPrintable b
    → call_cmp set.empty set.empty (call_of turn a) (call_of turn b)
    ≡ ordering_then (nat_cmp (rank (call_of turn a)) (rank (call_of turn b))) (slice_cmp nat_cmp (line_of (call_of turn a)) (line_of (call_of turn b)))
turns_in_order Takes a b upper other p q = takes_in_order set.empty set.empty a b upper other p q (λ o. 0) (λ o. no_mac) no_mac
turns_in_order Puts a b upper other p q = puts_in_order set.empty set.empty a b upper other p q
