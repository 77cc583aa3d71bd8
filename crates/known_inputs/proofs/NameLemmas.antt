-- Distinct names, and names of interfaces of the rows.
use Rattle.std.proofs.Common.{arith, ℕ, suc, ◌≡◌, ◌≢◌, ◌<◌, ◌≤◌, ◌⊎◌, inl, inr, List, [], ◌∷◌, ◌++◌, map, length, Contains, Bool, true, false, cond, Some, None, refl, ap, sym, subst, ◌∙◌}
use Rattle.std.specs.Prelude.{not, filter, bytes_eq, is_some}
use Rattle.std.specs.List.{AllByRecursion}
use Rattle.plane_words.specs.Distinct.{AreDistinct}
use Rattle.kern_model.proofs.MemberLemmas.{here, there, first_or_later, none_in_nil, all_members, member_of_all}
use Rattle.kern_model.proofs.TestLemmas.{bytes_same, same_bytes}
use Rattle.net_rows.specs.declared.rows.Conf.{Conf}
use Rattle.net_rows.specs.declared.rows.InterfaceRow.{InterfaceRow}
use Rattle.net_rules.proofs.TableLemmas.{found_in}
use Rattle.net_rules.proofs.OnceLemmas.{AreOnce}
use Rattle.known_inputs.specs.Known.{AreOfRows, IsNamed}

-- keys that are kept
module _ {X K : Type 0} (key : X → K) (p : X → Bool) where
  all_kept : (P : K → Type 0) (xs : List X) → AllByRecursion P (map key xs) → AllByRecursion P (map key (filter p xs))
  all_kept P [] all = tt
  all_kept P (x ∷ xs) all = by (p x) (all_kept P xs all.1)
    where
      by : (b : Bool) → AllByRecursion P (map key (filter p xs)) → AllByRecursion P (map key (cond b (x ∷ filter p xs) (filter p xs)))
      by true rest = (all.0, rest)
      by false rest = rest

  pub distinct_kept : (xs : List X) → AreDistinct (map key xs) → AreDistinct (map key (filter p xs))
  distinct_kept [] distinct = tt
  distinct_kept (x ∷ xs) distinct = by (p x) (distinct_kept xs distinct.1)
    where
      by : (b : Bool) → AreDistinct (map key (filter p xs)) → AreDistinct (map key (cond b (x ∷ filter p xs) (filter p xs)))
      by true rest = (all_kept (λ other. other ≢ key x) xs distinct.0, rest)
      by false rest = rest

  pub kept_member : (xs : List X) (k : K) → Contains (map key (filter p xs)) k → Contains (map key xs) k
  kept_member [] k member = member
  kept_member (x ∷ xs) k member = by (p x) member (kept_member xs k)
    where
      by : (b : Bool) → Contains (map key (cond b (x ∷ filter p xs) (filter p xs))) k → (Contains (map key (filter p xs)) k → Contains (map key xs) k) → Contains (key x ∷ map key xs) k
      by true h rest = elim (first_or_later (key x) (map key (filter p xs)) k h) as (λ _. Contains (key x ∷ map key xs) k) [
        | inl same ↦ subst (Contains (key x ∷ map key xs)) same (here (key x) (map key xs))
        | inr later ↦ there (key x) (map key xs) k (rest later)
      ]
      by false h rest = there (key x) (map key xs) k (rest h)

all_pushed : {K : Type 0} (P : K → Type 0) (ks : List K) (k : K) → AllByRecursion P ks → P k → AllByRecursion P (ks ++ k ∷ [])
all_pushed P [] k all last = (last, tt)
all_pushed P (x ∷ xs) k all last = (all.0, all_pushed P xs k all.1 last)

pub distinct_pushed : {K : Type 0} (ks : List K) (k : K) → AreDistinct ks → (Contains ks k → ⊥) → AreDistinct (ks ++ k ∷ [])
distinct_pushed [] k distinct new = (tt, tt)
distinct_pushed (x ∷ xs) k distinct new = (
  all_pushed (λ other. other ≢ x) xs k distinct.0 (λ same. new (subst (Contains (x ∷ xs)) (sym same) (here x xs))),
  distinct_pushed xs k distinct.1 (λ member. new (there x xs k member)),
)

pub map_pushed : {X K : Type 0} (key : X → K) (xs : List X) (x : X) → map key (xs ++ x ∷ []) ≡ map key xs ++ key x ∷ []
map_pushed key [] x = refl
map_pushed key (y ∷ ys) x = ap (λ ks. key y ∷ ks) (map_pushed key ys x)

pub pushed_member : {K : Type 0} (ks : List K) (k x : K) → Contains (ks ++ k ∷ []) x → Contains ks x ⊎ (k ≡ x)
pushed_member [] k x member = elim (first_or_later k [] x member) as (λ _. Contains [] x ⊎ (k ≡ x)) [ inl same ↦ inr same | inr later ↦ inl later ]
pushed_member (y ∷ ys) k x member = elim (first_or_later y (ys ++ k ∷ []) x member) as (λ _. Contains (y ∷ ys) x ⊎ (k ≡ x)) [
  | inl same ↦ inl (subst (Contains (y ∷ ys)) same (here y ys))
  | inr later ↦ elim (pushed_member ys k x later) as (λ _. Contains (y ∷ ys) x ⊎ (k ≡ x)) [ inl inside ↦ inl (there y ys x inside) | inr last ↦ inr last ]
]

-- what is not found is not among the keys
pub not_found : {X : Type 0} (key : X → List ℕ) (xs : List X) (name : List ℕ) → found_in key xs name ≡ None → AllByRecursion (λ other. other ≢ name) (map key xs)
not_found key [] name none = tt
not_found key (x ∷ xs) name none = by (bytes_eq (key x) name) refl none (not_found key xs name)
  where
    by : (b : Bool) → bytes_eq (key x) name ≡ b → cond b (Some x) (found_in key xs name) ≡ None → (found_in key xs name ≡ None → AllByRecursion (λ other. other ≢ name) (map key xs))
        → AllByRecursion (λ other. other ≢ name) (key x ∷ map key xs)
    by true is h rest = cc h
    by false is h rest = ((λ same. let hit = same_bytes (key x) name same in cc (is, hit)), rest h)

pub no_member : {X : Type 0} (key : X → List ℕ) (xs : List X) (name : List ℕ) → found_in key xs name ≡ None → Contains (map key xs) name → ⊥
no_member key xs name none member = member_of_all (λ other. other ≢ name) (map key xs) name (not_found key xs name none) member refl

-- a key that was left out
pub left_out : {X : Type 0} (key : X → List ℕ) (name : List ℕ) (xs : List X) → Contains (map key (filter (λ x. not (bytes_eq (key x) name)) xs)) name → ⊥
left_out key name [] member = none_in_nil name member
left_out {X} key name (x ∷ xs) member = by (bytes_eq (key x) name) refl (filter (λ y. not (bytes_eq (key y) name)) xs) member (left_out key name xs)
  where
    by : (b : Bool) → bytes_eq (key x) name ≡ b → (kept : List X) → Contains (map key (cond (not b) (x ∷ kept) kept)) name → (Contains (map key kept) name → ⊥) → ⊥
    by true is kept h rest = rest h
    by false is kept h rest = elim (first_or_later (key x) (map key kept) name h) as (λ _. ⊥) [
      | inl same ↦ let hit = same_bytes (key x) name same in cc (is, hit)
      | inr later ↦ rest later
    ]

pub once_distinct : {X : Type 0} (key : X → List ℕ) (xs : List X) → AreOnce key xs → AreDistinct (map key xs)
once_distinct key [] once = tt
once_distinct key (x ∷ xs) once = (not_found key xs (key x) once.0, once_distinct key xs once.1)

-- distinct names of rows are no more than the rows
abbrev without : (name : List ℕ) (names : List (List ℕ)) → List (List ℕ)
without name names = filter (λ other. not (bytes_eq name other)) names

all_stay : (name : List ℕ) (names : List (List ℕ)) → AllByRecursion (λ other. other ≢ name) names → without name names ≡ names
all_stay name [] all = refl
all_stay name (n ∷ ns) all = by (bytes_eq name n) refl (all_stay name ns all.1)
  where
    by : (b : Bool) → bytes_eq name n ≡ b → without name ns ≡ ns → cond (not b) (n ∷ without name ns) (without name ns) ≡ n ∷ ns
    by true is rest = absurd (all.0 (sym (bytes_same name n is)))
    by false is rest = ap (λ others. n ∷ others) rest

one_fewer : (name : List ℕ) (names : List (List ℕ)) → AreDistinct names → length names ≤ suc (length (without name names))
one_fewer name [] distinct = omega arith
one_fewer name (n ∷ ns) distinct = by (bytes_eq name n) refl (one_fewer name ns distinct.1)
  where
    by : (b : Bool) → bytes_eq name n ≡ b → length ns ≤ suc (length (without name ns)) → suc (length ns) ≤ suc (length (cond (not b) (n ∷ without name ns) (without name ns)))
    by true is rest =
        let same = bytes_same name n is in
        let stays = ap length (all_stay name ns (subst (λ k. AllByRecursion (λ other. other ≢ k) ns) (sym same) distinct.0)) in
        omega (arith, stays)
    by false is rest = omega (arith, rest)

other_member : (name : List ℕ) (names : List (List ℕ)) (q : List ℕ) → Contains (without name names) q → (Contains names q) × (bytes_eq name q ≡ false)
other_member name [] q member = absurd (none_in_nil q member)
other_member name (n ∷ ns) q member = by (bytes_eq name n) refl member (λ h. let rest = other_member name ns q h in (there n ns q rest.0, rest.1))
  where
    by : (b : Bool) → bytes_eq name n ≡ b → Contains (cond (not b) (n ∷ without name ns) (without name ns)) q → (Contains (without name ns) q → (Contains (n ∷ ns) q) × (bytes_eq name q ≡ false)) → (Contains (n ∷ ns) q)
        × (bytes_eq name q ≡ false)
    by true is h later = later h
    by false is h later = elim (first_or_later n (without name ns) q h) as (λ _. (Contains (n ∷ ns) q) × (bytes_eq name q ≡ false)) [
      | inl same ↦ (subst (Contains (n ∷ ns)) same (here n ns), subst (λ k. bytes_eq name k ≡ false) same is)
      | inr inside ↦ later inside
    ]

identity_map : {K : Type 0} (ks : List K) → map (λ k. k) ks ≡ ks
identity_map [] = refl
identity_map (k ∷ ks) = ap (λ others. k ∷ others) (identity_map ks)

distinct_without : (name : List ℕ) (names : List (List ℕ)) → AreDistinct names → AreDistinct (without name names)
distinct_without name names distinct =
    subst AreDistinct (identity_map (without name names)) (distinct_kept (λ k. k) (λ other. not (bytes_eq name other)) names (subst AreDistinct (sym (identity_map names)) distinct))

no_more : (rows : List InterfaceRow) (names : List (List ℕ)) → AreDistinct names
    → ((name : List ℕ) → Contains names name → is_some (found_in (λ (row : InterfaceRow). row.name) rows name) ≡ true) → length names ≤ length rows
no_more [] [] distinct named = omega arith
no_more [] (n ∷ ns) distinct named = cc (named n (here n ns))
no_more (row ∷ rows) names distinct named =
    let rest = no_more rows (without row.name names) (distinct_without row.name names distinct) (λ name member.
    let other = other_member row.name names name member in
    sym (ap (λ b. is_some (cond b (Some row) (found_in (λ (r : InterfaceRow). r.name) rows name))) other.1) ∙ named name other.0) in
    let fewer = one_fewer row.name names distinct in
    omega (arith, rest, fewer)

pub few_names : (conf : Conf) (names : List (List ℕ)) → AreOfRows conf names → length names ≤ length conf.interfaces
few_names conf names are = no_more conf.interfaces names are.once are.named

-- and fewer where there is another interface
pub fewer_names : (conf : Conf) (names : List (List ℕ)) (other : List ℕ) → AreOfRows conf names → IsNamed conf other → (Contains names other → ⊥) → length names < length conf.interfaces
fewer_names conf names other are named new =
    let all = no_more conf.interfaces (other ∷ names)
    (all_members (λ (q : List ℕ). q ≢ other) names (λ q member same. new (subst (Contains names) same member)), are.once)
    (λ q member. elim (first_or_later other names q member) as (λ _. IsNamed conf q) [
      | inl same ↦ subst (IsNamed conf) same named
      | inr later ↦ are.named q later
    ]) in
    omega (arith, all)

-- what a step makes of names of rows
pub of_rows_kept : {X : Type 0} (conf : Conf) (key : X → List ℕ) (p : X → Bool) (xs : List X) → AreOfRows conf (map key xs) → AreOfRows conf (map key (filter p xs))
of_rows_kept conf key p xs are = record { once = distinct_kept key p xs are.once; named = λ name member. are.named name (kept_member key p xs name member) }

pub of_rows_pushed : {X : Type 0} (conf : Conf) (key : X → List ℕ) (xs : List X) (x : X) → AreOfRows conf (map key xs) → (Contains (map key xs) (key x) → ⊥) → IsNamed conf (key x) → AreOfRows conf (map key (xs ++ x ∷ []))
of_rows_pushed conf key xs x are new named = subst (AreOfRows conf) (sym (map_pushed key xs x)) (record {
  once = distinct_pushed (map key xs) (key x) are.once new;
  named = λ name member. elim (pushed_member (map key xs) (key x) name member) as (λ _. IsNamed conf name) [
    | inl inside ↦ are.named name inside
    | inr last ↦ subst (IsNamed conf) last named
  ];
})
