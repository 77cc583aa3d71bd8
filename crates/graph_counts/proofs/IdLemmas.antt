-- names that stand once, and their ids
use Rattle.std.proofs.Common.{arith, ⊎_elim, ℕ, zero, suc, ◌+◌, ◌<◌, ◌≡◌, ◌≢◌, Bool, true, false, cond, not, List, [], ◌∷◌, ◌++◌, map, length, Contains, Some, bytes_eq, slice_index_or, refl, sym, ap, subst, ◌∙◌}
use Rattle.std.proofs.lemmas.List.Elements.{Contains-append_left, Contains-append_right}
use Rattle.kern_model.proofs.MemberLemmas.{here, there, first_or_later, none_in_nil, member_of_all, all_members, map_member}
use Rattle.kern_model.proofs.TestLemmas.{bytes_same, same_bytes, false_of_not}
use Rattle.plane_words.specs.Distinct.{AreDistinct}
use Rattle.net_rows.specs.declared.rows.NameRow.{NameRow}
use Rattle.net_rules.specs.Rows.{row_at, rowless}
use Rattle.graph_rules.specs.State.{Named, named_in, name_list}
use Rattle.graph_counts.specs.Counted.{id_of}

step_within : (b : Bool) (k size : ℕ) → (b ≡ false → k < size) → cond (not b) (1 + k) 0 < suc size
step_within true k size h = omega arith
step_within false k size h = let more = h refl in omega (arith, more)

pub later_member : (n x : List ℕ) (ns : List (List ℕ)) → bytes_eq n x ≡ false → Contains (n ∷ ns) x → Contains ns x
later_member n x ns differ h = ⊎_elim (λ (same : n ≡ x). absurd (let yes = same_bytes n x same in cc (yes, differ))) (λ (later : Contains ns x). later) (first_or_later n ns x h)

-- a name of the list has an id
pub id_within : (names : List (List ℕ)) (x : List ℕ) → Contains names x → id_of names x < length names
id_within [] x h = absurd (none_in_nil x h)
id_within (n ∷ ns) x h = step_within (bytes_eq n x) (id_of ns x) (length ns) (λ e. id_within ns x (later_member n x ns e h))

step_back : (b : Bool) (k size : ℕ) → cond (not b) (1 + k) 0 < suc size → b ≡ false → k < size
step_back true k size h e = cc e
step_back false k size h e = omega (arith, h)

member_step : (b : Bool) (n x : List ℕ) (ns : List (List ℕ)) → bytes_eq n x ≡ b → (b ≡ false → Contains ns x) → Contains (n ∷ ns) x
member_step true n x ns e h = subst (Contains (n ∷ ns)) (bytes_same n x e) (here n ns)
member_step false n x ns e h = there n ns x (h refl)

-- and only such a name has one
pub id_member : (names : List (List ℕ)) (x : List ℕ) → id_of names x < length names → Contains names x
id_member [] x h = absurd (omega (arith, h))
id_member (n ∷ ns) x h = member_step (bytes_eq n x) n x ns refl (λ e. id_member ns x (step_back (bytes_eq n x) (id_of ns x) (length ns) h e))

first_step : (b : Bool) (k : ℕ) → b ≡ true → cond (not b) (1 + k) 0 ≡ 0
first_step true k e = refl
first_step false k e = cc e

later_step : (b : Bool) (k : ℕ) → b ≡ false → cond (not b) (1 + k) 0 ≡ suc k
later_step true k e = cc e
later_step false k e = omega arith

pub at_member : (names : List (List ℕ)) (k : ℕ) → k < length names → Contains names (slice_index_or names k [])
at_member [] k h = absurd (omega (arith, h))
at_member (n ∷ ns) zero h = here n ns
at_member (n ∷ ns) (suc k) h = there n ns (slice_index_or ns k []) (at_member ns k (omega (arith, h)))

-- of distinct names each has the place at which it stands
pub id_at : (names : List (List ℕ)) (k : ℕ) → AreDistinct names → k < length names → id_of names (slice_index_or names k []) ≡ k
id_at [] k d h = absurd (omega (arith, h))
id_at (n ∷ ns) zero d h = first_step (bytes_eq n n) (id_of ns n) (same_bytes n n refl)
id_at (n ∷ ns) (suc k) d h =
    let x = slice_index_or ns k [] in
    let inside : k < length ns = omega (arith, h) in
    let other : x ≢ n = member_of_all (λ y. y ≢ n) ns x d.0 (at_member ns k inside) in
    later_step (bytes_eq n x) (id_of ns x) (false_of_not (bytes_eq n x) (λ yes. other (sym (bytes_same n x yes))))
    ∙ ap suc (id_at ns k d.1 inside)

-- names of the list with one id are one name
pub one_name : (names : List (List ℕ)) (x y : List ℕ) → Contains names x → Contains names y → id_of names x ≡ id_of names y → x ≡ y
one_name [] x y hx hy e = absurd (none_in_nil x hx)
one_name (n ∷ ns) x y hx hy e = both_cases (bytes_eq n x) (bytes_eq n y) n x y (id_of ns x) (id_of ns y) refl refl e (λ p q f. one_name ns x y (later_member n x ns p hx) (later_member n y ns q hy) f)
  where
    both_cases : (b c : Bool) (n x y : List ℕ) (j k : ℕ) → bytes_eq n x ≡ b → bytes_eq n y ≡ c → cond (not b) (1 + j) 0 ≡ cond (not c) (1 + k) 0 → (b ≡ false → c ≡ false → j ≡ k → x ≡ y) → x ≡ y
    both_cases true true n x y j k p q e f = sym (bytes_same n x p) ∙ bytes_same n y q
    both_cases true false n x y j k p q e f = absurd (omega (arith, e))
    both_cases false true n x y j k p q e f = absurd (omega (arith, e))
    both_cases false false n x y j k p q e f = f refl refl (omega (arith, e))

-- more names at the end leave the ids of those in front
pub id_in_front : (names more : List (List ℕ)) (x : List ℕ) → Contains names x → id_of (names ++ more) x ≡ id_of names x
id_in_front [] more x h = absurd (none_in_nil x h)
id_in_front (n ∷ ns) more x h = same_step (bytes_eq n x) (id_of (ns ++ more) x) (id_of ns x) (λ e. id_in_front ns more x (later_member n x ns e h))
  where
    same_step : (b : Bool) (j k : ℕ) → (b ≡ false → j ≡ k) → cond (not b) (1 + j) 0 ≡ cond (not b) (1 + k) 0
    same_step true j k h = refl
    same_step false j k h = ap (λ n. 1 + n) (h refl)

-- of distinct names, the one that is found is the one that stands there
pub found_at : (ns : List Named) (k : ℕ) (d : Named) → AreDistinct (name_list ns) → k < length ns → named_in ns (slice_index_or (name_list ns) k []) ≡ Some (slice_index_or ns k d)
found_at [] k d once h = absurd (omega (arith, h))
found_at (n ∷ ns) zero d once h = ap (λ b. cond b (Some n) (named_in ns n.name)) (same_bytes n.name n.name refl)
found_at (n ∷ ns) (suc k) d once h =
    let x = slice_index_or (name_list ns) k [] in
    let inside : k < length ns = omega (arith, h) in
    let there : Contains (name_list ns) x = at_member (name_list ns) k (long ns k inside) in
    let other : x ≢ n.name = member_of_all (λ y. y ≢ n.name) (name_list ns) x once.0 there in
    ap (λ b. cond b (Some n) (named_in ns x)) (false_of_not (bytes_eq n.name x) (λ yes. other (sym (bytes_same n.name x yes))))
    ∙ found_at ns k d once.1 inside
  where
    long : (ns : List Named) (k : ℕ) → k < length ns → k < length (name_list ns)
    long [] k h = absurd (omega (arith, h))
    long (n ∷ ns) zero h = omega arith
    long (n ∷ ns) (suc k) h = let rest = long ns k (omega (arith, h)) in omega (arith, rest)

-- what stands in one of two lists of distinct names does not stand in the other
pub apart : (xs ys : List (List ℕ)) (x : List ℕ) → AreDistinct (xs ++ ys) → Contains xs x → Contains ys x → ⊥
apart [] ys x d hx hy = none_in_nil x hx
apart (n ∷ ns) ys x d hx hy =
    ⊎_elim
    (λ (same : n ≡ x). member_of_all (λ y. y ≢ n) (ns ++ ys) x d.0 (Contains-append_right ns ys x hy) (sym same))
    (λ (later : Contains ns x). apart ns ys x d.1 later hy)
    (first_or_later n ns x hx)

-- the front of distinct names is distinct
pub distinct_front : (xs ys : List (List ℕ)) → AreDistinct (xs ++ ys) → AreDistinct xs
distinct_front [] ys d = tt
distinct_front (n ∷ ns) ys d = (all_members (λ y. y ≢ n) ns (λ y h. member_of_all (λ z. z ≢ n) (ns ++ ys) y d.0 (Contains-append_left ns ys y h)), distinct_front ns ys d.1)

-- the row of a name of distinct rows is that row
pub own_row : (rows : List NameRow) (row : NameRow) → AreDistinct (map (λ r. r.name) rows) → Contains rows row → row_at rows row.name ≡ row
own_row [] row d h = absurd (none_in_nil row h)
own_row (r ∷ rs) row d h =
    ⊎_elim
    (λ (same : r ≡ row). ap (λ b. cond b r (row_at rs row.name)) (same_bytes r.name row.name (ap (λ (q : NameRow). q.name) same)) ∙ same)
    (λ (later : Contains rs row).
    let other : row.name ≢ r.name = member_of_all (λ y. y ≢ r.name) (map (λ (q : NameRow). q.name) rs) row.name d.0 (map_member (λ (q : NameRow). q.name) rs row later) in
    ap (λ b. cond b r (row_at rs row.name)) (false_of_not (bytes_eq r.name row.name) (λ yes. other (sym (bytes_same r.name row.name yes)))) ∙ own_row rs row d.1 later)
    (first_or_later r rs row h)

-- a name without a row
pub no_row : (rows : List NameRow) (name : List ℕ) → (Contains (map (λ r. r.name) rows) name → ⊥) → row_at rows name ≡ rowless name
no_row [] name h = refl
no_row (r ∷ rs) name h =
    ap (λ b. cond b r (row_at rs name)) (false_of_not (bytes_eq r.name name) (λ yes. h (subst (Contains (r.name ∷ map (λ (q : NameRow). q.name) rs)) (bytes_same r.name name yes) (here r.name (map (λ (q : NameRow). q.name) rs)))))
    ∙ no_row rs name (λ later. h (there r.name (map (λ (q : NameRow). q.name) rs) name later))
