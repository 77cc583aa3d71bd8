-- one more name behind the others
use Rattle.std.proofs.Common.{arith, add-one, ℕ, zero, suc, ◌≡◌, ◌≢◌, ◌<◌, ◌≤◌, ◌+◌, ◌-◌, inl, inr, List, [], ◌∷◌, ◌++◌, map, length, take, drop, All, Contains, None, true, refl, sym, ap, subst, ◌∙◌, length-append}
use Rattle.std.specs.List.{AllByRecursion}
use Rattle.std.specs.Prelude.{bytes_eq}
use Rattle.std.proofs.lemmas.List.{map-append, append_assoc}
use Rattle.std.proofs.lemmas.List.Elements.{Contains-append_left, Contains-push_cases, All-cons, All-nil, All-head, All-tail}
use Rattle.plane_words.specs.Distinct.{AreDistinct}
use Rattle.kern_model.proofs.MemberLemmas.{here, there, first_or_later, none_in_nil, member_of_all, all_members}
use Rattle.kern_model.proofs.TestLemmas.{same_bytes}
use Rattle.net_rows.specs.declared.rows.NameRow.{NameRow}
use Rattle.net_rows.specs.declared.rows.VlanRow.{VlanRow}
use Rattle.graph_rules.specs.declared.ids.RadioPort.{RadioPort}
use Rattle.graph_names.proofs.NameLemmas.{lacks}
use Rattle.graph_rules.specs.State.{Named, Known, name_list, names_in, place_among}
use Rattle.graph_rules.specs.After.{name_at, with_name}
use Rattle.graph_rules.specs.Conditions.{ArePorts}
use Rattle.graph_counts.specs.Sound.{BeginWithRows, IsSound}
use Rattle.graph_counts.specs.Told.{HasFewClaims}

-- a name that is not found is not among the names
pub absent : (ns : List Named) (x : List ℕ) → place_among ns x ≡ None → Contains (name_list ns) x → ⊥
absent [] x h m = none_in_nil x m
absent (n ∷ ns) x h m =
    let off = lacks x n ns h in
    elim (first_or_later n.name (name_list ns) x m) as (λ _. ⊥) [
      | inl same ↦ let equal = same_bytes x n.name (sym same) in cc (equal, off.0)
      | inr later ↦ absent ns x off.1 later
    ]

distinct_push : (xs : List (List ℕ)) (x : List ℕ) → AreDistinct xs → (Contains xs x → ⊥) → AreDistinct (xs ++ x ∷ [])
distinct_push [] x d off = (tt, tt)
distinct_push (y ∷ ys) x d off = (
  all_members (λ z. z ≢ y) (ys ++ x ∷ []) (λ z m. elim (Contains-push_cases ys x z m) as (λ _. z ≢ y) [
    | inl was ↦ member_of_all (λ z. z ≢ y) ys z d.0 was
    | inr is ↦ λ same. off (subst (Contains (y ∷ ys)) (sym (is ∙ same)) (here y ys))
  ]),
  distinct_push ys x d.1 (λ m. off (there y ys x m)),
)

-- the names with one more
pub names_more : (ns : List Named) (x : List ℕ) → name_list (with_name ns x) ≡ name_list ns ++ x ∷ []
names_more [] x = refl
names_more (n ∷ ns) x = ap (λ (xs : List (List ℕ)). n.name ∷ xs) (names_more ns x)

-- with one more name all is sound, and no name has more claims than a node may have
pub sound_with_name : (s : Known) (x : List ℕ) → IsSound s → place_among s.names x ≡ None → IsSound (record s { names = with_name s.names x })
sound_with_name s x sound new =
    let more = names_more s.names x in
    record {
      levels = sound.levels;
      standing = sound.standing;
      names =
          record {
            once = subst AreDistinct (sym more) (distinct_push (name_list s.names) x sound.names.once (absent s.names x new));
            plain = sound.names.plain ++ x ∷ [];
            front = more ∙ ap (λ ns. ns ++ x ∷ []) sound.names.front ∙ append_assoc (map (λ (row : NameRow). row.name) s.rows) sound.names.plain (x ∷ []);
          };
      ports_once = sound.ports_once;
      ports =
          record {
            bridges = sound.ports.bridges;
            plain = sound.ports.plain;
            known = λ p m. subst (λ names. Contains names p.port) (sym more) (Contains-append_left (name_list s.names) (x ∷ []) p.port (sound.ports.known p m));
            once = sound.ports.once;
            free = sound.ports.free;
          };
    }

pub few_with_name : (ns : List Named) (x : List ℕ) → HasFewClaims ns → HasFewClaims (with_name ns x)
few_with_name [] x few = All-cons (λ (n : Named). n.claims ≤ 1024) (record { name = x; device = None; claims = 0 }) [] (omega arith) (All-nil (λ (n : Named). n.claims ≤ 1024))
few_with_name (n ∷ ns) x few = All-cons (λ (n : Named). n.claims ≤ 1024) n (with_name ns x) (All-head (λ (n : Named). n.claims ≤ 1024) n ns few) (few_with_name ns x (All-tail (λ (n : Named). n.claims ≤ 1024) n ns few))

-- the parts of what is known, with one more name, are sound
pub sound_added : (s : Known) (x : List ℕ) (rows : List NameRow) (vlans : List VlanRow) (names : List Named) (radio : List RadioPort) → IsSound s → place_among s.names x ≡ None → rows ≡ s.rows → names ≡ with_name s.names x → radio ≡ s.radio
    → IsSound (record { rows = rows; vlans = vlans; names = names; radio = radio })
sound_added s x rows vlans names radio sound new r n p =
    let added = sound_with_name s x sound new in
    let here : IsSound (record { rows = s.rows; vlans = vlans; names = with_name s.names x; radio = s.radio }) =
    record { levels = added.levels; standing = added.standing; names = added.names; ports_once = added.ports_once; ports = added.ports } in
    subst (λ (rs : List NameRow). let k : Known = record { rows = rs; vlans = vlans; names = names; radio = radio } in IsSound k) (sym r)
    (subst (λ (ns : List Named). let k : Known = record { rows = s.rows; vlans = vlans; names = ns; radio = radio } in IsSound k) (sym n)
    (subst (λ (ps : List RadioPort). let k : Known = record { rows = s.rows; vlans = vlans; names = with_name s.names x; radio = ps } in IsSound k) (sym p) here))

-- what was added last is forgotten
front_of : (ns : List Named) (rest : List Named) → take (length ns) (ns ++ rest) ≡ ns
front_of [] rest = refl
front_of (n ∷ ns) rest = ap (λ (xs : List Named). n ∷ xs) (front_of ns rest)

pub forgotten : (ns more : List Named) (n : Named) → more ≡ ns ++ n ∷ [] → take (length more - 1) more ≡ ns
forgotten ns more n is =
    let size : length more - 1 ≡ length ns = omega (arith, ap length is, length-append ns (n ∷ [])) in
    ap (λ k. take k more) size ∙ ap (take (length ns)) is ∙ front_of ns (n ∷ [])
