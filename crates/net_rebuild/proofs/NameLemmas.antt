-- Names that join a graph.
use Rattle.std.proofs.Common.{◌≡◌, ℕ, suc, ◌+◌, ◌<◌, inl, inr, List, [], ◌∷◌, ◌++◌, take, get_or, length, Bool, true, false, cond, Contains, Option, Some, None, Result, Ok, Err, OnOk, OnErr, position, refl, ap, sym, subst, ◌∙◌}
use Rattle.std.specs.Prelude.{is_some, bytes_eq}
use Rattle.std.specs.Option.{option_map}
use Rattle.std.proofs.lemmas.List.Elements.{Contains-append_cases, Contains-append_right}
use Rattle.std.proofs.lemmas.List.{map-append}
use Rattle.uci_tree.proofs.FoldLemmas.{position-cons}
use Rattle.kern_model.proofs.MemberLemmas.{here, there, first_or_later, none_in_nil}
use Rattle.kern_model.proofs.TestLemmas.{bytes_same}
use Rattle.net_view.proofs.PortLemmas.{more_is}
use Rattle.graph_rules.specs.declared.ids.RadioPort.{RadioPort}
use Rattle.graph_rules.specs.State.{Named, State, name_list, names_in, place_among}
use Rattle.graph_rules.specs.After.{added_after, ports_after}
use Rattle.net_follow.proofs.FurtherLemmas.{more_names}
use Rattle.net_rebuild.specs.Joined.{HasMoreNames, KnowsAll, HasJoined}

-- ---- a name of a graph

placed_among : (name : List ℕ) (names : List (List ℕ)) → is_some (position (bytes_eq name) names) ≡ true → Contains names name
placed_among name [] is = cc is
placed_among name (n ∷ ns) is = by (bytes_eq name n) refl (sym (ap is_some (position-cons (bytes_eq name) n ns)) ∙ is) (placed_among name ns)
  where
    rest : (o : Option ℕ) → is_some (option_map (λ k. suc k) o) ≡ true → is_some o ≡ true
    rest None is = is
    rest (Some k) is = refl

    by : (b : Bool) → bytes_eq name n ≡ b → is_some (cond {A = Option ℕ} b (Some 0) (option_map (λ k. suc k) (position (bytes_eq name) ns))) ≡ true
        → (is_some (position (bytes_eq name) ns) ≡ true → Contains ns name) → Contains (n ∷ ns) name
    by true same is others = subst (λ (x : List ℕ). Contains (x ∷ ns) name) (bytes_same name n same) (here name ns)
    by false same is others = there n ns name (others (rest (position (bytes_eq name) ns) is))

pub is_placed : (s : State) (name : List ℕ) → is_some (place_among s.known.names name) ≡ true → Contains (names_in s.known) name
is_placed s name is = placed_among name (names_in s.known) is

pub some_mapped : {X Y : Type 0} (f : X → Y) (o : Option X) → is_some (option_map f o) ≡ is_some o
some_mapped f None = refl
some_mapped f (Some x) = refl

pub none_mapped : {X Y : Type 0} (f : X → Y) (o : Option X) (p : Option Y) → option_map f o ≡ p → is_some o ≡ false → p ≡ None
none_mapped f None p is off = sym is
none_mapped f (Some x) p is off = cc off

pub is_added : (s : State) (name : List ℕ) → Contains (names_in (added_after s name).known) name
is_added s name =
    let last : Named = record { name = name; device = None; claims = 0 } in
    subst (λ (names : List (List ℕ)). Contains names name) (sym (map-append (λ (n : Named). n.name) s.known.names (last ∷ [])))
    (Contains-append_right (name_list s.known.names) (name ∷ []) name (here name []))

-- ---- none, one, and some more

pub one_joins : (before now : State) (name : List ℕ) → place_among before.known.names name ≡ None → now ≡ added_after before name → HasMoreNames before now
one_joins before now name other is = subst (λ (s : State). HasMoreNames before s) (sym is) (HasMoreNames.joins before name HasMoreNames.none other)

pub none_joins : (before now : State) → now ≡ before → HasMoreNames before now
none_joins before now is = subst (λ (s : State). HasMoreNames before s) (sym is) HasMoreNames.none

pub more_joins : (before between now : State) → HasMoreNames before between → HasMoreNames between now → HasMoreNames before now
more_joins before between now one HasMoreNames.none = one
more_joins before between now one (HasMoreNames.joins mid name more other) = HasMoreNames.joins mid name (more_joins before between mid one more) other

-- ---- what stays

pub joined_held : (before now : State) → HasMoreNames before now → now.held ≡ before.held
joined_held before now HasMoreNames.none = refl
joined_held before now (HasMoreNames.joins mid name more other) = joined_held before mid more

pub joined_loads : (before now : State) → HasMoreNames before now → now.loads ≡ before.loads
joined_loads before now HasMoreNames.none = refl
joined_loads before now (HasMoreNames.joins mid name more other) = joined_loads before mid more

pub joined_names : (before now : State) → HasMoreNames before now → (q : List ℕ) → Contains (names_in before.known) q → Contains (names_in now.known) q
joined_names before now HasMoreNames.none q member = member
joined_names before now (HasMoreNames.joins mid name more other) q member = more_names mid.known.names name q (joined_names before mid more q member)

-- ---- those so far

pub none_joined : (s : State) (names : List (List ℕ)) → names ≡ [] → KnowsAll s names s
none_joined s names none = record {
  more = HasMoreNames.none;
  known = λ name member. absurd (none_in_nil name (subst (λ (xs : List (List ℕ)). Contains xs name) none member));
}

pub one_joined : (before between now : State) (names : List (List ℕ)) (i : ℕ) (name : List ℕ) → i < length names → name ≡ get_or names i name → KnowsAll before (take i names) between → HasMoreNames between now
    → Contains (names_in now.known) name → KnowsAll before (take (i + 1) names) now
one_joined before between now names i name within read joined more known = record {
  more = more_joins before between now joined.more more;
  known = λ q member. elim (Contains-append_cases (take i names) (name ∷ []) q (subst (λ (xs : List (List ℕ)). Contains xs q) (more_is names i name within read) member)) as (λ _. Contains (names_in now.known) q) [
    | inl old ↦ joined_names between now more q (joined.known q old)
    | inr new ↦ elim (first_or_later name [] q new) as (λ _. Contains (names_in now.known) q) [
      | inl same ↦ subst (λ (x : List ℕ). Contains (names_in now.known) x) same known
      | inr none ↦ absurd (none_in_nil q none)
    ]
  ];
}

pub none_taken : {X : Type 0} (xs : List X) → take 0 xs ≡ []
none_taken [] = refl
none_taken (x ∷ xs) = refl

pub all_known : (before now : State) (names taken : List (List ℕ)) → taken ≡ names → KnowsAll before taken now → (name : List ℕ) → Contains names name → Contains (names_in now.known) name
all_known before now names taken all knows name member = knows.known name (subst (λ (xs : List (List ℕ)). Contains xs name) (sym all) member)

-- ---- and then ports

pub joined_ok : {X E : Type 0} (r : Result X E) (before named now : State) (names : List (List ℕ)) (ports told : List RadioPort) → KnowsAll before names named → told ≡ ports → OnOk r (now ≡ ports_after named told)
    → OnOk r (HasJoined before names ports now)
joined_ok (Ok x) before named now names ports told knows same is = record { named = named; knows = knows; is = is ∙ ap (ports_after named) same }
joined_ok (Err e) before named now names ports told knows same is = tt

pub joined_err : {X E : Type 0} (r : Result X E) (before named now : State) → HasMoreNames before named → OnErr r (now ≡ named) → OnErr r (HasMoreNames before now)
joined_err (Ok x) before named now more is = tt
joined_err (Err e) before named now more is = subst (λ (s : State). HasMoreNames before s) (sym is) more
