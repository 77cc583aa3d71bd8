-- one more plain name
use Rattle.std.proofs.Common.{arith, ℕ, ◌≤◌, ◌≡◌, List, [], ◌∷◌, map, length, Option, Some, None, Result, Ok, Err, OnOk, OnErr, sym, ap, subst, ◌∙◌}
use Rattle.kern_model.proofs.MemberLemmas.{none_in_nil}
use Rattle.kern_model.specs.ObjectOrder.{Objects}
use Rattle.net_rules.specs.Inputs.{no_conf}
use Rattle.net_rules.proofs.HistoryLemmas.{no_rows_sound}
use Rattle.graph_rules.specs.State.{Known, State, nothing_known, place_among}
use Rattle.graph_rules.specs.After.{with_name, added_after}
use Rattle.graph_rules.specs.Conditions.{CanLoad}
use Rattle.graph_counts.proofs.GrowLemmas.{sound_with_name}
use Rattle.graph_tables.specs.Whole.{IsWhole}
use Rattle.graph_tables.specs.Wished.{wish_in}
use Rattle.graph_tables.specs.Lists.{AreUsed, HaveSame}
use Rattle.graph_tables.specs.Wishes.{mays}
use Rattle.dev_graph.specs.declared.graph.Graph.TheInside.{Inside}
use Rattle.dev_graph.specs.Added.{added}
use Rattle.dev_graph.specs.Inside.{known_in, IsTied}
use Rattle.dev_graph.proofs.GraphLemmas.{whole_loaded, whole_some}

-- rows of nothing and one plain name can be loaded
pub can_load_one : (name : List ℕ) → CanLoad no_conf (name ∷ []) []
can_load_one name = record {
  sound = no_rows_sound;
  few = omega arith;
  once = (tt, tt);
  ports_once = λ row m. absurd (none_in_nil row m);
  ports = record {
    bridges = λ p m. absurd (none_in_nil p m);
    plain = λ p m. absurd (none_in_nil p m);
    known = λ p m. absurd (none_in_nil p m);
    once = tt;
    free = λ p m row in_rows owned. none_in_nil p m;
  };
}

pub whole_one : (t : Known) (name : List ℕ) → t ≡ record nothing_known { names = with_name [] name } → IsWhole t
whole_one t name is = subst IsWhole (sym is) (whole_loaded [] no_conf (name ∷ []) [] (can_load_one name))

-- with one more name all is whole
pub whole_added : (s : Known) (name : List ℕ) → IsWhole s → place_among s.names name ≡ None → IsWhole (record s { names = with_name s.names name })
whole_added s name whole other = record { names = sound_with_name s name whole.names other; vlans = whole.vlans }

-- a graph with one more name
module _ (names : Option Known) (held : Objects) (loads : ℕ) (old : State) (view : (let start : State = record { known = known_in names; held = held; loads = loads } in start) ≡ old) where
  pub known_is : (s : Known) → known_in names ≡ s → s ≡ old.known
  known_is s is = sym is ∙ ap (λ (o : State). o.known) view

  pub added_now : (s t : Known) (now : Objects) (name : List ℕ) → known_in names ≡ s → t ≡ record s { names = with_name s.names name } → now ≡ held → (let end : State = record { known = t; held = now; loads = loads } in end)
      ≡ added_after old name
  added_now s t now name is more same =
      let known_now : t ≡ record old.known { names = with_name old.known.names name } = more ∙ ap (λ (k : Known). let m : Known = record k { names = with_name k.names name } in m) (known_is s is) in
      let held_now : now ≡ old.held = same ∙ ap (λ (o : State). o.held) view in
      let loads_now : loads ≡ old.loads = ap (λ (o : State). o.loads) view in
      let all : (let end : State = record { known = t; held = now; loads = loads } in end) ≡ added_after old name = λ i. record { known = known_now i; held = held_now i; loads = loads_now i } in
      all

  pub stays_now : (s t : Known) (now : Objects) → known_in names ≡ s → t ≡ s → now ≡ held → (let end : State = record { known = t; held = now; loads = loads } in end) ≡ old
  stays_now s t now is told same =
      let known_now : t ≡ old.known = told ∙ known_is s is in
      let held_now : now ≡ old.held = same ∙ ap (λ (o : State). o.held) view in
      let loads_now : loads ≡ old.loads = ap (λ (o : State). o.loads) view in
      let all : (let end : State = record { known = t; held = now; loads = loads } in end) ≡ old = λ i. record { known = known_now i; held = held_now i; loads = loads_now i } in
      all

  pub place_before : (s : Known) (name : List ℕ) → known_in names ≡ s → place_among old.known.names name ≡ None → place_among s.names name ≡ None
  place_before s name is other = ap (λ (k : Known). place_among k.names name) (known_is s is) ∙ other

-- with one more name or as it was, all is whole
pub whole_either : {A E : Type 0} (r : Result A E) (s t : Known) (name : List ℕ) → IsWhole s → place_among s.names name ≡ None → OnOk r (t ≡ added s name) → OnErr r (t ≡ s) → IsWhole t
whole_either (Ok a) s t name whole other more stays = subst IsWhole (sym more) (whole_added s name whole other)
whole_either (Err e) s t name whole other more stays = subst IsWhole (sym stays) whole

pub tied_after_adding : (h : Inside) (t : Known) → h.names ≡ Some t → IsWhole t → length h.used.items ≡ length t.names → AreUsed t h.used.items → HaveSame h.objects.wishes (map (wish_in t) (mays t)) → length t.names ≤ h.uses.room
    → h.uses.ids ≡ [] → IsTied h
tied_after_adding h t now whole size used wishes room none = record {
  whole = λ k e. whole_some t whole k (sym now ∙ e);
  used = size ∙ ap (λ n. length (known_in n).names) (sym now);
  looked = subst (λ n. AreUsed (known_in n) h.used.items) (sym now) used;
  room = subst (λ n. length (known_in n).names ≤ h.uses.room) (sym now) room;
  none = none;
  wishes = subst (λ n. HaveSame h.objects.wishes (map (wish_in (known_in n)) (mays (known_in n)))) (sym now) wishes;
}
