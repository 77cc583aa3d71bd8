-- a graph after an event, a load, or other ports of radios
use Rattle.std.proofs.Common.{arith, ℕ, ◌<◌, ◌+◌, ◌≡◌, ◌⊎◌, inl, inr, Bool, true, false, List, [], ◌∷◌, map, length, Contains, Option, Some, None, refl, sym, ap, subst, ◌∙◌}
use Rattle.std.proofs.lemmas.List.{length-map}
use Rattle.kern_model.proofs.MemberLemmas.{here, none_in_nil}
use Rattle.kern_model.specs.ObjectOrder.{Objects, set_of}
use Rattle.kern_model.specs.declared.object.Device.{Device}
use Rattle.plane_words.specs.Distinct.{AreDistinct}
use Rattle.net_rows.specs.declared.rows.Conf.{Conf}
use Rattle.net_rows.specs.declared.rows.NameRow.{NameRow}
use Rattle.net_rows.specs.declared.rows.VlanRow.{VlanRow}
use Rattle.graph_rules.specs.declared.ids.RadioPort.{RadioPort}
use Rattle.graph_rules.specs.State.{Named, Known, State, name_list, names_in, nothing_known}
use Rattle.graph_rules.specs.After.{known_of, loaded_after, ports_after, name_at, with_device, with_names, left_by, absent_after}
use Rattle.graph_rules.specs.Answers.{used_in}
use Rattle.graph_rules.specs.Edges.{changed_edges, differs}
use Rattle.graph_rules.specs.Conditions.{CanLoad, ArePorts}
use Rattle.graph_objects.specs.declared.slot.Wish.{Wish}
use Rattle.graph_objects.specs.Marks.{Marks, held_of}
use Rattle.use_counts.specs.Uses.{Marking}
use Rattle.graph_counts.specs.Counted.{name_of}
use Rattle.graph_counts.specs.Sound.{IsSound}
use Rattle.graph_counts.specs.Uses.{TellsUses}
use Rattle.graph_counts.proofs.AnswerLemmas.{sound_names}
use Rattle.graph_counts.proofs.LoadLemmas.{sound_loaded}
use Rattle.graph_counts.proofs.SoundLemmas.{rowless_bridge}
use Rattle.graph_tables.specs.Wishes.{mays}
use Rattle.graph_tables.specs.Wished.{known, wish_in, wishes_at}
use Rattle.graph_tables.specs.Lists.{AreUsed, HaveSame, unjudged}
use Rattle.graph_tables.specs.Differing.{DiffersAt}
use Rattle.graph_tables.specs.Whole.{IsWhole}
use Rattle.dev_graph.specs.declared.graph.Graph.TheInside.{Inside}
use Rattle.dev_graph.specs.Inside.{known_in, IsTied}
use Rattle.graph_tables.proofs.ListLemmas.{same_mays, first_unjudged}

-- what can be loaded is sound
pub whole_loaded : (old : List Named) (conf : Conf) (plain : List (List ℕ)) (radio : List RadioPort) → CanLoad conf plain radio → IsWhole (known_of old conf plain radio)
whole_loaded old conf plain radio can = record {
  names = sound_loaded old conf plain radio can;
  vlans = let v = can.sound.vlans in record {
    one_row = λ bridge a b on. v.one_row bridge a b (record { first = on.first; first_on = on.first_on; second = on.second; second_on = on.second_on });
    one_entry = v.one_entry;
    one_pvid =
        λ bridge a b on. v.one_pvid bridge a b (record { first = on.first; first_on = on.first_on; second = on.second; second_on = on.second_on });
  };
}

-- names of the same spelling, and other ports of radios
pub whole_named : (s : Known) (ns : List Named) → IsWhole s → name_list ns ≡ names_in s → IsWhole (record s { names = ns })
whole_named s ns whole same = record { names = sound_names s ns whole.names same; vlans = whole.vlans }

pub whole_ports : (s : Known) (radio : List RadioPort) → IsWhole s → ArePorts s.rows (names_in s) radio → IsWhole (record s { radio = radio })
whole_ports s radio whole ports =
    let h = whole.names in
    record {
      names = record { levels = h.levels; standing = h.standing; names = h.names; ports_once = h.ports_once; ports = ports };
      vlans = whole.vlans;
    }

-- what is known, before it is looked which names are used
pub record IsReady (t : Known) (ws : List Wish) (marks : ℕ) : Type 0 where
  pub whole : IsWhole t
  pub size : marks ≡ length t.names
  pub wishes : HaveSame (map unjudged ws) (wishes_at (names_in t) (mays t))

-- what differs is not the same
unlike : (a b : Bool) → (a ≡ b → ⊥) → differs a b ≡ true
unlike true true other = absurd (other refl)
unlike true false other = refl
unlike false true other = refl
unlike false false other = absurd (other refl)

-- what an event leaves to judge: names of another telling, and the ids that it noted
pub record IsTold (s t : Known) (ids : List ℕ) (used : List Bool) (ws : List Wish) : Type 0 where
  pub whole : IsWhole t
  pub within : (id : ℕ) → Contains ids id → id < length t.names
  pub differing : DiffersAt s t ids used ws

told_named : (s : Known) (ns : List Named) (ws : List Wish) (used : List Bool) (old new : Marking) → IsWhole s → HaveSame ws (map (wish_in s) (mays s)) → length used ≡ length s.names → AreUsed s used → old.ids ≡ [] → name_list ns
    ≡ names_in s
    → TellsUses s (record s { names = ns }) old new → IsTold s (record s { names = ns }) new.ids used ws
told_named s ns ws used old new whole same size are none spelled tells =
    let sizes : length ns ≡ length s.names = sym (length-map ns (λ (n : Named). n.name)) ∙ ap length spelled ∙ length-map s.names (λ (n : Named). n.name) in
    let t : Known = record s { names = ns } in
    record {
      whole = whole_named s ns whole spelled;
      within = λ id marked. elim (tells.only id marked) as (λ _. id < length ns) [
        | inl before ↦ absurd (none_in_nil id (subst (λ ids. Contains ids id) none before))
        | inr inside ↦ omega (arith, inside, sizes)
      ];
      differing = record {
        spelling = sym spelled;
        objects = sym (same_mays s ns spelled);
        size = size ∙ sym sizes;
        uses = are;
        wishes = same;
        differing = λ id inside other. tells.all id (omega (arith, inside, sizes)) (unlike (used_in s (name_of s id)) (used_in t (name_of t id)) other);
      };
    }

pub told_after : (g : Inside) (s t : Known) (ns : List Named) (new : Marking) → g.names ≡ Some s → IsTied g → name_list ns ≡ names_in s → t ≡ record s { names = ns } → TellsUses s t g.uses new
    → IsTold s t new.ids g.used.items g.objects.wishes
told_after g s t ns new is tied spelled now tells =
    let there : known_in g.names ≡ s = ap known_in is in
    let same : HaveSame g.objects.wishes (map (wish_in s) (mays s)) = subst (λ k. HaveSame g.objects.wishes (map (wish_in k) (mays k))) there tied.wishes in
    let size : length g.used.items ≡ length s.names = tied.used ∙ ap (λ (k : Known). length k.names) there in
    let are : AreUsed s g.used.items = subst (λ k. AreUsed k g.used.items) there tied.looked in
    subst (λ k. IsTold s k new.ids g.used.items g.objects.wishes) (sym now)
    (told_named s ns g.objects.wishes g.used.items g.uses new (tied.whole s is) same size are tied.none spelled (subst (λ k. TellsUses s k g.uses new) now tells))

pub same_held : (old new : Marks) → new.held ≡ old.held → held_of new ≡ held_of old
same_held old new same = ap set_of same

-- without rows there are no ports of radios
pub no_ports : (radio : List RadioPort) → ArePorts [] [] radio → radio ≡ []
no_ports [] ports = refl
no_ports (p ∷ ps) ports = absurd (let made = ports.bridges p (here p ps) in let not_made = rowless_bridge p.bridge in cc (made, not_made))

-- names stand once, also before the first load
pub names_once : (names : Option Known) → ((s : Known) → names ≡ Some s → IsSound s) → AreDistinct (names_in (known_in names))
names_once None sound = tt
names_once (Some s) sound = (sound s refl).names.once

-- the names of a graph that was loaded are whole
pub whole_some : (t : Known) → IsWhole t → (s : Known) → Some t ≡ Some s → IsWhole s
whole_some t whole s is = let same : t ≡ s = cc is in subst IsWhole same whole

-- what a graph is after an event, by what its names and objects are then
module _ (names : Option Known) (s : Known) (held : Objects) (loads : ℕ) (old : State) (is : names ≡ Some s) (view : (let start : State = record { known = known_in names; held = held; loads = loads } in start) ≡ old) where
  pub known_before : s ≡ old.known
  known_before = sym (ap known_in is) ∙ ap (λ (o : State). o.known) view

  pub held_before : held ≡ old.held
  held_before = ap (λ (o : State). o.held) view

  pub loads_before : loads ≡ old.loads
  loads_before = ap (λ (o : State). o.loads) view

  pub after_event : (t : Known) (now : Objects) (change : List Named → List Named) → t ≡ record s { names = change s.names } → now ≡ held
      → (let end : State = record { known = t; held = now; loads = loads } in end) ≡ with_names old (change old.known.names)
  after_event t now change names_now held_now =
      let known_now : t ≡ record old.known { names = change old.known.names } = names_now ∙ ap (λ (k : Known). let m : Known = record k { names = change k.names } in m) known_before in
      let all : (let end : State = record { known = t; held = now; loads = loads } in end) ≡ with_names old (change old.known.names) = λ i. record { known = known_now i; held = (held_now ∙ held_before) i; loads = loads_before i } in
      all

  pub after_leaving : (t : Known) (now : Objects) (id : ℕ) (name : List ℕ) (device : Option Device) → t ≡ record s { names = with_device s.names id None } → name ≡ (name_at s.names id).name → device ≡ (name_at s.names id).device → now
      ≡ left_by device name held
      → (let end : State = record { known = t; held = now; loads = loads } in end) ≡ absent_after old id
  after_leaving t now id name device names_now named there held_now =
      let known_now : t ≡ record old.known { names = with_device old.known.names id None } = names_now ∙ ap (λ (k : Known). let m : Known = record k { names = with_device k.names id None } in m) known_before in
      let name_now : name ≡ (name_at old.known.names id).name = named ∙ ap (λ (k : Known). (name_at k.names id).name) known_before in
      let device_now : device ≡ (name_at old.known.names id).device = there ∙ ap (λ (k : Known). (name_at k.names id).device) known_before in
      let gone_now : now ≡ left_by (name_at old.known.names id).device (name_at old.known.names id).name old.held = held_now ∙ ap (left_by device name) held_before ∙ ap (λ (d : Option Device). left_by d name old.held) device_now
      ∙ ap (λ (n : List ℕ). left_by (name_at old.known.names id).device n old.held) name_now in
      let all : (let end : State = record { known = t; held = now; loads = loads } in end) ≡ absent_after old id = λ i. record { known = known_now i; held = gone_now i; loads = loads_before i } in
      all

  pub id_before : (id : ℕ) → id < length old.known.names → id < length s.names
  id_before id within = omega (arith, within, ap (λ (k : Known). length k.names) known_before)

  pub cost_before : (t : Known) → changed_edges s t ≡ changed_edges old.known t
  cost_before t = ap (λ (k : Known). changed_edges k t) known_before

-- before the first load there are no ids
pub no_id : (names : Option Known) (held : Objects) (loads : ℕ) (old : State) (id : ℕ) → names ≡ None → (let start : State = record { known = known_in names; held = held; loads = loads } in start) ≡ old → id < length old.known.names → ⊥
no_id names held loads old id is view within = omega (arith, within, ap (λ (o : State). length o.known.names) view, ap (λ n. length (known_in n).names) is)

-- what is known, by parts that are handed out
module _ (t : Known) (rows : List NameRow) (vlans : List VlanRow) (names : List Named) (radio : List RadioPort) (rows_are : rows ≡ t.rows) (vlans_are : vlans ≡ t.vlans) (names_are : names ≡ t.names) (radio_are : radio ≡ t.radio) where
  parts : known rows vlans names radio ≡ t
  parts = let all : known rows vlans names radio ≡ t = λ i. record { rows = rows_are i; vlans = vlans_are i; names = names_are i; radio = radio_are i } in all

  pub whole_parts : IsWhole t → IsWhole (known rows vlans names radio)
  whole_parts whole = subst IsWhole (sym parts) whole

  -- a new table has what these may want
  pub ready_parts : (objects : Marks) (marks : ℕ) → IsWhole t → marks ≡ length t.names → HaveSame objects.wishes (wishes_at (name_list names) (mays (known rows vlans names radio))) → IsReady t objects.wishes marks
  ready_parts objects marks whole size same = record {
    whole = whole;
    size = size;
    wishes = first_unjudged (names_in t) (mays t) objects.wishes (subst (λ k. HaveSame objects.wishes (wishes_at (names_in k) (mays k))) parts same);
  }

-- a graph after a load
pub loaded_now : (names : Option Known) (held : Objects) (loads : ℕ) (old : State) → (let start : State = record { known = known_in names; held = held; loads = loads } in start) ≡ old
    → (conf : Conf) (plain : List (List ℕ)) (radio : List RadioPort) (t : Known) (now : Objects)
    → t ≡ known_of (known_in names).names conf plain radio → now ≡ held → (let end : State = record { known = t; held = now; loads = loads + 1 } in end) ≡ loaded_after (Some old) conf plain radio
loaded_now names held loads old view conf plain radio t now is same =
    let known_now : t ≡ known_of old.known.names conf plain radio = is ∙ ap (λ (s : State). known_of s.known.names conf plain radio) view in
    let held_now : now ≡ old.held = same ∙ ap (λ (s : State). s.held) view in
    let loads_now : loads + 1 ≡ old.loads + 1 = ap (λ (s : State). s.loads + 1) view in
    let all : (let end : State = record { known = t; held = now; loads = loads + 1 } in end) ≡ loaded_after (Some old) conf plain radio = λ i. record { known = known_now i; held = held_now i; loads = loads_now i } in
    all

-- a graph with other ports of radios
pub ports_now : (names : Option Known) (s : Known) (held : Objects) (loads : ℕ) (old : State) → names ≡ Some s → (let start : State = record { known = known_in names; held = held; loads = loads } in start) ≡ old
    → (radio : List RadioPort) (t : Known) (now : Objects)
    → t ≡ record s { radio = radio } → now ≡ held → (let end : State = record { known = t; held = now; loads = loads } in end) ≡ ports_after old radio
ports_now names s held loads old is view radio t now told same =
    let known_now : t ≡ record old.known { radio = radio } = told ∙ ap (λ (k : Known). let m : Known = record k { radio = radio } in m) (known_before names s held loads old is view) in
    let held_now : now ≡ old.held = same ∙ ap (λ (o : State). o.held) view in
    let loads_now : loads ≡ old.loads = ap (λ (o : State). o.loads) view in
    let all : (let end : State = record { known = t; held = now; loads = loads } in end) ≡ ports_after old radio = λ i. record { known = known_now i; held = held_now i; loads = loads_now i } in
    all

-- what is kept stays sound together where the names stay
pub tied_stays : (g : Inside) (t : Known) → g.names ≡ Some t → IsTied g → IsTied (record g { names = Some t })
tied_stays g t is tied = subst (λ n. IsTied (record g { names = n })) is tied

-- before the first load there are no bridges, and so no ports of radios
pub none_joined : (names : Option Known) (held : Objects) (loads : ℕ) (old : State) → names ≡ None → (let start : State = record { known = known_in names; held = held; loads = loads } in start) ≡ old → (radio : List RadioPort)
    → ArePorts old.known.rows (names_in old.known) radio
    → (let start : State = record { known = known_in names; held = held; loads = loads } in start) ≡ ports_after old radio
none_joined names held loads old is view radio ports =
    let nothing : old.known ≡ nothing_known = sym (ap (λ (o : State). o.known) view) ∙ ap known_in is in
    let none : radio ≡ [] = no_ports radio (subst (λ (k : Known). ArePorts k.rows (names_in k) radio) nothing ports) in
    let same : old.known.radio ≡ radio = ap (λ (k : Known). k.radio) nothing ∙ sym none in
    view ∙ ap (λ (r : List RadioPort). ports_after old r) same
