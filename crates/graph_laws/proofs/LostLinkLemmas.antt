-- Where each held link is one of the rows, no used name loses its link.
use Rattle.std.proofs.Common.{◌≡◌, inl, inr, ℕ, List, [], ◌∷◌, ◌++◌, map, filter, Bool, true, false, cond, Contains, Option, Some, None, refl, ap, sym, subst, ◌∙◌}
use Rattle.std.specs.Prelude.{not}
use Rattle.std.specs.FinSet as set
use Rattle.std.specs.List.{flat_map, list_any, find}
use Rattle.std.proofs.lemmas.List.Elements.{Contains-append_cases}
use Rattle.kern_model.specs.declared.object.Mac.{Mac}
use Rattle.kern_model.specs.declared.object.LinkKind.{LinkKind}
use Rattle.kern_model.specs.declared.object.LinkKind.TheVariants as kind
use Rattle.kern_model.specs.declared.object.Object.{Object}
use Rattle.kern_model.specs.declared.object.Object.TheVariants as object
use Rattle.kern_model.specs.declared.object.Call.{Call}
use Rattle.kern_model.specs.declared.object.Call.TheVariants.{Put, Take}
use Rattle.kern_model.specs.ObjectOrder.{Objects, Has}
use Rattle.kern_model.specs.Standing.{IsOver}
use Rattle.kern_model.specs.Kernel.{replaces, after_call}
use Rattle.kern_model.specs.Touched.{is_touched}
use Rattle.kern_model.proofs.MemberLemmas.{here, there, none_in_nil, first_or_later, map_member, member_of_map}
use Rattle.kern_model.proofs.SetLemmas.{set_of_member, member_of_set, new_or_before, of_retained, of_without}
use Rattle.kern_model.proofs.TestLemmas.{both, of_both, false_of_not}
use Rattle.kern_model.proofs.GoneLemmas.{is_over_of_test}
use Rattle.kern_model.proofs.TouchLemmas.{loses_link_with}
use Rattle.kern_calls.proofs.CallsLemmas.{are_the_calls}
use Rattle.kern_calls.proofs.FilterLemmas.{in_filter}
use Rattle.net_rows.specs.declared.rows.VlanRow.{VlanRow}
use Rattle.net_rules.specs.Rows.{row_at, is_vlan_of}
use Rattle.net_rules.specs.Standing.{Standing, Broken, Alone, Over, Ports}
use Rattle.net_rules.specs.Want.{mtu_of, mac_of, local_vlan}
use Rattle.net_rules.specs.Moment.{AreWithin}
use Rattle.net_rules.proofs.ListLemmas.{IsAmong, in_join, from_join, within_filter}
use Rattle.graph_rules.specs.State.{Named, Known, State, name_list, names_in, devices_in}
use Rattle.graph_rules.specs.Answers.{standing_in, used_in}
use Rattle.graph_rules.specs.Wanted.{want_in}
use Rattle.graph_rules.specs.Calls.{calls_in, is_take, loses_link_in}
use Rattle.graph_rules.specs.After.{with_names, did_after}
use Rattle.graph_rules.specs.Conditions.{IsNext}
use Rattle.graph_counts.specs.Sound.{IsSound}
use Rattle.graph_wishes.specs.Wishes.{May, may_alone, may_master, may_entry, is_own_entry, vlan_mays, mays_by, mays_of, mays, is_used_may, used_mays}
use Rattle.graph_wishes.proofs.WishLemmas.{wants_used_mays}
use Rattle.graph_laws.specs.Links.{HoldsLinksOfRows}
use Rattle.graph_wishes.proofs.StoodLemmas.{used_lower}

-- a link that a row may make: its name decides it alone, and the row of a VLAN is over the same
record IsLinkMay (s : Known) (name : List ℕ) (made : LinkKind) (m : May) : Type 0 where
  first : m.first ≡ name
  second : m.second ≡ name
  over : (lower : List ℕ) (id : ℕ) (mac : Option Mac) → made ≡ kind.Vlan lower id mac → standing_in s name ≡ Over lower id

-- objects that are no links
abbrev IsNoLink : Object → Type 0
IsNoLink o = (name : List ℕ) (made : LinkKind) → o ≡ object.Link name made → ⊥

mtu_no_link : (name : List ℕ) (mtu : Option ℕ) (o : Object) → Contains (mtu_of name mtu) o → IsNoLink o
mtu_no_link name None o h = absurd (none_in_nil o h)
mtu_no_link name (Some mtu) o h = elim (first_or_later (object.Mtu name mtu) [] o h) as (λ _. IsNoLink o) [ inl same ↦ λ other made is. cc (same, is) | inr none ↦ absurd (none_in_nil o none) ]

mac_no_link : (name : List ℕ) (mac : Option Mac) (o : Object) → Contains (mac_of name mac) o → IsNoLink o
mac_no_link name None o h = absurd (none_in_nil o h)
mac_no_link name (Some mac) o h = elim (first_or_later (object.Mac name mac) [] o h) as (λ _. IsNoLink o) [ inl same ↦ λ other made is. cc (same, is) | inr none ↦ absurd (none_in_nil o none) ]

local_no_link : (bridge : List ℕ) (id : ℕ) (b : Bool) (o : Object) → Contains (local_vlan bridge id b) o → IsNoLink o
local_no_link bridge id false o h = absurd (none_in_nil o h)
local_no_link bridge id true o h = elim (first_or_later (object.Vlan bridge bridge id false false) [] o h) as (λ _. IsNoLink o) [ inl same ↦ λ other made is. cc (same, is) | inr none ↦ absurd (none_in_nil o none) ]

alone_no_link : (name : List ℕ) (os : List Object) → ((o : Object) → Contains os o → IsNoLink o) → (m : May) → Contains (map (may_alone name) os) m → IsNoLink m.object
alone_no_link name os none m h =
    let from = member_of_map (may_alone name) os m h in
    subst (λ (x : May). IsNoLink x.object) from.same (none from.source from.member)

vlan_no_link : (name : List ℕ) (ports : List (List ℕ)) (row : VlanRow) (m : May) → Contains (vlan_mays name ports row) m → IsNoLink m.object
vlan_no_link name ports row m h = elim (Contains-append_cases (map (may_entry name row.id) (filter (is_own_entry ports) row.entries)) (map (may_alone name) (local_vlan name row.id row.local)) m h) as (λ _. IsNoLink m.object) [
  | inl entry ↦ let from = member_of_map (may_entry name row.id) (filter (is_own_entry ports) row.entries) m entry in λ other made is. cc (ap (λ (x : May). x.object) from.same, is)
  | inr local ↦ alone_no_link name (local_vlan name row.id row.local) (local_no_link name row.id row.local) m local
]

module _ (s : Known) (name : List ℕ) (made : LinkKind) (m : May) (is : m.object ≡ object.Link name made) where
  abbrev IsIts : Type 0
  IsIts = IsLinkMay s name made m

  up_off : (x : List ℕ) → may_alone x (object.Up x) ≡ m → IsIts
  up_off x same = absurd (let o = ap (λ (n : May). n.object) same in cc (o, is))

  of_standing : (x : List ℕ) (mac : Option Mac) (standing : Standing) → standing_in s x ≡ standing → Contains (mays_by s x mac standing) m → IsIts
  of_standing x mac Broken at h = absurd (none_in_nil m h)
  of_standing x mac (Alone fit) at h = elim (first_or_later (may_alone x (object.Up x)) (map (may_alone x) (mac_of x mac)) m h) as (λ _. IsIts) [
    | inl same ↦ up_off x same
    | inr later ↦ absurd (alone_no_link x (mac_of x mac) (mac_no_link x mac) m later name made is)
  ]
  of_standing x mac (Over lower id) at h = elim (first_or_later (may_alone x (object.Up x)) (may_alone x (object.Link x (kind.Vlan lower id mac)) ∷ []) m h) as (λ _. IsIts) [
    | inl same ↦ up_off x same
    | inr later ↦ elim (first_or_later (may_alone x (object.Link x (kind.Vlan lower id mac))) [] m later) as (λ _. IsIts) [
      | inl same ↦
          let link : object.Link x (kind.Vlan lower id mac) ≡ object.Link name made = ap (λ (n : May). n.object) same ∙ is in
          let names : x ≡ name = cc link in
          let kinds : kind.Vlan lower id mac ≡ made = cc link in
          record {
            first = sym (ap (λ (n : May). n.first) same) ∙ names;
            second = sym (ap (λ (n : May). n.second) same) ∙ names;
            over = λ below number other k.
                let lowers : lower ≡ below = cc (kinds, k) in
                let ids : id ≡ number = cc (kinds, k) in
                ap (standing_in s) (sym names) ∙ at ∙ (λ i. Over (lowers i) (ids i));
          }
      | inr none ↦ absurd (none_in_nil m none)
    ]
  ]
  of_standing x mac (Ports empty ports) at h =
      let bridge : May = may_alone x (object.Link x (kind.Bridge mac (list_any (is_vlan_of x) s.vlans))) in
      let vlans : List VlanRow = filter (is_vlan_of x) s.vlans in
      let rest : List May = map (may_master x) ports ++ flat_map (vlan_mays x ports) vlans in
      elim (first_or_later (may_alone x (object.Up x)) (bridge ∷ rest) m h) as (λ _. IsIts) [
        | inl same ↦ up_off x same
        | inr later ↦ elim (first_or_later bridge rest m later) as (λ _. IsIts) [
          | inl same ↦
              let link : object.Link x (kind.Bridge mac (list_any (is_vlan_of x) s.vlans)) ≡ object.Link name made = ap (λ (n : May). n.object) same ∙ is in
              let names : x ≡ name = cc link in
              let kinds : kind.Bridge mac (list_any (is_vlan_of x) s.vlans) ≡ made = cc link in
              record {
                first = sym (ap (λ (n : May). n.first) same) ∙ names;
                second = sym (ap (λ (n : May). n.second) same) ∙ names;
                over = λ below number other k. cc (kinds, k);
              }
          | inr others ↦ elim (Contains-append_cases (map (may_master x) ports) (flat_map (vlan_mays x ports) vlans) m others) as (λ _. IsIts) [
            | inl master ↦ let from = member_of_map (may_master x) ports m master in absurd (let o = ap (λ (n : May). n.object) from.same in cc (o, is))
            | inr vlan ↦ let from : IsAmong (vlan_mays x ports) vlans m = from_join (vlan_mays x ports) vlans m vlan in absurd (vlan_no_link x ports from.source m from.among name made is)
          ]
        ]
      ]

  of_name : (x : List ℕ) → Contains (mays_of s x) m → IsIts
  of_name x h =
      let row = row_at s.rows x in
      elim (Contains-append_cases (map (may_alone x) (mtu_of x row.mtu)) (mays_by s x row.mac (standing_in s x)) m h) as (λ _. IsIts) [
        | inl mtu ↦ absurd (alone_no_link x (mtu_of x row.mtu) (mtu_no_link x row.mtu) m mtu name made is)
        | inr rest ↦ of_standing x row.mac (standing_in s x) refl rest
      ]

-- a link of the rows
record IsRowLink (s : Known) (name : List ℕ) (made : LinkKind) : Type 0 where
  may : May
  member : Contains (mays s) may
  is : may.object ≡ object.Link name made
  its : IsLinkMay s name made may

row_link : (s : Known) (name : List ℕ) (made : LinkKind) → Contains (map (λ (m : May). m.object) (mays s)) (object.Link name made) → IsRowLink s name made
row_link s name made h =
    let from = member_of_map (λ (m : May). m.object) (mays s) (object.Link name made) h in
    let of : IsAmong (mays_of s) (names_in s) from.source = from_join (mays_of s) (names_in s) from.source from.member in
    record { may = from.source; member = from.member; is = from.same; its = of_name s name made from.source from.same of.source of.among }

-- a link of the rows is wanted where its name is used
link_wanted : (s : Known) (name : List ℕ) (made : LinkKind) → IsRowLink s name made → used_in s name ≡ true → Has (want_in s) (object.Link name made)
link_wanted s name made link used =
    let first : used_in s link.may.first ≡ true = ap (used_in s) link.its.first ∙ used in
    let second : used_in s link.may.second ≡ true = ap (used_in s) link.its.second ∙ used in
    let among : Contains (filter (is_used_may s) (mays s)) link.may = in_filter (is_used_may s) (mays s) link.may link.member (of_both (used_in s link.may.first) (used_in s link.may.second) first second) in
    let listed : Contains (used_mays s (mays s)) (object.Link name made) = subst (Contains (used_mays s (mays s))) link.is (map_member (λ (m : May). m.object) (filter (is_used_may s) (mays s)) link.may among) in
    subst (λ (w : Objects). Has w (object.Link name made)) (sym (wants_used_mays s)) (set_of_member (used_mays s (mays s)) (object.Link name made) listed)

-- what is wanted may be wanted
wanted_may : (s : Known) (o : Object) → Has (want_in s) o → Contains (map (λ (m : May). m.object) (mays s)) o
wanted_may s o h =
    let listed = member_of_set (used_mays s (mays s)) o (subst (λ (w : Objects). Has w o) (wants_used_mays s) h) in
    let from = member_of_map (λ (m : May). m.object) (filter (is_used_may s) (mays s)) o listed in
    subst (Contains (map (λ (m : May). m.object) (mays s))) from.same (map_member (λ (m : May). m.object) (mays s) from.source (within_filter (is_used_may s) (mays s) from.source from.member))

module _ (s : State) (holds : HoldsLinksOfRows s) where
  module _ (sound : IsSound s.known) where
    -- what a used name is over is used
    used_under : (base above : List ℕ) → IsOver s.held base above → used_in s.known above ≡ true → used_in s.known base ≡ true
    used_under base above IsOver.itself used = used
    used_under base above (IsOver.above name lower id mac has over) used =
        let link : IsRowLink s.known name (kind.Vlan lower id mac) = row_link s.known name (kind.Vlan lower id mac) (holds name (kind.Vlan lower id mac) has) in
        used_under base lower over (used_lower s.known sound name lower id (link.its.over lower id mac refl) used)

    pub no_lost_link : (name : List ℕ) → used_in s.known name ≡ true → loses_link_in s name ≡ false
    no_lost_link name used = false_of_not (loses_link_in s name) (λ h.
        let f = loses_link_with s.held (want_in s.known) name h in
        f.unwanted (link_wanted s.known f.base f.kind (row_link s.known f.base f.kind (holds f.base f.kind f.had))
        (used_under f.base name (is_over_of_test s.held f.base name f.over) used)))

  -- calls
  put_link : (o : Object) → Has (want_in s.known) o → (name : List ℕ) (made : LinkKind) → Has (after_call s.held (Put o)) (object.Link name made) → Contains (map (λ (m : May). m.object) (mays s.known)) (object.Link name made)
  put_link o wanted name made h = elim (new_or_before (set.retain s.held (λ old. not (replaces o old))) o (object.Link name made) h) as (λ _. Contains (map (λ (m : May). m.object) (mays s.known)) (object.Link name made)) [
    | inl same ↦ wanted_may s.known (object.Link name made) (subst (Has (want_in s.known)) (sym same) wanted)
    | inr before ↦ holds name made (of_retained s.held (λ old. not (replaces o old)) (object.Link name made) before).0
  ]

  call_kept : (call : Call) → Contains (calls_in s) call → HoldsLinksOfRows (did_after s call)
  call_kept (Put o) h name made has =
      let put = (are_the_calls (devices_in s.known) s.held (want_in s.known)).sound (Put o) h in
      put_link o (both (set.contains (want_in s.known) o) (is_touched s.held (want_in s.known) o) put).0 name made has
  call_kept (Take o mtu mac) h name made has = holds name made (of_without s.held o (object.Link name made) has).0

  found_inside : (p : Call → Bool) (calls : List Call) (call : Call) → find p calls ≡ Some call → Contains calls call
  found_inside p [] call h = cc h
  found_inside p (c ∷ cs) call h = by_test (p c) h (found_inside p cs call)
    where
      by_test : (b : Bool) → cond {A = Option Call} b (Some c) (find p cs) ≡ Some call → (find p cs ≡ Some call → Contains cs call) → Contains (c ∷ cs) call
      by_test true e rest = let same : c ≡ call = cc e in subst (Contains (c ∷ cs)) same (here c cs)
      by_test false e rest = there c cs call (rest e)

  pub links_kept : (call : Call) → IsNext s call → HoldsLinksOfRows (did_after s call)
  links_kept call (IsNext.takes first) = call_kept call (found_inside is_take (calls_in s) call first)
  links_kept call (IsNext.puts none first) = call_kept call (found_inside (λ c. not (is_take c)) (calls_in s) call first)

pub settled_links : (s : State) → s.held ≡ want_in s.known → HoldsLinksOfRows s
settled_links s same name made h = wanted_may s.known (object.Link name made) (subst (λ (held : Objects). Has held (object.Link name made)) same h)

-- rows make the same links beside other names
by_same : (s : Known) (names : List Named) (name : List ℕ) (mac : Option Mac) (standing : Standing) → mays_by (record s { names = names }) name mac standing ≡ mays_by s name mac standing
by_same s names name mac Broken = refl
by_same s names name mac (Alone fit) = refl
by_same s names name mac (Over lower id) = refl
by_same s names name mac (Ports empty ports) = refl

of_same : (s : Known) (names : List Named) (name : List ℕ) → mays_of (record s { names = names }) name ≡ mays_of s name
of_same s names name = let row = row_at s.rows name in ap (λ (ms : List May). map (may_alone name) (mtu_of name row.mtu) ++ ms) (by_same s names name row.mac (standing_in s name))

pub links_stay : (s : State) (names : List Named) (held : Objects) → HoldsLinksOfRows s → ((name : List ℕ) → Contains (names_in s.known) name → Contains (name_list names) name) → AreWithin held s.held
    → HoldsLinksOfRows (record (with_names s names) { held = held })
links_stay s names held holds more within name made has =
    let now : Known = record s.known { names = names } in
    let from = member_of_map (λ (m : May). m.object) (mays s.known) (object.Link name made) (holds name made (within (object.Link name made) has)) in
    let of : IsAmong (mays_of s.known) (names_in s.known) from.source = from_join (mays_of s.known) (names_in s.known) from.source from.member in
    let among : Contains (mays_of now of.source) from.source = subst (λ (ms : List May). Contains ms from.source) (sym (of_same s.known names of.source)) of.among in
    let member : Contains (mays now) from.source = in_join (mays_of now) (name_list names) of.source from.source (more of.source of.member) among in
    subst (Contains (map (λ (m : May). m.object) (mays now))) from.same (map_member (λ (m : May). m.object) (mays now) from.source member)
