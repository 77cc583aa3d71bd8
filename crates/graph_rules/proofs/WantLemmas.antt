-- a graph that agrees with facts wants what they say
use Rattle.std.proofs.Common.{ℕ, ◌≡◌, ◌++◌, ◌&&◌, Bool, true, false, cond, List, [], ◌∷◌, map, filter, bytes_eq, Option, Contains, refl, sym, ap, subst, ◌∙◌}
use Rattle.std.specs.List.{flat_map, list_any}
use Rattle.kern_model.specs.declared.object.Mac.{Mac}
use Rattle.kern_model.specs.declared.object.LinkKind.TheVariants as kind
use Rattle.kern_model.specs.declared.object.Object.{Object}
use Rattle.kern_model.specs.declared.object.Object.TheVariants as object
use Rattle.kern_model.specs.ObjectOrder.{Has, set_of}
use Rattle.kern_model.proofs.SetLemmas.{set_of_member, member_of_set, same_members}
use Rattle.kern_model.proofs.MemberLemmas.{none_in_nil}
use Rattle.net_rows.specs.declared.rows.NameRow.{NameRow}
use Rattle.net_rows.specs.declared.rows.VlanRow.{VlanRow}
use Rattle.net_rows.specs.declared.rows.VlanEntry.{VlanEntry}
use Rattle.net_rules.specs.Facts.{Facts}
use Rattle.net_rules.specs.Rows.{row_at, is_vlan_of, vlans_of, is_filtering}
use Rattle.net_rules.specs.Standing.{Standing, Broken, Alone, Over, Ports, standing_at}
use Rattle.net_rules.specs.Used.{used}
use Rattle.net_rules.specs.Want.{known_names, objects_at, local_vlan, mtu_of}
use Rattle.net_rules.specs.Want as rules
use Rattle.net_rules.proofs.ListLemmas.{IsAmong, in_join, from_join}
use Rattle.graph_rules.specs.State.{Known, names_in}
use Rattle.graph_rules.specs.Answers.{used_in}
use Rattle.graph_rules.specs.Wanted as own
use Rattle.graph_rules.specs.Wanted.{objects_in, want_in}
use Rattle.graph_rules.specs.Agreeing.{Agrees, SharesUsed, wanted_on_names}
use Rattle.graph_rules.proofs.AgreeLemmas.{filter_same, standing_same, used_same}

flat_same : {X Y : Type 0} (f g : X → List Y) → ((x : X) → f x ≡ g x) → (xs : List X) → flat_map f xs ≡ flat_map g xs
flat_same f g same [] = refl
flat_same f g same (x ∷ xs) = ap (λ ys. ys ++ flat_map f xs) (same x) ∙ ap (λ ys. g x ++ ys) (flat_same f g same xs)

entry_same : (facts : Facts) (s : Known) → Agrees facts s → (ports : List (List ℕ)) (entry : VlanEntry) → own.entry_counts s ports entry ≡ rules.entry_counts facts ports entry
entry_same facts s a ports entry = ap (λ b. b && list_any (λ port. bytes_eq port entry.port) ports) (used_same facts s a entry.port)

vlan_same : (facts : Facts) (s : Known) → Agrees facts s → (name : List ℕ) (ports : List (List ℕ)) (row : VlanRow) → own.vlan_objects s name ports row ≡ rules.vlan_objects facts name ports row
vlan_same facts s a name ports row =
    ap (λ (es : List VlanEntry). map (λ entry. object.Vlan name entry.port row.id entry.pvid entry.untagged) es ++ local_vlan name row.id row.local)
    (filter_same (own.entry_counts s ports) (rules.entry_counts facts ports) (entry_same facts s a ports) row.entries)

by_same : (facts : Facts) (s : Known) → Agrees facts s → (name : List ℕ) (mac : Option Mac) (st : Standing) → own.objects_by s name mac st ≡ rules.objects_by facts name mac st
by_same facts s a name mac Broken = refl
by_same facts s a name mac (Alone sound) = refl
by_same facts s a name mac (Over lower id) = refl
by_same facts s a name mac (Ports empty ports) =
    let link : Object = object.Link name (kind.Bridge mac (is_filtering facts.conf name)) in
    let masters : List Object = map (λ port. object.Master port name) (filter (used_in s) ports) in
    let vlans : List Object = flat_map (own.vlan_objects s name ports) (filter (is_vlan_of name) s.vlans) in
    ap (λ (rows : List VlanRow). object.Up name ∷ object.Link name (kind.Bridge mac (list_any (is_vlan_of name) rows)) ∷ (masters ++ vlans)) a.vlans
    ∙ ap (λ (os : List (List ℕ)). object.Up name ∷ link ∷ (map (λ port. object.Master port name) os ++ vlans)) (filter_same (used_in s) (used facts) (used_same facts s a) ports)
    ∙ ap (λ (rows : List VlanRow). object.Up name ∷ link ∷ (rules.masters_of facts name ports ++ flat_map (own.vlan_objects s name ports) (filter (is_vlan_of name) rows))) a.vlans
    ∙ ap (λ (os : List Object). object.Up name ∷ link ∷ (rules.masters_of facts name ports ++ os)) (flat_same (own.vlan_objects s name ports) (rules.vlan_objects facts name ports) (vlan_same facts s a name ports) (vlans_of facts.conf name))

row_same : (facts : Facts) (s : Known) → Agrees facts s → (name : List ℕ) → own.objects_of_row s name (row_at s.rows name) ≡ rules.objects_of_row facts name (row_at facts.conf.names name)
row_same facts s a name =
    let row : NameRow = row_at facts.conf.names name in
    ap (λ (rows : List NameRow). own.objects_of_row s name (row_at rows name)) a.rows
    ∙ ap (λ (st : Standing). mtu_of name row.mtu ++ own.objects_by s name row.mac st) (standing_same facts s a name)
    ∙ ap (λ (os : List Object). mtu_of name row.mtu ++ os) (by_same facts s a name row.mac (standing_at facts name))

pub objects_same : (facts : Facts) (s : Known) → Agrees facts s → (name : List ℕ) → objects_in s name ≡ objects_at facts name
objects_same facts s a name =
    ap (λ (b : Bool). cond b (own.objects_of_row s name (row_at s.rows name)) []) (used_same facts s a name)
    ∙ ap (λ (os : List Object). cond (used facts name) os []) (row_same facts s a name)

-- a name of which something is wanted is used
some_used : (facts : Facts) (s : Known) → Agrees facts s → (name : List ℕ) (o : Object) → Contains (objects_in s name) o → used facts name ≡ true
some_used facts s a name o h = go (used_in s name) refl h
  where
    go : (b : Bool) → used_in s name ≡ b → Contains (cond b (own.objects_of_row s name (row_at s.rows name)) []) o → used facts name ≡ true
    go true is among = sym (used_same facts s a name) ∙ is
    go false is among = absurd (none_in_nil o among)

pub wants_same : (facts : Facts) (s : Known) → Agrees facts s → SharesUsed facts s → want_in s ≡ wanted_on_names facts
unfolding want_in
wants_same facts s a shares = same_members (set_of own_list) (wanted_on_names facts) to back
  where
    own_list : List Object
    own_list = flat_map (objects_in s) (names_in s)

    rules_list : List Object
    rules_list = flat_map (objects_at facts) (known_names facts)

    to : (o : Object) → Has (set_of own_list) o → Has (wanted_on_names facts) o
    to o h =
        let from : IsAmong (objects_in s) (names_in s) o = from_join (objects_in s) (names_in s) o (member_of_set own_list o h) in
        set_of_member rules_list o (in_join (objects_at facts) (known_names facts) from.source o
        (shares.only from.source (some_used facts s a from.source o from.among) from.member)
        (subst (λ (os : List Object). Contains os o) (objects_same facts s a from.source) from.among))

    back : (o : Object) → Has (wanted_on_names facts) o → Has (set_of own_list) o
    back o h =
        let from : IsAmong (objects_at facts) (known_names facts) o = from_join (objects_at facts) (known_names facts) o (member_of_set rules_list o h) in
        let among : Contains (objects_in s from.source) o = subst (λ (os : List Object). Contains os o) (sym (objects_same facts s a from.source)) from.among in
        set_of_member own_list o (in_join (objects_in s) (names_in s) from.source o
        (shares.known from.source (some_used facts s a from.source o among) from.member) among)
