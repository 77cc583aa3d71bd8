-- Which objects are touched, taken and replaced between a held and a wanted set that are allowed.
use Rattle.std.proofs.Common.{ℕ, ◌≡◌, ◌⊎◌, inl, inr, List, Option, true, false, Bool, Contains, sym, subst, ◌∙◌}
use Rattle.std.specs.Prelude.{◌&&◌, ◌||◌, not, ⊤}
use Rattle.std.specs.FinSet as set
use Rattle.net_addr.specs.declared.address.Addr.{Addr}
use Rattle.kern_model.specs.declared.object.Mac.{Mac}
use Rattle.kern_model.specs.declared.object.RouteObject.{RouteObject}
use Rattle.kern_model.specs.declared.object.LinkKind.{LinkKind}
use Rattle.kern_model.specs.declared.object.LinkKind.TheVariants.{Bridge, Vlan}
use Rattle.kern_model.specs.declared.object.Object.{Object}
use Rattle.kern_model.specs.declared.object.Object.TheVariants as object
use Rattle.kern_model.specs.ObjectOrder.{Objects, Has}
use Rattle.kern_model.specs.Standing.{places_of, is_over}
use Rattle.kern_model.specs.Kernel.{Devices, replaces}
use Rattle.kern_model.specs.Admission.{IsBridge}
use Rattle.kern_model.specs.Allowed.{AreAllowed, exclude}
use Rattle.kern_model.specs.Touched.{is_unwanted_under, loses_link, is_on_taken, is_in_one, is_touched, is_replaced, is_taken, is_put}
use Rattle.kern_model.proofs.SetLemmas.{set_of_item, item_of_set}
use Rattle.kern_model.proofs.TestLemmas.{both, of_both, either, of_left, of_right, not_true, of_not, true_or_not, bytes_same, same_bytes, from_any, of_any}
use Rattle.kern_model.proofs.StandingLemmas.{over_itself, over_on, over_lower}

-- the objects that another may take the place of
abbrev pub IsReplaceable : Object → Type 0
IsReplaceable (object.Mtu name mtu) = ⊤
IsReplaceable (object.Mac name mac) = ⊤
IsReplaceable _ = ⊥

pub replaceable : (a b : Object) → replaces a b ≡ true → IsReplaceable b
replaceable (object.Mtu n m) (object.Mtu o k) h = tt
replaceable (object.Mac n m) (object.Mac o k) h = tt
replaceable a b h = cc h

pub replaces_excludes : (a b : Object) → replaces a b ≡ true → exclude a b ≡ true
replaces_excludes (object.Mtu n m) (object.Mtu o k) h = h
replaces_excludes (object.Mac n m) (object.Mac o k) h = h
replaces_excludes a b h = cc h

both_mtus : (a b : Object) (p : List ℕ) (l : ℕ) → replaces a (object.Mtu p l) ≡ true → replaces b (object.Mtu p l) ≡ true → exclude a b ≡ true
both_mtus (object.Mtu n m) (object.Mtu o k) p l g h = same_bytes n o (bytes_same n p g ∙ sym (bytes_same o p h))
both_mtus (object.Mtu n m) b p l g h = cc h
both_mtus a b p l g h = cc g

both_macs : (a b : Object) (p : List ℕ) (l : Mac) → replaces a (object.Mac p l) ≡ true → replaces b (object.Mac p l) ≡ true → exclude a b ≡ true
both_macs (object.Mac n m) (object.Mac o k) p l g h = same_bytes n o (bytes_same n p g ∙ sym (bytes_same o p h))
both_macs (object.Mac n m) b p l g h = cc h
both_macs a b p l g h = cc g

no_place : (a c : Object) → (IsReplaceable c → ⊥) → replaces a c ≡ true → ⊥
no_place a c lasting h = lasting (replaceable a c h)

pub both_replace : (a b c : Object) → replaces a c ≡ true → replaces b c ≡ true → exclude a b ≡ true
both_replace a b (object.Mtu p l) g h = both_mtus a b p l g h
both_replace a b (object.Mac p l) g h = both_macs a b p l g h
both_replace a b c g h = absurd (no_place a c (λ r. r) g)

module _ (held wanted : Objects) where
  -- a held link that is not wanted is under the name
  pub record LosesLinkWith (name : List ℕ) : Type 0 where
    pub base : List ℕ
    pub kind : LinkKind
    pub had : Has held (object.Link base kind)
    pub unwanted : Has wanted (object.Link base kind) → ⊥
    pub over : is_over held base name ≡ true

  pub loses_link_of : (name base : List ℕ) (kind : LinkKind) → Has held (object.Link base kind) → (Has wanted (object.Link base kind) → ⊥) → is_over held base name ≡ true → loses_link held wanted name ≡ true
  loses_link_of name base kind had unwanted over =
      of_any (is_unwanted_under held wanted name) (set.items held) (object.Link base kind) (item_of_set held (object.Link base kind) had)
      (of_both (not (set.contains wanted (object.Link base kind))) (is_over held base name) (of_not (set.contains wanted (object.Link base kind)) unwanted) over)

  loses_link_with_one : (name : List ℕ) (o : Object) → Has held o → is_unwanted_under held wanted name o ≡ true → LosesLinkWith name
  loses_link_with_one name (object.Link base kind) had h =
      let parts = both (not (set.contains wanted (object.Link base kind))) (is_over held base name) h in
      record { base = base; kind = kind; had = had; unwanted = not_true (set.contains wanted (object.Link base kind)) parts.0; over = parts.1 }
  loses_link_with_one name o had h = cc h

  pub loses_link_with : (name : List ℕ) → loses_link held wanted name ≡ true → LosesLinkWith name
  loses_link_with name h = let found = from_any (is_unwanted_under held wanted name) (set.items held) h in loses_link_with_one name found.passing (set_of_item held found.passing found.member) found.passes

  pub loses_link_above : (name above : List ℕ) → loses_link held wanted name ≡ true → is_over held name above ≡ true → loses_link held wanted above ≡ true
  loses_link_above name above h over = let f = loses_link_with name h in loses_link_of above f.base f.kind f.had f.unwanted (over_on held f.base name above f.over over)

  pub on_taken_at : (o : Object) (place : List ℕ) → Contains (places_of o) place → loses_link held wanted place ≡ true → is_on_taken held wanted o ≡ true
  on_taken_at o place at h = of_any (loses_link held wanted) (places_of o) place at h

  -- why an object is touched
  pub touched_held : (o : Object) → Has held o → (Has wanted o → ⊥) → is_touched held wanted o ≡ true
  touched_held o had unwanted = of_left (is_in_one held wanted o) (is_on_taken held wanted o) (of_left (set.contains held o && not (set.contains wanted o)) _ (of_both (set.contains held o) _ had (of_not (set.contains wanted o) unwanted)))

  pub touched_wanted : (o : Object) → Has wanted o → (Has held o → ⊥) → is_touched held wanted o ≡ true
  touched_wanted o is unheld = of_left (is_in_one held wanted o) (is_on_taken held wanted o) (of_right (set.contains held o && not (set.contains wanted o)) _ (of_both (set.contains wanted o) _ is (of_not (set.contains held o) unheld)))

  pub touched_on : (o : Object) → is_on_taken held wanted o ≡ true → is_touched held wanted o ≡ true
  touched_on o on = of_right (is_in_one held wanted o) (is_on_taken held wanted o) on

  -- of a touched held object: it is not wanted, or on a link that is taken
  pub touched_cases : (o : Object) → Has held o → is_touched held wanted o ≡ true → (Has wanted o → ⊥) ⊎ (is_on_taken held wanted o ≡ true)
  touched_cases o had h = elim (either (is_in_one held wanted o) (is_on_taken held wanted o) h) as (λ _. (Has wanted o → ⊥) ⊎ (is_on_taken held wanted o ≡ true)) [
    | inl one ↦ elim (either (set.contains held o && not (set.contains wanted o)) _ one) as (λ _. (Has wanted o → ⊥) ⊎ (is_on_taken held wanted o ≡ true)) [
      | inl old ↦ inl (not_true (set.contains wanted o) (both (set.contains held o) _ old).1)
      | inr new ↦ absurd (not_true (set.contains held o) (both (set.contains wanted o) _ new).1 had)
    ]
    | inr on ↦ inr on
  ]

  -- why an object is replaced
  pub record IsReplacedBy (o : Object) : Type 0 where
    pub unwanted : Has wanted o → ⊥
    pub stays : is_on_taken held wanted o ≡ true → ⊥
    pub by : Object
    pub is : Has wanted by
    pub place : replaces by o ≡ true

  pub replaced_by : (o : Object) → is_replaced held wanted o ≡ true → IsReplacedBy o
  replaced_by o h =
      let first = both (not (set.contains wanted o)) _ h in
      let second = both (not (is_on_taken held wanted o)) _ first.1 in
      let found = from_any (λ other. replaces other o) (set.items wanted) second.1 in
      record { unwanted = not_true (set.contains wanted o) first.0; stays = not_true (is_on_taken held wanted o) second.0; by = found.passing; is = set_of_item wanted found.passing found.member; place = found.passes }

  -- what is taken
  pub taken_held : (o : Object) → is_taken held wanted o ≡ true → Has held o
  taken_held o h = (both (set.contains held o) _ h).0

  pub taken_touched : (o : Object) → is_taken held wanted o ≡ true → is_touched held wanted o ≡ true
  taken_touched o h = (both (is_touched held wanted o) _ (both (set.contains held o) _ h).1).0

  pub taken_not_replaced : (o : Object) → is_taken held wanted o ≡ true → is_replaced held wanted o ≡ true → ⊥
  taken_not_replaced o h = not_true (is_replaced held wanted o) (both (is_touched held wanted o) _ (both (set.contains held o) _ h).1).1

  pub taken_of : (o : Object) → Has held o → is_touched held wanted o ≡ true → (is_replaced held wanted o ≡ true → ⊥) → is_taken held wanted o ≡ true
  taken_of o had touched kept = of_both (set.contains held o) _ had (of_both (is_touched held wanted o) _ touched (of_not (is_replaced held wanted o) kept))

  pub taken_on : (o : Object) → Has held o → is_on_taken held wanted o ≡ true → is_taken held wanted o ≡ true
  taken_on o had on = taken_of o had (touched_on o on) (λ r. (replaced_by o r).stays on)

  pub taken_unwanted : (o : Object) → Has held o → (Has wanted o → ⊥) → (IsReplaceable o → ⊥) → is_taken held wanted o ≡ true
  taken_unwanted o had unwanted lasting = taken_of o had (touched_held o had unwanted) (λ r. let by = replaced_by o r in lasting (replaceable by.by o by.place))

  -- what is put
  pub put_wanted : (o : Object) → is_put held wanted o ≡ true → Has wanted o
  put_wanted o h = (both (set.contains wanted o) _ h).0

  pub put_of : (o : Object) → Has wanted o → is_touched held wanted o ≡ true → is_put held wanted o ≡ true
  put_of o is touched = of_both (set.contains wanted o) _ is touched

  pub put_touched : (o : Object) → is_put held wanted o ≡ true → is_touched held wanted o ≡ true
  put_touched o h = (both (set.contains wanted o) _ h).1

  -- the name of a link that is taken loses its link, and with it all at that name
  link_loses_link_at : (name : List ℕ) (kind : LinkKind) → Has held (object.Link name kind) → is_on_taken held wanted (object.Link name kind) ≡ true → loses_link held wanted name ≡ true
  link_loses_link_at name (Bridge mac filtering) had on = cc on
  link_loses_link_at name (Vlan lower id mac) had on =
      elim (either (loses_link held wanted lower) false on) as (λ _. loses_link held wanted name ≡ true) [
        | inl f ↦ loses_link_above lower name f (over_lower held name lower id mac had)
        | inr none ↦ cc none
      ]

  pub link_loses_link : (name : List ℕ) (kind : LinkKind) → is_taken held wanted (object.Link name kind) ≡ true → loses_link held wanted name ≡ true
  link_loses_link name kind h =
      let had = taken_held (object.Link name kind) h in
      elim (touched_cases (object.Link name kind) had (taken_touched (object.Link name kind) h)) as (λ _. loses_link held wanted name ≡ true) [
        | inl unwanted ↦ loses_link_of name name kind had unwanted (over_itself held name)
        | inr on ↦ link_loses_link_at name kind had on
      ]

  pub taken_at_link : (name : List ℕ) (kind : LinkKind) (o : Object) → is_taken held wanted (object.Link name kind) ≡ true → Has held o → Contains (places_of o) name → is_taken held wanted o ≡ true
  taken_at_link name kind o h had at = taken_on o had (on_taken_at o name at (link_loses_link name kind h))

  only_place : (name : List ℕ) → (loses_link held wanted name || false) ≡ true → loses_link held wanted name ≡ true
  only_place name h = elim (either (loses_link held wanted name) false h) as (λ _. loses_link held wanted name ≡ true) [ inl f ↦ f | inr none ↦ cc none ]

  -- where a name goes down, what needs it to be up is taken
  module _ (devices : Devices) (allowed : AreAllowed devices wanted) where
    pub taken_address : (name : List ℕ) (cidr : Addr × ℕ) → is_taken held wanted (object.Up name) ≡ true → Has held (object.Address name cidr) → is_taken held wanted (object.Address name cidr) ≡ true
    taken_address name cidr h had =
        elim (touched_cases (object.Up name) (taken_held (object.Up name) h) (taken_touched (object.Up name) h)) as (λ _. is_taken held wanted (object.Address name cidr) ≡ true) [
          | inl unwanted ↦ taken_unwanted (object.Address name cidr) had (λ is. unwanted (allowed.supported (object.Address name cidr) is)) (λ r. r)
          | inr on ↦ taken_on (object.Address name cidr) had on
        ]

    pub taken_route : (name : List ℕ) (r : RouteObject) → is_taken held wanted (object.Up name) ≡ true → Has held (object.Route r) → r.dev ≡ name → is_taken held wanted (object.Route r) ≡ true
    taken_route name r h had at =
        elim (touched_cases (object.Up name) (taken_held (object.Up name) h) (taken_touched (object.Up name) h)) as (λ _. is_taken held wanted (object.Route r) ≡ true) [
          | inl unwanted ↦ taken_unwanted (object.Route r) had (λ is. unwanted (subst (λ n. Has wanted (object.Up n)) at (allowed.supported (object.Route r) is))) (λ x. x)
          | inr on ↦ taken_on (object.Route r) had (subst (λ n. (loses_link held wanted n || false) ≡ true) (sym at) on)
        ]

    pub taken_upper : (name vlan : List ℕ) (id : ℕ) (mac : Option Mac) → is_taken held wanted (object.Up name) ≡ true → Has held (object.Link vlan (Vlan name id mac)) → Has held (object.Up vlan) → is_taken held wanted (object.Up vlan)
        ≡ true
    taken_upper name vlan id mac h link up =
        elim (touched_cases (object.Up name) (taken_held (object.Up name) h) (taken_touched (object.Up name) h)) as (λ _. is_taken held wanted (object.Up vlan) ≡ true) [
          | inl unwanted ↦ elim (true_or_not (set.contains wanted (object.Link vlan (Vlan name id mac)))) as (λ _. is_taken held wanted (object.Up vlan) ≡ true) [
            | inl stays ↦ taken_unwanted (object.Up vlan) up (λ is. unwanted ((allowed.supported (object.Up vlan) is).1 name id mac stays)) (λ r. r)
            | inr goes ↦ taken_on (object.Up vlan) up (of_left (loses_link held wanted vlan) false (loses_link_of vlan vlan (Vlan name id mac) link goes (over_itself held vlan)))
          ]
          | inr on ↦ taken_on (object.Up vlan) up (of_left (loses_link held wanted vlan) false (loses_link_above name vlan (only_place name on) (over_lower held vlan name id mac link)))
        ]

-- where a port leaves its bridge, its VLANs of that bridge are taken
module _ (held wanted : Objects) (devices : Devices) (from : AreAllowed devices held) (to : AreAllowed devices wanted) where
  not_itself : (port bridge : List ℕ) → Has held (object.Master port bridge) → port ≡ bridge → ⊥
  not_itself port bridge had same =
      let support = from.supported (object.Master port bridge) had in
      support.plain (subst (IsBridge held) (sym same) support.made)

  pub taken_vlan : (bridge port : List ℕ) (id : ℕ) (pvid untagged : Bool) → is_taken held wanted (object.Master port bridge) ≡ true → Has held (object.Vlan bridge port id pvid untagged)
      → is_taken held wanted (object.Vlan bridge port id pvid untagged) ≡ true
  taken_vlan bridge port id pvid untagged h had =
      let vlan = object.Vlan bridge port id pvid untagged in
      let master = taken_held held wanted (object.Master port bridge) h in
      elim (touched_cases held wanted (object.Master port bridge) master (taken_touched held wanted (object.Master port bridge) h)) as (λ _. is_taken held wanted (object.Vlan bridge port id pvid untagged) ≡ true) [
        | inl unwanted ↦ taken_unwanted held wanted vlan had (λ is. elim (to.supported (object.Vlan bridge port id pvid untagged) is).joined as (λ _. ⊥) [ inl itself ↦ not_itself port bridge master itself | inr joined ↦ unwanted joined ])
            (λ r. r)
        | inr on ↦ taken_on held wanted vlan had on
      ]
