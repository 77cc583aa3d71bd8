-- Between two allowed sets each call is admitted in its turn, and all of them lead from the one to
-- the other.
use Rattle.std.proofs.Common.{arith, ℕ, ◌≡◌, ◌≤◌, ◌-◌, ◌⊎◌, inl, inr, List, [], ◌∷◌, ◌++◌, Option, true, false, Bool, Contains, refl, ap, sym, subst}
use Rattle.std.specs.Prelude.{◌&&◌, ◌||◌, not, nat_eq, bytes_eq, ⊤}
use Rattle.std.specs.declared.cmp.Ordering.TheVariants.{Less}
use Rattle.std.specs.List.{AllByRecursion}
use Rattle.std.specs.List.Sorted.{IsStrictlySortedBy}
use Rattle.std.specs.Cmp.{tied_itself}
use Rattle.std.specs.FinSet as set
use Rattle.std.proofs.lemmas.Bool.Decides.{Decides-eqb}
use Rattle.kern_model.specs.declared.object.Mac.{Mac}
use Rattle.kern_model.specs.declared.object.LinkKind.{LinkKind}
use Rattle.kern_model.specs.declared.object.LinkKind.TheVariants.{Bridge, Vlan}
use Rattle.kern_model.specs.declared.object.Object.{Object}
use Rattle.kern_model.specs.declared.object.Object.TheVariants as object
use Rattle.kern_model.specs.declared.object.Call.{Call}
use Rattle.kern_model.specs.declared.object.Call.TheVariants.{Put, Take}
use Rattle.kern_model.specs.ObjectOrder.{Objects, Has}
use Rattle.kern_model.specs.Standing.{places_of, height}
use Rattle.kern_model.specs.Kernel.{Devices, is_present, Exists, own_mtu, own_mac, name_of, replaces, after_call}
use Rattle.kern_model.specs.Admission.{HasLowerUp, MayBeMade, AdmitsPut, MayGoDown, AdmitsTake, CarriesOwn}
use Rattle.kern_model.specs.Allowed.{IsHeldLink, AreAllowed, exclude, are_one_vlan}
use Rattle.kern_model.specs.Touched.{is_replaced, is_taken, is_put, is_call}
use Rattle.kern_model.specs.CallOrder.{rank, height_place, call_cmp, AreCalls, after_calls, AreAdmitted}
use Rattle.kern_model.proofs.OrderLemmas.{calls_total, rank_rises, place_rises}
use Rattle.kern_model.proofs.MemberLemmas.{all_members, member_of_all, here, there, first_or_later, none_in_nil}
use Rattle.kern_model.proofs.SetLemmas.{same_or_other, has_itself, has_before, new_or_before, has_without, of_without, has_retained, of_retained, same_members}
use Rattle.kern_model.proofs.TestLemmas.{both, of_both, of_left, of_right, not_true, of_not, true_or_not, bytes_same, same_bytes}
use Rattle.kern_model.proofs.StandingLemmas.{over_itself, higher, height_within}
use Rattle.kern_model.proofs.TouchLemmas.{IsReplaceable, replaceable, replaces_excludes, both_replace, touched_held, touched_wanted, replaced_by, taken_held, taken_touched, taken_not_replaced, taken_of, put_wanted, put_of, put_touched}
use Rattle.kern_model.proofs.TouchLemmas.{taken_at_link, taken_address, taken_route, taken_upper, taken_vlan}

-- the take of an object, with the own values
abbrev pub own_take : Devices → Object → Call
own_take devices o = Take o (own_mtu devices (name_of o)) (own_mac devices (name_of o))

-- the head of a sorted list comes before its other members, and stands once
module _ (held wanted : Objects) (c : Call) (rest : List Call) (sorted : AllByRecursion (λ x. call_cmp held wanted c x ≡ Less) rest) where
  head_rank : (x : Call) → Contains (c ∷ rest) x → rank c ≤ rank x
  head_rank x member = elim (first_or_later c rest x member) as (λ _. rank c ≤ rank x) [
    | inl same ↦ subst (λ y. rank c ≤ rank y) same (omega arith)
    | inr later ↦ rank_rises held wanted c x (member_of_all (λ y. call_cmp held wanted c y ≡ Less) rest x sorted later)
  ]

  head_place : (x : Call) → Contains (c ∷ rest) x → rank c ≡ rank x → height_place held wanted c ≤ height_place held wanted x
  head_place x member level = elim (first_or_later c rest x member) as (λ _. height_place held wanted c ≤ height_place held wanted x) [
    | inl same ↦ subst (λ y. height_place held wanted c ≤ height_place held wanted y) same (omega arith)
    | inr later ↦ place_rises held wanted c x level (member_of_all (λ y. call_cmp held wanted c y ≡ Less) rest x sorted later)
  ]

  not_again : Contains rest c → ⊥
  not_again again = cc (member_of_all (λ y. call_cmp held wanted c y ≡ Less) rest c sorted again, tied_itself (calls_total held wanted) c)

-- a wanted MTU or hardware address that takes the place of a held object is still to put
pub record IsStillReplaced (held wanted : Objects) (rest : List Call) (o : Object) : Type 0 where
  pub was : Has held o
  pub replaced : is_replaced held wanted o ≡ true
  pub by : Object
  pub left : Contains rest (Put by)
  pub place : replaces by o ≡ true

-- while puts are left: what is held now
pub record PutsAreLeft (devices : Devices) (held wanted now : Objects) (rest : List Call) : Type 0 where
  pub sorted : IsStrictlySortedBy (call_cmp held wanted) rest
  pub sound : (c : Call) → Contains rest c → is_call devices held wanted c ≡ true
  pub kept : (o : Object) → Has now o → (Has wanted o × (Contains rest (Put o) → ⊥)) ⊎ IsStillReplaced held wanted rest o
  pub made : (o : Object) → Has wanted o → (Contains rest (Put o) → ⊥) → Has now o
  pub old : (o : Object) → IsStillReplaced held wanted rest o → Has now o

-- while takes are left: what is held now
pub record TakesAreLeft (devices : Devices) (held wanted now : Objects) (rest : List Call) : Type 0 where
  pub sorted : IsStrictlySortedBy (call_cmp held wanted) rest
  pub sound : (c : Call) → Contains rest c → is_call devices held wanted c ≡ true
  pub puts : (o : Object) → is_put held wanted o ≡ true → Contains rest (Put o)
  pub kept : (o : Object) → Has now o → Has held o × (is_taken held wanted o ≡ true → Contains rest (own_take devices o))
  pub left : (o : Object) → Has held o → (is_taken held wanted o ≡ true → Contains rest (own_take devices o)) → Has now o

-- a take among the calls carries the own values
module _ (devices : Devices) (held wanted : Objects) where
  pub taken_call : (o : Object) (mtu : ℕ) (mac : Mac) → is_call devices held wanted (Take o mtu mac) ≡ true → is_taken held wanted o ≡ true
  taken_call o mtu mac h = (both (is_taken held wanted o) _ h).0

  pub carries : (o : Object) (mtu : ℕ) (mac : Mac) → is_call devices held wanted (Take o mtu mac) ≡ true → CarriesOwn devices o mtu mac
  carries o mtu mac h =
      let own = both (nat_eq mtu (own_mtu devices (name_of o))) _ (both (is_taken held wanted o) _ h).1 in
      record { mtu_own = (Decides-eqb mtu (own_mtu devices (name_of o))).0 own.0; mac_own = let same = bytes_same mac.0 (own_mac devices (name_of o)).0 own.1 in ap (λ (xs : List ℕ). record { 0 = xs }) same }

  pub is_own : (o : Object) (mtu : ℕ) (mac : Mac) → CarriesOwn devices o mtu mac → own_take devices o ≡ Take o mtu mac
  is_own o mtu mac own = let m = own.mtu_own in let a = own.mac_own in cc (m, a)

  pub call_of_taken : (o : Object) → is_taken held wanted o ≡ true → is_call devices held wanted (own_take devices o) ≡ true
  call_of_taken o h = of_both (is_taken held wanted o) _ h (of_both (nat_eq (own_mtu devices (name_of o)) (own_mtu devices (name_of o))) _ ((Decides-eqb (own_mtu devices (name_of o)) (own_mtu devices (name_of o))).1 refl)
      (same_bytes (own_mac devices (name_of o)).0 (own_mac devices (name_of o)).0 refl))

-- the first of the puts that are left
module _ (devices : Devices) (held wanted : Objects) (to : AreAllowed devices wanted) (now : Objects) (rest : List Call) where
  -- what is known at a put
  record AtPut (o : Object) : Type 0 where
    on : PutsAreLeft devices held wanted now (Put o ∷ rest)
    first : AllByRecursion (λ x. call_cmp held wanted (Put o) x ≡ Less) rest

  put_is_wanted : (o : Object) → AtPut o → Has wanted o
  put_is_wanted o at = put_wanted held wanted o (at.on.sound (Put o) (here (Put o) rest))

  put_is_unheld : (o : Object) → AtPut o → Has now o → ⊥
  put_is_unheld o at h = elim (at.on.kept o h) as (λ _. ⊥) [
    | inl stays ↦ stays.1 (here (Put o) rest)
    | inr still ↦ (replaced_by held wanted o still.replaced).unwanted (put_is_wanted o at)
  ]

  -- what is held now, and has none to take its place, is wanted and is not left to put
  wanted_now : (o x : Object) → AtPut o → (IsReplaceable x → ⊥) → Has now x → Has wanted x × (Contains (Put o ∷ rest) (Put x) → ⊥)
  wanted_now o x at lasting h = elim (at.on.kept x h) as (λ _. Has wanted x × (Contains (Put o ∷ rest) (Put x) → ⊥)) [
    | inl stays ↦ stays
    | inr still ↦ absurd (lasting (replaceable still.by x still.place))
  ]

  -- what excludes the object that is put is not held now
  not_now : (o x : Object) → AtPut o → (IsReplaceable x → ⊥) → exclude o x ≡ true → Has now x → ⊥
  not_now o x at lasting excluded h =
      let stays = wanted_now o x at lasting h in
      let same = to.apart o x (put_is_wanted o at) stays.0 excluded in
      stays.1 (subst (λ y. Contains (Put o ∷ rest) (Put y)) same (here (Put o) rest))

  -- what is wanted, and comes before, is held now
  earlier : (o x : Object) → AtPut o → Has wanted x → (rank (Put o) ≤ rank (Put x) → ⊥) → Has now x
  earlier o x at is before = at.on.made x is (λ left. before (head_rank held wanted (Put o) rest at.first (Put x) left))

  lower_place : (o x : Object) → AtPut o → Has wanted x → rank (Put o) ≡ rank (Put x) → (height_place held wanted (Put o) ≤ height_place held wanted (Put x) → ⊥) → Has now x
  lower_place o x at is level before = at.on.made x is (λ left. before (head_place held wanted (Put o) rest at.first (Put x) left level))

  exists_now : (o : Object) (name : List ℕ) → AtPut o → (rank (Put o) ≤ 8 → ⊥) → Exists devices wanted name → Exists devices now name
  exists_now o name at above e = elim e as (λ _. Exists devices now name) [
    | inl present ↦ inl present
    | inr link ↦ inr (link.0, earlier o (object.Link name link.0) at link.1 above)
  ]

  absent : (name : List ℕ) (kind : LinkKind) → IsHeldLink devices wanted name kind → is_present devices name ≡ false
  absent name (Bridge mac filtering) support = support
  absent name (Vlan lower id mac) support = support.0

  name_is_free : (name : List ℕ) (kind : LinkKind) → AtPut (object.Link name kind) → Exists devices now name → ⊥
  name_is_free name kind at e =
      let new = object.Link name kind in
      elim e as (λ _. ⊥) [
        | inl present ↦ cc (present, absent name kind (to.supported new (put_is_wanted new at)))
        | inr link ↦ not_now new (object.Link name link.0) at (λ r. r) (of_left (bytes_eq name name) (are_one_vlan kind link.0) (same_bytes name name refl)) link.1
      ]

  link_may_be_made : (name : List ℕ) (kind : LinkKind) → AtPut (object.Link name kind) → MayBeMade devices now kind
  link_may_be_made name (Bridge mac filtering) at = tt
  link_may_be_made name (Vlan lower id mac) at =
      let new = object.Link name (Vlan lower id mac) in
      let support = (to.supported new (put_is_wanted new at)).1 in
      record {
        stands = elim support.stands as (λ _. Exists devices now lower) [
          | inl present ↦ inl present
          | inr link ↦ inr (link.0, lower_place new (object.Link lower link.0) at link.1 refl (λ below. let above = higher wanted lower name lower id mac (put_is_wanted new at) support.grounded (over_itself wanted lower) in omega arith))
        ];
        least = support.least;
        most = support.most;
        free = λ other other_mac h. not_now new (object.Link other (Vlan lower id other_mac)) at (λ r. r)
            (of_right (bytes_eq name other) (are_one_vlan (Vlan lower id mac) (Vlan lower id other_mac)) (of_both (bytes_eq lower lower) (nat_eq id id) (same_bytes lower lower refl) ((Decides-eqb id id).1 refl))) h;
      }

  up_has_lower : (name : List ℕ) → AtPut (object.Up name) → HasLowerUp now name
  up_has_lower name at lower id mac h =
      let new = object.Up name in
      let link = object.Link name (Vlan lower id mac) in
      let is = (wanted_now new link at (λ r. r) h).0 in
      let lower_up = (to.supported new (put_is_wanted new at)).1 lower id mac is in
      let grounded = (to.supported link is).1.grounded in
      lower_place new (object.Up lower) at lower_up refl (λ below. let above = higher wanted lower name lower id mac is grounded (over_itself wanted lower) in omega arith)

  put_admitted : (o : Object) → AtPut o → AdmitsPut devices now o
  put_admitted (object.Link name kind) at = (name_is_free name kind at, link_may_be_made name kind at)
  put_admitted (object.Mtu name mtu) at = exists_now (object.Mtu name mtu) name at (λ h. omega arith) (to.supported (object.Mtu name mtu) (put_is_wanted (object.Mtu name mtu) at))
  put_admitted (object.Mac name mac) at = to.supported (object.Mac name mac) (put_is_wanted (object.Mac name mac) at)
  put_admitted (object.Master port bridge) at =
      let new = object.Master port bridge in
      let support = to.supported new (put_is_wanted new at) in
      record {
        stands = exists_now new port at (λ h. omega arith) support.stands;
        plain = λ b. support.plain (record { mac = b.mac; filtering = b.filtering; held = (wanted_now new (object.Link port (Bridge b.mac b.filtering)) at (λ r. r) b.held).0 });
        made = record { mac = support.made.mac; filtering = support.made.filtering; held = earlier new (object.Link bridge (Bridge support.made.mac support.made.filtering)) at support.made.held (λ h. omega arith) };
        free = λ other h. not_now new (object.Master port other) at (λ r. r) (same_bytes port port refl) h;
      }
  put_admitted (object.Vlan bridge port id pvid untagged) at =
      let new = object.Vlan bridge port id pvid untagged in
      let support = to.supported new (put_is_wanted new at) in
      record {
        filtering = record { mac = support.filtering.mac; held = earlier new (object.Link bridge (Bridge support.filtering.mac true)) at support.filtering.held (λ h. omega arith) };
        joined = elim support.joined as (λ _. (port ≡ bridge) ⊎ Has now (object.Master port bridge)) [
          | inl itself ↦ inl itself
          | inr master ↦ inr (earlier new (object.Master port bridge) at master (λ h. omega arith))
        ];
        free = λ other v u h. not_now new (object.Vlan other port id v u) at (λ r. r) (of_both (bytes_eq port port) (nat_eq id id || (pvid && v)) (same_bytes port port refl) (of_left (nat_eq id id) (pvid && v) ((Decides-eqb id id).1 refl)))
            h;
        alone = λ is other i u h. not_now new (object.Vlan other port i true u) at (λ r. r)
            (of_both (bytes_eq port port) (nat_eq id i || (pvid && true)) (same_bytes port port refl) (of_right (nat_eq id i) (pvid && true) (of_both pvid true is refl))) h;
      }
  put_admitted (object.Up name) at =
      let support = to.supported (object.Up name) (put_is_wanted (object.Up name) at) in
      (exists_now (object.Up name) name at (λ h. omega arith) support.0, up_has_lower name at)
  put_admitted (object.Address dev cidr) at = earlier (object.Address dev cidr) (object.Up dev) at (to.supported (object.Address dev cidr) (put_is_wanted (object.Address dev cidr) at)) (λ h. omega arith)
  put_admitted (object.Route r) at = earlier (object.Route r) (object.Up r.dev) at (to.supported (object.Route r) (put_is_wanted (object.Route r) at)) (λ h. omega arith)

  -- after the put the others are left
  after_put : (o : Object) → AtPut o → PutsAreLeft devices held wanted (after_call now (Put o)) rest
  unfolding IsStrictlySortedBy
  after_put o at = record {
    sorted = at.on.sorted.1;
    sound = λ c member. at.on.sound c (there (Put o) rest c member);
    kept = kept;
    made = made;
    old = old;
  }
    where
      others : Object → Bool
      others x = not (replaces o x)

      once : Contains rest (Put o) → ⊥
      once = not_again held wanted (Put o) rest at.first

      kept_before : (x : Object) → (Has now x × (not (replaces o x) ≡ true)) → (Has wanted x × (Contains rest (Put x) → ⊥)) ⊎ IsStillReplaced held wanted rest x
      kept_before x h = elim (at.on.kept x h.0) as (λ _. (Has wanted x × (Contains rest (Put x) → ⊥)) ⊎ IsStillReplaced held wanted rest x) [
        | inl stays ↦ inl (stays.0, λ left. stays.1 (there (Put o) rest (Put x) left))
        | inr still ↦ elim (first_or_later (Put o) rest (Put still.by) still.left) as (λ _. (Has wanted x × (Contains rest (Put x) → ⊥)) ⊎ IsStillReplaced held wanted rest x) [
          | inl same ↦ let objects : o ≡ still.by = cc same in absurd (not_true (replaces o x) h.1 (subst (λ y. replaces y x ≡ true) (sym objects) still.place))
          | inr later ↦ inr (record { was = still.was; replaced = still.replaced; by = still.by; left = later; place = still.place })
        ]
      ]

      kept : (x : Object) → Has (after_call now (Put o)) x → (Has wanted x × (Contains rest (Put x) → ⊥)) ⊎ IsStillReplaced held wanted rest x
      kept x h = elim (new_or_before (set.retain now (λ y. not (replaces o y))) o x h) as (λ _. (Has wanted x × (Contains rest (Put x) → ⊥)) ⊎ IsStillReplaced held wanted rest x) [
        | inl same ↦ inl (subst (λ y. Has wanted y × (Contains rest (Put y) → ⊥)) (sym same) (put_is_wanted o at, once))
        | inr before ↦ kept_before x (of_retained now (λ y. not (replaces o y)) x before)
      ]

      stays_held : (x : Object) → Has now x → (replaces o x ≡ true → ⊥) → Has (after_call now (Put o)) x
      stays_held x h apart = has_before (set.retain now (λ y. not (replaces o y))) o x (has_retained now (λ y. not (replaces o y)) x h (of_not (replaces o x) apart))

      made : (x : Object) → Has wanted x → (Contains rest (Put x) → ⊥) → Has (after_call now (Put o)) x
      made x is gone = elim (same_or_other o x) as (λ _. Has (after_call now (Put o)) x) [
        | inl same ↦ subst (λ y. Has (after_call now (Put o)) y) same (has_itself (set.retain now (λ y. not (replaces o y))) o)
        | inr other ↦ stays_held x (at.on.made x is (λ left. elim (first_or_later (Put o) rest (Put x) left) as (λ _. ⊥) [ inl same ↦ other (cc same) | inr later ↦ gone later ]))
            (λ replaced. other (to.apart o x (put_is_wanted o at) is (replaces_excludes o x replaced)))
      ]

      old : (x : Object) → IsStillReplaced held wanted rest x → Has (after_call now (Put o)) x
      old x still = stays_held x (at.on.old x (record { was = still.was; replaced = still.replaced; by = still.by; left = there (Put o) rest (Put still.by) still.left; place = still.place }))
          (λ replaced. let wanted_by = put_wanted held wanted still.by (at.on.sound (Put still.by) (there (Put o) rest (Put still.by) still.left)) in
          let same = to.apart o still.by (put_is_wanted o at) wanted_by (both_replace o still.by x replaced still.place) in
          once (subst (λ y. Contains rest (Put y)) (sym same) still.left))

abbrev pub IsPut : Call → Type 0
IsPut (Put o) = ⊤
IsPut (Take o mtu mac) = ⊥

pub first_before : (held wanted : Objects) (c : Call) (rest : List Call) → IsStrictlySortedBy (call_cmp held wanted) (c ∷ rest) → AllByRecursion (λ x. call_cmp held wanted c x ≡ Less) rest
unfolding IsStrictlySortedBy
first_before held wanted c rest s = s.0

-- puts alone, from what they find, are admitted each in its turn and lead to what is wanted
puts_lead : (devices : Devices) (held wanted : Objects) (to : AreAllowed devices wanted) (now : Objects) (rest : List Call) → AllByRecursion IsPut rest → PutsAreLeft devices held wanted now rest → AreAdmitted devices now rest
    × (after_calls now rest ≡ wanted)
puts_lead devices held wanted to now [] all on = (
  tt,
  same_members now wanted (λ x h. elim (on.kept x h) as (λ _. Has wanted x) [ inl stays ↦ stays.0 | inr still ↦ absurd (none_in_nil (Put still.by) still.left) ])
      (λ x is. on.made x is (none_in_nil (Put x))),
)
puts_lead devices held wanted to now (Take o mtu mac ∷ rest) all on = absurd all.0
puts_lead devices held wanted to now (Put o ∷ rest) all on =
    let at : AtPut devices held wanted to now rest o = record { on = on; first = first_before held wanted (Put o) rest on.sorted } in
    let goes_on = puts_lead devices held wanted to (after_call now (Put o)) rest all.1 (after_put devices held wanted to now rest o at) in
    (((put_is_unheld devices held wanted to now rest o at, put_admitted devices held wanted to now rest o at), goes_on.0), goes_on.1)

-- after some of the puts the others are left
pub after_puts : (devices : Devices) (held wanted : Objects) (to : AreAllowed devices wanted) (now : Objects) (made rest : List Call) → AllByRecursion IsPut (made ++ rest) → PutsAreLeft devices held wanted now (made ++ rest)
    → PutsAreLeft devices held wanted (after_calls now made) rest
after_puts devices held wanted to now [] rest all on = on
after_puts devices held wanted to now (Take o mtu mac ∷ made) rest all on = absurd all.0
after_puts devices held wanted to now (Put o ∷ made) rest all on =
    let at : AtPut devices held wanted to now (made ++ rest) o = record { on = on; first = first_before held wanted (Put o) (made ++ rest) on.sorted } in
    after_puts devices held wanted to (after_call now (Put o)) made rest all.1 (after_put devices held wanted to now (made ++ rest) o at)

-- where no take is left, puts are
module _ (devices : Devices) (held wanted : Objects) (from : AreAllowed devices held) (now : Objects) (rest : List Call) (all : AllByRecursion IsPut rest) (on : TakesAreLeft devices held wanted now rest) where
  no_take : (o : Object) → Contains rest (own_take devices o) → ⊥
  no_take o member = member_of_all IsPut rest (own_take devices o) all member

  not_taken : (o : Object) → Has now o → is_taken held wanted o ≡ true → ⊥
  not_taken o h taken = no_take o ((on.kept o h).1 taken)

  left_put : (o : Object) → Contains rest (Put o) → is_put held wanted o ≡ true
  left_put o member = on.sound (Put o) member

  -- what replaces an object that was held is put
  replacer_is_put : (o by : Object) → Has held o → (Has wanted o → ⊥) → Has wanted by → replaces by o ≡ true → Contains rest (Put by)
  replacer_is_put o by had unwanted is place = on.puts by (put_of held wanted by is (touched_wanted held wanted by is (λ also. unwanted (subst (Has wanted) (from.apart by o also had (replaces_excludes by o place)) is))))

  still_replaced : (o : Object) → Has held o → (Has wanted o → ⊥) → (is_taken held wanted o ≡ true → ⊥) → IsStillReplaced held wanted rest o
  still_replaced o had unwanted kept = elim (true_or_not (is_replaced held wanted o)) as (λ _. IsStillReplaced held wanted rest o) [
    | inl replaced ↦ let by = replaced_by held wanted o replaced in record { was = had; replaced = replaced; by = by.by; left = replacer_is_put o by.by had unwanted by.is by.place; place = by.place }
    | inr not_replaced ↦ absurd (kept (taken_of held wanted o had (touched_held held wanted o had unwanted) not_replaced))
  ]

  pub puts_are_left : PutsAreLeft devices held wanted now rest
  puts_are_left = record {
    sorted = on.sorted;
    sound = on.sound;
    kept = λ o h. let had = (on.kept o h).0 in elim (true_or_not (set.contains wanted o)) as (λ _. (Has wanted o × (Contains rest (Put o) → ⊥)) ⊎ IsStillReplaced held wanted rest o) [
      | inl is ↦ inl (is, λ member. not_taken o h (taken_of held wanted o had (put_touched held wanted o (left_put o member)) (λ replaced. (replaced_by held wanted o replaced).unwanted is)))
      | inr unwanted ↦ inr (still_replaced o had unwanted (not_taken o h))
    ];
    made = λ o is gone. elim (true_or_not (set.contains held o)) as (λ _. Has now o) [
      | inl had ↦ on.left o had (λ taken. absurd (gone (on.puts o (put_of held wanted o is (taken_touched held wanted o taken)))))
      | inr unheld ↦ absurd (gone (on.puts o (put_of held wanted o is (touched_wanted held wanted o is unheld))))
    ];
    old = λ o still. on.left o still.was (λ taken. absurd (taken_not_replaced held wanted o taken still.replaced));
  }

-- the first of the takes that are left
module _ (devices : Devices) (held wanted : Objects) (from : AreAllowed devices held) (to : AreAllowed devices wanted) (now : Objects) (rest : List Call) where
  -- what is known at a take
  pub record AtTake (o : Object) : Type 0 where
    pub on : TakesAreLeft devices held wanted now (own_take devices o ∷ rest)
    pub first : AllByRecursion (λ x. call_cmp held wanted (own_take devices o) x ≡ Less) rest

  is_first_taken : (o : Object) → AtTake o → is_taken held wanted o ≡ true
  is_first_taken o at = taken_call devices held wanted o _ _ (at.on.sound (own_take devices o) (here (own_take devices o) rest))

  take_is_held : (o : Object) → AtTake o → Has now o
  take_is_held o at = at.on.left o (taken_held held wanted o (is_first_taken o at)) (λ _. here (own_take devices o) rest)

  -- what is taken and held now comes behind
  behind_rank : (o x : Object) → AtTake o → Has now x → is_taken held wanted x ≡ true → rank (own_take devices o) ≤ rank (own_take devices x)
  behind_rank o x at h taken = head_rank held wanted (own_take devices o) rest at.first (own_take devices x) ((at.on.kept x h).1 taken)

  behind_place : (o x : Object) → AtTake o → Has now x → is_taken held wanted x ≡ true → rank (own_take devices o) ≡ rank (own_take devices x) → height_place held wanted (own_take devices o) ≤ height_place held wanted (own_take devices x)
  behind_place o x at h taken level = head_place held wanted (own_take devices o) rest at.first (own_take devices x) ((at.on.kept x h).1 taken) level

  -- a VLAN over a name is higher, so it is taken, and goes down, before that name
  not_below : (name vlan : List ℕ) (id : ℕ) (mac : Option Mac) → Has held (object.Link vlan (Vlan name id mac)) → set.len held - height held name ≤ set.len held - height held vlan → ⊥
  not_below name vlan id mac had place =
      let above = higher held name vlan name id mac had (from.supported (object.Link vlan (Vlan name id mac)) had).1.grounded (over_itself held name) in
      let within = height_within held vlan in
      omega arith

  nothing_at_link : (name : List ℕ) (kind : LinkKind) → AtTake (object.Link name kind) → AdmitsTake now (object.Link name kind)
  nothing_at_link name kind at x h place = at_link x h place (taken_at_link held wanted name kind x (is_first_taken link at) (at.on.kept x h).0 place)
    where
      link : Object
      link = object.Link name kind

      at_link : (x : Object) → Has now x → Contains (places_of x) name → is_taken held wanted x ≡ true → ⊥
      at_link (object.Link other (Bridge mac filtering)) h place taken = none_in_nil name place
      at_link (object.Link other (Vlan lower id mac)) h place taken =
          elim (first_or_later lower [] name place) as (λ _. ⊥) [
            | inl same ↦ not_below name other id mac (subst (λ l. Has held (object.Link other (Vlan l id mac))) same (at.on.kept (object.Link other (Vlan lower id mac)) h).0)
                (behind_place (object.Link name kind) (object.Link other (Vlan lower id mac)) at h taken refl)
            | inr none ↦ none_in_nil name none
          ]
      at_link x h place taken = let behind = behind_rank (object.Link name kind) x at h taken in omega arith

  may_go_down : (name : List ℕ) → AtTake (object.Up name) → MayGoDown now name
  may_go_down name at = record {
    addresses = λ cidr h. let behind = behind_rank (object.Up name) (object.Address name cidr) at h (taken_address held wanted devices to name cidr (is_first_taken (object.Up name) at) (at.on.kept (object.Address name cidr) h).0) in
        omega arith;
    routes = λ r h on. let behind = behind_rank (object.Up name) (object.Route r) at h (taken_route held wanted devices to name r (is_first_taken (object.Up name) at) (at.on.kept (object.Route r) h).0 on) in omega arith;
    vlans = λ vlan id mac link up. let had = (at.on.kept (object.Link vlan (Vlan name id mac)) link).0 in
        not_below name vlan id mac had (behind_place (object.Up name) (object.Up vlan) at up (taken_upper held wanted devices to name vlan id mac (is_first_taken (object.Up name) at) had (at.on.kept (object.Up vlan) up).0) refl);
  }

  take_admitted : (o : Object) → AtTake o → AdmitsTake now o
  take_admitted (object.Link name kind) at = nothing_at_link name kind at
  take_admitted (object.Master port bridge) at = λ id pvid untagged h.
      let vlan = object.Vlan bridge port id pvid untagged in
      let behind = behind_rank (object.Master port bridge) vlan at h (taken_vlan held wanted devices from to bridge port id pvid untagged (is_first_taken (object.Master port bridge) at) (at.on.kept vlan h).0) in
      omega arith
  take_admitted (object.Up name) at = may_go_down name at
  take_admitted o at = tt

  -- after the take the others are left
  pub after_take : (o : Object) → AtTake o → TakesAreLeft devices held wanted (set.remove now o) rest
  unfolding IsStrictlySortedBy
  after_take o at = record {
    sorted = at.on.sorted.1;
    sound = λ c member. at.on.sound c (there (own_take devices o) rest c member);
    puts = λ x h. elim (first_or_later (own_take devices o) rest (Put x) (at.on.puts x h)) as (λ _. Contains rest (Put x)) [ inl same ↦ cc same | inr later ↦ later ];
    kept = λ x h. let before = of_without now o x h in (
      (at.on.kept x before.0).0,
      λ taken. elim (first_or_later (own_take devices o) rest (own_take devices x) ((at.on.kept x before.0).1 taken)) as (λ _. Contains rest (own_take devices x)) [
        | inl same ↦ absurd (before.1 (let objects : o ≡ x = cc same in sym objects))
        | inr later ↦ later
      ],
    );
    left = λ x had waits. has_without now o x (at.on.left x had (λ taken. there (own_take devices o) rest (own_take devices x) (waits taken)))
        (λ same. not_again held wanted (own_take devices o) rest at.first (subst (λ y. Contains rest (own_take devices y)) same (waits (subst (λ y. is_taken held wanted y ≡ true) (sym same) (is_first_taken o at)))));
  }

-- takes, and then puts
pub all_puts : (devices : Devices) (held wanted : Objects) (o : Object) (rest : List Call) → AllByRecursion (λ x. call_cmp held wanted (Put o) x ≡ Less) rest → AllByRecursion IsPut rest
all_puts devices held wanted o rest first = all_members IsPut rest each
  where
    put_or_before : (c : Call) → rank (Put o) ≤ rank c → IsPut c
    put_or_before (Put x) h = tt
    put_or_before (Take x mtu mac) h = absurd (omega arith)

    each : (c : Call) → Contains rest c → IsPut c
    each c member = put_or_before c (head_rank held wanted (Put o) rest first c (there (Put o) rest c member))

calls_lead : (devices : Devices) (held wanted : Objects) → AreAllowed devices held → AreAllowed devices wanted → (now : Objects) (rest : List Call) → TakesAreLeft devices held wanted now rest → AreAdmitted devices now rest
    × (after_calls now rest ≡ wanted)
calls_lead devices held wanted from to now [] on = puts_lead devices held wanted to now [] tt (puts_are_left devices held wanted from now [] tt on)
calls_lead devices held wanted from to now (Put o ∷ rest) on =
    let all : AllByRecursion IsPut (Put o ∷ rest) = (tt, all_puts devices held wanted o rest (first_before held wanted (Put o) rest on.sorted)) in
    puts_lead devices held wanted to now (Put o ∷ rest) all (puts_are_left devices held wanted from now (Put o ∷ rest) all on)
calls_lead devices held wanted from to now (Take o mtu mac ∷ rest) on =
    let own = carries devices held wanted o mtu mac (on.sound (Take o mtu mac) (here (Take o mtu mac) rest)) in
    let same = is_own devices held wanted o mtu mac own in
    let at : AtTake devices held wanted from to now rest o = record {
      on = subst (λ c. TakesAreLeft devices held wanted now (c ∷ rest)) (sym same) on;
      first = subst (λ c. AllByRecursion (λ x. call_cmp held wanted c x ≡ Less) rest) (sym same) (first_before held wanted (Take o mtu mac) rest on.sorted);
    } in
    let goes_on = calls_lead devices held wanted from to (set.remove now o) rest (after_take devices held wanted from to now rest o at) in
    (((take_is_held devices held wanted from to now rest o at, take_admitted devices held wanted from to now rest o at, own), goes_on.0), goes_on.1)

pub at_first : (devices : Devices) (held wanted : Objects) (calls : List Call) → AreCalls devices held wanted calls → TakesAreLeft devices held wanted held calls
at_first devices held wanted calls are = record {
  sorted = are.sorted;
  sound = are.sound;
  puts = λ o h. are.complete (Put o) h;
  kept = λ o h. (h, λ taken. are.complete (own_take devices o) (call_of_taken devices held wanted o taken));
  left = λ o had waits. had;
}

pub admitted : (devices : Devices) (held wanted : Objects) (calls : List Call) → AreAllowed devices held → AreAllowed devices wanted → AreCalls devices held wanted calls → AreAdmitted devices held calls
admitted devices held wanted calls from to are = (calls_lead devices held wanted from to held calls (at_first devices held wanted calls are)).0

pub reached : (devices : Devices) (held wanted : Objects) (calls : List Call) → AreAllowed devices held → AreAllowed devices wanted → AreCalls devices held wanted calls → after_calls held calls ≡ wanted
reached devices held wanted calls from to are = (calls_lead devices held wanted from to held calls (at_first devices held wanted calls are)).1
