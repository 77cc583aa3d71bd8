-- What the kernel admits leads from an allowed set to an allowed one.
use Rattle.std.proofs.Common.{ℕ, ◌≡◌, ◌⊎◌, inl, inr, List, [], ◌∷◌, Option, true, Contains, refl, sym, subst, ◌∙◌}
use Rattle.std.specs.Prelude.{◌&&◌, ◌||◌, not, bytes_eq, nat_eq}
use Rattle.std.specs.FinSet as set
use Rattle.std.proofs.lemmas.Bool.Decides.{Decides-eqb}
use Rattle.kern_model.specs.declared.object.Mac.{Mac}
use Rattle.kern_model.specs.declared.object.LinkKind.{LinkKind}
use Rattle.kern_model.specs.declared.object.LinkKind.TheVariants.{Bridge, Vlan}
use Rattle.kern_model.specs.declared.object.Object.{Object}
use Rattle.kern_model.specs.declared.object.Object.TheVariants as object
use Rattle.kern_model.specs.declared.object.Call.{Call}
use Rattle.kern_model.specs.declared.object.Call.TheVariants.{Put, Take}
use Rattle.kern_model.specs.ObjectOrder.{Objects, Has}
use Rattle.kern_model.specs.Standing.{places_of, is_over, IsOver}
use Rattle.kern_model.specs.Kernel.{Devices, is_present, Exists, replaces, after_call}
use Rattle.kern_model.specs.Admission.{IsBridge, IsFiltering, HasLowerUp, MayBeMade, AdmitsPut, AdmitsTake, Admits}
use Rattle.kern_model.specs.Allowed.{HasSupport, AreAllowed, exclude, are_one_vlan}
use Rattle.kern_model.specs.Line.{HaveOneVlan, HaveOneName}
use Rattle.kern_model.specs.CallOrder.{AreAdmitted, after_calls}
use Rattle.kern_model.proofs.MemberLemmas.{here, there, first_or_later, none_in_nil}
use Rattle.kern_model.proofs.SetLemmas.{has_before, new_or_before, has_without, of_without, has_retained, of_retained}
use Rattle.kern_model.proofs.TestLemmas.{both, of_both, either, of_left, of_right, not_true, of_not, false_of_not, bytes_same, same_bytes}
use Rattle.kern_model.proofs.GoneLemmas.{is_over_of_test, test_of_is_over, over_more}
use Rattle.kern_model.proofs.TouchLemmas.{IsReplaceable, replaceable}

-- of two objects the one excludes the other as the other does it
same_name : (a b : List ℕ) → bytes_eq a b ≡ true → bytes_eq b a ≡ true
same_name a b h = same_bytes b a (sym (bytes_same a b h))

one_vlan_back : (a b : LinkKind) → are_one_vlan a b ≡ true → are_one_vlan b a ≡ true
one_vlan_back (Vlan l i m) (Vlan k j n) h =
    let parts = both (bytes_eq l k) (nat_eq i j) h in
    of_both (bytes_eq k l) (nat_eq j i) (same_name l k parts.0) ((Decides-eqb j i).1 (sym ((Decides-eqb i j).0 parts.1)))
one_vlan_back a b h = cc h

exclude_back : (a b : Object) → exclude a b ≡ true → exclude b a ≡ true
exclude_back (object.Link n k) (object.Link m j) h = elim (either (bytes_eq n m) (are_one_vlan k j) h) as (λ _. exclude (object.Link m j) (object.Link n k) ≡ true) [
  | inl named ↦ of_left (bytes_eq m n) (are_one_vlan j k) (same_name n m named)
  | inr one ↦ of_right (bytes_eq m n) (are_one_vlan j k) (one_vlan_back k j one)
]
exclude_back (object.Mtu n m) (object.Mtu o k) h = same_name n o h
exclude_back (object.Mac n m) (object.Mac o k) h = same_name n o h
exclude_back (object.Master p b) (object.Master q c) h = same_name p q h
exclude_back (object.Vlan b p i v u) (object.Vlan c q j w x) h =
    let parts = both (bytes_eq p q) (nat_eq i j || (v && w)) h in
    of_both (bytes_eq q p) (nat_eq j i || (w && v)) (same_name p q parts.0) (elim (either (nat_eq i j) (v && w) parts.1) as (λ _. (nat_eq j i || (w && v)) ≡ true) [
      | inl id ↦ of_left (nat_eq j i) (w && v) ((Decides-eqb j i).1 (sym ((Decides-eqb i j).0 id)))
      | inr pvids ↦ let two = both v w pvids in of_right (nat_eq j i) (w && v) (of_both w v two.1 two.0)
    ])
exclude_back a b h = cc h

pub only_one : {X : Type 0} → (x y : X) → Contains (x ∷ []) y → x ≡ y
only_one x y h = elim (first_or_later x [] y h) as (λ _. x ≡ y) [ inl same ↦ same | inr none ↦ absurd (none_in_nil y none) ]

-- a name is that of a link
abbrev IsLinkName : Object → List ℕ → Type 0
IsLinkName o name = (kind : LinkKind) × (o ≡ object.Link name kind)

module _ (devices : Devices) (objects : Objects) (allowed : AreAllowed devices objects) where
  -- each place of a held object exists
  pub place_exists : (o : Object) (place : List ℕ) → Has objects o → Contains (places_of o) place → Exists devices objects place
  place_exists (object.Link name (Bridge mac filtering)) place h at = absurd (none_in_nil place at)
  place_exists (object.Link name (Vlan lower id mac)) place h at = subst (Exists devices objects) (only_one lower place at) (allowed.supported (object.Link name (Vlan lower id mac)) h).1.stands
  place_exists (object.Mtu name mtu) place h at = subst (Exists devices objects) (only_one name place at) (allowed.supported (object.Mtu name mtu) h)
  place_exists (object.Mac name mac) place h at = subst (Exists devices objects) (only_one name place at) (inl (allowed.supported (object.Mac name mac) h))
  place_exists (object.Master port bridge) place h at =
      let support = allowed.supported (object.Master port bridge) h in
      elim (first_or_later port (bridge ∷ []) place at) as (λ _. Exists devices objects place) [
        | inl same ↦ subst (Exists devices objects) same support.stands
        | inr later ↦ subst (Exists devices objects) (only_one bridge place later) (inr (Bridge support.made.mac support.made.filtering, support.made.held))
      ]
  place_exists (object.Vlan bridge port id pvid untagged) place h at =
      let support = allowed.supported (object.Vlan bridge port id pvid untagged) h in
      let made : Exists devices objects bridge = inr (Bridge support.filtering.mac true, support.filtering.held) in
      elim (first_or_later port (bridge ∷ []) place at) as (λ _. Exists devices objects place) [
        | inl same ↦ subst (Exists devices objects) same (elim support.joined as (λ _. Exists devices objects port) [
          | inl itself ↦ subst (Exists devices objects) (sym itself) made
          | inr master ↦ (allowed.supported (object.Master port bridge) master).stands
        ])
        | inr later ↦ subst (Exists devices objects) (only_one bridge place later) made
      ]
  place_exists (object.Up name) place h at = subst (Exists devices objects) (only_one name place at) (allowed.supported (object.Up name) h).0
  place_exists (object.Address dev cidr) place h at = subst (Exists devices objects) (only_one dev place at) (allowed.supported (object.Up dev) (allowed.supported (object.Address dev cidr) h)).0
  place_exists (object.Route r) place h at = subst (Exists devices objects) (only_one r.dev place at) (allowed.supported (object.Up r.dev) (allowed.supported (object.Route r) h)).0

  lower_exists : (name lower : List ℕ) (id : ℕ) (mac : Option Mac) → Has objects (object.Link name (Vlan lower id mac)) → Exists devices objects lower
  lower_exists name lower id mac h = place_exists (object.Link name (Vlan lower id mac)) lower h (here lower [])

  -- over a name that does not exist is none but itself
  nothing_over : (a b : List ℕ) → (Exists devices objects a → ⊥) → IsOver objects a b → a ≡ b
  nothing_over a b free IsOver.itself = refl
  nothing_over a b free (IsOver.above name lower id mac held p) = let same = nothing_over a lower free p in absurd (free (subst (Exists devices objects) (sym same) (lower_exists name lower id mac held)))

  -- a put
  module _ (o : Object) (may : AdmitsPut devices objects o) where
    abbrev after_put : Objects
    after_put = after_call objects (Put o)

    stays : (x : Object) → Has objects x → (replaces o x ≡ true → ⊥) → Has after_put x
    stays x h kept = has_before (set.retain objects (λ old. not (replaces o old))) o x (has_retained objects (λ old. not (replaces o old)) x h (of_not (replaces o x) kept))

    lasts : (x : Object) → Has objects x → (IsReplaceable x → ⊥) → Has after_put x
    lasts x h lasting = stays x h (λ r. lasting (replaceable o x r))

    record WasHeld (x : Object) : Type 0 where
      held : Has objects x
      kept : replaces o x ≡ true → ⊥

    from_put : (x : Object) → Has after_put x → (x ≡ o) ⊎ WasHeld x
    from_put x h = elim (new_or_before (set.retain objects (λ old. not (replaces o old))) o x h) as (λ _. (x ≡ o) ⊎ WasHeld x) [
      | inl same ↦ inl same
      | inr before ↦ let was = of_retained objects (λ old. not (replaces o old)) x before in inr (record { held = was.0; kept = not_true (replaces o x) was.1 })
    ]

    exists_still : (name : List ℕ) → Exists devices objects name → Exists devices after_put name
    exists_still name e = elim e as (λ _. Exists devices after_put name) [
      | inl present ↦ inl present
      | inr link ↦ inr (link.0, lasts (object.Link name link.0) link.1 (λ r. r))
    ]

    bridge_still : (name : List ℕ) → IsBridge objects name → IsBridge after_put name
    bridge_still name b = record { mac = b.mac; filtering = b.filtering; held = lasts (object.Link name (Bridge b.mac b.filtering)) b.held (λ r. r) }

    filtering_still : (name : List ℕ) → IsFiltering objects name → IsFiltering after_put name
    filtering_still name b = record { mac = b.mac; held = lasts (object.Link name (Bridge b.mac true)) b.held (λ r. r) }

    joined_still : (port bridge : List ℕ) → (port ≡ bridge) ⊎ Has objects (object.Master port bridge) → (port ≡ bridge) ⊎ Has after_put (object.Master port bridge)
    joined_still port bridge joined = elim joined as (λ _. (port ≡ bridge) ⊎ Has after_put (object.Master port bridge)) [ inl itself ↦ inl itself | inr master ↦ inr (lasts (object.Master port bridge) master (λ r. r)) ]

    -- the name of a new link did not exist
    new_name : (name : List ℕ) → IsLinkName o name → Exists devices objects name → ⊥
    new_name name is e = (subst (AdmitsPut devices objects) is.1 may).0 e

    link_was_held : (name : List ℕ) (kind : LinkKind) → Exists devices objects name → Has after_put (object.Link name kind) → Has objects (object.Link name kind)
    link_was_held name kind e h = elim (from_put (object.Link name kind) h) as (λ _. Has objects (object.Link name kind)) [
      | inl is ↦ absurd (new_name name (kind, sym is) e)
      | inr was ↦ was.held
    ]

    plain_still : (name : List ℕ) → Exists devices objects name → (IsBridge objects name → ⊥) → IsBridge after_put name → ⊥
    plain_still name e plain b = plain (record { mac = b.mac; filtering = b.filtering; held = link_was_held name (Bridge b.mac b.filtering) e b.held })

    lower_still : (name : List ℕ) → Exists devices objects name → HasLowerUp objects name → HasLowerUp after_put name
    lower_still name e lowers lower id mac h = lasts (object.Up lower) (lowers lower id mac (link_was_held name (Vlan lower id mac) e h)) (λ r. r)

    -- a name over another was so before, or is that of a new link
    past_put : (a b : List ℕ) → IsOver after_put a b → IsOver objects a b ⊎ IsLinkName o b
    past_put a b IsOver.itself = inl IsOver.itself
    past_put a b (IsOver.above name lower id mac h p) = elim (from_put (object.Link name (Vlan lower id mac)) h) as (λ _. IsOver objects a name ⊎ IsLinkName o name) [
      | inl is ↦ inr (Vlan lower id mac, sym is)
      | inr was ↦ elim (past_put a lower p) as (λ _. IsOver objects a name ⊎ IsLinkName o name) [
        | inl q ↦ inl (IsOver.above name lower id mac was.held q)
        | inr fresh ↦ absurd (new_name lower fresh (lower_exists name lower id mac was.held))
      ]
    ]

    over_was : (a b : List ℕ) → Exists devices objects b → is_over after_put a b ≡ true → IsOver objects a b
    over_was a b e h = elim (past_put a b (is_over_of_test after_put a b h)) as (λ _. IsOver objects a b) [ inl p ↦ p | inr fresh ↦ absurd (new_name b fresh e) ]

    -- what was held has what it stands on
    old_supported : (x : Object) → Has objects x → HasSupport devices after_put x
    old_supported (object.Link name (Bridge mac filtering)) h = allowed.supported (object.Link name (Bridge mac filtering)) h
    old_supported (object.Link name (Vlan lower id mac)) h =
        let support = allowed.supported (object.Link name (Vlan lower id mac)) h in
        let v = support.1 in (
          support.0,
          record {
            stands = exists_still lower v.stands;
            least = v.least;
            most = v.most;
            grounded = λ over. v.grounded (test_of_is_over objects name lower (over_was name lower v.stands over));
          },
        )
    old_supported (object.Mtu name mtu) h = exists_still name (allowed.supported (object.Mtu name mtu) h)
    old_supported (object.Mac name mac) h = allowed.supported (object.Mac name mac) h
    old_supported (object.Master port bridge) h =
        let support = allowed.supported (object.Master port bridge) h in
        record { stands = exists_still port support.stands; plain = plain_still port support.stands support.plain; made = bridge_still bridge support.made }
    old_supported (object.Vlan bridge port id pvid untagged) h =
        let support = allowed.supported (object.Vlan bridge port id pvid untagged) h in
        record { filtering = filtering_still bridge support.filtering; joined = joined_still port bridge support.joined }
    old_supported (object.Up name) h = let support = allowed.supported (object.Up name) h in (exists_still name support.0, lower_still name support.0 support.1)
    old_supported (object.Address dev cidr) h = lasts (object.Up dev) (allowed.supported (object.Address dev cidr) h) (λ r. r)
    old_supported (object.Route r) h = lasts (object.Up r.dev) (allowed.supported (object.Route r) h) (λ x. x)

    -- what is put has what it stands on
    new_supported : (x : Object) → AdmitsPut devices objects x → o ≡ x → HasSupport devices after_put x
    new_supported (object.Link name (Bridge mac filtering)) admits is = false_of_not (is_present devices name) (λ present. admits.0 (inl present))
    new_supported (object.Link name (Vlan lower id mac)) admits is =
        let v = admits.1 in (
          false_of_not (is_present devices name) (λ present. admits.0 (inl present)),
          record {
            stands = exists_still lower v.stands;
            least = v.least;
            most = v.most;
            grounded = λ over. admits.0 (subst (Exists devices objects) (sym (nothing_over name lower admits.0 (over_was name lower v.stands over))) v.stands);
          },
        )
    new_supported (object.Mtu name mtu) admits is = exists_still name admits
    new_supported (object.Mac name mac) admits is = admits
    new_supported (object.Master port bridge) admits is = record { stands = exists_still port admits.stands; plain = plain_still port admits.stands admits.plain; made = bridge_still bridge admits.made }
    new_supported (object.Vlan bridge port id pvid untagged) admits is = record { filtering = filtering_still bridge admits.filtering; joined = joined_still port bridge admits.joined }
    new_supported (object.Up name) admits is = (exists_still name admits.0, lower_still name admits.0 admits.1)
    new_supported (object.Address dev cidr) admits is = lasts (object.Up dev) admits (λ r. r)
    new_supported (object.Route r) admits is = lasts (object.Up r.dev) admits (λ x. x)

    -- what is put excludes nothing that was held and that it does not replace
    one_vlan_refused : (kind : LinkKind) → MayBeMade devices objects kind → (name : List ℕ) (other : LinkKind) → Has objects (object.Link name other) → are_one_vlan kind other ≡ true → ⊥
    one_vlan_refused (Vlan lower id mac) admits name (Vlan l i m) h one =
        let parts = both (bytes_eq lower l) (nat_eq id i) one in
        let at = bytes_same lower l parts.0 in
        let of_id = (Decides-eqb id i).0 parts.1 in
        admits.free name m (subst (λ n. Has objects (object.Link name (Vlan n id m))) (sym at) (subst (λ n. Has objects (object.Link name (Vlan l n m))) (sym of_id) h))
    one_vlan_refused kind admits name other h one = cc one

    excludes_none : (x : Object) → AdmitsPut devices objects x → (y : Object) → Has objects y → (replaces x y ≡ true → ⊥) → exclude x y ≡ true → ⊥
    excludes_none (object.Link n k) admits (object.Link m j) h kept excluded = elim (either (bytes_eq n m) (are_one_vlan k j) excluded) as (λ _. ⊥) [
      | inl named ↦ admits.0 (inr (j, subst (λ x. Has objects (object.Link x j)) (sym (bytes_same n m named)) h))
      | inr one ↦ one_vlan_refused k admits.1 m j h one
    ]
    excludes_none (object.Mtu n m) admits (object.Mtu l k) h kept excluded = kept excluded
    excludes_none (object.Mac n m) admits (object.Mac l k) h kept excluded = kept excluded
    excludes_none (object.Master p b) admits (object.Master q c) h kept excluded = admits.free c (subst (λ x. Has objects (object.Master x c)) (sym (bytes_same p q excluded)) h)
    excludes_none (object.Vlan b p i v u) admits (object.Vlan c q j w x) h kept excluded =
        let parts = both (bytes_eq p q) (nat_eq i j || (v && w)) excluded in
        let at : Has objects (object.Vlan c p j w x) = subst (λ n. Has objects (object.Vlan c n j w x)) (sym (bytes_same p q parts.0)) h in
        elim (either (nat_eq i j) (v && w) parts.1) as (λ _. ⊥) [
          | inl id ↦ admits.free c w x (subst (λ n. Has objects (object.Vlan c p n w x)) (sym ((Decides-eqb i j).0 id)) at)
          | inr pvids ↦ let two = both v w pvids in admits.alone two.0 c j x (subst (λ n. Has objects (object.Vlan c p j n x)) two.1 at)
        ]
    excludes_none x admits y h kept excluded = cc excluded

    put_apart : (a b : Object) → Has after_put a → Has after_put b → exclude a b ≡ true → a ≡ b
    put_apart a b h g excluded = elim (from_put a h) as (λ _. a ≡ b) [
      | inl new_a ↦ elim (from_put b g) as (λ _. a ≡ b) [
        | inl new_b ↦ new_a ∙ sym new_b
        | inr old_b ↦ absurd (excludes_none o may b old_b.held old_b.kept (subst (λ x. exclude x b ≡ true) new_a excluded))
      ]
      | inr old_a ↦ elim (from_put b g) as (λ _. a ≡ b) [
        | inl new_b ↦ absurd (excludes_none o may a old_a.held old_a.kept (subst (λ x. exclude x a ≡ true) new_b (exclude_back a b excluded)))
        | inr old_b ↦ allowed.apart a b old_a.held old_b.held excluded
      ]
    ]

    put_allowed : AreAllowed devices after_put
    put_allowed = record {
      supported = λ x h. elim (from_put x h) as (λ _. HasSupport devices after_put x) [
        | inl is ↦ new_supported x (subst (AdmitsPut devices objects) (sym is) may) (sym is)
        | inr was ↦ old_supported x was.held
      ];
      apart = put_apart;
    }

  -- a take
  module _ (o : Object) (may : AdmitsTake objects o) where
    abbrev after_take : Objects
    after_take = set.remove objects o

    was_held : (x : Object) → Has after_take x → Has objects x
    was_held x h = (of_without objects o x h).0

    -- a link at whose name something is left is left
    link_left : (name : List ℕ) (kind : LinkKind) (x : Object) → Has objects (object.Link name kind) → Has after_take x → Contains (places_of x) name → Has after_take (object.Link name kind)
    link_left name kind x h left at = has_without objects o (object.Link name kind) h (λ same. (subst (AdmitsTake objects) (sym same) may) x (was_held x left) at)

    place_left : (x : Object) (place : List ℕ) → Has after_take x → Contains (places_of x) place → Exists devices after_take place
    place_left x place left at = elim (place_exists x place (was_held x left) at) as (λ _. Exists devices after_take place) [
      | inl present ↦ inl present
      | inr link ↦ inr (link.0, link_left place link.0 x link.1 left at)
    ]

    left_supported : (x : Object) → Has after_take x → HasSupport devices after_take x
    left_supported (object.Link name (Bridge mac filtering)) h = allowed.supported (object.Link name (Bridge mac filtering)) (was_held (object.Link name (Bridge mac filtering)) h)
    left_supported (object.Link name (Vlan lower id mac)) h =
        let x = object.Link name (Vlan lower id mac) in
        let support = allowed.supported (object.Link name (Vlan lower id mac)) (was_held x h) in
        let v = support.1 in (
          support.0,
          record {
            stands = place_left x lower h (here lower []);
            least = v.least;
            most = v.most;
            grounded = λ over. v.grounded (over_more after_take objects was_held name lower over);
          },
        )
    left_supported (object.Mtu name mtu) h = place_left (object.Mtu name mtu) name h (here name [])
    left_supported (object.Mac name mac) h = allowed.supported (object.Mac name mac) (was_held (object.Mac name mac) h)
    left_supported (object.Master port bridge) h =
        let x = object.Master port bridge in
        let support = allowed.supported (object.Master port bridge) (was_held x h) in
        let made = support.made in
        record {
          stands = place_left x port h (here port (bridge ∷ []));
          plain = λ b. support.plain (record { mac = b.mac; filtering = b.filtering; held = was_held (object.Link port (Bridge b.mac b.filtering)) b.held });
          made = record { mac = made.mac; filtering = made.filtering; held = link_left bridge (Bridge made.mac made.filtering) x made.held h (there port (bridge ∷ []) bridge (here bridge [])) };
        }
    left_supported (object.Vlan bridge port id pvid untagged) h =
        let x = object.Vlan bridge port id pvid untagged in
        let held = was_held x h in
        let support = allowed.supported (object.Vlan bridge port id pvid untagged) held in
        let made = support.filtering in
        record {
          filtering = record { mac = made.mac; held = link_left bridge (Bridge made.mac true) x made.held h (there port (bridge ∷ []) bridge (here bridge [])) };
          joined = elim support.joined as (λ _. (port ≡ bridge) ⊎ Has after_take (object.Master port bridge)) [
            | inl itself ↦ inl itself
            | inr master ↦ inr (has_without objects o (object.Master port bridge) master (λ same. (subst (AdmitsTake objects) (sym same) may) id pvid untagged held))
          ];
        }
    left_supported (object.Up name) h =
        let x = object.Up name in
        let support = allowed.supported (object.Up name) (was_held x h) in (
          place_left x name h (here name []),
          λ lower id mac link.
              let held = was_held (object.Link name (Vlan lower id mac)) link in
              has_without objects o (object.Up lower) (support.1 lower id mac held) (λ same. (subst (AdmitsTake objects) (sym same) may).vlans name id mac held (was_held x h)),
        )
    left_supported (object.Address dev cidr) h =
        let held = was_held (object.Address dev cidr) h in
        has_without objects o (object.Up dev) (allowed.supported (object.Address dev cidr) held) (λ same. (subst (AdmitsTake objects) (sym same) may).addresses cidr held)
    left_supported (object.Route r) h =
        let held = was_held (object.Route r) h in
        has_without objects o (object.Up r.dev) (allowed.supported (object.Route r) held) (λ same. (subst (AdmitsTake objects) (sym same) may).routes r held refl)

    take_allowed : AreAllowed devices after_take
    take_allowed = record {
      supported = left_supported;
      apart = λ a b h g excluded. allowed.apart a b (was_held a h) (was_held b g) excluded;
    }

  call_allowed : (call : Call) → Admits devices objects call → AreAllowed devices (after_call objects call)
  call_allowed (Put o) admits = put_allowed o admits.1
  call_allowed (Take o mtu mac) admits = take_allowed o admits.1

pub calls_keep : (devices : Devices) (objects : Objects) (call : Call) → AreAllowed devices objects → Admits devices objects call → AreAllowed devices (after_call objects call)
calls_keep devices objects call allowed admits = call_allowed devices objects allowed call admits

-- calls that are admitted each in its turn
pub all_keep : (devices : Devices) (objects : Objects) (calls : List Call) → AreAllowed devices objects → AreAdmitted devices objects calls → AreAllowed devices (after_calls objects calls)
all_keep devices objects [] allowed admits = allowed
all_keep devices objects (call ∷ calls) allowed admits = all_keep devices (after_call objects call) calls (calls_keep devices objects call allowed admits.0) admits.1

-- held objects that are taken by one line are one
excluded_by_name : (a b : Object) → HaveOneName a b → exclude a b ≡ true
excluded_by_name (object.Link n k) (object.Link m j) same = of_left (bytes_eq n m) (are_one_vlan k j) (same_bytes n m same)
excluded_by_name (object.Mtu n i) (object.Mtu m j) same = same_bytes n m same
excluded_by_name (object.Mac n i) (object.Mac m j) same = same_bytes n m same
excluded_by_name (object.Master p b) (object.Master q c) same = same_bytes p q same
excluded_by_name (object.Vlan b p i v u) (object.Vlan c q j w x) same =
    of_both (bytes_eq p q) (nat_eq i j || (v && w)) (same_bytes p q same.0) (of_left (nat_eq i j) (v && w) ((Decides-eqb i j).1 same.1))
excluded_by_name a b same = absurd same

excluded_by_vlan : (a b : Object) → HaveOneVlan a b → exclude a b ≡ true
excluded_by_vlan (object.Vlan b p i v u) (object.Vlan c q j w x) same = excluded_by_name (object.Vlan b p i v u) (object.Vlan c q j w x) same
excluded_by_vlan a b same = absurd same

pub one_of_take_line : (devices : Devices) (objects : Objects) (a b : Object) → AreAllowed devices objects → Has objects a → Has objects b → (a ≡ b) ⊎ HaveOneName a b → a ≡ b
one_of_take_line devices objects a b allowed h g told = elim told as (λ _. a ≡ b) [
  | inl same ↦ same
  | inr named ↦ allowed.apart a b h g (excluded_by_name a b named)
]

pub one_of_put_line : (devices : Devices) (objects : Objects) (a b : Object) → AreAllowed devices objects → Has objects a → Has objects b → (a ≡ b) ⊎ HaveOneVlan a b → a ≡ b
one_of_put_line devices objects a b allowed h g told = elim told as (λ _. a ≡ b) [
  | inl same ↦ same
  | inr one ↦ allowed.apart a b h g (excluded_by_vlan a b one)
]
