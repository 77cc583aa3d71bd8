-- After a front of the calls, the others are the calls from what is then held.
use Rattle.std.proofs.Common.{arith, ℕ, ◌≡◌, ◌≤◌, ◌-◌, ◌⊎◌, inl, inr, List, [], ◌∷◌, ◌++◌, true, Contains, refl, ap, sym, subst, ◌∙◌}
use Rattle.std.specs.Prelude.{⊤, not}
use Rattle.std.specs.Ordering.{nat_cmp}
use Rattle.std.specs.declared.cmp.Ordering.TheVariants.{Less}
use Rattle.std.specs.List.{AllByRecursion}
use Rattle.std.specs.Cmp.{tied_itself}
use Rattle.std.specs.FinSet as set
use Rattle.std.proofs.lemmas.List.Elements.{Contains-append_cases}
use Rattle.kern_model.specs.declared.object.Mac.{Mac}
use Rattle.kern_model.specs.declared.object.LinkKind.{LinkKind}
use Rattle.kern_model.specs.declared.object.LinkKind.TheVariants.{Bridge, Vlan}
use Rattle.kern_model.specs.declared.object.Object.{Object}
use Rattle.kern_model.specs.declared.object.Object.TheVariants as object
use Rattle.kern_model.specs.declared.object.Call.{Call}
use Rattle.kern_model.specs.declared.object.Call.TheVariants.{Put, Take}
use Rattle.kern_model.specs.ObjectOrder.{Objects, Has}
use Rattle.kern_model.specs.Standing.{places_of, IsOver, is_vlan_under, height}
use Rattle.kern_model.specs.Kernel.{Devices, replaces}
use Rattle.kern_model.specs.Allowed.{AreAllowed}
use Rattle.kern_model.specs.Touched.{loses_link, is_on_taken, is_touched, is_replaced, is_taken, is_put, is_call}
use Rattle.kern_model.specs.CallOrder.{rank, height_of, height_place, call_cmp, AreCalls, after_calls}
use Rattle.kern_model.proofs.OrderLemmas.{calls_total, rank_rises, place_rises}
use Rattle.kern_model.proofs.MemberLemmas.{here, none_in_nil, member_of_all}
use Rattle.kern_model.proofs.SetLemmas.{has_retained, of_retained, same_members, item_of_set}
use Rattle.kern_model.proofs.TestLemmas.{of_both, of_not, true_or_not, from_any, of_any}
use Rattle.kern_model.proofs.StandingLemmas.{over_cases, higher, height_within}
use Rattle.kern_model.proofs.GoneLemmas.{is_over_of_test, test_of_is_over, over_more}
use Rattle.kern_model.proofs.AllowedLemmas.{one_link}
use Rattle.kern_model.proofs.KeepLemmas.{only_one}
use Rattle.kern_model.proofs.TouchLemmas.{replaceable, loses_link_with, loses_link_of, on_taken_at, touched_held, touched_wanted, touched_on, touched_cases, replaced_by, taken_held, taken_touched, taken_not_replaced, taken_of, taken_on}
use Rattle.kern_model.proofs.TouchLemmas.{put_wanted}
use Rattle.kern_model.proofs.TouchLemmas.{put_of, put_touched}
use Rattle.kern_model.proofs.LeadLemmas.{own_take, IsPut, PutsAreLeft, TakesAreLeft, AtTake, at_first, after_take, after_puts, puts_are_left, all_puts, first_before, taken_call, carries, is_own, call_of_taken}
use Rattle.kern_calls.proofs.AlikeLemmas.{left_alike, less_alike, resorted, front_less}

-- where puts are left alone, or takes too
abbrev Stage : Devices → Objects → Objects → Objects → List Call → Type 0
Stage devices held wanted now rest = TakesAreLeft devices held wanted now rest ⊎ (AllByRecursion IsPut rest × PutsAreLeft devices held wanted now rest)

rest_are_puts : (made rest : List Call) → AllByRecursion IsPut (made ++ rest) → AllByRecursion IsPut rest
rest_are_puts [] rest all = all
rest_are_puts (c ∷ made) rest all = rest_are_puts made rest all.1

stage_after : (devices : Devices) (held wanted : Objects) → AreAllowed devices held → AreAllowed devices wanted → (now : Objects) (made rest : List Call) → TakesAreLeft devices held wanted now (made ++ rest)
    → Stage devices held wanted (after_calls now made) rest
stage_after devices held wanted from to now [] rest on = inl on
stage_after devices held wanted from to now (Put o ∷ made) rest on =
    let all : AllByRecursion IsPut (Put o ∷ (made ++ rest)) = (tt, all_puts devices held wanted o (made ++ rest) (first_before held wanted (Put o) (made ++ rest) on.sorted)) in
    let left = puts_are_left devices held wanted from now (Put o ∷ (made ++ rest)) all on in
    inr (rest_are_puts made rest all.1, after_puts devices held wanted to now (Put o ∷ made) rest all left)
stage_after devices held wanted from to now (Take o mtu mac ∷ made) rest on =
    let own = carries devices held wanted o mtu mac (on.sound (Take o mtu mac) (here (Take o mtu mac) (made ++ rest))) in
    let same = is_own devices held wanted o mtu mac own in
    let at : AtTake devices held wanted from to now (made ++ rest) o = record {
      on = subst (λ c. TakesAreLeft devices held wanted now (c ∷ (made ++ rest))) (sym same) on;
      first = subst (λ c. AllByRecursion (λ x. call_cmp held wanted c x ≡ Less) (made ++ rest)) (sym same) (first_before held wanted (Take o mtu mac) (made ++ rest) on.sorted);
    } in
    stage_after devices held wanted from to (set.remove now o) made rest (after_take devices held wanted from to now (made ++ rest) o at)

-- a name over another is so still, where each link under it is left
pub still_over : (s t : Objects) (base name : List ℕ) → ((v : List ℕ) (kind : LinkKind) → Has s (object.Link v kind) → IsOver s v name → Has t (object.Link v kind)) → IsOver s base name → IsOver t base name
still_over s t base name keep IsOver.itself = IsOver.itself
still_over s t base name keep (IsOver.above n lower id mac h p) =
    IsOver.above n lower id mac (keep n (Vlan lower id mac) h IsOver.itself)
    (still_over s t base lower (λ v kind g q. keep v kind g (IsOver.above n lower id mac h q)) p)

-- a name is as high in a part of a set that has each link under it
pub as_high : (s t : Objects) (name : List ℕ) → ((x : Object) → Has t x → Has s x) → ((v : List ℕ) (kind : LinkKind) → Has s (object.Link v kind) → IsOver s v name → Has t (object.Link v kind)) → height s name ≡ height t name
as_high s t name within keep = ap set.len (same_members (set.retain s (is_vlan_under s name)) (set.retain t (is_vlan_under t name)) to back)
  where
    under_t : (x : Object) → Has s x → is_vlan_under s name x ≡ true → Has t x × (is_vlan_under t name x ≡ true)
    under_t (object.Link v (Vlan l i m)) h under =
        let over = is_over_of_test s v name under in
        (keep v (Vlan l i m) h over, test_of_is_over t v name (still_over s t v name keep over))
    under_t x h under = cc under

    under_s : (x : Object) → Has t x → is_vlan_under t name x ≡ true → is_vlan_under s name x ≡ true
    under_s (object.Link v (Vlan l i m)) h under = over_more t s within v name under
    under_s x h under = cc under

    to : (x : Object) → Has (set.retain s (is_vlan_under s name)) x → Has (set.retain t (is_vlan_under t name)) x
    to x h =
        let was = of_retained s (is_vlan_under s name) x h in
        let is = under_t x was.0 was.1 in
        has_retained t (is_vlan_under t name) x is.0 is.1

    back : (x : Object) → Has (set.retain t (is_vlan_under t name)) x → Has (set.retain s (is_vlan_under s name)) x
    back x h = let was = of_retained t (is_vlan_under t name) x h in has_retained s (is_vlan_under s name) x (within x was.0) (under_s x was.0 was.1)

-- the heights of objects of a set are no more than its size
pub low_enough : (s : Objects) (o : Object) → height_of s o ≤ set.len s
low_enough s (object.Link name kind) = height_within s name
low_enough s (object.Up name) = height_within s name
low_enough s o = omega arith

-- an object is replaced where a wanted one takes its place
pub is_replaced_of_all : (s wanted : Objects) (o : Object) → (Has wanted o → ⊥) → (is_on_taken s wanted o ≡ true → ⊥) → (by : Object) → Has wanted by → replaces by o ≡ true → is_replaced s wanted o ≡ true
is_replaced_of_all s wanted o unwanted stays by is place =
    of_both (not (set.contains wanted o)) _ (of_not (set.contains wanted o) unwanted)
    (of_both (not (is_on_taken s wanted o)) _ (of_not (is_on_taken s wanted o) stays)
    (of_any (λ other. replaces other o) (set.items wanted) by (item_of_set wanted by is) place))

-- puts compare alike whatever is held
puts_alike : (held now wanted : Objects) (a b : Call) → IsPut a → IsPut b → nat_cmp (height_place held wanted a) (height_place held wanted b) ≡ nat_cmp (height_place now wanted a) (height_place now wanted b)
puts_alike held now wanted (Put a) (Put b) p q = refl
puts_alike held now wanted (Put a) (Take b m x) p q = absurd q
puts_alike held now wanted (Take a m x) b p q = absurd p

module _ (devices : Devices) (held wanted : Objects) (from : AreAllowed devices held) (to : AreAllowed devices wanted) (made rest : List Call) (are : AreCalls devices held wanted (made ++ rest)) where
  abbrev now : Objects
  now = after_calls held made

  -- a call that is not among the others was made, before them
  before : (a b : Call) → is_call devices held wanted a ≡ true → (Contains rest a → ⊥) → Contains rest b → call_cmp held wanted a b ≡ Less
  before a b due early late = elim (Contains-append_cases made rest a (are.complete a due)) as (λ _. call_cmp held wanted a b ≡ Less) [
    | inl front ↦ front_less (call_cmp held wanted) made rest are.sorted a b front late
    | inr also ↦ absurd (early also)
  ]

  in_one_part : (a : Call) → Contains made a → Contains rest a → ⊥
  in_one_part a early late = cc (front_less (call_cmp held wanted) made rest are.sorted a a early late, tied_itself (calls_total held wanted) a)

  -- while takes are left
  module _ (on : TakesAreLeft devices held wanted now rest) where
    was_held : (o : Object) → Has now o → Has held o
    was_held o h = (on.kept o h).0

    waits_taken : (o : Object) → Contains rest (own_take devices o) → is_taken held wanted o ≡ true
    waits_taken o waits = taken_call devices held wanted o _ _ (on.sound (own_take devices o) waits)

    waits_held : (o : Object) → Contains rest (own_take devices o) → Has held o
    waits_held o waits = taken_held held wanted o (waits_taken o waits)

    waits_now : (o : Object) → Contains rest (own_take devices o) → Has now o
    waits_now o waits = on.left o (waits_held o waits) (λ _. waits)

    -- which links are under an object that waits for its take: of a link those under its name, of another all
    abbrev IsBelow : Object → List ℕ → Type 0
    IsBelow (object.Link name kind) base = IsOver held base name
    IsBelow _ base = ⊤

    -- a link was not taken before what is over it
    not_before : (o : Object) (base : List ℕ) (kind : LinkKind) → Contains rest (own_take devices o) → Has held (object.Link base kind) → IsBelow o base → is_taken held wanted (object.Link base kind) ≡ true
        → (Contains rest (own_take devices (object.Link base kind)) → ⊥) → ⊥
    not_before (object.Link name other) base kind waits had below taken early =
        let x = object.Link base kind in
        let o = object.Link name other in
        let less = before (own_take devices x) (own_take devices o) (call_of_taken devices held wanted x taken) early waits in
        let place : set.len held - height held base ≤ set.len held - height held name = place_rises held wanted (own_take devices x) (own_take devices o) refl less in
        elim (over_cases held base name (test_of_is_over held base name below)) as (λ _. ⊥) [
          | inl same ↦
              let one : object.Link name kind ≡ o = one_link devices held from name kind other (subst (λ n. Has held (object.Link n kind)) same had) (waits_held o waits) in
              early (subst (λ y. Contains rest (own_take devices y)) (sym (ap (λ n. object.Link n kind) same ∙ one)) waits)
          | inr v ↦
              let above = higher held base name v.lower v.id v.mac v.held (from.supported (object.Link name (Vlan v.lower v.id v.mac)) v.held).1.grounded v.over in
              let within = height_within held name in
              omega arith
        ]
    not_before o base kind waits had below taken early =
        let less = rank_rises held wanted (own_take devices (object.Link base kind)) (own_take devices o)
        (before (own_take devices (object.Link base kind)) (own_take devices o) (call_of_taken devices held wanted (object.Link base kind) taken) early waits) in
        omega arith

    link_left : (o : Object) (base : List ℕ) (kind : LinkKind) → Contains rest (own_take devices o) → Has held (object.Link base kind) → IsBelow o base → Has now (object.Link base kind)
    link_left o base kind waits had below =
        let x = object.Link base kind in
        on.left x had (λ taken. elim (Contains-append_cases made rest (own_take devices x) (are.complete (own_take devices x) (call_of_taken devices held wanted x taken))) as (λ _. Contains rest (own_take devices x)) [
          | inl front ↦ absurd (not_before o base kind waits had below taken (λ late. in_one_part (own_take devices x) front late))
          | inr late ↦ late
        ])

    below_place : (o : Object) (place base : List ℕ) → Has held o → Contains (places_of o) place → IsOver held base place → IsBelow o base
    below_place (object.Link name (Bridge mac filtering)) place base had at over = absurd (none_in_nil place at)
    below_place (object.Link name (Vlan lower id mac)) place base had at over = IsOver.above name lower id mac had (subst (IsOver held base) (sym (only_one lower place at)) over)
    below_place o place base had at over = tt

    -- what waits on a link that is taken does so still
    on_taken_still : (o : Object) → Contains rest (own_take devices o) → is_on_taken held wanted o ≡ true → is_on_taken now wanted o ≡ true
    on_taken_still o waits h =
        let found = from_any (loses_link held wanted) (places_of o) h in
        let place = found.passing in
        let f = loses_link_with held wanted place found.passes in
        let over = is_over_of_test held f.base place f.over in
        let had = waits_held o waits in
        let keep : (v : List ℕ) (kind : LinkKind) → Has held (object.Link v kind) → IsOver held v place → Has now (object.Link v kind) = λ v kind g q. link_left o v kind waits g (below_place o place v had found.member q) in
        on_taken_at now wanted o place found.member
        (loses_link_of now wanted place f.base f.kind (keep f.base f.kind f.had over) f.unwanted (test_of_is_over now f.base place (still_over held now f.base place keep over)))

    was_on_taken : (o : Object) → is_on_taken now wanted o ≡ true → is_on_taken held wanted o ≡ true
    was_on_taken o h =
        let found = from_any (loses_link now wanted) (places_of o) h in
        let f = loses_link_with now wanted found.passing found.passes in
        on_taken_at held wanted o found.passing found.member
        (loses_link_of held wanted found.passing f.base f.kind (was_held (object.Link f.base f.kind) f.had) f.unwanted (over_more now held was_held f.base found.passing f.over))

    -- heights of what waits
    high_still : (o : Object) → Contains rest (own_take devices o) → height_of held o ≡ height_of now o
    high_still (object.Link name kind) waits = as_high held now name was_held (λ v other g q. link_left (object.Link name kind) v other waits g q)
    high_still (object.Up name) waits = as_high held now name was_held (λ v other g q. link_left (object.Up name) v other waits g tt)
    high_still o waits = refl

    own_of : (o : Object) (mtu : ℕ) (mac : Mac) → Contains rest (Take o mtu mac) → Contains rest (own_take devices o)
    own_of o mtu mac member = subst (Contains rest) (sym (is_own devices held wanted o mtu mac (carries devices held wanted o mtu mac (on.sound (Take o mtu mac) member)))) member

    takes_alike : (a b : Call) → Contains rest a → Contains rest b → rank a ≡ rank b → nat_cmp (height_place held wanted a) (height_place held wanted b) ≡ nat_cmp (height_place now wanted a) (height_place now wanted b)
    takes_alike (Put a) (Put b) m n level = refl
    takes_alike (Put a) (Take b k x) m n level = absurd (omega arith)
    takes_alike (Take a k x) (Put b) m n level = absurd (omega arith)
    takes_alike (Take a k x) (Take b l y) m n level =
        let high_a = high_still a (own_of a k x m) in
        let high_b = high_still b (own_of b l y n) in
        let within_a = low_enough now a in
        let within_b = low_enough now b in
        left_alike (set.len held) (set.len now) (height_of held a) (height_of held b) (low_enough held a) (low_enough held b) (omega arith) (omega arith)
        ∙ ap (λ h. nat_cmp (set.len now - h) (set.len now - height_of held b)) high_a ∙ ap (λ h. nat_cmp (set.len now - height_of now a) (set.len now - h)) high_b

    -- what waits is a call still
    take_due : (o : Object) → Contains rest (own_take devices o) → is_taken now wanted o ≡ true
    take_due o waits =
        let taken = waits_taken o waits in
        let h = waits_now o waits in
        let touched : is_touched now wanted o ≡ true = elim (touched_cases held wanted o (waits_held o waits) (taken_touched held wanted o taken)) as (λ _. is_touched now wanted o ≡ true) [
          | inl unwanted ↦ touched_held now wanted o h unwanted
          | inr stands ↦ touched_on now wanted o (on_taken_still o waits stands)
        ] in
        taken_of now wanted o h touched (λ replaced. let by = replaced_by now wanted o replaced in
        taken_not_replaced held wanted o taken (is_replaced_of_all held wanted o by.unwanted (λ stands. by.stays (on_taken_still o waits stands)) by.by by.is by.place))

    put_due : (o : Object) → Contains rest (Put o) → is_put now wanted o ≡ true
    put_due o member =
        let due = on.sound (Put o) member in
        let is = put_wanted held wanted o due in
        elim (true_or_not (set.contains now o)) as (λ _. is_put now wanted o ≡ true) [
          | inr unheld ↦ put_of now wanted o is (touched_wanted now wanted o is unheld)
          | inl h ↦ elim (touched_cases held wanted o (was_held o h) (put_touched held wanted o due)) as (λ _. is_put now wanted o ≡ true) [
            | inl unwanted ↦ absurd (unwanted is)
            | inr stands ↦ put_of now wanted o is (touched_on now wanted o (on_taken_still o ((on.kept o h).1 (taken_on held wanted o (was_held o h) stands)) stands))
          ]
        ]

    call_due : (c : Call) → Contains rest c → is_call devices now wanted c ≡ true
    call_due (Put o) member = put_due o member
    call_due (Take o mtu mac) member =
        let waits = own_of o mtu mac member in
        subst (λ c. is_call devices now wanted c ≡ true) (is_own devices held wanted o mtu mac (carries devices held wanted o mtu mac (on.sound (Take o mtu mac) member))) (call_of_taken devices now wanted o (take_due o waits))

    -- and nothing else is
    was_taken : (o : Object) → is_taken now wanted o ≡ true → is_taken held wanted o ≡ true
    was_taken o taken =
        let h = taken_held now wanted o taken in
        let had = was_held o h in
        let touched : is_touched held wanted o ≡ true = elim (touched_cases now wanted o h (taken_touched now wanted o taken)) as (λ _. is_touched held wanted o ≡ true) [
          | inl unwanted ↦ touched_held held wanted o had unwanted
          | inr stands ↦ touched_on held wanted o (was_on_taken o stands)
        ] in
        taken_of held wanted o had touched (λ replaced. let by = replaced_by held wanted o replaced in
        taken_not_replaced now wanted o taken (is_replaced_of_all now wanted o by.unwanted (λ stands. by.stays (was_on_taken o stands)) by.by by.is by.place))

    was_put : (o : Object) → is_put now wanted o ≡ true → is_put held wanted o ≡ true
    was_put o due =
        let is = put_wanted now wanted o due in
        elim (true_or_not (set.contains held o)) as (λ _. is_put held wanted o ≡ true) [
          | inr unheld ↦ put_of held wanted o is (touched_wanted held wanted o is unheld)
          | inl had ↦ put_of held wanted o is (elim (true_or_not (set.contains now o)) as (λ _. is_touched held wanted o ≡ true) [
            | inl h ↦ elim (touched_cases now wanted o h (put_touched now wanted o due)) as (λ _. is_touched held wanted o ≡ true) [
              | inl unwanted ↦ absurd (unwanted is)
              | inr stands ↦ touched_on held wanted o (was_on_taken o stands)
            ]
            | inr gone ↦ elim (true_or_not (is_taken held wanted o)) as (λ _. is_touched held wanted o ≡ true) [
              | inl taken ↦ taken_touched held wanted o taken
              | inr kept ↦ absurd (gone (on.left o had (λ taken. absurd (kept taken))))
            ]
          ])
        ]

    still_due : (c : Call) → is_call devices now wanted c ≡ true → Contains rest c
    still_due (Put o) due = on.puts o (was_put o due)
    still_due (Take o mtu mac) due =
        let taken = taken_call devices now wanted o mtu mac due in
        subst (Contains rest) (is_own devices now wanted o mtu mac (carries devices now wanted o mtu mac due)) ((on.kept o (taken_held now wanted o taken)).1 (was_taken o taken))

    takes_go_on : AreCalls devices now wanted rest
    takes_go_on = record {
      sorted = resorted (call_cmp held wanted) (call_cmp now wanted) rest (λ a b m n less. less_alike held wanted now wanted a b (takes_alike a b m n) less) on.sorted;
      sound = call_due;
      complete = still_due;
    }

  -- where puts alone are left
  module _ (all : AllByRecursion IsPut rest) (on : PutsAreLeft devices held wanted now rest) where
    no_link_is_lost : (name : List ℕ) → loses_link now wanted name ≡ true → ⊥
    no_link_is_lost name h =
        let f = loses_link_with now wanted name h in
        elim (on.kept (object.Link f.base f.kind) f.had) as (λ _. ⊥) [
          | inl stays ↦ f.unwanted stays.0
          | inr still ↦ replaceable still.by (object.Link f.base f.kind) still.place
        ]

    not_on_taken : (o : Object) → is_on_taken now wanted o ≡ true → ⊥
    not_on_taken o h = let found = from_any (loses_link now wanted) (places_of o) h in no_link_is_lost found.passing found.passes

    unheld : (o : Object) → Contains rest (Put o) → Has now o → ⊥
    unheld o member h = elim (on.kept o h) as (λ _. ⊥) [
      | inl stays ↦ stays.1 member
      | inr still ↦ (replaced_by held wanted o still.replaced).unwanted (put_wanted held wanted o (on.sound (Put o) member))
    ]

    put_left : (c : Call) → IsPut c → Contains rest c → is_call devices now wanted c ≡ true
    put_left (Put o) is_put_call member = let is = put_wanted held wanted o (on.sound (Put o) member) in put_of now wanted o is (touched_wanted now wanted o is (unheld o member))
    put_left (Take o mtu mac) is_put_call member = absurd is_put_call

    untaken : (o : Object) → is_taken now wanted o ≡ true → ⊥
    untaken o taken =
        let h = taken_held now wanted o taken in
        elim (on.kept o h) as (λ _. ⊥) [
          | inl stays ↦ elim (touched_cases now wanted o h (taken_touched now wanted o taken)) as (λ _. ⊥) [ inl unwanted ↦ unwanted stays.0 | inr stands ↦ not_on_taken o stands ]
          | inr still ↦
              let by = replaced_by held wanted o still.replaced in
              taken_not_replaced now wanted o taken (is_replaced_of_all now wanted o by.unwanted (not_on_taken o) by.by by.is by.place)
        ]

    left_due : (c : Call) → is_call devices now wanted c ≡ true → Contains rest c
    left_due (Take o mtu mac) due = absurd (untaken o (taken_call devices now wanted o mtu mac due))
    left_due (Put o) due =
        let is = put_wanted now wanted o due in
        let gone : Has now o → ⊥ = λ h. elim (touched_cases now wanted o h (put_touched now wanted o due)) as (λ _. ⊥) [ inl unwanted ↦ unwanted is | inr stands ↦ not_on_taken o stands ] in
        elim (true_or_not (is_put held wanted o)) as (λ _. Contains rest (Put o)) [
          | inl was ↦ elim (Contains-append_cases made rest (Put o) (are.complete (Put o) was)) as (λ _. Contains rest (Put o)) [
            | inl early ↦ absurd (gone (on.made o is (λ late. in_one_part (Put o) early late)))
            | inr late ↦ late
          ]
          | inr never ↦ absurd (gone (on.made o is (λ late. never (on.sound (Put o) late))))
        ]

    puts_go_on : AreCalls devices now wanted rest
    puts_go_on = record {
      sorted = resorted (call_cmp held wanted) (call_cmp now wanted) rest
          (λ a b m n less. less_alike held wanted now wanted a b (λ level. puts_alike held now wanted a b (member_of_all IsPut rest a all m) (member_of_all IsPut rest b all n)) less) on.sorted;
      sound = λ c member. put_left c (member_of_all IsPut rest c all member) member;
      complete = left_due;
    }

  pub go_on : AreCalls devices now wanted rest
  go_on = elim (stage_after devices held wanted from to held made rest (at_first devices held wanted (made ++ rest) are)) as (λ _. AreCalls devices now wanted rest) [
    | inl on ↦ takes_go_on on
    | inr puts ↦ puts_go_on puts.0 puts.1
  ]
