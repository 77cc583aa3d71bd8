-- The numbers of lost requests, in order.
use Rattle.std.proofs.Common.{arith, ℕ, ◌≡◌, ◌≤◌, ◌<◌, ◌+◌, List, [], ◌∷◌, Bool, true, false, cond, Contains, Option, Some, None, refl, ap, sym, subst, ◌∙◌, Less, Equal, Greater}
use Rattle.std.specs.Prelude.{◌↔◌, filter, not, nat_lt, ◌&&◌, ◌==◌, slice_get}
use Rattle.std.specs.List.{IsDistinct, cons_option}
use Rattle.std.specs.List.Sorted.{IsStrictlySortedBy}
use Rattle.std.specs.Option.{option_map_or, option_and_then}
use Rattle.std.specs.Ordering.{nat_cmp}
use Rattle.std.proofs.lemmas.Bool.Decides.{Decides-eqb, Decides-ltb}
use Rattle.std.specs.Cmp.{nat_cmp_total}
use Rattle.plane_words.proofs.OrderLemmas.{one_list}
use Rattle.kern_model.proofs.MemberLemmas.{here, there, all_members, member_of_all, map_member, member_of_map}
use Rattle.kern_model.proofs.OrderLemmas.{tied_of_equal}
use Rattle.kern_model.proofs.TestLemmas.{below_test, both, of_both, false_of_not, not_true, from_filter_map, in_filter_map, of_any, from_any}
use Rattle.kern_calls.proofs.FilterLemmas.{from_filter, in_filter}
use Rattle.net_rows.specs.declared.rows.InterfaceRow.{InterfaceRow}
use Rattle.net_rules.specs.declared.inputs.Inputs.{Inputs}
use Rattle.net_rules.specs.declared.inputs.OpenInterface.{OpenInterface}
use Rattle.net_rules.specs.Numbers.{AreRising}
use Rattle.net_rules.specs.Inputs.{facts_of, open_interface}
use Rattle.net_rules.proofs.ListLemmas.{within_filter}
use Rattle.net_rules.proofs.TableLemmas.{found_member}
use Rattle.net_rules.specs.Touched.{is_needed, lost_numbers}
use Rattle.net_rules.proofs.TouchNumberLemmas.{between, rising_kept}
use Rattle.known_inputs.specs.Known.{StandOnce}
use Rattle.known_inputs.specs.Steps.{place_of}
use Rattle.net_rules.specs.States.{is_first}
use Rattle.net_rules.proofs.MoveLemmas.{some_is}
use Rattle.asked_places.specs.Touched.{has, names_of_rows, is_touched}
use Rattle.asked_places.specs.Losing.{lost_number, lost_row, lost_at, lost_at_places}
use Rattle.asked_places.proofs.PlaceLemmas.{place_of_first, first_at_place}
use Rattle.asked_places.proofs.LostLemmas.{one_of_number, one_lost}

-- numbers that rise are in order
less_than : (a b : ℕ) → a < b → nat_cmp a b ≡ Less
less_than a b h = ap (λ t. cond t Less (cond (a == b) Equal Greater)) ((Decides-ltb a b).1 h)

pub in_order : (least bound : ℕ) (ns : List ℕ) → AreRising least bound ns → IsStrictlySortedBy nat_cmp ns
unfolding IsStrictlySortedBy
in_order least bound [] rising = tt
in_order least bound (n ∷ ns) rising = (
  all_members (λ m. nat_cmp n m ≡ Less) ns (λ m member. let above = (between (n + 1) bound ns m rising.2 member).0 in less_than n m (omega (arith, above))),
  in_order (n + 1) bound ns rising.2,
)

below_of_less : (a b : ℕ) → nat_cmp a b ≡ Less → a < b
below_of_less a b h = by (nat_lt a b) (a == b) refl h
  where
    by : (t e : Bool) → nat_lt a b ≡ t → cond t Less (cond e Equal Greater) ≡ Less → a < b
    by true e is h = below_test a b is
    by false true is h = cc h
    by false false is h = cc h

-- and numbers in order rise
pub rising_of : (least bound : ℕ) (ns : List ℕ) → IsStrictlySortedBy nat_cmp ns → ((n : ℕ) → Contains ns n → (least ≤ n) × (n < bound)) → AreRising least bound ns
unfolding IsStrictlySortedBy
rising_of least bound [] sorted within = tt
rising_of least bound (n ∷ ns) sorted within =
    let here_is = within n (here n ns) in (
      here_is.0,
      here_is.1,
      rising_of (n + 1) bound ns sorted.1 (λ m member.
          let more = below_of_less n m (member_of_all (λ k. nat_cmp n k ≡ Less) ns m sorted.0 member) in
          (omega (arith, more), (within m (there n ns m member)).1)),
    )

pub rising_below : (bound : ℕ) (ns : List ℕ) → IsStrictlySortedBy nat_cmp ns → ((n : ℕ) → Contains ns n → n < bound) → AreRising 0 bound ns
rising_below bound ns sorted within = rising_of 0 bound ns sorted (λ n member. (omega arith, within n member))

-- a place with its lost request
pub record IsLostAt (inputs : Inputs) (place n : ℕ) : Type 0 where
  pub row : InterfaceRow
  pub at : slice_get inputs.conf.interfaces place ≡ Some row
  pub first : is_first inputs.conf.interfaces place row.name ≡ true
  pub asked : OpenInterface
  pub member : Contains inputs.interfaces asked
  pub named : asked.request.name ≡ row.name
  pub needless : is_needed (facts_of inputs) asked ≡ false
  pub number : asked.number ≡ n

pub lost_is : (inputs : Inputs) (place n : ℕ) → lost_at inputs place ≡ Some n → IsLostAt inputs place n
lost_is inputs place n h = by (slice_get inputs.conf.interfaces place) refl h
  where
    of_request : (row : InterfaceRow) → slice_get inputs.conf.interfaces place ≡ Some row → is_first inputs.conf.interfaces place row.name ≡ true → (found : Option OpenInterface) → open_interface inputs.interfaces row.name ≡ found
        → lost_number (facts_of inputs) found ≡ Some n → IsLostAt inputs place n
    of_request row at first None found h = cc h
    of_request row at first (Some o) found h = needless (is_needed (facts_of inputs) o) refl h
      where
        needless : (b : Bool) → is_needed (facts_of inputs) o ≡ b → cond {A = Option ℕ} b None (Some o.number) ≡ Some n → IsLostAt inputs place n
        needless true is h = cc h
        needless false is h =
            let there = found_member (λ (x : OpenInterface). x.request.name) inputs.interfaces row.name o found in
            record { row = row; at = at; first = first; asked = o; member = there.member; named = there.same; needless = is; number = some_is o.number n h }

    of_row : (row : InterfaceRow) → slice_get inputs.conf.interfaces place ≡ Some row → (b : Bool) → is_first inputs.conf.interfaces place row.name ≡ b
        → cond {A = Option ℕ} b (lost_number (facts_of inputs) (open_interface inputs.interfaces row.name)) None ≡ Some n → IsLostAt inputs place n
    of_row row at true is h = of_request row at is (open_interface inputs.interfaces row.name) refl h
    of_row row at false is h = cc h

    by : (found : Option InterfaceRow) → slice_get inputs.conf.interfaces place ≡ found → option_and_then (lost_row inputs place) found ≡ Some n → IsLostAt inputs place n
    by None at h = cc h
    by (Some row) at h = of_row row at (is_first inputs.conf.interfaces place row.name) refl h

has_member : (places : List ℕ) (place : ℕ) → Contains places place → has places place ≡ true
has_member places place member = of_any (λ other. place == other) places place member ((Decides-eqb place place).1 refl)

member_has : (places : List ℕ) (place : ℕ) → has places place ≡ true → Contains places place
member_has places place h = let found = from_any (λ other. place == other) places h in subst (Contains places) (sym ((Decides-eqb place found.passing).0 found.passes)) found.member

module _ (inputs : Inputs) (once : StandOnce inputs) (places : List ℕ) where
  abbrev touched : List ℕ → Bool
  touched = is_touched inputs.conf.interfaces places

  abbrev is_lost : OpenInterface → Bool
  is_lost o = touched o.request.name && not (is_needed (facts_of inputs) o)

  abbrev number : OpenInterface → ℕ
  number o = o.number

  lost_here : (n : ℕ) → Contains (lost_at_places inputs places) n → Contains (lost_numbers (facts_of inputs) touched inputs.interfaces) n
  lost_here n h =
      let from = from_filter_map (lost_at inputs) places n h in
      let lost = lost_is inputs from.source n from.gives in
      let place : place_of (names_of_rows inputs.conf.interfaces) lost.asked.request.name ≡ Some from.source = ap (place_of (names_of_rows inputs.conf.interfaces)) lost.named
      ∙ place_of_first inputs.conf.interfaces from.source lost.row lost.at lost.first in
      let on : touched lost.asked.request.name ≡ true = ap (λ (o : Option ℕ). option_map_or (has places) o false) place ∙ has_member places from.source from.member in
      let passes : is_lost lost.asked ≡ true = of_both (touched lost.asked.request.name) (not (is_needed (facts_of inputs) lost.asked)) on (ap not lost.needless) in
      subst (Contains (lost_numbers (facts_of inputs) touched inputs.interfaces)) lost.number
      (map_member number (filter is_lost inputs.interfaces) lost.asked (in_filter is_lost inputs.interfaces lost.asked lost.member passes))

  lost_there : (n : ℕ) → Contains (lost_numbers (facts_of inputs) touched inputs.interfaces) n → Contains (lost_at_places inputs places) n
  lost_there n h =
      let from = member_of_map number (filter is_lost inputs.interfaces) n h in
      let o = from.source in
      let member = within_filter is_lost inputs.interfaces o from.member in
      let parts = both (touched o.request.name) (not (is_needed (facts_of inputs) o)) (from_filter is_lost inputs.interfaces o from.member) in
      let needless : is_needed (facts_of inputs) o ≡ false = false_of_not (is_needed (facts_of inputs) o) (λ yes. not_true (is_needed (facts_of inputs) o) parts.1 yes) in
      by o member needless (place_of (names_of_rows inputs.conf.interfaces) o.request.name) refl parts.0 from.same
    where
      by : (o : OpenInterface) → Contains inputs.interfaces o → is_needed (facts_of inputs) o ≡ false → (found : Option ℕ) → place_of (names_of_rows inputs.conf.interfaces) o.request.name ≡ found → option_map_or (has places) found false
          ≡ true
          → o.number ≡ n → Contains (lost_at_places inputs places) n
      by o member needless None at on same = cc on
      by o member needless (Some p) at on same =
          let there = first_at_place inputs.conf.interfaces o.request.name p at in
          let first : is_first inputs.conf.interfaces p there.row.name ≡ true = ap (is_first inputs.conf.interfaces p) there.named ∙ there.first in
          let lost = one_lost inputs once p there.row o there.at first member (sym there.named) needless in
          in_filter_map (lost_at inputs) places p n (member_has places p on) (lost ∙ ap (λ (k : ℕ). Some k) same)

  pub lost_members : (n : ℕ) → Contains (lost_at_places inputs places) n ↔ Contains (lost_numbers (facts_of inputs) touched inputs.interfaces) n
  lost_members n = (lost_here n, lost_there n)

  pub lost_in_order : IsStrictlySortedBy nat_cmp (lost_numbers (facts_of inputs) touched inputs.interfaces)
  lost_in_order = in_order 1 inputs.next (lost_numbers (facts_of inputs) touched inputs.interfaces) (rising_kept number is_lost inputs.interfaces 1 inputs.next once.numbers)

  -- in order they are the numbers of touched interfaces
  pub lost_are : (numbers : List ℕ) → IsStrictlySortedBy nat_cmp numbers → ((n : ℕ) → Contains numbers n ↔ Contains (lost_at_places inputs places) n) → numbers ≡ lost_numbers (facts_of inputs) touched inputs.interfaces
  lost_are numbers sorted members =
      let lost = lost_numbers (facts_of inputs) touched inputs.interfaces in
      one_list nat_cmp_total (has lost) numbers lost tied_of_equal
      (record {
        sorted = sorted;
        sound = λ k member. has_member lost k (lost_here k ((members k).0 member));
        complete = λ k h. (members k).1 (lost_there k (member_has lost k h));
      })
      (record {
        sorted = lost_in_order;
        sound = λ k member. has_member lost k member;
        complete = λ k h. member_has lost k h;
      })

-- each is lost once
lost_apart : (inputs : Inputs) → StandOnce inputs → (p q n : ℕ) → lost_at inputs p ≡ Some n → lost_at inputs q ≡ Some n → p ≡ q
lost_apart inputs once p q n first second =
    let a = lost_is inputs p n first in
    let b = lost_is inputs q n second in
    let same : a.asked ≡ b.asked = one_of_number inputs once a.asked b.asked a.member b.member (a.number ∙ sym b.number) in
    let name : a.row.name ≡ b.row.name = sym a.named ∙ ap (λ (o : OpenInterface). o.request.name) same ∙ b.named in
    some_is p q (sym (place_of_first inputs.conf.interfaces p a.row a.at a.first) ∙ ap (place_of (names_of_rows inputs.conf.interfaces)) name ∙ place_of_first inputs.conf.interfaces q b.row b.at b.first)

pub lost_once : (inputs : Inputs) → StandOnce inputs → (least bound : ℕ) (places : List ℕ) → AreRising least bound places → IsDistinct (λ a b. a == b) (lost_at_places inputs places)
unfolding IsDistinct
lost_once inputs once least bound [] rising = tt
lost_once inputs once least bound (p ∷ ps) rising = by (lost_at inputs p) refl (lost_once inputs once (p + 1) bound ps rising.2)
  where
    above : (q : ℕ) → Contains ps q → p ≡ q → ⊥
    above q member same = let up = (between (p + 1) bound ps q rising.2 member).0 in absurd (omega (arith, up, same))

    by : (o : Option ℕ) → lost_at inputs p ≡ o → IsDistinct (λ a b. a == b) (lost_at_places inputs ps) → IsDistinct (λ a b. a == b) (cons_option o (lost_at_places inputs ps))
    by None is rest = rest
    by (Some n) is rest = (
      all_members (λ m. (n == m) ≡ false) (lost_at_places inputs ps) (λ m member. false_of_not (n == m) (λ h.
          let from = from_filter_map (lost_at inputs) ps m member in
          let same : n ≡ m = (Decides-eqb n m).0 h in
          above from.source from.member (lost_apart inputs once p from.source n is (from.gives ∙ ap (λ (k : ℕ). Some k) (sym same))))),
      rest,
    )
