-- A device that goes.
use Rattle.std.proofs.Common.{arith, ◌≡◌, ◌≢◌, suc, ◌-◌, ◌<◌, ◌≤◌, ℕ, List, [], ◌∷◌, map, Bool, true, false, cond, Option, Some, None, refl, sym, ap, subst, ◌∙◌, bytes_eq}
use Rattle.std.specs.Prelude.{not, nat_lt}
use Rattle.std.specs.List.{AllByRecursion}
use Rattle.std.specs.Option.{option_map}
use Rattle.std.specs.Ordering.{nat_cmp}
use Rattle.std.specs.Cmp.Lexicographic.{slice_cmp, texts_ties}
use Rattle.std.specs.BTreeMap.{BTreeMap, get, is_at}
use Rattle.std.specs.Map.{lookup}
use Rattle.std.proofs.lemmas.Bool.Decides.{Decides-ltb}
use Rattle.plane_words.specs.Distinct.{AreDistinct}
use Rattle.kern_model.specs.declared.object.Device.{Device}
use Rattle.kern_model.proofs.TestLemmas.{bytes_same, same_bytes, false_of_not, below_test, above_test}
use Rattle.uci_tree.proofs.FoldLemmas.{position-cons}
use Rattle.net_rules.specs.declared.inputs.Inputs.{Inputs}
use Rattle.net_rules.specs.After.{without_device}
use Rattle.net_view.specs.Places.{place_of}
use Rattle.net_reach.specs.Gone.{lowered, place_left}
use Rattle.net_reach.specs.Reach.{IsReachOf}
use Rattle.net_reach.specs.declared.reach.Reach.{Reach}

-- ---- a place less

lower : (gone place : ℕ) → gone < place → lowered gone place ≡ place - 1
lower gone place less = ap (λ b. cond b (place - 1) place) ((Decides-ltb gone place).1 less)

same_place : (gone place : ℕ) → place ≤ gone → lowered gone place ≡ place
same_place gone place low = ap (λ b. cond b (place - 1) place) (false_of_not (nat_lt gone place) (λ h. let less = below_test gone place h in omega arith))

lowered_first : (place : ℕ) → lowered 0 (suc place) ≡ place
lowered_first place = let one : suc place - 1 ≡ place = omega arith in lower 0 (suc place) (omega arith) ∙ one

lowered_next : (gone place : ℕ) → suc (lowered gone place) ≡ lowered (suc gone) (suc place)
lowered_next gone place = at (nat_lt gone place) refl
  where
    at : (b : Bool) → nat_lt gone place ≡ b → suc (lowered gone place) ≡ lowered (suc gone) (suc place)
    at true h =
        let less = below_test gone place h in
        let one : suc (place - 1) ≡ suc place - 1 = omega arith in
        ap suc (lower gone place less) ∙ one ∙ sym (lower (suc gone) (suc place) (omega arith))
    at false h =
        let low = above_test gone place h in
        ap suc (same_place gone place low) ∙ sym (same_place (suc gone) (suc place) (omega arith))

-- ---- the place of a name among others

abbrev pub behind : Bool → Option ℕ → Option ℕ
behind b o = cond {A = Option ℕ} b (Some 0) (option_map (λ k. suc k) o)

pub place_cons : (n : List ℕ) (ns : List (List ℕ)) (q : List ℕ) → place_of (n ∷ ns) q ≡ behind (bytes_eq n q) (place_of ns q)
place_cons n ns q = position-cons (λ other. bytes_eq other q) n ns

unnamed : (name : List ℕ) → (ns : List (List ℕ)) → AllByRecursion (λ other. other ≢ name) ns → place_of ns name ≡ None
unnamed name [] off = refl
unnamed name (n ∷ ns) off =
    place_cons n ns name
    ∙ ap (λ b. behind b (place_of ns name)) (false_of_not (bytes_eq n name) (λ h. off.0 (bytes_same n name h)))
    ∙ ap (option_map (λ (k : ℕ). suc k)) (unnamed name ns off.1)

abbrev names : List (List ℕ × Device) → List (List ℕ)
names devices = map (λ (e : List ℕ × Device). e.0) devices

left_step : (name : List ℕ) (e : List ℕ × Device) (es : List (List ℕ × Device)) (b : Bool) → (place_of (names es) name ≡ None → without_device name es ≡ es) → (o : Option ℕ) → place_of (names es) name ≡ o → behind b o ≡ None
    → cond (not b) (e ∷ without_device name es) (without_device name es) ≡ e ∷ es
left_step name e es true rest o is none = cc none
left_step name e es false rest None is none = ap (λ others. e ∷ others) (rest is)
left_step name e es false rest (Some k) is none = cc none

pub all_left : (name : List ℕ) → (es : List (List ℕ × Device)) → place_of (names es) name ≡ None → without_device name es ≡ es
all_left name [] none = refl
all_left name (e ∷ es) none = left_step name e es (bytes_eq e.0 name) (all_left name es) (place_of (names es) name) refl (sym (place_cons e.0 (names es) name) ∙ none)

-- the first is gone
gone_first : (same : Bool) (o : Option ℕ) → (same ≡ true → o ≡ None) → o ≡ place_left (Some 0) same (behind same o)
gone_first true o none = none refl
gone_first false None none = refl
gone_first false (Some k) none = ap (λ (n : ℕ). Some n) (sym (lowered_first k))

-- one behind the first is gone
gone_next : (first same : Bool) (gone : ℕ) (o : Option ℕ) → (first ≡ true → same ≡ true → ⊥) → behind first (place_left (Some gone) same o) ≡ place_left (Some (suc gone)) same (behind first o)
gone_next true true gone o apart = absurd (apart refl refl)
gone_next true false gone o apart = ap (λ (n : ℕ). Some n) (sym (same_place (suc gone) 0 (omega arith)))
gone_next false true gone o apart = refl
gone_next false false gone None apart = refl
gone_next false false gone (Some k) apart = ap (λ (n : ℕ). Some n) (lowered_next gone k)

module _ (name q : List ℕ) where
  gone_step : (e : List ℕ × Device) (es : List (List ℕ × Device)) (gone : ℕ) (b : Bool) (o : Option ℕ) → bytes_eq e.0 name ≡ b → place_of (names es) name ≡ o → AllByRecursion (λ other. other ≢ e.0) (names es)
      → ((k : ℕ) → place_of (names es) name ≡ Some k → place_of (names (without_device name es)) q ≡ place_left (Some k) (bytes_eq name q) (place_of (names es) q)) → behind b o ≡ Some gone
      → place_of (names (cond (not b) (e ∷ without_device name es) (without_device name es))) q ≡ place_left (Some gone) (bytes_eq name q) (behind (bytes_eq e.0 q) (place_of (names es) q))
  gone_step e es gone true o same is off rest found =
      let one : e.0 ≡ name = bytes_same e.0 name same in
      let none : place_of (names es) name ≡ None = subst (λ (z : List ℕ). place_of (names es) z ≡ None) one (unnamed e.0 (names es) off) in
      let zero_gone : 0 ≡ gone = cc found in
      ap (λ (z : List (List ℕ × Device)). place_of (names z) q) (all_left name es none)
      ∙ gone_first (bytes_eq name q) (place_of (names es) q) (λ h. sym (ap (place_of (names es)) (bytes_same name q h)) ∙ none)
      ∙ ap (λ (z : List ℕ). place_left (Some 0) (bytes_eq name q) (behind (bytes_eq z q) (place_of (names es) q))) (sym one)
      ∙ ap (λ (k : ℕ). place_left (Some k) (bytes_eq name q) (behind (bytes_eq e.0 q) (place_of (names es) q))) zero_gone
  gone_step e es gone false None other is off rest found = cc found
  gone_step e es gone false (Some k) other is off rest found =
      let next : suc k ≡ gone = cc found in
      let apart : bytes_eq e.0 q ≡ true → bytes_eq name q ≡ true → ⊥ = λ g h. let same : bytes_eq e.0 name ≡ true = same_bytes e.0 name (bytes_same e.0 q g ∙ sym (bytes_same name q h)) in cc (same, other) in
      place_cons e.0 (names (without_device name es)) q
      ∙ ap (behind (bytes_eq e.0 q)) (rest k is)
      ∙ gone_next (bytes_eq e.0 q) (bytes_eq name q) k (place_of (names es) q) apart
      ∙ ap (λ (n : ℕ). place_left (Some n) (bytes_eq name q) (behind (bytes_eq e.0 q) (place_of (names es) q))) next

  one_gone : (es : List (List ℕ × Device)) (gone : ℕ) → AreDistinct (names es) → place_of (names es) name ≡ Some gone → place_of (names (without_device name es)) q ≡ place_left (Some gone) (bytes_eq name q) (place_of (names es) q)
  one_gone [] gone once found = cc found
  one_gone (e ∷ es) gone once found =
      gone_step e es gone (bytes_eq e.0 name) (place_of (names es) name) refl refl once.0 (λ k is. one_gone es k once.1 is) (sym (place_cons e.0 (names es) name) ∙ found)
      ∙ ap (place_left (Some gone) (bytes_eq name q)) (sym (place_cons e.0 (names es) q))

  pub place_left_is : (es : List (List ℕ × Device)) → AreDistinct (names es) → (o : Option ℕ) → place_of (names es) name ≡ o → place_of (names (without_device name es)) q ≡ place_left o (bytes_eq name q) (place_of (names es) q)
  place_left_is es once None none = ap (λ (z : List (List ℕ × Device)). place_of (names z) q) (all_left name es none)
  place_left_is es once (Some gone) found = one_gone es gone once found

-- ---- the map

pub forgot_one : (old mid new : BTreeMap (List ℕ) ℕ) (name : List ℕ) (gone : ℕ) (r : Option ℕ) → r ≡ get (slice_cmp nat_cmp) old name → r ≡ Some gone
    → ((q : List ℕ) → get (slice_cmp nat_cmp) mid q ≡ cond (is_at (slice_cmp nat_cmp name) q) None (get (slice_cmp nat_cmp) old q)) → ((q : List ℕ) → get (slice_cmp nat_cmp) new q ≡ option_map (lowered gone) (get (slice_cmp nat_cmp) mid q))
    → (q : List ℕ) → get (slice_cmp nat_cmp) new q ≡ place_left (get (slice_cmp nat_cmp) old name) (bytes_eq name q) (get (slice_cmp nat_cmp) old q)
forgot_one old mid new name gone r value is took low q =
    low q
    ∙ ap (option_map (lowered gone)) (took q)
    ∙ inside (is_at (slice_cmp nat_cmp name) q) (get (slice_cmp nat_cmp) old q)
    ∙ ap (λ b. place_left (Some gone) b (get (slice_cmp nat_cmp) old q)) (sym (texts_ties name q))
    ∙ ap (λ (o : Option ℕ). place_left o (bytes_eq name q) (get (slice_cmp nat_cmp) old q)) (sym is ∙ value)
  where
    inside : (b : Bool) (o : Option ℕ) → option_map (lowered gone) (cond b None o) ≡ place_left (Some gone) b o
    inside true o = refl
    inside false o = refl

pub forgot_none : (old new : BTreeMap (List ℕ) ℕ) (name : List ℕ) (r : Option ℕ) → r ≡ get (slice_cmp nat_cmp) old name → r ≡ None → new.entries ≡ old.entries → (q : List ℕ) → get (slice_cmp nat_cmp) new q
    ≡ place_left (get (slice_cmp nat_cmp) old name) (bytes_eq name q) (get (slice_cmp nat_cmp) old q)
forgot_none old new name r value is same q =
    ap (λ (z : List (List ℕ × ℕ)). lookup (is_at (slice_cmp nat_cmp q)) z) same
    ∙ ap (λ (o : Option ℕ). place_left o (bytes_eq name q) (get (slice_cmp nat_cmp) old q)) (sym is ∙ value)

pub device_goes : (inputs : Inputs) (reach : Reach) (devices : BTreeMap (List ℕ) ℕ) (name : List ℕ) → IsReachOf inputs reach → AreDistinct (map (λ (e : List ℕ × Device). e.0) inputs.devices)
    → ((q : List ℕ) → get (slice_cmp nat_cmp) devices q ≡ place_left (get (slice_cmp nat_cmp) reach.devices name) (bytes_eq name q) (get (slice_cmp nat_cmp) reach.devices q))
    → IsReachOf (record inputs { devices = without_device name inputs.devices }) (record reach { devices = devices })
device_goes inputs reach devices name is once left = record {
  interfaces = is.interfaces;
  radios = is.radios;
  devices = λ q.
      left q
      ∙ ap (λ (o : Option ℕ). place_left o (bytes_eq name q) (get (slice_cmp nat_cmp) reach.devices q)) (is.devices name)
      ∙ ap (place_left (place_of (names inputs.devices) name) (bytes_eq name q)) (is.devices q)
      ∙ sym (place_left_is name q inputs.devices once (place_of (names inputs.devices) name) refl);
  rows = is.rows;
  names = is.names;
  above = is.above;
  at_device = is.at_device;
  at_l3_device = is.at_l3_device;
  routes = is.routes;
  row_room = is.row_room;
  place_room = is.place_room;
}
