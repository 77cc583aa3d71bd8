-- What holds while an event is followed, told by its parts.
use Rattle.std.proofs.Common.{arith, ℕ, zero, suc, ◌≡◌, ◌≤◌, ◌<◌, ◌+◌, ◌*◌, ◌^◌, List, [], ◌∷◌, length, true, Contains, Some, vec_capacity, refl, ap, sym, subst, ◌∙◌}
use Rattle.std.specs.Prelude.{◌==◌, slice_get}
use Rattle.std.specs.VecDeque.{deque_len, deque_capacity}
use Rattle.std.proofs.lemmas.Bool.Decides.{Decides-eqb}
use Rattle.kern_model.proofs.TestLemmas.{of_any}
use Rattle.net_rules.specs.declared.inputs.Inputs.{Inputs}
use Rattle.net_rules.specs.Numbers.{AreRising}
use Rattle.state_requests.specs.SettlingState.{SettlingState}
use Rattle.asked_places.specs.Touched.{has}
use Rattle.state_requests.specs.States.{States}
use Rattle.state_requests.specs.Kept.{IsTied, FollowBut}
use Rattle.state_requests.specs.Counted.{IsCountedBy}
use Rattle.net_follow.specs.declared.follower.Follower.{Follower}
use Rattle.net_follow.specs.InStep.{inputs_of, HasRoom, IsCalm, IsMoving}

-- the parts of what moves
pub record Moves (inputs : Inputs) (places : List ℕ) (states : States) (c : SettlingState) : Type 0 where
  pub rising : AreRising 0 (length inputs.conf.interfaces) places
  pub tied : IsTied inputs states
  pub follow : FollowBut inputs places states.list.items
  pub counted : IsCountedBy inputs states.list.items c
  pub calm : IsCalm c
  pub next : inputs.next + length places ≤ 2 ^ 63

pub moving : (f : Follower) (inputs : Inputs) (places : List ℕ) → inputs_of f ≡ inputs → f.touched.items ≡ places → Moves inputs places f.states f.settling → f.notices.items ≡ [] → HasRoom f → IsMoving f
moving f inputs places is are moves told room =
    let at : Moves (inputs_of f) f.touched.items f.states f.settling =
    subst (λ (x : Inputs). Moves x f.touched.items f.states f.settling) (sym is) (subst (λ (ps : List ℕ). Moves inputs ps f.states f.settling) (sym are) moves) in
    record {
      rising = at.rising;
      tied = at.tied;
      follow = at.follow;
      counted = at.counted;
      calm = at.calm;
      next = at.next;
      told = told;
      room = room;
    }

pub room_kept : (f g : Follower) → (inputs_of g).conf ≡ (inputs_of f).conf → vec_capacity g.touched ≡ vec_capacity f.touched → deque_capacity g.notices ≡ deque_capacity f.notices → HasRoom f → HasRoom g
room_kept f g conf touched notices room = record {
  touched = subst (λ k. length (inputs_of g).conf.interfaces ≤ k) (sym touched) (subst (λ c. length c.interfaces ≤ vec_capacity f.touched) (sym conf) room.touched);
  notices = subst (λ k. 2 * length (inputs_of g).conf.interfaces ≤ k) (sym notices) (subst (λ c. 2 * length c.interfaces ≤ deque_capacity f.notices) (sym conf) room.notices);
  routes = subst (λ c. length c.routes ≤ 2 ^ 49) (sym conf) room.routes;
}

-- rising places are few
few_from : (least bound : ℕ) (ns : List ℕ) → least ≤ bound → AreRising least bound ns → length ns + least ≤ bound
few_from least bound [] within rising = omega (arith, within)
few_from least bound (n ∷ ns) within rising =
    let low : least ≤ n = rising.0 in
    let high : n < bound = rising.1 in
    let rest : length ns + (n + 1) ≤ bound = few_from (n + 1) bound ns (omega (arith, high)) rising.2 in
    omega (arith, low, rest)

pub rising_few : (bound : ℕ) (ns : List ℕ) → AreRising 0 bound ns → length ns ≤ bound
rising_few bound ns rising = let few : length ns + 0 ≤ bound = few_from 0 bound ns (omega arith) rising in omega (arith, few)

pub has_member : (places : List ℕ) (place : ℕ) → Contains places place → has places place ≡ true
has_member places place member = of_any (λ other. place == other) places place member ((Decides-eqb place place).1 refl)

pub within_of : {X : Type 0} (xs : List X) (n : ℕ) (x : X) → slice_get xs n ≡ Some x → n < length xs
within_of [] n x at = cc at
within_of (y ∷ ys) zero x at = omega arith
within_of (y ∷ ys) (suc n) x at = let rest : n < length ys = within_of ys n x at in omega (arith, rest)

-- there is room for what the touched interfaces lose and open
pub notices_room : (f : Follower) (places : List ℕ) → IsMoving f → places ≡ f.touched.items → deque_len f.notices + 2 * length places ≤ deque_capacity f.notices
notices_room f places m is =
    let few : length f.touched.items ≤ length (inputs_of f).conf.interfaces = rising_few (length (inputs_of f).conf.interfaces) f.touched.items m.rising in
    let room : 2 * length (inputs_of f).conf.interfaces ≤ deque_capacity f.notices = m.room.notices in
    let none : deque_len f.notices ≡ 0 = f.notices.ok.0 ∙ ap length m.told in
    let same : length places ≡ length f.touched.items = ap length is in
    omega (arith, few, room, none, same)
