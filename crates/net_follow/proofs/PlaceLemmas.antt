-- The places of devices, where one comes, leaves or is told of its carrier.
use Rattle.std.proofs.Common.{ℕ, suc, ◌≡◌, List, [], ◌∷◌, map, Bool, true, false, cond, Option, Some, None, refl, ap, sym, subst, ◌∙◌}
use Rattle.std.specs.Prelude.{◌||◌, not, bytes_eq, is_some, is_none, find}
use Rattle.std.specs.Option.{option_map}
use Rattle.std.specs.FinSet as set
use Rattle.plane_words.specs.Distinct.{AreDistinct}
use Rattle.kern_model.specs.declared.object.Device.{Device}
use Rattle.kern_model.specs.declared.object.Mac.{Mac}
use Rattle.kern_model.specs.declared.object.DevEvent.{DevEvent}
use Rattle.kern_model.specs.declared.object.DevEvent.TheVariants as device
use Rattle.kern_model.specs.ObjectOrder.{Objects}
use Rattle.uci_tree.proofs.FoldLemmas.{position-cons}
use Rattle.net_rules.specs.declared.inputs.Inputs.{Inputs}
use Rattle.net_rules.specs.declared.event.Event.TheVariants as event
use Rattle.net_rules.specs.declared.refusal.Refusal.{Refusal}
use Rattle.net_rules.specs.declared.refusal.Refusal.TheVariants as refused
use Rattle.net_rules.specs.Rows.{is_plain}
use Rattle.net_rules.specs.Inputs.{device_in}
use Rattle.net_rules.specs.After.{changed, without_device}
use Rattle.net_rules.specs.Refusal.{or_else, refused_if, is_held_link, refusal}
use Rattle.known_inputs.specs.Known.{StandOnce, device_names}
use Rattle.known_inputs.specs.Steps.{name_of, place_of}
use Rattle.net_reach.specs.declared.reach.Reach.{Reach}
use Rattle.net_reach.specs.Reach.{IsReachOf}
use Rattle.net_reach.proofs.AlikeLemmas.{alike_reach, carrier_alike}
use Rattle.net_reach.proofs.ComeLemmas.{comes_behind, still_once, gone_again}
use Rattle.net_follow.specs.Awaiting.{with_device, IsPlaced}
use Rattle.net_follow.proofs.StepLemmas.{moment_of}

-- a name that no device has stands at no place
no_place : (es : List (List ℕ × Device)) (name : List ℕ) → is_some (device_in es name) ≡ false → place_of (map (λ e. e.0) es) name ≡ None
no_place [] name none = refl
no_place (e ∷ es) name none = by (bytes_eq e.0 name) refl none (no_place es name)
  where
    by : (b : Bool) → bytes_eq e.0 name ≡ b → is_some (option_map (λ (x : List ℕ × Device). x.1) (cond b (Some e) (find (λ x. bytes_eq x.0 name) es))) ≡ false
        → (is_some (device_in es name) ≡ false → place_of (map (λ e. e.0) es) name ≡ None) → place_of (map (λ e. e.0) (e ∷ es)) name ≡ None
    by true is h rest = cc h
    by false is h rest =
        position-cons (λ other. bytes_eq other name) e.0 (map (λ e. e.0) es)
        ∙ ap (λ b. cond {A = Option ℕ} b (Some 0) (option_map (λ k. suc k) (place_of (map (λ e. e.0) es) name))) is
        ∙ ap (option_map (λ k. suc k)) (rest h)

left_off : (a b : Bool) (why : Refusal) (rest : Option Refusal) → or_else (refused_if (a || b) why) rest ≡ None → a ≡ false
left_off true b why rest none = cc none
left_off false b why rest none = refl

there_is : (o : Option Device) (why : Refusal) → refused_if (is_none o) why ≡ None → is_some o ≡ true
there_is None why none = cc none
there_is (Some d) why none = refl

module _ (inputs : Inputs) (held : Objects) (name : List ℕ) where
  -- a device that comes had no place
  module _ (carrier : Bool) (mtu : ℕ) (mac : Mac) (free : refusal (moment_of inputs held) (event.Device (device.Add name carrier mtu mac)) ≡ None) where
    abbrev come : Device
    come = record { carrier = carrier; mtu = mtu; mac = mac }

    pub had_none : place_of (device_names inputs) name ≡ None
    had_none = no_place inputs.devices name (left_off (is_some (device_in inputs.devices name)) (not (is_plain inputs.conf name) || is_held_link held name) refused.Known _ free)

    pub add_reached : (reach : Reach) → IsReachOf (with_device inputs name come) reach → IsReachOf (changed inputs (event.Device (device.Add name carrier mtu mac))) reach
    add_reached reach is = subst (λ (x : Inputs). IsReachOf x reach) (sym (comes_behind inputs name carrier mtu mac had_none)) is

    -- and has none again where it is taken back
    pub add_forgotten : (old new : Reach) → StandOnce inputs → IsReachOf (with_device inputs name come) old
        → ((i : Inputs) → IsReachOf i old → AreDistinct (map (λ (e : List ℕ × Device). e.0) i.devices) → IsReachOf (record i { devices = without_device name i.devices }) new) → IsReachOf inputs new
    add_forgotten old new once is gone =
        subst (λ (x : Inputs). IsReachOf x new) (gone_again inputs name come had_none)
        (gone (with_device inputs name come) is (still_once inputs name come once.devices had_none))

  -- one that leaves is present
  pub was_present : refusal (moment_of inputs held) (event.Device (device.Remove name)) ≡ None → is_some (device_in inputs.devices name) ≡ true
  was_present free = there_is (device_in inputs.devices name) refused.NoDevice free

  pub carrier_reached : (on : Bool) (reach : Reach) → IsReachOf inputs reach → IsReachOf (changed inputs (event.Device (device.Carrier name on))) reach
  carrier_reached on reach is = alike_reach inputs (changed inputs (event.Device (device.Carrier name on))) reach (carrier_alike inputs name on) is

-- ---- by what happens

module _ (what : DevEvent) (name : List ℕ) (carrier : Bool) (mtu : ℕ) (mac : Mac) (is : what ≡ device.Add name carrier mtu mac) (inputs : Inputs) (held : Objects) where
  pub come_had_none : refusal (moment_of inputs held) (event.Device what) ≡ None → place_of (device_names inputs) (name_of what) ≡ None
  come_had_none = subst (λ (w : DevEvent). refusal (moment_of inputs held) (event.Device w) ≡ None → place_of (device_names inputs) (name_of w) ≡ None) (sym is) (had_none inputs held name carrier mtu mac)

  pub come_reached : (reach : Reach) → refusal (moment_of inputs held) (event.Device what) ≡ None → IsPlaced inputs what reach → IsReachOf (changed inputs (event.Device what)) reach
  come_reached reach = subst (λ (w : DevEvent). refusal (moment_of inputs held) (event.Device w) ≡ None → IsPlaced inputs w reach → IsReachOf (changed inputs (event.Device w)) reach) (sym is)
      (λ free. add_reached inputs held name carrier mtu mac free reach)

  pub come_forgotten : (old new : Reach) → StandOnce inputs → refusal (moment_of inputs held) (event.Device what) ≡ None → IsPlaced inputs what old
      → ((i : Inputs) → IsReachOf i old → AreDistinct (map (λ (e : List ℕ × Device). e.0) i.devices) → IsReachOf (record i { devices = without_device name i.devices }) new) → IsReachOf inputs new
  come_forgotten old new once free placed gone =
      subst (λ (w : DevEvent). refusal (moment_of inputs held) (event.Device w) ≡ None → IsPlaced inputs w old → IsReachOf inputs new) (sym is)
      (λ none at. add_forgotten inputs held name carrier mtu mac none old new once at gone) free placed

pub set_reached : (what : DevEvent) (name : List ℕ) (on : Bool) → what ≡ device.Carrier name on → (inputs : Inputs) (reach : Reach) → IsPlaced inputs what reach → IsReachOf (changed inputs (event.Device what)) reach
set_reached what name on is inputs reach = subst (λ (w : DevEvent). IsPlaced inputs w reach → IsReachOf (changed inputs (event.Device w)) reach) (sym is) (carrier_reached inputs set.empty name on reach)
