-- The inputs after devices that came one after the other, before any rows are loaded.
use Rattle.std.proofs.Common.{ℕ, ◌≡◌, List, [], ◌∷◌, ◌++◌, Option, Some, None, inl, inr, refl, ap, sym, subst, ◌∙◌}
use Rattle.std.specs.Prelude.{Result, Ok, Err, ⊤}
use Rattle.std.specs.FinMap as finite_map
use Rattle.plane_words.specs.Causes.{Rose}
use Rattle.kern_model.specs.declared.kernel.Asked.{Asked}
use Rattle.net_rules.specs.declared.refusal.Refusal.{Refusal}
use Rattle.net_rules.specs.declared.refusal.Refusal.TheVariants as refused
use Rattle.net_plane.specs.declared.net_error.NetError.{NetError}
use Rattle.net_plane.specs.declared.net_error.NetError.TheVariants as error
use Rattle.std.specs.List.{fold}
use Rattle.std.specs.FinSet as set
use Rattle.kern_model.specs.declared.object.Device.{Device}
use Rattle.kern_model.specs.declared.object.DevEvent.{DevEvent}
use Rattle.kern_model.specs.ObjectOrder.{Objects, set_of}
use Rattle.kern_model.specs.Kernel.{map_of, after_event}
use Rattle.net_rules.specs.declared.inputs.Inputs.{Inputs}
use Rattle.net_rules.specs.declared.event.Event.TheVariants as event
use Rattle.net_rules.specs.Inputs.{no_inputs}
use Rattle.net_rules.specs.After.{devices_after, after}
use Rattle.net_rules.specs.Notices.{notices, notices_between}
use Rattle.net_rules.specs.Moment.{Moment, devices_of}
use Rattle.net_rules.proofs.MomentLemmas.{devices_follow, present_follows}
use Rattle.net_plane.specs.Taken.{AnswersOrFails, TellsOnce}
use Rattle.net_start.specs.Inputs.{comes, input_with, inputs_with}

-- devices alone
abbrev only : List (List ℕ × Device) → Inputs
only devices = record no_inputs { devices = devices }

only_after : (devices : List (List ℕ × Device)) (what : DevEvent)
    → after (only devices) (event.Device what) ≡ only (devices_after devices what)
unfolding after
only_after devices what = refl

abbrev list_with : List (List ℕ × Device) → List (List ℕ) → List (List ℕ × Device)
list_with devices names = fold (λ es name. devices_after es (comes name)) devices names

only_with : (devices : List (List ℕ × Device)) (names : List (List ℕ))
    → fold input_with (only devices) names ≡ only (list_with devices names)
only_with devices [] = refl
only_with devices (name ∷ names) =
    ap (λ inputs. fold input_with inputs names) (only_after devices (comes name))
    ∙ only_with (devices_after devices (comes name)) names

-- nothing is asked, and so nothing is told
pub nothing_told : (names : List (List ℕ)) (what : DevEvent)
    → notices (inputs_with names) (event.Device what) ≡ []
nothing_told names what =
    ap (λ inputs. notices inputs (event.Device what)) (only_with [] names)
    ∙ ap (notices_between (only (list_with [] names))) (only_after (list_with [] names) what)

fold_more : (inputs : Inputs) (names : List (List ℕ)) (name : List ℕ)
    → fold input_with inputs (names ++ name ∷ []) ≡ input_with (fold input_with inputs names) name
fold_more inputs [] name = refl
fold_more inputs (n ∷ names) name = fold_more (input_with inputs n) names name

pub inputs_more : (names : List (List ℕ)) (name : List ℕ)
    → inputs_with (names ++ name ∷ []) ≡ input_with (inputs_with names) name
inputs_more names name = fold_more no_inputs names name

-- the devices of the inputs follow what happens to one
pub devices_come : (inputs : Inputs) (what : DevEvent)
    → devices_of (after inputs (event.Device what)) ≡ after_event (devices_of inputs) what
devices_come inputs what =
    ap map_of (present_follows inputs (event.Device what))
    ∙ devices_follow inputs.devices what

-- nothing is present at first
pub none_at_first : devices_of no_inputs ≡ finite_map.empty
none_at_first = refl

pub nothing_held : set_of [] ≡ set.empty
nothing_held = refl

pub same_moment : (inputs others : Inputs) (held same : Objects) → inputs ≡ others → held ≡ same
    → ◌≡◌ {A = Moment} (record { inputs = inputs; held = held })
    (record { inputs = others; held = same })
same_moment inputs others held same p q i = record { inputs = p i; held = q i }

-- why a device was not taken
pub failed_rose : (why : Option Refusal) (before now : ℕ)
    → AnswersOrFails {X = ⊤} why before now (Err error.KernelFailed) → Rose before now
failed_rose None before now (inl memory) = absurd cc
failed_rose None before now (inr rose) = rose.1
failed_rose (Some refused.NoInterface) before now e = absurd cc
failed_rose (Some refused.NoRadio) before now e = absurd cc
failed_rose (Some (refused.Stale given current)) before now e = absurd cc
failed_rose (Some refused.NoDevice) before now e = absurd cc
failed_rose (Some refused.Known) before now e = absurd cc
failed_rose (Some (refused.WrongPorts wanted)) before now e = absurd cc
failed_rose (Some (refused.Limit number)) before now e = absurd cc

-- the kernel was asked nothing
pub not_asked : (what : DevEvent) (before now : Option (List Asked)) (e : NetError)
    → (e ≡ error.KernelFailed → ⊥) → TellsOnce {X = ⊤} what before now (Err e) → now ≡ before
not_asked what before now error.KernelFailed other h = absurd (other refl)
not_asked what before now error.NoInterface other h = h
not_asked what before now (error.Stale given current) other h = h
not_asked what before now error.NoDevice other h = h
not_asked what before now error.Known other h = h
not_asked what before now (error.WrongPorts wanted) other h = h
not_asked what before now (error.Limit number) other h = h
not_asked what before now error.NoRadio other h = h
not_asked what before now error.WriteFailed other h = h
not_asked what before now error.Memory other h = h
