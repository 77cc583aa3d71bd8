-- What is shown, or told to be absent.
use Rattle.std.proofs.Common.{ℕ, ◌≡◌, List, Option, Some, None, true, false, cond, inl, inr, ap, sym, subst, ◌∙◌}
use Rattle.std.specs.Prelude.{Result, Ok, Err, IfOk, ◌⊎◌}
use Rattle.serde_json.specs.Data.{Data}
use Rattle.net_rules.specs.declared.inputs.Inputs.{Inputs}
use Rattle.net_status.specs.Devices.{device_status}
use Rattle.kern_model.specs.Name.{is_name}
use Rattle.net_plane.specs.declared.net_error.NetError.{NetError}
use Rattle.net_plane.specs.declared.net_error.NetError.TheVariants as net_error
use Rattle.net_plane.specs.Network.{Network, moment_of}
use Rattle.script_lines.specs.declared.line_error.LineError.{LineError}
use Rattle.step_net.specs.declared.told.Told.{Told}
use Rattle.step_net.specs.NetLine.{NetLine}
use Rattle.step_net.specs.Acted.{acted, shown_or, value_line, named_device}
use Rattle.step_net.specs.Moved.{telling_of}
use Rattle.step_net.specs.Told.{shown, line_error}
use Rattle.step_net.specs.Taken.{telling_in, Tells, Shows}

-- the value is shown
pub shows : {M : Type 0} (line : NetLine) (now : Network) (absent : LineError) (o : Option Data)
    (result : Result Told M) (d : Data)
    → acted (moment_of now) line false ≡ shown_or (moment_of now) absent o → Some d ≡ o
    → IfOk result (λ told. telling_in told ≡ shown (value_line d)) → Shows line now result
shows line now absent o (Ok told) d is found tells =
    tells ∙ ap telling_of (sym (is ∙ ap (shown_or (moment_of now) absent) (sym found)))
shows line now absent o (Err lacks) d is found tells = tt

-- there is nothing to show
pub shows_none : {M : Type 0} (line : NetLine) (now : Network) (absent : LineError)
    (o : Option Data) (result : Result Told M) (e missing : NetError)
    → acted (moment_of now) line false ≡ shown_or (moment_of now) absent o
    → line_error missing ≡ Some absent
    → (e ≡ net_error.Memory) ⊎ ((e ≡ missing) × (o ≡ None)) → IfOk result (Tells (line_error e))
    → Shows line now result
shows_none line now absent o (Ok told) e missing is alike (inl memory) tells =
    absurd (subst (λ e. Tells (line_error e) told) memory tells)
shows_none line now absent o (Ok told) e missing is alike (inr none) tells =
    subst (λ e. Tells e told) alike (subst (λ e. Tells (line_error e) told) none.0 tells)
    ∙ ap telling_of (sym (is ∙ ap (shown_or (moment_of now) absent) none.1))
shows_none line now absent o (Err lacks) e missing is alike why tells = tt

-- no other text names a device
pub named : (inputs : Inputs) (name : List ℕ) → is_name name ≡ true
    → named_device inputs name ≡ device_status inputs name
named inputs name is = ap (λ b. cond b (device_status inputs name) None) is

pub unnamed : (inputs : Inputs) (name : List ℕ) → is_name name ≡ false
    → named_device inputs name ≡ None
unnamed inputs name is = ap (λ b. cond b (device_status inputs name) None) is
