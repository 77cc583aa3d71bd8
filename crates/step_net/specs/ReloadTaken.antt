-- What the code made of a line at which the kernel is asked nothing.
use Rattle.std.specs.Prelude.{◌≡◌, ◌⊎◌, [], false, ⊤, IsSomeAnd, Result, Ok, Err}
use Rattle.uci_tree.specs.declared.tree_error.TreeError.{TreeError}
use Rattle.uci_tree.specs.Fault.{fault_of}
use Rattle.net_plane.specs.Network.{Network, moment_of}
use Rattle.script_lines.specs.declared.line_error.LineError.TheVariants as error
use Rattle.step_net.specs.declared.taken.Taken.{Taken}
use Rattle.step_net.specs.declared.told.Told.{Told}
use Rattle.step_net.specs.NetLine.{NetLine}
use Rattle.step_net.specs.Acted.{Acted, acted}
use Rattle.step_net.specs.Taken.{IsActed, IsNoted, IsHalted, refused_as}

-- it was acted on, and the kernel was asked nothing
pub record IsTakenAloneAs {T : Type 0} (Is : Acted → Network → T → Type 0) (act : NetLine)
    (before now : Network) (kept : T) : Type 0 where
  pub is : Is (acted (moment_of before) act false) now kept
  pub none : (acted (moment_of before) act false).asked ≡ []

abbrev pub IsTakenAlone : NetLine → Network → Network → Told → Type 0
IsTakenAlone act before now told = IsTakenAloneAs IsActed act before now told

pub record IsHaltedAlone (act : NetLine) (before now : Network) : Type 0 where
  pub is : IsHalted (acted (moment_of before) act false) before now
  pub none : (acted (moment_of before) act false).asked ≡ []

-- a line that asks one of these, at which the kernel is asked nothing
abbrev pub TakesOneAs : {T M : Type 0} → (Acted → Network → T → Type 0) → (NetLine → Type 0)
    → Network → Network → Result T M → Type 0
TakesOneAs Is Asks before now (Ok kept) =
    (act : NetLine) × Asks act × IsTakenAloneAs Is act before now kept
TakesOneAs Is Asks before now (Err lacks) =
    (now ≡ before) ⊎ ((act : NetLine) × Asks act × IsHaltedAlone act before now)

abbrev pub TakesOne : {M : Type 0} → (NetLine → Type 0) → Network → Network → Result Told M → Type 0
TakesOne {M} Asks before now result = TakesOneAs {M = M} IsActed Asks before now result

abbrev pub TakesOneEvent : {M : Type 0} → (NetLine → Type 0) → Network → Network → Result Taken M
    → Type 0
TakesOneEvent {M} Asks before now result = TakesOneAs {M = M} IsNoted Asks before now result

-- a file that is no package is not loaded
abbrev pub RefusesUnread : {M : Type 0} → TreeError → Result Taken M → Type 0
RefusesUnread why (Ok taken) =
    IsSomeAnd (fault_of why) (λ fault. taken ≡ refused_as error.Parse)
RefusesUnread why (Err lacks) = ⊤
