-- Lines of the plane of interfaces, and of the moment, as lines of a script.
use Rattle.std.proofs.Common.{ℕ, ◌≡◌, List, [], Option, Some, false, inl, inr, refl, ap, sym, subst}
use Rattle.std.specs.Prelude.{Result, Ok, Err}
use Rattle.net_plane.specs.Network.{Network}
use Rattle.script_lines.specs.declared.script_line.ScriptLine.{ScriptLine}
use Rattle.script_lines.specs.declared.script_line.ScriptLine.TheVariants as line
use Rattle.uci_store.specs.declared.store.Store.{Store}
use Rattle.uci_tool.specs.Folder.{Folder, folder_of}
use Rattle.step_net.specs.declared.told.Told.{Told}
use Rattle.step_net.specs.Taken.{IsActed, Telled, Asks}
use Rattle.plane_step.specs.declared.stop.Stop.{Stop}
use Rattle.plane_step.specs.declared.stop.Stop.TheVariants as stop
use Rattle.plane_step.specs.FilesMoved.{FilesMoved, stays, files_moved}
use Rattle.plane_step.specs.Faults.{DiskFaults}
use Rattle.plane_step.specs.LineDone.{Front, Read, Behind, Does, NetDoes, IsNetUndone, IsOfNet, or_memory, GoesTo}
use Rattle.step_net.proofs.TakenLemmas.{tries_alone}

-- any other line leaves the moment and the files
pub other_stays : (now : ℕ) (folder : Folder) (read : ScriptLine) → IsOfNet read
    → files_moved now folder (Some read) ≡ stays now folder
other_stays now folder (line.At moment) h = absurd h
other_stays now folder (line.Uci words) h = absurd h
other_stays now folder (line.Device what) h = refl
other_stays now folder (line.Answer interface request json) h = refl
other_stays now folder (line.Radio radio request json) h = refl
other_stays now folder (line.Operator interface up) h = refl
other_stays now folder line.Reload h = refl
other_stays now folder (line.Call session object method json) h = refl
other_stays now folder (line.OpenClient client user group) h = refl
other_stays now folder (line.ClientBytes client bytes) h = refl
other_stays now folder (line.CloseClient client) h = refl
other_stays now folder line.Dump h = refl
other_stays now folder (line.InterfaceStatus name) h = refl
other_stays now folder (line.DeviceStatus name) h = refl
other_stays now folder (line.RadioStatus name) h = refl

pub is_of_net : (read : ScriptLine) → ((moment : ℕ) → read ≡ line.At moment → ⊥)
    → ((words : List (List ℕ)) → read ≡ line.Uci words → ⊥) → IsOfNet read
is_of_net (line.At moment) no_at no_uci = no_at moment refl
is_of_net (line.Uci words) no_at no_uci = no_uci words refl
is_of_net (line.Device what) no_at no_uci = tt
is_of_net (line.Answer interface request json) no_at no_uci = tt
is_of_net (line.Radio radio request json) no_at no_uci = tt
is_of_net (line.Operator interface up) no_at no_uci = tt
is_of_net line.Reload no_at no_uci = tt
is_of_net (line.Call session object method json) no_at no_uci = tt
is_of_net (line.OpenClient client user group) no_at no_uci = tt
is_of_net (line.ClientBytes client bytes) no_at no_uci = tt
is_of_net (line.CloseClient client) no_at no_uci = tt
is_of_net line.Dump no_at no_uci = tt
is_of_net (line.InterfaceStatus name) no_at no_uci = tt
is_of_net (line.DeviceStatus name) no_at no_uci = tt
is_of_net (line.RadioStatus name) no_at no_uci = tt

-- a line of the plane of interfaces, in which the store stays
pub net_lifts : {M : Type 0} (read : Read) (net : Network) (kernel : Telled) (disks : DiskFaults)
    (result : Result Told M) (all : Result Told Stop) → all ≡ or_memory result
    → files_moved read.front.now (folder_of read.front.store) read.line
    ≡ stays read.front.now (folder_of read.front.store)
    → NetDoes read net kernel result
    → Does read (record { now = read.front.now; store = read.front.store; net = net; kernel = kernel })
    disks all
net_lifts {M} read net kernel disks (Ok told) all is still does =
    subst (λ (r : Result Told Stop). Does read (record { now = read.front.now; store = read.front.store; net = net; kernel = kernel }) disks r)
    (sym is) (record {
      act = does.act;
      means = does.means;
      moment = sym (ap (λ (m : FilesMoved). m.now) still);
      files = sym (ap (λ (m : FilesMoved). m.after) still);
      taken = does.taken;
    })
net_lifts {M} read net kernel disks (Err lacks) all is still does =
    subst (λ (r : Result Told Stop). Does read (record { now = read.front.now; store = read.front.store; net = net; kernel = kernel }) disks r)
    (sym is) (record { net = does; files = inl (sym (ap (λ (m : FilesMoved). m.after) still)) })

-- a line that was read as this
pub read_lifts : (front : Front) (number : ℕ) (read other : Option ScriptLine) (behind : Behind)
    (disks : DiskFaults) (result : Result Told Stop) → read ≡ other
    → Does (record { front = front; number = number; line = other }) behind disks result
    → Does (record { front = front; number = number; line = read }) behind disks result
read_lifts front number read other behind disks result same done =
    subst (λ r. Does (record { front = front; number = number; line = r }) behind disks result)
    (sym same) done

-- a moment that comes
pub at_lifts : (front : Front) (number next now : ℕ) (store : Store) (net : Network)
    (kernel : Telled) (disks : DiskFaults) (result : Result Told Stop) → Asks [] false kernel
    → GoesTo next front now store net disks.files disks.files_now result
    → Does (record { front = front; number = number; line = Some (line.At next) })
    (record { now = now; store = store; net = net; kernel = kernel }) disks result
at_lifts front number next now store net kernel disks (Ok told) nothing goes = record {
  act = goes.act;
  means = goes.requests;
  moment = goes.moment;
  files = goes.files;
  taken = tries_alone {M = Stop} IsActed goes.act front.net net kernel (Ok told) goes.taken.none nothing goes.taken.is;
}
at_lifts front number next now store net kernel disks (Err stop.WriteFailed) nothing goes = absurd goes
at_lifts front number next now store net kernel disks (Err stop.DiskFailed) nothing goes =
    record { cause = inl goes.0; net = goes.1; requests = nothing }
at_lifts front number next now store net kernel disks (Err stop.Memory) nothing goes = record {
  net = elim goes.net as (λ _. IsNetUndone (record { front = front; number = number; line = Some (line.At next) }) net kernel) [
    | inl same ↦ IsNetUndone.unasked same nothing
    | inr h ↦ IsNetUndone.asked h.0 h.1
        (tries_alone {M = Stop} IsActed h.0 front.net net kernel (Err stop.Memory) h.2.none nothing h.2.is)
  ];
  files = goes.files;
}
