-- Commands of `uci` as lines.
use Rattle.std.proofs.Common.{ℕ, ◌≡◌, List, [], Option, Some, None, false, inl, inr, refl, ap, sym, ◌∙◌}
use Rattle.std.specs.Prelude.{Result, Ok, Err}
use Rattle.plane_disk.specs.View.{View}
use Rattle.uci_store.specs.declared.store.Store.{Store}
use Rattle.uci_store.specs.Store.{has_failed}
use Rattle.uci_tool.specs.declared.report.Report.{Report}
use Rattle.uci_tool.specs.declared.stop.Stop.{Stop as UciStop}
use Rattle.uci_tool.specs.declared.stop.Stop.TheVariants as uci
use Rattle.uci_tool.specs.Folder.{Folder, folder_of}
use Rattle.uci_tool.specs.Line.{Carried}
use Rattle.uci_tool.specs.Passes.{uci_passes}
use Rattle.uci_tool.specs.Alone.{words_carried, ReportsWords}
use Rattle.uci_tool.specs.Answers.{Writes, Carries}
use Rattle.net_plane.specs.Network.{Network}
use Rattle.script_lines.specs.declared.script_line.ScriptLine.TheVariants as line
use Rattle.step_net.specs.declared.told.Told.{Told}
use Rattle.step_net.specs.Taken.{telling_in, Telled, Asks, IsTaken}
use Rattle.plane_step.specs.declared.stop.Stop.{Stop}
use Rattle.plane_step.specs.declared.stop.Stop.TheVariants as stop
use Rattle.plane_step.specs.FilesMoved.{folder_after}
use Rattle.plane_step.specs.Means.{uci_requests}
use Rattle.plane_step.specs.Faults.{DiskFaults}
use Rattle.plane_step.specs.StoreKept.{StaysOn}
use Rattle.plane_step.specs.LineDone.{Front, Does, IsNetUndone, telling_of_uci, TellsReport, CarriesUci}

-- what is told of a report is told of the words
pub report_carries : (number : ℕ) (words : List (List ℕ)) (before after : Folder)
    (disks : DiskFaults) (report : Option Report) (result : Result Told Stop)
    → ReportsWords words before after report → TellsReport number report result
    → CarriesUci number words before after disks result
report_carries number words before after disks None (Ok told) reports tells = record {
  telling = tells ∙ sym (ap (telling_of_uci number) reports.0);
  files = reports.1 ∙ sym (ap (folder_after before) reports.0);
}
report_carries number words before after disks (Some report) (Ok told) reports tells = record {
  telling = tells ∙ sym (ap (telling_of_uci number) reports);
  files = sym (ap (folder_after before) reports);
}
report_carries number words before after disks None (Err stop.Memory) reports tells =
    inl (reports.1 ∙ sym (ap (folder_after before) reports.0))
report_carries number words before after disks (Some report) (Err stop.Memory) reports tells =
    inl (sym (ap (folder_after before) reports))
report_carries number words before after disks report (Err stop.WriteFailed) reports tells =
    absurd (cc tells)
report_carries number words before after disks report (Err stop.DiskFailed) reports tells =
    absurd (cc tells)

-- a command that is cut short, not by a disk
pub cut_carries : (number : ℕ) (words : List (List ℕ)) (before after : Folder) (disks : DiskFaults)
    (why : UciStop) → (why ≡ uci.DiskFailed → ⊥)
    → Carries {A = Option Report} (Err why) (ReportsWords words before after) after (uci_passes words before [])
    → CarriesUci number words before after disks (Err stop.Memory)
cut_carries number words before after disks uci.Memory other carries = inr carries
cut_carries number words before after disks (uci.Refused refusal) other carries = absurd carries
cut_carries number words before after disks uci.DiskFailed other carries = absurd (other refl)

-- the store behind a command
pub writes_stay : {X Y : Type 0} (value : X) (result : Result Y Stop) (old new : Store)
    (a b c d : View) → Writes {X = X} (Ok value) old new a b c d → StaysOn result old new a b c d
writes_stay value result old new a b c d writes = record {
  files = writes.files;
  staged = writes.staged;
  names = writes.names;
  same = writes.same;
  follows = writes.follows;
  ready = λ h. writes.closes;
}

cut_ready : {X : Type 0} (why : UciStop) (old new : Store) (a b c d : View)
    → (why ≡ uci.DiskFailed → ⊥) → Writes {X = X} (Err why) old new a b c d → has_failed new ≡ false
cut_ready uci.Memory old new a b c d other writes = writes.closes
cut_ready (uci.Refused refusal) old new a b c d other writes = writes.closes
cut_ready uci.DiskFailed old new a b c d other writes = absurd (other refl)

pub cut_stays : {X Y : Type 0} (why : UciStop) (result : Result Y Stop) (old new : Store)
    (a b c d : View) → (why ≡ uci.DiskFailed → ⊥) → Writes {X = X} (Err why) old new a b c d
    → StaysOn result old new a b c d
cut_stays {X} why result old new a b c d other writes = record {
  files = writes.files;
  staged = writes.staged;
  names = writes.names;
  same = writes.same;
  follows = writes.follows;
  ready = λ h. cut_ready {X = X} why old new a b c d other writes;
}

pub failed_stays : {X Y : Type 0} (old new : Store) (a b c d : View)
    → Writes {X = X} (Err uci.DiskFailed) old new a b c d
    → StaysOn {X = Y} (Err stop.DiskFailed) old new a b c d
failed_stays old new a b c d writes = record {
  files = writes.files;
  staged = writes.staged;
  names = writes.names;
  same = writes.same;
  follows = writes.follows;
  ready = λ h. absurd (h refl);
}

-- what is told of a command is what it asks
uci_taken : (number : ℕ) (o : Option Carried) (net : Network) (kernel : Telled) (told : Told)
    → telling_in told ≡ telling_of_uci number o → net.notices ≡ [] → Asks [] false kernel
    → IsTaken (uci_requests number o) net net kernel told
uci_taken number None net kernel told tells silent nothing = record {
  failed = false;
  is = record { net = refl; telling = tells; silent = silent };
  requests = nothing;
}
uci_taken number (Some done) net kernel told tells silent nothing = record {
  failed = false;
  is = record { net = refl; telling = tells; silent = silent };
  requests = nothing;
}

pub uci_does : (front : Front) (number : ℕ) (words : List (List ℕ)) (store : Store)
    (kernel : Telled) (disks : DiskFaults) (result : Result Told Stop) → front.net.notices ≡ []
    → Asks [] false kernel
    → CarriesUci number words (folder_of front.store) (folder_of store) disks result
    → Does (record { front = front; number = number; line = Some (line.Uci words) })
    (record { now = front.now; store = store; net = front.net; kernel = kernel }) disks result
uci_does front number words store kernel disks (Ok told) silent nothing carries = record {
  act = uci_requests number (words_carried words (folder_of front.store));
  means = refl;
  moment = refl;
  files = carries.files;
  taken = uci_taken number (words_carried words (folder_of front.store)) front.net kernel told
      carries.telling silent nothing;
}
uci_does front number words store kernel disks (Err stop.WriteFailed) silent nothing carries =
    absurd carries
uci_does front number words store kernel disks (Err stop.DiskFailed) silent nothing carries =
    record { cause = carries; net = refl; requests = nothing }
uci_does front number words store kernel disks (Err stop.Memory) silent nothing carries =
    record { net = IsNetUndone.unasked refl nothing; files = carries }
