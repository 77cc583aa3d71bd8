-- How a run ends: its exit status, and its text on the error output. The texts are those of the program (`texts.rt`).
use Rattle.std.specs.Prelude.{ℕ, ◌≡◌, ◌⊎◌, List, [], ◌++◌, decimal, ⊤, IsSomeAnd, Result, Ok, Err}
use Rattle.plane_words.specs.Causes.{DidNotRise}
use Rattle.plane_words.specs.Growth.{Grows, GrowsByFront}
use Rattle.uci_tree.specs.declared.fault.Fault.{Fault}
use Rattle.uci_tree.specs.declared.tree_error.TreeError.{TreeError}
use Rattle.uci_tree.specs.Fault.{reason_text, fault_of}
use Rattle.net_start.specs.declared.start_error.StartError.{StartError}
use Rattle.net_start.specs.declared.start_error.StartError.TheVariants as error
use Rattle.plane_run.specs.declared.run_end.RowPackage.{RowPackage}
use Rattle.plane_run.specs.declared.run_end.RowPackage.TheVariants.{Network, Wireless}
use Rattle.plane_run.specs.declared.run_end.RunEnd.{RunEnd}
use Rattle.plane_run.specs.declared.run_end.RunEnd.TheVariants as run_end
use Rattle.plane_run.specs.RunEnd.{status_of as run_status}
use Rattle.plane_main.specs.declared.ending.Ending.{Ending}
use Rattle.plane_main.specs.declared.ending.Ending.TheVariants as ending
use Rattle.plane_main.specs.declared.texts.TheConstants as texts
use Rattle.plane_main.specs.Outside.{ErrorOutput}

-- the exit status
abbrev pub status_of : Ending → ℕ
status_of ending.Done = 0
status_of ending.Usage = 2
status_of ending.ReadFailed = 3
status_of ending.WriteFailed = 4
status_of (ending.KernelFailed left) = 6
status_of ending.OutOfMemory = 8
status_of (ending.Unreadable fault) = 9
status_of (ending.TooLong limit) = 10
status_of (ending.OfUci status) = status
status_of (ending.OfRun end) = run_status end

-- the text that tells a fault, behind this front
abbrev pub fault_text : List ℕ → Fault → List ℕ
fault_text front fault = front ++ decimal fault.line ++ texts.COLON.now ++ reason_text fault.reason ++ texts.NEWLINE.now

-- the front of the text that tells why a package does not read
abbrev pub line_of : RowPackage → List ℕ
line_of Network = texts.NETWORK_LINE.now
line_of Wireless = texts.WIRELESS_LINE.now

-- the text of a run of a script, nothing where it was carried out to its end and nothing is due
abbrev pub text_of_run : RunEnd → List ℕ
text_of_run run_end.Done = []
text_of_run run_end.Refused = []
text_of_run run_end.ReadFailed = texts.READ_FAILED.now
text_of_run run_end.WriteFailed = texts.WRITE_FAILED.now
text_of_run run_end.DiskFailed = texts.DISK_FAILED.now
text_of_run (run_end.KernelFailed left) = texts.KERNEL.now ++ decimal left ++ texts.DUE.now
text_of_run run_end.OutOfMemory = texts.OUT_OF_MEMORY.now
text_of_run (run_end.Unreadable row_package fault) = fault_text (line_of row_package) fault
text_of_run (run_end.TooLong limit) = texts.LIMIT.now ++ decimal limit ++ texts.NEWLINE.now
text_of_run (run_end.BadSnapshot byte) = texts.SNAPSHOT.now ++ decimal byte ++ texts.NEWLINE.now

-- the text, nothing for a good end, and nothing more for `uci`, which has told its own
abbrev pub text_of : Ending → List ℕ
text_of ending.Done = []
text_of ending.Usage = texts.USAGE.now
text_of ending.ReadFailed = texts.READ_FAILED.now
text_of ending.WriteFailed = texts.WRITE_FAILED.now
text_of (ending.KernelFailed left) = texts.KERNEL.now ++ decimal left ++ texts.DUE.now
text_of ending.OutOfMemory = texts.OUT_OF_MEMORY.now
text_of (ending.Unreadable fault) = fault_text texts.NETWORK_LINE.now fault
text_of (ending.TooLong limit) = texts.LIMIT.now ++ decimal limit ++ texts.NEWLINE.now
text_of (ending.OfUci status) = []
text_of (ending.OfRun end) = text_of_run end

-- the text is on the error output, all of it where no fault was counted there, and else a front of it
pub record IsTold (text : List ℕ) (errors : ErrorOutput) : Type 0 where
  pub front : GrowsByFront errors.held errors.held_now text
  pub whole : DidNotRise errors.faults errors.faults_now → Grows errors.held errors.held_now text

-- it is that of `uci`
abbrev pub IsOfUci : Ending → Type 0
IsOfUci (ending.OfUci status) = ⊤
IsOfUci _ = ⊥

-- it is that of a run of a script
abbrev pub IsOfRun : Ending → Type 0
IsOfRun (ending.OfRun end) = ⊤
IsOfRun _ = ⊥

-- how a run ends in which bringing up ended so
abbrev pub ending_of : {X : Type 0} → Result X StartError → Ending
ending_of (Ok _) = ending.Done
ending_of (Err (error.KernelFailed due)) = ending.KernelFailed due
ending_of (Err error.WriteFailed) = ending.WriteFailed
ending_of (Err error.Memory) = ending.OutOfMemory

-- a device failed
abbrev pub IsFailure : Ending → Type 0
IsFailure ending.ReadFailed = ⊤
IsFailure ending.WriteFailed = ⊤
IsFailure (ending.KernelFailed left) = ⊤
IsFailure _ = ⊥

-- objects are due
abbrev pub IsKernelFailed : Ending → Type 0
IsKernelFailed (ending.KernelFailed left) = ⊤
IsKernelFailed _ = ⊥

-- the run was cut short, at its input, at its output or for want of memory
abbrev pub IsCutShort : Ending → Type 0
IsCutShort ending.ReadFailed = ⊤
IsCutShort ending.WriteFailed = ⊤
IsCutShort ending.OutOfMemory = ⊤
IsCutShort _ = ⊥

-- nothing was done outside but reading
abbrev pub IsEarly : Ending → Type 0
IsEarly ending.Usage = ⊤
IsEarly ending.ReadFailed = ⊤
IsEarly (ending.TooLong limit) = ⊤
IsEarly (ending.Unreadable fault) = ⊤
IsEarly _ = ⊥

-- the fault of this error is told
abbrev pub Tells : TreeError → Ending → Type 0
Tells error end = IsSomeAnd (fault_of error) (λ fault. end ≡ ending.Unreadable fault)

-- that, or want of memory
abbrev pub OrLacksMemory : Type 0 → Ending → Type 0
OrLacksMemory fact end = fact ⊎ (end ≡ ending.OutOfMemory)
