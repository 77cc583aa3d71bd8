-- When a run of a script ends so.
use Rattle.std.proofs.Common.{arith, ℕ, ◌≡◌, ◌≤◌, inl, inr, drop, Some, refl, ap}
use Rattle.plane_words.specs.Causes.{Rose, DidNotRise}
use Rattle.plane_disk.specs.Files.{Files}
use Rattle.snap_disk.specs.Opened.{IsWithin, PassesLimit}
use Rattle.snap_disk.specs.Opening.{HasNoReading}
use Rattle.uci_tool.specs.Folder.{Folder}
use Rattle.net_settle.specs.Outside.{Outside}
use Rattle.bus_lines.specs.World.{World}
use Rattle.plane_step.specs.Kept.{DiskRose}
use Rattle.plane_run.specs.declared.run_end.RunEnd.{RunEnd}
use Rattle.plane_run.specs.declared.run_end.RunEnd.TheVariants as end
use Rattle.plane_run.specs.Opening.{world_of}
use Rattle.plane_run.specs.Run as run
use Rattle.plane_run.specs.Run.{Seen, WasCut, Finds, PassesSome, NotOpened, GoesOn, RunEnds, disks_of, stage_of}
use Rattle.plane_run.specs.Comes.{IsCalm, IsFailure, IsLong, OrLacksMemory, RunComes}

within_passes : (packages : Files) (number : ℕ) → IsWithin packages → PassesLimit packages number → ⊥
within_passes packages number within (inl many) = let few = within.few in let more = many.passed in omega arith
within_passes packages number within (inr large) = let small = within.small large.index in let more = large.passed in omega arith

still_rose : (a b c : ℕ) → a ≤ b → Rose b c → DidNotRise a c → ⊥
still_rose a b c first rose calm = omega (arith, first, rose, calm)

calm_rose : (a b : ℕ) → Rose a b → DidNotRise a b → ⊥
calm_rose a b rose calm = omega (arith, rose, calm)

calm_disks : (seen : Seen) → IsCalm seen → DiskRose (disks_of seen) → ⊥
calm_disks seen calm (inl rose) = calm_rose seen.first.files.faults seen.files_now.faults rose calm.at_files
calm_disks seen calm (inr rose) = calm_rose seen.first.staged.faults seen.staged_now.faults rose calm.at_staged

-- the output that failed behind the opening was not calm
cut_calm : (seen : Seen) (start : World) (between : Outside)
    → seen.first.before.out_faults ≤ between.out_faults → WasCut start (stage_of seen start between)
    → IsCalm seen → ⊥
cut_calm seen start between first (run.in_answer line read left objects rose held) calm =
    still_rose seen.first.before.out_faults between.out_faults seen.after.out_faults first rose calm.at_output
cut_calm seen start between first (WasCut.in_line now stops held) calm =
    let later = stops.stops.ran.left.later in
    still_rose seen.first.before.out_faults stops.stops.between.out_faults seen.after.out_faults
    (omega (arith, first, later)) stops.stops.stops.cause calm.at_output

goes_calm : (seen : Seen) (start : World) (between : Outside) (ending : RunEnd)
    → seen.first.before.out_faults ≤ between.out_faults
    → GoesOn start (stage_of seen start between) ending
    → (run.IsKernelFailed ending → Rose seen.first.before.kernel_faults seen.after.kernel_faults)
    → IsCalm seen → IsFailure ending → ⊥
goes_calm seen start between end.ReadFailed first goes due calm failure =
    calm_rose seen.input.faults seen.input.faults_now goes.0 calm.at_input
goes_calm seen start between end.WriteFailed first goes due calm failure =
    cut_calm seen start between first goes calm
goes_calm seen start between end.DiskFailed first goes due calm failure =
    calm_disks seen calm goes.stops.stops.cause
goes_calm seen start between (end.KernelFailed left) first goes due calm failure =
    calm_rose seen.first.before.kernel_faults seen.after.kernel_faults (due tt) calm.at_kernel
goes_calm seen start between end.Done first goes due calm failure = failure
goes_calm seen start between end.Refused first goes due calm failure = failure
goes_calm seen start between end.OutOfMemory first goes due calm failure = failure
goes_calm seen start between (end.Unreadable row_package fault) first goes due calm failure = failure
goes_calm seen start between (end.TooLong limit) first goes due calm failure = failure
goes_calm seen start between (end.BadSnapshot byte) first goes due calm failure = failure

not_opened_calm : (seen : Seen) (ending : RunEnd) → NotOpened seen ending → IsCalm seen
    → IsFailure ending → ⊥
not_opened_calm seen end.DiskFailed why calm failure = calm_disks seen calm why
not_opened_calm seen end.ReadFailed why calm failure = why
not_opened_calm seen end.WriteFailed why calm failure = why
not_opened_calm seen (end.KernelFailed left) why calm failure = why
not_opened_calm seen end.Done why calm failure = failure
not_opened_calm seen end.Refused why calm failure = failure
not_opened_calm seen end.OutOfMemory why calm failure = failure
not_opened_calm seen (end.Unreadable row_package fault) why calm failure = failure
not_opened_calm seen (end.TooLong limit) why calm failure = failure
not_opened_calm seen (end.BadSnapshot byte) why calm failure = failure

run_calm : (seen : Seen) (ending : RunEnd) → RunEnds seen ending → IsCalm seen → IsFailure ending → ⊥
run_calm seen ending (run.not_opened why same as_found) calm failure = not_opened_calm seen ending why calm failure
run_calm seen ending (run.cut_in_opening is folder found network wireless rows cut held) calm failure =
    calm_rose seen.first.before.out_faults seen.after.out_faults cut.cause calm.at_output
run_calm seen ending (run.opened between opening goes due) calm failure =
    goes_calm seen (world_of seen.first between opening) between ending opening.left.later goes due calm failure

-- ---- files that pass a limit

found_within : (seen : Seen) (folder : Folder) (read : Files) (number : ℕ) → Finds seen folder
    → seen.first.files.seen ≡ Some read → PassesLimit (drop 2 read) number → ⊥
found_within seen folder read number found tells passes =
    within_passes (drop 2 read) number (found.opens read tells).within passes

large_shut : (seen : Seen) (ending : RunEnd) (read : Files) (number : ℕ) → NotOpened seen ending
    → IsCalm seen → seen.first.files.seen ≡ Some read → PassesLimit (drop 2 read) number
    → OrLacksMemory (IsLong ending) ending
large_shut seen end.DiskFailed read number why calm tells passes = absurd (calm_disks seen calm why)
large_shut seen end.OutOfMemory read number why calm tells passes = inr refl
large_shut seen (end.Unreadable row_package fault) read number why calm tells passes =
    absurd (found_within seen why.0 read number why.1 tells passes)
large_shut seen (end.TooLong limit) read number why calm tells passes = inl tt
large_shut seen (end.BadSnapshot byte) read number why calm tells passes =
    absurd (within_passes (drop 2 read) number (why read tells).within passes)
large_shut seen end.Done read number why calm tells passes = absurd why
large_shut seen end.Refused read number why calm tells passes = absurd why
large_shut seen end.ReadFailed read number why calm tells passes = absurd why
large_shut seen end.WriteFailed read number why calm tells passes = absurd why
large_shut seen (end.KernelFailed left) read number why calm tells passes = absurd why

run_large : (seen : Seen) (ending : RunEnd) → RunEnds seen ending → (read : Files) (number : ℕ)
    → IsCalm seen → seen.first.files.seen ≡ Some read → PassesLimit (drop 2 read) number
    → OrLacksMemory (IsLong ending) ending
run_large seen ending (run.not_opened why same as_found) read number calm tells passes =
    large_shut seen ending read number why calm tells passes
run_large seen ending (run.cut_in_opening is folder found network wireless rows cut held) read number calm tells passes =
    absurd (found_within seen folder read number found tells passes)
run_large seen ending (run.opened between opening goes due) read number calm tells passes =
    absurd (found_within seen opening.folder read number opening.found tells passes)

-- ---- files without a reading

found_reads : (seen : Seen) (folder : Folder) (read : Files) (byte : ℕ) → Finds seen folder
    → seen.first.files.seen ≡ Some read
    → HasNoReading seen.first.files.names read seen.first.now byte → ⊥
found_reads seen folder read byte found tells none =
    let gives = (found.opens read tells).gives in
    let wrong = none.wrong in
    absurd (cc (gives, wrong))

limit_reads : (seen : Seen) (limit : ℕ) (read : Files) (byte : ℕ) → PassesSome seen limit
    → seen.first.files.seen ≡ Some read
    → HasNoReading seen.first.files.names read seen.first.now byte → ⊥
limit_reads seen limit read byte (run.of_folder passes) tells none =
    within_passes (drop 2 read) limit none.within (passes read tells)
limit_reads seen limit read byte (run.of_rows folder found network wireless one two passed held) tells none =
    found_reads seen folder read byte found tells none

wrong_shut : (seen : Seen) (ending : RunEnd) (read : Files) (byte : ℕ) → NotOpened seen ending
    → IsCalm seen → seen.first.files.seen ≡ Some read
    → HasNoReading seen.first.files.names read seen.first.now byte
    → OrLacksMemory (ending ≡ end.BadSnapshot byte) ending
wrong_shut seen end.DiskFailed read byte why calm tells none = absurd (calm_disks seen calm why)
wrong_shut seen end.OutOfMemory read byte why calm tells none = inr refl
wrong_shut seen (end.Unreadable row_package fault) read byte why calm tells none =
    absurd (found_reads seen why.0 read byte why.1 tells none)
wrong_shut seen (end.TooLong limit) read byte why calm tells none =
    absurd (limit_reads seen limit read byte why tells none)
wrong_shut seen (end.BadSnapshot other) read byte why calm tells none =
    let one = (why read tells).wrong in
    let two = none.wrong in
    let same : other ≡ byte = cc (one, two) in
    inl (ap (λ (b : ℕ). end.BadSnapshot b) same)
wrong_shut seen end.Done read byte why calm tells none = absurd why
wrong_shut seen end.Refused read byte why calm tells none = absurd why
wrong_shut seen end.ReadFailed read byte why calm tells none = absurd why
wrong_shut seen end.WriteFailed read byte why calm tells none = absurd why
wrong_shut seen (end.KernelFailed left) read byte why calm tells none = absurd why

run_wrong : (seen : Seen) (ending : RunEnd) → RunEnds seen ending → (read : Files) (byte : ℕ)
    → IsCalm seen → seen.first.files.seen ≡ Some read
    → HasNoReading seen.first.files.names read seen.first.now byte
    → OrLacksMemory (ending ≡ end.BadSnapshot byte) ending
run_wrong seen ending (run.not_opened why same as_found) read byte calm tells none =
    wrong_shut seen ending read byte why calm tells none
run_wrong seen ending (run.cut_in_opening is folder found network wireless rows cut held) read byte calm tells none =
    absurd (found_reads seen folder read byte found tells none)
run_wrong seen ending (run.opened between opening goes due) read byte calm tells none =
    absurd (found_reads seen opening.folder read byte opening.found tells none)

pub run_comes : (seen : Seen) (ending : RunEnd) → RunEnds seen ending → RunComes seen ending
run_comes seen ending ends = record {
  calm = run_calm seen ending ends;
  too_large = run_large seen ending ends;
  bad_snapshot = run_wrong seen ending ends;
}
