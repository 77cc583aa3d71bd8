-- How runs end.
use Rattle.std.proofs.Common.{ℕ, ◌≡◌, ◌≢◌, ◌≤◌, ◌⊎◌, inl, inr, Bool, true, false, cond, List, [], length, Option, Some, None, Result, Ok, Err, refl, ap, sym, subst, ◌∙◌, arith}
use Rattle.std.specs.Prelude.{OnOk, OnErr, nat_lt, ◌&&◌}
use Rattle.std.proofs.lemmas.Bool.Decides.{nat_tests}
use Rattle.std.proofs.lemmas.List.{append-nil}
use Rattle.plane_words.specs.Causes.{Rose, DidNotRise, HasCause}
use Rattle.plane_words.specs.Growth.{Grows, GrowsByFront}
use Rattle.plane_disk.specs.View.{View}
use Rattle.plane_io.specs.declared.input.TheConstants.{INPUT_LIMIT}
use Rattle.uci_cli.specs.declared.command.Command.{Command}
use Rattle.uci_cli.specs.declared.words.Asked.{Asked}
use Rattle.uci_cli.specs.Command.{reads_input}
use Rattle.uci_cli.specs.Words.{asked_of}
use Rattle.uci_cli.specs.declared.refusal.TheConstants as texts
use Rattle.uci_tool.specs.declared.report.Report.{Report}
use Rattle.uci_tool.specs.declared.tool.Cut.{Cut}
use Rattle.uci_tool.specs.declared.tool.Cut.TheVariants as cut
use Rattle.uci_tool.specs.declared.tool.UciEnd.{UciEnd}
use Rattle.uci_tool.specs.Cut.{cut_status, cut_text}
use Rattle.uci_tool.specs.Folder.{Folder}
use Rattle.uci_tool.specs.Line.{Carried}
use Rattle.uci_tool.specs.Done.{UciDone, carried, ended, not_carried, asked_uci, uci_done, told_by}
use Rattle.uci_tool.specs.Passes.{asked_folders, passes, uci_passes}
use Rattle.uci_tool.specs.Answers.{IsAmong, carried_as}
use Rattle.uci_tool.specs.Ends.{Stream, Streams, asks_input, reads, IsInputBy, IsInput, IsTold, Tells, IsPassed, end_of, Ends, carried_out, input_too_long, read_failed, write_failed, disk_failed, no_memory}
use Rattle.uci_tool.specs.Runs.{Runs, IsCarried, IsCommandPassed, EndsWith, written, not_written, told_unless}

-- ---- what a sink was given

pub grows_nothing : (old new : Option (List ℕ)) → new ≡ old → Grows old new []
grows_nothing None new is = is
grows_nothing (Some old) new is = is ∙ ap (λ (z : List ℕ). Some z) (sym (append-nil old))

pub front_all : (old new : Option (List ℕ)) (text : List ℕ) → Grows old new text → GrowsByFront old new text
front_all old new text grows = record { front = text; back = []; parts = sym (append-nil text); grows = grows }

pub told_nothing : (stream : Stream) → stream.new ≡ stream.old → IsTold [] stream
told_nothing stream is = let grows : Grows stream.old stream.new [] = grows_nothing stream.old stream.new is in record { front = front_all stream.old stream.new [] grows; whole = λ h. grows }

not_both : (before now : ℕ) → Rose before now → DidNotRise before now → ⊥
not_both before now rose not = absurd (omega arith)

pub told_text : {X E : Type 0} (result : Result X E) (text : List ℕ) (stream : Stream) → OnOk result (Grows stream.old stream.new text) → OnErr result (GrowsByFront stream.old stream.new text)
    → HasCause stream.faults stream.faults_now result → IsTold text stream
told_text (Ok value) text stream ok err cause = record { front = front_all stream.old stream.new text ok; whole = λ h. ok }
told_text (Err error) text stream ok err cause = record { front = err; whole = λ h. absurd (not_both stream.faults stream.faults_now cause.failed h) }

-- ---- the words and what they ask for

pub by_words : (words : List (List ℕ)) (asked : Asked) (command : Command) (stream : Stream) (input : List ℕ) → asked ≡ asked_of words → asked.command ≡ Some command → IsInputBy (reads_input command) stream input
    → IsInput words stream input
by_words words asked command stream input is some read =
    subst (λ (z : Asked). IsInputBy (asks_input z.command) stream input) is (subst (λ (z : Option Command). IsInputBy (asks_input z) stream input) (sym some) read)

pub reads_by : (words : List (List ℕ)) (asked : Asked) (command : Command) → asked ≡ asked_of words → asked.command ≡ Some command → reads words ≡ reads_input command
reads_by words asked command is some = ap (λ (z : Asked). asks_input z.command) (sym is) ∙ ap asks_input some

pub reads_none : (words : List (List ℕ)) (asked : Asked) → asked ≡ asked_of words → asked.command ≡ None → reads words ≡ false
reads_none words asked is none = ap (λ (z : Asked). asks_input z.command) (sym is) ∙ ap asks_input none

no_input : (b : Bool) (stream : Stream) → b ≡ false → IsInputBy b stream []
no_input false stream e = refl
no_input true stream e = absurd (let f : true ≡ false = e in cc)

not_under : (limit size : ℕ) → size ≤ limit → nat_lt limit size ≡ false
not_under limit size h = grind (arith, nat_tests)

not_long : (b : Bool) (stream : Stream) (input : List ℕ) → IsInputBy b stream input → (b && nat_lt INPUT_LIMIT (length input)) ≡ false
not_long true stream input read = not_under INPUT_LIMIT (length input) read.1
not_long false stream input read = refl

asked_is : (words : List (List ℕ)) (asked : Asked) (before : Folder) (input : List ℕ) → asked ≡ asked_of words → uci_done words before input ≡ asked_uci asked.options before asked.command input
asked_is words asked before input is = ap (λ (z : Asked). asked_uci z.options before z.command input) (sym is)

done_is : (words : List (List ℕ)) (asked : Asked) (command : Command) (before : Folder) (stream : Stream) (input : List ℕ) → asked ≡ asked_of words → asked.command ≡ Some command → IsInputBy (reads_input command) stream input
    → uci_done words before input ≡ ended asked.options (carried asked.options before command input)
done_is words asked command before stream input is some read =
    asked_is words asked before input is
    ∙ ap (λ (z : Option Command). asked_uci asked.options before z input) some
    ∙ ap (λ (z : Bool). cond z (not_carried asked.options before texts.TOO_LARGE.now 10) (ended asked.options (carried asked.options before command input))) (not_long (reads_input command) stream input read)

tells_by : (words : List (List ℕ)) (asked : Asked) (text : List ℕ) (stream : Stream) → asked ≡ asked_of words → IsTold (told_unless asked.options.quiet text) stream → Tells words text stream
tells_by words asked text stream is told = subst (λ (z : Asked). IsTold (told_by z.options text) stream) is told

-- ---- endings

pub usage_ends : (words : List (List ℕ)) (asked : Asked) (before : Folder) (streams : Streams) (a b c d : View) (end : UciEnd) → asked ≡ asked_of words → asked.command ≡ None
    → end ≡ end_of 2 0 → streams.out.new ≡ streams.out.old → IsTold (told_unless asked.options.quiet texts.USAGE.now) streams.err → Ends words before before streams a b c d end
usage_ends words asked before streams a b c d end is none ends silent told =
    let done : uci_done words before [] ≡ not_carried asked.options before texts.USAGE.now 2 = asked_is words asked before [] is ∙ ap (λ (z : Option Command). asked_uci asked.options before z []) none in
    carried_out [] (no_input (reads words) streams.input (reads_none words asked is none))
    (subst (λ (z : UciDone). end ≡ end_of z.status z.refusal) (sym done) ends)
    (subst (λ (z : UciDone). Grows streams.out.old streams.out.new z.output) (sym done) (grows_nothing streams.out.old streams.out.new silent))
    (subst (λ (z : UciDone). IsTold z.told streams.err) (sym done) told)
    (subst (λ (z : UciDone). before ≡ z.after) (sym done) refl)

pub carried_ends : (words : List (List ℕ)) (asked : Asked) (command : Command) (before after : Folder) (streams : Streams) (a b c d : View) (report : Report) (end : UciEnd) → asked ≡ asked_of words → asked.command ≡ Some command
    → IsCarried asked.options command before streams.input report after → EndsWith asked.options.quiet report streams.out streams.err end → Ends words before after streams a b c d end
carried_ends words asked command before after streams a b c d report end is some done ends = go ends
  where
    whole : uci_done words before done.text ≡ ended asked.options (carried_as report after)
    whole = done_is words asked command before streams.input done.text is some done.read ∙ ap (λ (z : Carried). ended asked.options z) done.is

    read : IsInput words streams.input done.text
    read = by_words words asked command streams.input done.text is some done.read

    go : EndsWith asked.options.quiet report streams.out streams.err end → Ends words before after streams a b c d end
    go (written ends grows told) = carried_out done.text read
        (subst (λ (z : UciDone). end ≡ end_of z.status z.refusal) (sym whole) ends)
        (subst (λ (z : UciDone). Grows streams.out.old streams.out.new z.output) (sym whole) grows)
        (subst (λ (z : UciDone). IsTold z.told streams.err) (sym whole) told)
        (subst (λ (z : UciDone). after ≡ z.after) (sym whole) refl)
    go (not_written ends rose grows told) = write_failed done.text read rose ends
        (subst (λ (z : UciDone). GrowsByFront streams.out.old streams.out.new z.output) (sym whole) grows)
        (tells_by words asked texts.DISK_FAILED.now streams.err is told)
        (subst (λ (z : UciDone). after ≡ z.after) (sym whole) refl)

among_passed : (words : List (List ℕ)) (asked : Asked) (command : Command) (before after : Folder) (input : List ℕ) → asked ≡ asked_of words → asked.command ≡ Some command → IsAmong after (passes asked.options before command input)
    → IsAmong after (uci_passes words before input)
among_passed words asked command before after input is some among =
    subst (λ (z : Asked). IsAmong after (asked_folders z.options before z.command input)) is (subst (λ (z : Option Command). IsAmong after (asked_folders asked.options before z input)) (sym some) among)

passed_by : (words : List (List ℕ)) (asked : Asked) (command : Command) (before after : Folder) (stream : Stream) → asked ≡ asked_of words → asked.command ≡ Some command
    → (after ≡ before) ⊎ IsCommandPassed asked.options command before stream after → IsPassed words before after stream
passed_by words asked command before after stream is some (inl same) = inl same
passed_by words asked command before after stream is some (inr h) = inr (h.text, by_words words asked command stream h.text is some h.read, among_passed words asked command before after h.text is some h.among)

pub cut_ends : (words : List (List ℕ)) (asked : Asked) (command : Command) (before after : Folder) (streams : Streams) (a b c d : View) (short : Cut) (end : UciEnd) → asked ≡ asked_of words → asked.command ≡ Some command
    → Runs (Err short) asked.options command before after streams.input → (◌≡◌ {A = Result Report Cut} (Err short) (Err cut.DiskFailed) → Rose a.faults b.faults ⊎ Rose c.faults d.faults)
    → streams.out.new ≡ streams.out.old → end ≡ end_of (cut_status short) 0 → IsTold (told_unless asked.options.quiet (cut_text short)) streams.err → Ends words before after streams a b c d end
cut_ends words asked command before after streams a b c d cut.TooLong end is some runs cause silent ends told =
    input_too_long (reads_by words asked command is some ∙ runs.0) runs.1 ends silent (tells_by words asked texts.TOO_LARGE.now streams.err is told) runs.2
cut_ends words asked command before after streams a b c d cut.ReadFailed end is some runs cause silent ends told = read_failed runs.0 ends silent (tells_by words asked texts.DISK_FAILED.now streams.err is told) runs.1
cut_ends words asked command before after streams a b c d cut.WriteFailed end is some runs cause silent ends told = absurd runs
cut_ends words asked command before after streams a b c d cut.DiskFailed end is some runs cause silent ends told = disk_failed (cause refl) ends silent (tells_by words asked texts.DISK_FAILED.now streams.err is told)
cut_ends words asked command before after streams a b c d cut.Memory end is some runs cause silent ends told =
    no_memory ends silent (inl (tells_by words asked texts.OUT_OF_MEMORY.now streams.err is told)) (passed_by words asked command before after streams.input is some runs)

-- a run that a cut did not end by a disk leaves a store that goes on
pub ready_by : (short : Cut) (status : ℕ) (failed : Bool) → status ≡ cut_status short → (◌≢◌ {A = Result Report Cut} (Err short) (Err cut.DiskFailed) → failed ≡ false) → status ≢ 5 → failed ≡ false
ready_by cut.TooLong status failed is closes no' = closes (λ e. cc)
ready_by cut.ReadFailed status failed is closes no' = closes (λ e. cc)
ready_by cut.WriteFailed status failed is closes no' = closes (λ e. cc)
ready_by cut.DiskFailed status failed is closes no' = absurd (no' is)
ready_by cut.Memory status failed is closes no' = closes (λ e. cc)
