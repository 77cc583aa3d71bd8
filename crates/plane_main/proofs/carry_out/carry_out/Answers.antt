use Rattle.std.proofs.Common.{ℕ, inl, List, map, string_bytes, refl, ap, sym, subst, ◌∙◌}
use Rattle.std.specs.Prelude.{Err}
use Rattle.plane_main.specs.declared.command.Command.TheVariants.{Start, Uci, Run, Gen, Show}
use Rattle.net_settle.specs.Outside.{outside_of}
use Rattle.uci_tool.specs.Run.{RunEnds}
use Rattle.uci_tool.specs.Ends.{streams_of}
use Rattle.plane_main.specs.Outside.{Seen, input_of, errors_of}
use Rattle.plane_main.specs.Command.{AskFor}
use Rattle.plane_main.specs.Start.{StartEnds}
use Rattle.plane_main.specs.Generated.{GenEnds}
use Rattle.plane_main.specs.Page.{PageEnds}
use Rattle.plane_main.specs.Run.{of_command}
use Rattle.ubus_acl.specs.Form.{acl_of}
use Rattle.plane_main.specs.Script.{ReadsAcl}
use Rattle.plane_main.proofs.RunLemmas.{script_ends, has_acl, run_alone, no_acl_ends, no_acl_alone, gen_alone}
use Rattle.plane_main.proofs.carry_out.carry_out.Goals as goal

pub returns-in-Start-clause-cause : goal.returns-in-Start-clause-cause
returns-in-Start-clause-cause g c =
    let words : List (List ℕ) = map string_bytes c.args.words.now in
    let asked : AskFor words c.in-Ok-Some.command = rw c.in-Ok-Some.field-0-is at c.in-Ok-Some.ensures.found in
    let input = input_of g.S.Source c.args.input.now c.start-ending.new.input in
    let before = outside_of g.O.Sink g.K.Kernel c.args.out.now c.args.kernel.now in
    let after = outside_of g.O.Sink g.K.Kernel c.start-ending.new.out c.start-ending.new.kernel in
    let ends : StartEnds c.in-Start.devices input before after c.start-ending.result = subst (λ devices. StartEnds devices input before after c.start-ending.result) c.as_slice.ensures c.start-ending.ensures.cause in
    of_command (Start c.in-Start.devices) (subst (AskFor words) c.in-Start.is asked) (subst (StartEnds c.in-Start.devices input before after) (sym c.report-in-Start.ensures.same) ends)

pub returns-in-Uci-clause-cause : goal.returns-in-Uci-clause-cause
returns-in-Uci-clause-cause g c =
    let words : List (List ℕ) = map string_bytes c.args.words.now in
    let asked : AskFor words c.in-Ok-Some.command = rw c.in-Ok-Some.field-0-is at c.in-Ok-Some.ensures.found in
    let streams = streams_of g.S.Source c.args.input.now c.run_uci-status.new.input g.O.Sink c.args.out.now c.run_uci-status.new.out g.E.Sink c.args.err.now c.run_uci-status.new.err in
    of_command (Uci c.in-Uci.words) (subst (AskFor words) c.in-Uci.is asked) (
      subst (λ ws. RunEnds ws (g.C.Clock.moments c.args.clock.now) streams (g.D.Disk.view c.args.files.now) (g.D.Disk.view c.run_uci-status.new.files) (g.T.Disk.view c.args.staged.now) (g.T.Disk.view c.run_uci-status.new.staged)
          c.run_uci-status.result)
          c.as_slice-words.ensures c.run_uci-status.ensures.ended,
      record { same = c.run_uci-status.ensures.same; follows = c.run_uci-status.ensures.follows },
    )

pub returns-in-Ok-clause-cause : goal.returns-in-Ok-clause-cause
returns-in-Ok-clause-cause g c =
    let words : List (List ℕ) = map string_bytes c.args.words.now in
    let asked : AskFor words c.in-Ok-Some.command = rw c.in-Ok-Some.field-0-is at c.in-Ok-Some.ensures.found in
    let seen : Seen = record {
      input = input_of g.S.Source c.args.input.now c.run_script-end.new.input;
      before = outside_of g.O.Sink g.K.Kernel c.args.out.now c.args.kernel.now;
      after = outside_of g.O.Sink g.K.Kernel c.run_script-end.new.out c.run_script-end.new.kernel;
      errors = errors_of g.E.Sink c.args.err.now c.report-in-Run.new.err;
      folders = record {
        files = g.D.Disk.view c.args.files.now;
        files_now = g.D.Disk.view c.run_script-end.new.files;
        staged = g.T.Disk.view c.args.staged.now;
        staged_now = g.T.Disk.view c.run_script-end.new.staged;
        moments = g.C.Clock.moments c.args.clock.now;
      };
      random = g.R.Random.words c.args.random.now;
    } in
    of_command (Run c.in-Run.asked) (subst (AskFor words) c.in-Run.is asked)
    (script_ends c.in-Run.asked c.in-Ok.acl seen c.run_script-end.result c.report-in-Run.result
    (ap acl_of (sym c.as_bytes.ensures) ∙ c.in-Ok.ensures) c.report-in-Run.ensures.same
    c.run_script-end.ensures.ended c.run_script-end.ensures.stops c.run_script-end.ensures.disks)

pub returns-in-Ok-clause-alone : goal.returns-in-Ok-clause-alone
returns-in-Ok-clause-alone g c =
    let words : List (List ℕ) = map string_bytes c.args.words.now in
    let asked : AskFor words c.in-Ok-Some.command = rw c.in-Ok-Some.field-0-is at c.in-Ok-Some.ensures.found in
    let reads = ap acl_of (sym c.as_bytes.ensures) ∙ c.in-Ok.ensures in
    run_alone words c.in-Run.asked (subst (AskFor words) c.in-Run.is asked) _ _ c.run_script-end.result c.report-in-Run.result
    (has_acl c.in-Run.asked c.in-Ok.acl reads) c.report-in-Run.ensures.same refl

pub returns-in-Ok-clause-random : goal.returns-in-Ok-clause-random
returns-in-Ok-clause-random g c = λ none.
    let words : List (List ℕ) = map string_bytes c.args.words.now in
    let asked : AskFor words c.in-Ok-Some.command = rw c.in-Ok-Some.field-0-is at c.in-Ok-Some.ensures.found in
    let reads = ap acl_of (sym c.as_bytes.ensures) ∙ c.in-Ok.ensures in
    absurd (none (Run c.in-Run.asked) (subst (AskFor words) c.in-Run.is asked) (has_acl c.in-Run.asked c.in-Ok.acl reads))

pub returns-in-Err-read_acl-clause-cause : goal.returns-in-Err-read_acl-clause-cause
returns-in-Err-read_acl-clause-cause g c =
    let words : List (List ℕ) = map string_bytes c.args.words.now in
    let asked : AskFor words c.in-Ok-Some.command = rw c.in-Ok-Some.field-0-is at c.in-Ok-Some.ensures.found in
    let why = c.in-Err-read_acl.ending in
    no_acl_ends words c.in-Run.asked _ _ why c.report-in-Err-read_acl.result (subst (AskFor words) c.in-Run.is asked)
    (subst (λ text. ReadsAcl (acl_of text) (Err why)) c.as_bytes.ensures c.in-Err-read_acl.ensures)
    c.report-in-Err-read_acl.ensures.same refl (refl, refl, refl, refl)

pub returns-in-Err-read_acl-clause-alone : goal.returns-in-Err-read_acl-clause-alone
returns-in-Err-read_acl-clause-alone g c =
    let words : List (List ℕ) = map string_bytes c.args.words.now in
    let asked : AskFor words c.in-Ok-Some.command = rw c.in-Ok-Some.field-0-is at c.in-Ok-Some.ensures.found in
    let why = c.in-Err-read_acl.ending in
    no_acl_alone words c.in-Run.asked (subst (AskFor words) c.in-Run.is asked) _ why c.report-in-Err-read_acl.result
    (subst (λ text. ReadsAcl (acl_of text) (Err why)) c.as_bytes.ensures c.in-Err-read_acl.ensures)
    c.report-in-Err-read_acl.ensures.same

pub returns-in-Gen-clause-cause : goal.returns-in-Gen-clause-cause
returns-in-Gen-clause-cause g c =
    let words : List (List ℕ) = map string_bytes c.args.words.now in
    let asked : AskFor words c.in-Ok-Some.command = rw c.in-Ok-Some.field-0-is at c.in-Ok-Some.ensures.found in
    let before = outside_of g.O.Sink g.K.Kernel c.args.out.now c.args.kernel.now in
    let after = outside_of g.O.Sink g.K.Kernel c.play.new.out c.play.new.kernel in
    of_command (Gen c.in-Gen.count) (subst (AskFor words) c.in-Gen.is asked) (subst (GenEnds c.in-Gen.count before after) (sym c.report-in-Gen.ensures.same) c.play.ensures.cause)

pub returns-in-Gen-clause-alone : goal.returns-in-Gen-clause-alone
returns-in-Gen-clause-alone g c =
    let words : List (List ℕ) = map string_bytes c.args.words.now in
    let asked : AskFor words c.in-Ok-Some.command = rw c.in-Ok-Some.field-0-is at c.in-Ok-Some.ensures.found in
    let before = outside_of g.O.Sink g.K.Kernel c.args.out.now c.args.kernel.now in
    let after = outside_of g.O.Sink g.K.Kernel c.play.new.out c.play.new.kernel in
    gen_alone words c.in-Gen.count before after _ _ c.play.result c.report-in-Gen.result (subst (AskFor words) c.in-Gen.is asked)
    c.play.ensures.cause c.report-in-Gen.ensures.same refl refl refl refl

pub returns-in-Show-clause-cause : goal.returns-in-Show-clause-cause
returns-in-Show-clause-cause g c =
    let words : List (List ℕ) = map string_bytes c.args.words.now in
    let asked : AskFor words c.in-Ok-Some.command = rw c.in-Ok-Some.field-0-is at c.in-Ok-Some.ensures.found in
    let before = outside_of g.O.Sink g.K.Kernel c.args.out.now c.args.kernel.now in
    let after = outside_of g.O.Sink g.K.Kernel c.show.new.out c.args.kernel.now in
    of_command (Show c.in-Show.page) (subst (AskFor words) c.in-Show.is asked) (subst (PageEnds c.in-Show.page before after) (sym c.report-in-Show.ensures.same) c.show.ensures.ends)

pub returns-in-Start-clause-uncalled : goal.returns-in-Start-clause-uncalled
returns-in-Start-clause-uncalled g c = inl refl

pub returns-in-Uci-clause-uncalled : goal.returns-in-Uci-clause-uncalled
returns-in-Uci-clause-uncalled g c = inl refl

pub returns-in-Gen-clause-uncalled : goal.returns-in-Gen-clause-uncalled
returns-in-Gen-clause-uncalled g c = inl refl

pub returns-in-Err-read_acl-clause-uncalled : goal.returns-in-Err-read_acl-clause-uncalled
returns-in-Err-read_acl-clause-uncalled g c = inl refl

pub returns-in-Show-clause-uncalled : goal.returns-in-Show-clause-uncalled
returns-in-Show-clause-uncalled g c = inl refl
