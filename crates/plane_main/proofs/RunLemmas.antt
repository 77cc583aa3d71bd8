-- How a run ends, by its command, and which devices it leaves alone.
use Rattle.std.proofs.Common.{arith, ℕ, ◌≡◌, inl, inr, List, [], refl, sym, subst, append-nil}
use Rattle.std.specs.Prelude.{Result, Ok, Err, OnOk, OnErr}
use Rattle.plane_words.specs.Causes.{Rose, DidNotRise}
use Rattle.plane_words.specs.Growth.{Grows, GrowsByFront}
use Rattle.plane_main.specs.declared.page.Page.{Page}
use Rattle.plane_main.specs.declared.command.Command.{Command}
use Rattle.plane_main.specs.declared.command.Command.TheVariants.{Start, Uci, Run, Gen, Show}
use Rattle.plane_main.specs.declared.ending.Ending.{Ending}
use Rattle.plane_main.specs.declared.ending.Ending.TheVariants as ending
use Rattle.net_settle.specs.Outside.{Outside}
use Rattle.plane_main.specs.Outside.{Input, ErrorOutput, Seen, stream_of_input}
use Rattle.plane_main.specs.Command.{AskFor, IsPageCommand}
use Rattle.plane_main.specs.Ending.{IsTold, IsOfUci, IsOfRun, IsEarly, IsKernelFailed, OrLacksMemory}
use Rattle.plane_main.specs.Page.{PageEnds, PageComes}
use Rattle.plane_main.specs.Uci.{UciEnds, UciComes}
use Rattle.uci_tool.proofs.ComesLemmas.{run_comes as uci_comes, memory_comes as uci_memory_comes}
use Rattle.plane_run.proofs.ComesLemmas.{run_comes as script_comes}
use Rattle.plane_run.specs.declared.run_end.RunEnd.{RunEnd}
use Rattle.plane_run.specs.Run.{RunEnds}
use Rattle.plane_run.specs.Stops.{RunStops}
use Rattle.plane_run.specs.Parts.{KeepsDisks}
use Rattle.ubus_acl.specs.declared.acl.Acl.{Acl}
use Rattle.ubus_acl.specs.declared.access_error.AclError.{AclError}
use Rattle.ubus_acl.specs.Form.{acl_of}
use Rattle.plane_main.specs.declared.run_words.RunAsked.{RunAsked}
use Rattle.plane_main.specs.RunWords.{IsList, HasAcl}
use Rattle.plane_main.specs.Script.{first_of, run_seen, ScriptEnds, ScriptComes, EndsWith, ComesWith, AskedEnds, ReadsAcl}
use Rattle.plane_main.specs.Start.{StartComes}
use Rattle.net_gen.specs.Run.{IsCutShort}
use Rattle.plane_main.specs.Generated.{GenEnds, GenComes}
use Rattle.plane_main.specs.Run.{CommandEnds, CommandComes, Ends, of_command, of_no_command, of_unread_words, Comes, Devices, LeavesAlone}
use Rattle.plane_main.proofs.StartLemmas.{start_comes}
use Rattle.plane_main.proofs.WordLemmas.{command_one}

page_comes : (page : Page) (before after : Outside) (end : Ending) → PageEnds page before after end → PageComes before after end
page_comes page before after ending.Done cause calm = refl
page_comes page before after ending.WriteFailed cause calm = let rose = cause.1 in absurd (omega arith)
page_comes page before after ending.Usage cause calm = absurd cause
page_comes page before after ending.ReadFailed cause calm = absurd cause
page_comes page before after (ending.KernelFailed left) cause calm = absurd cause
page_comes page before after ending.OutOfMemory cause calm = absurd cause
page_comes page before after (ending.TooLong limit) cause calm = absurd cause
page_comes page before after (ending.Unreadable fault) cause calm = absurd cause
page_comes page before after (ending.OfUci status) cause calm = absurd cause
page_comes page before after (ending.OfRun end) cause calm = absurd cause

of_uci_comes : (words : List (List ℕ)) (seen : Seen) (end : Ending) → UciEnds words seen end → UciComes words seen end
of_uci_comes words seen (ending.OfUci status) cause = uci_comes _ _ _ _ _ _ _ _ cause.0
of_uci_comes words seen ending.Done cause = absurd cause
of_uci_comes words seen ending.WriteFailed cause = absurd cause
of_uci_comes words seen ending.Usage cause = absurd cause
of_uci_comes words seen ending.ReadFailed cause = absurd cause
of_uci_comes words seen (ending.KernelFailed left) cause = absurd cause
of_uci_comes words seen ending.OutOfMemory cause = absurd cause
of_uci_comes words seen (ending.TooLong limit) cause = absurd cause
of_uci_comes words seen (ending.Unreadable fault) cause = absurd cause
of_uci_comes words seen (ending.OfRun end) cause = absurd cause

of_run_comes : (moment : ℕ) (acl : Acl) (seen : Seen) (end : Ending) → ScriptEnds moment acl seen end → ScriptComes moment acl seen end
of_run_comes moment acl seen (ending.OfRun end) cause = script_comes (run_seen moment acl seen) end cause.0
of_run_comes moment acl seen ending.Done cause = absurd cause
of_run_comes moment acl seen ending.WriteFailed cause = absurd cause
of_run_comes moment acl seen ending.Usage cause = absurd cause
of_run_comes moment acl seen ending.ReadFailed cause = absurd cause
of_run_comes moment acl seen (ending.KernelFailed left) cause = absurd cause
of_run_comes moment acl seen ending.OutOfMemory cause = absurd cause
of_run_comes moment acl seen (ending.TooLong limit) cause = absurd cause
of_run_comes moment acl seen (ending.Unreadable fault) cause = absurd cause
of_run_comes moment acl seen (ending.OfUci status) cause = absurd cause

with_comes : (is : Result Acl AclError) (moment : ℕ) (seen : Seen) (end : Ending) → EndsWith is moment seen end → ComesWith is moment seen end
with_comes (Ok acl) moment seen end cause = of_run_comes moment acl seen end cause
with_comes (Err why) moment seen end cause = cause

-- when a run of `gen` ends so
module _ (count : ℕ) (before after : Outside) where
  cut_rose : IsCutShort count before after → Rose before.out_faults after.out_faults
  cut_rose (IsCutShort.at_step now cut held) = cut.cause
  cut_rose (IsCutShort.at_end cut) = cut.cause

  gen_written : (end : Ending) → GenEnds count before after end → DidNotRise before.out_faults after.out_faults → end ≡ ending.WriteFailed → ⊥
  gen_written end cause calm is =
      let rose = cut_rose (subst (GenEnds count before after) is cause) in
      absurd (omega (arith, rose, calm))

  gen_none_due : (end : Ending) → GenEnds count before after end → DidNotRise before.kernel_faults after.kernel_faults → IsKernelFailed end → ⊥
  gen_none_due (ending.KernelFailed left) cause calm due = let rose = cause.cause in absurd (omega (arith, rose, calm))
  gen_none_due ending.Done cause calm due = due
  gen_none_due ending.WriteFailed cause calm due = due
  gen_none_due ending.Usage cause calm due = due
  gen_none_due ending.ReadFailed cause calm due = due
  gen_none_due ending.OutOfMemory cause calm due = due
  gen_none_due (ending.TooLong limit) cause calm due = due
  gen_none_due (ending.Unreadable fault) cause calm due = due
  gen_none_due (ending.OfUci status) cause calm due = due
  gen_none_due (ending.OfRun end) cause calm due = due

  gen_done : (end : Ending) → GenEnds count before after end → DidNotRise before.out_faults after.out_faults
      → DidNotRise before.kernel_faults after.kernel_faults → OrLacksMemory (end ≡ ending.Done) end
  gen_done ending.Done cause out kernel = inl refl
  gen_done ending.OutOfMemory cause out kernel = inr refl
  gen_done ending.WriteFailed cause out kernel = absurd (gen_written ending.WriteFailed cause out refl)
  gen_done (ending.KernelFailed left) cause out kernel = absurd (gen_none_due (ending.KernelFailed left) cause kernel tt)
  gen_done ending.Usage cause out kernel = absurd cause
  gen_done ending.ReadFailed cause out kernel = absurd cause
  gen_done (ending.TooLong limit) cause out kernel = absurd cause
  gen_done (ending.Unreadable fault) cause out kernel = absurd cause
  gen_done (ending.OfUci status) cause out kernel = absurd cause
  gen_done (ending.OfRun end) cause out kernel = absurd cause

  gen_comes : (end : Ending) → GenEnds count before after end → GenComes before after end
  gen_comes end cause = record {
    written = gen_written end cause;
    none_due = gen_none_due end cause;
    done = gen_done end cause;
  }

gen_memory_comes : (before after : Outside) → GenComes before after ending.OutOfMemory
gen_memory_comes before after = record {
  written = λ calm is. absurd (cc is);
  none_due = λ calm due. due;
  done = λ out kernel. inr refl;
}

-- which devices it leaves alone
pub gen_alone : {S O K D T C : Type 0} (words : List (List ℕ)) (count : ℕ) (before after : Outside) (was is : Devices S O K D T C) (why told : Ending)
    → AskFor words (Gen count) → GenEnds count before after why → told ≡ why
    → is.input ≡ was.input → is.files ≡ was.files → is.staged ≡ was.staged → is.clock ≡ was.clock
    → LeavesAlone words told was is
gen_alone words count before after was is why told asks cause same input files staged clock = subst (λ e. LeavesAlone words e was is) (sym same) (record {
  of_uci = λ h. absurd (not_of_uci why cause h);
  of_run = λ h. absurd (not_of_run why cause h);
  input = λ none. input;
  out = λ early. absurd (not_early why cause early);
  out_unfilled = λ none e. absurd (none (Gen count) asks tt);
  out_unasked = λ none. absurd (none (Gen count, asks, tt));
  kernel = λ early. absurd (not_early why cause early);
  kernel_unasked = λ none. absurd (none (Gen count) asks tt);
  files = λ none. files;
  staged = λ none. staged;
  clock = λ none. clock;
})
  where
    not_of_uci : (e : Ending) → GenEnds count before after e → IsOfUci e → ⊥
    not_of_uci (ending.OfUci status) cause h = cause
    not_of_uci ending.Usage cause h = h
    not_of_uci ending.OutOfMemory cause h = h
    not_of_uci ending.Done cause h = h
    not_of_uci ending.WriteFailed cause h = h
    not_of_uci ending.ReadFailed cause h = h
    not_of_uci (ending.KernelFailed left) cause h = h
    not_of_uci (ending.TooLong limit) cause h = h
    not_of_uci (ending.Unreadable fault) cause h = h
    not_of_uci (ending.OfRun end) cause h = h

    not_of_run : (e : Ending) → GenEnds count before after e → IsOfRun e → ⊥
    not_of_run (ending.OfRun end) cause h = cause
    not_of_run ending.Usage cause h = h
    not_of_run ending.OutOfMemory cause h = h
    not_of_run ending.Done cause h = h
    not_of_run ending.WriteFailed cause h = h
    not_of_run ending.ReadFailed cause h = h
    not_of_run (ending.KernelFailed left) cause h = h
    not_of_run (ending.TooLong limit) cause h = h
    not_of_run (ending.Unreadable fault) cause h = h
    not_of_run (ending.OfUci status) cause h = h

    not_early : (e : Ending) → GenEnds count before after e → IsEarly e → ⊥
    not_early ending.Usage cause h = cause
    not_early ending.ReadFailed cause h = cause
    not_early (ending.TooLong limit) cause h = cause
    not_early (ending.Unreadable fault) cause h = cause
    not_early ending.Done cause h = h
    not_early ending.WriteFailed cause h = h
    not_early ending.OutOfMemory cause h = h
    not_early (ending.KernelFailed left) cause h = h
    not_early (ending.OfUci status) cause h = h
    not_early (ending.OfRun end) cause h = h

command_comes : (command : Command) (seen : Seen) (end : Ending) → CommandEnds command seen end → CommandComes command seen end
command_comes (Start devices) seen end cause = start_comes devices seen.input seen.before seen.after end cause
command_comes (Uci words) seen end cause = of_uci_comes words seen end cause
command_comes (Run asked) seen end cause = inl (with_comes (acl_of asked.acl) asked.moment seen end cause)
command_comes (Gen count) seen end cause = gen_comes count seen.before seen.after end cause
command_comes (Show page) seen end cause = page_comes page seen.before seen.after end cause

-- want of memory may come in place of each ending of a `start`
memory_comes : (devices : List (List ℕ)) (input : Input) (before after : Outside) → StartComes devices input before after ending.OutOfMemory
memory_comes devices input before after = record {
  calm = λ calm failure. failure;
  long = λ text told over calm. inr refl;
  no_package = λ text error is calm bad. inr refl;
  too_many = λ text limit is calm many. inr refl;
  up = λ text network calm is up. inr refl;
  due = λ text network is up whole. absurd (whole tt);
  nothing_due = λ text network is up whole. absurd (whole tt);
}

unread_comes : (words : List (List ℕ)) (seen : Seen) → (IsPageCommand words → ⊥) → (command : Command) → AskFor words command → CommandComes command seen ending.OutOfMemory
unread_comes words seen no_page (Start devices) asked = memory_comes devices seen.input seen.before seen.after
unread_comes words seen no_page (Uci rest) asked = uci_memory_comes _ _ _ _ _ _ _ _ refl
unread_comes words seen no_page (Run a) asked = inr refl
unread_comes words seen no_page (Gen count) asked = gen_memory_comes seen.before seen.after
unread_comes words seen no_page (Show page) asked = absurd (no_page (page, asked))

-- why a run of a script ends so
pub script_ends : (asked : RunAsked) (acl : Acl) (seen : Seen) (end : RunEnd) (told : Ending) → acl_of asked.acl ≡ Ok acl → told ≡ ending.OfRun end
    → RunEnds (run_seen asked.moment acl seen) end
    → RunStops (first_of asked.moment acl seen) (stream_of_input seen.input) seen.folders.files_now
    → KeepsDisks seen.folders.files seen.folders.files_now seen.folders.staged seen.folders.staged_now
    → AskedEnds asked seen told
script_ends asked acl seen end told reads is ends stops disks =
    subst (λ is. EndsWith is asked.moment seen told) (sym reads)
    (subst (ScriptEnds asked.moment acl seen) (sym is) (ends, stops, disks))

-- an access list that does not read
no_list : (is : Result Acl AclError) (moment : ℕ) (seen : Seen) (told : Ending) → (IsList is → ⊥) → told ≡ ending.Usage → EndsWith is moment seen told
no_list (Ok acl) moment seen told none is = absurd (none tt)
no_list (Err why) moment seen told none is = is

no_page_run : (words : List (List ℕ)) (asked : RunAsked) → AskFor words (Run asked) → IsPageCommand words → ⊥
no_page_run words asked asks (page, shows) = absurd (cc (command_one words (Show page) (Run asked) shows asks))

-- why a run ends whose access list was not read
pub no_acl_ends : (words : List (List ℕ)) (asked : RunAsked) (seen : Seen) (rests : Type 0) (why told : Ending) → AskFor words (Run asked)
    → ReadsAcl (acl_of asked.acl) (Err why) → told ≡ why → seen.after ≡ seen.before → rests → Ends words seen rests told
no_acl_ends words asked seen rests ending.Usage told asks none is same still =
    of_command (Run asked) asks (no_list (acl_of asked.acl) asked.moment seen told none is)
no_acl_ends words asked seen rests ending.OutOfMemory told asks none is same still =
    of_unread_words (no_page_run words asked asks) same still is
no_acl_ends words asked seen rests ending.Done told asks none is same still = absurd none
no_acl_ends words asked seen rests ending.WriteFailed told asks none is same still = absurd none
no_acl_ends words asked seen rests ending.ReadFailed told asks none is same still = absurd none
no_acl_ends words asked seen rests (ending.KernelFailed left) told asks none is same still = absurd none
no_acl_ends words asked seen rests (ending.TooLong limit) told asks none is same still = absurd none
no_acl_ends words asked seen rests (ending.Unreadable fault) told asks none is same still = absurd none
no_acl_ends words asked seen rests (ending.OfUci status) told asks none is same still = absurd none
no_acl_ends words asked seen rests (ending.OfRun end) told asks none is same still = absurd none

-- a run whose access list reads
pub has_acl : (asked : RunAsked) (acl : Acl) → acl_of asked.acl ≡ Ok acl → HasAcl asked
has_acl asked acl reads = subst IsList (sym reads) tt

-- which devices it leaves alone, and which one whose access list was not read
module _ {S O K D T C : Type 0} (words : List (List ℕ)) (asked : RunAsked) (asks : AskFor words (Run asked)) where
  pub run_alone : (before after : Devices S O K D T C) (end : RunEnd) (told : Ending) → HasAcl asked → told ≡ ending.OfRun end
      → after.clock ≡ before.clock → LeavesAlone words told before after
  run_alone before after end told has is clock = subst (λ e. LeavesAlone words e before after) (sym is) (record {
    of_uci = λ h. absurd h;
    of_run = λ h. (asked, asks);
    input = λ none. absurd (none (Run asked) asks has);
    out = λ early. absurd early;
    out_unfilled = λ none e. absurd (cc e);
    out_unasked = λ none. absurd (none (Run asked, asks, tt));
    kernel = λ early. absurd early;
    kernel_unasked = λ none. absurd (none (Run asked) asks has);
    files = λ none. absurd (none (Run asked) asks has);
    staged = λ none. absurd (none (Run asked) asks has);
    clock = λ none. clock;
  })

  pub no_acl_alone : (all : Devices S O K D T C) (why told : Ending) → ReadsAcl (acl_of asked.acl) (Err why) → told ≡ why → LeavesAlone words told all all
  no_acl_alone all why told none is = subst (λ e. LeavesAlone words e all all) (sym is) (record {
    of_uci = λ h. absurd (not_of_uci why none h);
    of_run = λ h. (asked, asks);
    input = λ h. refl;
    out = λ h. refl;
    out_unfilled = λ none h. refl;
    out_unasked = λ h. refl;
    kernel = λ h. refl;
    kernel_unasked = λ h. refl;
    files = λ h. refl;
    staged = λ h. refl;
    clock = λ h. refl;
  })
    where
      not_of_uci : (e : Ending) → ReadsAcl (acl_of asked.acl) (Err e) → IsOfUci e → ⊥
      not_of_uci (ending.OfUci status) none h = none
      not_of_uci ending.Usage none h = h
      not_of_uci ending.OutOfMemory none h = h
      not_of_uci ending.Done none h = h
      not_of_uci ending.WriteFailed none h = h
      not_of_uci ending.ReadFailed none h = h
      not_of_uci (ending.KernelFailed left) none h = h
      not_of_uci (ending.TooLong limit) none h = h
      not_of_uci (ending.Unreadable fault) none h = h
      not_of_uci (ending.OfRun end) none h = h

pub run_comes : (words : List (List ℕ)) (seen : Seen) (rests : Type 0) (end : Ending) → Ends words seen rests end → Comes words seen end
run_comes words seen rests end (of_command command asked cause) = record {
  command = λ other asks. subst (λ c. CommandComes c seen end) (sym (command_one words command other asked asks)) (command_comes command seen end cause);
  no_command = λ none. absurd (none (command, asked));
}
run_comes words seen rests end (of_no_command none is) = record {
  command = λ command asked. absurd (none (command, asked));
  no_command = λ _. inl is;
}
run_comes words seen rests end (of_unread_words no_page same still is) = record {
  command = λ command asked. subst (CommandComes command seen) (sym is) (unread_comes words seen no_page command asked);
  no_command = λ none. inr is;
}

-- a text that was written wholly was written in front too, and it was where no fault was counted
pub told_by : {T E : Type 0} (result : Result T E) (text : List ℕ) (errors : ErrorOutput) → OnOk result (Grows errors.held errors.held_now text) → OnErr result (GrowsByFront errors.held errors.held_now text)
    → OnErr result (Rose errors.faults errors.faults_now) → IsTold text errors
told_by (Ok v) text errors whole part rose = record { front = record { front = text; back = []; parts = sym (append-nil text); grows = whole }; whole = λ calm. whole }
told_by (Err e) text errors whole part rose = record { front = part; whole = λ calm. absurd (omega arith) }
