-- How a `start` ends, and when.
use Rattle.std.proofs.Common.{arith, ℕ, ◌≡◌, ◌<◌, inl, inr, length, List, [], Option, Some, None, refl, ap, sym, subst, ◌∙◌}
use Rattle.std.specs.Prelude.{◌↔◌, IsSomeAnd, Result, Ok, Err}
use Rattle.std.specs.FinMap as map
use Rattle.plane_words.specs.Causes.{DidNotRise}
use Rattle.plane_io.specs.Source.{IsAllThatWasLeft, HadMoreThan}
use Rattle.plane_io.specs.declared.input.TheConstants.{INPUT_LIMIT}
use Rattle.uci_tree.specs.declared.fault.Fault.{Fault}
use Rattle.uci_tree.specs.declared.package.Package.{Package}
use Rattle.uci_tree.specs.declared.tree_error.TreeError.{TreeError}
use Rattle.uci_tree.specs.Fault.{fault_of}
use Rattle.uci_tree.specs.Reading.{HasTreeFault}
use Rattle.uci_tree.proofs.LawLemmas.{no_package, tree_fault_is_one}
use Rattle.uci_tree.proofs.ReadingLemmas.{one_tree}
use Rattle.net_conf.specs.Limits.{passed_limit}
use Rattle.net_settle.specs.Outside.{Outside}
use Rattle.net_start.specs.declared.start_error.StartError.{StartError}
use Rattle.net_start.specs.declared.start_error.StartError.TheVariants as error
use Rattle.net_start.specs.Inputs.{rows_of, present_of, start_wants}
use Rattle.net_start.specs.BringUp.{LackedMemory, BringUpEnds}
use Rattle.net_start.proofs.DeviceLemmas.{came_none}
use Rattle.net_start.proofs.RecordLemmas.{records_none}
use Rattle.plane_main.specs.declared.ending.Ending.{Ending}
use Rattle.plane_main.specs.declared.ending.Ending.TheVariants as ending
use Rattle.plane_main.specs.Outside.{Input}
use Rattle.plane_main.specs.Ending.{IsFailure, IsCutShort, IsKernelFailed, Tells, OrLacksMemory, ending_of}
use Rattle.plane_main.specs.Start.{IsRead, package_name, IsNetwork, PassesLimit, HasNetwork, IsUnreadable, HasTooMany, ReadEnds, StartEnds, IsInput, IsCalm, HoldsWanted, StartComes}
use Rattle.plane_main.proofs.DueLemmas.{some_due}

-- nothing was done: no device came
pub nothing_lacked : (names : List (List ℕ)) (before : Outside) → before.devices ≡ map.empty → LackedMemory names before before
nothing_lacked names before bare = record {
  out = refl;
  out_faults = refl;
  objects = refl;
  calls = refl;
  came = record { front = []; back = names; parts = refl; came = came_none before.devices before.kernel_faults bare; asked = records_none before.asked };
}

module _ (devices : List (List ℕ)) (input : Input) (before after : Outside) where
  pub brought_up_ends : {X : Type 0} (network : Package) (ended : Result X StartError) → HasNetwork input network → BringUpEnds devices network before after ended → StartEnds devices input before after (ending_of ended)
  brought_up_ends network (Ok x) read did = record { network = network; read = read; did = did }
  brought_up_ends network (Err (error.KernelFailed due)) read did = record { network = network; read = read; did = did }
  brought_up_ends network (Err error.WriteFailed) read did = record { network = network; read = read; did = did }
  brought_up_ends network (Err error.Memory) read did = did

  pub unread_ends : (end : Ending) → LackedMemory devices before after → ReadEnds input end → StartEnds devices input before after end
  unread_ends ending.Done nothing cause = absurd cause
  unread_ends (ending.KernelFailed left) nothing cause = absurd cause
  unread_ends ending.WriteFailed nothing cause = absurd cause
  unread_ends ending.OutOfMemory nothing cause = nothing
  unread_ends ending.Usage nothing cause = cause
  unread_ends ending.ReadFailed nothing cause = cause
  unread_ends (ending.TooLong limit) nothing cause = cause
  unread_ends (ending.Unreadable fault) nothing cause = cause
  unread_ends (ending.OfUci status) nothing cause = absurd cause
  unread_ends (ending.OfRun end) nothing cause = absurd cause

-- what was read is what was told
all_told : (left after : Option (List ℕ)) (bytes text : List ℕ) → left ≡ Some text → IsAllThatWasLeft left after bytes → bytes ≡ text
all_told None after bytes text told all = cc told
all_told (Some l) after bytes text told all = let same : l ≡ text = cc told in all.0 ∙ same

module _ (input : Input) (text : List ℕ) (told : input.left ≡ Some text) where
  same_text : (bytes : List ℕ) → IsRead input bytes → bytes ≡ text
  same_text bytes read = all_told input.left input.left_now bytes text told read.all

  read_network : (network : Package) → HasNetwork input network → IsNetwork text network
  read_network network read = subst (λ t. IsNetwork t network) (same_text read.text read.read) read.is

  read_fault : (fault : Fault) (u : IsUnreadable input fault) → HasTreeFault text u.error
  read_fault fault u = subst (λ t. HasTreeFault t u.error) (same_text u.text u.read) u.refused

  read_passed : (limit : ℕ) → HasTooMany input limit → PassesLimit text limit
  read_passed limit h = subst (λ t. PassesLimit t limit) (same_text h.text h.read) h.passes

  not_over : (bytes : List ℕ) → IsRead input bytes → INPUT_LIMIT < length text → ⊥
  not_over bytes read over =
      let same = ap length (same_text bytes read) in
      let within = read.within in
      omega arith

-- a text is at most one network, and then it has no fault and passes no limit
pub network_one : (text : List ℕ) (network other : Package) → IsNetwork text network → IsNetwork text other → other ≡ network
network_one text network other is others = one_tree package_name text network other is.read others.read

network_without_fault : (text : List ℕ) (error : TreeError) (network : Package) → IsNetwork text network → HasTreeFault text error → ⊥
network_without_fault text error network is bad = no_package package_name text error network bad is.read

network_within : (text : List ℕ) (limit : ℕ) (network : Package) → IsNetwork text network → PassesLimit text limit → ⊥
network_within text limit network is passes =
    let same : passed_limit (rows_of passes.network) ≡ passed_limit (rows_of network) = ap (λ n. passed_limit (rows_of n)) (one_tree package_name text network passes.network is.read passes.read) in
    let none = is.within in
    let some = passes.passed in
    cc

passed_without_fault : (text : List ℕ) (error : TreeError) (limit : ℕ) → PassesLimit text limit → HasTreeFault text error → ⊥
passed_without_fault text error limit passes bad = no_package package_name text error passes.network bad passes.read

one_limit : (text : List ℕ) (limit other : ℕ) → PassesLimit text limit → PassesLimit text other → other ≡ limit
one_limit text limit other passes others =
    let same : passed_limit (rows_of others.network) ≡ passed_limit (rows_of passes.network) = ap (λ n. passed_limit (rows_of n)) (one_tree package_name text passes.network others.network passes.read others.read) in
    let one = passes.passed in
    let two = others.passed in
    cc

within_limit : (left : Option (List ℕ)) (text : List ℕ) → IsInput left text → HadMoreThan INPUT_LIMIT left → ⊥
within_limit None text input more = cc input.told
within_limit (Some l) text input more =
    let same : l ≡ text = cc input.told in
    let long = ap length same in
    let within = input.within in
    omega arith

tells : (error told : TreeError) (fault : Fault) → error ≡ told → fault_of told ≡ Some fault → Tells error (ending.Unreadable fault)
tells error told fault same is = subst (λ found. IsSomeAnd found (λ f. ending.Unreadable fault ≡ ending.Unreadable f)) (sym (ap fault_of same ∙ is)) refl

-- When each ending comes, one lemma for each field of `StartComes`.
module _ (devices : List (List ℕ)) (input : Input) (before after : Outside) where
  calm_start : (end : Ending) → StartEnds devices input before after end → IsCalm input before after → IsFailure end → ⊥
  calm_start ending.ReadFailed cause calm failure = let still = calm.at_input in omega arith
  calm_start ending.WriteFailed cause calm failure =
      let rose = cause.did.settled.cause in
      let same = cause.did.added.out_faults in
      let still = calm.at_output in
      omega arith
  calm_start (ending.KernelFailed left) cause calm failure =
      let came = cause.did.added.came.absent in
      let rose = cause.did.settled.reached.faults in
      let still = calm.at_kernel in
      omega arith
  calm_start ending.Done cause calm failure = failure
  calm_start ending.Usage cause calm failure = failure
  calm_start ending.OutOfMemory cause calm failure = failure
  calm_start (ending.TooLong limit) cause calm failure = failure
  calm_start (ending.Unreadable fault) cause calm failure = failure
  calm_start (ending.OfUci status) cause calm failure = absurd cause
  calm_start (ending.OfRun end) cause calm failure = absurd cause

  long_start : (end : Ending) → StartEnds devices input before after end → (text : List ℕ) → input.left ≡ Some text → INPUT_LIMIT < length text → DidNotRise input.faults input.faults_now
      → OrLacksMemory (end ≡ ending.TooLong INPUT_LIMIT) end
  long_start ending.Done cause text told over calm = absurd (not_over input text told cause.read.text cause.read.read over)
  long_start (ending.KernelFailed left) cause text told over calm = absurd (not_over input text told cause.read.text cause.read.read over)
  long_start ending.WriteFailed cause text told over calm = absurd (not_over input text told cause.read.text cause.read.read over)
  long_start ending.ReadFailed cause text told over calm = absurd (omega arith)
  long_start ending.OutOfMemory cause text told over calm = inr refl
  long_start ending.Usage cause text told over calm = absurd cause
  long_start (ending.TooLong limit) (inl more) text told over calm = inl (ap ending.TooLong more.0)
  long_start (ending.TooLong limit) (inr many) text told over calm = absurd (not_over input text told many.text many.read over)
  long_start (ending.Unreadable fault) cause text told over calm = absurd (not_over input text told cause.text cause.read over)
  long_start (ending.OfUci status) cause text told over calm = absurd cause
  long_start (ending.OfRun end) cause text told over calm = absurd cause

  faulty_start : (end : Ending) → StartEnds devices input before after end → (text : List ℕ) (error : TreeError) → IsInput input.left text → DidNotRise input.faults input.faults_now → HasTreeFault text error
      → OrLacksMemory (Tells error end) end
  faulty_start ending.Done cause text error is calm bad = absurd (network_without_fault text error cause.network (read_network input text is.told cause.network cause.read) bad)
  faulty_start (ending.KernelFailed left) cause text error is calm bad = absurd (network_without_fault text error cause.network (read_network input text is.told cause.network cause.read) bad)
  faulty_start ending.WriteFailed cause text error is calm bad = absurd (network_without_fault text error cause.network (read_network input text is.told cause.network cause.read) bad)
  faulty_start ending.ReadFailed cause text error is calm bad = absurd (omega arith)
  faulty_start ending.OutOfMemory cause text error is calm bad = inr refl
  faulty_start ending.Usage cause text error is calm bad = absurd cause
  faulty_start (ending.TooLong limit) (inl more) text error is calm bad = absurd (within_limit input.left text is more.1)
  faulty_start (ending.TooLong limit) (inr many) text error is calm bad = absurd (passed_without_fault text error limit (read_passed input text is.told limit many) bad)
  faulty_start (ending.Unreadable fault) cause text error is calm bad = inl (tells error cause.error fault (tree_fault_is_one text cause.error error (read_fault input text is.told fault cause) bad) cause.is)
  faulty_start (ending.OfUci status) cause text error is calm bad = absurd cause
  faulty_start (ending.OfRun end) cause text error is calm bad = absurd cause

  many_start : (end : Ending) → StartEnds devices input before after end → (text : List ℕ) (limit : ℕ) → IsInput input.left text → DidNotRise input.faults input.faults_now → PassesLimit text limit
      → OrLacksMemory (end ≡ ending.TooLong limit) end
  many_start ending.Done cause text limit is calm many = absurd (network_within text limit cause.network (read_network input text is.told cause.network cause.read) many)
  many_start (ending.KernelFailed left) cause text limit is calm many = absurd (network_within text limit cause.network (read_network input text is.told cause.network cause.read) many)
  many_start ending.WriteFailed cause text limit is calm many = absurd (network_within text limit cause.network (read_network input text is.told cause.network cause.read) many)
  many_start ending.ReadFailed cause text limit is calm many = absurd (omega arith)
  many_start ending.OutOfMemory cause text limit is calm many = inr refl
  many_start ending.Usage cause text limit is calm many = absurd cause
  many_start (ending.TooLong told) (inl more) text limit is calm many = absurd (within_limit input.left text is more.1)
  many_start (ending.TooLong told) (inr other) text limit is calm many = inl (ap ending.TooLong (one_limit text limit told many (read_passed input text is.told told other)))
  many_start (ending.Unreadable fault) cause text limit is calm many = absurd (passed_without_fault text cause.error limit many (read_fault input text is.told fault cause))
  many_start (ending.OfUci status) cause text limit is calm many = absurd cause
  many_start (ending.OfRun end) cause text limit is calm many = absurd cause

  up_start : (end : Ending) → StartEnds devices input before after end → (text : List ℕ) (network : Package) → IsCalm input before after → IsInput input.left text → IsNetwork text network → OrLacksMemory (end ≡ ending.Done) end
  up_start ending.Done cause text network calm is up = inl refl
  up_start (ending.KernelFailed left) cause text network calm is up = absurd (calm_start (ending.KernelFailed left) cause calm tt)
  up_start ending.WriteFailed cause text network calm is up = absurd (calm_start ending.WriteFailed cause calm tt)
  up_start ending.ReadFailed cause text network calm is up = absurd (calm_start ending.ReadFailed cause calm tt)
  up_start ending.OutOfMemory cause text network calm is up = inr refl
  up_start ending.Usage cause text network calm is up = absurd cause
  up_start (ending.TooLong limit) (inl more) text network calm is up = absurd (within_limit input.left text is more.1)
  up_start (ending.TooLong limit) (inr many) text network calm is up = absurd (network_within text limit network up (read_passed input text is.told limit many))
  up_start (ending.Unreadable fault) cause text network calm is up = absurd (network_without_fault text cause.error network up (read_fault input text is.told fault cause))
  up_start (ending.OfUci status) cause text network calm is up = absurd cause
  up_start (ending.OfRun end) cause text network calm is up = absurd cause

  -- a run over a network that was not cut short: done, and nothing is due, or stopped at the kernel, and something is
  module _ (text : List ℕ) (network : Package) (is : IsInput input.left text) (up : IsNetwork text network) where
    same_wants : (other : Package) (between : Outside) → HasNetwork input other → after.devices ≡ between.devices → start_wants other (present_of between.devices devices) ≡ start_wants network (present_of after.devices devices)
    same_wants other between read same =
        ap (λ n. start_wants n (present_of between.devices devices)) (network_one text network other up (read_network input text is.told other read))
        ∙ ap (λ d. start_wants network (present_of d devices)) (sym same)

    due_start : (end : Ending) → StartEnds devices input before after end → (IsCutShort end → ⊥) → IsKernelFailed end ↔ (HoldsWanted devices network after → ⊥)
    due_start ending.Done cause whole = (λ failed. absurd failed, λ due. absurd (due (cause.did.settled.held ∙ same_wants cause.network cause.did.between cause.read cause.did.settled.reached.devices)))
    due_start (ending.KernelFailed left) cause whole =
        let stopped = cause.did.settled in (
          λ failed holds. some_due after.devices after.objects (start_wants cause.network (present_of cause.did.between.devices devices)) stopped.failed stopped.others stopped.left
              (holds ∙ sym (same_wants cause.network cause.did.between cause.read stopped.reached.devices)),
          λ due. tt,
        )
    due_start ending.WriteFailed cause whole = absurd (whole tt)
    due_start ending.ReadFailed cause whole = absurd (whole tt)
    due_start ending.OutOfMemory cause whole = absurd (whole tt)
    due_start ending.Usage cause whole = absurd cause
    due_start (ending.TooLong limit) (inl more) whole = absurd (within_limit input.left text is more.1)
    due_start (ending.TooLong limit) (inr many) whole = absurd (network_within text limit network up (read_passed input text is.told limit many))
    due_start (ending.Unreadable fault) cause whole = absurd (network_without_fault text cause.error network up (read_fault input text is.told fault cause))
    due_start (ending.OfUci status) cause whole = absurd cause
    due_start (ending.OfRun end) cause whole = absurd cause

    done_start : (end : Ending) → StartEnds devices input before after end → (IsCutShort end → ⊥) → (end ≡ ending.Done) ↔ HoldsWanted devices network after
    done_start ending.Done cause whole = (λ done. cause.did.settled.held ∙ same_wants cause.network cause.did.between cause.read cause.did.settled.reached.devices, λ none. refl)
    done_start (ending.KernelFailed left) cause whole = (λ done. absurd (cc done), λ none. absurd ((due_start (ending.KernelFailed left) cause whole).0 tt none))
    done_start ending.WriteFailed cause whole = absurd (whole tt)
    done_start ending.ReadFailed cause whole = absurd (whole tt)
    done_start ending.OutOfMemory cause whole = absurd (whole tt)
    done_start ending.Usage cause whole = absurd cause
    done_start (ending.TooLong limit) (inl more) whole = absurd (within_limit input.left text is more.1)
    done_start (ending.TooLong limit) (inr many) whole = absurd (network_within text limit network up (read_passed input text is.told limit many))
    done_start (ending.Unreadable fault) cause whole = absurd (network_without_fault text cause.error network up (read_fault input text is.told fault cause))
    done_start (ending.OfUci status) cause whole = absurd cause
    done_start (ending.OfRun end) cause whole = absurd cause

  pub start_comes : (end : Ending) → StartEnds devices input before after end → StartComes devices input before after end
  start_comes end cause = record {
    calm = calm_start end cause;
    long = long_start end cause;
    no_package = faulty_start end cause;
    too_many = many_start end cause;
    up = up_start end cause;
    due = λ text network is up. due_start text network is up end cause;
    nothing_due = λ text network is up. done_start text network is up end cause;
  }
