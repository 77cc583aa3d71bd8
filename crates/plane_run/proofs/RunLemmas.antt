-- The whole run.
use Rattle.std.proofs.Common.{arith, ℕ, ◌≡◌, ◌≤◌, inl, inr, false, List, [], ◌∷◌, ◌++◌, Some, None, refl, ap, sym, subst, ◌∙◌}
use Rattle.std.specs.Prelude.{Ok, Err}
use Rattle.plane_words.specs.Causes.{Rose, RoseBy}
use Rattle.plane_disk.specs.Files.{Files}
use Rattle.plane_disk.specs.View.{View}
use Rattle.kern_model.specs.ObjectOrder.{Objects}
use Rattle.snap_disk.specs.Images.{LeavesOnly, SameDisk}
use Rattle.snap_disk.specs.Opening.{FromImage}
use Rattle.snap_disk.specs.declared.snap_error.SnapError.TheVariants as snap_error
use Rattle.snap_disk.proofs.LoadLemmas.{same_join}
use Rattle.snap_disk.proofs.Moments.{joins, widens}
use Rattle.uci_text.specs.declared.line.Line.{Line}
use Rattle.uci_tree.specs.declared.package.Package.{Package}
use Rattle.uci_staged.specs.Kept.{ReadsOn}
use Rattle.uci_store.specs.declared.store.Store.{Store}
use Rattle.uci_store.specs.declared.store_error.StoreError.{StoreError}
use Rattle.uci_store.specs.declared.store_error.StoreError.TheVariants as store_error
use Rattle.uci_store.specs.Opening.{OpenRefuses}
use Rattle.uci_store.specs.Store.{has_failed, IsOnFiles}
use Rattle.uci_tool.specs.Ends.{Stream}
use Rattle.uci_tool.specs.Folder.{folder_of}
use Rattle.uci_tool.specs.Folders.{IsFound, IsHeld, StopsAsFound}
use Rattle.net_rules.specs.Moment.{Moment, want_of}
use Rattle.net_settle.specs.Outside.{Outside}
use Rattle.step_net.specs.Loaded.{network_name, wireless_name, IsLoaded}
use Rattle.step_net.specs.Finished.{HoldsOrFailed}
use Rattle.ubus_acl.specs.declared.acl.Acl.{Acl}
use Rattle.rpc_session.specs.SessionList.{SessionList}
use Rattle.rpc_session.specs.Sessions.{start as first_sessions}
use Rattle.bus_clients.specs.Bus.{BusPart, begun}
use Rattle.rpc_objects.specs.Passed.{OpensIn, StaysOrStopsIn}
use Rattle.bus_lines.specs.World.{World}
use Rattle.plane_outside.specs.Supply.{Supply, supply_of}
use Rattle.plane_step.specs.Moved.{Moved}
use Rattle.plane_step.specs.ScriptPasses.{ScriptPasses}
use Rattle.plane_step.specs.Kept.{DiskFaults, DiskRose, faults_of}
use Rattle.plane_run.specs.declared.run_end.RunEnd.{RunEnd}
use Rattle.plane_run.specs.declared.run_end.RunEnd.TheVariants as end
use Rattle.plane_run.specs.Opening.{First, start_world}
use Rattle.plane_run.specs.Run as run
use Rattle.plane_run.specs.Run.{Stage, Seen, HasEnded, IsAlone, WasCut, HasLacked, StopsInLine, GoesOn, IsKernelFailed, NotOpened, RunEnds, disks_of}
use Rattle.plane_run.specs.Stops.{ImagesOf, RunStops, ScriptStops, StoreStops}
use Rattle.plane_run.specs.Parts as parts
use Rattle.plane_run.specs.Parts.{OpensNet, RowsRefuse, Over, RunsOver, KeepsDisks, StillHolds, shut_of, folder_in, world_in, stage_in}

-- ---- over an open store

-- why the plane was not opened on rows that were loaded
pub net_over : (X : Type 0) (over : Over) (network wireless : Package) (net : Moment) (why : RunEnd)
    → IsLoaded (folder_in over) network_name network
    → IsLoaded (folder_in over) wireless_name wireless
    → OpensNet {X = X} network wireless net over.before over.after (Err why) → over.stays
    → StillHolds over → RunsOver over why
net_over X over network wireless net end.WriteFailed one two h still held =
    parts.cut refl network wireless (record { of_network = one; of_wireless = two; within = h.0 }) h.1 held
net_over X over network wireless net (end.TooLong limit) one two h still held =
    parts.too_long network wireless one two limit refl h.0 h.1 still held
net_over X over network wireless net end.OutOfMemory one two h still held =
    parts.no_rows tt h still held
net_over X over network wireless net end.Done one two h still held = absurd h
net_over X over network wireless net end.Refused one two h still held = absurd h
net_over X over network wireless net end.ReadFailed one two h still held = absurd h
net_over X over network wireless net end.DiskFailed one two h still held = absurd h
net_over X over network wireless net (end.KernelFailed left) one two h still held = absurd h
net_over X over network wireless net (end.Unreadable row_package fault) one two h still held = absurd h
net_over X over network wireless net (end.BadSnapshot byte) one two h still held = absurd h

rose_on : (m a b c : ℕ) → RoseBy m a b → Rose b c → Rose a c
rose_on m a b c first second = omega (arith, first, second)

rose_still : (m a b c : ℕ) → Rose a b → RoseBy m b c → Rose a c
rose_still m a b c first second = omega (arith, first, second)

-- where objects are due, the kernel failed in the opening or behind it
due_over : (start : World) (stage : Stage) (ending : RunEnd) (m faults : ℕ) (objects wanted : Objects)
    → RoseBy m faults stage.between.kernel_faults
    → HoldsOrFailed objects wanted faults stage.between.kernel_faults
    → (objects ≡ wanted → IsKernelFailed ending
    → Rose stage.between.kernel_faults stage.after.kernel_faults)
    → GoesOn start stage ending → IsKernelFailed ending → Rose faults stage.after.kernel_faults
due_over start stage ending m faults objects wanted first (inl holds) due goes failed =
    rose_on m faults stage.between.kernel_faults stage.after.kernel_faults first (due holds failed)
due_over start stage (end.KernelFailed left) m faults objects wanted first (inr rose) due goes failed =
    rose_still _ faults stage.between.kernel_faults stage.after.kernel_faults rose goes.left.cause
due_over start stage end.Done m faults objects wanted first (inr rose) due goes failed = absurd failed
due_over start stage end.Refused m faults objects wanted first (inr rose) due goes failed = absurd failed
due_over start stage end.ReadFailed m faults objects wanted first (inr rose) due goes failed = absurd failed
due_over start stage end.WriteFailed m faults objects wanted first (inr rose) due goes failed = absurd failed
due_over start stage end.DiskFailed m faults objects wanted first (inr rose) due goes failed = absurd failed
due_over start stage end.OutOfMemory m faults objects wanted first (inr rose) due goes failed = absurd failed
due_over start stage (end.Unreadable row_package fault) m faults objects wanted first (inr rose) due goes failed = absurd failed
due_over start stage (end.TooLong limit) m faults objects wanted first (inr rose) due goes failed = absurd failed
due_over start stage (end.BadSnapshot byte) m faults objects wanted first (inr rose) due goes failed = absurd failed

-- the plane was opened, and the run went on from a world of these sessions and this bus
module _ (over : Over) (Images : Supply → World → List Line → Type 0) (sessions : SessionList)
    (bus : BusPart) (words : Supply) (at_start : sessions ≡ first_sessions)
    (is_begun : bus ≡ begun over.acl) (same : words ≡ over.words) where
  abbrev world_at : Moment → World
  world_at net = record {
    now = over.now;
    files = folder_in over;
    sessions = sessions;
    bus = bus;
    net = net;
  }

  abbrev stage_at : Supply → World → Outside → Stage
  stage_at supply start between = record (stage_in over start between) {
    words = supply;
    images = Images supply start;
  }

  pub went_over : (between : Outside) (network wireless : Package) (net : Moment) (ending : RunEnd)
      → IsLoaded (folder_in over) network_name network
      → IsLoaded (folder_in over) wireless_name wireless
      → OpensNet {X = Unit {0}} network wireless net over.before between (Ok (tt {0}))
      → between.objects ≡ net.held
      → HoldsOrFailed between.objects (want_of net.inputs) over.before.kernel_faults
      between.kernel_faults
      → GoesOn (world_at net) (stage_at words (world_at net) between) ending
      → (between.objects ≡ want_of net.inputs → IsKernelFailed ending
      → Rose between.kernel_faults over.after.kernel_faults)
      → RunsOver (record over { images = Images over.words }) ending
  went_over between network wireless net ending one two opens objects holds goes due =
      let is = opens.1 in
      let there : world_at net ≡ world_in over network wireless is.failed_after =
      λ i. record {
        now = over.now;
        files = folder_in over;
        sessions = at_start i;
        bus = is_begun i;
        net = is.next i;
      } in
      let on = subst (λ (supply : Supply). GoesOn (world_at net) (stage_at supply (world_at net) between) ending)
      same goes in
      parts.opened between network wireless (record { of_network = one; of_wireless = two; within = opens.0 })
      is.failed_after is.left (objects ∙ ap (λ (m : Moment). m.held) is.next)
      (subst (λ (w : World). GoesOn w (stage_at over.words w between) ending) there on)
      (due_over (world_at net) (stage_at words (world_at net) between) ending _ over.before.kernel_faults
      between.objects (want_of net.inputs) is.left.cause holds due goes)

  -- what a stop leaves
  pub stops_after : {D : Type 0} (view : D → View) (old new : D) (before between : Outside)
      (network wireless : Package) (net : Moment) → IsLoaded (folder_in over) network_name network
      → IsLoaded (folder_in over) wireless_name wireless
      → OpensNet {X = Unit {0}} network wireless net before between (Ok (tt {0}))
      → ScriptStops (world_at net) words over.store over.input view old new
      → StoreStops over.now over.acl over.words over.store over.input view old new
  stops_after view old new before between network wireless net one two opens stops =
      let is = opens.1 in
      let there : world_at net ≡ world_in over network wireless is.failed_after =
      λ i. record {
        now = over.now;
        files = folder_in over;
        sessions = at_start i;
        bus = is_begun i;
        net = is.next i;
      } in
      let on = subst (λ (supply : Supply). ScriptStops (world_at net) supply over.store over.input view old new)
      same stops in
      inr (
        network,
        wireless,
        record { of_network = one; of_wireless = two; within = opens.0 },
        is.failed_after,
        subst (λ (w : World). ScriptStops w over.words over.store over.input view old new) there on,
      )

-- ---- the whole run

-- why the store did not open
pub shut : (seen : Seen) (e : StoreError)
    → OpenRefuses seen.first.files seen.files_now seen.first.staged seen.staged_now seen.first.now e
    → NotOpened seen (shut_of e)
shut seen (store_error.Snap snap_error.DiskFailed) why = why
shut seen (store_error.Snap (snap_error.BadSnapshot byte)) why = why
shut seen (store_error.Snap (snap_error.Limit number)) why = run.of_folder why
shut seen (store_error.Snap snap_error.Memory) why = absurd why
shut seen (store_error.Snap (snap_error.Waiting deadline)) why = absurd why
shut seen (store_error.Snap snap_error.NothingWaits) why = absurd why
shut seen (store_error.Snap snap_error.Reopen) why = absurd why
shut seen store_error.Memory why = tt
shut seen store_error.NoPackage why = absurd why
shut seen (store_error.Parse error) why = absurd why
shut seen (store_error.Delta error) why = absurd why
shut seen (store_error.TooLarge bytes) why = absurd why
shut seen (store_error.NotHolder holder) why = absurd why
shut seen store_error.NothingStaged why = absurd why

rose_before : (a b c : ℕ) → a ≤ b → Rose b c → Rose a c
rose_before a b c first rose = omega (arith, first, rose)

disk_before : (f a b s c d : ℕ) → f ≤ a → s ≤ c
    → DiskRose (record { files = a; files_now = b; staged = c; staged_now = d })
    → DiskRose (record { files = f; files_now = b; staged = s; staged_now = d })
disk_before f a b s c d one two (inl rose) = inl (rose_before f a b one rose)
disk_before f a b s c d one two (inr rose) = inr (rose_before s c d two rose)

-- a disk that failed behind the opening failed in the run, and its images are those since the start
module _ (start : World) (mid : Stage) (disks : DiskFaults)
    (rose : DiskRose mid.disks → DiskRose disks) (First : List Line → Type 0)
    (carry : (lines : List Line) → mid.images lines → First lines) where
  abbrev first_on : Stage
  first_on = record mid { disks = disks; images = First }

  ended_from : (Ends : Moved → Type 0) → HasEnded start mid Ends → HasEnded start first_on Ends
  ended_from Ends h = record {
    script = h.script;
    read = h.read;
    lucks = h.lucks;
    last = h.last;
    gives = h.gives;
    words = h.words;
    used = h.used;
    left = h.left;
    objects = h.objects;
    devices = h.devices;
    held = h.held;
    ends = h.ends;
  }

  alone_from : IsAlone start mid → IsAlone start first_on
  alone_from h = record { same = h.same; held = h.held }

  line_from : (One Other : Line → World → Outside → Outside → Type 0)
      → ((line : Line) (world : World) (x y : Outside) → One line world x y → Other line world x y)
      → StopsInLine start mid One → StopsInLine start first_on Other
  line_from One Other go h = record {
    lines = h.lines;
    read = h.read;
    stops = record {
      done = h.stops.done;
      line = h.stops.line;
      rest = h.stops.rest;
      parts = h.stops.parts;
      world = h.stops.world;
      is_ok = h.stops.is_ok;
      words = h.stops.words;
      between = h.stops.between;
      ran = h.stops.ran;
      stops = go h.stops.line h.stops.world h.stops.between mid.after h.stops.stops;
      images = carry (h.stops.done ++ h.stops.line ∷ []) h.stops.images;
    };
  }

  cut_from : WasCut start mid → WasCut start first_on
  cut_from (run.in_answer line read left objects rose held) =
      run.in_answer line read left objects rose held
  cut_from (WasCut.in_line now stops held) =
      WasCut.in_line now (line_from _ _ (λ line world x y h. h) stops) held

  lacked_from : HasLacked start mid → HasLacked start first_on
  lacked_from (run.in_front alone) = run.in_front (alone_from alone)
  lacked_from (HasLacked.in_line now stops held) =
      HasLacked.in_line now (line_from _ _ (λ line world x y h. h) stops) held

  pub goes_from : (ending : RunEnd) → GoesOn start mid ending → GoesOn start first_on ending
  goes_from end.Done h = ended_from _ h
  goes_from end.Refused h = ended_from _ h
  goes_from (end.KernelFailed left) h = ended_from _ h
  goes_from end.ReadFailed h = (h.0, alone_from h.1)
  goes_from end.WriteFailed h = cut_from h
  goes_from end.DiskFailed h = line_from _ _
      (λ line world x y fails. record { cause = rose fails.cause; tells = fails.tells }) h
  goes_from end.OutOfMemory h = lacked_from h
  goes_from (end.TooLong limit) h = (h.0, h.1, alone_from h.2)
  goes_from (end.Unreadable row_package fault) h = absurd h
  goes_from (end.BadSnapshot byte) h = absurd h

-- what a run over the store comes to, from the disks as they were found
module _ (seen : Seen) (files_mid staged_mid : View) (store : Store)
    (one : seen.first.files.faults ≤ files_mid.faults) (two : seen.first.staged.faults ≤ staged_mid.faults)
    (found : IsFound seen.first.files seen.first.staged seen.first.now (folder_of store))
    (stays : Type 0) (as_found : stays → StopsAsFound seen.first.now seen.first.files seen.files_now)
    (Images : World → List Line → Type 0)
    (carry : (start : World) (lines : List Line) → Images start lines
    → ImagesOf seen.first seen.files_now start lines) where
  abbrev over : Over
  over = record {
    now = seen.first.now;
    acl = seen.first.acl;
    words = seen.first.words;
    store = store;
    input = seen.input;
    disks = faults_of files_mid seen.files_now staged_mid seen.staged_now;
    stays = stays;
    images = Images;
    files_now = seen.files_now;
    staged_now = seen.staged_now;
    before = seen.first.before;
    after = seen.after;
  }

  no_rows_end : (ending : RunEnd) → RowsRefuse (folder_of store) ending
      → IsHeld seen.files_now seen.staged_now (folder_of store) → NotOpened seen ending
  no_rows_end (end.Unreadable row_package fault) lacks held = (folder_of store, found, lacks, held)
  no_rows_end end.OutOfMemory lacks held = tt
  no_rows_end end.Done lacks held = absurd lacks
  no_rows_end end.Refused lacks held = absurd lacks
  no_rows_end end.ReadFailed lacks held = absurd lacks
  no_rows_end end.WriteFailed lacks held = absurd lacks
  no_rows_end end.DiskFailed lacks held = absurd lacks
  no_rows_end (end.KernelFailed left) lacks held = absurd lacks
  no_rows_end (end.TooLong limit) lacks held = absurd lacks
  no_rows_end (end.BadSnapshot byte) lacks held = absurd lacks

  pub over_ends : (ending : RunEnd) → RunsOver over ending → RunEnds seen ending
  over_ends ending (parts.no_rows lacks same still held) =
      run.not_opened (no_rows_end ending lacks held) same (as_found still)
  over_ends ending (parts.too_long network wireless first second limit is passed same still held) =
      run.not_opened
      (subst (NotOpened seen) (sym is) (run.of_rows (folder_of store) found network wireless first second passed held))
      same (as_found still)
  over_ends ending (parts.cut is network wireless rows cut held) =
      run.cut_in_opening is (folder_of store) found network wireless rows cut held
  over_ends ending (parts.opened between network wireless rows failed_after left objects goes due) =
      let start = world_in over network wireless failed_after in
      run.opened between
      (record {
        folder = folder_of store;
        found = found;
        network = network;
        wireless = wireless;
        rows = rows;
        failed_after = failed_after;
        left = left;
        objects = objects;
      })
      (goes_from start (stage_in over start between) (disks_of seen)
      (disk_before seen.first.files.faults files_mid.faults seen.files_now.faults seen.first.staged.faults
      staged_mid.faults seen.staged_now.faults one two)
      (ImagesOf seen.first seen.files_now start) (carry start) ending goes)
      due

-- ---- stops

module _ {D : Type 0} (view : D → View) (now : ℕ) (acl : Acl) (words : Supply) (staged : View)
    (before : Outside) (store : Store) (old mid new : D)
    (images : (read : Files) → (view old).seen ≡ Some read
    → LeavesOnly (view old) (view mid) (FromImage now (view old))) where
  abbrev first : First
  first = record {
    now = now;
    acl = acl;
    words = words;
    files = view old;
    staged = staged;
    before = before;
  }

  pub stops_as_found : new ≡ mid → StopsAsFound now (view old) (view new)
  stops_as_found same read tells =
      subst (λ (d : D). LeavesOnly (view old) (view d) (FromImage now (view old))) (sym same)
      (images read tells)

  pub images_over : SameDisk (view old) (view mid) → IsOnFiles store (view mid)
      → has_failed store ≡ false → (start : World) (lines : List Line)
      → StaysOrStopsIn store view mid new (ScriptPasses start words lines)
      → ImagesOf first (view new) start lines
  images_over same on ready start lines (inl e) read tells =
      widens (view old) (view new) (FromImage now (view old)) _ (stops_as_found e read tells)
      (λ image from. inl from)
  images_over same on ready start lines (inr stops) read tells =
      let seen = same.tells read tells in
      joins (view old) (view mid) (view new) (FromImage now (view old))
      (OpensIn (view mid).names (ScriptPasses start words lines)) _
      (images read tells) (stops (on.ready ready) seen.0 seen.1) (λ image from. inl from)
      (λ image opens. inr (subst (λ (ns : List (List ℕ)). OpensIn ns (ScriptPasses start words lines) image)
      same.names opens))

  pub stops_over : (input : Stream) → SameDisk (view old) (view mid) → IsOnFiles store (view mid)
      → has_failed store ≡ false → IsFound (view old) staged now (folder_of store)
      → StoreStops now acl words store input view mid new → RunStops first input (view new)
  stops_over input same on ready found (inl e) = inl (stops_as_found e)
  stops_over input same on ready found (inr (network, wireless, rows, failed_after, inl e)) =
      inl (stops_as_found e)
  stops_over input same on ready found (inr (network, wireless, rows, failed_after, inr h)) =
      inr (record {
        folder = folder_of store;
        found = found;
        network = network;
        wireless = wireless;
        rows = rows;
        failed_after = failed_after;
        lines = h.0;
        read = h.1;
        images = images_over same on ready
            (start_world now acl (folder_of store) network wireless failed_after) h.0 (inr h.2);
      })

pub keeps_both : (a b c d e f : View) → SameDisk a b → ReadsOn d e → KeepsDisks b c e f
    → KeepsDisks a c d f
keeps_both a b c d e f same reads keeps = record {
  same = same_join a b c same keeps.same;
  follows = record {
    names = keeps.follows.names ∙ reads.names;
    tells = λ files seen. keeps.follows.tells files (reads.seen ∙ seen);
    silent = λ unseen. keeps.follows.silent (reads.seen ∙ unseen);
    later = let x = reads.later in let y = keeps.follows.later in omega arith;
  };
}

pub keeps_read : (a b c d : View) → SameDisk a b → ReadsOn c d → KeepsDisks a b c d
keeps_read a b c d same reads = record {
  same = same;
  follows = record {
    names = reads.names;
    tells = λ files seen. (files, reads.seen ∙ seen);
    silent = λ unseen. reads.seen ∙ unseen;
    later = reads.later;
  };
}

-- where no word is at hand, the words to come are those of the source
pub no_spare : (source : Supply) → supply_of None source ≡ source
no_spare None = refl
no_spare (Some words) = refl
