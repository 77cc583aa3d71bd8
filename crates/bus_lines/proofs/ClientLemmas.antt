-- Lines of clients.
use Rattle.std.proofs.Common.{ℕ, ◌≡◌, ◌++◌, List, [], Option, Some, None, refl, ap, subst, sym, ◌∙◌, append-nil}
use Rattle.std.specs.Prelude.{Result, Ok, Err, IfOk, ◌≢◌}
use Rattle.std.specs.Option.{option_map}
use Rattle.kern_model.specs.declared.kernel.Asked.{Asked}
use Rattle.ubus_frames.specs.declared.frame_error.FrameError.{FrameError}
use Rattle.uci_tool.specs.Folder.{Folder}
use Rattle.script_lines.specs.ErrorLine.{error_line}
use Rattle.step_net.specs.Moved.{Telling}
use Rattle.bus_clients.specs.declared.client_error.ClientError.{ClientError}
use Rattle.bus_clients.specs.declared.client_error.ClientError.TheVariants as client
use Rattle.bus_clients.specs.declared.clients.Fed.{Fed}
use Rattle.bus_clients.specs.declared.clients.ScriptClient.{ScriptClient}
use Rattle.bus_clients.specs.Clients.{client_at}
use Rattle.bus_clients.specs.Fed.{HasFed}
use Rattle.bus_clients.specs.Bus.{BusPart, Came, closed}
use Rattle.rpc_objects.specs.declared.uci_answer.CallStop.{CallStop}
use Rattle.rpc_objects.specs.declared.uci_answer.CallStop.TheVariants as stop
use Rattle.rpc_objects.specs.Cut.{IsCutSo, untouched}
use Rattle.bus_lines.specs.declared.gathered.Gathered.{Gathered}
use Rattle.bus_lines.specs.declared.handled.Handled.{Handled}
use Rattle.bus_lines.specs.World.{World}
use Rattle.plane_outside.specs.Supply.{Uses}
use Rattle.bus_lines.specs.Did.{Did, first_of, followed, refused_did}
use Rattle.bus_lines.specs.ClientLine.{BytesDo, error_of, fault_error, came_did, came_or_refused, fault_did, fed_world, or_memory}
use Rattle.bus_lines.specs.Cut.{BytesCut, FramesCut}
use Rattle.bus_lines.specs.Passed.{BytesPass, FramesPass}
use Rattle.bus_lines.specs.Ended.{Seen, AsksBy, IsTold as LineTold, IsDone, Ends}
use Rattle.bus_lines.specs.Frames.{FedDoes, HasServed, ServeEnds}
use Rattle.bus_lines.specs.Replied.{TellsError}
use Rattle.bus_lines.specs.Told.{TellsOf, RefusesClient, came_or_stays, faulted, EndsBytes}
use Rattle.bus_lines.proofs.FrameLemmas.{map_first}
use Rattle.bus_lines.proofs.FramesLemmas.{frames_reply, served_halts}
use Rattle.bus_lines.proofs.ToldLemmas.{fault_line}

-- ---- clients that open and close

-- a line that leaves all but the bus
pub came_done : (world : World) (part : BusPart) (seen : Seen) (expected : Result Came ClientError)
    (told : Handled) → AsksBy [] [] seen.kernel → Uses seen.supply [] seen.supply_now
    → TellsOf expected world.bus part told
    → IsDone (λ words failures did. did ≡ came_or_refused world expected) (record world { bus = part }) seen told
came_done world part seen (Ok came) told asked used tells = record {
  words = [];
  failures = [];
  did = came_did world came;
  does = refl;
  is = record {
    world = ap (λ (p : BusPart). record world { bus = p }) tells.part;
    asked = asked;
    used = used;
    sent = tells.sent;
    shown = ap (λ (t : Telling). t.shown) tells.telling;
    refusal = ap (λ (t : Telling). t.refusal) tells.telling;
  };
}
came_done world part seen (Err why) told asked used tells = record {
  words = [];
  failures = [];
  did = refused_did world (error_of why);
  does = refl;
  is = record {
    world = ap (λ (p : BusPart). record world { bus = p }) tells.part;
    asked = asked;
    used = used;
    sent = tells.tells.sent;
    shown = ap (λ (t : Telling). t.shown) tells.tells.telling;
    refusal = ap (λ (t : Telling). t.refusal) tells.tells.telling;
  };
}

pub came_ends : {M : Type 0} (world : World) (part : BusPart) (seen : Seen)
    (expected : Result Came ClientError) (result : Result Handled M) (all : Result Handled CallStop)
    → all ≡ or_memory result → AsksBy [] [] seen.kernel → Uses seen.supply [] seen.supply_now
    → IsCutSo (untouched world.net) world.net seen.kernel
    → IfOk result (TellsOf expected world.bus part)
    → Ends (λ words failures did. did ≡ came_or_refused world expected)
    (λ cut. cut ≡ untouched world.net) (λ folder. folder ≡ world.files) (record world { bus = part }) seen all
came_ends world part seen expected (Ok told) all is asked used left tells =
    subst (λ (r : Result Handled CallStop). Ends (λ words failures did. did ≡ came_or_refused world expected)
    (λ cut. cut ≡ untouched world.net) (λ folder. folder ≡ world.files) (record world { bus = part }) seen r)
    (sym is) (came_done world part seen expected told asked used tells)
came_ends world part seen expected (Err lacks) all is asked used left tells =
    subst (λ (r : Result Handled CallStop). Ends (λ words failures did. did ≡ came_or_refused world expected)
    (λ cut. cut ≡ untouched world.net) (λ folder. folder ≡ world.files) (record world { bus = part }) seen r)
    (sym is) (record { cut = untouched world.net; cuts = refl; left = left; files = refl })

-- ---- the end of a line of bytes

-- what a fault does
fault_is : (world : World) (key : ℕ) (fault : Option FrameError) → fault_did world key fault ≡ record {
  world = record world { bus = (faulted world.bus key fault).part };
  asked = [];
  sent = (faulted world.bus key fault).told;
  requests = [];
  reply = [];
  refusal = option_map fault_error fault;
  words = [];
}
fault_is world key None = refl
fault_is world key (Some why) = at (closed world.bus key)
  where
    at : (answer : Result Came ClientError)
        → record (came_or_refused world answer) { refusal = Some (fault_error why) } ≡ record {
          world = record world { bus = (came_or_stays world.bus answer).part };
          asked = [];
          sent = (came_or_stays world.bus answer).told;
          requests = [];
          reply = [];
          refusal = Some (fault_error why);
          words = [];
        }
    at (Ok came) = refl
    at (Err e) = refl

-- the frames were served, and then their fault
pub fed_done : (world : World) (key : ℕ) (fed : Fed) (mid : World) (part : BusPart) (seen : Seen)
    (all : Gathered) (told : Handled) → HasServed world fed.number fed.frames mid seen all
    → EndsBytes mid.bus key fed.fault all part told
    → IsDone (FedDoes world key fed) (record mid { bus = part }) seen told
fed_done world key fed mid part seen all told served ends =
    let front = served.did in
    let came = faulted front.world.bus key fed.fault in
    let fault : Did = record {
      world = record front.world { bus = came.part };
      asked = [];
      sent = came.told;
      requests = [];
      reply = [];
      refusal = option_map fault_error fed.fault;
      words = [];
    } in
    let came_is : faulted mid.bus key fed.fault ≡ came =
    ap (λ (w : World). faulted w.bus key fed.fault) served.next in
    let reply : front.reply ≡ [] =
    frames_reply world fed.number fed.frames served.words served.failures front served.does in
    let is : LineTold (followed front fault) served.failures (record mid { bus = part }) seen told = record {
      world = ap (λ (w : World). record w { bus = part }) served.next
          ∙ ap (λ (p : BusPart). record front.world { bus = p }) (ends.part ∙ ap (λ (c : Came). c.part) came_is);
      asked = subst (λ (a : List Asked). AsksBy a served.failures seen.kernel) (sym (append-nil front.asked)) served.asked;
      used = subst (λ (w : List ℕ). Uses seen.supply w seen.supply_now) (sym (append-nil front.words)) served.used;
      sent = ends.sent ∙ ap (λ (s : List ℕ). s ++ (faulted mid.bus key fed.fault).told) served.sent
          ∙ ap (λ (c : Came). front.sent ++ c.told) came_is;
      shown = ends.shown ∙ served.requests ∙ sym (append-nil front.requests)
          ∙ sym (append-nil (front.requests ++ []))
          ∙ ap (λ (r : List ℕ). (front.requests ++ []) ++ r) (sym (append-nil front.reply ∙ reply));
      refusal = ends.refusal
          ∙ ap (λ (r : Option (List ℕ)). first_of r (option_map (λ why. error_line (fault_error why)) fed.fault)) served.refusal
          ∙ ap (λ (r : Option (List ℕ)). first_of (option_map error_line front.refusal) r) (fault_line fed.fault)
          ∙ sym (map_first error_line front.refusal (option_map fault_error fed.fault));
    } in
    record {
      words = served.words;
      failures = served.failures;
      did = followed front (fault_did front.world key fed.fault);
      does = record { front = front; frames = served.does; is = refl };
      is = subst (λ (d : Did). LineTold (followed front d) served.failures (record mid { bus = part }) seen told)
          (sym (fault_is front.world key fed.fault)) is;
    }

pub fed_ends : {M : Type 0} (world : World) (key : ℕ) (fed : Fed) (mid : World) (part : BusPart)
    (seen : Seen) (all : Gathered) (result : Result Handled M) (whole : Result Handled CallStop)
    → whole ≡ or_memory result → HasServed world fed.number fed.frames mid seen all
    → IfOk result (EndsBytes mid.bus key fed.fault all part)
    → Ends (FedDoes world key fed) (FramesCut world fed.number fed.frames)
    (FramesPass world fed.number fed.frames) (record mid { bus = part }) seen whole
fed_ends world key fed mid part seen all (Ok told) whole is served ends =
    subst (λ (r : Result Handled CallStop). Ends (FedDoes world key fed) (FramesCut world fed.number fed.frames)
    (FramesPass world fed.number fed.frames) (record mid { bus = part }) seen r) (sym is)
    (fed_done world key fed mid part seen all told served ends)
fed_ends world key fed mid part seen all (Err lacks) whole is served ends =
    subst (λ (r : Result Handled CallStop). Ends (FedDoes world key fed) (FramesCut world fed.number fed.frames)
    (FramesPass world fed.number fed.frames) (record mid { bus = part }) seen r) (sym is)
    (served_halts world fed.number fed.frames mid part seen all served)

-- the frames were stopped
pub fed_stopped : (world : World) (key : ℕ) (fed : Fed) (now : World) (seen : Seen) (why : CallStop)
    → ServeEnds world fed.number fed.frames (FramesCut world fed.number fed.frames)
    (FramesPass world fed.number fed.frames) now seen (Err why)
    → Ends (FedDoes world key fed) (FramesCut world fed.number fed.frames)
    (FramesPass world fed.number fed.frames) now seen (Err why)
fed_stopped world key fed now seen stop.DiskFailed ends = ends
fed_stopped world key fed now seen stop.Memory ends = ends

-- ---- the whole line

module _ (world : World) (key : ℕ) (bytes : List ℕ) (fed : Fed) (clients : List ScriptClient)
    (has : HasFed key bytes world.bus.clients clients fed) where
  pub bytes_pass : (folder : Folder) → FramesPass (fed_world world clients) fed.number fed.frames folder
      → BytesPass world key bytes folder
  bytes_pass folder passes = BytesPass.within fed clients has folder passes

  pub bytes_end : (now : World) (seen : Seen) (result : Result Handled CallStop)
      → Ends (FedDoes (fed_world world clients) key fed)
      (FramesCut (fed_world world clients) fed.number fed.frames)
      (FramesPass (fed_world world clients) fed.number fed.frames) now seen result
      → Ends (BytesDo world key bytes) (BytesCut world key bytes) (BytesPass world key bytes) now seen result
  bytes_end now seen (Ok told) done = record {
    words = done.words;
    failures = done.failures;
    did = done.did;
    does = subst (BytesDo world key bytes done.words done.failures) (sym done.does.is)
        (BytesDo.served fed clients has done.does.front done.does.frames);
    is = done.is;
  }
  bytes_end now seen (Err stop.DiskFailed) failed = record {
    cause = failed.cause;
    cut = failed.cut;
    cuts = BytesCut.within fed clients has failed.cut failed.cuts;
    left = failed.left;
  }
  bytes_end now seen (Err stop.Memory) halted = record {
    cut = halted.cut;
    cuts = BytesCut.within fed clients has halted.cut halted.cuts;
    left = halted.left;
    files = bytes_pass now.files halted.files;
  }

  -- the same, of a world that is what the feed left
  module _ (at : World) (left : at ≡ fed_world world clients) where
    pub passes_at : (folder : Folder) → FramesPass at fed.number fed.frames folder → BytesPass world key bytes folder
    passes_at folder passes =
        bytes_pass folder (subst (λ (w : World). FramesPass w fed.number fed.frames folder) left passes)

    pub ends_at : (now : World) (seen : Seen) (result : Result Handled CallStop)
        → Ends (FedDoes at key fed) (FramesCut at fed.number fed.frames)
        (FramesPass at fed.number fed.frames) now seen result
        → Ends (BytesDo world key bytes) (BytesCut world key bytes) (BytesPass world key bytes) now seen result
    ends_at now seen result ends =
        bytes_end now seen result
        (subst (λ (w : World). Ends (FedDoes w key fed) (FramesCut w fed.number fed.frames)
        (FramesPass w fed.number fed.frames) now seen result) left ends)

-- the script has no such client
module _ (world : World) (key : ℕ) (bytes : List ℕ) (seen : Seen) (asked : AsksBy [] [] seen.kernel)
    (used : Uses seen.supply [] seen.supply_now) where
  unknown_done : (told : Handled) → client_at world.bus.clients key ≡ None
      → TellsError (error_of client.NoClient) told
      → IsDone (BytesDo world key bytes) world seen told
  unknown_done told none tells = record {
    words = [];
    failures = [];
    did = refused_did world (error_of client.NoClient);
    does = BytesDo.unknown none;
    is = record {
      world = refl;
      asked = asked;
      used = used;
      sent = tells.sent;
      shown = ap (λ (t : Telling). t.shown) tells.telling;
      refusal = ap (λ (t : Telling). t.refusal) tells.telling;
    };
  }

  pub unknown_ends : {X M : Type 0} (part : BusPart) (fed : Result X ClientError) (error : ClientError)
      (result : Result Handled M) (whole : Result Handled CallStop) → fed ≡ Err error
      → (fed ≡ Err client.NoClient → client_at world.bus.clients key ≡ None)
      → (fed ≡ Err client.NoClient → part ≡ world.bus)
      → (fed ≢ Err client.ClientOpen) × (fed ≢ Err client.Full) → whole ≡ or_memory result
      → IsCutSo (untouched world.net) world.net seen.kernel
      → IfOk result (RefusesClient error)
      → Ends (BytesDo world key bytes) (BytesCut world key bytes) (BytesPass world key bytes)
      (record world { bus = part }) seen whole
  unknown_ends part fed error (Err lacks) whole is none same others all left tells =
      subst (λ (r : Result Handled CallStop). Ends (BytesDo world key bytes) (BytesCut world key bytes)
      (BytesPass world key bytes) (record world { bus = part }) seen r) (sym all)
      (record { cut = untouched world.net; cuts = BytesCut.in_front; left = left; files = BytesPass.front })
  unknown_ends part fed client.Memory (Ok told) whole is none same others all left tells =
      absurd (tells.not refl)
  unknown_ends part fed client.ClientOpen (Ok told) whole is none same others all left tells = absurd (others.0 is)
  unknown_ends part fed client.Full (Ok told) whole is none same others all left tells = absurd (others.1 is)
  unknown_ends part fed client.NoClient (Ok told) whole is none same others all left tells =
      subst (λ (r : Result Handled CallStop). Ends (BytesDo world key bytes) (BytesCut world key bytes)
      (BytesPass world key bytes) (record world { bus = part }) seen r) (sym all)
      (subst (λ (p : BusPart). IsDone (BytesDo world key bytes) (record world { bus = p }) seen told)
      (sym (same is)) (unknown_done told (none is) tells.tells))
