-- Frames one after the other.
use Rattle.std.proofs.Common.{arith, ℕ, ◌≡◌, ◌+◌, List, [], ◌∷◌, ◌++◌, length, Option, Some, None, Bool, refl, ap, subst, sym, ◌∙◌, append-nil}
use Rattle.std.specs.Prelude.{Result, Err}
use Rattle.std.specs.Option.{option_map}
use Rattle.plane_words.specs.Causes.{RoseBy}
use Rattle.kern_model.specs.declared.kernel.Asked.{Asked}
use Rattle.kern_model.specs.Kernel.{Records}
use Rattle.ubus_frames.specs.declared.frame.Frame.{Frame}
use Rattle.ubus_table.specs.declared.rows.LocalCall.{LocalCall}
use Rattle.ubus_table.specs.Served.{frame as frame_event}
use Rattle.script_lines.specs.ErrorLine.{error_line}
use Rattle.step_net.specs.Moved.{failed_events}
use Rattle.bus_clients.specs.Bus.{BusPart, came_by}
use Rattle.rpc_objects.specs.declared.uci_answer.CallStop.{CallStop}
use Rattle.rpc_objects.specs.declared.uci_answer.CallStop.TheVariants as stop
use Rattle.rpc_objects.specs.Cut.{Cut, untouched}
use Rattle.rpc_objects.specs.Kept.{DiskFaults, DiskRose}
use Rattle.bus_lines.specs.declared.gathered.Gathered.{Gathered}
use Rattle.bus_lines.specs.World.{World, parts_of}
use Rattle.plane_outside.specs.Supply.{Supply, Uses}
use Rattle.bus_lines.specs.Did.{Did, first_of, nothing_did, followed}
use Rattle.bus_lines.specs.ClientLine.{CallAnswers, HandsOut, FrameDoes, FramesDo, came_did}
use Rattle.bus_lines.specs.Cut.{FrameCuts, FramesCut, cut_behind}
use Rattle.bus_lines.specs.Passed.{HandedPasses, FramePasses, FramesPass}
use Rattle.bus_lines.specs.Ended.{Seen, AsksBy, IsHalted}
use Rattle.bus_lines.specs.Frames.{HasStepped, StepEnds, OneDoes, OneCuts, HasServed, ServeEnds}
use Rattle.bus_lines.proofs.KeptLemmas.{AreAlso}
use Rattle.bus_lines.proofs.KernelLemmas.{asks_more, cut_more}
use Rattle.bus_lines.proofs.WordLemmas.{uses_more}
use Rattle.bus_lines.proofs.CallingLemmas.{done_passes}
use Rattle.bus_lines.proofs.FrameLemmas.{map_first}

-- no frame was served
pub none_served : (world : World) (number : ℕ) (seen : Seen) (all : Gathered)
    → AsksBy [] [] seen.kernel → Uses seen.supply [] seen.supply_now → all.sent.items ≡ []
    → all.requests.items ≡ [] → all.refusal ≡ None → HasServed world number [] world seen all
none_served world number seen all asked used sent requests refusal = record {
  words = [];
  failures = [];
  did = nothing_did world;
  does = FramesDo.none;
  next = refl;
  asked = asked;
  used = used;
  sent = sent;
  requests = requests;
  refusal = refusal;
}

-- ---- a frame behind others

-- it is one of all
module _ (world : World) (number : ℕ) (done : List Frame) (at : World) (seen : Seen) (all : Gathered)
    (served : HasServed world number done at seen all) (frame : Frame) (frames rest : List Frame)
    (parts : frames ≡ done ++ frame ∷ rest) where
  pub one_passes : AreAlso (FramePasses at number frame) (FramesPass world number frames)
  one_passes folder passes =
      FramesPass.within done frame rest parts served.words served.failures served.did served.does folder
      (subst (λ (w : World). FramePasses w number frame folder) served.next passes)

  pub one_cuts : (cut : Cut) → OneCuts at number frame cut
      → FramesCut world number frames (cut_behind served.did served.failures cut)
  one_cuts cut cuts =
      FramesCut.within done frame rest parts served.words served.failures served.did served.does cuts.word
      cut (subst (λ (w : World). FrameCuts w cuts.word number frame cut) served.next cuts.is)

module _ (asked between after : Option (List Asked)) (faults mid now : ℕ)
    (words mid_words now_words : Supply) (disks_front disks_after disks : DiskFaults) where
  abbrev pub front : Seen
  front = record {
    kernel = record { asked = asked; asked_now = between; faults = faults; faults_now = mid };
    supply = words;
    supply_now = mid_words;
    disks = disks_front;
  }

  abbrev pub behind : Seen
  behind = record {
    kernel = record { asked = between; asked_now = after; faults = mid; faults_now = now };
    supply = mid_words;
    supply_now = now_words;
    disks = disks_after;
  }

  abbrev pub both : Seen
  both = record {
    kernel = record { asked = asked; asked_now = after; faults = faults; faults_now = now };
    supply = words;
    supply_now = now_words;
    disks = disks;
  }

  module _ (world : World) (number : ℕ) (done : List Frame) (at : World) (all : Gathered)
      (served : HasServed world number done at front all) (frame : Frame) where
    -- one more was served
    pub one_more : (next : World) (more : Gathered) → HasStepped (OneDoes at number frame) next behind all more
        → HasServed world number (done ++ frame ∷ []) next both more
    one_more next more step = record {
      words = served.words ++ step.word ∷ [];
      failures = served.failures ++ step.failed ∷ [];
      did = followed served.did step.did;
      does = FramesDo.more done served.words served.failures served.did frame step.word step.failed step.did
          served.does
          (subst (λ (w : World). FrameDoes w step.word step.failed number frame step.did) served.next step.does);
      next = step.next;
      asked = asks_more asked between after faults mid now served.did.asked step.did.asked served.failures
          step.failed served.asked step.asked;
      used = uses_more words mid_words now_words served.did.words step.did.words served.used step.used;
      sent = step.gathers.sent ∙ ap (λ (s : List ℕ). s ++ step.did.sent) served.sent;
      requests = step.gathers.requests ∙ ap (λ (s : List ℕ). s ++ step.did.requests) served.requests;
      refusal = step.gathers.refusal
          ∙ ap (λ (r : Option (List ℕ)). first_of r (option_map error_line step.did.refusal)) served.refusal
          ∙ sym (map_first error_line served.did.refusal step.did.refusal);
    }

    -- it is one of these, and was stopped
    module _ (frames rest : List Frame) (parts : frames ≡ done ++ frame ∷ rest) where
      pub one_stopped : (X : Type 0) (next : World) (a b : Gathered) (why : CallStop)
          → (DiskRose disks_after → DiskRose disks)
          → StepEnds {X = X} (OneDoes at number frame) (OneCuts at number frame)
          (FramePasses at number frame) next behind a b (Err why)
          → ServeEnds world number frames (FramesCut world number frames)
          (FramesPass world number frames) next both (Err why)
      one_stopped X next a b stop.DiskFailed rose failed = record {
        cause = rose failed.cause;
        cut = cut_behind served.did served.failures failed.cut;
        cuts = one_cuts world number done at front all served frame frames rest parts failed.cut failed.cuts;
        left = cut_more asked between after faults mid now served.did.asked served.failures failed.cut
            next.net served.asked failed.left;
      }
      one_stopped X next a b stop.Memory rose halted = record {
        cut = cut_behind served.did served.failures halted.cut;
        cuts = one_cuts world number done at front all served frame frames rest parts halted.cut halted.cuts;
        left = cut_more asked between after faults mid now served.did.asked served.failures halted.cut
            next.net served.asked halted.left;
        files = one_passes world number done at front all served frame frames rest parts next.files halted.files;
      }

-- nothing is left
pub all_done : (frames done rest : List Frame) → frames ≡ done ++ rest → length rest ≡ 0 → done ≡ frames
all_done frames done [] parts none = sym (parts ∙ append-nil done)
all_done frames done (frame ∷ rest) parts none = absurd (omega arith)

-- ---- what frames left

-- the folder behind a frame is one that it passes through
answer_left : (world : World) (number : ℕ) (frame : Frame) (word : ℕ) (failed : Bool) (call : LocalCall)
    → (came_by world.bus (frame_event number frame)).call ≡ Some call → (did : Did)
    → CallAnswers (came_did world (came_by world.bus (frame_event number frame))).world word failed call did
    → FramePasses world number frame did.world.files
answer_left world number frame word failed call handed _ (CallAnswers.none is) = FramePasses.front
answer_left world number frame word failed call handed _ (CallAnswers.some object is done calls) =
    FramePasses.within call handed done.parts.files
    (HandedPasses.within object is done.parts.files
    (done_passes world.now word failed
    (parts_of (came_did world (came_by world.bus (frame_event number frame))).world) object call.method
    call.args done calls))

hands_left : (world : World) (number : ℕ) (frame : Frame) (word : ℕ) (failed : Bool)
    (out : Option LocalCall) (did : Did)
    → (came_by world.bus (frame_event number frame)).call ≡ out
    → HandsOut word failed (came_did world (came_by world.bus (frame_event number frame))).world out did
    → FramePasses world number frame did.world.files
hands_left world number frame word failed _ _ handed HandsOut.nothing = FramePasses.front
hands_left world number frame word failed _ _ handed (HandsOut.calls call did answers) =
    answer_left world number frame word failed call handed did answers

frame_left : (world : World) (number : ℕ) (frame : Frame) (word : ℕ) (failed : Bool) (did : Did)
    → FrameDoes world word failed number frame did → FramePasses world number frame did.world.files
frame_left world number frame word failed did does =
    subst (λ (d : Did). FramePasses world number frame d.world.files) (sym does.is)
    (hands_left world number frame word failed _ does.behind refl does.hands)

frames_left : (world : World) (number : ℕ) (frames : List Frame) (words : List ℕ)
    (failures : List Bool) (did : Did) → FramesDo world number frames words failures did
    → FramesPass world number frames did.world.files
frames_left world number _ _ _ _ FramesDo.none = FramesPass.front
frames_left world number _ _ _ _ (FramesDo.more frames words failures so_far frame word failed did served does) =
    FramesPass.within frames frame [] refl words failures so_far served did.world.files
    (frame_left so_far.world number frame word failed did does)

-- no frame has a reply of the script
hands_reply : (word : ℕ) (failed : Bool) (world : World) (out : Option LocalCall) (did : Did)
    → HandsOut word failed world out did → did.reply ≡ []
hands_reply word failed world _ _ HandsOut.nothing = refl
hands_reply word failed world _ _ (HandsOut.calls call did answers) = at did answers
  where
    at : (d : Did) → CallAnswers world word failed call d → d.reply ≡ []
    at _ (CallAnswers.none is) = refl
    at _ (CallAnswers.some object is done calls) = refl

pub frames_reply : (world : World) (number : ℕ) (frames : List Frame) (words : List ℕ)
    (failures : List Bool) (did : Did) → FramesDo world number frames words failures did → did.reply ≡ []
frames_reply world number _ _ _ _ FramesDo.none = refl
frames_reply world number _ _ _ _ (FramesDo.more frames words failures so_far frame word failed did served does) =
    ap (λ (r : List ℕ). r ++ did.reply) (frames_reply world number frames words failures so_far served)
    ∙ ap (λ (d : Did). d.reply) does.is
    ∙ hands_reply word failed _ _ does.behind does.hands

-- the same frames end so
pub ends_as : (world : World) (number : ℕ) (frames others : List Frame) (now : World) (seen : Seen)
    (result : Result Gathered CallStop) → frames ≡ others
    → ServeEnds world number frames (FramesCut world number frames) (FramesPass world number frames)
    now seen result
    → ServeEnds world number others (FramesCut world number others) (FramesPass world number others)
    now seen result
ends_as world number frames others now seen result same ends =
    subst (λ (f : List Frame). ServeEnds world number f (FramesCut world number f) (FramesPass world number f)
    now seen result) same ends

-- all frames were served, and then there was no memory
rose_end : (n a b : ℕ) → RoseBy n a b → RoseBy (n + 0) a b
rose_end n a b h = omega (arith, h)

pub served_halts : (world : World) (number : ℕ) (frames : List Frame) (mid : World) (part : BusPart)
    (seen : Seen) (all : Gathered) → HasServed world number frames mid seen all
    → IsHalted (FramesCut world number frames) (FramesPass world number frames) (record mid { bus = part }) seen
served_halts world number frames mid part seen all served = record {
  cut = cut_behind served.did served.failures (untouched served.did.world.net);
  cuts = FramesCut.behind served.words served.failures served.did served.does;
  left = record {
    held = ap (λ (w : World). w.net.held) served.next;
    asked = subst (λ (a : List Asked). Records seen.kernel.asked seen.kernel.asked_now a)
        (sym (append-nil served.did.asked)) served.asked.record_of;
    cause = rose_end (failed_events served.failures) seen.kernel.faults seen.kernel.faults_now served.asked.cause;
  };
  files = subst (FramesPass world number frames) (sym (ap (λ (w : World). w.files) served.next))
      (frames_left world number frames served.words served.failures served.did served.does);
}
