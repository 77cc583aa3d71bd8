-- Calls that are handed out, and frames.
use Rattle.std.proofs.Common.{ℕ, ◌≡◌, List, [], ◌++◌, Option, Some, None, Bool, false, refl, ap, subst, sym, ◌∙◌, append_assoc, append-nil}
use Rattle.std.specs.Prelude.{Result, Ok, Err}
use Rattle.std.specs.Option.{option_map}
use Rattle.ubus_frames.specs.declared.frame.Frame.{Frame}
use Rattle.ubus_table.specs.declared.rows.LocalCall.{LocalCall}
use Rattle.ubus_table.specs.Served.{frame as frame_event, local_reply}
use Rattle.uci_tool.specs.Folder.{Folder}
use Rattle.script_lines.specs.ErrorLine.{error_line}
use Rattle.step_net.specs.Taken.{Asks}
use Rattle.bus_clients.specs.Bus.{BusPart, Came, came_by}
use Rattle.rpc_objects.specs.declared.local_answer.LocalAnswer.{LocalAnswer}
use Rattle.rpc_objects.specs.declared.uci_answer.CallStop.{CallStop}
use Rattle.rpc_objects.specs.declared.uci_answer.CallStop.TheVariants as stop
use Rattle.rpc_objects.specs.declared.local_object.LocalObject.{LocalObject}
use Rattle.rpc_objects.specs.declared.outcome.Outcome.{Outcome}
use Rattle.rpc_objects.specs.Object.{of_number}
use Rattle.rpc_objects.specs.Calls.{Called}
use Rattle.rpc_objects.specs.Cut.{Cut, CallCuts, behind_call}
use Rattle.bus_lines.specs.declared.gathered.Gathered.{Gathered}
use Rattle.bus_lines.specs.World.{World}
use Rattle.plane_outside.specs.Supply.{Uses}
use Rattle.bus_lines.specs.Did.{Did, first_of, nothing_did, followed}
use Rattle.bus_lines.specs.ClientLine.{CallAnswers, HandsOut, came_did, replied_did}
use Rattle.bus_lines.specs.Cut.{FrameCuts}
use Rattle.bus_lines.specs.Passed.{HandedPasses, FramePasses}
use Rattle.bus_lines.specs.Ended.{Seen, IsHalted}
use Rattle.bus_lines.specs.Calling.{IsOut, CallEnds, ObjectDoes, ObjectCuts, ObjectPasses}
use Rattle.bus_lines.specs.Gathered.{Gathers, HasReplied}
use Rattle.bus_lines.specs.Frames.{HasStepped, StepEnds, HandedDoes, HandedCuts, OneDoes, OneCuts}
use Rattle.bus_lines.proofs.CallingLemmas.{done_passes}

-- ---- what is gathered

first_none : {A : Type 0} (one : Option A) → one ≡ first_of one None
first_none None = refl
first_none (Some a) = refl

first_joins : {A : Type 0} (a b c : Option A) → first_of (first_of a b) c ≡ first_of a (first_of b c)
first_joins None b c = refl
first_joins (Some a) b c = refl

pub map_first : {A B : Type 0} (f : A → B) (a b : Option A)
    → option_map f (first_of a b) ≡ first_of (option_map f a) (option_map f b)
map_first f None b = refl
map_first f (Some a) b = refl

-- nothing was done
gathers_nothing : (world : World) (all : Gathered) → Gathers (nothing_did world) all all
gathers_nothing world all = record {
  sent = sym (append-nil all.sent.items);
  requests = sym (append-nil all.requests.items);
  refusal = first_none all.refusal;
}

-- one behind the other
gathers_more : (one other : Did) (a b c : Gathered) → Gathers one a b → Gathers other b c
    → Gathers (followed one other) a c
gathers_more one other a b c p q = record {
  sent = q.sent ∙ ap (λ (s : List ℕ). s ++ other.sent) p.sent ∙ append_assoc a.sent.items one.sent other.sent;
  requests = q.requests ∙ ap (λ (s : List ℕ). s ++ other.requests) p.requests ∙ append_assoc a.requests.items one.requests other.requests;
  refusal = q.refusal
      ∙ ap (λ (r : Option (List ℕ)). first_of r (option_map error_line other.refusal)) p.refusal
      ∙ first_joins a.refusal (option_map error_line one.refusal) (option_map error_line other.refusal)
      ∙ ap (λ (r : Option (List ℕ)). first_of a.refusal r) (sym (map_first error_line one.refusal other.refusal));
}

-- ---- a call that was handed out

module _ (world : World) (call : LocalCall) where
  -- none of these objects is called
  pub not_ours : (seen : Seen) (all : Gathered) → of_number call.object ≡ None
      → Asks [] false seen.kernel → Uses seen.supply [] seen.supply_now
      → HasStepped (HandedDoes world call) world seen all all
  not_ours seen all is asked used = record {
    word = 0;
    failed = false;
    did = nothing_did world;
    does = CallAnswers.none is;
    next = refl;
    asked = asked;
    used = used;
    gathers = gathers_nothing world all;
  }

  module _ (object : LocalObject) (is : of_number call.object ≡ Some object) where
    abbrev pub Does : ℕ → Bool → Called → Type 0
    Does = ObjectDoes world object call.method call.args

    abbrev pub Cuts : Cut → Type 0
    Cuts = ObjectCuts world object call.method call.args

    abbrev pub Passes : Folder → Type 0
    Passes = ObjectPasses world object call.method call.args

    pub handed_passes : (folder : Folder) → Passes folder → HandedPasses world call folder
    handed_passes folder passes = HandedPasses.within object is folder passes

    handed_cuts : (cut : Cut) → Cuts cut → HandedCuts world call cut
    handed_cuts cut cuts = HandedCuts.within object is cuts.word cut cuts.is

    -- it was stopped
    pub handed_stopped : (X : Type 0) (now : World) (seen : Seen) (a b : Gathered) (why : CallStop)
        → CallEnds Does Cuts Passes world now seen (Err why)
        → StepEnds {X = X} (HandedDoes world call) (HandedCuts world call) (HandedPasses world call)
        now seen a b (Err why)
    handed_stopped X now seen a b stop.DiskFailed failed = record {
      cause = failed.cause;
      cut = failed.cut;
      cuts = handed_cuts failed.cut failed.cuts;
      left = failed.left;
    }
    handed_stopped X now seen a b stop.Memory halted = record {
      cut = halted.cut;
      cuts = handed_cuts halted.cut halted.cuts;
      left = halted.left;
      files = handed_passes now.files halted.files;
    }

    -- the reply comes of the bus
    abbrev pub reply_of : BusPart → LocalAnswer → Came
    reply_of part answer =
        came_by part (local_reply call.caller call.seq call.object answer.status answer.payload)

    abbrev pub on_bus : World → BusPart → World
    on_bus world part = record world { bus = part }

    -- it was carried out and answered
    pub handed_answered : (mid : World) (part : BusPart) (seen : Seen) (a b : Gathered) (told : Outcome)
        → IsOut Does world mid seen told → HasReplied (reply_of mid.bus told.answer) part a b told
        → HasStepped (HandedDoes world call) (on_bus mid part) seen a b
    handed_answered mid part seen a b told out replied =
        let came : reply_of mid.bus told.answer ≡ reply_of world.bus out.done.answer =
        ap (λ (w : World). reply_of w.bus told.answer) out.next
        ∙ ap (λ (answer : LocalAnswer). reply_of world.bus answer) out.answer in
        record {
          word = out.word;
          failed = out.failed;
          did = replied_did world out.word call out.done;
          does = CallAnswers.some object is out.done out.does;
          next = ap (λ (p : BusPart). on_bus mid p) (replied.is.next ∙ ap (λ (c : Came). c.part) came)
              ∙ ap (λ (w : World). on_bus w (reply_of world.bus out.done.answer).part) out.next;
          asked = out.asked;
          used = out.used;
          gathers = record {
            sent = replied.is.lines ∙ ap (λ (c : Came). a.sent.items ++ c.told) came;
            requests = replied.requests ∙ ap (λ (s : List ℕ). a.requests.items ++ s) out.requests;
            refusal = replied.refusal ∙ ap (λ (r : Option (List ℕ)). first_of a.refusal r) out.refusal;
          };
        }

    -- it was carried out, and then there was no memory
    pub handed_behind : (mid : World) (part : BusPart) (seen : Seen) (told : Outcome)
        → IsOut Does world mid seen told
        → IsHalted (HandedCuts world call) (HandedPasses world call) (on_bus mid part) seen
    handed_behind mid part seen told out = record {
      cut = behind_call out.done out.failed;
      cuts = HandedCuts.within object is out.word (behind_call out.done out.failed)
          (CallCuts.behind out.failed out.done out.does);
      left = record {
        held = ap (λ (w : World). w.net.held) out.next;
        asked = out.asked.asked;
        cause = out.asked.cause;
      };
      files = subst (HandedPasses world call) (sym (ap (λ (w : World). w.files) out.next))
          (HandedPasses.within object is out.done.parts.files
          (done_passes world.now out.word out.failed _ object call.method call.args out.done out.does));
    }

-- ---- a frame

module _ (world : World) (number : ℕ) (frame : Frame) where
  abbrev pub came : Came
  came = came_by world.bus (frame_event number frame)

  abbrev pub mid : World
  mid = (came_did world came).world

  -- the frame handed no call out
  pub no_call : (next : World) (seen : Seen) (a b : Gathered) → next ≡ mid → came.call ≡ None
      → b.sent.items ≡ a.sent.items ++ came.told → b.requests.items ≡ a.requests.items → b.refusal ≡ a.refusal
      → Asks [] false seen.kernel → Uses seen.supply [] seen.supply_now
      → HasStepped (OneDoes world number frame) next seen a b
  no_call next seen a b at none sent requests refusal asked used = record {
    word = 0;
    failed = false;
    did = followed (came_did world came) (nothing_did mid);
    does = record {
      behind = nothing_did mid;
      hands = subst (λ (call : Option LocalCall). HandsOut 0 false mid call (nothing_did mid)) (sym none) HandsOut.nothing;
      is = refl;
    };
    next = at;
    asked = asked;
    used = used;
    gathers = record {
      sent = sent ∙ ap (λ (s : List ℕ). a.sent.items ++ s) (sym (append-nil came.told));
      requests = requests ∙ sym (append-nil a.requests.items);
      refusal = refusal ∙ first_none a.refusal;
    };
  }

  -- it handed this call out
  module _ (call : LocalCall) (handed : came.call ≡ Some call) where
    pub frame_passes : (folder : Folder) → HandedPasses mid call folder
        → FramePasses world number frame folder
    frame_passes folder passes = FramePasses.within call handed folder passes

    frame_cuts : (cut : Cut) → HandedCuts mid call cut → OneCuts world number frame cut
    frame_cuts _ HandedCuts.in_front = record { word = 0; is = FrameCuts.in_front }
    frame_cuts _ (HandedCuts.within object is word cut cuts) =
        record { word = word; is = FrameCuts.within call handed object is cut cuts }

    pub call_ends : {X : Type 0} (now : World) (seen : Seen) (a b c : Gathered)
        → b.sent.items ≡ a.sent.items ++ came.told → b.requests.items ≡ a.requests.items → b.refusal ≡ a.refusal
        → (result : Result X CallStop)
        → StepEnds (HandedDoes mid call) (HandedCuts mid call) (HandedPasses mid call) now seen b c result
        → StepEnds (OneDoes world number frame) (OneCuts world number frame)
        (FramePasses world number frame) now seen a c result
    call_ends now seen a b c sent requests refusal (Ok done) step = record {
      word = step.word;
      failed = step.failed;
      did = followed (came_did world came) step.did;
      does = record {
        behind = step.did;
        hands = subst (λ (o : Option LocalCall). HandsOut step.word step.failed mid o step.did) (sym handed)
            (HandsOut.calls call step.did step.does);
        is = refl;
      };
      next = step.next;
      asked = step.asked;
      used = step.used;
      gathers = gathers_more (came_did world came) step.did a b c
          (record {
            sent = sent;
            requests = requests ∙ sym (append-nil a.requests.items);
            refusal = refusal ∙ first_none a.refusal;
          }) step.gathers;
    }
    call_ends now seen a b c sent requests refusal (Err stop.DiskFailed) failed = record {
      cause = failed.cause;
      cut = failed.cut;
      cuts = frame_cuts failed.cut failed.cuts;
      left = failed.left;
    }
    call_ends now seen a b c sent requests refusal (Err stop.Memory) halted = record {
      cut = halted.cut;
      cuts = frame_cuts halted.cut halted.cuts;
      left = halted.left;
      files = frame_passes now.files halted.files;
    }

    -- the same, of a world that is what the frame left
    module _ (at : World) (left : at ≡ mid) where
      pub passes_at : (folder : Folder) → HandedPasses at call folder → FramePasses world number frame folder
      passes_at folder passes =
          frame_passes folder (subst (λ (w : World). HandedPasses w call folder) left passes)

      pub ends_at : {X : Type 0} (now : World) (seen : Seen) (a b c : Gathered)
          → b.sent.items ≡ a.sent.items ++ came.told → b.requests.items ≡ a.requests.items → b.refusal ≡ a.refusal
          → (result : Result X CallStop)
          → StepEnds (HandedDoes at call) (HandedCuts at call) (HandedPasses at call) now seen b c result
          → StepEnds (OneDoes world number frame) (OneCuts world number frame)
          (FramePasses world number frame) now seen a c result
      ends_at now seen a b c sent requests refusal result ends =
          call_ends now seen a b c sent requests refusal result
          (subst (λ (w : World). StepEnds (HandedDoes w call) (HandedCuts w call) (HandedPasses w call) now seen b c result) left ends)
