-- Lines of calls.
use Rattle.std.proofs.Common.{ℕ, ◌≡◌, List, [], ◌∷◌, ◌++◌, Option, Some, None, Bool, false, refl, ap, subst, sym, ◌∙◌}
use Rattle.std.specs.Prelude.{Result, Ok, Err, IfOk}
use Rattle.std.specs.Option.{option_map}
use Rattle.blob_codec.specs.declared.blob.Attr.{Attr}
use Rattle.uci_tool.specs.Folder.{Folder}
use Rattle.rpc_session.specs.SessionList.{SessionList}
use Rattle.script_lines.specs.declared.line_error.LineError.{LineError}
use Rattle.script_lines.specs.declared.line_error.LineError.TheVariants as error
use Rattle.script_lines.specs.declared.call_status.CallStatus.{CallStatus}
use Rattle.script_lines.specs.ErrorLine.{error_line}
use Rattle.step_net.specs.Moved.{Telling}
use Rattle.step_net.specs.Taken.{Asks}
use Rattle.call_texts.specs.Arguments.{arguments_of}
use Rattle.call_texts.specs.ReplyLine.{reply_line}
use Rattle.rpc_objects.specs.declared.local_answer.LocalAnswer.{LocalAnswer}
use Rattle.rpc_objects.specs.declared.uci_answer.CallStop.{CallStop}
use Rattle.rpc_objects.specs.declared.uci_answer.CallStop.TheVariants as stop
use Rattle.rpc_objects.specs.LocalAnswer.{refused}
use Rattle.rpc_objects.specs.declared.local_object.LocalObject.{LocalObject}
use Rattle.rpc_objects.specs.declared.outcome.Outcome.{Outcome}
use Rattle.rpc_objects.specs.Object.{of_path}
use Rattle.rpc_objects.specs.Calls.{Called, quiet}
use Rattle.rpc_objects.specs.Cut.{Cut, CallCuts, IsCutSo, behind_call, untouched}
use Rattle.bus_lines.specs.declared.caller_line.CallWords.{CallWords}
use Rattle.bus_lines.specs.declared.handled.Handled.{Handled}
use Rattle.bus_lines.specs.World.{World, parts_of, with_parts}
use Rattle.plane_outside.specs.Supply.{Uses}
use Rattle.bus_lines.specs.Did.{Did, first_of, refused_did}
use Rattle.bus_lines.specs.CallLine.{Admits, CallsPath, CallsFor, CallDoes, CallLineDoes, ForDoes, call_with, told_of, status_at}
use Rattle.bus_lines.specs.ClientLine.{or_memory}
use Rattle.bus_lines.specs.Cut.{CallLineCuts}
use Rattle.bus_lines.specs.Passed.{CallLinePasses}
use Rattle.bus_lines.specs.Ended.{Seen, AsksBy, IsDone, IsHalted, Ends}
use Rattle.bus_lines.specs.Calling.{IsOut, CallEnds, ObjectDoes, ObjectCuts, ObjectPasses}
use Rattle.bus_lines.specs.Replied.{IsQuiet, TellsOutcome, TellsError}
use Rattle.bus_lines.proofs.KernelLemmas.{asks_once, cut_unasked}
use Rattle.bus_lines.proofs.CallingLemmas.{done_passes}

-- a status or a refusal as a line
status_first : (status : Option CallStatus) (refusal : Option LineError)
    → first_of (option_map (λ why. error_line (error.Status why)) status) (option_map error_line refusal)
    ≡ option_map error_line (first_of (option_map error.Status status) refusal)
status_first None refusal = refl
status_first (Some status) refusal = refl

-- the arguments of a line were read
module _ (world : World) (number : ℕ) (words : CallWords) (args : List Attr)
    (read : arguments_of number words.json ≡ Ok args) where
  abbrev pub Cuts : Cut → Type 0
  Cuts = CallLineCuts world number words

  abbrev pub Passes : Folder → Type 0
  Passes = CallLinePasses world number words

  abbrev pub with_list : SessionList → World
  with_list list = record world { sessions = list }

  -- the session may call
  module _ (list : SessionList) (all : List Attr)
      (admits : Admits world.now world.sessions (call_with words args) words.session list (Ok all)) where
    -- an object is called
    module _ (object : LocalObject) (is : of_path words.path ≡ Some object) where
      pub object_passes : (folder : Folder) → ObjectPasses (with_list list) object words.method all folder
          → Passes folder
      object_passes folder passes =
          CallLinePasses.within args read list all admits object is folder passes

      object_cuts : (cut : Cut) → ObjectCuts (with_list list) object words.method all cut → Cuts cut
      object_cuts cut cuts =
          CallLineCuts.within args read list all admits object is cuts.word cut cuts.is

      pub object_called : (now : World) (seen : Seen) (result : Result Outcome CallStop)
          → CallEnds (ObjectDoes (with_list list) object words.method all)
          (ObjectCuts (with_list list) object words.method all)
          (ObjectPasses (with_list list) object words.method all) (with_list list) now seen result
          → CallEnds (ForDoes world words args) Cuts Passes world now seen result
      object_called now seen (Ok told) out = record {
        word = out.word;
        failed = out.failed;
        done = out.done;
        does = CallsFor.admitted list all admits out.done (CallsPath.some object is out.done out.does);
        next = out.next;
        asked = out.asked;
        used = out.used;
        answer = out.answer;
        requests = out.requests;
        refusal = out.refusal;
      }
      object_called now seen (Err stop.DiskFailed) failed = record {
        cause = failed.cause;
        cut = failed.cut;
        cuts = object_cuts failed.cut failed.cuts;
        left = failed.left;
      }
      object_called now seen (Err stop.Memory) halted = record {
        cut = halted.cut;
        cuts = object_cuts halted.cut halted.cuts;
        left = halted.left;
        files = object_passes now.files halted.files;
      }

    -- no object has the path
    pub no_object : (seen : Seen) (told : Outcome) → of_path words.path ≡ None
        → Asks [] false seen.kernel → Uses seen.supply [] seen.supply_now → IsQuiet (refused 4) told
        → IsOut (ForDoes world words args) world (with_list list) seen told
    no_object seen told is asked used tells = record {
      word = 0;
      failed = false;
      done = quiet (record (parts_of world) { sessions = list }) (refused 4);
      does = CallsFor.admitted list all admits (quiet (record (parts_of world) { sessions = list }) (refused 4))
          (CallsPath.none is);
      next = refl;
      asked = asked;
      used = used;
      answer = tells.is;
      requests = tells.requests;
      refusal = tells.refusal;
    }

  -- it may not
  pub not_admitted : (list : SessionList) (answer : LocalAnswer)
      → Admits world.now world.sessions (call_with words args) words.session list (Err answer)
      → (seen : Seen) (told : Outcome) → Asks [] false seen.kernel
      → Uses seen.supply [] seen.supply_now → IsQuiet answer told
      → IsOut (ForDoes world words args) world (with_list list) seen told
  not_admitted list answer admits seen told asked used tells = record {
    word = 0;
    failed = false;
    done = quiet (record (parts_of world) { sessions = list }) answer;
    does = CallsFor.refused list answer admits;
    next = refl;
    asked = asked;
    used = used;
    answer = tells.is;
    requests = tells.requests;
    refusal = tells.refusal;
  }

  -- ---- a call that was carried out leaves what its line passes through, and was cut behind it

  path_left : (list : SessionList) (all : List Attr)
      → Admits world.now world.sessions (call_with words args) words.session list (Ok all)
      → (word : ℕ) (failed : Bool) (done : Called) (now : World) (seen : Seen)
      → now ≡ with_parts world done.parts → Asks done.asked failed seen.kernel
      → CallsPath world.now word failed (record (parts_of world) { sessions = list }) (call_with words args) all done
      → IsHalted Cuts Passes now seen
  path_left list all admits word failed done now seen next requests (CallsPath.none is) = record {
    cut = untouched world.net;
    cuts = CallLineCuts.in_front;
    left = cut_unasked world.net now.net failed seen.kernel (ap (λ (w : World). w.net.held) next) requests;
    files = subst Passes (sym (ap (λ (w : World). w.files) next)) CallLinePasses.front;
  }
  path_left list all admits word failed _ now seen next requests (CallsPath.some object is done calls) = record {
    cut = behind_call done failed;
    cuts = CallLineCuts.within args read list all admits object is word (behind_call done failed)
        (CallCuts.behind failed done calls);
    left = record { held = ap (λ (w : World). w.net.held) next; asked = requests.asked; cause = requests.cause };
    files = subst Passes (sym (ap (λ (w : World). w.files) next))
        (CallLinePasses.within args read list all admits object is done.parts.files
        (done_passes world.now word failed (record (parts_of world) { sessions = list }) object words.method
        all done calls));
  }

  for_left : (word : ℕ) (failed : Bool) (done : Called) (now : World) (seen : Seen)
      → now ≡ with_parts world done.parts → Asks done.asked failed seen.kernel
      → ForDoes world words args word failed done → IsHalted Cuts Passes now seen
  for_left word failed _ now seen next requests (CallsFor.refused list answer admits) = record {
    cut = untouched world.net;
    cuts = CallLineCuts.in_front;
    left = cut_unasked world.net now.net failed seen.kernel (ap (λ (w : World). w.net.held) next) requests;
    files = subst Passes (sym (ap (λ (w : World). w.files) next)) CallLinePasses.front;
  }
  for_left word failed _ now seen next requests (CallsFor.admitted list all admits done calls) =
      path_left list all admits word failed done now seen next requests calls

  pub left_behind : (now : World) (seen : Seen) (told : Outcome)
      → IsOut (ForDoes world words args) world now seen told → IsHalted Cuts Passes now seen
  left_behind now seen told out =
      for_left out.word out.failed out.done now seen out.next out.asked out.does

  -- ---- a call that was carried out is told

  pub told_behind : (now : World) (seen : Seen) (told : Outcome) (handled : Handled)
      → IsOut (ForDoes world words args) world now seen told → TellsOutcome told handled
      → IsDone (CallLineDoes world number words) now seen handled
  told_behind now seen told handled out tells = record {
    words = out.word ∷ [];
    failures = out.failed ∷ [];
    did = told_of world out.word out.done;
    does = CallDoes.called args read out.done out.does;
    is = record {
      world = out.next;
      asked = asks_once out.done.asked out.failed seen.kernel out.asked;
      used = out.used;
      sent = tells.sent;
      shown = tells.shown
          ∙ ap (λ (a : List ℕ). a ++ reply_line told.answer.status told.answer.payload) out.requests
          ∙ ap (λ (a : LocalAnswer). out.done.requests ++ reply_line a.status a.payload) out.answer;
      refusal = tells.refusal
          ∙ ap (λ (a : LocalAnswer). first_of (option_map (λ why. error_line (error.Status why)) (status_at a.status)) told.refusal) out.answer
          ∙ ap (λ (r : Option (List ℕ)). first_of (option_map (λ why. error_line (error.Status why)) (status_at out.done.answer.status)) r) out.refusal
          ∙ status_first (status_at out.done.answer.status) out.done.refusal;
    };
  }

  pub told_ends : {M : Type 0} (now : World) (seen : Seen) (told : Outcome) (result : Result Handled M)
      (whole : Result Handled CallStop) → whole ≡ or_memory result
      → IsOut (ForDoes world words args) world now seen told → IfOk result (TellsOutcome told)
      → Ends (CallLineDoes world number words) Cuts Passes now seen whole
  told_ends now seen told (Ok handled) whole is out tells =
      subst (λ (r : Result Handled CallStop). Ends (CallLineDoes world number words) Cuts Passes now seen r)
      (sym is) (told_behind now seen told handled out tells)
  told_ends now seen told (Err lacks) whole is out tells =
      subst (λ (r : Result Handled CallStop). Ends (CallLineDoes world number words) Cuts Passes now seen r)
      (sym is) (left_behind now seen told out)

-- arguments that do not read refuse the line
unread : (world : World) (number : ℕ) (words : CallWords) (why : LineError)
    → arguments_of number words.json ≡ Err why → (seen : Seen) (handled : Handled)
    → AsksBy [] [] seen.kernel → Uses seen.supply [] seen.supply_now → TellsError why handled
    → IsDone (CallLineDoes world number words) world seen handled
unread world number words why is seen handled asked used tells = record {
  words = [];
  failures = [];
  did = refused_did world why;
  does = CallDoes.unread why is;
  is = record {
    world = refl;
    asked = asked;
    used = used;
    sent = tells.sent;
    shown = ap (λ (t : Telling). t.shown) tells.telling;
    refusal = ap (λ (t : Telling). t.refusal) tells.telling;
  };
}

pub unread_ends : {M : Type 0} (world : World) (number : ℕ) (words : CallWords) (why : LineError)
    → arguments_of number words.json ≡ Err why → (seen : Seen) (result : Result Handled M)
    (whole : Result Handled CallStop) → whole ≡ or_memory result → AsksBy [] [] seen.kernel
    → Uses seen.supply [] seen.supply_now → IsCutSo (untouched world.net) world.net seen.kernel
    → IfOk result (TellsError why)
    → Ends (CallLineDoes world number words) (CallLineCuts world number words)
    (CallLinePasses world number words) world seen whole
unread_ends world number words why unread_as seen (Ok handled) whole is asked used left tells =
    subst (λ (r : Result Handled CallStop). Ends (CallLineDoes world number words) (CallLineCuts world number words)
    (CallLinePasses world number words) world seen r) (sym is)
    (unread world number words why unread_as seen handled asked used tells)
unread_ends world number words why unread_as seen (Err lacks) whole is asked used left tells =
    subst (λ (r : Result Handled CallStop). Ends (CallLineDoes world number words) (CallLineCuts world number words)
    (CallLinePasses world number words) world seen r) (sym is)
    (record { cut = untouched world.net; cuts = CallLineCuts.in_front; left = left; files = CallLinePasses.front })

-- another call that stopped so
pub stopped_as : (Does : ℕ → Bool → Called → Type 0) (DoesAll : List ℕ → List Bool → Did → Type 0)
    (Cuts : Cut → Type 0) (Passes : Folder → Type 0) (world now : World) (seen : Seen) (why : CallStop)
    → CallEnds Does Cuts Passes world now seen (Err why)
    → Ends DoesAll Cuts Passes now seen (Err why)
stopped_as Does DoesAll Cuts Passes world now seen stop.DiskFailed ends = ends
stopped_as Does DoesAll Cuts Passes world now seen stop.Memory ends = ends
