-- What a call of a method asks for.
use Rattle.std.specs.Prelude.{ℕ, ◌≡◌, List, Bool, true, false, Option, Some, codes, Result, Ok, Err, ⊤}
use Rattle.blob_codec.specs.declared.blob.Attr.{Attr}
use Rattle.blob_json.specs.ToJson.{json_of}
use Rattle.net_rules.specs.declared.answer.Answer.{Answer}
use Rattle.answer_json.specs.AnswerJson.{IsAnswer}
use Rattle.answer_json.specs.PortsJson.{ArePorts}
use Rattle.rpc_network.specs.declared.method.Method.{Method}
use Rattle.rpc_network.specs.declared.method.Method.TheVariants as method
use Rattle.rpc_network.specs.declared.net_call.NetCall.{NetCall}
use Rattle.rpc_network.specs.declared.net_call.NetCall.TheVariants as call
use Rattle.rpc_network.specs.declared.net_call.NetCallError.{NetCallError}
use Rattle.rpc_network.specs.declared.net_call.NetCallError.TheVariants as error
use Rattle.rpc_network.specs.Arguments.{text, number}
use Rattle.rpc_network.specs.DeviceEvent.{event_of}

-- it asks this of what was found
abbrev pub AsksOf : {X : Type 0} → Option X → (X → NetCall) → NetCall → Type 0
AsksOf {X} found make asked = (x : X) × (found ≡ Some x) × (asked ≡ make x)

-- `up` and `down` of the interface that is named
abbrev pub AsksOperator : Bool → List Attr → NetCall → Type 0
AsksOperator up args asked = AsksOf (text (codes "interface") args) (λ name. call.Operator name up) asked

-- the handler of the interface that is named answers the request of that number; the answer is that of the
-- arguments as JSON
pub record AsksAnswer (args : List Attr) (asked : NetCall) : Type 0 where
  pub interface : List ℕ
  pub named : text (codes "interface") args ≡ Some interface
  pub request : ℕ
  pub numbered : number (codes "number") args ≡ Some request
  pub answer : Answer
  pub answers : IsAnswer (json_of args) answer
  pub is : asked ≡ call.Answer interface request answer

-- the same of a radio
pub record AsksPorts (args : List Attr) (asked : NetCall) : Type 0 where
  pub radio : List ℕ
  pub named : text (codes "radio") args ≡ Some radio
  pub request : ℕ
  pub numbered : number (codes "number") args ≡ Some request
  pub ports : List (Option (List ℕ))
  pub are : ArePorts (json_of args) ports
  pub is : asked ≡ call.Radio radio request ports

-- what a method asks for with these arguments
abbrev pub Asks : Method → List Attr → NetCall → Type 0
Asks method.Reload args asked = asked ≡ call.Reload
Asks method.Dump args asked = asked ≡ call.Dump
Asks method.InterfaceStatus args asked =
    AsksOf (text (codes "interface") args) call.InterfaceStatus asked
Asks method.Up args asked = AsksOperator true args asked
Asks method.Down args asked = AsksOperator false args asked
Asks method.NotifyProto args asked = AsksAnswer args asked
Asks method.DeviceStatus args asked = AsksOf (text (codes "name") args) call.DeviceStatus asked
Asks method.Event args asked = AsksOf (event_of args) call.Device asked
Asks method.RadioStatus args asked = AsksOf (text (codes "radio") args) call.RadioStatus asked
Asks method.Notify args asked = AsksPorts args asked

-- a call that is asked for, or no call is; memory may be wanting
abbrev pub AnswersAs : (NetCall → Type 0) → Result NetCall NetCallError → Type 0
AnswersAs Asked (Ok asked) = Asked asked
AnswersAs Asked (Err error.Argument) = (asked : NetCall) → Asked asked → ⊥
AnswersAs Asked (Err error.NoMethod) = ⊥
AnswersAs Asked (Err error.Memory) = ⊤
