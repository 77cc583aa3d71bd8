-- How a call is read.
use Rattle.std.specs.Prelude.{ℕ, ◌≡◌, List, Option, Some, None, Result, Ok, Err, ⊤}
use Rattle.blob_codec.specs.declared.blob.Attr.{Attr}
use Rattle.rpc_network.specs.declared.net_object.NetObject.{NetObject}
use Rattle.rpc_network.specs.declared.method.Method.{Method}
use Rattle.rpc_network.specs.declared.net_call.NetCall.{NetCall}
use Rattle.rpc_network.specs.declared.net_call.NetCallError.{NetCallError}
use Rattle.rpc_network.specs.declared.net_call.NetCallError.TheVariants as error
use Rattle.rpc_network.specs.Method.{method_of}
use Rattle.rpc_network.specs.Asked.{Asks, AnswersAs}

-- the method of that name asks for this
pub record AsksMethod (object : NetObject) (name : List ℕ) (args : List Attr) (asked : NetCall)
    : Type 0 where
  pub method : Method
  pub of : method_of object name ≡ Some method
  pub requests : Asks method args asked

-- the method of that name asks for nothing with these arguments
pub record AsksNothing (object : NetObject) (name : List ℕ) (args : List Attr) : Type 0 where
  pub method : Method
  pub of : method_of object name ≡ Some method
  pub nothing : (asked : NetCall) → Asks method args asked → ⊥

-- why a call is refused
abbrev pub RefusedFor : NetObject → List ℕ → List Attr → NetCallError → Type 0
RefusedFor object name args error.NoMethod = method_of object name ≡ None
RefusedFor object name args error.Argument = AsksNothing object name args
RefusedFor object name args error.Memory = ⊤

-- how the arguments of a method are read
abbrev pub Gives : Method → List Attr → Result NetCall NetCallError → Type 0
Gives method args result = AnswersAs (Asks method args) result

-- what was to be found is there, or it is missing; memory may be wanting
abbrev pub IsFound : {X : Type 0} → Option X → Result X NetCallError → Type 0
IsFound found (Ok value) = found ≡ Some value
IsFound found (Err error.Argument) = found ≡ None
IsFound found (Err error.NoMethod) = ⊥
IsFound found (Err error.Memory) = ⊤
