-- What a call of an object of the network means for the plane of interfaces, and what comes of it (OpenWrt's netifd).
use Rattle.std.specs.Prelude.{ℕ, ◌≡◌, List, [], false, None, Result, Ok, Err}
use Rattle.blob_codec.specs.declared.blob.Attr.{Attr}
use Rattle.uci_tool.specs.Folder.{Folder}
use Rattle.net_rules.specs.declared.event.Event.TheVariants as event
use Rattle.net_plane.specs.Network.{Network}
use Rattle.script_lines.specs.declared.call_status.CallStatus.TheVariants as status
use Rattle.step_net.specs.NetLine.{NetLine}
use Rattle.step_net.specs.Taken.{Telled, Asks, IsLeft}
use Rattle.rpc_network.specs.declared.net_object.NetObject.{NetObject}
use Rattle.rpc_network.specs.declared.net_call.NetCall.{NetCall}
use Rattle.rpc_network.specs.declared.net_call.NetCall.TheVariants as call
use Rattle.rpc_network.specs.Method.{method_of}
use Rattle.rpc_network.specs.Reading.{AsksMethod, AsksNothing}
use Rattle.rpc_network.specs.declared.net_answer.NetAnswer.{NetAnswer}
use Rattle.rpc_network.specs.Answered.{refused_as}
use Rattle.rpc_network.specs.Told.{IsTaken}
use Rattle.step_net.specs.Reload.{ReloadAsks}

-- what a call means, with these files: what the line of a script means that asks for the same
abbrev pub CallMeans : Folder → NetCall → NetLine → Type 0
CallMeans folder call.Reload act = ReloadAsks folder act
CallMeans folder call.Dump act = act ≡ NetLine.dump
CallMeans folder (call.InterfaceStatus name) act = act ≡ NetLine.interface name
CallMeans folder (call.Operator interface up) act = act ≡ NetLine.happens (event.Operator interface up)
CallMeans folder (call.Answer interface number answer) act =
    act ≡ NetLine.happens (event.Answer interface number answer)
CallMeans folder (call.DeviceStatus name) act = act ≡ NetLine.device name
CallMeans folder (call.Device what) act = act ≡ NetLine.happens (event.Device what)
CallMeans folder (call.RadioStatus name) act = act ≡ NetLine.radio name
CallMeans folder (call.Radio radio number ports) act =
    act ≡ NetLine.happens (event.Radio radio number ports)

-- a call was carried out
pub record IsCarried (folder : Folder) (asked : NetCall) (before now : Network) (kernel : Telled) (told : NetAnswer)
    : Type 0 where
  pub act : NetLine
  pub means : CallMeans folder asked act
  pub taken : IsTaken act before now kernel told

-- there was no memory for it, before the plane of interfaces was asked or while it was
pub data IsHaltedIn (folder : Folder) (asked : NetCall) (before now : Network) (kernel : Telled) : Type 0 where
  unasked : now ≡ before → Asks [] false kernel → IsHaltedIn folder asked before now kernel
  on_the_way : (act : NetLine) → CallMeans folder asked act → IsLeft act before now kernel
      → IsHaltedIn folder asked before now kernel

abbrev pub Carries : {M : Type 0} → Folder → NetCall → Network → Network → Telled → Result NetAnswer M → Type 0
Carries folder asked before now kernel (Ok told) = IsCarried folder asked before now kernel told
Carries folder asked before now kernel (Err lacks) = IsHaltedIn folder asked before now kernel

-- nothing was done, and the kernel was asked nothing
pub record IsIdle (before now : Network) (kernel : Telled) : Type 0 where
  pub same : now ≡ before
  pub nothing : Asks [] false kernel

-- a call of a method of the object is answered: it is carried out, or refused before anything is done
pub data IsAnsweredTo (folder : Folder) (object : NetObject) (method : List ℕ) (args : List Attr) (before now : Network)
    (kernel : Telled) (told : NetAnswer) : Type 0 where
  carried : (asked : NetCall) → AsksMethod object method args asked → IsCarried folder asked before now kernel told
      → IsAnsweredTo folder object method args before now kernel told
  no_method : method_of object method ≡ None → told ≡ refused_as status.MethodNotFound → IsIdle before now kernel
      → IsAnsweredTo folder object method args before now kernel told
  bad_argument : AsksNothing object method args → told ≡ refused_as status.InvalidArgument → IsIdle before now kernel
      → IsAnsweredTo folder object method args before now kernel told

-- there was no memory
pub data IsStopped (folder : Folder) (object : NetObject) (method : List ℕ) (args : List Attr) (before now : Network)
    (kernel : Telled) : Type 0 where
  in_front : IsIdle before now kernel → IsStopped folder object method args before now kernel
  within : (asked : NetCall) → AsksMethod object method args asked → IsHaltedIn folder asked before now kernel
      → IsStopped folder object method args before now kernel

abbrev pub Answers : {M : Type 0} → Folder → NetObject → List ℕ → List Attr → Network → Network → Telled
    → Result NetAnswer M
    → Type 0
Answers folder object method args before now kernel (Ok told) =
    IsAnsweredTo folder object method args before now kernel told
Answers folder object method args before now kernel (Err lacks) =
    IsStopped folder object method args before now kernel
