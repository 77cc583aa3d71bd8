-- Scripts that are read, and packages that are loaded.
use Rattle.std.proofs.Common.{ℕ, ◌≡◌, ◌≢◌, List, Option, Some, None, refl, sym, subst}
use Rattle.std.specs.Prelude.{Result, Ok, Err, IfOk, IfErr, IfSome, IfNone, IsSomeAnd}
use Rattle.uci_text.specs.declared.text_error.TextError.{TextError}
use Rattle.uci_text.specs.declared.text_error.TextError.TheVariants as text_error
use Rattle.uci_text.specs.FirstFault.{IsFirstFault}
use Rattle.uci_tree.specs.declared.fault.Fault.{Fault}
use Rattle.uci_tree.specs.declared.package.Package.{Package}
use Rattle.uci_tree.specs.declared.tree_error.TreeError.{TreeError}
use Rattle.uci_tree.specs.Fault.{fault_of, fault_of_text}
use Rattle.uci_tool.specs.Ends.{Stream}
use Rattle.uci_tool.specs.Folder.{Folder}
use Rattle.step_net.specs.Loaded as step
use Rattle.step_net.specs.Loaded.{DoesNotLoad, IsLoaded, network_name}
use Rattle.plane_run.specs.declared.run_end.RowPackage.{RowPackage}
use Rattle.plane_run.specs.declared.run_end.RowPackage.TheVariants.{Network, Wireless}
use Rattle.plane_run.specs.declared.run_end.RunEnd.{RunEnd}
use Rattle.plane_run.specs.declared.run_end.RunEnd.TheVariants as end
use Rattle.plane_run.specs.declared.script.Script.{Script}
use Rattle.plane_run.specs.declared.script.Script.TheVariants.{Lines, Bad}
use Rattle.plane_run.specs.RunEnd.{name_of}
use Rattle.plane_run.specs.Opening.{LacksRows, no_network, no_wireless}
use Rattle.plane_run.specs.Script.{IsRead, IsBad, HasRead}
use Rattle.plane_run.specs.Parts.{ReadsFault, ReadRefuses, LoadRefuses, RowsRefuse}

memory_is_no_fault : (e : TextError) (fault : Fault) → fault_of_text e ≡ Some fault → e ≢ text_error.Memory
memory_is_no_fault text_error.Memory fault is e = cc is
memory_is_no_fault (text_error.BadWord line) fault is e = cc e
memory_is_no_fault (text_error.OpenQuote line) fault is e = cc e
memory_is_no_fault (text_error.UnknownCommand line) fault is e = cc e
memory_is_no_fault (text_error.ArgumentCount line) fault is e = cc e
memory_is_no_fault (text_error.BadName line) fault is e = cc e

bad_by : (text : List ℕ) (e : TextError) (line : ℕ) (o : Option Fault) → fault_of_text e ≡ o
    → (e ≢ text_error.Memory → IsFirstFault text e) → IsSomeAnd o (λ fault. fault.line ≡ line)
    → IsBad text line
bad_by text e line None is first place = absurd place
bad_by text e line (Some fault) is first place = record {
  error = e;
  first = first (memory_is_no_fault e fault is);
  fault = fault;
  is = is;
  place = place;
}

-- a text that has no lines is a bad script
pub bad_read : (input : Stream) (text : List ℕ) (e : TextError) (result : Result Script RunEnd)
    → IsRead input text → (e ≢ text_error.Memory → IsFirstFault text e) → ReadsFault e result
    → IfOk result (HasRead input)
bad_read input text e (Ok (Bad line)) read first h =
    record { text = text; read = read; says = bad_by text e line (fault_of_text e) refl first h }
bad_read input text e (Ok (Lines lines)) read first h = absurd h
bad_read input text e (Err why) read first h = tt

pub bad_refuses : (input : Stream) (e : TextError) (result : Result Script RunEnd)
    → ReadsFault e result → IfErr result (ReadRefuses input)
bad_refuses input e (Ok script) h = tt
bad_refuses input e (Err end.OutOfMemory) h = tt
bad_refuses input e (Err end.Done) h = absurd h
bad_refuses input e (Err end.Refused) h = absurd h
bad_refuses input e (Err end.ReadFailed) h = absurd h
bad_refuses input e (Err end.WriteFailed) h = absurd h
bad_refuses input e (Err end.DiskFailed) h = absurd h
bad_refuses input e (Err (end.KernelFailed left)) h = absurd h
bad_refuses input e (Err (end.Unreadable row_package fault)) h = absurd h
bad_refuses input e (Err (end.TooLong limit)) h = absurd h
bad_refuses input e (Err (end.BadSnapshot byte)) h = absurd h

-- a fault of a text, or want of memory
pub fault_told : (e : TextError) (fault : Fault) → fault_of_text e ≡ Some fault
    → ReadsFault e (Ok (Bad fault.line))
fault_told e fault is = subst (λ o. IsSomeAnd o (λ f. f.line ≡ fault.line)) (sym is) refl

-- a package that does not load
load_by : (folder : Folder) (which : RowPackage) (why : TreeError) (all : RunEnd) (o : Option Fault)
    → fault_of why ≡ o → IfSome o (DoesNotLoad folder (name_of which))
    → IfSome o (λ fault. all ≡ end.Unreadable which fault) → IfNone o (all ≡ end.OutOfMemory)
    → LoadRefuses folder which all
load_by folder which why all None is refuses some none = subst (LoadRefuses folder which) (sym none) tt
load_by folder which why all (Some fault) is refuses some none =
    subst (LoadRefuses folder which) (sym some) (refl, refuses)

pub load_refuses : (folder : Folder) (which : RowPackage) (why : TreeError) (all : RunEnd)
    → step.LoadRefuses folder (name_of which) why
    → IfSome (fault_of why) (λ fault. all ≡ end.Unreadable which fault)
    → IfNone (fault_of why) (all ≡ end.OutOfMemory) → LoadRefuses folder which all
load_refuses folder which why all refuses some none =
    load_by folder which why all (fault_of why) refl refuses some none

pub network_refuses : (folder : Folder) (all : RunEnd) → LoadRefuses folder Network all
    → RowsRefuse folder all
network_refuses folder (end.Unreadable row_package fault) h =
    subst (LacksRows folder fault) (sym h.0) (no_network h.1)
network_refuses folder end.OutOfMemory h = tt
network_refuses folder end.Done h = absurd h
network_refuses folder end.Refused h = absurd h
network_refuses folder end.ReadFailed h = absurd h
network_refuses folder end.WriteFailed h = absurd h
network_refuses folder end.DiskFailed h = absurd h
network_refuses folder (end.KernelFailed left) h = absurd h
network_refuses folder (end.TooLong limit) h = absurd h
network_refuses folder (end.BadSnapshot byte) h = absurd h

pub wireless_refuses : (folder : Folder) (network : Package) (all : RunEnd)
    → IsLoaded folder network_name network → LoadRefuses folder Wireless all → RowsRefuse folder all
wireless_refuses folder network (end.Unreadable row_package fault) loaded h =
    subst (LacksRows folder fault) (sym h.0) (no_wireless network loaded h.1)
wireless_refuses folder network end.OutOfMemory loaded h = tt
wireless_refuses folder network end.Done loaded h = absurd h
wireless_refuses folder network end.Refused loaded h = absurd h
wireless_refuses folder network end.ReadFailed loaded h = absurd h
wireless_refuses folder network end.WriteFailed loaded h = absurd h
wireless_refuses folder network end.DiskFailed loaded h = absurd h
wireless_refuses folder network (end.KernelFailed left) loaded h = absurd h
wireless_refuses folder network (end.TooLong limit) loaded h = absurd h
wireless_refuses folder network (end.BadSnapshot byte) loaded h = absurd h
