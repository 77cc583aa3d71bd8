-- What faults are called.
use Rattle.std.specs.Prelude.{ℕ, List, [], ◌∷◌, ◌++◌, codes, Option, Some, None}
use Rattle.serde_json.specs.Data.{Data}
use Rattle.net_rows.specs.declared.fault_name.FaultName.{FaultName}
use Rattle.net_rows.specs.declared.fault_name.FaultName.TheVariants as fault
use Rattle.net_rows.specs.declared.rows.RowFault.{RowFault}
use Rattle.net_status.specs.Values.{text}

abbrev pub fault_word : FaultName → List ℕ
fault_word fault.NoName = codes "NoName"
fault_word fault.BadName = codes "BadName"
fault_word fault.WrongType = codes "WrongType"
fault_word fault.BadVid = codes "BadVid"
fault_word fault.BadLower = codes "BadLower"
fault_word fault.BadPort = codes "BadPort"
fault_word fault.BridgePort = codes "BridgePort"
fault_word fault.SameVlan = codes "SameVlan"
fault_word fault.TooHigh = codes "TooHigh"
fault_word fault.BadMtu = codes "BadMtu"
fault_word fault.BadMac = codes "BadMac"
fault_word fault.NoBridge = codes "NoBridge"
fault_word fault.DoublePort = codes "DoublePort"
fault_word fault.SecondPvid = codes "SecondPvid"
fault_word fault.BadDevice = codes "BadDevice"
fault_word fault.Alias = codes "Alias"
fault_word fault.BadAddress = codes "BadAddress"
fault_word fault.BadMask = codes "BadMask"
fault_word fault.BadGateway = codes "BadGateway"
fault_word fault.BadMetric = codes "BadMetric"
fault_word fault.OldSyntax = codes "OldSyntax"
fault_word fault.NoInterface = codes "NoInterface"
fault_word fault.BadTarget = codes "BadTarget"
fault_word fault.BadTable = codes "BadTable"

-- behind a space, the port or word that a fault is about
abbrev pub argument_part : Option (List ℕ) → List ℕ
argument_part None = []
argument_part (Some argument) = 32 ∷ argument

-- a fault with its argument
abbrev pub fault_text : RowFault → List ℕ
fault_text found = fault_word found.name ++ argument_part found.argument

abbrev pub fault_item : RowFault → Data
fault_item found = text (fault_text found)

-- a made name that is present: the one fault that depends on the present devices
abbrev pub taken_item : Data
taken_item = text (codes "NameTaken")
