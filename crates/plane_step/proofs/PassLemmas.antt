-- The folder that a line finds is one that it passes through.
use Rattle.std.proofs.Common.{ℕ, inl, Bool, true, false, cond, Option, Some, None, [], refl}
use Rattle.std.specs.Prelude.{nat_lt}
use Rattle.uci_tool.specs.Folder.{Folder}
use Rattle.uci_tool.specs.Answers.{IsAmong}
use Rattle.uci_tool.proofs.AloneLemmas.{words_front}
use Rattle.script_lines.specs.declared.script_line.ScriptLine.{ScriptLine}
use Rattle.script_lines.specs.declared.script_line.ScriptLine.TheVariants as line
use Rattle.plane_step.specs.FilesMoved.{stays, files_moved}
use Rattle.plane_step.proofs.TimeLemmas.{moves_on}

at_front : (b : Bool) (now next : ℕ) (folder : Folder)
    → IsAmong folder (cond b (stays now folder) (moves_on folder next)).passes
at_front true now next folder = inl refl
at_front false now next folder = inl refl

-- a line passes through the folder that it finds
pub front_passed : (now : ℕ) (folder : Folder) (read : Option ScriptLine)
    → IsAmong folder (files_moved now folder read).passes
front_passed now folder None = inl refl
front_passed now folder (Some (line.At moment)) = at_front (nat_lt moment now) now moment folder
front_passed now folder (Some (line.Uci words)) = words_front words folder []
front_passed now folder (Some (line.Device what)) = inl refl
front_passed now folder (Some (line.Answer interface request json)) = inl refl
front_passed now folder (Some (line.Radio radio request json)) = inl refl
front_passed now folder (Some (line.Operator interface up)) = inl refl
front_passed now folder (Some line.Reload) = inl refl
front_passed now folder (Some (line.Call session object method json)) = inl refl
front_passed now folder (Some (line.OpenClient client user group)) = inl refl
front_passed now folder (Some (line.ClientBytes client bytes)) = inl refl
front_passed now folder (Some (line.CloseClient client)) = inl refl
front_passed now folder (Some line.Dump) = inl refl
front_passed now folder (Some (line.InterfaceStatus name)) = inl refl
front_passed now folder (Some (line.DeviceStatus name)) = inl refl
front_passed now folder (Some (line.RadioStatus name)) = inl refl
