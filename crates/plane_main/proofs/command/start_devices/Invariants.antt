use Rattle.std.proofs.Common.{◌≡◌, take, map, string_bytes}
use Rattle.std.specs.List.{AllByRecursion}
use Rattle.plane_words.specs.Distinct.{AreDistinct}
use Rattle.kern_model.specs.VlanName.{IsPlainName}
use Rattle.plane_main.proofs.DistinctLemmas.{AreSeen}
use Rattle.plane_main.proofs.command.start_devices.Given as goal

-- the names so far are the words so far, and a name was seen where it is among them
abbrev pub invariant-loop-word : goal.invariant-loop-word
invariant-loop-word l = record {
  same : l.names.items ≡ map string_bytes (take l.word-index l.rest);
  plain : AllByRecursion IsPlainName l.names.items;
  distinct : AreDistinct l.names.items;
  seen : AreSeen l.seen l.names.items;
}
