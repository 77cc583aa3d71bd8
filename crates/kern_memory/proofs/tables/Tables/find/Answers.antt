use Rattle.std.proofs.Common.{ap, sym, ◌∙◌}
use Rattle.std.specs.FinMap as map
use Rattle.kern_memory.specs.Tables.{KernelTables}
use Rattle.kern_memory.proofs.DeviceLemmas.{looked}
use Rattle.kern_memory.proofs.tables.Tables.find.Goals as goal

pub returns : goal.returns
returns c =
    c.copied.ensures ∙ c.get.ensures.value ∙ sym (looked c.self.inside.devices.entries c.args.name.now)
    ∙ ap (λ (t : KernelTables). map.get t.devices c.args.name.now) c.self.view_is
