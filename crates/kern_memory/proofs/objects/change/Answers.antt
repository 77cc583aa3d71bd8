use Rattle.std.proofs.Common.{ap, sym, ◌∙◌}
use Rattle.kern_model.specs.ObjectOrder.{set_of}
use Rattle.kern_model.specs.Kernel.{after_call}
use Rattle.kern_memory.proofs.ObjectLemmas.{without_object}
use Rattle.kern_memory.proofs.objects.change.Goals as goal

pub returns-in-Take-clause-did : goal.returns-in-Take-clause-did
returns-in-Take-clause-did c =
    let ks = c.args.objects.now.keys in
    without_object ks c.swap_remove.new.self.keys c.in-Take.object c.swap_remove.ensures.updates.0
    ∙ sym (ap (after_call (set_of ks)) c.in-Take.is)
