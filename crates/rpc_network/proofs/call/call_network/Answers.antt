use Rattle.step_net.specs.Taken.{telled_of}
use Rattle.uci_tool.specs.Folder.{folder_of}
use Rattle.rpc_network.proofs.CallLemmas.{answers_carried}
use Rattle.rpc_network.proofs.call.call_network.Goals as goal

pub returns-in-Ok-clause-answers : goal.returns-in-Ok-clause-answers
returns-in-Ok-clause-answers g c =
    answers_carried (folder_of c.args.store.now) c.args.object c.args.method.now c.args.args.now c.in-Ok.call c.args.net.now c.carry_out.new.net
    (telled_of g.K.Kernel c.args.kernel.now c.carry_out.new.kernel) c.carry_out.result c.in-Ok.ensures.asked c.carry_out.ensures.carries
