use Rattle.net_gen.proofs.RunLemmas.{first_load, still_bare}
use Rattle.net_gen.proofs.run.load_all.Goals as goal

pub returns-clause-loaded : goal.returns-clause-loaded
returns-clause-loaded c =
    first_load c.args.count c.new-net.result c.take_load.new.net c.in-Ok.rows c.no_package-nothing.result
    _ c.new-net.ensures.new c.in-Ok.ensures c.no_package-nothing.ensures c.in-Ok-take_load.ensures.takes

pub returns-clause-silent : goal.returns-clause-silent
returns-clause-silent c = c.in-Ok-take_load.ensures.takes.silent

pub returns-clause-bare : goal.returns-clause-bare
returns-clause-bare c =
    still_bare c.new-net.result c.take_load.new.net c.new-net.ensures.new c.take_load.ensures.kernel
