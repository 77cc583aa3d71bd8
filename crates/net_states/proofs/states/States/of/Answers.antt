use Rattle.net_states.proofs.LoadLemmas.{tied_by, idle_all}
use Rattle.net_states.proofs.states.States.of.Goals as goal

pub returns-clause-tied : goal.returns-clause-tied
returns-clause-tied c =
    tied_by c.args.inputs.now
    (record { reach = c.in_ok-reach.reach; list = c.in_ok-list.list; spare = c.in_ok-spare.spare; lost = c.in_ok-lost.lost })
    c.as_slice-rows.result.now c.as_slice.result.now c.as_slice-rows.ensures c.as_slice.ensures.value
    c.in_ok-reach.ensures c.requires.own c.in_ok-list.ensures c.in_ok-spare.ensures c.in_ok-lost.ensures.capacity

pub returns-clause-idle : goal.returns-clause-idle
returns-clause-idle c = idle_all c.args.inputs.now c.as_slice-rows.result.now c.in_ok-list.list.items c.in_ok-list.ensures
