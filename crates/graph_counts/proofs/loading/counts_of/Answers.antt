use Rattle.std.proofs.Common.{arith, [], length, ◌+◌, ◌^◌, ◌<◌, ◌∙◌}
use Rattle.graph_rules.specs.State.{Known}
use Rattle.graph_counts.proofs.LoadLemmas.{nodes_are, can_load, told_network, loaded_size}
use Rattle.graph_counts.proofs.loading.counts_of.Goals as goal

pub load-requires : goal.load-requires
load-requires c =
    let s : Known = record { rows = c.args.rows.now; vlans = []; names = c.args.names.now; radio = c.args.radio.now } in
    let few : length c.deref-2.result.now + length c.deref-3.result.now < 2 ^ 20 = omega (arith, c.if-len.false, c.len.ensures, c.len-2.ensures, c.deref-2.ensures.len, c.deref-3.ensures.len) in
    can_load s c.requires.sound c.deref.result.now c.deref-2.result.now c.deref-3.result.now
    (c.deref.ensures.value ∙ c.in_ok-nodes.ensures ∙ nodes_are s c.requires.sound c.args.plain.now c.requires.front)
    (c.deref-2.ensures.value ∙ c.in_ok-fixed.ensures)
    (c.deref-3.ensures.value ∙ c.in_ok-ports.ensures)
    few

pub tell-requires-clause-size : goal.tell-requires-clause-size
tell-requires-clause-size c =
    let s : Known = record { rows = c.args.rows.now; vlans = []; names = c.args.names.now; radio = c.args.radio.now } in
    loaded_size s c.deref.result.now c.deref-2.result.now c.deref-3.result.now c.in_ok-counts.counts
    (c.deref.ensures.value ∙ c.in_ok-nodes.ensures ∙ nodes_are s c.requires.sound c.args.plain.now c.requires.front)
    c.in_ok-counts.ensures

pub returns : goal.returns
returns c =
    let s : Known = record { rows = c.args.rows.now; vlans = []; names = c.args.names.now; radio = c.args.radio.now } in
    told_network s c.deref.result.now c.deref-2.result.now c.deref-3.result.now c.in_ok-counts.counts c.tell.new.counts
    (c.deref.ensures.value ∙ c.in_ok-nodes.ensures ∙ nodes_are s c.requires.sound c.args.plain.now c.requires.front)
    (c.deref-2.ensures.value ∙ c.in_ok-fixed.ensures)
    (c.deref-3.ensures.value ∙ c.in_ok-ports.ensures)
    c.in_ok-counts.ensures
    c.tell.ensures
