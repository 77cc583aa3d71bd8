use Rattle.std.proofs.Common.{arith, get_or, length, refl, subst, ◌∙◌}
use Rattle.std.proofs.lemmas.List.{length-set, take_all}
use Rattle.std.proofs.lemmas.List.Elements.{Contains-get_or}
use Rattle.graph_tables.specs.Differing.{SeesSome}
use Rattle.graph_tables.proofs.DifferLemmas.{none_seen, one_seen}
use Rattle.graph_tables.proofs.judging.look_at.Goals as goal

pub loop-id-init : goal.loop-id-init
loop-id-init c = record { size = c.requires.size; seen = none_seen c.args.names.now c.args.used.now.items }

pub used-is_used-requires : goal.used-is_used-requires
used-is_used-requires c =
    let ids = c.args.ids.now in
    c.requires.ids (get_or ids c.loop-id.id-index 0) (Contains-get_or ids c.loop-id.id-index 0 c.loop-id-test.true)

pub index_mut-requires : goal.index_mut-requires
index_mut-requires c =
    let ids = c.args.ids.now in
    let inside = c.requires.ids (get_or ids c.loop-id.id-index 0) (Contains-get_or ids c.loop-id.id-index 0 c.loop-id-test.true) in
    omega (arith, inside, c.loop-id.invariant.size)

pub returns-clause-used : goal.returns-clause-used
returns-clause-used c = subst (λ ns. SeesSome c.args.names.now ns c.args.used.now.items c.loop-id.used.items) (take_all c.loop-id.id-index c.args.ids.now c.loop-id-test.false) c.loop-id.invariant.seen

pub loop-id-preserved : goal.loop-id-preserved
loop-id-preserved c =
    let ids = c.args.ids.now in
    let k = c.loop-id.id-index in
    let inside = c.requires.ids (get_or ids k 0) (Contains-get_or ids k 0 c.loop-id-test.true) in
    record {
      size = length-set c.loop-id.used.items (get_or ids k 0) c.used-is_used.result ∙ c.loop-id.invariant.size;
      seen = one_seen c.args.names.now ids k (get_or ids k 0) c.args.used.now.items c.loop-id.used.items c.used-is_used.result c.loop-id.invariant.seen c.loop-id-test.true refl (omega (arith, inside, c.loop-id.invariant.size))
          c.used-is_used.ensures;
    }
