use Rattle.std.proofs.Common.{arith, ◌*◌, ◌/◌, ◌<◌, ℕ, List, length, slice_set, false, subst, ap}
use Rattle.std.proofs.lemmas.List.{get_or_read}
use Rattle.graph_objects.specs.Bits.{IsPut}
use Rattle.graph_objects.proofs.BitLemmas.{without_bit, removed}
use Rattle.graph_objects.proofs.bits.Bits.remove.Goals as goal

pub returns : goal.returns
returns c =
    let words = c.self.inside.words.items in
    let within : c.args.number < 64 * length words = omega (arith, c.requires, ap length c.self.view_is) in
    let word = c.index_mut.result.now in
    subst (λ (ws : List ℕ). IsPut ws (slice_set words (c.args.number / 64) (without_bit word c.args.number)) c.args.number false) c.self.view_is
    (removed words c.args.number word within (get_or_read words (c.args.number / 64) word (omega arith) c.index_mut.ensures.value 0))
