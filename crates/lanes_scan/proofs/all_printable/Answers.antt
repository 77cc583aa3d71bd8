use Rattle.std.proofs.Common.{ℕ, eqb, length, ap, ◌∙◌}
use Rattle.lanes_scan.specs.ByteTest.{is_printable_byte}
use Rattle.lanes_scan.proofs.SearchLemmas.{all-from_place}
use Rattle.lanes_scan.proofs.all_printable.Goals as goal

pub returns : goal.returns
returns c =
    ap (λ (place : ℕ). eqb place (length c.args.bytes.now)) c.first_place.ensures ∙ all-from_place is_printable_byte c.args.bytes.now
