use Rattle.std.proofs.Common.{ℕ, eqb, length, ap, ◌∙◌}
use Rattle.lanes_scan.specs.ByteTest.{is_name_byte}
use Rattle.lanes_scan.proofs.SearchLemmas.{all-from_place}
use Rattle.lanes_scan.proofs.all_name.Goals as goal

pub returns : goal.returns
returns c =
    ap (λ (place : ℕ). eqb place (length c.args.bytes.now)) c.first_place.ensures ∙ all-from_place is_name_byte c.args.bytes.now
