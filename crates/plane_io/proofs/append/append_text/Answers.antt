use Rattle.std.proofs.Common.{arith, ◌≡◌, ◌+◌, ◌-◌, length, ap, ◌∙◌}
use Rattle.std.proofs.lemmas.Slice.{drop-put_mid}
use Rattle.plane_io.proofs.append.append_text.Goals as goal

pub returns-clause-behind : goal.returns-clause-behind
returns-clause-behind c =
    let copied : length c.copy_from_slice.new.self ≡ c.args.at + length c.args.text.now - c.args.at = ap length c.copy_from_slice.ensures.after ∙ omega arith in
    drop-put_mid c.args.at (c.args.at + length c.args.text.now - c.args.at) c.args.into.now c.copy_from_slice.new.self (c.args.at + length c.args.text.now) (omega arith) (omega arith) copied
