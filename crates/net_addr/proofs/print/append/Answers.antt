use Rattle.std.proofs.Common.{◌≡◌, ◌+◌, ◌-◌, ◌++◌, ℕ, List, length, take, refl, ap, ◌∙◌, arith}
use Rattle.std.proofs.lemmas.Slice.{take-put_mid, drop-put_mid}
use Rattle.net_addr.proofs.print.append.Goals as goal

pub returns : goal.returns
returns c =
    let copied = c.copy_from_slice.ensures.after in
    let size : length c.copy_from_slice.new.self ≡ length c.args.text.now = ap length copied in
    record {
      ends = refl;
      written = take-put_mid c.args.at (c.args.at + length c.args.text.now - c.args.at) c.args.into.now c.copy_from_slice.new.self (c.args.at + length c.args.text.now) (omega arith) (omega arith)
          ∙ ap (λ (xs : List ℕ). take c.args.at c.args.into.now ++ xs) copied;
      behind = drop-put_mid c.args.at (c.args.at + length c.args.text.now - c.args.at) c.args.into.now c.copy_from_slice.new.self (c.args.at + length c.args.text.now) (omega arith) (omega arith) (omega arith);
    }
