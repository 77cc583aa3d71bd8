use Rattle.std.proofs.Common.{◌++◌, ◌∙◌, codes, decimal}
use Rattle.serde_json.specs.Written.{compact_text}
use Rattle.request_lines.specs.OptionData.{radio_data}
use Rattle.request_lines.proofs.AppendLemmas.{then, five, piece}
use Rattle.request_lines.proofs.request_line.append_radio.Goals as goal

pub returns : goal.returns
returns c =
    let old = c.args.out.now.items in
    let number = decimal c.args.number in
    let name = c.args.row.now.name in
    let text = compact_text (radio_data c.args.row.now) in
    let front = codes "ask " ++ number ++ codes " radio " ++ name ++ codes " " in
    let named = piece _ _ _ name c.in_ok-extend_from_slice-3.ensures.items c.as_bytes.ensures in
    let fronts = five old _ _ _ _ _ (codes "ask ") number (codes " radio ") name (codes " ")
    c.in_ok-extend_from_slice.ensures.items c.in_ok-append_number.ensures
    c.in_ok-extend_from_slice-2.ensures.items named c.in_ok-push.ensures.items in
    let shown = piece _ _ _ text c.in_ok-extend_from_slice-4.ensures.items
    (c.deref.ensures.value ∙ c.in_ok-options.ensures) in
    then old _ _ (front ++ text) (codes "\n") (then old _ _ front text fronts shown)
    c.in_ok-push-2.ensures.items
