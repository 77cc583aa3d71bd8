use Rattle.std.proofs.Common.{ap, ◌++◌, ◌∙◌, codes, decimal}
use Rattle.serde_json.specs.Written.{compact_text}
use Rattle.request_lines.specs.RequestLine.{device_text}
use Rattle.request_lines.specs.OptionData.{options_data}
use Rattle.request_lines.proofs.AppendLemmas.{then, five, piece}
use Rattle.request_lines.proofs.request_line.append_interface.Goals as goal

pub returns : goal.returns
returns c =
    let old = c.args.out.now.items in
    let number = decimal c.args.number in
    let row = c.args.row.now in
    let device = device_text c.args.device.now in
    let text = compact_text (options_data row.options) in
    let front = codes "ask " ++ number ++ codes " interface " ++ row.name ++ codes " " in
    let middle = front ++ row.proto ++ codes " " ++ device ++ codes " " in
    let named = piece _ _ _ row.name c.in_ok-extend_from_slice-3.ensures.items c.as_bytes.ensures in
    let fronts = five old _ _ _ _ _ (codes "ask ") number (codes " interface ") row.name (codes " ")
    c.in_ok-extend_from_slice.ensures.items c.in_ok-append_number.ensures
    c.in_ok-extend_from_slice-2.ensures.items named c.in_ok-push.ensures.items in
    let by = piece _ _ _ row.proto c.in_ok-extend_from_slice-4.ensures.items
    c.as_bytes-2.ensures in
    let on = piece _ _ _ device c.in_ok-extend_from_slice-5.ensures.items c.device_text.ensures in
    let middles = five old _ _ _ _ _ front row.proto (codes " ") device (codes " ")
    fronts by c.in_ok-push-2.ensures.items on c.in_ok-push-3.ensures.items in
    let shown = piece _ _ _ text c.in_ok-extend_from_slice-6.ensures.items
    (c.deref.ensures.value ∙ (c.in_ok-options.ensures
    ∙ ap (λ os. compact_text (options_data os)) c.as_slice.ensures)) in
    then old _ _ (middle ++ text) (codes "\n") (then old _ _ middle text middles shown)
    c.in_ok-push-4.ensures.items
