use Rattle.std.proofs.Common.{List, ap, map, ◌++◌, ◌∙◌}
use Rattle.std.specs.Prelude.{filter}
use Rattle.plane_words.specs.InOrder.{ordered}
use Rattle.ubus_frames.specs.declared.frame.Frame.{Frame}
use Rattle.ubus_table.specs.declared.rows.Object.{Object}
use Rattle.ubus_table.specs.Asked.{by_path, is_asked, description}
use Rattle.ubus_requests.proofs.asked.descriptions.Goals as goal

pub returns : goal.returns
returns c =
    let request : Frame = c.args.request.now in
    let objects : List Object = c.args.bus.now.objects.rows.items in
    let told : List Object → List Frame = λ os. map (description request) (ordered by_path (filter (is_asked request.path) os)) in
    c.in_ok-describe.ensures objects (c.in_ok-describe_clients.ensures c.new-told.ensures.items) ∙ ap (λ (own : List Object). told (own ++ objects)) c.local.ensures
