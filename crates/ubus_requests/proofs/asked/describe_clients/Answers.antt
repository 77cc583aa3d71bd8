use Rattle.std.proofs.Common.{◌≡◌, List, [], map, OnOk, subst, append-nil, ◌∙◌}
use Rattle.std.specs.Prelude.{filter}
use Rattle.std.specs.Option.{option_copied, option_to_list}
use Rattle.plane_words.specs.InOrder.{ordered}
use Rattle.ubus_frames.specs.declared.frame.Frame.{Frame}
use Rattle.ubus_table.specs.declared.rows.Object.{Object}
use Rattle.ubus_table.specs.Asked.{by_path, is_asked, description}
use Rattle.ubus_requests.proofs.AskedLemmas.{asked_alone}
use Rattle.ubus_requests.proofs.asked.describe_clients.Goals as goal

pub returns-in-Some : goal.returns-in-Some
returns-in-Some c = λ nothing.
    let request : Frame = c.args.request.now in
    let objects : List Object = c.args.bus.now.objects.rows.items in
    let found : List Object = option_to_list (option_copied c.find_of_path.result) in
    subst (λ (asked : List Object). OnOk c.describe_found.result (c.describe_found.new.told.items ≡ map (description request) (ordered by_path asked)))
    (asked_alone request.path c.in-Some.path.now objects found c.in-Some.ensures c.find_of_path.ensures)
    (c.describe_found.ensures nothing)

pub returns-in-None : goal.returns-in-None
returns-in-None c = λ nothing.
    let request : Frame = c.args.request.now in
    let objects : List Object = c.args.bus.now.objects.rows.items in
    subst (λ (asked : List Object). OnOk c.describe.result (c.describe.new.told.items ≡ map (description request) (ordered by_path (filter (is_asked request.path) asked))))
    (append-nil c.deref.result.now ∙ c.deref.ensures.value)
    (c.describe.ensures [] nothing)
