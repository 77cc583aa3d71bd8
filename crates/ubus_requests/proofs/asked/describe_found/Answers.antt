use Rattle.std.proofs.Common.{◌≡◌, [], map, Option, OnOk, ap, sym, subst}
use Rattle.std.specs.Prelude.{filter}
use Rattle.std.specs.Option.{option_copied, option_to_list}
use Rattle.plane_words.specs.InOrder.{ordered}
use Rattle.ubus_frames.specs.declared.frame.Frame.{Frame}
use Rattle.ubus_table.specs.declared.rows.Object.{Object}
use Rattle.ubus_table.specs.Asked.{by_path, is_asked, description}
use Rattle.ubus_requests.proofs.asked.describe_found.Goals as goal

pub returns-in-Some : goal.returns-in-Some
returns-in-Some c = λ nothing.
    let request : Frame = c.args.request.now in
    subst (λ (found : Option Object). OnOk c.describe_one.result (c.describe_one.new.told.items ≡ map (description request) (ordered by_path (filter (is_asked request.path) (option_to_list found)))))
    (sym (ap option_copied c.in-Some.is))
    (c.describe_one.ensures [] nothing)
