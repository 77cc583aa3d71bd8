use Rattle.std.proofs.Common.{◌≡◌, List, ◌∙◌, ap, sym, string_bytes}
use Rattle.serde_json.proofs.Views.{Entry}
use Rattle.serde_json.specs.View.{view, members_view}
use Rattle.ubus_acl.specs.Form.{in_front}
use Rattle.rpc_login.specs.Form as spec
use Rattle.rpc_login.proofs.ReadLemmas.{behind, goes_on}
use Rattle.rpc_login.proofs.read.read_groups.Goals as goal

pub loop-name-preserved : goal.loop-name-preserved
loop-name-preserved c =
    let l = c.loop-name in
    let e : Entry = (c.in-Some.name.now, c.in-Some.value.now) in
    let all : spec.named_groups (members_view c.args.members.now.entries) ≡ behind l.groups (in_front (spec.group_of (string_bytes e.0) (view e.1)) (spec.named_groups (members_view c.next.new.self))) =
    l.invariant ∙ ap (λ (es : List Entry). behind l.groups (spec.named_groups (members_view es))) c.in-Some.ensures.steps in
    goes_on _ _ _ _ c.in-Some-2.group _ all
    (ap (λ s. spec.group_of s (view e.1)) (sym c.as_bytes.ensures.value) ∙ (sym c.in_ok-group.ensures ∙ c.in-Some-2.is))
    c.in_ok-push.ensures.ok
