use Rattle.std.proofs.Common.{◌≡◌, List, Some, ◌∙◌, ap, sym, string_bytes}
use Rattle.serde_json.proofs.Views.{Entry}
use Rattle.serde_json.specs.View.{view, members_view}
use Rattle.rpc_login.specs.Form as spec
use Rattle.rpc_login.proofs.ReadLemmas.{behind, joins_on}
use Rattle.rpc_login.proofs.read.read_objects.Goals as goal

pub loop-object-preserved : goal.loop-object-preserved
loop-object-preserved c =
    let l = c.loop-object in
    let e : Entry = (c.in-Some.object.now, c.in-Some.value.now) in
    let all : spec.objects c.args.write c.args.scope.now (members_view c.args.members.now.entries) ≡ behind l.perms (spec.joined
    (spec.array_of_texts c.args.write c.args.scope.now (Some (string_bytes e.0)) (view e.1)) (spec.objects c.args.write c.args.scope.now (members_view c.next.new.self))) =
    l.invariant ∙ ap (λ (es : List Entry). behind l.perms (spec.objects c.args.write c.args.scope.now (members_view es))) c.in-Some.ensures.steps in
    joins_on _ _ _ _ c.in-Some-2.more _ all
    (ap (λ s. spec.array_of_texts c.args.write c.args.scope.now (Some s) (view e.1)) (sym c.as_bytes.ensures.value) ∙ (sym c.in_ok-more.ensures ∙ c.in-Some-2.is))
    c.in_ok-perms.ensures
