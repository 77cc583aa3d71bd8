use Rattle.std.proofs.Common.{◌≡◌, List, ◌∙◌, ap, sym, string_bytes}
use Rattle.serde_json.proofs.Views.{Entry}
use Rattle.serde_json.specs.View.{view, members_view}
use Rattle.rpc_login.specs.Form as spec
use Rattle.rpc_login.proofs.ReadLemmas.{behind, joins_on}
use Rattle.rpc_login.proofs.read.read_scopes.Goals as goal

pub loop-scope-preserved : goal.loop-scope-preserved
loop-scope-preserved c =
    let l = c.loop-scope in
    let e : Entry = (c.in-Some.scope.now, c.in-Some.value.now) in
    let all : spec.scopes c.args.write (members_view c.args.members.now.entries) ≡ behind l.perms (spec.joined (spec.scope_of c.args.write (string_bytes e.0) (view e.1)) (spec.scopes c.args.write (members_view c.next.new.self))) =
    l.invariant ∙ ap (λ (es : List Entry). behind l.perms (spec.scopes c.args.write (members_view es))) c.in-Some.ensures.steps in
    joins_on _ _ _ _ c.in-Some-2.more _ all
    (ap (λ s. spec.scope_of c.args.write s (view e.1)) (sym c.as_bytes.ensures.value) ∙ (sym c.in_ok-more.ensures ∙ c.in-Some-2.is))
    c.in_ok-perms.ensures
