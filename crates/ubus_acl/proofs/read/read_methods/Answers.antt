use Rattle.std.proofs.Common.{◌≡◌, List, Some, ◌∷◌, [], ◌++◌, ◌∙◌, ap, sym, string_bytes}
use Rattle.serde_json.proofs.Views.{Entry}
use Rattle.serde_json.specs.View.{view, members_view}
use Rattle.ubus_acl.specs.Form as spec
use Rattle.ubus_acl.proofs.ReadLemmas.{behind, goes_on}
use Rattle.ubus_acl.proofs.read.read_methods.Goals as goal

pub loop-object-preserved : goal.loop-object-preserved
loop-object-preserved c =
    let l = c.loop-object in
    let e : Entry = (c.in-Some.object.now, c.in-Some.value.now) in
    let all : spec.methods (members_view c.args.members.now.entries)
    ≡ behind l.access (spec.in_front (spec.access_to (string_bytes e.0) (spec.methods_of (view e.1))) (spec.methods (members_view c.next.new.self))) =
    l.invariant ∙ ap (λ (es : List Entry). behind l.access (spec.methods (members_view es))) c.in-Some.ensures.steps in
    let names : spec.methods_of (view e.1) ≡ Some c.in-Some-2.methods = sym c.in_ok-methods.ensures ∙ c.in-Some-2.is in
    let object : c.in_ok-object.object ≡ string_bytes e.0 = c.in_ok-object.ensures ∙ c.as_bytes.ensures.value in
    goes_on _ _ _ _ (record { object = c.in_ok-object.object; methods = c.in-Some-2.methods }) _ all
    (ap (spec.access_to (string_bytes e.0)) names ∙ ap (λ pattern. Some (record { object = pattern; methods = c.in-Some-2.methods })) (sym object))
    c.in_ok-push.ensures.ok
