use Rattle.std.proofs.Common.{◌≡◌, List, [], ◌∷◌, ◌++◌, ◌∙◌, ap, string_bytes}
use Rattle.serde_json.proofs.Views.{Entry}
use Rattle.serde_json.specs.View.{view, members_view}
use Rattle.blob_json.specs.Converted.{behind}
use Rattle.blob_json.specs.FromJson.{before_nul, in_front, members_of, value_of}
use Rattle.blob_json.specs.JsonError.{escaped}
use Rattle.blob_json.proofs.FromJsonLemmas.{goes_on}
use Rattle.blob_json.proofs.from_json.+convert.Goals as goal

pub convert_members-loop-name-preserved : goal.convert_members-loop-name-preserved
convert_members-loop-name-preserved t c =
    let l = c.loop-name in
    let e : Entry = (c.in-Some.name.now, c.in-Some.value.now) in
    let levels = c.args.levels in
    let all : members_of levels (members_view c.args.members.now.entries)
    ≡ behind l.attrs (in_front (escaped (string_bytes e.0)) (before_nul (string_bytes e.0)) (value_of levels (view e.1)) (members_of levels (members_view c.next.new.self))) =
    l.invariant ∙ ap (λ (es : List Entry). behind l.attrs (members_of levels (members_view es))) c.in-Some.ensures.steps in
    let named : c.in_ok-name-in-Ok.name ≡ before_nul (string_bytes e.0) = c.in_ok-name-in-Ok.ensures ∙ ap before_nul c.as_bytes.ensures.value in
    goes_on _ _ _ _ _ _ c.in-Ok.value _ all c.in-Ok.ensures.found
    (c.in_ok-push-in-Ok.ensures.ok ∙ ap (λ name. l.attrs ++ record { name = name; value = c.in-Ok.value } ∷ []) named)
