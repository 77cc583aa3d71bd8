use Rattle.std.proofs.Common.{◌≡◌, map, take}
use Rattle.serde_json.specs.Data.{no_members}
use Rattle.serde_json.specs.View.{members_view}
use Rattle.blob_json.specs.ToJson.{put_all}
use Rattle.request_lines.specs.OptionData.{named_of}
use Rattle.request_lines.proofs.option_data.options_json.Given as goal

abbrev pub invariant-loop-option : goal.invariant-loop-option
invariant-loop-option l =
    members_view l.members.entries
    ≡ put_all no_members (map named_of (take l.option-index l.options))
