use Rattle.std.proofs.Common.{Bor, ◌∙◌, sym}
use Rattle.std.specs.Option.{option_map}
use Rattle.serde_json.specs.View.{view}
use Rattle.serde_json.specs.declared.value.Value.{Value}
use Rattle.rpc_login.proofs.ReadLemmas.{part_read}
use Rattle.rpc_login.proofs.read.read_part.Goals as goal

pub returns : goal.returns
returns c =
    part_read c.args.name.now c.args.write (option_map (λ (v : Bor Value). view v.now) c.args.value) c.in-Some.perms c.push.new.self c.in_ok-of.field-0 c.part_name.result.now
    (sym c.in_ok-perms.ensures ∙ c.in-Some.is) c.in_ok-of.ensures c.part_name.ensures c.in_ok-push.ensures.ok
