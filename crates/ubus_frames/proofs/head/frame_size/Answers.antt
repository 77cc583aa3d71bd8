use Rattle.std.proofs.Common.{◌≡◌, ◌∙◌, ap, sym, arith}
use Rattle.ubus_frames.specs.declared.frame_error.FrameError.TheVariants.{Version}
use Rattle.ubus_frames.specs.Fault as fault
use Rattle.ubus_frames.specs.Frame.{version_in, blob_length_in}
use Rattle.ubus_frames.specs.Layout as layout
use Rattle.ubus_frames.proofs.FieldLemmas.{version_from, is_some}
use Rattle.ubus_frames.proofs.head.frame_size.Goals as goal

pub returns-then-version-ne0-clause-refused : goal.returns-then-version-ne0-clause-refused
returns-then-version-ne0-clause-refused c =
    let v : c.from_be_bytes-version.result ≡ version_in c.args.bytes.now = version_from _ _ _ c.chunk_at.ensures c.from_be_bytes-version.ensures in
    fault.version (is_some _ (sym c.is_empty.ensures ∙ c.if-is_empty.false)) (λ e. let z : version_in c.args.bytes.now ≡ 0 = e in absurd (omega arith)) (ap Version v)

pub returns-then-bytes-lt12-clause-size : goal.returns-then-bytes-lt12-clause-size
returns-then-bytes-lt12-clause-size c =
    let v : c.from_be_bytes-version.result ≡ version_in c.args.bytes.now = version_from _ _ _ c.chunk_at.ensures c.from_be_bytes-version.ensures in
    layout.head (is_some _ (sym c.is_empty.ensures ∙ c.if-is_empty.false)) (omega arith) (omega arith)

pub returns-in-Ok-clause-size : goal.returns-in-Ok-clause-size
returns-in-Ok-clause-size c =
    let v : c.from_be_bytes-version.result ≡ version_in c.args.bytes.now = version_from _ _ _ c.chunk_at.ensures c.from_be_bytes-version.ensures in
    let l : c.in-Ok.length ≡ blob_length_in c.args.bytes.now = c.in-Ok.ensures.found.1 in
    layout.blob (record { head = omega arith; version = omega arith; taken = c.in-Ok.ensures.found.0 }) (omega arith)

pub returns-in-Ok-2-clause-size : goal.returns-in-Ok-2-clause-size
returns-in-Ok-2-clause-size c =
    let v : c.from_be_bytes-version.result ≡ version_in c.args.bytes.now = version_from _ _ _ c.chunk_at.ensures c.from_be_bytes-version.ensures in
    let l : c.in-Ok.length ≡ blob_length_in c.args.bytes.now = c.in-Ok.ensures.found.1 in
    (record { head = omega arith; version = omega arith; taken = c.in-Ok.ensures.found.0 }, omega arith, omega arith)

pub returns-in-Err-clause-refused : goal.returns-in-Err-clause-refused
returns-in-Err-clause-refused c =
    let v : c.from_be_bytes-version.result ≡ version_in c.args.bytes.now = version_from _ _ _ c.chunk_at.ensures c.from_be_bytes-version.ensures in
    fault.word (omega arith) (omega arith) c.in-Err.ensures.refused
