-- The first call of a phase, and its last.
use Rattle.std.proofs.Common.{◌≡◌, ℕ, ◌+◌, ◌<◌, List, [], ◌++◌, length, take, Some, IfSome, ◌∙◌, ap, arith}
use Rattle.std.proofs.lemmas.List.{set-set, get_or-set_same, append-nil, drop_all}
use Rattle.plane_disk.specs.Files.{Files, bytes_of, with_bytes, put_at, TornAt}
use Rattle.plane_disk.specs.View.{View, Only, IsSound, Elapses, MayStep}
use Rattle.snap_disk.specs.Images.{IsOn, LeavesOnly}
use Rattle.snap_disk.specs.Phase.{Layout, files_of, AnyGate, AnySecondGate, AnyBody, IsFilled}
use Rattle.snap_disk.proofs.Moments.{Run, started, steps_on, calls_on, told}
use Rattle.snap_disk.proofs.LayoutLemmas.{gate_outlives, second_gate_outlives, body_outlives}

pub gate_written : (old new : View) → IsSound old → Elapses old new → MayStep (TornAt 0 0 1) old new → (l : Layout) → IsOn old (files_of l) → Run old new (AnyGate l)
gate_written old new sound time crash l on =
    steps_on old old new (AnyGate l) (TornAt 0 0 1) (started old (AnyGate l) sound (λ c left. (l.gate, on.only c left))) time crash (gate_outlives l)

pub second_gate_written : (old new : View) → IsSound old → Elapses old new → MayStep (TornAt 0 1 1) old new → (l : Layout) → IsOn old (files_of l) → Run old new (AnySecondGate l)
second_gate_written old new sound time crash l on =
    steps_on old old new (AnySecondGate l) (TornAt 0 1 1) (started old (AnySecondGate l) sound (λ c left. (l.second_gate, on.only c left))) time crash (second_gate_outlives l)

abbrev pub FromFilled : View → ℕ → ℕ → Files → Type 0
FromFilled old file size c = (d : Files) × old.is_image d × IsFilled file size d c

pub body_filled : (old new : View) (size : ℕ) → IsSound old → IsSound new → LeavesOnly old new (FromFilled old 1 size) → (l : Layout) → IsOn old (files_of l) → Run old new (AnyBody l)
body_filled old new size sound sound_new images l on =
    calls_on old old new (AnyBody l) (IsFilled 1 size) (started old (AnyBody l) sound (λ c left. (l.body, on.only c left))) images sound_new (body_outlives l size)

-- what the last sync leaves
pub on_after_sync : (mid new : View) (f : Files) → mid.seen ≡ Some f → new.seen ≡ mid.seen → IfSome mid.seen (λ files. Only files new.is_image) → IsOn new f
on_after_sync mid new f seen same durable = record { seen = same ∙ seen; only = told (λ files. Only files new.is_image) mid.seen f durable seen }

-- a file that was cut to nothing and written
pub filled : (f : Files) (file : ℕ) (bytes : List ℕ) → file < length f → let cut : Files = with_bytes f file (take 0 (bytes_of f file)) in with_bytes cut file (put_at (bytes_of cut file) 0 bytes) ≡ with_bytes f file bytes
filled f file bytes within =
    let none : bytes_of (with_bytes f file []) file ≡ [] = get_or-set_same f file [] [] within in
    let whole : put_at (bytes_of (with_bytes f file []) file) 0 bytes ≡ bytes = ap (λ (old : List ℕ). put_at old 0 bytes) none ∙ (ap (λ (l : List ℕ). bytes ++ l) (drop_all (0 + length bytes) [] (omega arith)) ∙ append-nil bytes) in
    ap (λ (b : List ℕ). with_bytes (with_bytes f file []) file b) whole ∙ set-set f file [] bytes

pub within_files : (view : View) → IsSound view → (f : Files) (file : ℕ) → view.seen ≡ Some f → file < length view.names → file < length f
within_files view sound f file seen below =
    let long : length f ≡ length view.names = told (λ files. length files ≡ length view.names) view.seen f sound.counted seen in
    omega (arith, long, below)
