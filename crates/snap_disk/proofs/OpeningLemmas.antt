-- What layouts give when they are opened.
use Rattle.std.proofs.Common.{◌≡◌, ◌≢◌, ◌⊎◌, inl, inr, ⊎_elim, ℕ, List, Result, Ok, refl, sym, ◌∙◌, ap, subst, arith}
use Rattle.std.proofs.lemmas.Bool.{cases_eq}
use Rattle.std.proofs.lemmas.Bool.Decides.{nat_tests}
use Rattle.plane_disk.specs.Files.{Files}
use Rattle.snap_disk.specs.Body.{read_body}
use Rattle.snap_disk.specs.Opened.{State, opened, durable, waiting_until, restored, put, IsWithin, OpensAs, settled, pending_over}
use Rattle.snap_disk.specs.Phase.{Layout, files_of, AnyGate, AnySecondGate, AnyBody, AnyPackages, ArePackageFiles, IsWaiting, IsRestoring, over, Restores, Undoes, Prepares, Stages, Applies, Commits}
use Rattle.snap_disk.specs.declared.new_file.NewFile.{NewFile}
use Rattle.snap_disk.specs.declared.kept.Kept.{Kept}
use Rattle.snap_disk.proofs.PutLemmas.{put_again, put_beside, beside_self, within_beside}

-- the first gate is closed
pub shut_opens : (names : List (List ℕ)) (l : Layout) → l.gate ≢ 79 → IsWithin l.packages → OpensAs names (settled l.packages) (files_of l)
shut_opens names l shut within = record { at = λ now. grind (arith, nat_tests); within = within }

-- it is open, and the second is closed
pub restoring_opens : (names : List (List ℕ)) (kept : Kept) (l : Layout) → IsRestoring names kept l → IsWithin l.packages → OpensAs names (settled (put kept.files l.packages)) (files_of l)
restoring_opens names kept l is within = record { at = λ now. behind now ∙ ap (λ (b : Result Kept ℕ). restored b l.packages) is.body; within = within }
  where
    behind : (now : ℕ) → opened names (files_of l) now ≡ restored (read_body names l.body) l.packages
    behind now = let gate = is.gate in let second_gate = is.second_gate in grind (arith, nat_tests)

-- both are open
pub waiting_opens : (names : List (List ℕ)) (kept : Kept) (l : Layout) → IsWaiting names kept l → IsWithin l.packages → OpensAs names (over l.packages kept) (files_of l)
waiting_opens names kept l is within = record { at = λ now. behind now ∙ (ap (λ (b : Result Kept ℕ). waiting_until b l.packages now) is.body ∙ whole now); within = within }
  where
    behind : (now : ℕ) → opened names (files_of l) now ≡ waiting_until (read_body names l.body) l.packages now
    behind now = let gate = is.gate in let second_gate = is.second_gate in grind (arith, nat_tests)

    whole : (now : ℕ) → waiting_until (Ok kept) l.packages now ≡ Ok (durable (over l.packages kept) now)
    whole now = grind (arith, nat_tests)

pub opens_by : (names : List (List ℕ)) (s : State) (c d : Files) → c ≡ d → OpensAs names s d → OpensAs names s c
opens_by names s c d same opens = subst (λ (f : Files). OpensAs names s f) (sym same) opens

pub same_rest : (names : List (List ℕ)) (a b : Files) (c : Files) → a ≡ b → OpensAs names (settled a) c → OpensAs names (settled b) c
same_rest names a b c same opens = subst (λ (t : Files). OpensAs names (settled t) c) same opens

-- the first gate is torn, with the second closed
gate_torn : (names : List (List ℕ)) (kept : Kept) (l : Layout) → l.second_gate ≢ 79 → read_body names l.body ≡ Ok kept → IsWithin l.packages → (c : Files) → AnyGate l c
    → OpensAs names (settled l.packages) c ⊎ OpensAs names (settled (put kept.files l.packages)) c
gate_torn names kept l second body within c any = elim (cases_eq any.0 79) [
  | inl is ↦ inr (opens_by names _ c _ any.1 (restoring_opens names kept (record l { gate = any.0 }) (record { gate = is; second_gate = second; body = body }) within))
  | inr shut ↦ inl (opens_by names _ c _ any.1 (shut_opens names (record l { gate = any.0 }) shut within))
]

-- a restore
pub restores_packages : (names : List (List ℕ)) (files : List NewFile) (l : Layout) (c : Files) → AnyPackages files l c → Restores names files l c
restores_packages names files l c any kept is same within =
    let here : put kept.files any.0 ≡ put files l.packages = ap (λ (f : List NewFile). put f any.0) same ∙ put_again files l.packages any.0 any.2 in
    same_rest names _ _ c here (opens_by names _ c _ any.1 (restoring_opens names kept (record l { packages = any.0 }) (record { gate = is.gate; second_gate = is.second_gate; body = is.body })
    (within_beside files l.packages any.0 within any.2)))

pub restores_gate : (names : List (List ℕ)) (count : ℕ) (files : List NewFile) → ArePackageFiles count files → (l : Layout) (c : Files) → AnyGate (record l { packages = put files l.packages }) c → Restores names files l c
restores_gate names count files are l c any kept is same within =
    let beside = put_beside count files l.packages are in
    let again : put kept.files (put files l.packages) ≡ put files l.packages = ap (λ (f : List NewFile). put f (put files l.packages)) same ∙ put_again files l.packages (put files l.packages) beside in
    ⊎_elim (λ o. o) (λ o. same_rest names _ _ c again o) (gate_torn names kept (record l { packages = put files l.packages }) is.second_gate is.body (within_beside files l.packages _ within beside) c any)

-- a rollback
pub undoes_gate : (names : List (List ℕ)) (files : List NewFile) (l : Layout) (c : Files) → AnySecondGate l c → Undoes names files l c
undoes_gate names files l c any kept is same within = elim (cases_eq any.0 79) [
  | inl open_there ↦ inl (opens_by names _ c _ any.1 (waiting_opens names kept (record l { second_gate = any.0 }) (record { gate = is.gate; second_gate = open_there; body = is.body }) within))
  | inr shut ↦ inr (same_rest names _ _ c (ap (λ (f : List NewFile). put f l.packages) same)
      (opens_by names _ c _ any.1 (restoring_opens names kept (record l { second_gate = any.0 }) (record { gate = is.gate; second_gate = shut; body = is.body }) within)))
]

pub undoes_rest : (names : List (List ℕ)) (files : List NewFile) (l : Layout) (c : Files) → Restores names files (record l { second_gate = 0 }) c → Undoes names files l c
undoes_rest names files l c restores kept is same within = inr (restores kept (record { gate = is.gate; second_gate = omega arith; body = is.body }) same within)

-- a begin
pub prepares_second_gate : (names : List (List ℕ)) (body : List ℕ) (l : Layout) (c : Files) → AnySecondGate l c → Prepares names body l c
prepares_second_gate names body l c any kept is = opens_by names _ c _ any.1 (shut_opens names (record l { second_gate = any.0 }) is.gate is.within)

pub prepares_body : (names : List (List ℕ)) (body : List ℕ) (l : Layout) (c : Files) → AnyBody (record l { second_gate = 0 }) c → Prepares names body l c
prepares_body names body l c any kept is = opens_by names _ c _ any.1 (shut_opens names (record l { second_gate = 0; body = any.0 }) is.gate is.within)

pub prepares_gate : (names : List (List ℕ)) (body : List ℕ) (l : Layout) (c : Files) → AnyGate (record l { second_gate = 0; body = body }) c → Prepares names body l c
prepares_gate names body l c any kept is =
    ⊎_elim (λ o. o) (λ o. same_rest names _ _ c is.back o) (gate_torn names kept (record l { second_gate = 0; body = body }) (omega arith) is.reads is.within c any)

pub stages_prepared : (names : List (List ℕ)) (body : List ℕ) (new : List NewFile) (l : Layout) (c : Files) → Prepares names body l c → Stages names body new l c
stages_prepared names body new l c prepares kept is = prepares kept (record { gate = is.gate; reads = is.reads; back = is.back l.packages (beside_self new l.packages); within = is.within })

pub stages_packages : (names : List (List ℕ)) (body : List ℕ) (new : List NewFile) (l : Layout) (c : Files) → AnyPackages new (record { gate = 79; second_gate = 0; body = body; packages = l.packages }) c → Stages names body new l c
stages_packages names body new l c any kept is =
    same_rest names _ _ c (is.back any.0 any.2) (opens_by names _ c _ any.1
    (restoring_opens names kept (record { gate = 79; second_gate = 0; body = body; packages = any.0 }) (record { gate = refl; second_gate = omega arith; body = is.reads }) (within_beside new l.packages any.0 is.within any.2)))

pub applies_stage : (names : List (List ℕ)) (body : List ℕ) (new : List NewFile) (l : Layout) (c : Files) → Stages names body new l c → Applies names body new l c
applies_stage names body new l c stages kept is = inl (stages kept is)

pub applies_gate : (names : List (List ℕ)) (count : ℕ) (body : List ℕ) (new : List NewFile) → ArePackageFiles count new → (l : Layout) (c : Files)
    → AnySecondGate (record { gate = 79; second_gate = 0; body = body; packages = put new l.packages }) c → Applies names body new l c
applies_gate names count body new are l c any kept is =
    let beside = put_beside count new l.packages are in
    let back : put kept.files (put new l.packages) ≡ l.packages = is.back (put new l.packages) beside in
    let within = within_beside new l.packages (put new l.packages) is.within beside in
    let m : Layout = record { gate = 79; second_gate = any.0; body = body; packages = put new l.packages } in
    elim (cases_eq any.0 79) [
      | inl open_there ↦ inr (subst (λ (b : Files). OpensAs names (pending_over (put new l.packages) kept.pending b) c) back
          (opens_by names _ c _ any.1 (waiting_opens names kept m (record { gate = refl; second_gate = open_there; body = is.reads }) within)))
      | inr shut ↦ inl (same_rest names _ _ c back (opens_by names _ c _ any.1 (restoring_opens names kept m (record { gate = refl; second_gate = shut; body = is.reads }) within)))
    ]

pub commits_stage : (names : List (List ℕ)) (body : List ℕ) (new : List NewFile) (l : Layout) (c : Files) → Stages names body new l c → Commits names body new l c
commits_stage names body new l c stages kept is = inl (stages kept is)

pub commits_gate : (names : List (List ℕ)) (count : ℕ) (body : List ℕ) (new : List NewFile) → ArePackageFiles count new → (l : Layout) (c : Files)
    → AnyGate (record { gate = 79; second_gate = 0; body = body; packages = put new l.packages }) c → Commits names body new l c
commits_gate names count body new are l c any kept is =
    let beside = put_beside count new l.packages are in
    ⊎_elim (λ o. inr o) (λ o. inl (same_rest names _ _ c (is.back (put new l.packages) beside) o))
    (gate_torn names kept (record { gate = 79; second_gate = 0; body = body; packages = put new l.packages }) (omega arith) is.reads (within_beside new l.packages (put new l.packages) is.within beside) c any)

pub undoes_named : (names mid : List (List ℕ)) → mid ≡ names → (files : List NewFile) (l : Layout) (c : Files) → Restores mid files (record l { second_gate = 0 }) c → Undoes names files l c
undoes_named names mid same files l c restores = undoes_rest names files l c (subst (λ (n : List (List ℕ)). Restores n files (record l { second_gate = 0 }) c) same restores)
