-- Bodies that are read and written.
use Rattle.std.proofs.Common.{◌≡◌, ◌<◌, ℕ, suc, ◌+◌, ◌-◌, List, [], ◌∷◌, ◌++◌, length, take, drop, get_or, Result, Ok, Err, sym, ◌∙◌, ap, subst, arith}
use Rattle.std.proofs.lemmas.List.{append_assoc, append-nil, take_more}
use Rattle.snap_disk.specs.Body.{behind_file, next_file, more_files, RefusesAs}
use Rattle.snap_disk.specs.BodyText.{file_text, files_text}
use Rattle.snap_disk.specs.Phase.{IsPackageFile, ArePackageFiles}
use Rattle.snap_disk.specs.declared.new_file.NewFile.{NewFile}
use Rattle.snap_disk.specs.declared.snap_error.SnapError.{SnapError}
use Rattle.snap_disk.specs.declared.snap_error.SnapError.TheVariants.{DiskFailed, Waiting, NothingWaits, BadSnapshot, Reopen, Limit, Memory}

-- one file more is read
pub next_read : (names : List (List ℕ)) (count i : ℕ) (files : List NewFile) (place : ℕ) (rest : List ℕ) (next : NewFile × ℕ) → i < count → next_file names files place rest ≡ Ok next
    → more_files names (count - i) files place rest ≡ more_files names (count - (i + 1)) (files ++ next.0 ∷ []) (place + next.1) (drop next.1 rest)
next_read names count i files place rest next within is =
    let e : count - i ≡ suc (count - (i + 1)) = omega arith in
    ap (λ (k : ℕ). more_files names k files place rest) e
    ∙ ap (λ (r : Result (NewFile × ℕ) ℕ). behind_file r (λ (n : NewFile × ℕ). more_files names (count - (i + 1)) (files ++ n.0 ∷ []) (place + n.1) (drop n.1 rest))) is

-- or refused
pub next_refused : (names : List (List ℕ)) (count i : ℕ) (files : List NewFile) (place : ℕ) (rest : List ℕ) (wrong : ℕ) → i < count → next_file names files place rest ≡ Err wrong → more_files names (count - i) files place rest ≡ Err wrong
next_refused names count i files place rest wrong within is =
    let e : count - i ≡ suc (count - (i + 1)) = omega arith in
    ap (λ (k : ℕ). more_files names k files place rest) e
    ∙ ap (λ (r : Result (NewFile × ℕ) ℕ). behind_file r (λ (n : NewFile × ℕ). more_files names (count - (i + 1)) (files ++ n.0 ∷ []) (place + n.1) (drop n.1 rest))) is

-- what one reading refuses, another refuses
pub refused_by : {X Y : Type 0} (error : SnapError) (r : Result X ℕ) (s : Result Y ℕ) → ((place : ℕ) → r ≡ Err place → s ≡ Err place) → RefusesAs error r → RefusesAs error s
refused_by DiskFailed r s by h = h
refused_by (Waiting deadline) r s by h = h
refused_by NothingWaits r s by h = h
refused_by (BadSnapshot place) r s by h = by place h
refused_by Reopen r s by h = h
refused_by (Limit number) r s by h = h
refused_by Memory r s by h = h

-- the text of one file more
pub text_push : (names : List (List ℕ)) (files : List NewFile) (file : NewFile) → files_text names (files ++ file ∷ []) ≡ files_text names files ++ file_text names file
text_push names [] file = append-nil (file_text names file)
text_push names (x ∷ files) file = ap (λ (l : List ℕ). file_text names x ++ l) (text_push names files file) ∙ sym (append_assoc (file_text names x) (files_text names files) (file_text names file))

pub text_more : (names : List (List ℕ)) (files : List NewFile) (i : ℕ) (file : NewFile) → i < length files → file ≡ get_or files i file → files_text names (take (i + 1) files) ≡ files_text names (take i files) ++ file_text names file
text_more names files i file within is =
    ap (files_text names) (take_more files i file within ∙ ap (λ x. take i files ++ x ∷ []) (sym is)) ∙ text_push names (take i files) file

pub joined : (new old head text file whole : List ℕ) → new ≡ old ++ file → old ≡ head ++ text → whole ≡ text ++ file → new ≡ head ++ whole
joined new old head text file whole is was all = is ∙ ap (λ (l : List ℕ). l ++ file) was ∙ append_assoc head text file ∙ ap (λ (l : List ℕ). head ++ l) (sym all)

-- the loop over the files of a body goes on
pub loop_read : (names : List (List ℕ)) (count i : ℕ) (files seen pushed : List NewFile) (place : ℕ) (rest behind : List ℕ) (next : NewFile × ℕ) (whole : Result (List NewFile) ℕ) → i < count → seen ≡ files
    → next_file names seen place rest ≡ Ok next → pushed ≡ files ++ next.0 ∷ [] → behind ≡ drop next.1 rest → whole ≡ more_files names (count - i) files place rest
    → whole ≡ more_files names (count - (i + 1)) pushed (place + next.1) behind
loop_read names count i files seen pushed place rest behind next whole within same is pushes backs so_far =
    so_far ∙ next_read names count i files place rest next within (ap (λ (f : List NewFile). next_file names f place rest) (sym same) ∙ is)
    ∙ (λ k. more_files names (count - (i + 1)) (sym pushes k) (place + next.1) (sym backs k))

pub loop_refused : (names : List (List ℕ)) (count i : ℕ) (files seen : List NewFile) (place : ℕ) (rest : List ℕ) (error : SnapError) (whole : Result (List NewFile) ℕ) → i < count → seen ≡ files
    → whole ≡ more_files names (count - i) files place rest → RefusesAs error (next_file names seen place rest) → RefusesAs error whole
loop_refused names count i files seen place rest error whole within same so_far refuses =
    refused_by error (next_file names seen place rest) whole (λ wrong is. so_far ∙ next_refused names count i files place rest wrong within (ap (λ (f : List NewFile). next_file names f place rest) (sym same) ∙ is)) refuses

pub are_push : (count : ℕ) (files : List NewFile) (file : NewFile) → ArePackageFiles count files → IsPackageFile count file → ArePackageFiles count (files ++ file ∷ [])
are_push count [] file are is = (is, tt)
are_push count (x ∷ files) file are is = (are.0, are_push count files file are.1 is)

pub are_more : (count : ℕ) (files : List NewFile) (i : ℕ) (file : NewFile) → i < length files → file ≡ get_or files i file → ArePackageFiles count (take i files) → IsPackageFile count file → ArePackageFiles count (take (i + 1) files)
are_more count files i file within is are here =
    subst (ArePackageFiles count) (sym (take_more files i file within ∙ ap (λ x. take i files ++ x ∷ []) (sym is))) (are_push count (take i files) file are here)
