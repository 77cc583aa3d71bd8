-- A text has commands or one first fault.
use Rattle.std.proofs.Common.{ℕ, zero, suc, ◌≡◌, ◌<◌, ◌≤◌, ◌+◌, ◌-◌, ◌⊎◌, inl, inr, List, [], ◌∷◌, ◌++◌, length, arith, sym, refl, subst, ap, ◌∙◌, append_assoc, length-append}
use Rattle.std.specs.List.{AllByRecursion, AllZip, concat}
use Rattle.uci_text.specs.declared.line.Line.{Line}
use Rattle.uci_text.specs.declared.cmd.Cmd.{Cmd}
use Rattle.uci_text.specs.declared.text_error.TextError.{TextError}
use Rattle.uci_text.specs.declared.text_error.TextError.TheVariants.{BadWord}
use Rattle.uci_text.specs.declared.byte_class.ByteClass.TheVariants.{NotZero}
use Rattle.uci_text.specs.ByteClass.{AllIn, newlines}
use Rattle.uci_text.specs.Open.{Open, open_text, IsOpenCommand, ended, AreExtents, AreFirst}
use Rattle.uci_text.specs.Text.{SpellsLines}
use Rattle.uci_text.specs.FirstFault.{open_error, HasFault, zero_byte, no_end, IsFreeOf}
use Rattle.uci_text.specs.Table.{HasWordsFault}
use Rattle.uci_text.specs.Commands.{IsCmdOf, SpellsCommands, HasCommandFault, of_bytes, of_words, IsFirstCommandFault}
use Rattle.uci_text.specs.Found.{ReadsExtent}
use Rattle.uci_text.proofs.ClassLemmas.{all_in-left, all_in-right}
use Rattle.uci_text.proofs.RunLemmas.{in_gap, fault, run, newlines-append}
use Rattle.uci_text.proofs.FaultLemmas.{open_refused, one_zero, no_zero, command_faultless}
use Rattle.uci_text.proofs.ReadLemmas.{read_begins, extent_shortens, concat-push}
use Rattle.uci_text.proofs.TotalLemmas.{GapAt, gap_in, clean_or_fault, ExtentAt, extent_there, extent_refused, extent_in, length_test}
use Rattle.uci_text.proofs.ExtentLemmas.{refuses_gap}
use Rattle.uci_text.proofs.TableLemmas.{one_words_fault, cmd_or_fault}
use Rattle.uci_text.proofs.CommandsLemmas.{CommandsSoFar, one_words, command_free, gap_free, commands_none, commands_more, commands_all, bytes_refused, words_refused, gap_bytes_refused}
use Rattle.uci_text.proofs.SplitLemmas.{SameSplit, one_extent, one_gap, extent_length}

-- an extent on a line has one fault
open_told : (top number : ℕ) (extent before : List ℕ) (o : Open) → top ≡ number + newlines extent → IsOpenCommand extent before o → run top in_gap extent ≡ fault (open_error o (number + newlines before))
open_told top number extent before o t h =
    let m : newlines extent ≡ newlines before + newlines (open_text o) = ap newlines h.whole ∙ newlines-append before (open_text o) in
    let n : top - newlines (open_text o) ≡ number + newlines before = omega arith in
    open_refused top extent before o h ∙ ap (λ (z : ℕ). fault (open_error o z)) n

same_open : (top : ℕ) (extent : List ℕ) (error other : TextError) → run top in_gap extent ≡ fault error → run top in_gap extent ≡ fault other → other ≡ error
same_open top extent error other r s =
    let both : fault other ≡ fault error = sym s ∙ r in
    cc

one_bytes_fault : (number : ℕ) (extent : List ℕ) (error other : TextError) → HasFault number extent error → HasFault number extent other → other ≡ error
one_bytes_fault number extent error other (zero_byte a x w c e) (zero_byte b y v d f) =
    let s : b ≡ a = one_zero a b x y c d (sym w ∙ v) in
    f ∙ ap (λ (z : List ℕ). BadWord (number + newlines z)) s ∙ sym e
one_bytes_fault number extent error other (zero_byte a x w c e) (no_end b o d h f) = absurd (no_zero extent a x d w)
one_bytes_fault number extent error other (no_end b o d h f) (zero_byte a x w c e) = absurd (no_zero extent a x d w)
one_bytes_fault number extent error other (no_end a o c h e) (no_end b p d i f) =
    f
    ∙ same_open (number + newlines extent) extent _ _ (open_told (number + newlines extent) number extent a o refl h) (open_told (number + newlines extent) number extent b p refl i)
    ∙ sym e

one_extent_fault : (number : ℕ) (extent : List ℕ) (error other : TextError) → HasCommandFault number extent error → HasCommandFault number extent other → other ≡ error
one_extent_fault number extent error other (of_bytes h) (of_bytes i) = one_bytes_fault number extent error other h i
one_extent_fault number extent error other (of_bytes h) (of_words words s c i) = absurd (command_faultless extent [] words s c number error h)
one_extent_fault number extent error other (of_words words s c i) (of_bytes h) = absurd (command_faultless extent [] words s c number other h)
one_extent_fault number extent error other (of_words words s c h) (of_words others t d i) =
    let P : List (List ℕ) → Type 0 = λ z. HasWordsFault number z other in
    one_words_fault number words error other h (subst P (one_words extent [] [] words others s t) i)

-- extents, the last of which has a fault
concat-cons : (extent : List ℕ) (extents : List (List ℕ)) (behind : List ℕ) → concat (extent ∷ extents) ++ behind ≡ extent ++ (concat extents ++ behind)
concat-cons extent extents behind = append_assoc extent (concat extents) behind

has_at : (n m : ℕ) (a b : List ℕ) (error : TextError) → n ≡ m → a ≡ b → HasCommandFault n a error → HasCommandFault m b error
has_at n m a b error e f h =
    let P : ℕ → Type 0 = λ z. HasCommandFault z a error in
    let Q : List ℕ → Type 0 = λ z. HasCommandFault m z error in
    subst Q f (subst P e h)

abbrev IsFree : List ℕ → Type 0
IsFree extent = IsFreeOf HasCommandFault extent

number_on : (n : ℕ) (extent rest : List ℕ) → newlines (extent ++ rest) + n ≡ newlines rest + (newlines extent + n)
number_on n extent rest =
    let e : newlines (extent ++ rest) ≡ newlines extent + newlines rest = newlines-append extent rest in
    omega arith

one_of_extents : (n : ℕ) (good more : List (List ℕ)) (bad worse behind after : List ℕ) (error other : TextError) → AreExtents (good ++ bad ∷ []) behind → AreExtents (more ++ worse ∷ []) after → concat (good ++ bad ∷ []) ++ behind
    ≡ concat (more ++ worse ∷ []) ++ after → AllByRecursion (λ extent. IsFree extent) good → AllByRecursion (λ extent. IsFree extent) more → HasCommandFault (newlines (concat good) + n) bad error
    → HasCommandFault (newlines (concat more) + n) worse other → other ≡ error
one_of_extents n [] [] bad worse behind after error other p q e f g h i =
    let s : SameSplit bad worse behind after = one_extent bad worse behind after p.0 q.0 (sym (concat-cons bad [] behind) ∙ e ∙ concat-cons worse [] after) in
    one_extent_fault _ bad error other h (has_at _ _ worse bad other refl s.front i)
one_of_extents n [] (x ∷ more) bad worse behind after error other p q e f g h i =
    let s : SameSplit bad x behind (concat (more ++ worse ∷ []) ++ after) = one_extent bad x behind (concat (more ++ worse ∷ []) ++ after) p.0 q.0 (sym (concat-cons bad [] behind) ∙ e ∙ concat-cons x (more ++ worse ∷ []) after) in
    absurd (g.0 _ error (has_at _ _ bad x error refl (sym s.front) h))
one_of_extents n (x ∷ good) [] bad worse behind after error other p q e f g h i =
    let s : SameSplit x worse (concat (good ++ bad ∷ []) ++ behind) after = one_extent x worse (concat (good ++ bad ∷ []) ++ behind) after p.0 q.0 (sym (concat-cons x (good ++ bad ∷ []) behind) ∙ e ∙ concat-cons worse [] after) in
    absurd (f.0 _ other (has_at _ _ worse x other refl s.front i))
one_of_extents n (x ∷ good) (y ∷ more) bad worse behind after error other p q e f g h i =
    let s : SameSplit x y (concat (good ++ bad ∷ []) ++ behind) (concat (more ++ worse ∷ []) ++ after) =
    one_extent x y (concat (good ++ bad ∷ []) ++ behind) (concat (more ++ worse ∷ []) ++ after) p.0 q.0 (sym (concat-cons x (good ++ bad ∷ []) behind) ∙ e ∙ concat-cons y (more ++ worse ∷ []) after) in
    one_of_extents (newlines x + n) good more bad worse behind after error other p.1 q.1 (sym s.rest) f.1 g.1
    (has_at _ _ bad bad error (number_on n x (concat good)) refl h)
    (has_at _ _ worse worse other (number_on n y (concat more) ∙ ap (λ (z : List ℕ). newlines (concat more) + (newlines z + n)) s.front) refl i)

one_of_first : (good more : List (List ℕ)) (bad worse behind after : List ℕ) (error other : TextError) → AreFirst (good ++ bad ∷ []) behind → AreFirst (more ++ worse ∷ []) after → concat (good ++ bad ∷ []) ++ behind
    ≡ concat (more ++ worse ∷ []) ++ after → AllByRecursion (λ extent. IsFree extent) good → AllByRecursion (λ extent. IsFree extent) more → HasCommandFault (newlines (concat good) + 1) bad error
    → HasCommandFault (newlines (concat more) + 1) worse other → other ≡ error
one_of_first [] [] bad worse behind after error other p q e f g h i =
    let s : SameSplit bad worse behind after = one_gap bad worse behind after p.0 q.0 (sym (concat-cons bad [] behind) ∙ e ∙ concat-cons worse [] after) in
    one_extent_fault _ bad error other h (has_at _ _ worse bad other refl s.front i)
one_of_first [] (x ∷ more) bad worse behind after error other p q e f g h i =
    let s : SameSplit bad x behind (concat (more ++ worse ∷ []) ++ after) = one_gap bad x behind (concat (more ++ worse ∷ []) ++ after) p.0 q.0 (sym (concat-cons bad [] behind) ∙ e ∙ concat-cons x (more ++ worse ∷ []) after) in
    absurd (g.0 _ error (has_at _ _ bad x error refl (sym s.front) h))
one_of_first (x ∷ good) [] bad worse behind after error other p q e f g h i =
    let s : SameSplit x worse (concat (good ++ bad ∷ []) ++ behind) after = one_gap x worse (concat (good ++ bad ∷ []) ++ behind) after p.0 q.0 (sym (concat-cons x (good ++ bad ∷ []) behind) ∙ e ∙ concat-cons worse [] after) in
    absurd (f.0 _ other (has_at _ _ worse x other refl s.front i))
one_of_first (x ∷ good) (y ∷ more) bad worse behind after error other p q e f g h i =
    let s : SameSplit x y (concat (good ++ bad ∷ []) ++ behind) (concat (more ++ worse ∷ []) ++ after) =
    one_gap x y (concat (good ++ bad ∷ []) ++ behind) (concat (more ++ worse ∷ []) ++ after) p.0 q.0 (sym (concat-cons x (good ++ bad ∷ []) behind) ∙ e ∙ concat-cons y (more ++ worse ∷ []) after) in
    one_of_extents (newlines x + 1) good more bad worse behind after error other p.1 q.1 (sym s.rest) f.1 g.1
    (has_at _ _ bad bad error (number_on 1 x (concat good)) refl h)
    (has_at _ _ worse worse other (number_on 1 y (concat more) ∙ ap (λ (z : List ℕ). newlines (concat more) + (newlines z + 1)) s.front) refl i)

whole_of : (text : List ℕ) (good : List (List ℕ)) (bad behind : List ℕ) → text ≡ concat good ++ bad ++ behind → text ≡ concat (good ++ bad ∷ []) ++ behind
whole_of text good bad behind w = w ∙ ap (λ (z : List ℕ). z ++ behind) (sym (concat-push good bad))

pub command_fault_is_one : (text : List ℕ) (error other : TextError) → IsFirstCommandFault text error → IsFirstCommandFault text other → other ≡ error
command_fault_is_one text error other f g = one_of_first f.good g.good f.bad g.bad f.behind g.behind error other f.extents g.extents (sym (whole_of text f.good f.bad f.behind f.whole) ∙ whole_of text g.good g.bad g.behind g.whole) f.free
    g.free f.fault g.fault

-- a text with commands has no command with a fault
none_behind : (extents : List (List ℕ)) (bad behind : List ℕ) → AreExtents (extents ++ bad ∷ []) behind → [] ≡ concat (extents ++ bad ∷ []) ++ behind → ⊥
none_behind [] bad behind p e =
    let l : 0 < length bad = extent_length bad behind p.0 in
    let a : 0 ≡ length (bad ++ behind) = ap length (e ∙ concat-cons bad [] behind) in
    let b : length (bad ++ behind) ≡ length bad + length behind = length-append bad behind in
    omega arith
none_behind (x ∷ extents) bad behind p e =
    let rest : List ℕ = concat (extents ++ bad ∷ []) ++ behind in
    let l : 0 < length x = extent_length x rest p.0 in
    let a : 0 ≡ length (x ++ rest) = ap length (e ∙ concat-cons x (extents ++ bad ∷ []) behind) in
    let b : length (x ++ rest) ≡ length x + length rest = length-append x rest in
    omega arith

no_fault_in : (lines : List Line) (commands : List Cmd) (number n : ℕ) (text : List ℕ) (good : List (List ℕ)) (bad behind : List ℕ) (error : TextError) → SpellsLines number text lines → AllZip IsCmdOf lines commands → AllIn NotZero text
    → AreExtents (good ++ bad ∷ []) behind → text ≡ concat (good ++ bad ∷ []) ++ behind → HasCommandFault n bad error → ⊥
no_fault_in [] commands number n text good bad behind error s z c p w h = none_behind good bad behind p (sym s ∙ w)
no_fault_in (line ∷ lines) [] number n text good bad behind error s z c p w h = z
no_fault_in (line ∷ lines) (cmd ∷ commands) number n text [] bad behind error s z c p w h =
    let P : List ℕ → Type 0 = λ x. AllIn NotZero x in
    let d : AllIn NotZero s.extent = all_in-left NotZero s.extent s.behind (subst P s.whole c) in
    let e : SameSplit bad s.extent behind s.behind = one_extent bad s.extent behind s.behind p.0 (ended line.words s.spelled) (sym (concat-cons bad [] behind) ∙ sym w ∙ s.whole) in
    command_free s.extent s.behind line.line line.words cmd s.spelled d z.0 n error (has_at n n bad s.extent error refl (sym e.front) h)
no_fault_in (line ∷ lines) (cmd ∷ commands) number n text (x ∷ good) bad behind error s z c p w h =
    let P : List ℕ → Type 0 = λ y. AllIn NotZero y in
    let rest : List ℕ = concat (good ++ bad ∷ []) ++ behind in
    let d : AllIn NotZero s.behind = all_in-right NotZero s.extent s.behind (subst P s.whole c) in
    let e : SameSplit x s.extent rest s.behind = one_extent x s.extent rest s.behind p.0 (ended line.words s.spelled) (sym (concat-cons x (good ++ bad ∷ []) behind) ∙ sym w ∙ s.whole) in
    no_fault_in lines commands (number + newlines s.extent) n s.behind good bad behind error s.rest z.1 d p.1 e.rest h

pub no_commands : (text : List ℕ) (error : TextError) (commands : List Cmd) → IsFirstCommandFault text error → SpellsCommands text commands → ⊥
no_commands text error commands f s = go f.good f.extents (whole_of text f.good f.bad f.behind f.whole) (newlines (concat f.good) + 1) f.fault
  where
    clean : AllIn NotZero (s.spelled.gap ++ s.spelled.behind)
    clean =
        let P : List ℕ → Type 0 = λ z. AllIn NotZero z in
        subst P s.spelled.whole s.spelled.clean

    go : (good : List (List ℕ)) → AreFirst (good ++ f.bad ∷ []) f.behind → text ≡ concat (good ++ f.bad ∷ []) ++ f.behind → (n : ℕ) → HasCommandFault n f.bad error → ⊥
    go [] p w n h =
        let e : SameSplit f.bad s.spelled.gap f.behind s.spelled.behind = one_gap f.bad s.spelled.gap f.behind s.spelled.behind p.0 s.spelled.front (sym (concat-cons f.bad [] f.behind) ∙ sym w ∙ s.spelled.whole) in
        gap_free s.spelled.gap s.spelled.behind s.spelled.front (all_in-left NotZero s.spelled.gap s.spelled.behind clean) n error (has_at n n f.bad s.spelled.gap error refl (sym e.front) h)
    go (x ∷ good) p w n h =
        let rest : List ℕ = concat (good ++ f.bad ∷ []) ++ f.behind in
        let e : SameSplit x s.spelled.gap rest s.spelled.behind = one_gap x s.spelled.gap rest s.spelled.behind p.0 s.spelled.front (sym (concat-cons x (good ++ f.bad ∷ []) f.behind) ∙ sym w ∙ s.spelled.whole) in
        no_fault_in s.lines commands (newlines s.spelled.gap + 1) n s.spelled.behind good f.bad f.behind error s.spelled.commands s.each (all_in-right NotZero s.spelled.gap s.spelled.behind clean) p.1 e.rest h

-- a text has commands or a fault
abbrev IsJudged : List ℕ → Type 0
IsJudged text = ((commands : List Cmd) × SpellsCommands text commands) ⊎ ((error : TextError) × IsFirstCommandFault text error)

commands_at : (fuel : ℕ) (text rest : List ℕ) (number : ℕ) (commands : List Cmd) → length rest ≤ fuel → CommandsSoFar text rest number commands → IsJudged text
commands_at fuel text [] number commands l r = inl (commands, commands_all text [] number commands r refl)
commands_at zero text (b ∷ rest) number commands l r = absurd (omega arith)
commands_at (suc fuel) text (b ∷ rest) number commands l r = go (extent_in number (b ∷ rest) (read_begins text (b ∷ rest) number r.lines r.so_far (length_test (b ∷ rest) (omega arith))))
    (λ next n more m k. commands_at fuel text next n more m k)
  where
    word : (line : Line) (behind : List ℕ) (next : ℕ) → ReadsExtent number (b ∷ rest) line behind next → ((cmd : Cmd) × IsCmdOf line cmd) ⊎ ((error : TextError) × HasWordsFault line.line line.words error)
        → ((after : List ℕ) (n : ℕ) (more : List Cmd) → length after ≤ fuel → CommandsSoFar text after n more → IsJudged text) → IsJudged text
    word line behind next e (inr f) rec = inr (f.0, words_refused text (b ∷ rest) behind number next commands line f.0 r e f.1)
    word line behind next e (inl c) rec =
        let s : length behind < length (b ∷ rest) = extent_shortens number next (b ∷ rest) behind line e in
        rec behind next (commands ++ c.0 ∷ []) (omega arith) (commands_more text (b ∷ rest) behind number next commands line c.0 r e c.1)

    go : ExtentAt number (b ∷ rest) → ((after : List ℕ) (n : ℕ) (more : List Cmd) → length after ≤ fuel → CommandsSoFar text after n more → IsJudged text) → IsJudged text
    go (extent_refused error f) rec = inr (error, bytes_refused text (b ∷ rest) number commands error r f)
    go (extent_there line behind next e) rec = word line behind next e (cmd_or_fault line.line line.words) rec

pub commands_or_fault : (text : List ℕ) → ((commands : List Cmd) × SpellsCommands text commands) ⊎ ((error : TextError) × IsFirstCommandFault text error)
commands_or_fault text = elim (clean_or_fault 1 g.is.gap) [
  | inl c ↦ commands_at (length g.behind) text g.behind (newlines g.is.gap + 1) [] (omega arith)
      (commands_none text g.behind (newlines g.is.gap + 1) [] (record { gap = g.is.gap; whole = g.is.whole; is = g.is.is; clean = c; number_is = refl }) refl)
  | inr f ↦ inr (f.0, gap_bytes_refused text f.0 (refuses_gap text g.behind g.is.gap f.0 g.is refl f.1))
]
  where
    g : GapAt text
    g = gap_in text
