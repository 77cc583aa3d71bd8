-- Extents of commands, the lines of their places, and their faults.
use Rattle.std.proofs.Common.{ℕ, ◌≡◌, ◌<◌, ◌+◌, List, [], ◌∷◌, ◌++◌, length, true, false, not, arith, sym, refl, subst, ap, ◌∙◌, append_assoc, length-append, nat_eq}
use Rattle.std.proofs.lemmas.List.{append-nil}
use Rattle.std.proofs.lemmas.Bool.Decides.{nat_tests}
use Rattle.uci_text.specs.declared.stop.Stop.{Stop}
use Rattle.uci_text.specs.declared.stop.Stop.TheVariants.{Quote, Backslash}
use Rattle.uci_text.specs.declared.text_error.TextError.{TextError}
use Rattle.uci_text.specs.declared.text_error.TextError.TheVariants.{BadWord, OpenQuote}
use Rattle.uci_text.specs.declared.byte_class.ByteClass.TheVariants.{NotZero}
use Rattle.uci_text.specs.ByteClass.{is_in, AllIn, IsAtEndOr, SplitsBehind, newlines, ends_command}
use Rattle.uci_text.specs.Command.{command_text, SpellsCommand}
use Rattle.uci_text.specs.Open.{Open, open_single, open_double, open_pair, last_backslash, open_text, IsOpenCommand, ended, unended}
use Rattle.uci_text.specs.FirstFault.{HasFault, zero_byte, no_end}
use Rattle.uci_text.specs.Found.{stop_of, TakesCommand, HasNoEnd, TakesGap, ReadsExtent, RefusesExtent, RefusesGap}
use Rattle.uci_text.proofs.ClassLemmas.{has_some}

is_zero : (byte : ℕ) → not (is_in NotZero byte) ≡ true → byte ≡ 0
is_zero byte h = grind (arith, nat_tests)

-- the byte behind the longest front without a zero byte
pub zero_found : (number : ℕ) (extent clean rest : List ℕ) (error : TextError) → SplitsBehind NotZero extent clean rest → nat_eq (length rest) 0 ≡ false → error ≡ BadWord (number + newlines clean) → HasFault number extent error
zero_found number extent clean [] error s t e =
    let n : 0 < length {A = ℕ} [] = has_some [] t in
    absurd (omega arith)
zero_found number extent clean (b ∷ rest) error s t e = zero_byte clean rest (s.whole ∙ ap (λ (z : ℕ). clean ++ z ∷ rest) (is_zero b s.outside)) s.within e

pub open_fault : (number left line : ℕ) (bytes : List ℕ) → HasNoEnd bytes (Quote left) → AllIn NotZero bytes → ((front end : List ℕ) → bytes ≡ front ++ end → length end ≡ left → line ≡ number + newlines front)
    → HasFault number bytes (OpenQuote line)
open_fault number left line bytes h c at = go h.open_piece h.is h.stop_is
  where
    go : (o : Open) → IsOpenCommand bytes h.before o → Quote left ≡ stop_of o → HasFault number bytes (OpenQuote line)
    go (open_single b) i e =
        let n : length (39 ∷ b) ≡ left = cc in
        no_end h.before (open_single b) c i (ap OpenQuote (at h.before (39 ∷ b) i.whole n))
    go (open_double b) i e =
        let n : length (open_text (open_double b)) ≡ left = cc in
        no_end h.before (open_double b) c i (ap OpenQuote (at h.before (open_text (open_double b)) i.whole n))
    go (open_pair b) i e =
        let n : length (open_text (open_pair b)) ≡ left = cc in
        no_end h.before (open_pair b) c i (ap OpenQuote (at h.before (open_text (open_pair b)) i.whole n))
    go last_backslash i e = absurd (let n : Quote left ≡ Backslash = e in cc)

pub backslash_fault : (number line : ℕ) (bytes : List ℕ) → HasNoEnd bytes Backslash → AllIn NotZero bytes → ((front end : List ℕ) → bytes ≡ front ++ end → length end ≡ 1 → line ≡ number + newlines front)
    → HasFault number bytes (BadWord line)
backslash_fault number line bytes h c at = go h.open_piece h.is h.stop_is
  where
    go : (o : Open) → IsOpenCommand bytes h.before o → Backslash ≡ stop_of o → HasFault number bytes (BadWord line)
    go (open_single b) i e = absurd (let n : Backslash ≡ Quote (length (39 ∷ b)) = e in cc)
    go (open_double b) i e = absurd (let n : Backslash ≡ Quote (length (open_text (open_double b))) = e in cc)
    go (open_pair b) i e = absurd (let n : Backslash ≡ Quote (length (open_text (open_pair b))) = e in cc)
    go last_backslash i e = no_end h.before last_backslash c i (ap BadWord (at h.before (92 ∷ []) i.whole refl))

-- a command and the gap behind it are an extent
pub record Between (bytes : List ℕ) (words : List (List ℕ)) (behind : List ℕ) : Type 0 where
  pub extent : List ℕ
  pub whole : bytes ≡ extent ++ behind
  pub spelled : SpellsCommand extent behind words

pub between : (bytes after behind : List ℕ) (words : List (List ℕ)) → TakesCommand bytes words after → TakesGap after behind → Between bytes words behind
between bytes after behind words t g =
    let P : List ℕ → Type 0 = λ z. IsAtEndOr ends_command z in
    record {
      extent = command_text t.command ++ g.gap;
      whole = t.whole ∙ ap (λ (z : List ℕ). command_text t.command ++ z) g.whole ∙ sym (append_assoc (command_text t.command) g.gap behind);
      spelled = record {
        command = t.command;
        gap = g.gap;
        whole = refl;
        is = t.is;
        end = subst P g.whole t.end;
        gap_is = g.is;
        words_are = t.words_are;
      };
    }

-- what stands in front is no longer
pub front_fits : (number : ℕ) (bytes extent behind front : List ℕ) → number + length bytes < 4294967296 → bytes ≡ extent ++ behind → front ≡ extent → number + length front < 4294967296
front_fits number bytes extent behind front l w e =
    let a : length bytes ≡ length extent + length behind = ap length w ∙ length-append extent behind in
    let b : length front ≡ length extent = ap length e in
    omega arith

pub reads : (number next : ℕ) (bytes behind front : List ℕ) (words : List (List ℕ)) (b : Between bytes words behind) → front ≡ b.extent → AllIn NotZero front → next ≡ number + newlines front
    → ReadsExtent number bytes (record { line = number; words = words }) behind next
reads number next bytes behind front words b e c n =
    let P : List ℕ → Type 0 = λ z. AllIn NotZero z in
    record {
      extent = b.extent;
      whole = b.whole;
      spelled = b.spelled;
      clean = subst P e c;
      place = refl;
      next_is = n ∙ ap (λ (z : List ℕ). number + newlines z) e;
    }

pub refuses : (number : ℕ) (bytes behind front : List ℕ) (words : List (List ℕ)) (error : TextError) (b : Between bytes words behind) → front ≡ b.extent → HasFault number front error → RefusesExtent number bytes error
refuses number bytes behind front words error b e f =
    let P : List ℕ → Type 0 = λ z. HasFault number z error in
    record { extent = b.extent; behind = behind; whole = b.whole; is = ended words b.spelled; fault = subst P e f }

pub refuses_open : (number : ℕ) (bytes : List ℕ) (stop : Stop) (error : TextError) → HasNoEnd bytes stop → HasFault number bytes error → RefusesExtent number bytes error
refuses_open number bytes stop error h f = record { extent = bytes; behind = []; whole = sym (append-nil bytes); is = unended h.before h.open_piece h.is refl; fault = f }

pub refuses_gap : (text behind front : List ℕ) (error : TextError) (g : TakesGap text behind) → front ≡ g.gap → HasFault 1 front error → RefusesGap text error
refuses_gap text behind front error g e f =
    let P : List ℕ → Type 0 = λ z. HasFault 1 z error in
    record { gap = g.gap; behind = behind; whole = g.whole; is = g.is; fault = subst P e f }
