-- The commands of a text, one after another.
use Rattle.std.proofs.Common.{ℕ, ◌≡◌, ◌<◌, ◌+◌, List, [], ◌∷◌, ◌++◌, length, Bool, true, false, not, arith, sym, refl, subst, ap, ◌∙◌, append_assoc, length-append, nat_eq}
use Rattle.std.specs.List.{AllByRecursion, concat, flat_map}
use Rattle.std.proofs.lemmas.List.{append-nil}
use Rattle.uci_text.specs.declared.line.Line.{Line}
use Rattle.uci_text.specs.declared.text_error.TextError.{TextError}
use Rattle.uci_text.specs.declared.byte_class.ByteClass.TheVariants.{NotZero}
use Rattle.uci_text.specs.ByteClass.{AllIn, IsAtEndOr, newlines, ends_word}
use Rattle.uci_text.specs.Word.{word_text, spaced_text}
use Rattle.uci_text.specs.Gap.{IsGap}
use Rattle.uci_text.specs.Open.{IsExtent, ended, AreExtents}
use Rattle.uci_text.specs.Text.{SpellsLines, Spells}
use Rattle.uci_text.specs.FirstFault.{HasFault, IsFreeOf, IsFirstFault}
use Rattle.uci_text.specs.Found.{BeginsOutside, ReadsExtent, RefusesExtent, ReadsGap, RefusesGap}
use Rattle.uci_text.proofs.ClassLemmas.{all_in-append, each-append, has_some}
use Rattle.uci_text.proofs.WordLemmas.{word_length}
use Rattle.uci_text.proofs.RunLemmas.{newlines-append}
use Rattle.uci_text.proofs.FaultLemmas.{command_faultless, gap_faultless}

-- the gap in front and the commands so far, none of which has a fault
pub record ReadSoFar (text rest : List ℕ) (number : ℕ) (lines : List Line) : Type 0 where
  pub gap : List ℕ
  pub extents : List (List ℕ)
  pub whole : text ≡ (gap ++ concat extents) ++ rest
  pub clean : AllIn NotZero (gap ++ concat extents)
  pub gap_is : IsGap gap (concat extents ++ rest)
  pub extents_are : AreExtents extents rest
  pub gap_good : IsFreeOf HasFault gap
  pub good : AllByRecursion (λ extent. IsFreeOf HasFault extent) extents
  pub number_is : number ≡ newlines (gap ++ concat extents) + 1
  pub spelled : (more : List Line) → SpellsLines number rest more → SpellsLines (newlines gap + 1) (concat extents ++ rest) (lines ++ more)
  pub begins : IsAtEndOr (λ byte. not (ends_word byte)) rest

unfoldable pub read_start : (text behind : List ℕ) (number : ℕ) → ReadsGap text behind number → ReadSoFar text behind number []
read_start text behind number g =
    let Q : List ℕ → Type 0 = λ z. AllIn NotZero z in
    let R : ℕ → List Line → Type 0 = λ n more. SpellsLines n behind more in
    record {
      gap = g.gap;
      extents = [];
      whole = g.whole ∙ ap (λ (z : List ℕ). z ++ behind) (sym (append-nil g.gap));
      clean = subst Q (sym (append-nil g.gap)) g.clean;
      gap_is = g.is;
      extents_are = tt;
      gap_good = gap_faultless g.gap behind g.is g.clean;
      good = tt;
      number_is = g.number_is ∙ ap (λ (z : List ℕ). newlines z + 1) (sym (append-nil g.gap));
      spelled = λ more h. subst (λ (n : ℕ). R n more) g.number_is h;
      begins = g.is.next;
    }

pub read_none : (text behind : List ℕ) (number : ℕ) (lines : List Line) → ReadsGap text behind number → lines ≡ [] → ReadSoFar text behind number lines
read_none text behind number lines g e =
    let P : List Line → Type 0 = λ z. ReadSoFar text behind number z in
    subst P (sym e) (read_start text behind number g)

pub concat-push : (extents : List (List ℕ)) (last : List ℕ) → concat (extents ++ last ∷ []) ≡ concat extents ++ last
concat-push [] last = append-nil last
concat-push (extent ∷ extents) last = ap (λ (z : List ℕ). extent ++ z) (concat-push extents last) ∙ sym (append_assoc extent (concat extents) last)

-- the last extent, and what is behind it
pub moved : (extents : List (List ℕ)) (last behind rest : List ℕ) → rest ≡ last ++ behind → concat extents ++ rest ≡ concat (extents ++ last ∷ []) ++ behind
moved extents last behind rest w = ap (λ (z : List ℕ). concat extents ++ z) w ∙ sym (append_assoc (concat extents) last behind) ∙ ap (λ (z : List ℕ). z ++ behind) (sym (concat-push extents last))

pub extents-push : (extents : List (List ℕ)) (last behind rest : List ℕ) → rest ≡ last ++ behind → AreExtents extents rest → IsExtent last behind → AreExtents (extents ++ last ∷ []) behind
extents-push [] last behind rest w a i = (i, tt)
extents-push (extent ∷ extents) last behind rest w a i =
    let P : List ℕ → Type 0 = λ z. IsExtent extent z in
    (subst P (moved extents last behind rest w) a.0, extents-push extents last behind rest w a.1 i)

unfoldable pub read_more : (text rest behind : List ℕ) (number next : ℕ) (lines : List Line) (line : Line) → ReadSoFar text rest number lines → ReadsExtent number rest line behind next → ReadSoFar text behind next (lines ++ line ∷ [])
read_more text rest behind number next lines line r e =
    let P : List ℕ → Type 0 = λ z. IsGap r.gap z in
    let Q : List ℕ → Type 0 = λ z. AllIn NotZero z in
    let all : List (List ℕ) = r.extents ++ e.extent ∷ [] in
    let shift : concat r.extents ++ rest ≡ concat all ++ behind = moved r.extents e.extent behind rest e.whole in
    let front : r.gap ++ concat all ≡ (r.gap ++ concat r.extents) ++ e.extent = ap (λ (z : List ℕ). r.gap ++ z) (concat-push r.extents e.extent) ∙ sym (append_assoc r.gap (concat r.extents) e.extent) in
    let n : newlines (r.gap ++ concat all) ≡ newlines (r.gap ++ concat r.extents) + newlines e.extent = ap newlines front ∙ newlines-append (r.gap ++ concat r.extents) e.extent in
    let a : number ≡ newlines (r.gap ++ concat r.extents) + 1 = r.number_is in
    let b : next ≡ number + newlines e.extent = e.next_is in
    record {
      gap = r.gap;
      extents = all;
      whole = r.whole ∙ append_assoc r.gap (concat r.extents) rest ∙ ap (λ (z : List ℕ). r.gap ++ z) shift ∙ sym (append_assoc r.gap (concat all) behind);
      clean = subst Q (sym front) (all_in-append NotZero (r.gap ++ concat r.extents) e.extent r.clean e.clean);
      gap_is = subst P shift r.gap_is;
      extents_are = extents-push r.extents e.extent behind rest e.whole r.extents_are (ended line.words e.spelled);
      gap_good = r.gap_good;
      good = each-append (λ extent. IsFreeOf HasFault extent) r.extents (e.extent ∷ []) r.good (command_faultless e.extent behind line.words e.spelled e.clean, tt);
      number_is = omega arith;
      spelled = λ more h. goes_on shift more h;
      begins = e.spelled.gap_is.next;
    }
  where
    goes_on : concat r.extents ++ rest ≡ concat (r.extents ++ e.extent ∷ []) ++ behind → (more : List Line) → SpellsLines next behind more
        → SpellsLines (newlines r.gap + 1) (concat (r.extents ++ e.extent ∷ []) ++ behind) ((lines ++ line ∷ []) ++ more)
    goes_on shift more h =
        let P : List ℕ → Type 0 = λ z. SpellsLines (newlines r.gap + 1) z ((lines ++ line ∷ []) ++ more) in
        let Q : List Line → Type 0 = λ z. SpellsLines (newlines r.gap + 1) (concat r.extents ++ rest) z in
        let R : ℕ → Type 0 = λ n. SpellsLines n behind more in
        subst P shift (subst Q (sym (append_assoc lines (line ∷ []) more)) (r.spelled (line ∷ more) (record { extent = e.extent; behind = behind; whole = e.whole; spelled = e.spelled; place = e.place; rest = subst R e.next_is h })))

pub read_all : (text rest : List ℕ) (number : ℕ) (lines : List Line) → ReadSoFar text rest number lines → rest ≡ [] → Spells text lines
read_all text rest number lines r e =
    let P : List Line → Type 0 = λ z. SpellsLines (newlines r.gap + 1) (concat r.extents ++ rest) z in
    let Q : List ℕ → Type 0 = λ z. AllIn NotZero z in
    let whole : text ≡ r.gap ++ concat r.extents = r.whole ∙ ap (λ (z : List ℕ). (r.gap ++ concat r.extents) ++ z) e ∙ append-nil (r.gap ++ concat r.extents) in
    record {
      gap = r.gap;
      behind = concat r.extents ++ rest;
      whole = r.whole ∙ append_assoc r.gap (concat r.extents) rest;
      clean = subst Q (sym whole) r.clean;
      front = r.gap_is;
      commands = subst P (append-nil lines) (r.spelled [] e);
    }

pub read_refused : (text rest : List ℕ) (number : ℕ) (lines : List Line) (error : TextError) → ReadSoFar text rest number lines → RefusesExtent number rest error → IsFirstFault text error
read_refused text rest number lines error r f =
    let P : ℕ → Type 0 = λ n. HasFault n f.extent error in
    let Q : List ℕ → Type 0 = λ z. IsGap r.gap z in
    record {
      good = r.gap ∷ r.extents;
      bad = f.extent;
      behind = f.behind;
      whole = r.whole ∙ ap (λ (z : List ℕ). (r.gap ++ concat r.extents) ++ z) f.whole ∙ sym (append_assoc (r.gap ++ concat r.extents) f.extent f.behind);
      extents = (subst Q (moved r.extents f.extent f.behind rest f.whole) r.gap_is, extents-push r.extents f.extent f.behind rest f.whole r.extents_are f.is);
      free = (r.gap_good, r.good);
      fault = subst P r.number_is f.fault;
    }

pub gap_refused : (text : List ℕ) (error : TextError) → RefusesGap text error → IsFirstFault text error
gap_refused text error f = record { good = []; bad = f.gap; behind = f.behind; whole = f.whole; extents = (f.is, tt); free = tt; fault = f.fault }

not_false : (t : Bool) → not t ≡ true → t ≡ false
not_false false h = refl
not_false true h = absurd (let n : false ≡ true = h in cc)

-- a command begins where something is left
pub read_begins : (text rest : List ℕ) (number : ℕ) (lines : List Line) → ReadSoFar text rest number lines → nat_eq (length rest) 0 ≡ false → BeginsOutside ends_word rest
read_begins text rest number lines r t = go rest (has_some rest t) r.begins
  where
    go : (bytes : List ℕ) → 0 < length bytes → IsAtEndOr (λ byte. not (ends_word byte)) bytes → BeginsOutside ends_word bytes
    go [] l h = absurd (omega arith)
    go (b ∷ bytes) l h = not_false (ends_word b) h

pub extent_shortens : (number next : ℕ) (rest behind : List ℕ) (line : Line) → ReadsExtent number rest line behind next → length behind < length rest
extent_shortens number next rest behind line e =
    let c = e.spelled.command in
    let others : List ℕ = flat_map spaced_text c.others in
    let l : 0 < length (word_text c.first) = word_length c.first e.spelled.is.first in
    let x : length e.extent ≡ length ((word_text c.first ++ others) ++ c.last) + length e.spelled.gap = ap length e.spelled.whole ∙ length-append ((word_text c.first ++ others) ++ c.last) e.spelled.gap in
    let y : length ((word_text c.first ++ others) ++ c.last) ≡ length (word_text c.first ++ others) + length c.last = length-append (word_text c.first ++ others) c.last in
    let z : length (word_text c.first ++ others) ≡ length (word_text c.first) + length others = length-append (word_text c.first) others in
    let w : length rest ≡ length e.extent + length behind = ap length e.whole ∙ length-append e.extent behind in
    omega arith
