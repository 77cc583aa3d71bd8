-- Commands.
use Rattle.std.proofs.Common.{ℕ, ◌≡◌, ◌<◌, List, [], ◌∷◌, ◌++◌, length, map, true, false, not, arith, sym, refl, subst, ap, ◌∙◌, append_assoc}
use Rattle.std.specs.List.{AllByRecursion, flat_map}
use Rattle.std.proofs.lemmas.List.{append-nil, map-append}
use Rattle.std.proofs.lemmas.List.Concat.{flat_map-append}
use Rattle.std.proofs.lemmas.Bool.Decides.{nat_tests}
use Rattle.uci_text.specs.declared.stop.Stop.{Stop}
use Rattle.uci_text.specs.declared.byte_class.ByteClass.TheVariants.{Space}
use Rattle.uci_text.specs.ByteClass.{is_in, IsAtEndOr, SplitsBehind, ends_word, ends_command}
use Rattle.uci_text.specs.Piece.{Piece}
use Rattle.uci_text.specs.Word.{Spaced, IsWord, IsSpaced, word_text, word_value, spaced_text}
use Rattle.uci_text.specs.Open.{IsLoose, open_text}
use Rattle.uci_text.specs.Found.{BeginsOutside, TakesWord, IsOpenWord, TakesCommand, HasNoEnd}
use Rattle.uci_text.proofs.ClassLemmas.{each-append}

abbrev pub values_of : List Spaced → List (List ℕ)
values_of words = map (λ word. word_value word.pieces) words

-- the words so far, the last of which has ended
pub record CommandSoFar (bytes : List ℕ) (words : List (List ℕ)) (rest : List ℕ) : Type 0 where
  pub first : List Piece
  pub others : List Spaced
  pub whole : bytes ≡ word_text first ++ (flat_map spaced_text others ++ rest)
  pub first_is : IsWord first
  pub each : AllByRecursion IsSpaced others
  pub words_are : words ≡ word_value first ∷ values_of others

-- a word goes on with the words so far
pub record CommandNext (bytes : List ℕ) (words : List (List ℕ)) (rest : List ℕ) : Type 0 where
  pub begins : BeginsOutside ends_word rest
  pub grows : (pieces : List Piece) (behind : List ℕ) → rest ≡ word_text pieces ++ behind → IsWord pieces → CommandSoFar bytes (words ++ word_value pieces ∷ []) behind
  pub front : List Spaced
  pub front_is : bytes ≡ flat_map spaced_text front ++ rest
  pub loose : AllByRecursion IsLoose front

pub next_none : (bytes : List ℕ) → BeginsOutside ends_word bytes → CommandNext bytes [] bytes
next_none bytes b = record {
  begins = b;
  grows = λ pieces behind e w. record { first = pieces; others = []; whole = e; first_is = w; each = tt; words_are = refl };
  front = [];
  front_is = refl;
  loose = tt;
}

pub next_word : (bytes rest value behind : List ℕ) (words : List (List ℕ)) → CommandNext bytes words rest → TakesWord rest value behind → CommandSoFar bytes (words ++ value ∷ []) behind
next_word bytes rest value behind words n t =
    let P : List ℕ → Type 0 = λ z. CommandSoFar bytes (words ++ z ∷ []) behind in
    subst P (sym t.value_is) (n.grows t.pieces behind t.whole t.is)

pub command_done : (bytes behind spaces next : List ℕ) (words : List (List ℕ)) → CommandSoFar bytes words behind → SplitsBehind Space behind spaces next → IsAtEndOr ends_command next → TakesCommand bytes words next
command_done bytes behind spaces next words r s e = record {
  command = record { first = r.first; others = r.others; last = spaces };
  whole = r.whole ∙ ap (λ (z : List ℕ). word_text r.first ++ (flat_map spaced_text r.others ++ z)) s.whole ∙ simp append_assoc;
  is = record { first = r.first_is; others = r.each; last = s.within };
  end = e;
  words_are = r.words_are;
}

-- neither white space nor the end of a command
goes_on : (byte : ℕ) → not (is_in Space byte) ≡ true → ends_command byte ≡ false → ends_word byte ≡ false
goes_on byte s e = grind (arith, nat_tests)

word_follows : (next : List ℕ) → IsAtEndOr (λ byte. not (is_in Space byte)) next → BeginsOutside ends_command next → BeginsOutside ends_word next
word_follows [] s b = b
word_follows (x ∷ next) s b = goes_on x s b

not_both : (rest : List ℕ) → IsAtEndOr ends_word rest → BeginsOutside ends_word rest → ⊥
not_both [] e b = b
not_both (x ∷ rest) e b =
    let n : true ≡ false = sym e ∙ b in
    cc

apart : (behind spaces next : List ℕ) → behind ≡ spaces ++ next → IsAtEndOr ends_word behind → BeginsOutside ends_word next → 0 < length spaces
apart behind [] next w e b =
    let P : List ℕ → Type 0 = λ z. IsAtEndOr ends_word z in
    absurd (not_both next (subst P w e) b)
apart behind (x ∷ spaces) next w e b = omega arith

loose_from : (words : List Spaced) → AllByRecursion IsSpaced words → AllByRecursion IsLoose words
loose_from [] h = tt
loose_from (w ∷ words) h = (record { spaces = h.0.spaces; pieces = h.0.is.each }, loose_from words h.1)

spaced-append : (words : List Spaced) (word : Spaced) → flat_map spaced_text (words ++ word ∷ []) ≡ flat_map spaced_text words ++ spaced_text word
spaced-append words word = flat_map-append spaced_text words (word ∷ []) ∙ ap (λ (z : List ℕ). flat_map spaced_text words ++ z) (append-nil (spaced_text word))

pub next_more : (bytes behind spaces next : List ℕ) (words : List (List ℕ)) → CommandSoFar bytes words behind → IsAtEndOr ends_word behind → SplitsBehind Space behind spaces next → BeginsOutside ends_command next
    → CommandNext bytes words next
next_more bytes behind spaces next words r e s b =
    let begins : BeginsOutside ends_word next = word_follows next s.outside b in
    let last : Spaced = record { spaces = spaces; pieces = [] } in
    let whole : bytes ≡ word_text r.first ++ (flat_map spaced_text r.others ++ (spaces ++ next)) = r.whole ∙ ap (λ (z : List ℕ). word_text r.first ++ (flat_map spaced_text r.others ++ z)) s.whole in
    record {
      begins = begins;
      grows = grown (apart behind spaces next s.whole e begins) whole;
      front = record { spaces = []; pieces = r.first } ∷ (r.others ++ last ∷ []);
      front_is = whole ∙ sym (ap (λ (z : List ℕ). (word_text r.first ++ z) ++ next) (spaced-append r.others last) ∙ simp (append_assoc, append-nil));
      loose = (record { spaces = tt; pieces = r.first_is.each }, each-append IsLoose r.others (last ∷ []) (loose_from r.others r.each) (record { spaces = s.within; pieces = tt }, tt));
    }
  where
    grown : 0 < length spaces → bytes ≡ word_text r.first ++ (flat_map spaced_text r.others ++ (spaces ++ next)) → (pieces : List Piece) (after : List ℕ) → next ≡ word_text pieces ++ after → IsWord pieces
        → CommandSoFar bytes (words ++ word_value pieces ∷ []) after
    grown some whole pieces after w is =
        let word : Spaced = record { spaces = spaces; pieces = pieces } in
        record {
          first = r.first;
          others = r.others ++ word ∷ [];
          whole = whole ∙ ap (λ (z : List ℕ). word_text r.first ++ (flat_map spaced_text r.others ++ (spaces ++ z))) w ∙ sym (ap (λ (z : List ℕ). word_text r.first ++ (z ++ after)) (spaced-append r.others word) ∙ simp append_assoc);
          first_is = r.first_is;
          each = each-append IsSpaced r.others (word ∷ []) r.each (record { apart = some; spaces = s.within; is = is }, tt);
          words_are = ap (λ (z : List (List ℕ)). z ++ word_value pieces ∷ []) r.words_are ∙ ap (λ (z : List (List ℕ)). word_value r.first ∷ z) (sym (map-append (λ (x : Spaced). word_value x.pieces) r.others (word ∷ [])));
        }

pub command_open : (bytes rest : List ℕ) (words : List (List ℕ)) (stop : Stop) → CommandNext bytes words rest → IsOpenWord rest stop → HasNoEnd bytes stop
command_open bytes rest words stop n o =
    let last : Spaced = record { spaces = []; pieces = o.pieces } in
    record {
      before = flat_map spaced_text (n.front ++ last ∷ []);
      open_piece = o.last_is.open_piece;
      is = record {
        front = n.front ++ last ∷ [];
        whole = n.front_is ∙ ap (λ (z : List ℕ). flat_map spaced_text n.front ++ z) (o.whole ∙ ap (λ (z : List ℕ). word_text o.pieces ++ z) o.last_is.whole)
            ∙ sym (append_assoc (flat_map spaced_text n.front) (word_text o.pieces) (open_text o.last_is.open_piece)) ∙ ap (λ (z : List ℕ). z ++ open_text o.last_is.open_piece) (sym (spaced-append n.front last));
        before_is = refl;
        loose = each-append IsLoose n.front (last ∷ []) n.loose (record { spaces = tt; pieces = o.each }, tt);
        open_is = o.last_is.is;
      };
      stop_is = o.last_is.stop_is;
    }
