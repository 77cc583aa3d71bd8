-- The words of commands.
use Rattle.std.proofs.Common.{arith, ℕ, suc, ◌≡◌, ◌<◌, ◌≤◌, List, [], ◌∷◌, length, Bool, true, false, cond, Option, Some, None, refl, ap, sym, ◌∙◌, subst, take, drop, map, slice_index_or, get_or, codes}
use Rattle.std.specs.Prelude.{Contains, bytes_eq}
use Rattle.std.proofs.lemmas.Slice.Eq.{bytes_eq-Decides}
use Rattle.std.proofs.lemmas.List.{length-map}
use Rattle.std.specs.List.{AllByRecursion}
use Rattle.plane_words.specs.Distinct.{AreDistinct}
use Rattle.kern_model.specs.VlanName.{IsPlainName}
use Rattle.script_lines.specs.Arguments.{long_decimal_of}
use Rattle.plane_main.specs.declared.page.Page.{Page}
use Rattle.plane_main.specs.declared.page.Page.TheVariants.{Help, Version}
use Rattle.plane_main.specs.declared.command.Command.{Command}
use Rattle.plane_main.specs.declared.command.Command.TheVariants.{Start, Uci, Run, Gen, Show}
use Rattle.plane_main.specs.declared.command.TheConstants.{MOST_BRIDGES}
use Rattle.plane_main.specs.declared.run_words.RunAsked.{RunAsked}
use Rattle.plane_main.specs.RunWords.{run_of}
use Rattle.plane_main.specs.Command.{AskFor, IsStart, IsGen, IsCommand, IsPageCommand, page_word}
use Rattle.plane_main.proofs.DistinctLemmas.{all_at, map_split, distinct_behind}

-- the names of a start are the words after the first
names_are : {X : Type 0} (f : X → List ℕ) (words rest : List X) (first : X) (names : List (List ℕ)) → words ≡ first ∷ rest → IsStart (map f words) names → names ≡ map f rest
names_are f words rest first names cut s =
    let spelled = s.spelled in
    let parts : map f words ≡ f first ∷ map f rest = ap (map f) cut in
    cc

-- a word that is no plain name
pub no_start_at : {X : Type 0} (f : X → List ℕ) (words rest : List X) (first word : X) (i : ℕ) (names : List (List ℕ)) → words ≡ first ∷ rest → i < length rest → word ≡ slice_index_or rest i word → (IsPlainName (f word) → ⊥)
    → IsStart (map f words) names → ⊥
no_start_at f words rest first word i names cut low is bad s =
    let all : AllByRecursion IsPlainName (map f rest) = subst (AllByRecursion IsPlainName) (names_are f words rest first names cut s) s.plain in
    bad (all_at IsPlainName (map f (take i rest)) (f word) (map f (drop (suc i) rest)) (subst (AllByRecursion IsPlainName) (map_split f rest i word low is) all))

-- a word that stands twice
pub no_start_twice : {X : Type 0} (f : X → List ℕ) (words rest : List X) (first word : X) (i : ℕ) (names : List (List ℕ)) → words ≡ first ∷ rest → i < length rest → word ≡ slice_index_or rest i word → Contains (map f (take i rest)) (f word)
    → IsStart (map f words) names → ⊥
no_start_twice f words rest first word i names cut low is twice s =
    let all : AreDistinct (map f rest) = subst (λ (z : List (List ℕ)). AreDistinct z) (names_are f words rest first names cut s) s.distinct in
    distinct_behind (map f (take i rest)) (f word) (map f (drop (suc i) rest)) (subst (λ (z : List (List ℕ)). AreDistinct z) (map_split f rest i word low is) all) twice

-- words are the start of one list of names
start_one : (words xs ys : List (List ℕ)) → IsStart words xs → IsStart words ys → ys ≡ xs
start_one words xs ys s t =
    let first = s.spelled in
    let second = t.spelled in
    cc

pub not_both : (words devices : List (List ℕ)) (page : Page) → AskFor words (Show page) → IsStart words devices → ⊥
not_both words devices page asked start =
    let one = ap length asked in
    let more = ap length start.spelled in
    let some = start.some in
    omega arith

other_pages : page_word Help ∷ [] ≡ page_word Version ∷ [] → ⊥
other_pages same = cc same

page_one : (words : List (List ℕ)) (page other : Page) → words ≡ page_word page ∷ [] → words ≡ page_word other ∷ [] → other ≡ page
page_one words Help Help is other = refl
page_one words Version Version is other = refl
page_one words Help Version is other = absurd (other_pages (sym is ∙ other))
page_one words Version Help is other = absurd (other_pages (sym other ∙ is))

-- the first word tells `uci` and `start` apart, and a page has one word alone
uci_or_start : (words rest devices : List (List ℕ)) → words ≡ codes "uci" ∷ rest → IsStart words devices → ⊥
uci_or_start words rest devices asked start = let spelled = start.spelled in absurd (cc (asked, spelled))

uci_or_page : (words rest : List (List ℕ)) (page : Page) → words ≡ codes "uci" ∷ rest → words ≡ page_word page ∷ [] → ⊥
uci_or_page words rest Help asked is = absurd (cc (asked, is))
uci_or_page words rest Version asked is = absurd (cc (asked, is))

uci_one : (words rest other : List (List ℕ)) → words ≡ codes "uci" ∷ rest → words ≡ codes "uci" ∷ other → other ≡ rest
uci_one words rest other asked again = cc (asked, again)

-- the first word of a run of a script
run_by : (word : List ℕ) (b : Bool) (found : Option RunAsked) (asked : RunAsked) → bytes_eq word (codes "run") ≡ b → cond b found None ≡ Some asked → word ≡ codes "run"
run_by word true found asked is some = (bytes_eq-Decides word (codes "run")).0 is
run_by word false found asked is some = absurd (cc some)

run_first : (words : List (List ℕ)) (asked : RunAsked) → run_of words ≡ Some asked → (rest : List (List ℕ)) × (words ≡ codes "run" ∷ rest)
run_first [] asked is = absurd (cc is)
run_first (word ∷ rest) asked is =
    let first : word ≡ codes "run" = run_by word (bytes_eq word (codes "run")) _ asked refl is in
    (rest, ap (λ w. w ∷ rest) first)

run_or_start : (words devices : List (List ℕ)) (asked : RunAsked) → run_of words ≡ Some asked → IsStart words devices → ⊥
run_or_start words devices asked is start =
    let first = (run_first words asked is).1 in
    let spelled = start.spelled in
    absurd (cc (first, spelled))

run_or_uci : (words rest : List (List ℕ)) (asked : RunAsked) → run_of words ≡ Some asked → words ≡ codes "uci" ∷ rest → ⊥
run_or_uci words rest asked is uci =
    let first = (run_first words asked is).1 in
    let same : true ≡ false = ap (λ ws. bytes_eq (get_or ws 0 []) (codes "run")) (sym first ∙ uci) in
    absurd (cc same)

run_or_page : (words : List (List ℕ)) (asked : RunAsked) (page : Page) → run_of words ≡ Some asked → words ≡ page_word page ∷ [] → ⊥
run_or_page words asked Help is page = let first = (run_first words asked is).1 in absurd (cc (first, page))
run_or_page words asked Version is page = let first = (run_first words asked is).1 in absurd (cc (first, page))

run_one : (words : List (List ℕ)) (asked other : RunAsked) → run_of words ≡ Some asked → run_of words ≡ Some other → other ≡ asked
run_one words asked other is again = cc (is, again)

-- the first word of a `gen`, and its number
gen_or_start : (words devices : List (List ℕ)) (count : ℕ) → IsGen words count → IsStart words devices → ⊥
gen_or_start words devices count gen start =
    let first = gen.spelled in
    let spelled = start.spelled in
    absurd (cc (first, spelled))

gen_or_uci : (words rest : List (List ℕ)) (count : ℕ) → IsGen words count → words ≡ codes "uci" ∷ rest → ⊥
gen_or_uci words rest count gen uci =
    let same : true ≡ false = ap (λ ws. bytes_eq (get_or ws 0 []) (codes "gen")) (sym gen.spelled ∙ uci) in
    absurd (cc same)

gen_or_run : (words : List (List ℕ)) (count : ℕ) (asked : RunAsked) → IsGen words count → run_of words ≡ Some asked → ⊥
gen_or_run words count asked gen is =
    let run = (run_first words asked is).1 in
    let same : true ≡ false = ap (λ ws. bytes_eq (get_or ws 0 []) (codes "gen")) (sym gen.spelled ∙ run) in
    absurd (cc same)

gen_or_page : (words : List (List ℕ)) (count : ℕ) (page : Page) → IsGen words count → words ≡ page_word page ∷ [] → ⊥
gen_or_page words count page gen shows =
    let two = ap length gen.spelled in
    let one = ap length shows in
    omega arith

gen_one : (words : List (List ℕ)) (count other : ℕ) → IsGen words count → IsGen words other → other ≡ count
gen_one words count other gen again =
    let spelled = sym gen.spelled ∙ again.spelled in
    let same : gen.digits ≡ again.digits = cc spelled in
    let number : Some other ≡ Some count = sym again.number ∙ ap long_decimal_of (sym same) ∙ gen.number in
    cc number

-- words ask for one command
pub command_one : (words : List (List ℕ)) (command other : Command) → AskFor words command → AskFor words other → other ≡ command
command_one words (Start xs) (Start ys) asked again = ap (λ devices. Start devices) (start_one words xs ys asked again)
command_one words (Start xs) (Uci rest) asked again = absurd (uci_or_start words rest xs again asked)
command_one words (Start xs) (Show page) asked again = absurd (not_both words xs page again asked)
command_one words (Uci rest) (Start xs) asked again = absurd (uci_or_start words rest xs asked again)
command_one words (Uci rest) (Uci other) asked again = ap (λ words. Uci words) (uci_one words rest other asked again)
command_one words (Uci rest) (Show page) asked again = absurd (uci_or_page words rest page asked again)
command_one words (Start xs) (Run a) asked again = absurd (run_or_start words xs a again asked)
command_one words (Uci rest) (Run a) asked again = absurd (run_or_uci words rest a again asked)
command_one words (Run a) (Start xs) asked again = absurd (run_or_start words xs a asked again)
command_one words (Run a) (Uci rest) asked again = absurd (run_or_uci words rest a asked again)
command_one words (Run a) (Run b) asked again = ap (λ r. Run r) (run_one words a b asked again)
command_one words (Run a) (Show page) asked again = absurd (run_or_page words a page asked again)
command_one words (Start xs) (Gen n) asked again = absurd (gen_or_start words xs n again asked)
command_one words (Uci rest) (Gen n) asked again = absurd (gen_or_uci words rest n again asked)
command_one words (Run a) (Gen n) asked again = absurd (gen_or_run words n a again asked)
command_one words (Gen n) (Start xs) asked again = absurd (gen_or_start words xs n asked again)
command_one words (Gen n) (Uci rest) asked again = absurd (gen_or_uci words rest n asked again)
command_one words (Gen n) (Run a) asked again = absurd (gen_or_run words n a asked again)
command_one words (Gen n) (Gen m) asked again = ap (λ count. Gen count) (gen_one words n m asked again)
command_one words (Gen n) (Show page) asked again = absurd (gen_or_page words n page asked again)
command_one words (Show page) (Gen n) asked again = absurd (gen_or_page words n page again asked)
command_one words (Show page) (Run a) asked again = absurd (run_or_page words a page again asked)
command_one words (Show page) (Start xs) asked again = absurd (not_both words xs page asked again)
command_one words (Show page) (Uci rest) asked again = absurd (uci_or_page words rest page again asked)
command_one words (Show page) (Show other) asked again = ap (λ p. Show p) (page_one words page other asked again)

pub none_asked : (words : List (List ℕ)) → (IsPageCommand words → ⊥) → ((rest : List (List ℕ)) → words ≡ codes "uci" ∷ rest → ⊥)
    → run_of words ≡ None → ((count : ℕ) → IsGen words count → ⊥) → ((devices : List (List ℕ)) → IsStart words devices → ⊥) → IsCommand words → ⊥
none_asked words no_page no_uci no_run no_gen no_start (Start devices, asked) = no_start devices asked
none_asked words no_page no_uci no_run no_gen no_start (Uci rest, asked) = no_uci rest asked
none_asked words no_page no_uci no_run no_gen no_start (Run a, asked) = absurd (cc (no_run, asked))
none_asked words no_page no_uci no_run no_gen no_start (Gen count, asked) = no_gen count asked
none_asked words no_page no_uci no_run no_gen no_start (Show page, asked) = no_page (page, asked)

-- the words are this one
pub one_word : {X : Type 0} (f : X → List ℕ) → (words : List X) (word : X) (text : List ℕ) → 1 ≤ length words → length words < 2 → word ≡ get_or words 0 word → f word ≡ text → map f words ≡ text ∷ []
one_word f [] word text some one is same = absurd (omega arith)
one_word f (w ∷ []) word text some one is same = ap (λ y. f y ∷ []) (sym is) ∙ ap (λ t. t ∷ []) same
one_word f (w ∷ v ∷ ws) word text some one is same = absurd (omega arith)

-- the words are these two
pub two_words : {X : Type 0} (words : List X) (first second : X) → 2 ≤ length words → length words < 3 → first ≡ get_or words 0 first → second ≡ get_or words 1 second → words ≡ first ∷ second ∷ []
two_words [] first second some two is next = absurd (omega arith)
two_words (w ∷ []) first second some two is next = absurd (omega arith)
two_words (w ∷ v ∷ []) first second some two is next = ap (λ x. x ∷ v ∷ []) (sym is) ∙ ap (λ y. first ∷ y ∷ []) (sym next)
two_words (w ∷ v ∷ u ∷ ws) first second some two is next = absurd (omega arith)

-- two words are a `gen`, and what its words are
module _ {X : Type 0} (f : X → List ℕ) (words : List X) (first second : X) (two : words ≡ first ∷ second ∷ []) where
  pub gen_of : (count : ℕ) → f first ≡ codes "gen" → long_decimal_of (f second) ≡ Some count → 1 ≤ count → count ≤ MOST_BRIDGES → IsGen (map f words) count
  gen_of count is number some few = record {
    digits = f second;
    spelled = ap (map f) two ∙ ap (λ w. w ∷ f second ∷ []) is;
    number = number;
    some = some;
    few = few;
  }

  gen_spelled : (count : ℕ) (gen : IsGen (map f words) count) → codes "gen" ∷ gen.digits ∷ [] ≡ f first ∷ f second ∷ []
  gen_spelled count gen = sym gen.spelled ∙ ap (map f) two

  pub gen_word : (count : ℕ) → IsGen (map f words) count → f first ≡ codes "gen"
  gen_word count gen = let spelled = gen_spelled count gen in cc

  pub gen_digits : (count : ℕ) → IsGen (map f words) count → long_decimal_of (f second) ≡ Some count
  gen_digits count gen =
      let spelled = gen_spelled count gen in
      let same : gen.digits ≡ f second = cc spelled in
      ap long_decimal_of (sym same) ∙ gen.number

-- a `gen` has two words
pub gen_has_two : {X : Type 0} (f : X → List ℕ) (words : List X) (count : ℕ) → IsGen (map f words) count → length words ≡ 2
gen_has_two f words count gen = sym (length-map words f) ∙ ap length gen.spelled

pub text_of_test : (read text literal : List ℕ) (b : Bool) → b ≡ bytes_eq read literal → b ≡ true → read ≡ text → text ≡ literal
text_of_test read text literal b is passes same = sym same ∙ (bytes_eq-Decides read literal).0 (sym is ∙ passes)
