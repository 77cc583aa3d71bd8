-- A package that was rewritten is rewritten as itself.
use Rattle.std.proofs.Common.{ℕ, ◌≡◌, Bool, true, false, not, ◌&&◌, ⊎_elim, List, [], ◌∷◌, ◌++◌, refl, sym, subst, ◌∙◌, ap, append_assoc, append-nil}
use Rattle.std.specs.List.{AllByRecursion}
use Rattle.std.proofs.lemmas.Bool.{or_left, cond_both, cond-false}
use Rattle.uci_tree.specs.declared.package.Section.{Section}
use Rattle.uci_tree.specs.declared.package.Package.{Package}
use Rattle.uci_text.proofs.ClassLemmas.{each-append}
use Rattle.net_modern.specs.Rules.{has_device, is_bridged, bridge_name, rewritten, over_bridge, bridge_section}
use Rattle.net_modern.specs.Rewriting.{Progress, one_more, sections_now, gets_bridge, added_for, after_section, after_sections, at_start, finished, modern}
use Rattle.net_modern.proofs.RewritingLemmas.{names_after}
use Rattle.net_modern.proofs.SettledLemmas.{rewritten_done, over_bridge_done, bridge_done}

-- no rule is left for a section among these
record IsSettled (sections : List Section) (section : Section) : Type 0 where
  pub alone : rewritten section ≡ section
  pub bridge : is_bridged section ≡ true → has_device sections (bridge_name section) ≡ true

both_ways : {X : Type 0} (b : Bool) → b ≡ true → b ≡ false → X
both_ways b t f = absurd (let e : true ≡ false = sym t ∙ f in cc)

settled_by : (sections : List Section) (section : Section) → rewritten section ≡ section → is_bridged section ≡ false → IsSettled sections section
settled_by sections section alone none = record { alone = alone; bridge = λ e. both_ways (is_bridged section) e none }

-- more device sections settle no less
settled_more : (sections more : List Section) (section : Section) → ((name : List ℕ) → has_device sections name ≡ true → has_device more name ≡ true) → IsSettled sections section → IsSettled more section
settled_more sections more section grows settled = record { alone = settled.alone; bridge = λ e. grows (bridge_name section) (settled.bridge e) }

all_more : (sections more these : List Section) → ((name : List ℕ) → has_device sections name ≡ true → has_device more name ≡ true) → AllByRecursion (IsSettled sections) these → AllByRecursion (IsSettled more) these
all_more sections more [] grows all = tt
all_more sections more (section ∷ these) grows all = (settled_more sections more section grows all.0, all_more sections more these grows all.1)

-- settled sections are gone through without a change
gets_none : (b c : Bool) → (b ≡ true → c ≡ true) → (b && not c) ≡ false
gets_none true true h = refl
gets_none true false h = sym (h refl)
gets_none false c h = refl

unchanged : (is_there : Bool) (progress : Progress) (section : Section) → gets_bridge is_there section ≡ false → rewritten section ≡ section → after_section is_there progress section
    ≡ record progress { before = progress.before ++ section ∷ [] }
unchanged is_there progress section none same =
    cond-false (gets_bridge is_there section) _ _ none ∙ ap (λ (z : Section). record progress { before = progress.before ++ z ∷ [] }) same

still : (whole : List Section) (progress : Progress) (rest : List Section) → sections_now progress rest ≡ whole → AllByRecursion (IsSettled whole) rest → after_sections progress rest ≡ record progress { before = progress.before ++ rest }
still whole progress [] is all = ap (λ (z : List Section). record progress { before = z }) (sym (append-nil progress.before))
still whole progress (section ∷ later) is all =
    let is_there = has_device (sections_now progress (section ∷ later)) (bridge_name section) in
    let next : Progress = record progress { before = progress.before ++ section ∷ [] } in
    let there : is_bridged section ≡ true → is_there ≡ true = λ e. ap (λ (z : List Section). has_device z (bridge_name section)) is ∙ all.0.bridge e in
    let same : after_section is_there progress section ≡ next = unchanged is_there progress section (gets_none (is_bridged section) is_there there) all.0.alone in
    let next_is : sections_now next later ≡ whole = append_assoc progress.before (section ∷ []) (later ++ progress.added) ∙ is in
    ap (λ (z : Progress). after_sections z later) same
    ∙ still whole next later next_is all.1
    ∙ ap (λ (z : List Section). record progress { before = z }) (append_assoc progress.before (section ∷ []) later)

-- what was gone through is settled
record AreSettled (progress : Progress) (later : List Section) : Type 0 where
  pub before : AllByRecursion (IsSettled (sections_now progress later)) progress.before
  pub added : AllByRecursion (IsSettled (sections_now progress later)) progress.added

taken : (b c : Bool) → (b && not c) ≡ false → b ≡ true → c ≡ true
taken true true none is = refl
taken true false none is = sym none
taken false c none is = absurd (let f : false ≡ true = is in cc)

rewritten_settled : (more : List Section) (section : Section) → (is_bridged section ≡ true → has_device more (bridge_name section) ≡ true) → IsSettled more (rewritten section)
rewritten_settled more section there =
    let done = rewritten_done section in
    ⊎_elim
    (λ none. settled_by more (rewritten section) done.alone none)
    (λ same. subst (IsSettled more) (sym same) (record { alone = same; bridge = there }))
    done.bridge

settled_after : (progress : Progress) (section : Section) (later : List Section) → AreSettled progress (section ∷ later)
    → AreSettled (after_section (has_device (sections_now progress (section ∷ later)) (bridge_name section)) progress section) later
settled_after progress section later settled =
    let now = sections_now progress (section ∷ later) in
    let is_there = has_device now (bridge_name section) in
    let next = after_section is_there progress section in
    let more = sections_now next later in
    let grows : (name : List ℕ) → has_device now name ≡ true → has_device more name ≡ true = λ name e. names_after is_there progress section later name
    ∙ or_left (has_device now name) (has_device (added_for is_there progress.made section) name) e in
    let before = all_more now more progress.before grows settled.before in
    let added = all_more now more progress.added grows settled.added in
    let over = over_bridge_done section in
    let ordinal = one_more progress.made in
    let bridge = bridge_done ordinal section in
    let Both : Progress → Type 0 = λ z. AllByRecursion (IsSettled more) z.before × AllByRecursion (IsSettled more) z.added in
    let both : Both next =
    cond_both (gets_bridge is_there section)
    (record {
      before = progress.before ++ over_bridge section ∷ [];
      added = progress.added ++ bridge_section ordinal section ∷ [];
      made = ordinal;
    })
    (record progress { before = progress.before ++ rewritten section ∷ [] })
    Both
    (λ gets. (
      each-append (IsSettled more) progress.before (over_bridge section ∷ []) before (settled_by more (over_bridge section) over.0 over.1, tt),
      each-append (IsSettled more) progress.added (bridge_section ordinal section ∷ []) added (settled_by more (bridge_section ordinal section) bridge.0 bridge.1, tt),
    ))
    (λ gets. (
      each-append (IsSettled more) progress.before (rewritten section ∷ []) before (rewritten_settled more section (λ e. grows (bridge_name section) (taken (is_bridged section) is_there gets e)), tt),
      added,
    )) in
    record { before = both.0; added = both.1 }

all_settled : (progress : Progress) (rest : List Section) → AreSettled progress rest → AreSettled (after_sections progress rest) []
all_settled progress [] settled = settled
all_settled progress (section ∷ later) settled =
    all_settled (after_section (has_device (sections_now progress (section ∷ later)) (bridge_name section)) progress section) later (settled_after progress section later settled)

pub once : (tree : Package) → modern (modern tree) ≡ modern tree
once tree =
    let end = after_sections (at_start tree.made) tree.sections in
    let settled : AreSettled end [] = all_settled (at_start tree.made) tree.sections (record { before = tt; added = tt }) in
    let sections = end.before ++ end.added in
    let all = each-append (IsSettled sections) end.before end.added settled.before settled.added in
    let again = still sections (at_start end.made) sections (append-nil sections) all in
    ap (finished (modern tree)) again ∙ ap (λ (z : List Section). record tree { sections = z; made = end.made }) (append-nil sections)
