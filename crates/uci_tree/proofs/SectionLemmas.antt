-- The sections of a draft, by places.
use Rattle.std.proofs.Common.{ℕ, zero, suc, ◌≡◌, ◌+◌, ◌<◌, Bool, true, false, cond, List, [], ◌∷◌, ◌++◌, length, get_or, set, Option, Some, None, Ok, bytes_eq, position, is_some, refl, sym, ap, subst, ◌∙◌, arith}
use Rattle.std.specs.List.{AllByRecursion}
use Rattle.std.specs.Option.{option_map}
use Rattle.std.specs.Ordering.{nat_cmp}
use Rattle.std.specs.Cmp.Lexicographic.{slice_cmp, texts_ties}
use Rattle.std.specs.BTreeMap.{BTreeMap, get, is_at}
use Rattle.std.proofs.lemmas.List.{length-set, length_push, length-map, map-set, map_push, get_or-map}
use Rattle.std.proofs.lemmas.Slice.Eq.{bytes_eq-Decides}
use Rattle.uci_tree.specs.declared.package.Opt.{Opt}
use Rattle.uci_tree.specs.declared.package.Section.{Section}
use Rattle.uci_tree.specs.declared.options.Options.{Options}
use Rattle.uci_tree.specs.declared.draft_section.DraftSection.{DraftSection}
use Rattle.uci_tree.specs.Find.{named_place}
use Rattle.uci_tree.specs.Fold.{Draft, changed_at, added, with_options, with_options_at}
use Rattle.uci_tree.specs.Slots.{options_of, section_of, sections_of}
use Rattle.uci_tree.specs.Index.{first_place, HasPlaces, HasNoted}
use Rattle.uci_text.proofs.ClassLemmas.{each-append}
use Rattle.uci_tree.proofs.FoldLemmas.{position-cons, write_changed}

-- the first place in a list with one more at the end
last_place : (b : Bool) (n : ℕ) → option_map (λ k. suc k) (cond {A = Option ℕ} b (Some n) None) ≡ cond {A = Option ℕ} b (Some (suc n)) None
last_place true n = refl
last_place false n = refl

later_place : (b : Bool) (n : ℕ) (place : Option ℕ) → option_map (λ k. suc k) (first_place place (cond {A = Option ℕ} b (Some n) None)) ≡ first_place (option_map (λ k. suc k) place) (cond {A = Option ℕ} b (Some (suc n)) None)
later_place b n None = last_place b n
later_place b n (Some place) = refl

front_place : (a b : Bool) (n : ℕ) (place : Option ℕ) → cond {A = Option ℕ} a (Some 0) (option_map (λ k. suc k) (first_place place (cond {A = Option ℕ} b (Some n) None)))
    ≡ first_place (cond {A = Option ℕ} a (Some 0) (option_map (λ k. suc k) place)) (cond {A = Option ℕ} b (Some (suc n)) None)
front_place true b n place = refl
front_place false b n place = later_place b n place

pub position-push : {X : Type 0} (p : X → Bool) (xs : List X) (x : X) → position p (xs ++ x ∷ []) ≡ first_place (position p xs) (cond {A = Option ℕ} (p x) (Some (length xs)) None)
position-push p [] x = position-cons p x []
position-push p (y ∷ xs) x =
    position-cons p y (xs ++ x ∷ [])
    ∙ ap (λ (z : Option ℕ). cond {A = Option ℕ} (p y) (Some 0) (option_map (λ k. suc k) z)) (position-push p xs x)
    ∙ front_place (p y) (p x) (length xs) (position p xs)
    ∙ ap (λ (z : Option ℕ). first_place z (cond {A = Option ℕ} (p x) (Some (suc (length xs))) None)) (sym (position-cons p y xs))

-- a new section's name has its place, where the name had none
pub places_push : (old new : BTreeMap (List ℕ) ℕ) (sections pushed : List Section) (section : Section) (place : ℕ) → HasPlaces old sections → HasNoted old new section.name place → place ≡ length sections → pushed ≡ sections ++ section ∷ []
    → HasPlaces new pushed
places_push old new sections pushed section place h n e w name =
    n name
    ∙ ap (λ (z : Option ℕ). first_place z (cond {A = Option ℕ} (bytes_eq section.name name) (Some place) None)) (h name)
    ∙ ap (λ (z : ℕ). first_place (named_place sections name) (cond {A = Option ℕ} (bytes_eq section.name name) (Some z) None)) e
    ∙ sym (position-push (λ (section : Section). bytes_eq section.name name) sections section)
    ∙ ap (λ (z : List Section). named_place z name) (sym w)

pub within_push : {X : Type 0} (xs pushed : List X) (x : X) (place at : ℕ) → place ≡ length xs → pushed ≡ xs ++ x ∷ [] → Some place ≡ Some at → at < length pushed
within_push xs pushed x place at e w s =
    let same : place ≡ at = cc in
    let long : length pushed ≡ length xs + 1 = ap length w ∙ length_push xs x in
    omega arith

-- a name is noted
no_second : (place : Option ℕ) → place ≡ first_place place None
no_second None = refl
no_second (Some place) = refl

noted_by : (b : Bool) (place : ℕ) (was : Option ℕ) → (b ≡ true → was ≡ None) → cond {A = Option ℕ} b (Some place) was ≡ first_place was (cond {A = Option ℕ} b (Some place) None)
noted_by true place was h = ap (λ (z : Option ℕ). first_place z (Some place)) (sym (h refl))
noted_by false place was h = no_second was

pub noted : (old new : BTreeMap (List ℕ) ℕ) (name : List ℕ) (place : ℕ) → get (slice_cmp nat_cmp) old name ≡ None
    → ((other : List ℕ) → get (slice_cmp nat_cmp) new other ≡ cond (is_at (slice_cmp nat_cmp name) other) (Some place) (get (slice_cmp nat_cmp) old other)) → HasNoted old new name place
noted old new name place absent h other =
    let same : is_at (slice_cmp nat_cmp name) other ≡ bytes_eq name other = sym (texts_ties name other) in
    h other
    ∙ ap (λ (z : Bool). cond {A = Option ℕ} z (Some place) (get (slice_cmp nat_cmp) old other)) same
    ∙ noted_by (bytes_eq name other) place (get (slice_cmp nat_cmp) old other) (λ e. ap (λ (z : List ℕ). get (slice_cmp nat_cmp) old z) (sym ((bytes_eq-Decides name other).0 e)) ∙ absent)

-- what holds of each section
pub all_written : {X : Type 0} (P : X → Type 0) (xs : List X) (place : ℕ) (y : X) → AllByRecursion P xs → P y → AllByRecursion P (set xs place y)
all_written P [] place y h g = h
all_written P (x ∷ xs) zero y h g = (g, h.1)
all_written P (x ∷ xs) (suc place) y h g = (h.0, all_written P xs place y h.1 g)

pub all_at : {X : Type 0} (P : X → Type 0) (xs : List X) (place : ℕ) (x d : X) → place < length xs → x ≡ get_or xs place d → AllByRecursion P xs → P x
all_at P [] place x d w e h = absurd (omega (arith, w))
all_at P (y ∷ ys) zero x d w e h = subst P (sym e) h.0
all_at P (y ∷ ys) (suc place) x d w e h = let within : place < length ys = omega arith in all_at P ys place x d within e h.1

pub all_pushed : {X : Type 0} (P : X → Type 0) (xs pushed : List X) (x : X) → pushed ≡ xs ++ x ∷ [] → AllByRecursion P xs → P x → AllByRecursion P pushed
all_pushed P xs pushed x w h g = let Q : List _ → Type 0 = λ z. AllByRecursion P z in subst Q (sym w) (each-append P xs (x ∷ []) h (g, tt))

-- a section begins
draft_from : List Section → ℕ → Option ℕ → Draft
draft_from sections made current = record { sections = sections; made = made; current = current }

section_from : DraftSection → List Opt → Section
section_from draft options = record { name = draft.name; anonymous = draft.anonymous; kind = draft.kind; options = options }

pub places_added : (old new : BTreeMap (List ℕ) ℕ) (drafts pushed : List DraftSection) (draft : DraftSection) (place : ℕ) → HasPlaces old (sections_of drafts) → HasNoted old new draft.name place → place ≡ length drafts → pushed ≡ drafts
    ++ draft ∷ [] → HasPlaces new (sections_of pushed)
places_added old new drafts pushed draft place h n e w =
    places_push old new (sections_of drafts) (sections_of pushed) (section_of draft) place h n (e ∙ sym (length-map drafts section_of)) (ap (λ (z : List DraftSection). sections_of z) w ∙ map_push section_of drafts draft)

pub draft_added : (drafts pushed : List DraftSection) (draft : DraftSection) (place : ℕ) (current : Option ℕ) → place ≡ length drafts → pushed ≡ drafts ++ draft ∷ [] → options_of draft.options ≡ [] → let d : Draft =
    record { sections = sections_of pushed; made = length pushed; current = Some place } in let e : Draft = record { sections = sections_of drafts; made = length drafts; current = current } in d
    ≡ added e draft.name draft.anonymous draft.kind
unfolding draft_from section_from
draft_added drafts pushed draft place current e w n =
    ap (λ (z : List DraftSection). draft_from (sections_of z) (length z) (Some place)) w
    ∙ ap (λ (z : List Section). draft_from z (length (drafts ++ draft ∷ [])) (Some place)) (map_push section_of drafts draft)
    ∙ ap (λ (z : List Opt). draft_from (sections_of drafts ++ section_from draft z ∷ []) (length (drafts ++ draft ∷ [])) (Some place)) n
    ∙ ap (λ (z : ℕ). draft_from (sections_of drafts ++ section_from draft [] ∷ []) z (Some place)) (length_push drafts draft)
    ∙ ap (λ (z : ℕ). draft_from (sections_of drafts ++ section_from draft [] ∷ []) (length drafts + 1) (Some z)) (e ∙ sym (length-map drafts section_of))

-- a section at a place becomes another
sections_written : (drafts : List DraftSection) (place : ℕ) (change : Section → Section) (old new : DraftSection) → place < length drafts → old ≡ get_or drafts place old → section_of new ≡ change (section_of old)
    → sections_of (set drafts place new) ≡ changed_at place change (sections_of drafts)
sections_written drafts place change old new h r s =
    let within : place < length (sections_of drafts) = omega (arith, h, length-map drafts section_of) in
    map-set section_of drafts place new
    ∙ ap (λ (z : Section). set (sections_of drafts) place z) s
    ∙ write_changed place change (sections_of drafts) (section_of old) within (ap (λ (z : DraftSection). section_of z) r ∙ sym (get_or-map section_of drafts place old (section_of old) h))

pub draft_changed : (drafts : List DraftSection) (place : ℕ) (change : Section → Section) (old new : DraftSection) (current : Option ℕ) → place < length drafts → old ≡ get_or drafts place old → section_of new ≡ change (section_of old)
    → let d : Draft = record { sections = sections_of (set drafts place new); made = length (set drafts place new); current = current } in let e : Draft =
    record { sections = changed_at place change (sections_of drafts); made = length drafts; current = current } in d ≡ e
unfolding draft_from
draft_changed drafts place change old new current h r s =
    ap (λ (z : ℕ). draft_from (sections_of (set drafts place new)) z current) (length-set drafts place new)
    ∙ ap (λ (z : List Section). draft_from z (length drafts) current) (sections_written drafts place change old new h r s)

pub options_made : (drafts : List DraftSection) (place line : ℕ) (change : List Opt → List Opt) (old : DraftSection) (options : Options) (current : Option ℕ) → current ≡ Some place → place < length drafts → old ≡ get_or drafts place old
    → options_of options ≡ change (options_of old.options) → let d : Draft = record { sections = sections_of drafts; made = length drafts; current = current } in let e : Draft =
    record { sections = sections_of (set drafts place (record old { options = options })); made = length (set drafts place (record old { options = options })); current = current } in with_options d line change ≡ Ok e
unfolding draft_from section_from
options_made drafts place line change old options current c h r o =
    ap (λ (z : Option ℕ). with_options_at (draft_from (sections_of drafts) (length drafts) current) line change z) c
    ∙ ap (λ (z : Draft). Ok z) (sym (draft_changed drafts place (λ (section : Section). record section { options = change section.options }) old (record old { options = options }) current h r (ap (λ (z : List Opt). section_from old z) o)))

pub within_written : {X : Type 0} (xs : List X) (place at : ℕ) (y : X) → at < length xs → at < length (set xs place y)
within_written xs place at y h = omega (arith, h, length-set xs place y)

pub within_same : (place at bound : ℕ) → place < bound → ◌≡◌ {A = Option ℕ} (Some place) (Some at) → at < bound
within_same place at bound h e = let same : place ≡ at = cc in omega arith

-- the names stay
names_stay : (name : List ℕ) (place : ℕ) (change : Section → Section) (sections : List Section) → ((section : Section) → (change section).name ≡ section.name) → named_place (changed_at place change sections) name ≡ named_place sections name
names_stay name place change [] k = refl
names_stay name zero change (section ∷ sections) k =
    position-cons (λ (section : Section). bytes_eq section.name name) (change section) sections
    ∙ ap (λ (z : List ℕ). cond {A = Option ℕ} (bytes_eq z name) (Some 0) (option_map (λ k. suc k) (named_place sections name))) (k section)
    ∙ sym (position-cons (λ (section : Section). bytes_eq section.name name) section sections)
names_stay name (suc place) change (section ∷ sections) k =
    position-cons (λ (section : Section). bytes_eq section.name name) section (changed_at place change sections)
    ∙ ap (λ (z : Option ℕ). cond {A = Option ℕ} (bytes_eq section.name name) (Some 0) (option_map (λ k. suc k) z)) (names_stay name place change sections k)
    ∙ sym (position-cons (λ (section : Section). bytes_eq section.name name) section sections)

pub places_stay : (places : BTreeMap (List ℕ) ℕ) (drafts : List DraftSection) (place : ℕ) (change : Section → Section) (old new : DraftSection) → place < length drafts → old ≡ get_or drafts place old → section_of new
    ≡ change (section_of old) → ((section : Section) → (change section).name ≡ section.name) → HasPlaces places (sections_of drafts) → HasPlaces places (sections_of (set drafts place new))
places_stay places drafts place change old new h r s k p name =
    p name ∙ sym (ap (λ (z : List Section). named_place z name) (sections_written drafts place change old new h r s) ∙ names_stay name place change (sections_of drafts) k)

absent_from : (was : Option ℕ) (r : Bool) → r ≡ is_some was → r ≡ false → was ≡ None
absent_from None r a b = refl
absent_from (Some place) r a b = absurd (let f : true ≡ false = sym a ∙ b in cc)

pub noted_key : (old new : BTreeMap (List ℕ) ℕ) (key name : List ℕ) (place : ℕ) (r : Bool) → key ≡ name → r ≡ is_some (get (slice_cmp nat_cmp) old name) → r ≡ false
    → ((other : List ℕ) → get (slice_cmp nat_cmp) new other ≡ cond (is_at (slice_cmp nat_cmp key) other) (Some place) (get (slice_cmp nat_cmp) old other)) → HasNoted old new name place
noted_key old new key name place r e a b h =
    let P : List ℕ → Type 0 = λ z. HasNoted old new z place in
    subst P e (noted old new key place (ap (λ (z : List ℕ). get (slice_cmp nat_cmp) old z) e ∙ absent_from (get (slice_cmp nat_cmp) old name) r a b) h)
