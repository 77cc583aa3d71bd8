-- Lists of a set in an order. Where the order tells values apart a set has one such list, so nothing is left open.
use Rattle.std.specs.Prelude.{◌≡◌, List, [], ◌∷◌, Contains, Bool, true}
use Rattle.std.specs.declared.cmp.Ordering.{Ordering}
use Rattle.std.specs.declared.cmp.Ordering.TheVariants.{Less, Equal, Greater}
use Rattle.std.specs.List.Sorted.{IsStrictlySortedBy}

-- the list is strictly sorted, and has exactly the members of the set, which a test tells
pub record ListsInOrder {K : Type 0} (cmp : K → K → Ordering) (member : K → Bool) (list : List K) : Type 0 where
  pub sorted : IsStrictlySortedBy cmp list
  pub sound : (k : K) → Contains list k → member k ≡ true
  pub complete : (k : K) → member k ≡ true → Contains list k

-- only equal values tie in the order
abbrev pub TellsApart : {K : Type 0} → (K → K → Ordering) → Type 0
TellsApart {K} cmp = (a b : K) → cmp a b ≡ Equal → a ≡ b

-- Where an item goes that was compared with the first one of a list: before it, nowhere since it is there, or somewhere
-- after it.
abbrev pub placed : {K : Type 0} → Ordering → K → K → List K → List K → List K
placed Less new first others put_later = new ∷ first ∷ others
placed Equal new first others put_later = first ∷ others
placed Greater new first others put_later = first ∷ put_later

-- a sorted list with one more item, in its place
abbrev pub put_in : {K : Type 0} → (K → K → Ordering) → K → List K → List K
put_in cmp new [] = new ∷ []
put_in cmp new (first ∷ others) = placed (cmp new first) new first others (put_in cmp new others)

-- the items in order, each once
abbrev pub ordered : {K : Type 0} → (K → K → Ordering) → List K → List K
ordered cmp [] = []
ordered cmp (item ∷ items) = put_in cmp item (ordered cmp items)
