-- What is read from JSON is one thing.
use Rattle.std.proofs.Common.{ℕ, ◌≡◌, List, [], ◌∷◌, Option, Some, None, refl, ap, subst}
use Rattle.std.specs.Prelude.{codes}
use Rattle.serde_json.specs.Data.{Data, Items, no_items, item}
use Rattle.serde_json.specs.Find.{get}
use Rattle.net_addr.specs.declared.address.Addr.{Addr}
use Rattle.net_addr.specs.Spelling.{Spells}
use Rattle.net_addr.specs.CidrSpelling.{SpellsCidr}
use Rattle.net_rules.specs.declared.answer.Answer.{Answer}
use Rattle.answer_json.specs.Members.{IsOptional, IsOr, AreItems, IsArray}
use Rattle.answer_json.specs.AnswerJson.{IsDevice, IsAddress, IsPrefix, IsMetric, IsRoute, IsAnswer}
use Rattle.answer_json.specs.PortsJson.{IsPort, ArePorts}

-- a relation that gives one value at most
abbrev pub One : {A : Type 0} → (Data → A → Type 0) → Type 0
One {A} Is = (value : Data) (a b : A) → Is value a → Is value b → a ≡ b

one_optional : {A : Type 0} (Is : Data → A → Type 0) → One Is → (o : Option Data) (a b : Option A)
    → IsOptional Is o a → IsOptional Is o b → a ≡ b
one_optional Is one None None None IsOptional.absent IsOptional.absent = refl
one_optional Is one None (Some a) b p q = elim p [ ]
one_optional Is one None None (Some b) p q = elim q [ ]
one_optional Is one (Some value) None b p q = elim p [ ]
one_optional Is one (Some value) (Some a) None p q = elim q [ ]
one_optional Is one (Some value) (Some a) (Some b) (IsOptional.there _ _ p) (IsOptional.there _ _ q) =
    ap Some (one value a b p q)

one_or : {A : Type 0} (Is : Data → A → Type 0) → One Is → (default : A) (o : Option Data) (a b : A)
    → IsOr Is default o a → IsOr Is default o b → a ≡ b
one_or Is one default None _ _ IsOr.absent IsOr.absent = refl
one_or Is one default (Some value) a b (IsOr.there _ _ p) (IsOr.there _ _ q) = one value a b p q

one_items : {A : Type 0} (Is : Data → A → Type 0) → One Is → (items : Items) (a b : List A)
    → AreItems Is items a → AreItems Is items b → a ≡ b
one_items Is one no_items [] [] AreItems.none AreItems.none = refl
one_items Is one no_items (x ∷ xs) b p q = elim p [ ]
one_items Is one no_items [] (y ∷ ys) p q = elim q [ ]
one_items Is one (item value items) [] b p q = elim p [ ]
one_items Is one (item value items) (x ∷ xs) [] p q = elim q [ ]
one_items Is one (item value items) (x ∷ xs) (y ∷ ys) (AreItems.more _ _ _ _ p ps) (AreItems.more _ _ _ _ q qs) =
    let head = one value x y p q in
    let rest = one_items Is one items xs ys ps qs in
    λ i. head i ∷ rest i

one_array : {A : Type 0} (Is : Data → A → Type 0) → One Is → One (IsArray Is)
one_array Is one value a b p q =
    let same : p.items ≡ q.items = cc (p.array, q.array) in
    one_items Is one q.items a b (subst (λ items. AreItems Is items a) same p.each) q.each

one_device : One IsDevice
one_device value a b p q = cc (p.text, q.text)

one_metric : One IsMetric
one_metric value a b p q = cc (p.is, q.is)

one_port : One IsPort
one_port value None None p q = refl
one_port value None (Some b) p q = absurd (cc (p, q.text))
one_port value (Some a) None p q = absurd (cc (p.text, q))
one_port value (Some a) (Some b) p q = ap Some (one_device value a b p q)

pub one_ports : (value : Data) (a b : List (Option (List ℕ))) → ArePorts value a → ArePorts value b
    → a ≡ b
one_ports value a b p q =
    let same : p.member ≡ q.member = cc (p.there, q.there) in
    one_array IsPort one_port q.member a b (subst (λ member. IsArray IsPort member a) same p.array)
    q.array

-- where a text stands for one address and one prefix at most
module _ (one_text : (text : List ℕ) (a b : Addr) → Spells text a → Spells text b → a ≡ b)
    (one_cidr : (text : List ℕ) (a b : Addr × ℕ) → SpellsCidr text a → SpellsCidr text b → a ≡ b) where
  one_address : One IsAddress
  one_address value a b p q =
      let same : p.letters ≡ q.letters = cc (p.text, q.text) in
      one_text q.letters a b (subst (λ letters. Spells letters a) same p.is) q.is

  one_prefix : One IsPrefix
  one_prefix value a b p q =
      let same : p.letters ≡ q.letters = cc (p.text, q.text) in
      one_cidr q.letters a b (subst (λ letters. SpellsCidr letters a) same p.is) q.is

  one_route : One IsRoute
  one_route value a b p q =
      let same : p.member ≡ q.member = cc (p.there, q.there) in
      let target = one_prefix q.member a.target b.target
      (subst (λ member. IsPrefix member a.target) same p.target) q.target in
      let via = one_optional IsAddress one_address (get (codes "gateway") value) a.via b.via p.via q.via in
      let metric = one_or IsMetric one_metric 0 (get (codes "metric") value) a.metric b.metric p.metric q.metric in
      λ i. record { target = target i; via = via i; metric = metric i }

  pub one_answer : (value : Data) (a b : Answer) → IsAnswer value a → IsAnswer value b → a ≡ b
  one_answer value a b p q =
      let up : a.up ≡ b.up = cc (p.up, q.up) in
      let device = one_optional IsDevice one_device (get (codes "device") value) a.device b.device p.device q.device in
      let addresses = one_or (IsArray IsPrefix) (one_array IsPrefix one_prefix) [] (get (codes "addresses") value) a.addresses b.addresses p.addresses q.addresses in
      let routes = one_or (IsArray IsRoute) (one_array IsRoute one_route) [] (get (codes "routes") value) a.routes b.routes p.routes q.routes in
      λ i. record { up = up i; device = device i; addresses = addresses i; routes = routes i }
