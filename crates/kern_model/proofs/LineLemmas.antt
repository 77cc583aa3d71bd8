-- Lines tell objects apart: their words do.
use Rattle.std.proofs.Common.{arith, ℕ, ◌≡◌, ◌<◌, ◌^◌, ◌⊎◌, inl, inr, List, [], ◌∷◌, ◌++◌, length, codes, decimal, true, false, Bool, Option, Some, None, sym, ap, ◌∙◌, refl, append_assoc, append-nil, eqb-true, eq-eqb, get_or, cond}
use Rattle.std.specs.Prelude.{◌==◌, if◌then◌else◌, bytes_eq}
use Rattle.std.specs.List.{AllByRecursion, join_with_byte}
use Rattle.std.proofs.lemmas.Fmt.{decimal_injective}
use Rattle.net_addr.specs.declared.address.Addr.{Addr}
use Rattle.net_addr.specs.Octets.{IsAddr}
use Rattle.net_addr.specs.Printed.{addr_text, cidr_text}
use Rattle.net_addr.specs.Spelling.{Spells}
use Rattle.net_addr.proofs.SpellingLemmas.{Spells_unique, Spells-addr_text}
use Rattle.net_addr.proofs.PrintedLemmas.{cidr_text_injective}
use Rattle.kern_model.specs.declared.object.Mac.{Mac}
use Rattle.kern_model.specs.declared.object.LinkKind.TheVariants.{Bridge, Vlan}
use Rattle.kern_model.specs.declared.object.RouteObject.{RouteObject}
use Rattle.kern_model.specs.declared.object.Object.{Object}
use Rattle.kern_model.specs.declared.object.Object.TheVariants as object
use Rattle.kern_model.specs.Line.{put_line, take_line, mac_text, gateway, IsOwnAddress, IsGateway, IsRoute, IsPrintable, HaveOneVlan, HaveOneName}
use Rattle.kern_model.proofs.WordLemmas.{Plain, word, name, number, address, prefix, pairs, mac_one, spaced_one}

-- ---- the words of lines

abbrev own_words : Option Mac → List (List ℕ)
own_words None = []
own_words (Some mac) = codes "address" ∷ mac_text mac ∷ []

abbrev via_words : Option Addr → List (List ℕ)
via_words None = []
via_words (Some via) = codes "via" ∷ addr_text via ∷ []

abbrev number_words : List ℕ → Bool → ℕ → List (List ℕ)
number_words key true n = []
number_words key false n = key ∷ decimal n ∷ []

abbrev numbers : Bool → Bool → ℕ → ℕ → List (List ℕ)
numbers b c metric table = number_words (codes "metric") b metric ++ number_words (codes "table") c table

abbrev route_words : List ℕ → RouteObject → List (List ℕ)
route_words verb r = codes "route" ∷ verb ∷ cidr_text r.target ∷ (via_words r.via ++ codes "dev" ∷ r.dev ∷ numbers (r.metric == 0) (r.table == 254) r.metric r.table)

abbrev flag_words : List ℕ → Bool → List (List ℕ)
flag_words word true = word ∷ []
flag_words word false = []

abbrev filtering_words : Bool → List (List ℕ)
filtering_words true = codes "vlan_filtering" ∷ codes "1" ∷ codes "vlan_default_pvid" ∷ codes "0" ∷ []
filtering_words false = []

abbrev vlan_words : List ℕ → List ℕ → ℕ → List (List ℕ) → List (List ℕ)
vlan_words verb port id marks = codes "bridge" ∷ codes "vlan" ∷ verb ∷ codes "dev" ∷ port ∷ codes "vid" ∷ decimal id ∷ marks

abbrev mark_words : Bool → Bool → Bool → List (List ℕ)
mark_words pvid untagged self = flag_words (codes "pvid") pvid ++ (flag_words (codes "untagged") untagged ++ flag_words (codes "self") self)

abbrev set_words : List ℕ → List (List ℕ) → List (List ℕ)
set_words n rest = codes "link" ∷ codes "set" ∷ codes "dev" ∷ n ∷ rest

abbrev put_words : Object → List (List ℕ)
put_words (object.Link n (Bridge mac filtering)) = codes "link" ∷ codes "add" ∷ codes "name" ∷ n ∷ (own_words mac ++ codes "type" ∷ codes "bridge" ∷ filtering_words filtering)
put_words (object.Link n (Vlan l i mac)) = codes "link" ∷ codes "add" ∷ codes "link" ∷ l ∷ codes "name" ∷ n ∷ (own_words mac ++ codes "type" ∷ codes "vlan" ∷ codes "id" ∷ decimal i ∷ [])
put_words (object.Mtu n mtu) = set_words n (codes "mtu" ∷ decimal mtu ∷ [])
put_words (object.Mac n mac) = set_words n (codes "address" ∷ mac_text mac ∷ [])
put_words (object.Master p b) = set_words p (codes "master" ∷ b ∷ [])
put_words (object.Vlan b p i v u) = vlan_words (codes "add") p i (mark_words v u (bytes_eq p b))
put_words (object.Up n) = set_words n (codes "up" ∷ [])
put_words (object.Address d c) = codes "addr" ∷ codes "add" ∷ cidr_text c ∷ codes "dev" ∷ d ∷ []
put_words (object.Route r) = route_words (codes "add") r

abbrev take_words : Object → ℕ → Mac → List (List ℕ)
take_words (object.Link n k) mtu mac = codes "link" ∷ codes "del" ∷ codes "dev" ∷ n ∷ []
take_words (object.Mtu n m) mtu mac = set_words n (codes "mtu" ∷ decimal mtu ∷ [])
take_words (object.Mac n m) mtu mac = set_words n (codes "address" ∷ mac_text mac ∷ [])
take_words (object.Master p b) mtu mac = set_words p (codes "nomaster" ∷ [])
take_words (object.Vlan b p i v u) mtu mac = vlan_words (codes "del") p i (flag_words (codes "self") (bytes_eq p b))
take_words (object.Up n) mtu mac = set_words n (codes "down" ∷ [])
take_words (object.Address d c) mtu mac = codes "addr" ∷ codes "del" ∷ cidr_text c ∷ codes "dev" ∷ d ∷ []
take_words (object.Route r) mtu mac = route_words (codes "del") r

-- ---- a line is its words with a space between

regrouped : (a b c d e f g : List ℕ) → a ++ b ++ c ++ d ++ e ++ f ++ g ≡ a ++ (b ++ (c ++ (d ++ (e ++ (f ++ g)))))
regrouped a b c d e f g = simp append_assoc

regrouped_four : (a b c d : List ℕ) → a ++ b ++ c ++ d ≡ a ++ (b ++ (c ++ d))
regrouped_four a b c d = simp append_assoc

regrouped_six : (a b c d e f : List ℕ) → a ++ b ++ c ++ d ++ e ++ f ≡ a ++ (b ++ (c ++ (d ++ (e ++ f))))
regrouped_six a b c d e f = simp append_assoc

regrouped_few : (a b c d e : List ℕ) → a ++ b ++ c ++ d ++ e ≡ a ++ (b ++ (c ++ (d ++ e)))
regrouped_few a b c d e = simp append_assoc

regrouped_more : (a b c d e f g h : List ℕ) → a ++ b ++ c ++ d ++ e ++ f ++ g ++ h ≡ a ++ (b ++ (c ++ (d ++ (e ++ (f ++ (g ++ h))))))
regrouped_more a b c d e f g h = simp append_assoc

regrouped_all : (a b c d e f g h i : List ℕ) → a ++ b ++ c ++ d ++ e ++ f ++ g ++ h ++ i ≡ a ++ (b ++ (c ++ (d ++ (e ++ (f ++ (g ++ (h ++ i)))))))
regrouped_all a b c d e f g h i = simp append_assoc

route_spaced : (verb target dev : List ℕ) (via : Option Addr) (b c : Bool) (m t : ℕ) →
    (codes "route " ++ verb ++ codes " ") ++ target ++ gateway via ++ codes " dev " ++ dev ++ (if b then [] else codes " metric " ++ decimal m) ++ (if c then [] else codes " table " ++ decimal t)
    ≡ join_with_byte 32 (codes "route" ∷ verb ∷ target ∷ (via_words via ++ codes "dev" ∷ dev ∷ numbers b c m t))
route_spaced verb target dev None true true m t = append-nil _ ∙ append-nil _ ∙ regrouped (codes "route ") verb (codes " ") target (gateway None) (codes " dev ") dev
route_spaced verb target dev None true false m t = regrouped_all (codes "route ") verb (codes " ") target (gateway None) (codes " dev ") dev [] (codes " table " ++ decimal t)
route_spaced verb target dev None false true m t = append-nil _ ∙ regrouped_more (codes "route ") verb (codes " ") target (gateway None) (codes " dev ") dev (codes " metric " ++ decimal m)
route_spaced verb target dev None false false m t = regrouped_all (codes "route ") verb (codes " ") target (gateway None) (codes " dev ") dev (codes " metric " ++ decimal m) (codes " table " ++ decimal t)
route_spaced verb target dev (Some via) true true m t = append-nil _ ∙ append-nil _ ∙ regrouped (codes "route ") verb (codes " ") target (gateway (Some via)) (codes " dev ") dev
route_spaced verb target dev (Some via) true false m t = regrouped_all (codes "route ") verb (codes " ") target (gateway (Some via)) (codes " dev ") dev [] (codes " table " ++ decimal t)
route_spaced verb target dev (Some via) false true m t = append-nil _ ∙ regrouped_more (codes "route ") verb (codes " ") target (gateway (Some via)) (codes " dev ") dev (codes " metric " ++ decimal m)
route_spaced verb target dev (Some via) false false m t = regrouped_all (codes "route ") verb (codes " ") target (gateway (Some via)) (codes " dev ") dev (codes " metric " ++ decimal m) (codes " table " ++ decimal t)

vlan_put_spaced : (p : List ℕ) (i : ℕ) (v u s : Bool) →
    codes "bridge vlan add dev " ++ p ++ codes " vid " ++ decimal i ++ (if v then codes " pvid" else []) ++ (if u then codes " untagged" else []) ++ (if s then codes " self" else [])
    ≡ join_with_byte 32 (vlan_words (codes "add") p i (mark_words v u s))
vlan_put_spaced p i true true true = regrouped (codes "bridge vlan add dev ") p (codes " vid ") (decimal i) (codes " pvid") (codes " untagged") (codes " self")
vlan_put_spaced p i true true false = append-nil _ ∙ regrouped_six (codes "bridge vlan add dev ") p (codes " vid ") (decimal i) (codes " pvid") (codes " untagged")
vlan_put_spaced p i true false true = regrouped (codes "bridge vlan add dev ") p (codes " vid ") (decimal i) (codes " pvid") [] (codes " self")
vlan_put_spaced p i true false false = append-nil _ ∙ append-nil _ ∙ regrouped_few (codes "bridge vlan add dev ") p (codes " vid ") (decimal i) (codes " pvid")
vlan_put_spaced p i false true true = regrouped (codes "bridge vlan add dev ") p (codes " vid ") (decimal i) [] (codes " untagged") (codes " self")
vlan_put_spaced p i false true false = append-nil _ ∙ regrouped_six (codes "bridge vlan add dev ") p (codes " vid ") (decimal i) [] (codes " untagged")
vlan_put_spaced p i false false true = regrouped (codes "bridge vlan add dev ") p (codes " vid ") (decimal i) [] [] (codes " self")
vlan_put_spaced p i false false false = append-nil _ ∙ append-nil _ ∙ append-nil _ ∙ regrouped_four (codes "bridge vlan add dev ") p (codes " vid ") (decimal i)

vlan_take_spaced : (p : List ℕ) (i : ℕ) (s : Bool) →
    codes "bridge vlan del dev " ++ p ++ codes " vid " ++ decimal i ++ (if s then codes " self" else [])
    ≡ join_with_byte 32 (vlan_words (codes "del") p i (flag_words (codes "self") s))
vlan_take_spaced p i true = regrouped_few (codes "bridge vlan del dev ") p (codes " vid ") (decimal i) (codes " self")
vlan_take_spaced p i false = append-nil _ ∙ regrouped_four (codes "bridge vlan del dev ") p (codes " vid ") (decimal i)

put_spaced : (o : Object) → put_line o ≡ join_with_byte 32 (put_words o)
put_spaced (object.Link n (Bridge None true)) = regrouped_few (codes "link add name ") n [] (codes " type bridge") (codes " vlan_filtering 1 vlan_default_pvid 0")
put_spaced (object.Link n (Bridge None false)) = append-nil _ ∙ regrouped_four (codes "link add name ") n [] (codes " type bridge")
put_spaced (object.Link n (Bridge (Some mac) true)) = regrouped_few (codes "link add name ") n (codes " address " ++ mac_text mac) (codes " type bridge") (codes " vlan_filtering 1 vlan_default_pvid 0")
put_spaced (object.Link n (Bridge (Some mac) false)) = append-nil _ ∙ regrouped_four (codes "link add name ") n (codes " address " ++ mac_text mac) (codes " type bridge")
put_spaced (object.Link n (Vlan l i None)) = simp append_assoc
put_spaced (object.Link n (Vlan l i (Some mac))) = regrouped (codes "link add link ") l (codes " name ") n (codes " address " ++ mac_text mac) (codes " type vlan id ") (decimal i)
put_spaced (object.Mtu n mtu) = simp append_assoc
put_spaced (object.Mac n mac) = simp append_assoc
put_spaced (object.Master p b) = simp append_assoc
put_spaced (object.Vlan b p i v u) = vlan_put_spaced p i v u (bytes_eq p b)
put_spaced (object.Up n) = simp append_assoc
put_spaced (object.Address d c) = simp append_assoc
put_spaced (object.Route r) = route_spaced (codes "add") (cidr_text r.target) r.dev r.via (r.metric == 0) (r.table == 254) r.metric r.table

take_spaced : (o : Object) (mtu : ℕ) (mac : Mac) → take_line o mtu mac ≡ join_with_byte 32 (take_words o mtu mac)
take_spaced (object.Link n k) mtu mac = refl
take_spaced (object.Mtu n m) mtu mac = simp append_assoc
take_spaced (object.Mac n m) mtu mac = simp append_assoc
take_spaced (object.Master p b) mtu mac = simp append_assoc
take_spaced (object.Vlan b p i v u) mtu mac = vlan_take_spaced p i (bytes_eq p b)
take_spaced (object.Up n) mtu mac = simp append_assoc
take_spaced (object.Address d c) mtu mac = simp append_assoc
take_spaced (object.Route r) mtu mac = route_spaced (codes "del") (cidr_text r.target) r.dev r.via (r.metric == 0) (r.table == 254) r.metric r.table

-- ---- no word has a space

own_plain : (mac : Option Mac) (rest : List (List ℕ)) → AllByRecursion Plain rest → AllByRecursion Plain (own_words mac ++ rest)
own_plain None rest p = p
own_plain (Some mac) rest p = (word refl, (pairs mac.0, p))

via_plain : (via : Option Addr) (rest : List (List ℕ)) → IsGateway via → AllByRecursion Plain rest → AllByRecursion Plain (via_words via ++ rest)
via_plain None rest is p = p
via_plain (Some via) rest is p = (word refl, (address via is, p))

numbers_plain : (b c : Bool) (m t : ℕ) → m < 2 ^ 32 → t < 2 ^ 32 → AllByRecursion Plain (numbers b c m t)
numbers_plain true true m t p q = tt
numbers_plain true false m t p q = (word refl, (number t q, tt))
numbers_plain false true m t p q = (word refl, (number m p, tt))
numbers_plain false false m t p q = (word refl, (number m p, (word refl, (number t q, tt))))

route_plain : (verb : List ℕ) (r : RouteObject) → Plain verb → IsRoute r → AllByRecursion Plain (route_words verb r)
route_plain verb r v p = (
  word refl,
  (
    v,
    (
      prefix r.target p.target,
      via_plain r.via (codes "dev" ∷ r.dev ∷ numbers (r.metric == 0) (r.table == 254) r.metric r.table) p.via (word refl, (name r.dev p.named, numbers_plain (r.metric == 0) (r.table == 254) r.metric r.table p.metric p.table)),
    ),
  ),
)

filtering_plain : (b : Bool) → AllByRecursion Plain (filtering_words b)
filtering_plain true = (word refl, (word refl, (word refl, (word refl, tt))))
filtering_plain false = tt

self_plain : (s : Bool) → AllByRecursion Plain (flag_words (codes "self") s)
self_plain true = (word refl, tt)
self_plain false = tt

untagged_plain : (u s : Bool) → AllByRecursion Plain (flag_words (codes "untagged") u ++ flag_words (codes "self") s)
untagged_plain true s = (word refl, self_plain s)
untagged_plain false s = self_plain s

marks_plain : (v u s : Bool) → AllByRecursion Plain (mark_words v u s)
marks_plain true u s = (word refl, untagged_plain u s)
marks_plain false u s = untagged_plain u s

put_plain : (o : Object) → IsPrintable o → AllByRecursion Plain (put_words o)
put_plain (object.Link n (Bridge mac filtering)) p = (word refl, (word refl, (word refl, (name n p.0, own_plain mac (codes "type" ∷ codes "bridge" ∷ filtering_words filtering) (word refl, (word refl, filtering_plain filtering))))))
put_plain (object.Link n (Vlan l i mac)) p = (
  word refl,
  (
    word refl,
    (word refl, (name l p.1, (word refl, (name n p.0, own_plain mac (codes "type" ∷ codes "vlan" ∷ codes "id" ∷ decimal i ∷ []) (word refl, (word refl, (word refl, (number i (let small = p.2 in omega arith), tt)))))))),
  ),
)
put_plain (object.Mtu n mtu) p = (word refl, (word refl, (word refl, (name n p.0, (word refl, (number mtu p.1, tt))))))
put_plain (object.Mac n mac) p = (word refl, (word refl, (word refl, (name n p.0, (word refl, (pairs mac.0, tt))))))
put_plain (object.Master q b) p = (word refl, (word refl, (word refl, (name q p.0, (word refl, (name b p.1, tt))))))
put_plain (object.Vlan b q i v u) p = (word refl, (word refl, (word refl, (word refl, (name q p.1, (word refl, (number i (let small = p.2 in omega arith), marks_plain v u (bytes_eq q b))))))))
put_plain (object.Up n) p = (word refl, (word refl, (word refl, (name n p, (word refl, tt)))))
put_plain (object.Address d c) p = (word refl, (word refl, (prefix c p.1, (word refl, (name d p.0, tt)))))
put_plain (object.Route r) p = route_plain (codes "add") r (word refl) p

take_plain : (o : Object) (mtu : ℕ) (mac : Mac) → IsPrintable o → mtu < 2 ^ 32 → AllByRecursion Plain (take_words o mtu mac)
take_plain (object.Link n (Bridge m f)) mtu mac p fits = (word refl, (word refl, (word refl, (name n p.0, tt))))
take_plain (object.Link n (Vlan l i m)) mtu mac p fits = (word refl, (word refl, (word refl, (name n p.0, tt))))
take_plain (object.Mtu n m) mtu mac p fits = (word refl, (word refl, (word refl, (name n p.0, (word refl, (number mtu fits, tt))))))
take_plain (object.Mac n m) mtu mac p fits = (word refl, (word refl, (word refl, (name n p.0, (word refl, (pairs mac.0, tt))))))
take_plain (object.Master q b) mtu mac p fits = (word refl, (word refl, (word refl, (name q p.0, (word refl, tt)))))
take_plain (object.Vlan b q i v u) mtu mac p fits = (word refl, (word refl, (word refl, (word refl, (name q p.1, (word refl, (number i (let small = p.2 in omega arith), self_plain (bytes_eq q b))))))))
take_plain (object.Up n) mtu mac p fits = (word refl, (word refl, (word refl, (name n p, (word refl, tt)))))
take_plain (object.Address d c) mtu mac p fits = (word refl, (word refl, (prefix c p.1, (word refl, (name d p.0, tt)))))
take_plain (object.Route r) mtu mac p fits = route_plain (codes "del") r (word refl) p

some_put_words : (o : Object) → 0 < length (put_words o)
some_put_words (object.Link n (Bridge mac filtering)) = omega arith
some_put_words (object.Link n (Vlan l i mac)) = omega arith
some_put_words (object.Mtu n mtu) = omega arith
some_put_words (object.Mac n mac) = omega arith
some_put_words (object.Master q b) = omega arith
some_put_words (object.Vlan b p i v u) = omega arith
some_put_words (object.Up n) = omega arith
some_put_words (object.Address d c) = omega arith
some_put_words (object.Route r) = omega arith

some_take_words : (o : Object) (mtu : ℕ) (mac : Mac) → 0 < length (take_words o mtu mac)
some_take_words (object.Link n k) mtu mac = omega arith
some_take_words (object.Mtu n m) mtu mac = omega arith
some_take_words (object.Mac n m) mtu mac = omega arith
some_take_words (object.Master q b) mtu mac = omega arith
some_take_words (object.Vlan b p i v u) mtu mac = omega arith
some_take_words (object.Up n) mtu mac = omega arith
some_take_words (object.Address d c) mtu mac = omega arith
some_take_words (object.Route r) mtu mac = omega arith

-- ---- words tell objects apart

address_one : (a b : Addr) → IsAddr a → IsAddr b → addr_text a ≡ addr_text b → a ≡ b
address_one a b p q e =
    let spelled : Spells (addr_text a) b = rw e (Spells-addr_text b q) in
    Spells_unique (addr_text a) a b (Spells-addr_text a p) spelled

different : (m n : ℕ) → m ≡ n → (m == n) ≡ false → ⊥
different m n same apart = let equal : (m == n) ≡ true = eq-eqb m n same in cc (equal, apart)

-- a byte of a word of a line
abbrev byte : ℕ → ℕ → List (List ℕ) → ℕ
byte i k words = get_or (get_or words i []) k 0

-- two lists of words that begin with other bytes
first_apart : (xs ys : List (List ℕ)) → xs ≡ ys → (byte 0 0 xs == byte 0 0 ys) ≡ false → ⊥
first_apart xs ys same apart = different (byte 0 0 xs) (byte 0 0 ys) (ap (byte 0 0) same) apart

longer_apart : (xs ys : List (List ℕ)) → xs ≡ ys → (length xs == length ys) ≡ false → ⊥
longer_apart xs ys same apart = different (length xs) (length ys) (ap length same) apart

own_one : (v w : Option Mac) (xs ys : List (List ℕ)) → IsOwnAddress v → IsOwnAddress w → own_words v ++ codes "type" ∷ xs ≡ own_words w ++ codes "type" ∷ ys → (v ≡ w) × (xs ≡ ys)
own_one None None xs ys p q h = (refl, cc h)
own_one None (Some w) xs ys p q h = absurd (first_apart (codes "type" ∷ xs) (codes "address" ∷ mac_text w ∷ codes "type" ∷ ys) h refl)
own_one (Some v) None xs ys p q h = absurd (first_apart (codes "address" ∷ mac_text v ∷ codes "type" ∷ xs) (codes "type" ∷ ys) h refl)
own_one (Some v) (Some w) xs ys p q h = (ap Some (mac_one v w p q (cc h)), cc h)

-- what stands before and behind the device of a route
pub record Behind (v w : Option Addr) (d e : List ℕ) (xs ys : List (List ℕ)) : Type 0 where
  pub via : v ≡ w
  pub dev : d ≡ e
  pub rest : xs ≡ ys

behind_one : (v w : Option Addr) (d e : List ℕ) (xs ys : List (List ℕ)) → IsGateway v → IsGateway w → via_words v ++ codes "dev" ∷ d ∷ xs ≡ via_words w ++ codes "dev" ∷ e ∷ ys → Behind v w d e xs ys
behind_one None None d e xs ys p q h = record { via = refl; dev = cc h; rest = cc h }
behind_one None (Some w) d e xs ys p q h = absurd (first_apart (codes "dev" ∷ d ∷ xs) (codes "via" ∷ addr_text w ∷ codes "dev" ∷ e ∷ ys) h refl)
behind_one (Some v) None d e xs ys p q h = absurd (first_apart (codes "via" ∷ addr_text v ∷ codes "dev" ∷ d ∷ xs) (codes "dev" ∷ e ∷ ys) h refl)
behind_one (Some v) (Some w) d e xs ys p q h = record { via = ap Some (address_one v w p q (cc h)); dev = cc h; rest = cc h }

-- a number is left out in both, or is the same in both
pub record Same (b b' : Bool) (m m' : ℕ) : Type 0 where
  pub both : b ≡ b'
  pub same : b ≡ false → decimal m ≡ decimal m'

numbers_one : (b c b' c' : Bool) (m t m' t' : ℕ) → numbers b c m t ≡ numbers b' c' m' t' → Same b b' m m' × Same c c' t t'
numbers_one true true true true m t m' t' h = (record { both = refl; same = λ f. cc f }, record { both = refl; same = λ f. cc f })
numbers_one true false true false m t m' t' h = (record { both = refl; same = λ f. cc f }, record { both = refl; same = λ f. cc h })
numbers_one false true false true m t m' t' h = (record { both = refl; same = λ f. cc h }, record { both = refl; same = λ f. cc f })
numbers_one false false false false m t m' t' h = (record { both = refl; same = λ f. cc h }, record { both = refl; same = λ f. cc h })
numbers_one true true true false m t m' t' h = absurd (cc h)
numbers_one true true false true m t m' t' h = absurd (cc h)
numbers_one true true false false m t m' t' h = absurd (cc h)
numbers_one true false true true m t m' t' h = absurd (cc h)
numbers_one true false false c' m t m' t' h = absurd (first_apart (codes "table" ∷ decimal t ∷ []) (numbers false c' m' t') h refl)
numbers_one false true true true m t m' t' h = absurd (cc h)
numbers_one false c true false m t m' t' h = absurd (first_apart (numbers false c m t) (codes "table" ∷ decimal t' ∷ []) h refl)
numbers_one false true false false m t m' t' h = absurd (longer_apart (numbers false true m t) (numbers false false m' t') h refl)
numbers_one false false true true m t m' t' h = absurd (cc h)
numbers_one false false false true m t m' t' h = absurd (longer_apart (numbers false false m t) (numbers false true m' t') h refl)

number_one : (usual m n : ℕ) → m < 2 ^ 32 → n < 2 ^ 32 → Same (m == usual) (n == usual) m n → m ≡ n
number_one usual m n p q s =
    elim (m == usual) as (λ b. (m == usual) ≡ b → m ≡ n) [
      | true ↦ λ is. eqb-true m usual is ∙ sym (eqb-true n usual (sym s.both ∙ is))
      | false ↦ λ is. decimal_injective m n (omega arith) (omega arith) (s.same is)
    ] refl

route_one : (verb : List ℕ) (a b : RouteObject) → IsRoute a → IsRoute b → route_words verb a ≡ route_words verb b → a ≡ b
route_one verb a b p q h =
    let target = cidr_text_injective a.target b.target p.target q.target (cc h) in
    let s = behind_one a.via b.via a.dev b.dev (numbers (a.metric == 0) (a.table == 254) a.metric a.table) (numbers (b.metric == 0) (b.table == 254) b.metric b.table) p.via q.via (cc h) in
    let n = numbers_one (a.metric == 0) (a.table == 254) (b.metric == 0) (b.table == 254) a.metric a.table b.metric b.table s.rest in
    let via = s.via in
    let dev = s.dev in
    let metric = number_one 0 a.metric b.metric p.metric q.metric n.0 in
    let table = number_one 254 a.table b.table p.table q.table n.1 in
    λ i. record { target = target i; via = via i; dev = dev i; metric = metric i; table = table i }

-- the kind of the object, as words of its line tell
abbrev kind_of_put : List (List ℕ) → ℕ
kind_of_put words =
    cond (byte 0 0 words == 98) 9 (
    cond (byte 0 0 words == 97) 1 (
    cond (byte 0 0 words == 114) 2 (
    cond (byte 1 0 words == 97) (cond (byte 2 0 words == 110) 3 4) (cond (byte 4 1 words == 116) 5 (cond (byte 4 1 words == 100) 6 (cond (byte 4 1 words == 97) 7 8)))
    )
    )
    )

filtering_one : (f g : Bool) → filtering_words f ≡ filtering_words g → f ≡ g
filtering_one true true h = refl
filtering_one false false h = refl
filtering_one true false h = cc h
filtering_one false true h = cc h

put_one : (a b : Object) → IsPrintable a → IsPrintable b → put_words a ≡ put_words b → (a ≡ b) ⊎ HaveOneVlan a b
put_one (object.Link n (Bridge v f)) (object.Link m (Bridge w g)) p q h =
    let own = own_one v w (codes "bridge" ∷ filtering_words f) (codes "bridge" ∷ filtering_words g) p.1 q.1 (cc h) in
    let macs = own.0 in
    let rest = own.1 in
    let filters = filtering_one f g (cc rest) in
    let names : n ≡ m = cc h in
    inl (λ i. object.Link (names i) (Bridge (macs i) (filters i)))
put_one (object.Link n (Vlan l i v)) (object.Link m (Vlan k j w)) p q h =
    let small = p.2 in
    let small_too = q.2 in
    let own = own_one v w (codes "vlan" ∷ codes "id" ∷ decimal i ∷ []) (codes "vlan" ∷ codes "id" ∷ decimal j ∷ []) p.3 q.3 (cc h) in
    let macs = own.0 in
    let rest = own.1 in
    let ids = decimal_injective i j (omega arith) (omega arith) (cc rest) in
    let names : n ≡ m = cc h in
    let lowers : l ≡ k = cc h in
    inl (λ t. object.Link (names t) (Vlan (lowers t) (ids t) (macs t)))
put_one (object.Mtu n i) (object.Mtu m j) p q h =
    let small = p.1 in
    let small_too = q.1 in
    let mtus = decimal_injective i j (omega arith) (omega arith) (cc h) in inl (cc (h, mtus))
put_one (object.Mac n x) (object.Mac m y) p q h = let macs = mac_one x y p.1 q.1 (cc h) in inl (cc (h, macs))
put_one (object.Master p b) (object.Master q c) r s h = inl (cc h)
put_one (object.Vlan b p i v u) (object.Vlan c q j w x) r s h =
    let small = r.2 in
    let small_too = s.2 in
    inr (cc h, decimal_injective i j (omega arith) (omega arith) (cc h))
put_one (object.Up n) (object.Up m) p q h = inl (cc h)
put_one (object.Address d a) (object.Address e b) p q h = let cidrs = cidr_text_injective a b p.1 q.1 (cc h) in inl (cc (h, cidrs))
put_one (object.Route a) (object.Route b) p q h = inl (ap object.Route (route_one (codes "add") a b p q h))
put_one a (object.Link m (Bridge w g)) p q h = absurd (different (kind_of_put (put_words a)) 3 (ap kind_of_put h) refl)
put_one a (object.Link m (Vlan k j w)) p q h = absurd (different (kind_of_put (put_words a)) 4 (ap kind_of_put h) refl)
put_one a b p q h = absurd (different (kind_of_put (put_words a)) (kind_of_put (put_words b)) (ap kind_of_put h) refl)

abbrev kind_of_take : List (List ℕ) → ℕ
kind_of_take words =
    cond (byte 0 0 words == 98) 9 (
    cond (byte 0 0 words == 97) 1 (
    cond (byte 0 0 words == 114) 2 (
    cond (byte 1 0 words == 100) 3 (cond (byte 4 0 words == 109) 4 (cond (byte 4 0 words == 97) 5 (cond (byte 4 0 words == 110) 6 7)))
    )
    )
    )

take_one : (a b : Object) (m n : ℕ) (x y : Mac) → IsPrintable a → IsPrintable b → take_words a m x ≡ take_words b n y → (a ≡ b) ⊎ HaveOneName a b
take_one (object.Link n k) (object.Link m l) i j x y p q h = inr (cc h)
take_one (object.Mtu n k) (object.Mtu m l) i j x y p q h = inr (cc h)
take_one (object.Mac n k) (object.Mac m l) i j x y p q h = inr (cc h)
take_one (object.Master n k) (object.Master m l) i j x y p q h = inr (cc h)
take_one (object.Vlan b r k v u) (object.Vlan c s l w t) i j x y p q h =
    let small = p.2 in
    let small_too = q.2 in
    inr (cc h, decimal_injective k l (omega arith) (omega arith) (cc h))
take_one (object.Up n) (object.Up m) i j x y p q h = inl (cc h)
take_one (object.Address d a) (object.Address e b) i j x y p q h = let cidrs = cidr_text_injective a b p.1 q.1 (cc h) in inl (cc (h, cidrs))
take_one (object.Route a) (object.Route b) i j x y p q h = inl (ap object.Route (route_one (codes "del") a b p q h))
take_one a b i j x y p q h = absurd (different (kind_of_take (take_words a i x)) (kind_of_take (take_words b j y)) (ap kind_of_take h) refl)

pub object_of_line : (a b : Object) → IsPrintable a → IsPrintable b → put_line a ≡ put_line b → (a ≡ b) ⊎ HaveOneVlan a b
object_of_line a b p q h =
    put_one a b p q (spaced_one (put_words a) (put_words b) (some_put_words a) (some_put_words b) (put_plain a p) (put_plain b q) (sym (put_spaced a) ∙ h ∙ put_spaced b))

pub taken_of_line : (a b : Object) (m n : ℕ) (x y : Mac) → IsPrintable a → IsPrintable b → m < 2 ^ 32 → n < 2 ^ 32 → take_line a m x ≡ take_line b n y → (a ≡ b) ⊎ HaveOneName a b
taken_of_line a b m n x y p q fits fits_too h =
    take_one a b m n x y p q (spaced_one (take_words a m x) (take_words b n y) (some_take_words a m x) (some_take_words b n y) (take_plain a m x p fits) (take_plain b n y q fits_too) (sym (take_spaced a m x) ∙ h ∙ take_spaced b n y))
