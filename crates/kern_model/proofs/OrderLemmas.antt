-- The orders of objects and of calls are total, and tell them apart.
use Rattle.std.specs.Prelude.{ℕ, List, [], ◌∷◌, ◌++◌, ◌≡◌, ◌<◌, ◌≤◌, ◌⊎◌, length, Option, Some, None, Bool, true, false, refl}
use Rattle.std.proofs.Common.{arith, inl, inr, ap, ap₂, sym, subst, ◌∙◌, take, drop}
use Rattle.std.proofs.lemmas.List.{take_at, drop_at}
use Rattle.std.proofs.lemmas.Cmp.{on_total, then_total}
use Rattle.std.proofs.lemmas.Map.Lookups.{exact_bytes}
use Rattle.std.specs.Ordering.{nat_cmp, ordering_then, MatchOrdering}
use Rattle.std.specs.declared.cmp.Ordering.{Ordering}
use Rattle.std.specs.declared.cmp.Ordering.TheVariants.{Less, Equal, Greater}
use Rattle.std.specs.Cmp.{IsTotalOrder, nat_cmp_total, ranks}
use Rattle.std.specs.Cmp.Lexicographic.{slice_cmp, nat_list_cmp_total}
use Rattle.std.specs.FinSet.{IsAntisymmetric}
use Rattle.net_addr.specs.declared.address.Addr.{Addr}
use Rattle.net_addr.specs.declared.address.Addr.TheVariants as family
use Rattle.kern_model.specs.declared.object.Mac.{Mac}
use Rattle.kern_model.specs.declared.object.RouteObject.{RouteObject}
use Rattle.kern_model.specs.declared.object.LinkKind.{LinkKind}
use Rattle.kern_model.specs.declared.object.LinkKind.TheVariants.{Bridge, Vlan}
use Rattle.kern_model.specs.declared.object.Object.{Object}
use Rattle.kern_model.specs.declared.object.Object.TheVariants as object
use Rattle.kern_model.specs.declared.object.Call.{Call}
use Rattle.kern_model.specs.declared.object.Call.TheVariants.{Put, Take}
use Rattle.kern_model.specs.ObjectOrder.{sized, addr_key, cidr_key, via_key, mac_key, bool_key, kind_key, object_key, call_key, object_cmp, Objects}
use Rattle.plane_words.specs.InOrder.{TellsApart}
use Rattle.kern_model.specs.Line.{line_of}
use Rattle.kern_model.specs.CallOrder.{rank, height_place, call_cmp}

-- what was written behind its length is read back, with what follows it
sized_parts : (xs ys r s : List ℕ) → sized xs r ≡ sized ys s → (xs ≡ ys) × (r ≡ s)
sized_parts xs ys r s e =
    let long : length xs ≡ length ys = cc e in
    let all : xs ++ r ≡ ys ++ s = cc e in (
      sym (take_at xs r (length ys) long) ∙ ap (take (length ys)) all ∙ take_at ys s (length ys) refl,
      sym (drop_at xs r (length ys) long) ∙ ap (drop (length ys)) all ∙ drop_at ys s (length ys) refl,
    )

addr_parts : (a b : Addr) (r s : List ℕ) → addr_key a r ≡ addr_key b s → (a ≡ b) × (r ≡ s)
addr_parts (family.V4 a) (family.V4 b) r s e = let p = sized_parts a.0 b.0 r s (cc e) in (ap (λ (xs : List ℕ). family.V4 (record { 0 = xs })) p.0, p.1)
addr_parts (family.V4 a) (family.V6 b) r s e = cc e
addr_parts (family.V6 a) (family.V4 b) r s e = cc e
addr_parts (family.V6 a) (family.V6 b) r s e = let p = sized_parts a.0 b.0 r s (cc e) in (ap (λ (xs : List ℕ). family.V6 (record { 0 = xs })) p.0, p.1)

cidr_parts : (a b : Addr × ℕ) (r s : List ℕ) → cidr_key a r ≡ cidr_key b s → (a ≡ b) × (r ≡ s)
cidr_parts a b r s e = let p = addr_parts a.0 b.0 r s (cc e) in let l : a.1 ≡ b.1 = cc e in (ap₂ (λ (x : Addr) (n : ℕ). (x, n)) p.0 l, p.1)

via_parts : (a b : Option Addr) (r s : List ℕ) → via_key a r ≡ via_key b s → (a ≡ b) × (r ≡ s)
via_parts None None r s e = (refl, cc e)
via_parts None (Some b) r s e = cc e
via_parts (Some a) None r s e = cc e
via_parts (Some a) (Some b) r s e = let p = addr_parts a b r s (cc e) in (ap Some p.0, p.1)

mac_of_key : (a b : Option Mac) → mac_key a ≡ mac_key b → a ≡ b
mac_of_key None None e = refl
mac_of_key None (Some b) e = cc e
mac_of_key (Some a) None e = cc e
mac_of_key (Some a) (Some b) e = let p = sized_parts a.0 b.0 [] [] (cc e) in ap (λ (xs : List ℕ). Some (record { 0 = xs })) p.0

bool_of_key : (a b : Bool) → bool_key a ≡ bool_key b → a ≡ b
bool_of_key true true e = refl
bool_of_key false false e = refl
bool_of_key true false e = absurd (omega arith)
bool_of_key false true e = absurd (omega arith)

kind_of_key : (a b : LinkKind) → kind_key a ≡ kind_key b → a ≡ b
kind_of_key (Bridge m f) (Bridge n g) e = let macs = mac_of_key m n (cc e) in let filters = bool_of_key f g (cc e) in cc (macs, filters)
kind_of_key (Bridge m f) (Vlan l i n) e = cc e
kind_of_key (Vlan l i m) (Bridge n f) e = cc e
kind_of_key (Vlan l i m) (Vlan k j n) e =
    let p = sized_parts l k (i ∷ mac_key m) (j ∷ mac_key n) (cc e) in
    let number : i ≡ j = cc p.1 in
    let mac = mac_of_key m n (cc p.1) in
    cc (p.0, number, mac)

link_of_key : (n m : List ℕ) (k l : LinkKind) → sized n (kind_key k) ≡ sized m (kind_key l) → object.Link n k ≡ object.Link m l
link_of_key n m k l e = let p = sized_parts n m (kind_key k) (kind_key l) e in let q = kind_of_key k l p.1 in cc (p.0, q)

mac_object_of_key : (n m : List ℕ) (a b : Mac) → sized a.0 (sized n []) ≡ sized b.0 (sized m []) → object.Mac n a ≡ object.Mac m b
mac_object_of_key n m a b e =
    let p = sized_parts a.0 b.0 (sized n []) (sized m []) e in
    let q = sized_parts n m [] [] p.1 in
    ap₂ (λ (x : List ℕ) (xs : List ℕ). object.Mac x (record { 0 = xs })) q.0 p.0

master_of_key : (p q b c : List ℕ) → sized p (sized b []) ≡ sized q (sized c []) → object.Master p b ≡ object.Master q c
master_of_key p q b c e =
    let x = sized_parts p q (sized b []) (sized c []) e in
    let y = sized_parts b c [] [] x.1 in
    cc (x.0, y.0)

vlan_of_key : (b p c q : List ℕ) (i j : ℕ) (v u w x : Bool) → object_key (object.Vlan b p i v u) ≡ object_key (object.Vlan c q j w x) → object.Vlan b p i v u ≡ object.Vlan c q j w x
vlan_of_key b p c q i j v u w x e =
    let id : i ≡ j = cc e in
    let pvid = bool_of_key v w (cc e) in
    let untagged = bool_of_key u x (cc e) in
    let ports = sized_parts p q (sized b []) (sized c []) (cc e) in
    let bridges = sized_parts b c [] [] ports.1 in
    cc (id, pvid, untagged, ports.0, bridges.0)

address_of_key : (d e : List ℕ) (a b : Addr × ℕ) → cidr_key a (sized d []) ≡ cidr_key b (sized e []) → object.Address d a ≡ object.Address e b
address_of_key d e a b h =
    let p = cidr_parts a b (sized d []) (sized e []) h in
    let q = sized_parts d e [] [] p.1 in
    ap₂ object.Address q.0 p.0

route_of_key : (a b : RouteObject) → object_key (object.Route a) ≡ object_key (object.Route b) → object.Route a ≡ object.Route b
route_of_key a b e =
    let metric : a.metric ≡ b.metric = cc e in
    let table : a.table ≡ b.table = cc e in
    let p = cidr_parts a.target b.target (via_key a.via (sized a.dev [])) (via_key b.via (sized b.dev [])) (cc e) in
    let q = via_parts a.via b.via (sized a.dev []) (sized b.dev []) p.1 in
    let r = sized_parts a.dev b.dev [] [] q.1 in
    λ i. object.Route (record { target = p.0 i; via = q.0 i; dev = r.0 i; metric = metric i; table = table i })

-- objects with one key are one object
pub object_of_key : (a b : Object) → object_key a ≡ object_key b → a ≡ b
object_of_key (object.Link n k) (object.Link m l) h = link_of_key n m k l (cc h)
object_of_key (object.Mtu n i) (object.Mtu m j) h = let p = sized_parts n m [] [] (cc h) in let q : i ≡ j = cc h in cc (p.0, q)
object_of_key (object.Mac n a) (object.Mac m b) h = mac_object_of_key n m a b (cc h)
object_of_key (object.Master p b) (object.Master q c) h = master_of_key p q b c (cc h)
object_of_key (object.Vlan b p i v u) (object.Vlan c q j w x) h = vlan_of_key b p c q i j v u w x h
object_of_key (object.Up n) (object.Up m) h = ap object.Up (sized_parts n m [] [] (cc h)).0
object_of_key (object.Address d a) (object.Address e b) h = address_of_key d e a b (cc h)
object_of_key (object.Route a) (object.Route b) h = route_of_key a b h
object_of_key a b h = cc h

pub objects_total : IsTotalOrder object_cmp
objects_total = on_total object_key nat_list_cmp_total

pub objects_apart : IsAntisymmetric object_cmp
objects_apart a b h = object_of_key a b (exact_bytes (object_key a) (object_key b) h)

-- calls with one key are one call
call_of_key : (a b : Call) → call_key a ≡ call_key b → a ≡ b
call_of_key (Put a) (Put b) h = ap Put (object_of_key a b (cc h))
call_of_key (Put a) (Take b m n) h = cc h
call_of_key (Take a m n) (Put b) h = cc h
call_of_key (Take a m x) (Take b n y) h =
    let p = sized_parts x.0 y.0 (object_key a) (object_key b) (cc h) in
    let own : m ≡ n = cc h in
    let o = object_of_key a b p.1 in
    λ i. Take (o i) (own i) (record { 0 = p.0 i })

-- what follows in a comparison that answers Equal answers Equal
then_equal : (r s : Ordering) → ordering_then r s ≡ Equal → s ≡ Equal
then_equal Less s h = cc h
then_equal Equal s h = h
then_equal Greater s h = cc h

pub calls_total : (held wanted : Objects) → IsTotalOrder (call_cmp held wanted)
calls_total held wanted = then_total (on_total rank nat_cmp_total) (then_total (on_total (height_place held wanted) nat_cmp_total) (then_total (on_total line_of nat_list_cmp_total) (on_total call_key nat_list_cmp_total)))

pub calls_apart : (held wanted : Objects) → TellsApart (call_cmp held wanted)
calls_apart held wanted a b h =
    let keys = slice_cmp nat_cmp (call_key a) (call_key b) in
    let lines = ordering_then (slice_cmp nat_cmp (line_of a) (line_of b)) keys in
    let heights = ordering_then (nat_cmp (height_place held wanted a) (height_place held wanted b)) lines in
    let below_rank : heights ≡ Equal = then_equal (nat_cmp (rank a) (rank b)) heights h in
    let below_height : lines ≡ Equal = then_equal (nat_cmp (height_place held wanted a) (height_place held wanted b)) lines below_rank in
    call_of_key a b (exact_bytes (call_key a) (call_key b) (then_equal (slice_cmp nat_cmp (line_of a) (line_of b)) keys below_height))

-- what comes first in the order has no greater rank, and in one rank no greater place by height
less_or_tied : (r s : Ordering) → ordering_then r s ≡ Less → (r ≡ Less) ⊎ ((r ≡ Equal) × (s ≡ Less))
less_or_tied Less s h = inl refl
less_or_tied Equal s h = inr (refl, h)
less_or_tied Greater s h = cc h

pub below_of_less : (x y : ℕ) → nat_cmp x y ≡ Less → x < y
below_of_less x y h = subst (λ r. MatchOrdering r (x < y) (x ≡ y) (y < x)) h (ranks x y)

pub tied_of_equal : (x y : ℕ) → nat_cmp x y ≡ Equal → x ≡ y
tied_of_equal x y h = subst (λ r. MatchOrdering r (x < y) (x ≡ y) (y < x)) h (ranks x y)

pub rank_rises : (held wanted : Objects) (a b : Call) → call_cmp held wanted a b ≡ Less → rank a ≤ rank b
rank_rises held wanted a b h =
    elim (less_or_tied (nat_cmp (rank a) (rank b)) _ h) as (λ _. rank a ≤ rank b) [
      | inl less ↦ let below = below_of_less (rank a) (rank b) less in omega arith
      | inr tied ↦ let same = tied_of_equal (rank a) (rank b) tied.0 in omega arith
    ]

pub place_rises : (held wanted : Objects) (a b : Call) → rank a ≡ rank b → call_cmp held wanted a b ≡ Less → height_place held wanted a ≤ height_place held wanted b
place_rises held wanted a b level h =
    elim (less_or_tied (nat_cmp (rank a) (rank b)) _ h) as (λ _. height_place held wanted a ≤ height_place held wanted b) [
      | inl less ↦ let below = below_of_less (rank a) (rank b) less in absurd (omega arith)
      | inr tied ↦ elim (less_or_tied (nat_cmp (height_place held wanted a) (height_place held wanted b)) _ tied.1) as (λ _. height_place held wanted a ≤ height_place held wanted b) [
        | inl less ↦ let below = below_of_less (height_place held wanted a) (height_place held wanted b) less in omega arith
        | inr same ↦ let level_place = tied_of_equal (height_place held wanted a) (height_place held wanted b) same.0 in omega arith
      ]
    ]
