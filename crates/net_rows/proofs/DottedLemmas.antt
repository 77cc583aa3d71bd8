-- Names of the form X.N.
use Rattle.std.proofs.Common.{ℕ, ◌≡◌, true, false, List, Option, Some, None, refl, sym, ◌∙◌, ap}
use Rattle.kern_model.specs.Name.{is_name}
use Rattle.net_rows.specs.Cut.{HasNone, CutsAtLast}
use Rattle.net_rows.specs.Dotted.{dot, id_of, parts_of, parts_at, vlan_parts}
use Rattle.net_rows.specs.Stated.{name_of}
use Rattle.net_rows.proofs.CutLemmas.{no_last_cut, is_last_cut}

pub without_dot : (name text : List ℕ) → text ≡ name → HasNone dot text → None ≡ vlan_parts name
without_dot name text same none = sym (ap vlan_parts (sym same) ∙ ap parts_at (no_last_cut dot text none))

pub by_cut : (name text front back : List ℕ) → text ≡ name → CutsAtLast dot text front back → vlan_parts name ≡ parts_of (name_of front) (id_of back)
by_cut name text front back same cut = ap vlan_parts (sym same) ∙ ap parts_at (is_last_cut dot text front back cut)

pub no_lower : (front : List ℕ) (id : Option ℕ) → is_name front ≡ false → parts_of (name_of front) id ≡ None
no_lower front id bad = rw bad refl

no_id_of : (lower : Option (List ℕ)) → parts_of lower None ≡ None
no_id_of None = refl
no_id_of (Some lower) = refl

pub no_id : (front : List ℕ) (id : Option ℕ) → id ≡ None → parts_of (name_of front) id ≡ None
no_id front id none = ap (parts_of (name_of front)) none ∙ no_id_of (name_of front)

pub both_parts : (front lower : List ℕ) (id : Option ℕ) (n : ℕ) → is_name front ≡ true → lower ≡ front → id ≡ Some n → parts_of (name_of front) id ≡ Some (record { lower = lower; id = n })
both_parts front lower id n good same is = rw (good, is, same) refl
