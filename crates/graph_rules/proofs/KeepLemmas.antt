-- a load over an old graph beside a load of nothing
use Rattle.std.proofs.Common.{arith, ℕ, zero, suc, ◌+◌, ◌<◌, ◌≤◌, ◌≡◌, List, [], ◌∷◌, ◌++◌, length, Option, Some, None, slice_set, slice_index_or, refl, sym, ap, ◌∙◌}
use Rattle.std.proofs.lemmas.List.{length-map}
use Rattle.kern_model.specs.declared.object.Device.{Device}
use Rattle.net_rows.specs.declared.rows.Conf.{Conf}
use Rattle.net_rules.specs.Rows.{names_of}
use Rattle.graph_rules.specs.declared.ids.RadioPort.{RadioPort}
use Rattle.graph_rules.specs.State.{Named, State, device_among, claims_among}
use Rattle.graph_rules.specs.After.{name_at, kept_name, kept_names, with_names, claimed_after, device_after, loaded_after, told_again, all_told_again}

-- the first of the names have what they had, and the others nothing
abbrev mixed : List Named → ℕ → List (List ℕ) → List Named
mixed old n [] = []
mixed old zero (x ∷ xs) = kept_name [] x ∷ mixed old zero xs
mixed old (suc n) (x ∷ xs) = kept_name old x ∷ mixed old n xs

none_kept : (old : List Named) (xs : List (List ℕ)) → mixed old zero xs ≡ kept_names [] xs
none_kept old [] = refl
none_kept old (x ∷ xs) = ap (λ (ns : List Named). kept_name [] x ∷ ns) (none_kept old xs)

all_kept : (old : List Named) (xs : List (List ℕ)) → mixed old (length xs) xs ≡ kept_names old xs
all_kept old [] = refl
all_kept old (x ∷ xs) = ap (λ (ns : List Named). kept_name old x ∷ ns) (all_kept old xs)

mixed_size : (old : List Named) (n : ℕ) (xs : List (List ℕ)) → length (mixed old n xs) ≡ length xs
mixed_size old n [] = refl
mixed_size old zero (x ∷ xs) = ap suc (mixed_size old zero xs)
mixed_size old (suc n) (x ∷ xs) = ap suc (mixed_size old n xs)

named_at : (old : List Named) (n : ℕ) (xs : List (List ℕ)) → n < length xs → name_at (mixed old n xs) n ≡ kept_name [] (slice_index_or xs n [])
named_at old n [] within = absurd (omega (arith, within))
named_at old zero (x ∷ xs) within = refl
named_at old (suc n) (x ∷ xs) within = named_at old n xs (omega (arith, within))

one_more : (old : List Named) (n : ℕ) (xs : List (List ℕ)) → n < length xs → slice_set (mixed old n xs) n (kept_name old (slice_index_or xs n [])) ≡ mixed old (suc n) xs
one_more old n [] within = absurd (omega (arith, within))
one_more old zero (x ∷ xs) within = refl
one_more old (suc n) (x ∷ xs) within = ap (λ (ns : List Named). kept_name old x ∷ ns) (one_more old n xs (omega (arith, within)))

set_twice : (ns : List Named) (id : ℕ) (m n : Named) → slice_set (slice_set ns id m) id n ≡ slice_set ns id n
set_twice [] id m n = refl
set_twice (x ∷ xs) zero m n = refl
set_twice (x ∷ xs) (suc id) m n = ap (λ (ns : List Named). x ∷ ns) (set_twice xs id m n)

at_set : (ns : List Named) (id : ℕ) (n : Named) → id < length ns → name_at (slice_set ns id n) id ≡ n
at_set [] id n within = absurd (omega (arith, within))
at_set (x ∷ xs) zero n within = refl
at_set (x ∷ xs) (suc id) n within = at_set xs id n (omega (arith, within))

-- a name that nothing was told of is told what it had
one_told : (old : List Named) (s : State) (id : ℕ) (x : List ℕ) → id < length s.known.names → name_at s.known.names id ≡ kept_name [] x
    → told_again old id s ≡ with_names s (slice_set s.known.names id (kept_name old x))
one_told old s id x within is =
    ap (λ (m : Named). claimed_after (device_after s id (device_among old m.name)) id (claims_among old m.name)) is
    ∙ go (device_among old x) refl
  where
    ns : List Named
    ns = s.known.names

    claims : ℕ
    claims = claims_among old x

    go : (found : Option Device) → device_among old x ≡ found → claimed_after (device_after s id (device_among old x)) id claims ≡ with_names s (slice_set ns id (kept_name old x))
    go None none =
        ap (λ (d : Option Device). claimed_after (device_after s id d) id claims) none
        ∙ ap (λ (m : Named). with_names s (slice_set ns id (record m { claims = claims }))) is
        ∙ ap (λ (d : Option Device). with_names s (slice_set ns id (record { name = x; device = d; claims = claims }))) (sym none)
    go (Some device) some =
        let told : Named = record (name_at ns id) { device = Some device } in
        ap (λ (d : Option Device). claimed_after (device_after s id d) id claims) some
        ∙ ap (λ (m : Named). with_names s (slice_set (slice_set ns id told) id (record m { claims = claims }))) (at_set ns id told within)
        ∙ ap (λ (ms : List Named). with_names s ms) (set_twice ns id told (record told { claims = claims }))
        ∙ ap (λ (m : Named). with_names s (slice_set ns id (record m { device = Some device; claims = claims }))) is
        ∙ ap (λ (d : Option Device). with_names s (slice_set ns id (record { name = x; device = d; claims = claims }))) (sym some)

all_told : (old : List Named) (fresh : State) (xs : List (List ℕ)) → fresh.known.names ≡ kept_names [] xs → (n : ℕ) → n ≤ length xs → all_told_again old n fresh ≡ with_names fresh (mixed old n xs)
all_told old fresh xs is zero within = ap (with_names fresh) (is ∙ sym (none_kept old xs))
all_told old fresh xs is (suc n) within =
    let size : length (mixed old n xs) ≡ length xs = mixed_size old n xs in
    ap (told_again old n) (all_told old fresh xs is n (omega (arith, within)))
    ∙ one_told old (with_names fresh (mixed old n xs)) n (slice_index_or xs n []) (omega (arith, within, size)) (named_at old n xs (omega (arith, within)))
    ∙ ap (with_names fresh) (one_more old n xs (omega (arith, within)))

pub loads_keep : (old : State) (conf : Conf) (plain : List (List ℕ)) (radio : List RadioPort)
    → (let fresh : State = loaded_after None conf plain radio in record (all_told_again old.known.names (length fresh.known.names) fresh) { held = old.held; loads = old.loads + 1 }) ≡ loaded_after (Some old) conf plain radio
loads_keep old conf plain radio =
    let fresh : State = loaded_after None conf plain radio in
    let xs : List (List ℕ) = names_of conf ++ plain in
    let told : all_told_again old.known.names (length fresh.known.names) fresh ≡ with_names fresh (kept_names old.known.names xs) =
    ap (λ (n : ℕ). all_told_again old.known.names n fresh) (length-map xs (kept_name []))
    ∙ all_told old.known.names fresh xs refl (length xs) (omega arith)
    ∙ ap (with_names fresh) (all_kept old.known.names xs) in
    ap (λ (s : State). let t : State = record s { held = old.held; loads = old.loads + 1 } in t) told
