-- the order of made nodes and their ranks
use Rattle.std.proofs.Common.{arith, ⊎_elim, ℕ, ◌+◌, ◌-◌, ◌<◌, ◌≤◌, ◌≡◌, ◌≢◌, ◌==◌, ◌&&◌, subst, zero, suc, take, replicate, Bool, true, false, List, [], ◌∷◌, ◌++◌, length, map, get_or, slice_index, slice_set, get_or-set_same}
use Rattle.std.proofs.Common.{get_or-set_other, length-set, refl, sym, ap, ◌∙◌}
use Rattle.std.proofs.lemmas.Bool.{cases_eq, cases_lt, eq-eqb, true≢false}
use Rattle.std.proofs.lemmas.List.{get_or_past, length-map, length-append, length-replicate, get_or-replicate, get_or_append_left, get_or_push}
use Rattle.use_counts.specs.declared.node.Edge.{Edge}
use Rattle.use_counts.specs.declared.node.Kind.TheVariants.{Broken}
use Rattle.use_counts.specs.declared.node.Row.{Row}
use Rattle.use_counts.specs.NodeRule.{HasRank, is_made, row_at, rank_of}
use Rattle.use_counts.specs.Held.{IsOrder, Member}
use Rattle.use_counts.specs.Network.{HasLevels, IsLoadable, Rises, loaded, member_at, network_from}
use Rattle.use_counts.specs.Order.{ArePlaced, CanLoad, level_at}
use Rattle.std.proofs.lemmas.List.Elements.{All-map, All-append}
use Rattle.std.proofs.Math.ListN.{get_or-map}

pub ranks_apart : (order ranks : List ℕ) (size j k : ℕ) → IsOrder order (rank_of ranks) size → 0 < rank_of ranks j → rank_of ranks j ≡ rank_of ranks k → j ≡ k
ranks_apart order ranks size j k t some e = sym ((t.turn_of j some).1) ∙ ap (λ r. slice_index order (r - 1)) e ∙ (t.turn_of k (omega (arith, some, e))).1

pub ranks_full : (order ranks : List ℕ) (size turn : ℕ) → IsOrder order (rank_of ranks) size → turn < length order → HasRank ranks turn
ranks_full order ranks size turn t h = record { place = slice_index order turn; is = (t.made_at turn h).1 }

row_past : (rows : List Row) (k : ℕ) → length rows ≤ k → is_made (row_at rows k).kind ≡ false
row_past rows k past = ap (λ (r : Row). is_made r.kind) (get_or_past rows k (record { kind = Broken; level = 0 }) past)

-- a row that is not of the level, or not made, is passed over
pub placed_skip : (rows : List Row) (level place : ℕ) (places ranks : List ℕ) → (is_made (row_at rows place).kind && (level_at rows place == level)) ≡ false → ArePlaced rows level place places ranks
    → ArePlaced rows level (place + 1) places ranks
placed_skip rows level place places ranks other p =
    record {
      long = p.long;
      order = p.order;
      made = p.made;
      before = λ k some up. let b = p.before k some up in (b.0, omega (arith, b.1));
      all = λ k within made before. p.all k within made (λ up.
          let b = before up in (
            b.0,
            ⊎_elim
                (λ (e : k ≡ place). absurd (true≢false (sym (both (is_made (row_at rows k).kind) (level_at rows k == level) made (eq-eqb (level_at rows k) level b.0)) ∙ ap (λ n. is_made (row_at rows n).kind && (level_at rows n == level)) e
                ∙ other)))
                (λ ne. omega (arith, b.1, ne))
                (cases_eq k place),
          ));
      rises = p.rises;
    }
  where
    both : (a b : Bool) → a ≡ true → b ≡ true → (a && b) ≡ true
    both true true x y = refl
    both true false x y = y
    both false b x y = absurd (true≢false (sym x))

module _ (rows : List Row) (level place : ℕ) (places ranks : List ℕ) (within : place < length rows) (made : is_made (row_at rows place).kind ≡ true) (same : level_at rows place ≡ level) (p : ArePlaced rows level place places ranks) where
  now : ℕ
  now = length places + 1

  more : length (places ++ place ∷ []) ≡ length places + 1
  more = length-append places (place ∷ [])

  here : rank_of (slice_set ranks place (length places + 1)) place ≡ length places + 1
  here = get_or-set_same ranks place (length places + 1) 0 (omega (arith, within, p.long))

  other : (k : ℕ) → k ≢ place → rank_of (slice_set ranks place (length places + 1)) k ≡ rank_of ranks k
  other k ne = get_or-set_other ranks place k (length places + 1) 0 ne

  -- it had no rank yet
  unranked : (k : ℕ) → 0 < rank_of ranks k → k ≢ place
  unranked k some e = let b = p.before k some (omega (arith, same, ap (level_at rows) e)) in omega (arith, b.1, e)

  old : (turn : ℕ) → turn < length places → slice_index (places ++ place ∷ []) turn ≡ slice_index places turn
  old turn h = get_or_append_left places (place ∷ []) 0 turn h

  last : (turn : ℕ) → turn ≡ length places → slice_index (places ++ place ∷ []) turn ≡ place
  last turn e = get_or_push places place 0 turn (sym e)

  order_put : IsOrder (places ++ place ∷ []) (rank_of (slice_set ranks place (length places + 1))) (length (slice_set ranks place (length places + 1)))
  order_put =
      record {
        made_at = λ turn h. ⊎_elim
            (λ low.
            let was = p.order.made_at turn low in
            let apart : slice_index places turn ≢ place = unranked (slice_index places turn) (omega (arith, was.1)) in
            (omega (arith, old turn low, was.0, length-set ranks place (length places + 1)), ap (rank_of (slice_set ranks place (length places + 1))) (old turn low) ∙ other (slice_index places turn) apart ∙ was.1))
            (λ high.
            let e : turn ≡ length places = omega (arith, h, high, more) in
            (omega (arith, last turn e, within, p.long, length-set ranks place (length places + 1)), ap (rank_of (slice_set ranks place (length places + 1))) (last turn e) ∙ here ∙ ap (λ n. n + 1) (sym e)))
            (cases_lt turn (length places));
        turn_of = λ k some. ⊎_elim
            (λ (e : k ≡ place).
            let is : rank_of (slice_set ranks place (length places + 1)) k ≡ length places + 1 = ap (rank_of (slice_set ranks place (length places + 1))) e ∙ here in
            (omega (arith, is, more), last _ (omega (arith, is)) ∙ sym e))
            (λ ne.
            let is = other k ne in
            let was = p.order.turn_of k (omega (arith, some, is)) in
            (omega (arith, is, was.0, more), ap (λ r. slice_index (places ++ place ∷ []) (r - 1)) is ∙ old (rank_of ranks k - 1) (omega (arith, was.0, some, is)) ∙ was.1))
            (cases_eq k place);
      }

  pub placed_more : ArePlaced rows level (place + 1) (places ++ place ∷ []) (slice_set ranks place (length places + 1))
  placed_more =
      record {
        long = length-set ranks place (length places + 1) ∙ p.long;
        order = order_put;
        made = λ k some. ⊎_elim (λ e. ap (λ n. is_made (row_at rows n).kind) e ∙ made) (λ ne. p.made k (omega (arith, some, other k ne))) (cases_eq k place);
        before = λ k some up. ⊎_elim (λ e. (ap (level_at rows) e ∙ same, omega (arith, e))) (λ ne. let b = p.before k (omega (arith, some, other k ne)) up in (b.0, omega (arith, b.1))) (cases_eq k place);
        all = λ k inside is_made before. ⊎_elim
            (λ (e : k ≡ place). omega (arith, ap (rank_of (slice_set ranks place (length places + 1))) e, here))
            (λ ne. omega (arith, other k ne, p.all k inside is_made (λ up. let b = before up in (b.0, omega (arith, b.1, ne)))))
            (cases_eq k place);
        rises = λ j k some_j some_k less. ⊎_elim
            (λ (e : k ≡ place). ⊎_elim
            (λ (d : j ≡ place). absurd (omega (arith, less, ap (level_at rows) e, ap (level_at rows) d)))
            (λ ne. omega (arith, other j ne, (p.order.turn_of j (omega (arith, some_j, other j ne))).0, ap (rank_of (slice_set ranks place (length places + 1))) e, here))
            (cases_eq j place))
            (λ ne. ⊎_elim
            (λ (d : j ≡ place). absurd (omega (arith, less, ap (level_at rows) d, same, (p.before k (omega (arith, some_k, other k ne)) (omega (arith, less, ap (level_at rows) d, same))).0)))
            (λ nej. omega (arith, other j nej, other k ne, p.rises j k (omega (arith, some_j, other j nej)) (omega (arith, some_k, other k ne)) less))
            (cases_eq j place))
            (cases_eq k place);
      }

-- all of a level are ordered
pub placed_level : (rows : List Row) (level : ℕ) (places ranks : List ℕ) → ArePlaced rows level (length rows) places ranks → ArePlaced rows (level + 1) 0 places ranks
placed_level rows level places ranks p =
    record {
      long = p.long;
      order = p.order;
      made = p.made;
      before = λ k some up. absurd (omega (arith, up, (p.before k some (omega (arith, up))).0));
      all = λ k within made before. p.all k within made (λ up. ⊎_elim (λ (h : level < level_at rows k). absurd (omega (arith, (before (omega (arith, h))).1))) (λ h. (omega (arith, h, up), within)) (cases_lt level (level_at rows k)));
      rises = p.rises;
    }

pub placed_start : (rows : List Row) (ranks : List ℕ) → length ranks ≡ length rows → ((k : ℕ) → rank_of ranks k ≡ 0) → ArePlaced rows 0 0 [] ranks
placed_start rows ranks long none =
    record {
      long = long;
      order = record { made_at = λ turn h. absurd (omega (arith, h)); turn_of = λ k some. absurd (omega (arith, some, none k)) };
      made = λ k some. absurd (omega (arith, some, none k));
      before = λ k some. absurd (omega (arith, some, none k));
      all = λ k within made before. absurd (omega (arith, (before (omega arith)).1));
      rises = λ j k some. absurd (omega (arith, some, none j));
    }

-- what is read of a row among loaded ones
pub member_row : (rows : List Row) (k : ℕ) → member_at (map loaded rows) k ≡ loaded (row_at rows k)
member_row rows k = get_or-map loaded rows k (record { kind = Broken; level = 0 })

not_made : (b : Bool) → (b ≡ true → ⊥) → b ≡ false
not_made true h = absurd (h refl)
not_made false h = refl

levels_of_rows : (rows : List Row) (fixed ports : List Edge) → CanLoad rows fixed ports → HasLevels (network_from rows fixed ports)
levels_of_rows rows fixed ports c =
    record {
      levels = All-map (λ (m : Member). (1 ≤ m.level) × (m.level ≤ 8)) loaded rows c.levels;
      edges = All-append (Rises (map loaded rows)) fixed ports c.fixed_rise c.ports_rise;
      claims = All-map (λ (m : Member). m.claims ≤ 1024) loaded rows (λ k d h. omega arith);
    }

-- rows that can be loaded, with their order
pub loadable : (rows : List Row) (fixed ports : List Edge) (places ranks : List ℕ) → CanLoad rows fixed ports → ArePlaced rows 9 0 places ranks → IsLoadable places ranks rows fixed ports
loadable rows fixed ports places ranks c p =
    let low : (k : ℕ) → k < length rows → level_at rows k < 9 = λ k h. omega (arith, (c.levels k (record { kind = Broken; level = 0 }) h).1) in
    let ranked : (k : ℕ) → k < length rows → is_made (row_at rows k).kind ≡ true → 0 < rank_of ranks k = λ k h made. p.all k h made (λ up. absurd (omega (arith, up, low k h))) in
    let levels = levels_of_rows rows fixed ports c in
    record {
      ranked = p.long;
      ordered = p.order;
      plain = λ k none. ⊎_elim (λ within. not_made (is_made (row_at rows k).kind) (λ made. omega (arith, ranked k within made, none))) (λ past. row_past rows k past) (cases_lt k (length rows));
      stand = λ k d h.
          let e = get_or (fixed ++ ports) k d in
          let o = levels.edges k d h in
          let lower : e.lower < length rows = omega (arith, o.lower, length-map rows loaded) in
          let upper : e.upper < length rows = omega (arith, o.upper, length-map rows loaded) in
          let made = ranked e.upper upper (sym (ap (λ (m : Member). is_made m.kind) (member_row rows e.upper)) ∙ o.made) in
          record {
            made_upper = made;
            node_upper = omega (arith, upper, p.long);
            node_lower = omega (arith, lower, p.long);
            order = λ some. p.rises e.lower e.upper some made (omega (arith, o.order, ap (λ (m : Member). m.level) (member_row rows e.lower), ap (λ (m : Member). m.level) (member_row rows e.upper)));
          };
      levels = levels;
      few = c.few;
    }

pub and_left : (a b : Bool) → a ≡ false → (a && b) ≡ false
and_left true b h = absurd (true≢false h)
and_left false b h = refl

pub and_right : (a b : Bool) → b ≡ false → (a && b) ≡ false
and_right true b h = h
and_right false b h = refl

pub as_placed : (rows : List Row) (level place : ℕ) (places places' ranks ranks' : List ℕ) → places' ≡ places → ranks' ≡ ranks → ArePlaced rows level place places ranks → ArePlaced rows level place places' ranks'
as_placed rows level place places places' ranks ranks' e d p =
    subst (λ (ps : List ℕ). ArePlaced rows level place ps ranks') (sym e) (subst (λ (rs : List ℕ). ArePlaced rows level place places rs) (sym d) p)

pub as_started : (rows : List Row) (places ranks : List ℕ) → places ≡ [] → ArePlaced rows 0 0 [] ranks → ArePlaced rows 0 0 places ranks
as_started rows places ranks e p = subst (λ (ps : List ℕ). ArePlaced rows 0 0 ps ranks) (sym e) p

take_none : (n : ℕ) → ◌≡◌ {A = List ℕ} (take n []) []
take_none zero = refl
take_none (suc n) = refl

-- ranks of no one
pub zeros : (ranks old : List ℕ) (n len : ℕ) → ranks ≡ take n old ++ replicate (n - len) 0 → old ≡ [] → len ≡ 0 → (length ranks ≡ n) × ((k : ℕ) → rank_of ranks k ≡ 0)
zeros ranks old n len is empty none =
    let count : n - len ≡ n = omega (arith, none) in
    let all : ranks ≡ replicate n 0 = is ∙ ap (λ xs. take n xs ++ replicate (n - len) 0) empty ∙ ap (λ xs. xs ++ replicate (n - len) 0) (take_none n) ∙ ap (λ m. replicate m 0) count in
    (ap length all ∙ length-replicate {A = ℕ} n 0, λ k. ap (λ rs. rank_of rs k) all ∙ ⊎_elim (λ h. get_or-replicate n k 0 0 h) (λ past. get_or_past (replicate n 0) k 0 (omega (arith, past, length-replicate {A = ℕ} n 0))) (cases_lt k n))
