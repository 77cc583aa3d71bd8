use Rattle.std.proofs.Common.{arith, ◌≡◌, ◌+◌, length, slice_set, sym, ap, ◌∙◌}
use Rattle.std.proofs.lemmas.Bool.{ne_eqb}
use Rattle.use_counts.specs.Order.{level_at}
use Rattle.use_counts.proofs.OrderLemmas.{placed_skip, placed_more, and_left, and_right, as_placed}
use Rattle.use_counts.proofs.order.add_level.Goals as goal
use Rattle.use_counts.proofs.order.add_level.Goals.{then-is_made+then-rows-place+in_ok-push, else-is_made, else-is_made-via-then-is_made+else-rows-place, else-is_made-via-else-is_made}

pub loop-place-preserved : goal.loop-place-preserved
loop-place-preserved c =
    let rows = c.args.rows.now in
    let level = c.args.level in
    let place = c.loop-place.place in
    let places = c.loop-place.places.items in
    let ranks = c.loop-place.ranks.items in
    let p = c.loop-place.invariant.placed in
    elim c.if-is_made.branch [
      | then-is_made+then-rows-place+in_ok-push w ↦
          let long : w.len.result ≡ length places + 1 = omega (arith, w.len.ensures, w.in_ok-push.ensures.len, c.loop-place.places.ok.0) in
          record {
            placed = as_placed rows level (place + 1) _ _ _ _ (ap (λ v. v.items) w.places-is ∙ w.in_ok-push.ensures.items) (ap (λ v. v.items) w.ranks-is ∙ ap (slice_set ranks place) long)
                (placed_more rows level place places ranks c.loop-place-test.true (sym c.is_made.ensures ∙ w.if-is_made.true) w.if-rows-place.true p);
          }
      | else-is_made w ↦
          elim w.else-is_made.branch [
            | else-is_made-via-then-is_made+else-rows-place v ↦
                record {
                  placed = as_placed rows level (place + 1) _ _ _ _ (ap (λ v. v.items) w.places-is) (ap (λ v. v.items) w.ranks-is)
                      (placed_skip rows level place places ranks (and_right _ _ (ne_eqb (level_at rows place) level (λ e. omega (arith, e, v.if-rows-place.false)))) p);
                }
            | else-is_made-via-else-is_made v ↦
                record {
                  placed = as_placed rows level (place + 1) _ _ _ _ (ap (λ v. v.items) w.places-is) (ap (λ v. v.items) w.ranks-is)
                      (placed_skip rows level place places ranks (and_left _ _ (sym c.is_made.ensures ∙ v.if-is_made.false)) p);
                }
          ]
    ]
