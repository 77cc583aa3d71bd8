use Rattle.std.proofs.Common.{◌≡◌, ℕ, List, [], ◌∷◌, ◌++◌, Some, cond, subst, rules}
use Rattle.std.specs.Ordering.{nat_cmp}
use Rattle.std.specs.Cmp.Lexicographic.{slice_cmp}
use Rattle.std.specs.BTreeMap.{get, is_at}
use Rattle.net_view.proofs.JoinLemmas.{grown}
use Rattle.net_reach.proofs.routes.add_place_of_text.Goals as goal

pub returns : goal.returns
returns c =
    let pushed : c.push.new.self.items ≡ c.take_of_text-group.result.items ++ c.args.place ∷ [] = search rules in
    let put : (q : List ℕ) → get (slice_cmp nat_cmp) c.insert.new.self q ≡ cond (is_at (slice_cmp nat_cmp c.args.name.now) q) (Some c.push.new.self) (get (slice_cmp nat_cmp) c.take_of_text-group.new.groups q) =
    subst (λ (k : List ℕ). (q : List ℕ) → get (slice_cmp nat_cmp) c.insert.new.self q ≡ cond (is_at (slice_cmp nat_cmp k) q) (Some c.push.new.self) (get (slice_cmp nat_cmp) c.take_of_text-group.new.groups q)) c.in_ok-key.ensures
    c.in_ok-_none.ensures.updates.0 in
    grown c.args.groups.now c.take_of_text-group.new.groups c.insert.new.self c.args.name.now c.args.place c.take_of_text-group.result c.push.new.self c.take_of_text-group.ensures.places pushed c.take_of_text-group.ensures.others put
