use Rattle.std.proofs.Common.{ℕ, [], Option, sym, subst}
use Rattle.plane_outside.specs.Supply.{supply_of, IsFirst, Uses}
use Rattle.bus_lines.proofs.WordLemmas.{first_kept, first_drawn, stays_drawn, uses_none}
use Rattle.bus_lines.proofs.callers.SpareWord.first.Goals as goal

pub returns-in-Some-clause-first : goal.returns-in-Some-clause-first
returns-in-Some-clause-first g c =
    subst (λ (o : Option ℕ). IsFirst (supply_of o (g.R.Random.words c.args.random.now)) c.in-Some.word)
    (sym c.in-Some.is) (first_kept c.in-Some.word (g.R.Random.words c.args.random.now))

pub returns-in-Some-clause-stays : goal.returns-in-Some-clause-stays
returns-in-Some-clause-stays g c =
    uses_none (supply_of c.args.self.now.word (g.R.Random.words c.args.random.now))

pub returns-in-None-clause-first : goal.returns-in-None-clause-first
returns-in-None-clause-first g c =
    subst (λ (o : Option ℕ). IsFirst (supply_of o (g.R.Random.words c.args.random.now)) c.word-word.result)
    (sym c.in-None.is)
    (first_drawn (g.R.Random.words c.args.random.now) (g.R.Random.words c.word-word.new.self) c.word-word.result
    c.word-word.ensures.advances)

pub returns-in-None-clause-stays : goal.returns-in-None-clause-stays
returns-in-None-clause-stays g c =
    subst (λ (o : Option ℕ). Uses (supply_of o (g.R.Random.words c.args.random.now)) []
    (supply_of (Option.Some c.word-word.result) (g.R.Random.words c.word-word.new.self)))
    (sym c.in-None.is)
    (stays_drawn (g.R.Random.words c.args.random.now) (g.R.Random.words c.word-word.new.self) c.word-word.result
    c.word-word.ensures.advances)
