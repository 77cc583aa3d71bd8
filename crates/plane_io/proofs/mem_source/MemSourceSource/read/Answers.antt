use Rattle.std.proofs.Common.{arith, ◌≡◌, ◌≤◌, length, take, drop, ◌+◌, sym, ap, ◌∙◌, refl}
use Rattle.plane_io.proofs.FrontLemmas.{front_and_rest}
use Rattle.plane_io.proofs.mem_source.MemSourceSource.read.Goals as goal

pub returns-clause-gives : goal.returns-clause-gives
returns-clause-gives c =
    let left : c.split_at.result.1.now ≡ drop c.self.inside.at c.self.inside.bytes.items = cc in
    let copied : c.copy_from_slice.new.self ≡ take c.min-count.result (drop c.self.inside.at c.self.inside.bytes.items) = cc in
    let fits : c.min-count.result ≤ length (drop c.self.inside.at c.self.inside.bytes.items) = rw (← left) (omega arith) in
    (drop (c.self.inside.at + c.min-count.result) c.self.inside.bytes.items, sym (ap (λ s. s.left) c.self.view_is) ∙ front_and_rest _ _ _ _ _ copied fits, refl)
