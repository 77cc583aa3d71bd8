-- Words of 64 bits from a generator of words of 32 bits.
use Rattle.std.specs.Prelude.{ℕ, zero, suc, ◌+◌, ◌*◌}
use Rattle.rand_chacha.specs.ChaCha.{ChaCha, next_word}

-- the next word, of the next two of ChaCha20, the first of which gives the low 32 bits; and the generator behind it
abbrev pub next_pair : ChaCha → ℕ × ChaCha
next_pair generator =
    let low = next_word 10 generator in
    let high = next_word 10 low.1 in
    (low.0 + 4294967296 * high.0, high.1)

-- the k-th word from now
abbrev pub word_from : ChaCha → ℕ → ℕ
word_from generator zero = (next_pair generator).0
word_from generator (suc k) = word_from (next_pair generator).1 k
