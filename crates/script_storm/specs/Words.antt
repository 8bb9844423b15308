-- The words of a generated script (PCG XSH RR 64/32).
use Rattle.std.specs.Prelude.{ℕ, List}
use Rattle.rand_core.specs.Steps.{first_words}
use Rattle.rand_pcg.specs.Lcg.{Lcg, started, increment_of}
use Rattle.rand_pcg.specs.Pcg.{pcg32, multiplier_64}

-- the generator of a seed, on the stream 1
abbrev pub generator_of : ℕ → Lcg
generator_of seed = started 64 multiplier_64 seed (increment_of 64 1)

-- the first words of the generator of a seed
abbrev pub words : ℕ → ℕ → List ℕ
words seed count = first_words pcg32 count (generator_of seed)
