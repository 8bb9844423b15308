use Rattle.std.proofs.Common.{◌≡◌, ◌≤◌, ◌+◌, ◌*◌, ℕ, List, sum, take, reverse}
use Rattle.osi_base.specs.Fletcher.{place_sum}
use Rattle.osi_base.proofs.fletcher.Sums.with_chunk.Given as goal

-- the sums so far, and bounds by which they fit
pub record Running (first second first0 second0 index : ℕ) (chunk : List ℕ) : Type 0 where
  pub first_is : first ≡ first0 + sum (take index chunk)
  pub second_is : second ≡ second0 + index * first0 + place_sum 1 (reverse (take index chunk))
  pub first_fits : first ≤ 254 + 255 * index
  pub second_fits : second ≤ 254 + 16711934 * index

abbrev pub invariant-loop-octet : goal.invariant-loop-octet
invariant-loop-octet l = Running l.first l.second l.fn.self.first l.fn.self.second l.octet-index l.chunk
