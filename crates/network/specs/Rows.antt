-- What the checks behind check 4 take as given of a file, so that they read it in place, and what check 7 asks of a row's costs.
use Rattle.std.specs.Prelude.{◌≡◌, Bool, List, ◌*◌, ◌+◌, ℕ, leb, length}
use Rattle.lists.specs.Lists.{all, range}
use Rattle.network_file.specs.File.{Sizes, row_start, sizes_of, u32_at}

-- the sizes are the file's, and it ends where a row behind the last would begin
pub record Fitting (f : List ℕ) (s : Sizes) : Type 0 where
  pub same : s ≡ sizes_of f
  pub long : length f ≡ row_start f s.m

-- no cost of the k from a place on is above 1,000,000
unfoldable pub costs_from : List ℕ → ℕ → ℕ → Bool
unfolding all range u32_at
costs_from f at k = all (λ c. leb (u32_at f (at + 4 * c)) 1000000) (range 0 k)
