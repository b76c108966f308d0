-- What each way through the code does to what is computed: a step is skipped or not, and the whole answer equals what the rest of the walk back answers; and the first path is
-- an answer or not.
use mathlib.Core.Path.{◌≡◌, refl}
use mathlib.Core.Bool.{Bool, false, true}
use mathlib.Core.Option.{Option, none, some}
use mathlib.Core.List.{List, map}
use Rattle.std.specs.declared.option.Option as code
use Rattle.std.specs.Option.{is_some, unwrap_or}
use Rattle.std.specs.Prelude.{None, Some}
use Prim.Native.Nat.{◌-◌, ◌<◌, ◌≤◌, min, suc, zero, ℕ}
use native.Mathlib.Omega.{arith}
use lib.Bits.{bit_or}
use borrow.Author.Tests.{eq-eqb, ne_eqb}
use lib.ListN.{get_or, length, take}
use Rattle.lists.specs.Lists.{pick}
use Rattle.lists.proofs.Ascending.{take_min}
use Rattle.graph.specs.Paths.{Key}
use Rattle.states.specs.States.{must_row}
use Rattle.words.specs.Words.{bit}
use Rattle.chart.specs.Chart.{firsts_in, next_in, nodes_in, width_in}
use Rattle.search.specs.Search.{or_else}
use Rattle.paths.specs.Path.{entered_by, keys_of, no_key}
use Rattle.grow.specs.Grow.{fresh_after, open_past}
use Rattle.grow.specs.Musts.{first_of, grow_with, musts_met}
use Rattle.paths.specs.declared.Path.{Path}
use Rattle.walk.specs.Walk.{after_from, after_of, beside_of, first_in, next_of, on_of, path_or, skip_of}

module _ (c : List ℕ) (plant : ℕ) where
  -- One step

  module _ (steps fresh : ℕ) (keys : List Key) (k : Key) where
    -- a must row is not given up
    pub skip_must : must_row (firsts_in true c) k.row ≡ true → none ≡ skip_of c plant steps fresh keys k
    unfolding skip_of
    skip_must t = rw t

    module _ (free : must_row (firsts_in true c) k.row ≡ false) {next : ℕ} (read : next ≡ next_in c k.row) where
      pub skip_row_lem : ¬ (next ≡ 0) → some (beside_of c plant next steps fresh keys k) ≡ skip_of c plant steps fresh keys k
      unfolding skip_of
      skip_row_lem n = rw (free, ← read, ne_eqb next 0 n)

      pub skip_on : next ≡ 0 → open_past c plant fresh keys k.place k.node ≡ true
          → some (grow_with c plant steps fresh keys k.place k.node) ≡ skip_of c plant steps fresh keys k
      unfolding skip_of on_of
      skip_on z t = rw (free, ← read, eq-eqb next 0 z, t)

      pub skip_none : next ≡ 0 → open_past c plant fresh keys k.place k.node ≡ false → none ≡ skip_of c plant steps fresh keys k
      unfolding skip_of on_of
      skip_none z t = rw (free, ← read, eq-eqb next 0 z, t)

  -- The walk back

  pub after_start : (len i : ℕ) (keys : List Key) → i ≡ min len (length keys)
      → after_of c plant keys len ≡ after_from c plant i (fresh_after (nodes_in c) (entered_by plant (take len keys))) keys
  unfolding after_of
  after_start len i keys e = rw (e, take_min)

  pub after_back : (i fresh steps place node row : ℕ) (keys part : List Key) → 0 < i
      → place ≡ (get_or keys (i - 1) no_key).place → node ≡ (get_or keys (i - 1) no_key).node → row ≡ (get_or keys (i - 1) no_key).row
      → steps ≡ width_in c - (i - 1) → part ≡ take (i - 1) keys
      → after_from c plant i fresh keys
      ≡ or_else (skip_of c plant steps (bit_or fresh (bit node)) part (record { place = place; node = node; row = row })) (after_from c plant (i - 1) (bit_or fresh (bit node)) keys)
  unfolding after_from
  after_back zero fresh steps place node row keys part h x y z d e = absurd (omega arith)
  after_back (suc i) fresh steps place node row keys part h x y z d e = let one : suc i - 1 ≡ i = omega arith in rw (x, y, z, d, e, one)

  pub after_over : (i fresh : ℕ) (keys : List Key) → i ≤ 0 → after_from c plant i fresh keys ≡ none
  unfolding after_from
  after_over zero fresh keys h = refl
  after_over (suc i) fresh keys h = absurd (omega arith)

-- what the code answers, if it has an answer, and if it has none
pub next_some : (next : code.Option Path) (o : Option (List Key)) → is_some next ≡ true → next_of next ≡ or_else (next_of next) o
next_some (Some path) o t = refl
next_some None o t = cc

pub next_none : (next : code.Option Path) (o : Option (List Key)) → is_some next ≡ false → or_else (next_of next) o ≡ o
next_none (Some path) o t = cc
next_none None o t = refl

-- the path that was found, or else the one that was given
pub next_or : (next : code.Option Path) (path : Path) → keys_of (unwrap_or next path) ≡ path_or (keys_of path) (next_of next)
next_or (Some found) path = refl
next_or None path = refl

-- The first path, where it is too short, and where the must rows are asked for
module _ (c : List ℕ) (keys : List Key) (grown : keys ≡ first_of c) where
  pub first_short : ¬ (length keys ≡ width_in c) → none ≡ first_in c
  unfolding first_in
  first_short n = rw (← grown, ne_eqb _ _ n)

  pub first_asked : {met : Bool} → length keys ≡ width_in c → met ≡ musts_met c (map (λ (k : Key). k.row) keys) → pick met (some keys) none ≡ first_in c
  unfolding first_in
  first_asked e m = rw (← grown, eq-eqb _ _ e, ← m)
