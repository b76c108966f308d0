-- The cost vector that the code computes is that of document 01 (`vector_costs`): no cost is above 31,000,000, since a path has at most 31 rows (`rows_few`).
use mathlib.Core.Path.{◌∙◌, ◌≡◌, ap, sym}
use mathlib.Core.Option.{Option, none, some}
use mathlib.Core.List.{List, map}
use Prim.Native.Nat.{◌+◌, ◌<◌, ◌≤◌, ℕ}
use native.Mathlib.Nat.{zero-add}
use native.Mathlib.Omega.{arith}
use lib.Dec.{ltb}
use lib.ListN.{get_or, get_elem?, length, length-map, take}
use lib.Seq.{ext_get_or, get_or-take, length-take-le}
use borrow.Author.Tests.{lt-ltb}
use Rattle.lists.specs.Lists.{range}
use Rattle.lists.proofs.Ascending.{at_get_or}
use Rattle.lists.proofs.Ranges.{get_or_map_range, range_length}
use Rattle.lists.proofs.Tests.{pick_elim}
use Rattle.graph.specs.Paths.{Key}
use Rattle.costs.specs.Costs.{cost_by, cost_of}
use Rattle.costs.specs.Network.{Kind, added}
use Rattle.costs.proofs.Criteria.{kinds_at}
use Rattle.costs.proofs.Networks.{cost_length}
use Rattle.bounds.proofs.Limits.{by_kind}
use Rattle.network_file.specs.File.{byte_at, kind_of, network_of, sizes_of}
use Rattle.network_file.proofs.Accepted.{Accepted}
use Rattle.paths.specs.Path.{keys_of, rows_in}
use Rattle.paths.specs.declared.Path.{Path}
use Rattle.paths.proofs.Laws.{keys_most}
use Rattle.vector.specs.Vector.{cost_byte, criterion_of, held_of, vector_of}

pub rows_few : (p : Path) → length (rows_in p) ≤ 31
rows_few p = omega (arith, length-map (keys_of p) (λ (k : Key). k.row), keys_most p)

module _ (f rows : List ℕ) (a : Accepted f) where
  abbrev defined : Kind → ℕ → ℕ
  defined kind c = cost_by kind (network_of f) c rows

  -- the byte of a criterion names its kind
  cost_at_lem : (c : ℕ) → c < (sizes_of f).k → criterion_of f c rows ≡ get_or (cost_of (network_of f) rows) c 0
  unfolding criterion_of cost_of
  cost_at_lem c h =
      let kind = get_or (network_of f).kinds c added in
      let there : get_elem? (network_of f).kinds c ≡ some kind = at_get_or (network_of f).kinds c added (omega (arith, a.kinds)) in
      rw (lt-ltb c (sizes_of f).k h, ← (a.named c h), there) (sym (kinds_at defined 0 (network_of f).kinds c kind there ∙ ap (defined kind) (zero-add c)))

  module _ (few : length rows ≤ 31) where
    -- of as few rows as a path has, each cost fits 32 bits
    cost_most : (c : ℕ) → criterion_of f c rows ≤ 31000000
    unfolding criterion_of
    cost_most c =
        pick_elim (λ (y : ℕ). y ≤ 31000000) (ltb c (sizes_of f).k) (λ t. one (kind_of (byte_at f (9 + c)))) (λ n. omega arith)
      where
        one : (o : Option Kind) → cost_byte o f c rows ≤ 31000000
        one none = omega arith
        one (some kind) = omega (arith, by_kind (network_of f) 1000000 a.costs kind c rows)

    place_at : (c : ℕ) → c < (sizes_of f).k → held_of (criterion_of f c rows) ≡ get_or (cost_of (network_of f) rows) c 0
    place_at c h = omega (arith, cost_most c, cost_at_lem c h)

    pub vector_costs : take (sizes_of f).k (vector_of f rows) ≡ cost_of (network_of f) rows
    unfolding vector_of
    vector_costs =
        let k = (sizes_of f).k in
        let place : ℕ → ℕ = λ c. held_of (criterion_of f c rows) in
        let four = map place (range 0 4) in
        let long : length (take k four) ≡ k = length-take-le k four (omega (arith, a.criteria_high, length-map (range 0 4) place, range_length 0 4)) in
        ext_get_or 0 (take k four) (cost_of (network_of f) rows) (long ∙ sym (cost_length (network_of f) rows ∙ a.kinds))
        (λ c h. get_or-take k four c 0 (omega (arith, long)) ∙ get_or_map_range place 4 c 0 (omega (arith, long, a.criteria_high)) ∙ place_at c (omega (arith, long)))
