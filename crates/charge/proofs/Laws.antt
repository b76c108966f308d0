-- Laws of the connection charge: the test of a criterion (`added_known`), a charge more in the buffer (`charges_next`), and
-- the call's end by the answer of `drawn`, the buffer's length and the criterion.
use mathlib.Core.Path.{◌∙◌, ◌≡◌, ap, refl, sym}
use mathlib.Core.Bool.{Bool, false, true}
use mathlib.Core.Option.{none, some}
use mathlib.Core.List.{List, []}
use Prim.Native.Nat.{◌+◌, ◌-◌, ◌/◌, ◌<◌, ◌≤◌, ℕ}
use native.Mathlib.Decide.{dec_lt}
use native.Mathlib.Nat.{div-le_self}
use native.Mathlib.Omega.{arith}
use lib.Dec.{eqb, leb}
use lib.ListN.{length, set, take}
use borrow.Author.Tests.{le-ltb, lt-ltb}
use Rattle.lists.specs.Lists.{pick}
use Rattle.lists.proofs.Ascending.{at_past}
use Rattle.checks.specs.Checks.{answered, first_unmet, refused}
use Rattle.checks.proofs.Checks.{first_unmet_met, first_unmet_unmet}
use Rattle.costs.specs.Costs.{added_cost}
use Rattle.costs.specs.Network.{added, closing, worst}
use Rattle.bounds.proofs.Limits.{added_most}
use Rattle.network_file.specs.File.{Sizes, byte_at, kind_of, network_of, sizes_of}
use Rattle.network_file.proofs.Accepted.{Accepted}
use Rattle.operations.specs.Operations.{check, over}
use Rattle.operations.proofs.Costs.{path_cost}
use Rattle.operations.proofs.Over.{over_next}
use Rattle.charges.specs.Charges.{Charge, added_at, borne_by, charge_call, charge_checks, charge_of, charged_nodes, charges_by, is_added}
use Rattle.charges.proofs.Charges.{charge_at, charges_length}
use Rattle.vector.proofs.Vectors.{rows_few}
use Rattle.paths.specs.Path.{rows_in}
use Rattle.paths.specs.declared.Path.{Path}
use Rattle.drawn.specs.Answers.{drawn_call}
use Rattle.drawn.proofs.Answers.{Passed, answered_by, call_met, call_refused, call_short, call_stops}
use Rattle.tried.specs.Answers.{steps_in}
use Rattle.charge.specs.Answers.{added_byte}

-- The criterion

-- of an accepted file the byte says the network's kind
added_known : (f : List ℕ) → Accepted f → (c : ℕ) → added_byte f c ≡ added_at (network_of f) c
unfolding kind_of
added_known f a c = elim (dec_lt c (sizes_of f).k) [
  | yes h ↦ simp (lt-ltb c (sizes_of f).k h) (sym (ap is_added (a.named c h) ∙ by_byte (eqb b 0) (eqb b 1) (eqb b 2)))
  | no h ↦ simp (le-ltb c (sizes_of f).k (omega arith)) (sym (ap is_added (at_past (network_of f).kinds c (omega (arith, a.kinds)))))
]
  where
    b : ℕ
    b = byte_at f (9 + c)

    by_byte : (x y z : Bool) → is_added (pick x (some added) (pick y (some worst) (pick z (some closing) none))) ≡ x
    by_byte true y z = refl
    by_byte false true z = refl
    by_byte false false true = refl
    by_byte false false false = refl

-- The charges

-- the first i are written, and then x, that of the next node
pub charges_next : (c : Charge) (nodes : ℕ) (buffer : List ℕ) (i node x : ℕ) → i < nodes → i < length buffer → node ≡ i + 2 → x ≡ borne_by c node
    → set (over (take i (charges_by c nodes)) buffer) i x ≡ over (take (i + 1) (charges_by c nodes)) buffer
charges_next c nodes buffer i node x h room is e =
    ap (set (over (take i (charges_by c nodes)) buffer) i) (e ∙ ap (borne_by c) is ∙ sym (charge_at c nodes i h))
    ∙ over_next (charges_by c nodes) buffer i (omega (arith, charges_length c nodes)) room

module _ (f rows : List ℕ) (criterion : ℕ) (buffer : List ℕ) where
  pub charge_refused : (e : ℕ) → refused e ≡ drawn_call f rows → record { outcome = refused e; buffers = buffer } ≡ charge_call f rows criterion buffer
  unfolding charge_call charge_checks
  charge_refused e told = sym (call_refused f rows _ _ _ buffer _ e told)

-- Once `drawn` has answered with the path p

module _ (f rows : List ℕ) (p : Path) (told : answered (steps_in p) ≡ drawn_call f rows) where
  abbrev path : List ℕ
  path = rows_in p

  passed : Passed f rows path
  passed = answered_by f rows p told

  -- no total is above 31,000,000
  pub total_small : (criterion : ℕ) {total : ℕ} → total ≡ added_cost (network_of f) criterion path → total ≤ 31000000
  total_small criterion e = omega (arith, e, rows_few p, added_most (network_of f) 1000000 passed.file.costs criterion path)

  -- and the file's sizes are read
  module _ {s : Sizes} (sizes : s ≡ sizes_of f) where
    pub nodes_low : 2 ≤ s.n
    nodes_low = omega (arith, ap (λ (s : Sizes). s.n) sizes, passed.file.nodes_low)

    module _ (criterion : ℕ) (buffer : List ℕ) where
      pub charge_short : leb (s.n - 1) (length buffer) ≡ false → record { outcome = refused 11; buffers = buffer } ≡ charge_call f rows criterion buffer
      unfolding charge_call charge_checks
      charge_short e = sym (call_short f rows _ _ _ buffer _ p told (rw sizes at e))

      -- with room the criterion decides
      module _ (room : leb (s.n - 1) (length buffer) ≡ true) where
        fits : leb (charged_nodes f) (length buffer) ≡ true
        fits = rw sizes at room

        pub charge_strange : added_byte f criterion ≡ false → record { outcome = refused 22; buffers = buffer } ≡ charge_call f rows criterion buffer
        unfolding charge_call charge_checks
        charge_strange e =
            sym (call_stops f rows _ _ _ buffer _ p told fits 22
            (first_unmet_unmet (check 22 (added_at (network_of f) criterion)) [] (sym (added_known f passed.file criterion) ∙ e)))

        -- the total is over the path's rows
        pub charge_split : {total : ℕ} → total ≡ added_cost (network_of f) criterion path → added_byte f criterion ≡ true
            → let charge = charge_of total (s.n - 1) in
            record { outcome = answered charge; buffers = over (charges_by charge (s.n - 1)) buffer } ≡ charge_call f rows criterion buffer
        unfolding charge_call charge_checks first_unmet
        charge_split {total} read e =
            let same : total ≡ added_cost (network_of f) criterion rows = read ∙ path_cost f passed.file rows path passed.tree passed.path added criterion in
            rw (sizes, same)
            (sym (call_met f rows _ _ _ buffer _ p told fits
            (first_unmet_met (check 22 (added_at (network_of f) criterion)) [] (sym (added_known f passed.file criterion) ∙ e))))

-- and one more than a quotient of it fits 32 bits
pub quotient_small : (total nodes : ℕ) → total ≤ 31000000 → total / nodes < 4294967295
quotient_small total nodes h = omega (arith, div-le_self total nodes)
