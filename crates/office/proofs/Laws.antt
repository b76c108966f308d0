-- Laws of an entry: a table's rows by division (`rows_exact`, `rows_other`), what check 11 says (`fit_says`), and
-- the call's end by the answer of `drawn` and check 11.
use mathlib.Core.Path.{◌∙◌, ◌≡◌, ap, ap₂, sym}
use mathlib.Core.Logic.{⊎_elim}
use mathlib.Core.Bool.{Bool, false, true}
use mathlib.Core.List.{List}
use Prim.Native.Nat.{◌%◌, ◌*◌, ◌+◌, ◌/◌, ◌<◌, ◌≤◌, pred, ℕ}
use native.Mathlib.Decide.{ℕ_discrete}
use native.Mathlib.Nat.{div-add-mod, mul_assoc, mul_comm, mul-div_cancel}
use native.Mathlib.Omega.{arith}
use lib.Dec.{T, eqb, eqb→eq}
use lib.ListN.{length, take}
use borrow.Author.Tests.{eq-eqb, ne_eqb}
use Rattle.lists.specs.Lists.{either}
use Rattle.lists.proofs.Tests.{T-either, T_true}
use Rattle.checks.specs.Checks.{answered, refused}
use Rattle.graph.specs.Graph.{width}
use Rattle.table.specs.Enter.{Row}
use Rattle.network_file.specs.File.{Sizes, network_of, sizes_of}
use Rattle.operations.specs.Operations.{FrontTables, graph_in}
use Rattle.operations.proofs.Files.{node_count_lem}
use Rattle.offices.specs.Offices.{Counts, half_of, office_call, office_checks, tables_fit}
use Rattle.offices.proofs.Calls.{Good, entry_is, fits_out}
use Rattle.paths.specs.Path.{rows_in}
use Rattle.paths.specs.declared.Path.{Path}
use Rattle.vector.specs.Vector.{vector_of}
use Rattle.drawn.specs.Answers.{drawn_call}
use Rattle.drawn.proofs.Answers.{Passed, answered_by, call_refused, call_rest, call_short}
use Rattle.tried.specs.Answers.{steps_in}
use Rattle.cost.proofs.Laws.{part_costs, part_length}
use Rattle.office.specs.Answers.{note_call}
use Rattle.office.proofs.Halves.{half_noted, rest_of}

-- Whether a table has exactly 2 × h rows

module _ (places width h : ℕ) where
  turned : 2 * width * h ≡ 2 * (h * width)
  turned = mul_assoc 2 width h ∙ ap (λ (n : ℕ). 2 * n) (mul_comm width h)

  pub rows_exact : places / (2 * width) ≡ h → eqb (places % (2 * width)) 0 ≡ eqb places (2 * (h * width))
  rows_exact e =
      let whole : 2 * width * h + places % (2 * width) ≡ places = ap (λ (q : ℕ). 2 * width * q + places % (2 * width)) (sym e) ∙ div-add-mod places (2 * width) in
      elim (ℕ_discrete (places % (2 * width)) 0) [
        | yes z ↦ eq-eqb _ _ z ∙ sym (eq-eqb places (2 * (h * width)) (omega (arith, whole, turned)))
        | no n ↦ ne_eqb _ _ n ∙ sym (ne_eqb _ _ (λ (q : places ≡ 2 * (h * width)). n (omega (arith, whole, turned))))
      ]

  pub rows_other : 0 < width → ¬ (places / (2 * width) ≡ h) → eqb (places / (2 * width)) h ≡ eqb places (2 * (h * width))
  rows_other some n = ne_eqb _ _ n ∙ sym (ne_eqb _ _ (λ (q : places ≡ 2 * (h * width)). n
      (ap (λ (p : ℕ). p / (2 * width)) (q ∙ sym turned ∙ mul_comm (2 * width) h) ∙ mul-div_cancel h {n = 2 * width} (omega arith))))

-- Check 11

module _ (k w office h : ℕ) (counts : Counts) (lent : FrontTables) where
  abbrev fits : Bool
  fits = tables_fit k w office h counts lent

  -- what it says of the office
  office_known : T (either (eqb office 1) (eqb office 2)) → (0 < office) × (office ≤ 2)
  office_known t = ⊎_elim (λ s. let e = eqb→eq office 1 s in (omega arith, omega arith)) (λ s. let e = eqb→eq office 2 s in (omega arith, omega arith)) ((T-either (eqb office 1) (eqb office 2)).0 t)

  pub fit_says : T fits → (0 < office) × (office ≤ 2) × (0 < h) × Good k w h counts lent
  fit_says t = let (o, pos, g) = fits_out k w h office counts lent t in ((office_known o).0, (office_known o).1, pos, g)

module _ (f drawn : List ℕ) (office h : ℕ) (counts : Counts) (lent : FrontTables) where
  pub office_refused : (e : ℕ) → refused e ≡ drawn_call f drawn → record { outcome = refused e; buffers = lent } ≡ office_call f drawn office h counts lent
  unfolding office_call office_checks
  office_refused e told = sym (call_refused f drawn _ _ _ lent _ e told)

-- Once `drawn` has answered with the path p, and the file's sizes are read

module _ (f drawn : List ℕ) (p : Path) (told : answered (steps_in p) ≡ drawn_call f drawn) {s : Sizes} (sizes : s ≡ sizes_of f) where
  passed : Passed f drawn (rows_in p)
  passed = answered_by f drawn p told

  pub sizes_are : (0 < s.k) × (s.k ≤ 31) × (0 < length drawn) × (length drawn ≤ 31)
  sizes_are =
      let a = passed.file in
      let k = ap (λ (s : Sizes). s.k) sizes in
      let wide : length drawn ≡ pred (length (graph_in f).nodes) = passed.size in
      let nodes = node_count_lem f in
      (omega (arith, k, a.criteria_low), omega (arith, k, a.criteria_high), omega (arith, nodes, wide, a.nodes_low), omega (arith, nodes, wide, a.nodes_high))

  path_long : length (rows_in p) ≡ length drawn
  path_long = passed.long ∙ sym passed.size

  module _ (office h : ℕ) (counts : Counts) (lent : FrontTables) where
    -- the tables are asked by the file's own sizes
    fit_is : tables_fit s.k (length drawn) office h counts lent ≡ tables_fit (sizes_of f).k (width (graph_in f)) office h counts lent
    fit_is = rw (sizes, passed.size)

    pub office_unfit : tables_fit s.k (length drawn) office h counts lent ≡ false → record { outcome = refused 11; buffers = lent } ≡ office_call f drawn office h counts lent
    unfolding office_call office_checks
    office_unfit e = sym (call_short f drawn _ _ _ lent _ p told (sym fit_is ∙ e))

    -- the first k places of the path's vector v, and its rows, are what is entered
    module _ {v : List ℕ} (read : v ≡ vector_of f (rows_in p)) (fit : tables_fit s.k (length drawn) office h counts lent ≡ true) where
      abbrev entry : Row
      entry = record { vector = take s.k v; path = rows_in p }

      pub office_noted : note_call office counts lent entry ≡ office_call f drawn office h counts lent
      unfolding office_call office_checks
      office_noted =
          let (k_low, _, w_low, _) = sizes_are in
          let long = part_length f drawn p told sizes read in
          let wide = path_long in
          let (_, _, _, good) = fit_says s.k (length drawn) office h counts lent ((T_true (tables_fit s.k (length drawn) office h counts lent)).1 fit) in
          half_noted h counts lent (take s.k v) (rows_in p) (omega (arith, long)) (omega (arith, wide)) (rw (← long, wide) good) office
          ∙ ap₂ (λ (k w : ℕ). rest_of h (half_of office) counts lent k w entry) (sym long ∙ ap (λ (s : Sizes). s.k) sizes) passed.long
          ∙ ap (rest_of h (half_of office) counts lent (sizes_of f).k (width (graph_in f))) (sym (entry_is (network_of f) drawn (sym (part_costs f drawn p told sizes read)) passed.path))
          ∙ sym (call_rest f drawn _ _ _ lent _ p told (sym fit_is ∙ fit))
