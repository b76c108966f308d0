-- The lent tables between passes (`Standing`): the first n rows of the front stand in them (`standing_start`, `standing_known`), a pass adds rows (`pass_more`),
-- and at the end they are what Front answers with (`pass_cut`, `pass_whole`).
use mathlib.Core.Path.{◌∙◌, ◌≡◌, ap, refl, sym}
use mathlib.Core.Bool.{false, true}
use mathlib.Core.List.{List}
use Prim.Native.Nat.{◌*◌, ◌+◌, ◌-◌, ◌<◌, ◌≤◌, min, ℕ}
use native.Mathlib.Nat.{add-mul, mul-le-mul_right}
use native.Mathlib.Omega.{arith}
use lib.ListN.{length, take}
use lib.Seq.{paste, take_all}
use borrow.Author.Tests.{le-leb, lt-leb}
use Rattle.checks.specs.Checks.{answered}
use Rattle.graph.proofs.Parts.{part_length}
use Rattle.costs.specs.Costs.{front, front_trees, vectors}
use Rattle.costs.proofs.FrontTrees.{front_listed, front_trees_length}
use Rattle.costs.proofs.Fronts.{Sized, front_out}
use Rattle.costs.proofs.Networks.{vectors_sized}
use Rattle.chart.specs.Chart.{width_in}
use Rattle.network_file.specs.File.{network_of, sizes_of}
use Rattle.operations.specs.Operations.{layouts_in, over}
use Rattle.operations.proofs.Files.{layouts_in_lem, node_count_lem}
use Rattle.operations.proofs.Over.{over_rows}
use Rattle.pages.specs.Pages.{flat}
use Rattle.passes.proofs.Written.{over_length, over_more}
use Rattle.copies.specs.Copies.{copied}
use Rattle.copies.proofs.Copies.{copied_all}
use Rattle.scratch.specs.declared.Scratch.{Scratch}
use Rattle.fronted.specs.Filled.{Filled, Holding}
use Rattle.walked.specs.Passes.{KnownRows, Laid, Passed, scratch_rows}

-- fewer rows are held too
pub holds_fewer : {rows k width : ℕ} {costs witnesses : List ℕ} (m : ℕ) → Holding rows k width costs witnesses → m ≤ rows → Holding m k width costs witnesses
holds_fewer {rows} {k} {width} m h less = record {
  costs_fit = omega (arith, h.costs_fit, mul-le-mul_right k less);
  trees_fit = omega (arith, h.trees_fit, mul-le-mul_right width less);
}

-- the front of a file, and the trees that stand for it
abbrev front_in : List ℕ → List (List ℕ)
front_in f = front (network_of f)

abbrev trees_in : List ℕ → List (List ℕ)
trees_in f = front_trees (network_of f) (layouts_in f)

trees_few : (f : List ℕ) → length (trees_in f) ≡ length (front_in f)
trees_few f = front_trees_length (network_of f) (layouts_in f)

pub record Standing (f : List ℕ) (capacity : ℕ) (costs₀ witnesses₀ : List ℕ) (n : ℕ) (costs witnesses : List ℕ) : Type 0 where
  pub few : n ≤ length (front_in f)
  pub fits : n ≤ capacity
  pub costs_are : costs ≡ over (flat (take n (front_in f))) costs₀
  pub witnesses_are : witnesses ≡ over (flat (take n (trees_in f))) witnesses₀

module _ {f c : List ℕ} (l : Laid f c) {capacity : ℕ} {costs₀ witnesses₀ : List ℕ} (lent : Holding capacity (sizes_of f).k (width_in c) costs₀ witnesses₀) where
  abbrev k : ℕ
  k = (sizes_of f).k

  abbrev width : ℕ
  width = width_in c

  vectors_long : Sized k (front_in f)
  vectors_long v m = vectors_sized (network_of f) (layouts_in f) v (front_out (vectors (network_of f)) m).0 ∙ l.lists.file.kinds

  trees_long : Sized width (trees_in f)
  trees_long p m = omega (arith, part_length (layouts_in_lem f l.lists.file) p (front_listed (network_of f) (layouts_in f) p m), node_count_lem f, l.width)

  -- the scratch table has room for one row more than it keeps
  pub scratch_holds : {vs ts : List ℕ} → length vs ≡ 260 → length ts ≡ 2015 → Holding (scratch_rows + 1) (sizes_of f).k (width_in c) vs ts
  scratch_holds e f = record {
    costs_fit = omega (arith, l.lists.file.criteria_high);
    trees_fit = omega (arith, l.lists.file.nodes_high, l.width);
  }

  pub standing_start : Standing f capacity costs₀ witnesses₀ 0 costs₀ witnesses₀
  unfolding flat
  standing_start = record { few = omega arith; fits = omega arith; costs_are = refl; witnesses_are = refl }

  module _ {n : ℕ} {costs witnesses : List ℕ} (st : Standing f capacity costs₀ witnesses₀ n costs witnesses) where
    known_fits : (w : ℕ) → n * w ≤ capacity * w
    known_fits w = mul-le-mul_right w st.fits

    pub standing_long : (length costs ≡ length costs₀) × (length witnesses ≡ length witnesses₀)
    standing_long = (
      ap length st.costs_are ∙ over_length k (front_in f) vectors_long n st.few costs₀ (omega (arith, lent.costs_fit, known_fits k)),
      ap length st.witnesses_are ∙ over_length width (trees_in f) trees_long n (omega (arith, st.few, trees_few f)) witnesses₀ (omega (arith, lent.trees_fit, known_fits width)),
    )

    -- rows more fit
    pub standing_fits : (m : ℕ) → n + m ≤ capacity → Holding (n + m) (sizes_of f).k (width_in c) costs witnesses
    standing_fits m h = record {
      costs_fit = omega (arith, standing_long.0, lent.costs_fit, mul-le-mul_right k h);
      trees_fit = omega (arith, standing_long.1, lent.trees_fit, mul-le-mul_right width h);
    }

    pub standing_known : KnownRows f n costs
    standing_known = record {
      few = st.few;
      fits = omega (arith, standing_long.0, lent.costs_fit, known_fits k);
      vectors = rw st.costs_are (over_rows k n (front_in f) costs₀ vectors_long st.few);
    }

    -- a pass: those of its rows that fit, by the numbers that the code has read
    module _ {s : Scratch} {vs ts : List ℕ} (p : Passed f c n s vs ts) {fit : ℕ} (least : fit ≡ min (capacity - n) s.count)
        {criteria rows : ℕ} (criteria_read : criteria ≡ (sizes_of f).k) (rows_read : rows ≡ width_in c) where
      pub into_fit : Holding (n + fit) criteria rows costs witnesses
      into_fit = rw (criteria_read, rows_read) (standing_fits fit (omega (arith, st.fits)))

      pub from_fit : length vs ≡ 260 → length ts ≡ 2015 → Holding fit criteria rows vs ts
      from_fit vectors_held trees_held = rw (criteria_read, rows_read) (holds_fewer fit (scratch_holds vectors_held trees_held) (omega (arith, p.few)))

      -- and they are written
      module _ (from : Holding fit criteria rows vs ts) {costs' witnesses' : List ℕ}
          (new_costs : costs' ≡ copied costs (n * criteria) vs (fit * criteria)) (new_witnesses : witnesses' ≡ copied witnesses (n * rows) ts (fit * rows)) where
        costs_pasted : costs' ≡ paste costs (n * k) vs (fit * k)
        costs_pasted = new_costs ∙ copied_all _ _ _ _ (rw add-mul at into_fit.costs_fit) from.costs_fit ∙ (rw criteria_read)

        witnesses_pasted : witnesses' ≡ paste witnesses (n * width) ts (fit * width)
        witnesses_pasted = new_witnesses ∙ copied_all _ _ _ _ (rw add-mul at into_fit.trees_fit) from.trees_fit ∙ (rw rows_read)

        pub pass_more : Standing f capacity costs₀ witnesses₀ (n + fit) costs' witnesses'
        pass_more = record {
          few = omega (arith, p.within);
          fits = omega (arith, st.fits);
          costs_are = costs_pasted ∙ (rw st.costs_are (over_more k (front_in f) vectors_long n st.few costs₀ fit s.count vs (omega arith) p.within p.vectors));
          witnesses_are = witnesses_pasted ∙ (rw st.witnesses_are
              (over_more width (trees_in f) trees_long n (omega (arith, st.few, trees_few f)) witnesses₀ fit s.count ts (omega arith)
              (omega (arith, p.within, trees_few f)) p.trees));
        }

-- BEHIND A PASS of whose rows those that fit are written
module _ {f c : List ℕ} {capacity n : ℕ} {s : Scratch} {vs ts : List ℕ} (p : Passed f c n s vs ts) (fits : n ≤ capacity) {fit : ℕ} (least : fit ≡ min (capacity - n) s.count) where
  -- a row was dropped: the next pass starts from more rows
  pub pass_less : s.count ≤ capacity - n → s.bounded ≡ true → capacity - (n + fit) < capacity - n
  pass_less all_fit e = omega (arith, p.some_more e)

  module _ {costs₀ witnesses₀ costs' witnesses' : List ℕ} (more : Standing f capacity costs₀ witnesses₀ (n + fit) costs' witnesses') where
    -- more rows than fit: the first of them are all that fit
    pub pass_cut : capacity - n < s.count → Filled f capacity costs₀ witnesses₀ (answered (record { count = capacity; whole = false })) costs' witnesses'
    pass_cut over =
        let full : n + fit ≡ capacity = omega arith in
        let long : capacity < length (front_in f) = omega (arith, p.within) in
        let count : min (length (front_in f)) capacity ≡ capacity = omega arith in
        record { answer = rw (count, lt-leb _ _ long); costs_are = rw full at more.costs_are; witnesses_are = rw full at more.witnesses_are }

    -- no row was dropped: all rows
    pub pass_whole : s.count ≤ capacity - n → s.bounded ≡ false
        → Filled f capacity costs₀ witnesses₀ (answered (record { count = n + fit; whole = true })) costs' witnesses'
    pass_whole all_fit e =
        let end : n + fit ≡ length (front_in f) = omega (arith, p.all e) in
        let short : length (front_in f) ≤ capacity = omega (arith, more.fits) in
        let count : min (length (front_in f)) capacity ≡ n + fit = omega arith in
        let all : take (n + fit) (front_in f) ≡ take capacity (front_in f) = take_all (n + fit) (front_in f) (omega arith) ∙ sym (take_all capacity (front_in f) short) in
        let all_trees : take (n + fit) (trees_in f) ≡ take capacity (trees_in f) =
        take_all (n + fit) _ (omega (arith, trees_few f)) ∙ sym (take_all capacity _ (omega (arith, trees_few f))) in
        record { answer = rw (count, le-leb _ _ short); costs_are = more.costs_are ∙ (rw all); witnesses_are = more.witnesses_are ∙ (rw all_trees) }
