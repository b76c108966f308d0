-- Laws for the code: the marks of one row more, one turn of the loop that enters the rows, and the states row by row.
use mathlib.Core.Path.{◌∙◌, ◌≡◌, ap, refl, sym}
use mathlib.Core.Logic.{⊎_elim}
use mathlib.Core.Bool.{Bool, false, true}
use mathlib.Core.List.{List, [], ◌++◌, ◌∷◌}
use Prim.Native.Nat.{◌+◌, ◌-◌, ◌<◌, ◌≤◌, suc, ℕ}
use native.Mathlib.Decide.{ℕ_discrete}
use native.Mathlib.Numerals.{add-one}
use native.Mathlib.Omega.{arith}
use lib.ListN.{get_or, length, length-map, length-set, replicate, set, take}
use lib.Seq.{ext_get_or, get_or-set_other, get_or-set_same, take-suc}
use Rattle.lists.specs.Lists.{all, any, member, range}
use Rattle.lists.proofs.Members.{member_in, member_out, snoc_new, snoc_old, snoc_out}
use Rattle.lists.proofs.Ranges.{all_range_start, get_or_map_range, range_length}
use Rattle.lists.proofs.Tests.{T-same, T_true}
use Rattle.costs.specs.Network.{Row, no_row}
use Rattle.fields.specs.Fields.{row_with}
use Rattle.fields.specs.declared.Row as code
use Rattle.chart.specs.Chart.{begun_by, count_in, entered_by, entered_down, limit_in, nodes_in, plant_in, rows_in, width_in}
use Rattle.tried.specs.Only.{marks_of, only_on, only_row, only_rows}
use Rattle.tried.specs.Tried.{keeps, kept_by}

-- the marks of no row, and of one row more

pub marks_length : (rows : List ℕ) → length (marks_of rows) ≡ 256
unfolding marks_of
marks_length rows = length-map (range 0 256) _ ∙ range_length 0 256

pub marks_at : (rows : List ℕ) (r : ℕ) → r < 256 → get_or (marks_of rows) r false ≡ member r rows
unfolding marks_of
marks_at rows r h = get_or_map_range (λ r. member r rows) 256 r false h

pub marks_start : replicate 256 false ≡ marks_of []
unfolding marks_of member any range
marks_start = refl

member_other : (j r : ℕ) (l : List ℕ) → ¬ (j ≡ r) → member j l ≡ member j (l ++ (r ∷ []))
member_other j r l n = T-same (member j l) (member j (l ++ (r ∷ []))) (λ t. member_in (snoc_old r (member_out j l t)))
    (λ t. ⊎_elim (λ m. member_in m) (λ e. absurd (n e)) (snoc_out l (member_out j (l ++ (r ∷ [])) t)))

module _ (l : List ℕ) (r : ℕ) where
  marks_other : (j : ℕ) → j < 256 → ¬ (j ≡ r) → get_or (marks_of l) j false ≡ get_or (marks_of (l ++ (r ∷ []))) j false
  marks_other j h n = marks_at l j h ∙ member_other j r l n ∙ sym (marks_at (l ++ (r ∷ [])) j h)

  marks_more : r < 256 → set (marks_of l) r true ≡ marks_of (l ++ (r ∷ []))
  marks_more h = ext_get_or false _ _ (simp (length-set, marks_length)) (λ j k.
      let low : j < 256 = omega (arith, length-set (marks_of l) r true, marks_length l) in
      elim (ℕ_discrete j r) [
        | yes e ↦ rw e (get_or-set_same (marks_of l) r true false (omega (arith, marks_length l))
            ∙ sym (marks_at (l ++ (r ∷ [])) r h ∙ (T_true (member r (l ++ (r ∷ [])))).0 (member_in (snoc_new l r))))
        | no n ↦ get_or-set_other (marks_of l) r j true false n ∙ marks_other j low n
      ])

  marks_past : 256 ≤ r → marks_of l ≡ marks_of (l ++ (r ∷ []))
  marks_past h = ext_get_or false _ _ (simp marks_length) (λ j k. marks_other j (omega (arith, marks_length l)) (λ e. omega (arith, marks_length l)))

module _ (rows : List ℕ) (i : ℕ) (h : i < length rows) where
  next : take i rows ++ (get_or rows i 0 ∷ []) ≡ take (i + 1) rows
  next = rw add-one (sym (take-suc rows i 0 h))

  pub marks_next : get_or rows i 0 < 256 → set (marks_of (take i rows)) (get_or rows i 0) true ≡ marks_of (take (i + 1) rows)
  marks_next low = marks_more (take i rows) (get_or rows i 0) low ∙ ap marks_of next

  pub marks_skip : 256 ≤ get_or rows i 0 → marks_of (take i rows) ≡ marks_of (take (i + 1) rows)
  marks_skip high = marks_past (take i rows) (get_or rows i 0) high ∙ ap marks_of next

-- the drawn rows, entered from the last down

module _ (c : List ℕ) (drawn : List Bool) where
  pub only_length : length (only_rows c drawn) ≡ count_in c
  unfolding only_rows
  only_length = length-map (range 0 (count_in c)) _ ∙ range_length 0 (count_in c)

  pub only_at : (r : ℕ) → r < count_in c → get_or (only_rows c drawn) r no_row ≡ only_row (get_or (rows_in c) r no_row) (get_or drawn r false)
  unfolding only_rows
  only_at r h = get_or_map_range (λ r. only_row (get_or (rows_in c) r no_row) (get_or drawn r false)) (count_in c) r no_row h

  pub only_start : (d e : List ℕ) (limit plant nodes width count : ℕ) → limit ≡ limit_in c → plant ≡ plant_in c → nodes ≡ nodes_in c → width ≡ width_in c → count ≡ count_in c
      → e ≡ begun_by d limit plant nodes width count → only_on c drawn d ≡ entered_down (only_rows c drawn) count e
  unfolding only_on
  only_start d e limit plant nodes width count l p n w m begun = rw (begun, m, w, n, p, l)

  pub only_turn : (d : List ℕ) (r : ℕ) (row : code.Row) → 0 < r → r ≤ count_in c
      → row_with row [] ≡ only_row (get_or (rows_in c) (r - 1) no_row) (get_or drawn (r - 1) false)
      → entered_down (only_rows c drawn) r d ≡ entered_down (only_rows c drawn) (r - 1) (entered_by d (r - 1) (row_with row []))
  unfolding entered_down entered_by
  only_turn d r row p q read =
      let up : r ≡ suc (r - 1) = omega arith in
      ap (λ (k : ℕ). entered_down (only_rows c drawn) k d) up
      ∙ ap (λ (x : Row). entered_down (only_rows c drawn) (r - 1) (entered_by d (r - 1) x)) (only_at (r - 1) (omega arith) ∙ sym read)

-- row r keeps its state
unfoldable pub kept_at : List ℕ → List Bool → ℕ → Bool
kept_at c drawn r = keeps (get_or (rows_in c) r no_row).state (get_or drawn r false)

pub kept_start : (c : List ℕ) (drawn : List Bool) (count : ℕ) → count ≡ count_in c → kept_by c drawn ≡ all (kept_at c drawn) (range 0 (count - 0))
unfolding kept_by kept_at
kept_start c drawn count e = ap (λ (m : ℕ). all (kept_at c drawn) (range 0 m)) (sym e) ∙ all_range_start (kept_at c drawn) count
