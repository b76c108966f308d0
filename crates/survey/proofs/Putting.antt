-- The rows of a file by the sizes as they were read: there are as many (`row_there`, `rows_few`), each with as many costs (`row_wide`). A row put into a buffer
-- (`row_put`), and what stands before the rows (`head_put`), with the bounds of its numbers (`head_few`).
use mathlib.Core.Path.{◌∙◌, ◌≡◌, ap, ap₂, refl, subst, sym}
use mathlib.Core.Option.{none}
use mathlib.Core.List.{List, [], ◌++◌, ◌∷◌}
use Prim.Native.Nat.{◌%◌, ◌*◌, ◌+◌, ◌-◌, ◌/◌, ◌<◌, ◌≤◌, ℕ}
use native.Mathlib.Nat.{mul-le-mul}
use native.Mathlib.Omega.{arith}
use lib.ListN.{drop, get_or, length, take}
use Rattle.std.specs.Int.{to_be_bytes}
use Rattle.std.proofs.Common.{w16}
use Rattle.lists.specs.Lists.{concat_map}
use Rattle.checks.specs.Checks.{first_unmet}
use Rattle.costs.specs.Network.{Row, row_at}
use Rattle.fields.specs.Fields.{row_with, state_in}
use Rattle.fields.specs.declared.Row as code
use Rattle.network_file.specs.Bytes.{bytes_of_row, state_number, u16_bytes, u32_bytes}
use Rattle.network_file.specs.File.{Sizes, file_checks, network_of, sizes_of}
use Rattle.network_file.proofs.Accepted.{accepted, row_costs, row_in_lem, rows_length}
use Rattle.network_file.proofs.KindBytes.{kinds_numbered, kinds_stand}
use Rattle.printout.specs.Text.{filled, put}
use Rattle.printout.proofs.Laws.{behind}
use Rattle.survey.specs.Head.{follow_bytes, head_bytes}

module _ (f : List ℕ) (s : Sizes) (are : s ≡ sizes_of f) where
  pub rows_are : length (network_of f).rows ≡ s.m
  rows_are = rows_length f ∙ ap {B = ℕ} (λ z. z.m) (sym are)

  pub row_there : (r : ℕ) → r < s.m → r < length (network_of f).rows
  row_there r h = omega (arith, rows_are)

  pub rows_few : length (network_of f).rows ≤ s.m
  rows_few = omega (arith, rows_are)

  pub row_wide : (r : ℕ) → r < s.m → s.k ≡ length (row_at (network_of f) r).costs
  row_wide r h =
      let there : r < (sizes_of f).m = subst (λ (z : Sizes). r < z.m) are h in
      ap {B = ℕ} (λ z. z.k) are ∙ sym (ap {B = ℕ} (λ x. length x.costs) (row_in_lem f r there) ∙ row_costs f r)

-- a number of two bytes, as the library writes it
pub two_bytes : (x : ℕ) {written : List ℕ} → x < 65536 → written ≡ to_be_bytes w16 x → (get_or written 0 0 ≡ x / 256) × (get_or written 1 0 ≡ x % 256)
two_bytes x small is = rw is (omega arith, refl)

-- the bytes before the costs, of a row as it was read, and then its costs
pub row_put : (row : Row) (lead : code.Row) → row_with lead row.costs ≡ row → (state : ℕ) → state ≡ state_number (state_in lead.state)
    → (out : List ℕ) (at : ℕ) {between after : List ℕ} {place end : ℕ}
    → filled between place ≡ put out at (lead.first ∷ lead.second ∷ lead.street / 256 ∷ lead.street % 256 ∷ state ∷ [])
    → filled after end ≡ put between place (concat_map u32_bytes row.costs) → filled after end ≡ put out at (bytes_of_row 2 row)
row_put row lead read state stated out at first costs =
    let before : ℕ → List ℕ = λ b. lead.first ∷ lead.second ∷ lead.street / 256 ∷ lead.street % 256 ∷ b ∷ [] in
    behind out at (before state) (concat_map u32_bytes row.costs) first costs
    ∙ ap (λ (b : ℕ). put out at (before b ++ concat_map u32_bytes row.costs)) stated
    ∙ ap (λ (x : Row). put out at (bytes_of_row 2 x)) read

-- what stands before m rows, by a file's sizes and the bytes of its kinds
abbrev sized : Sizes → ℕ → List ℕ → List ℕ
sized s m kinds = 2 ∷ (u32_bytes (follow_bytes s.k m) ++ (s.n ∷ (u16_bytes m ++ (s.k ∷ kinds))))

module _ (f : List ℕ) (s : Sizes) (met : first_unmet (file_checks f) ≡ none) (are : s ≡ sizes_of f) where
  -- the file has its kinds, and with at most 256 rows the length is small
  pub head_few : (m : ℕ) → m ≤ 256 → (s.k ≤ 4) × (9 + s.k ≤ length f) × (m * (5 + 4 * s.k) ≤ 5376)
  head_few m few =
      let a = accepted f met in
      let same : s.k ≡ (sizes_of f).k = ap {B = ℕ} (λ z. z.k) are in
      let narrow : s.k ≤ 4 = omega (arith, a.criteria_high) in
      let wide : 5 + 4 * s.k ≤ 21 = omega arith in
      (narrow, omega (arith, a.long), omega (arith, mul-le-mul few wide))

  head_made : (m : ℕ) → sized s m (take (9 + s.k - 9) (drop 9 f)) ≡ head_bytes (network_of f) m
  unfolding head_bytes network_of
  head_made m =
      let a = accepted f met in
      let kinds = kinds_numbered f met ∙ kinds_stand f (omega (arith, a.long)) in
      let cut : 9 + (sizes_of f).k - 9 ≡ (sizes_of f).k = omega arith in
      ap (λ (z : Sizes). sized z m (take (9 + z.k - 9) (drop 9 f))) are
      ∙ ap (λ (k : ℕ). sized (sizes_of f) m (take k (drop 9 f))) cut
      ∙ ap₂ (λ (k : ℕ) (l : List ℕ). sized (record { n = (sizes_of f).n; m = m; k = k }) m l) (sym a.kinds) (sym kinds)

  -- the version, the length, the sizes and the file's kind bytes
  pub head_put : (m : ℕ) (out : List ℕ) {one two three four : List ℕ} {p q r e : ℕ} → filled one p ≡ put out 0 (2 ∷ []) → filled two q ≡ put one p (u32_bytes (follow_bytes s.k m))
      → filled three r ≡ put two q (s.n ∷ m / 256 ∷ m % 256 ∷ s.k ∷ []) → filled four e ≡ put three r (take (9 + s.k - 9) (drop 9 f))
      → filled four e ≡ put out 0 (head_bytes (network_of f) m)
  head_put m out version length sizes kinds =
      behind out 0 _ _ (behind out 0 _ _ (behind out 0 (2 ∷ []) (u32_bytes (follow_bytes s.k m)) version length) sizes) kinds ∙ ap (put out 0) (head_made m)
