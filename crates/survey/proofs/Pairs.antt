-- A file that is accepted is as long as its sizes say (`fitting`), so that a row's ends are there and are read in place (`ends_there`), and its rows are pieces of it:
-- whether some row joins u and v, by the pieces (`pair_pieces`), and what is asked of a piece (`pair_read`).
use mathlib.Core.Path.{◌∙◌, ◌≡◌, ap, ap₂, refl, subst, sym}
use mathlib.Core.Bool.{Bool, ◌&&◌, ◌||◌, false, not, true}
use mathlib.Core.List.{List, [], ◌∷◌}
use mathlib.Core.Option.{none}
use Prim.Native.Nat.{◌*◌, ◌+◌, ◌<◌, ◌≤◌, ℕ}
use native.Mathlib.Nat.{mul-le-mul_right, suc-mul}
use native.Mathlib.Omega.{arith}
use lib.Dec.{eqb}
use lib.ListN.{length}
use Rattle.checks.specs.Checks.{first_unmet}
use Rattle.lists.specs.Lists.{all, any, range}
use Rattle.lists.proofs.Maps.{map_any}
use Rattle.costs.specs.Network.{Row, row_at}
use Rattle.network.specs.Rows.{Fitting}
use Rattle.network.proofs.Rows.{RowAt}
use Rattle.network_file.specs.File.{Sizes, byte_at, file_checks, network_of, row_bytes, row_in, row_start, sizes_of}
use Rattle.network_file.proofs.Accepted.{accepted, row_in_lem}
use Rattle.surveys.specs.Surveys.{has_pair, is_pair}

pub fitting : (f : List ℕ) (s : Sizes) → first_unmet (file_checks f) ≡ none → s ≡ sizes_of f → Fitting f s
fitting f s met same = record { same = same; long = (accepted f met).long ∙ ap (λ (z : Sizes). row_start f z.m) (sym same) }

any_not_all : {A : Type 0} (p : A → Bool) (l : List A) → not (all (λ a. not (p a)) l) ≡ any p l
unfolding all any
any_not_all p [] = refl
any_not_all p (a ∷ l) = one (p a) (any_not_all p l)
  where
    one : (b : Bool) → not (all (λ x. not (p x)) l) ≡ any p l → not (not b && all (λ x. not (p x)) l) ≡ (b || any p l)
    one true rest = refl
    one false rest = rest

module _ (u v : ℕ) (f : List ℕ) where
  -- what is asked of row r
  abbrev pub joins : ℕ → Bool
  joins r = is_pair u v (row_in f r)

  pub pair_read : (r : ℕ) (row : List ℕ) → RowAt f r row
      → ((eqb (byte_at row 0) u && eqb (byte_at row 1) v) || (eqb (byte_at row 0) v && eqb (byte_at row 1) u)) ≡ joins r
  unfolding row_in
  pair_read r row at =
      let first : byte_at row 0 ≡ byte_at f (row_start f r) = at.reads 0 (omega arith) ∙ ap (byte_at f) (omega arith) in
      rw (first, at.reads 1 (omega arith))

  pub pair_pieces : (s : Sizes) → s ≡ sizes_of f → not (all (λ r. not (joins r)) (range 0 s.m)) ≡ has_pair u v (network_of f).rows
  unfolding has_pair network_of
  pair_pieces s same =
      ap (λ (z : Sizes). not (all (λ r. not (joins r)) (range 0 z.m))) same
      ∙ any_not_all joins (range 0 (sizes_of f).m)
      ∙ map_any (row_in f) (is_pair u v) (range 0 (sizes_of f).m)

-- row r by the place where it begins
pub record EndsThere (f : List ℕ) (r at : ℕ) : Type 0 where
  pub inside : at + 4 ≤ length f
  pub first : (row_at (network_of f) r).first_end ≡ byte_at f at
  pub second : (row_at (network_of f) r).second_end ≡ byte_at f (at + 1)

pub ends_there : {f : List ℕ} {s : Sizes} → Fitting f s → (r bytes : ℕ) → r < s.m → bytes ≡ row_bytes f → EndsThere f r (9 + s.k + r * bytes)
unfolding row_in
ends_there {f} {s} fit r bytes h e =
    let start : 9 + s.k + r * bytes ≡ row_start f r = ap₂ (λ (z : Sizes) (b : ℕ). 9 + z.k + r * b) fit.same e in
    let under : r < (sizes_of f).m = subst (λ (z : Sizes). r < z.m) fit.same h in
    let read : row_at (network_of f) r ≡ row_in f r = row_in_lem f r under in
    record {
      inside = omega (arith, start, fit.long, ap (λ (z : Sizes). z.m) fit.same, mul-le-mul_right (row_bytes f) h, suc-mul r (row_bytes f));
      first = ap (λ (x : Row). x.first_end) read ∙ ap (byte_at f) (sym start);
      second = ap (λ (x : Row). x.second_end) read ∙ ap (λ (i : ℕ). byte_at f (i + 1)) (sym start);
    }
