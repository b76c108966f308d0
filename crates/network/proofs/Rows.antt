-- What `all` of the rows answers, where the file is cut behind the kinds into pieces of a row's bytes: the test of each row.
use mathlib.Core.Path.{◌∙◌, ◌≡◌, ap, sym}
use mathlib.Core.Bool.{Bool, false, true}
use mathlib.Core.List.{List}
use Prim.Native.Nat.{◌*◌, ◌+◌, ◌-◌, ◌/◌, ◌<◌, ◌≤◌, ℕ}
use native.Mathlib.Omega.{arith}
use denote.Param.Members.{Called, Mut}
use denote.Ref.{Bor}
use lib.ListN.{drop, length, take}
use Rattle.std.proofs.Common.{Option, length-drop}
use Rattle.std.proofs.Math.Nat.{mul-div_cancel}
use Rattle.std.proofs.lemmas.List.{get_or-drop, take_all}
use Rattle.std.specs.Bool.{MatchBool}
use Rattle.std.specs.Iterator.Runs.{AllItemsGive, AnyItemGives, CallKeepsClosure, ItemsMapToExactChunks, Run}
use Rattle.lists.specs.Lists.{all, range}
use Rattle.network_file.specs.File.{Sizes, byte_at, row_bytes, row_start}
use Rattle.network.specs.Rows.{Fitting}
use Rattle.lists.proofs.Runs.{PieceAt, pieces_run}

-- the bytes of row r
pub record RowAt (f : List ℕ) (r : ℕ) (row : List ℕ) : Type 0 where
  pub long : length row ≡ row_bytes f
  pub there : row_start f r + row_bytes f ≤ length f
  pub reads : (j : ℕ) → j < row_bytes f → byte_at row j ≡ byte_at f (row_start f r + j)

module _ {S F : Type 0} {steps : S → Option (Bor (List ℕ)) → S → Type 0} (p : Run steps) (g : Mut F (Bor (List ℕ) × Unit {0}) Bool) (f : F)
    (keeps : CallKeepsClosure g f) {file : List ℕ} {s : Sizes} (fit : Fitting file s) where
  -- where the test of a row answers that of its number
  pub row_run : (test : ℕ → Bool) {n : ℕ} {rows : List ℕ} → n ≡ row_bytes file → rows ≡ take (length file - (9 + s.k)) (drop (9 + s.k) file)
      → (0 < n → ItemsMapToExactChunks p (λ x. x.now) n rows)
      → ((r : ℕ) (x : Bor (List ℕ)) → RowAt file r x.now → (b : Bool) → Called g f (x, tt) b f → b ≡ test r)
      → (r : Bool) → MatchBool r ((p.whole ≡ true) × AllItemsGive p g f true) (AnyItemGives p g f false) → r ≡ all test (range 0 s.m)
  row_run test {n} {rows} bytes part pieces tests r outcome =
      pieces_run p g f keeps test (row_bytes file) bytes behind wide pieces (λ k x h piece b called. tests k x (row k x.now piece) b called) r outcome
      ∙ ap (λ (m : ℕ). all test (range 0 m)) (ap (λ (l : ℕ). l / row_bytes file) long ∙ mul-div_cancel s.m wide)
    where
      wide : 0 < row_bytes file
      wide = omega arith

      behind : rows ≡ drop (9 + s.k) file
      behind = part ∙ take_all (length file - (9 + s.k)) (drop (9 + s.k) file) (omega (arith, length-drop (9 + s.k) file))

      long : length (drop (9 + s.k) file) ≡ s.m * row_bytes file
      long = omega (arith, length-drop (9 + s.k) file, fit.long, ap (λ (t : Sizes). t.k) fit.same)

      start : (k : ℕ) → row_start file k ≡ 9 + s.k + k * row_bytes file
      start k = ap (λ (t : Sizes). 9 + t.k + k * row_bytes file) (sym fit.same)

      row : (k : ℕ) (x : List ℕ) → PieceAt (row_bytes file) (drop (9 + s.k) file) k x → RowAt file k x
      row k x piece = record {
        long = piece.long;
        there = omega (arith, start k, piece.there, length-drop (9 + s.k) file);
        reads = λ j l. piece.reads j l ∙ get_or-drop (9 + s.k) file (k * row_bytes file + j) 0 ∙ ap (byte_at file) (omega (arith, start k));
      }
