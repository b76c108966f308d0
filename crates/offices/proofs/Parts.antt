-- Halves of a table (`part_back`, `part_long`, `part_same`, `part_other`, `with_long`), their counts, and a half after an entry: the rows read back (`after_rows`), and the half as
-- long as it was (`after_costs`, `after_witnesses`).
use mathlib.Core.Path.{◌∙◌, ◌≡◌, ap, refl, subst}
use mathlib.Core.Logic.{⊎_elim}
use mathlib.Core.List.Memᴰ.{map as map_in}
use mathlib.Core.List.Memᴰ.{of_map as map_out}
use mathlib.Core.List.{List, map}
use Prim.Native.Nat.{◌*◌, ◌≤◌, ℕ}
use native.Mathlib.Nat.{mul-le-mul_right}
use native.Mathlib.Omega.{arith}
use lib.ListN.{drop, length, length-append, length-drop, take, take-append-drop}
use lib.Seq.{drop_at, length-take-le, take_at}
use Rattle.lists.proofs.Members.{◌∈◌}
use Rattle.pages.specs.Pages.{pieces}
use Rattle.passes.proofs.Flat.{pieces_long}
use Rattle.tables.proofs.Witness.{enter_out}
use Rattle.table.specs.Enter.{Row, costs_over, filled, witnesses_over}
use Rattle.table.proofs.Filled.{Wide, filled_over, over_long, path_of, paths_are, vector_of, vectors_are}
use Rattle.offices.specs.Offices.{Counts, Half, count_of, first_half, part_of, rows_after, second_half, with_part}
use Rattle.offices.specs.Sequences.{other, with_count}

pub part_back : (size : ℕ) (t : List ℕ) (x : Half) → with_part x size (part_of x size t) t ≡ t
part_back size t first_half = take-append-drop size t
part_back size t second_half = take-append-drop size t

module _ (size : ℕ) (t : List ℕ) (long : length t ≡ 2 * size) where
  half_take : length (take size t) ≡ size
  half_take = length-take-le size t (omega arith)

  half_drop : length (drop size t) ≡ size
  half_drop = simp length-drop (omega arith)

  pub part_long : (x : Half) → length (part_of x size t) ≡ size
  part_long first_half = half_take
  part_long second_half = half_drop

  module _ (part : List ℕ) (e : length part ≡ size) where
    pub part_same : (x : Half) → part_of x size (with_part x size part t) ≡ part
    part_same first_half = take_at part (drop size t) size e
    part_same second_half = drop_at (take size t) part size half_take

    pub part_other : (x : Half) → part_of (other x) size (with_part x size part t) ≡ part_of (other x) size t
    part_other first_half = drop_at part (drop size t) size e
    part_other second_half = take_at (take size t) part size half_take

    pub with_long : (x : Half) → length (with_part x size part t) ≡ 2 * size
    with_long first_half = length-append part (drop size t) ∙ omega (arith, half_drop)
    with_long second_half = length-append (take size t) part ∙ omega (arith, half_take)

pub count_same : (x : Half) (n : ℕ) (counts : Counts) → count_of x (with_count x n counts) ≡ n
count_same first_half n counts = refl
count_same second_half n counts = refl

pub count_other : (x : Half) (n : ℕ) (counts : Counts) → count_of (other x) (with_count x n counts) ≡ count_of (other x) counts
count_other first_half n counts = refl
count_other second_half n counts = refl

-- A half of h rows, of which `count` are filled, after an entry

module _ (k w h count : ℕ) (c p : List ℕ) (costs : length c ≡ h * k) (witnesses : length p ≡ h * w) (few : count ≤ h)
    (e : Row) (vector : length e.vector ≡ k) (path : length e.path ≡ w) where
  abbrev after : List Row
  after = rows_after (filled k w count c p) e

  -- each row is the entry, or stood there
  wide : (f : Row → List ℕ) (m : ℕ) (t : List ℕ) → length t ≡ h * m → map f (filled k w count c p) ≡ pieces m count t → length (f e) ≡ m → Wide f m after
  wide f m t long is l u i =
      let (r, j, q) = map_out f after i in
      subst (λ (v : List ℕ). length v ≡ m) q (⊎_elim
      (λ (q : r ≡ e). ap (λ (r : Row). length (f r)) q ∙ l)
      (λ (j : r ∈ filled k w count c p). pieces_long m count t (omega (arith, mul-le-mul_right {m = count} {n = h} m few)) (f r) (rw is at (map_in f j)))
      (enter_out vector_of (filled k w count c p) e r j))

  wide_vectors : Wide vector_of k after
  wide_vectors = wide vector_of k c costs (vectors_are k w c p count) vector

  wide_paths : Wide path_of w after
  wide_paths = wide path_of w p witnesses (paths_are k w c p count) path

  pub after_rows : filled k w (length after) (costs_over after c) (witnesses_over after p) ≡ after
  after_rows = filled_over k w after c p wide_vectors wide_paths

  pub after_costs : length after ≤ h → length (costs_over after c) ≡ h * k
  after_costs l = over_long vector_of k after c wide_vectors (omega (arith, mul-le-mul_right {m = length after} {n = h} k l)) ∙ costs

  pub after_witnesses : length after ≤ h → length (witnesses_over after p) ≡ h * w
  after_witnesses l = over_long path_of w after p wide_paths (omega (arith, mul-le-mul_right {m = length after} {n = h} w l)) ∙ witnesses
