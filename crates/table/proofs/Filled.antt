-- The filled rows of both tables, one row more of them, those that stay, and a table once given rows stand in its first places.
use mathlib.Core.Path.{◌∙◌, ◌≡◌, ap, ap₂, refl, sym}
use mathlib.Core.Bool.{Bool, false, not, true}
use mathlib.Core.List.Memᴰ.{map as map_in}
use mathlib.Core.List.Memᴰ.{of_map as map_out}
use mathlib.Core.List.{List, [], ◌++◌, ◌∷◌, append_assoc, append-nil, map, map-append}
use Prim.Native.Nat.{◌*◌, ◌+◌, ◌-◌, ◌≤◌, suc, zero, ℕ}
use native.Mathlib.Nat.{add_comm, add-sub_cancel_left, suc-mul, zero-mul}
use native.Mathlib.Numerals.{add-one}
use native.Mathlib.Omega.{arith}
use lib.ListN.{drop, length, length-append, length-drop, length-map, length-take, take, take-append-drop}
use lib.Seq.{drop-drop, length-take-le, paste, take_at}
use Rattle.lists.specs.Lists.{filter_b, keep_if}
use Rattle.lists.proofs.Members.{filter_out, take_out}
use Rattle.lists.proofs.Maps.{map_take}
use Rattle.costs.specs.Costs.{dominates}
use Rattle.costs.proofs.Fronts.{Sized}
use Rattle.pages.specs.Pages.{flat, pieces}
use Rattle.pages.proofs.Pages.{pieces_flat}
use Rattle.passes.proofs.Flat.{flat_append, flat_long, flat_pieces, over_past, pieces_long}
use Rattle.compare.proofs.Rows.{row_at}
use Rattle.copies.specs.Copies.{between}
use Rattle.copies.proofs.Moves.{insert_between}
use Rattle.table.specs.Enter.{Row, beside, filled}
use Rattle.table.specs.Parts.{staying}

-- Pieces of k places each

pieces_snoc : (k n : ℕ) (t : List ℕ) → pieces k (suc n) t ≡ pieces k n t ++ (take k (drop (n * k) t) ∷ [])
unfolding pieces
pieces_snoc k zero t = rw zero-mul
pieces_snoc k (suc n) t = rw (pieces_snoc k n (drop k t), drop-drop, suc-mul, add_comm k (n * k))

pieces_length : (k n : ℕ) (t : List ℕ) → length (pieces k n t) ≡ n
unfolding pieces
pieces_length k zero t = refl
pieces_length k (suc n) t = ap suc (pieces_length k n (drop k t))

-- Rows

abbrev pub vector_of : Row → List ℕ
vector_of r = r.vector

abbrev pub path_of : Row → List ℕ
path_of r = r.path

beside_snoc : (vs ps : List (List ℕ)) (v p : List ℕ) → length vs ≡ length ps
    → beside (vs ++ (v ∷ [])) (ps ++ (p ∷ [])) ≡ beside vs ps ++ (record { vector = v; path = p } ∷ [])
unfolding beside
beside_snoc [] [] v p e = refl
beside_snoc [] (q ∷ ps) v p e = absurd (omega arith)
beside_snoc (u ∷ vs) [] v p e = absurd (omega arith)
beside_snoc (u ∷ vs) (q ∷ ps) v p e = rw (beside_snoc vs ps v p (omega arith))

vectors_beside : (vs ps : List (List ℕ)) → length vs ≡ length ps → map vector_of (beside vs ps) ≡ vs
unfolding beside
vectors_beside [] ps e = refl
vectors_beside (v ∷ vs) [] e = absurd (omega arith)
vectors_beside (v ∷ vs) (p ∷ ps) e = rw (vectors_beside vs ps (omega arith))

paths_beside : (vs ps : List (List ℕ)) → length vs ≡ length ps → map path_of (beside vs ps) ≡ ps
unfolding beside
paths_beside [] [] e = refl
paths_beside [] (p ∷ ps) e = absurd (omega arith)
paths_beside (v ∷ vs) [] e = absurd (omega arith)
paths_beside (v ∷ vs) (p ∷ ps) e = rw (paths_beside vs ps (omega arith))

beside_rows : (rows : List Row) → beside (map vector_of rows) (map path_of rows) ≡ rows
unfolding beside
beside_rows [] = refl
beside_rows (r ∷ rows) = ap (λ (l : List Row). r ∷ l) (beside_rows rows)

module _ (k w : ℕ) (c p : List ℕ) where
  in_step : (n : ℕ) → length (pieces k n c) ≡ length (pieces w n p)
  in_step n = pieces_length k n c ∙ sym (pieces_length w n p)

  pub filled_more : (i : ℕ) → filled k w (i + 1) c p ≡ filled k w i c p ++ (record { vector = row_at k c i; path = row_at w p i } ∷ [])
  unfolding filled
  filled_more i =
      rw (add-one, pieces_snoc k i c, pieces_snoc w i p, add-sub_cancel_left (i * k) k, add-sub_cancel_left (i * w) w)
      (beside_snoc (pieces k i c) (pieces w i p) _ _ (in_step i))

  pub vectors_are : (n : ℕ) → map vector_of (filled k w n c p) ≡ pieces k n c
  unfolding filled
  vectors_are n = vectors_beside (pieces k n c) (pieces w n p) (in_step n)

  pub paths_are : (n : ℕ) → map path_of (filled k w n c p) ≡ pieces w n p
  unfolding filled
  paths_are n = paths_beside (pieces k n c) (pieces w n p) (in_step n)

  pub filled_length : (n : ℕ) → length (filled k w n c p) ≡ n
  filled_length n = sym (length-map (filled k w n c p) vector_of) ∙ ap length (vectors_are n) ∙ pieces_length k n c

-- The rows that stay

module _ (v : List ℕ) where
  staying_snoc : (rows : List Row) (r : Row) → staying v (rows ++ (r ∷ [])) ≡ staying v rows ++ keep_if (not (dominates v r.vector)) r []
  unfolding staying filter_b
  staying_snoc [] r = refl
  staying_snoc (q ∷ rows) r = ap (keep_if (not (dominates v q.vector)) q) (staying_snoc rows r) ∙ keep (not (dominates v q.vector))
    where
      last : List Row
      last = keep_if (not (dominates v r.vector)) r []

      keep : (b : Bool) → keep_if b q (staying v rows ++ last) ≡ keep_if b q (staying v rows) ++ last
      keep true = refl
      keep false = refl

  pub gone : (rows : List Row) (r : Row) → dominates v r.vector ≡ true → staying v (rows ++ (r ∷ [])) ≡ staying v rows
  gone rows r e = staying_snoc rows r ∙ (rw e (append-nil (staying v rows)))

  pub stays : (rows : List Row) (r : Row) → dominates v r.vector ≡ false → staying v (rows ++ (r ∷ [])) ≡ staying v rows ++ (r ∷ [])
  stays rows r e = staying_snoc rows r ∙ (rw e)

-- Rows of k places each in the first places of a table

abbrev pub over : (Row → List ℕ) → List Row → List ℕ → List ℕ
over f rows t = flat (map f rows) ++ drop (length (flat (map f rows))) t

module _ (f : Row → List ℕ) (k : ℕ) where
  abbrev pub Wide : List Row → Type 0
  Wide rows = Sized k (map f rows)

  rows_long : (rows : List Row) → Wide rows → length (flat (map f rows)) ≡ length rows * k
  rows_long rows wide = flat_long k (map f rows) wide ∙ ap (λ (n : ℕ). n * k) (length-map rows f)

  -- the rows that stand there already
  pub over_whole : (rows : List Row) (n : ℕ) (t : List ℕ) → n * k ≤ length t → map f rows ≡ pieces k n t → over f rows t ≡ t
  over_whole rows n t fits e =
      let l : flat (map f rows) ≡ take (n * k) t = ap flat e ∙ flat_pieces k n t in
      rw (l, length-take-le (n * k) t fits) (take-append-drop (n * k) t)

  -- those of the first n that stay are wide
  pub wide_staying : (rows : List Row) (n : ℕ) (t v : List ℕ) → n * k ≤ length t → map f rows ≡ pieces k n t → Wide (staying v rows)
  unfolding staying
  wide_staying rows n t v fits e u m =
      let (r, i, q) = map_out f (filter_b (λ r. not (dominates v r.vector)) rows) m in
      pieces_long k n t fits u (rw (e, q) at (map_in f (filter_out (λ r. not (dominates v r.vector)) rows i).0))

  module _ (rows : List Row) (t : List ℕ) (wide : Wide rows) where
    -- the rows are read back, and the table is as long as it was
    pub over_read : pieces k (length rows) (over f rows t) ≡ map f rows
    over_read = rw (← length-map rows f) (pieces_flat k (map f rows) _ wide)

    pub over_long : length rows * k ≤ length t → length (over f rows t) ≡ length t
    over_long h =
        let n = rows_long rows wide in
        simp (length-append, length-drop) (omega arith)

    pub over_behind : (m : ℕ) → length rows * k ≤ m → drop m (over f rows t) ≡ drop m t
    over_behind m h = over_past (flat (map f rows)) t m (rw (rows_long rows wide) h)

    -- a row more, from further on
    pub over_more : (r : Row) (from : ℕ) → from + k ≤ length t → length rows * k ≤ from → f r ≡ take (from + k - from) (drop from t)
        → paste (over f rows t) (length rows * k) (drop from (over f rows t)) k ≡ over f (rows ++ (r ∷ [])) t
    unfolding flat
    over_more r from fits h e =
        let l = flat (map f rows) in
        let n = rows_long rows wide in
        let part : f r ≡ take k (drop from t) = e ∙ (rw add-sub_cancel_left) in
        let long : length (f r) ≡ k = rw part (simp (length-take, length-drop) (omega arith)) in
        let next : flat (map f (rows ++ (r ∷ []))) ≡ l ++ f r = rw (map-append, flat_append, append-nil) in
        let size : length (l ++ f r) ≡ length rows * k + k = simp length-append (omega arith) in
        rw (next, size, take_at l (drop (length l) t) (length rows * k) n, over_behind from h, ← part, over_behind (length rows * k + k) (omega arith))

    -- a row inserted at row p
    pub over_insert : (e : Row) (p : ℕ) → length (f e) ≡ k → p ≤ length rows
        → between (over f rows t) (p * k) (length rows * k) (f e) ≡ over f (take p rows ++ (e ∷ drop p rows)) t
    unfolding flat
    over_insert e p long h =
        let a = flat (map f (take p rows)) in
        let b = flat (map f (drop p rows)) in
        let na : length a ≡ p * k = rows_long (take p rows) (λ u m. wide u (take_out p (map f rows) (rw map_take at m))) ∙ (rw (length-take-le p rows h)) in
        let all : flat (map f rows) ≡ a ++ b = ap (λ (l : List Row). flat (map f l)) (sym (take-append-drop p rows)) ∙ (rw (map-append, flat_append)) in
        let n : length a + length b ≡ length rows * k = sym (length-append a b) ∙ sym (ap length all) ∙ rows_long rows wide in
        let next : flat (map f (take p rows ++ (e ∷ drop p rows))) ≡ a ++ (f e ++ b) = rw (map-append, flat_append) in
        let size : length (a ++ (f e ++ b)) ≡ length rows * k + k = simp length-append (omega arith) in
        rw (all, next, size, append_assoc a b, ← na, ← n, insert_between a b _ (f e)) (simp (drop-drop, long, length-append, append_assoc))

-- rows that stand in the first places of both tables are the filled ones
pub filled_over : (k w : ℕ) (rows : List Row) (c p : List ℕ) → Wide vector_of k rows → Wide path_of w rows
    → filled k w (length rows) (over vector_of rows c) (over path_of rows p) ≡ rows
unfolding filled
filled_over k w rows c p vectors paths = ap₂ beside (over_read vector_of k rows c vectors) (over_read path_of w rows p paths) ∙ beside_rows rows
