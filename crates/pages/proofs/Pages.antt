-- The run theorem (`Paged`, `paged`): a run of calls writes the list of trees from its start on, each tree once and in order, and marks
-- each call rightly. Of one call: the page keeps its length (`length_page_after`), and a call goes on after its start (`behind_drop`).
use mathlib.Core.Path.{◌∙◌, ◌≡◌, ap, ap₂, refl, sym}
use mathlib.Core.Logic.{◌↔◌, ⊎_elim}
use mathlib.Core.Bool.{Bool, false, true}
use mathlib.Core.Option.{Option, none-ne-some, some-injective, some-ne-none, none, some}
use mathlib.Core.List.{List, [], ◌++◌, ◌∷◌, append_assoc, append-nil, map}
use mathlib.Core.List.Memᴰ.{cases_cons as mem_cases}
use mathlib.Core.List.Memᴰ.{cast as mem_cast}
use mathlib.Core.List.Memᴰ.{head as here}
use mathlib.Core.List.Memᴰ.{not-nil as mem_nil}
use mathlib.Core.List.Memᴰ.{tail as there}
use Prim.Native.Nat.{◌*◌, ◌+◌, ◌/◌, ◌<◌, ◌≤◌, min, suc, zero, ℕ}
use native.Mathlib.Nat.{add_assoc, add-zero, div-eq_of_lt, div-mul-le_self, le-div_iff_mul-le, le_trans, min-zero, mul-le-mul_right, suc-mul, zero-add, zero-mul}
use native.Mathlib.Omega.{arith}
use lib.Dec.{T, leb, leb→le, le→leb, ltb, ltb→lt, lt→ltb}
use lib.ListN.{drop, get_or, get_elem?, length, length-append, length-drop, length-take, take}
use lib.Seq.{drop_at, drop-drop, take-add, take_at}
use borrow.Author.Tests.{ltb-true}
use Rattle.lists.specs.Lists.{both, pick, same, sum}
use Rattle.lists.proofs.Ascending.{at_mem}
use Rattle.lists.proofs.Distinct.{Distinct}
use Rattle.lists.proofs.Members.{◌∈◌, drop_out, same_in, same_out, take_out}
use Rattle.lists.proofs.Tests.{T-both, T_false, T-same, T_true, pick_elim}
use Rattle.pages.specs.Pages.{Mark, answer, behind, call, capacity, flat, last_of, mark_of, more_after, page_after, page_count, pieces, read_back, rest_after, room, run}

-- what stands behind the tree at place i is the list from place i + 1 on
pub behind_drop : (L : List (List ℕ)) (i : ℕ) (p : List ℕ) → Distinct L → get_elem? L i ≡ some p → behind p L ≡ drop (suc i) L
unfolding behind
behind_drop [] i p once e = absurd (none-ne-some _ e)
behind_drop (q ∷ L) zero p once e =
    let here_p : q ≡ p = some-injective _ _ e in
    rw (here_p, (T_true (same p p)).0 (same_in p))
behind_drop (q ∷ L) (suc i) p once e =
    let other : same p q ≡ false = (T_false (same p q)).0 (λ t. once.0 (mem_cast (sym (same_out p q t)) (at_mem L i e))) in
    rw other (behind_drop L i p once.1 e)

-- the last of the first i + 1 stands at place i
pub last_of_at : (L : List (List ℕ)) (i : ℕ) → i < length L → get_elem? L i ≡ some (last_of (take (suc i) L))
last_of_at [] i h = absurd (omega arith)
last_of_at (p ∷ L) zero h = refl
last_of_at (p ∷ []) (suc i) h = absurd (omega arith)
last_of_at (p ∷ q ∷ L) (suc i) h = last_of_at (q ∷ L) i (omega arith)

-- the pieces of a page that begins with trees of w rows are these trees
pub pieces_flat : (w : ℕ) (l : List (List ℕ)) (behind : List ℕ) → ((p : List ℕ) → p ∈ l → length p ≡ w) → pieces w (length l) (flat l ++ behind) ≡ l
unfolding pieces flat
pieces_flat w [] behind long = refl
pieces_flat w (p ∷ l) behind long =
    rw (append_assoc, take_at p (flat l ++ behind) w (long p (here refl)), drop_at p (flat l ++ behind) w (long p (here refl)))
    (ap (λ l. p ∷ l) (pieces_flat w l behind (λ q m. long q (there m))))

-- the piece at a place, where it is among the first n
pub pieces_at : (w n : ℕ) (page : List ℕ) (t : ℕ) → t < n → get_or (pieces w n page) t [] ≡ take w (drop (t * w) page)
unfolding pieces
pieces_at w zero page t h = absurd (omega arith)
pieces_at w (suc n) page zero h = rw (zero-mul w) refl
pieces_at w (suc n) page (suc t) h =
    let next : w + t * w ≡ suc t * w = omega (arith, suc-mul t w) in
    pieces_at w n (drop w page) t (omega arith) ∙ ap (take w) (drop-drop (t * w) w page ∙ ap (λ (k : ℕ). drop k page) next)

-- how many numbers trees of w rows have
pub length_flat : (w : ℕ) (l : List (List ℕ)) → ((p : List ℕ) → p ∈ l → length p ≡ w) → length (flat l) ≡ length l * w
unfolding flat
length_flat w [] long = omega arith
length_flat w (p ∷ l) long = omega (arith, length-append p (flat l), long p (here refl), length_flat w l (λ q m. long q (there m)))

-- as many rows of w places as the quotient says end within a page or a table
pub rows_end : (n w len : ℕ) → n ≤ len / w → n * w ≤ len
rows_end n w len h = le_trans (mul-le-mul_right w h) (div-mul-le_self len w)

-- both tables have room for a row exactly if the capacity is not 0
pub capacity_some : (k w : ℕ) (costs witnesses : List ℕ) → 0 < k → 0 < w → both (leb k (length costs)) (leb w (length witnesses)) ≡ ltb 0 (capacity k w costs witnesses)
unfolding capacity
capacity_some k w costs witnesses pk pw = T-same (both (leb k (length costs)) (leb w (length witnesses))) (ltb 0 (min (length costs / k) (length witnesses / w)))
    (λ t.
    let (x, y) = (T-both (leb k (length costs)) (leb w (length witnesses))).0 t in
    let c : 1 ≤ length costs / k = (row pk).1 (leb→le k (length costs) x) in
    let d : 1 ≤ length witnesses / w = (row pw).1 (leb→le w (length witnesses) y) in
    lt→ltb 0 (min (length costs / k) (length witnesses / w)) (omega arith))
    (λ t.
    let h = ltb→lt 0 (min (length costs / k) (length witnesses / w)) t in
    (T-both (leb k (length costs)) (leb w (length witnesses))).1 (le→leb k (length costs) ((row pk).0 (omega arith)), le→leb w (length witnesses) ((row pw).0 (omega arith))))
  where
    row : {k len : ℕ} → 0 < k → (1 ≤ len / k) ↔ (k ≤ len)
    row {k} {len} p = let e = le-div_iff_mul-le {k = k} {x = 1} {y = len} p in (λ h. omega (arith, e.0 h), λ h. e.1 (omega arith))

-- a call leaves the page as long as it was
pub length_page_after : (w : ℕ) (page : List ℕ) (rest : List (List ℕ)) → ((p : List ℕ) → p ∈ rest → length p ≡ w)
    → length (page_after w page rest) ≡ length page
length_page_after w page rest long =
    let c = page_count w page rest in
    let count : length (take c rest) ≡ c = length-take c rest ∙ omega arith in
    let written : length (flat (take c rest)) ≡ c * w = length_flat w (take c rest) (λ p m. long p (take_out c rest m)) ∙ ap (λ n. n * w) count in
    let fits = rows_end c w (length page) (omega arith) in
    simp (length-append, length-drop, written) (omega arith)

-- what is left from a start on is of the list
behind_out : (p : List ℕ) {q : List ℕ} (L : List (List ℕ)) → q ∈ behind p L → q ∈ L
unfolding behind
behind_out p [] m = m
behind_out p {q} (x ∷ L) m = pick_elim (λ (l : List (List ℕ)). q ∈ l → q ∈ x ∷ L) (same p x) (λ t i. there i) (λ n i. there (behind_out p L i)) m

pub rest_out : (L : List (List ℕ)) (start : List ℕ) {q : List ℕ} → q ∈ rest_after L start → q ∈ L
rest_out L [] m = m
rest_out L (x ∷ p) m = behind_out (x ∷ p) L m

-- a start that is a tree
pub rest_after_behind : (L : List (List ℕ)) (p : List ℕ) → 0 < length p → rest_after L p ≡ behind p L
rest_after_behind L [] h = absurd (omega arith)
rest_after_behind L (x ∷ p) h = refl

-- a test's value from the statement that it decides
same_test : (a b c d : ℕ) → (a < b) ↔ (c < d) → ltb a b ≡ ltb c d
same_test a b c d e = T-same (ltb a b) (ltb c d) (λ t. lt→ltb c d (e.0 (ltb→lt a b t))) (λ t. lt→ltb a b (e.1 (ltb→lt c d t)))

-- the mark of a call that leaves k of n trees written; none where it was refused
abbrev pub mark_for : Bool → ℕ → ℕ → Option Mark
mark_for true k n = none
mark_for false k n = some (record { up_to = k; more = ltb k n })

-- the marks of a run over n trees, where the pages so far have room for s
unfoldable pub marks_from : ℕ → ℕ → ℕ → List (List ℕ) → List (Option Mark)
marks_from w n s [] = []
marks_from w n s (page ∷ pages) = mark_for (ltb (length page) w) (min n (s + length page / w)) n ∷ marks_from w n (s + length page / w) pages

-- L has no repeats, and its trees have w rows
module _ (w : ℕ) (L : List (List ℕ)) (pos : 0 < w) (once : Distinct L) (long : (p : List ℕ) → p ∈ L → length p ≡ w) where
  -- after the first k trees are written, a call goes on with the others
  pub rest_after_drop : (k : ℕ) → k ≤ length L → rest_after L (last_of (take k L)) ≡ drop k L
  rest_after_drop zero h = refl
  rest_after_drop (suc i) h =
      let e = last_of_at L i h in
      let size = long _ (at_mem L i e) in
      rest_after_behind L (last_of (take (suc i) L)) (omega arith) ∙ behind_drop L i _ once e

  -- the trees that a call writes are read back from the page
  pub read_back_is : (k : ℕ) (page : List ℕ) → read_back w (some (answer w page (drop k L))) ≡ take (page_count w page (drop k L)) (drop k L)
  read_back_is k page =
      let rest = drop k L in
      let c = page_count w page rest in
      let size : length (take c rest) ≡ c = length-take c rest ∙ omega arith in
      rw size at (pieces_flat w (take c rest) (drop (c * w) page) (λ p m. long p (drop_out k L (take_out c rest m))))

  -- the trees that are written once the pages have room for s
  abbrev pub Upto : ℕ → List (List ℕ)
  Upto s = take (min (length L) s) L

  -- how many are written, one call after s
  count_next : (s q : ℕ) → min (length L) s + min q (length (drop (min (length L) s) L)) ≡ min (length L) (s + q)
  count_next s q = simp length-drop (omega arith)

  pub length_Upto : (s : ℕ) → length (Upto s) ≡ min (length L) s
  length_Upto s = length-take (min (length L) s) L ∙ omega arith

  -- One call more: what is written then, and the call's mark.
  pub step : (s : ℕ) (page : List ℕ) (b : Bool) → ltb (length page) w ≡ b
      → let a = pick b none (some (answer w page (rest_after L (last_of (Upto s))))) in
      let now = Upto (s + length page / w) in
      (Upto s ++ read_back w a ≡ now) × (mark_of now a ≡ mark_for b (min (length L) (s + length page / w)) (length L))
  step s page true e =
      let short : length page / w ≡ 0 = div-eq_of_lt (ltb-true _ _ e) in
      let same_count : min (length L) s ≡ min (length L) (s + length page / w) = omega arith in
      (append-nil (Upto s) ∙ ap (λ k. take k L) same_count, refl)
  step s page false e =
      let k = min (length L) s in
      let q = length page / w in
      let c = page_count w page (drop k L) in
      let next = count_next s q in
      let left = length-drop k L in
      let more : more_after w page (drop k L) ≡ ltb (min (length L) (s + q)) (length L) =
      same_test c (length (drop k L)) (min (length L) (s + q)) (length L) (omega arith) in
      rw (rest_after_drop k (omega arith)) (
        ap (λ l. Upto s ++ l) (read_back_is k page) ∙ sym (take-add k c L) ∙ ap (λ k. take k L) next,
        λ i. some (record { up_to = length_Upto (s + q) i; more = more i }),
      )

  -- the first call of a run, where what it writes and its mark are known
  run_step : (done now : List (List ℕ)) (page : List ℕ) (pages : List (List ℕ)) (m : Option Mark)
      → done ++ read_back w (call w L (last_of done) page) ≡ now → mark_of now (call w L (last_of done) page) ≡ m
      → run w L done (page ∷ pages) ≡ record { written = (run w L now pages).written; marks = m ∷ (run w L now pages).marks }
  unfolding run
  run_step done now page pages m e f =
      ap (λ now. record { written = (run w L now pages).written; marks = mark_of now (call w L (last_of done) page) ∷ (run w L now pages).marks }) e
      ∙ ap (λ m. record { written = (run w L now pages).written; marks = m ∷ (run w L now pages).marks }) f

  -- a run that goes on after pages with room for s
  run_from_lem : (s : ℕ) (pages : List (List ℕ))
      → run w L (Upto s) pages ≡ record { written = Upto (s + room w pages); marks = marks_from w (length L) s pages }
  unfolding run marks_from sum
  run_from_lem s [] = rw add-zero
  run_from_lem s (page ∷ pages) =
      let s' = s + length page / w in
      let (e, f) = step s page (ltb (length page) w) refl in
      run_step (Upto s) (Upto s') page pages _ e f ∙ rw (run_from_lem s' pages, add_assoc)

  -- The whole run: what it writes, and its marks.
  pub run_is_lem : (pages : List (List ℕ))
      → run w L [] pages ≡ record { written = take (min (length L) (room w pages)) L; marks = marks_from w (length L) 0 pages }
  run_is_lem pages = rw (min-zero, zero-add) at (run_from_lem 0 pages)

pub mark_for_right : (b : Bool) (k n : ℕ) (m : Mark) → some m ≡ mark_for b k n → T m.more ↔ (m.up_to < n)
mark_for_right true k n m e = absurd (some-ne-none _ e)
mark_for_right false k n m e = rw (some-injective _ _ e) (λ t. ltb→lt k n t, λ h. lt→ltb k n h)

-- each mark says whether fewer than all n trees are written by then
pub marks_right : (w n s : ℕ) (pages : List (List ℕ)) (m : Mark) → some m ∈ marks_from w n s pages → T m.more ↔ (m.up_to < n)
unfolding marks_from
marks_right w n s [] m h = absurd (mem_nil h)
marks_right w n s (page ∷ pages) m h =
    ⊎_elim (λ e. mark_for_right (ltb (length page) w) (min n (s + length page / w)) n m e) (λ h. marks_right w n (s + length page / w) pages m h)
    (mem_cases h)

-- a call was refused, by its mark
abbrev pub refused : Option Mark → Bool
refused none = true
refused (some m) = false

refused_mark_for : (b : Bool) (k n : ℕ) → refused (mark_for b k n) ≡ b
refused_mark_for true k n = refl
refused_mark_for false k n = refl

refused_marks : (w n s : ℕ) (pages : List (List ℕ)) → map refused (marks_from w n s pages) ≡ map (λ page. ltb (length page) w) pages
unfolding marks_from
refused_marks w n s [] = refl
refused_marks w n s (page ∷ pages) =
    ap₂ ◌∷◌ (refused_mark_for (ltb (length page) w) (min n (s + length page / w)) n) (refused_marks w n (s + length page / w) pages)

-- What a run of calls does, each with any page, and with the last tree written so far as its start.
pub record Paged (w : ℕ) (L pages : List (List ℕ)) : Type 0 where
  -- the trees read off the pages, call after call, are the first of L, as many as the pages have room for, or all
  pub written : (run w L [] pages).written ≡ take (min (length L) (room w pages)) L
  -- the refused calls are those whose page is too short for a tree
  pub answered : map refused (run w L [] pages).marks ≡ map (λ page. ltb (length page) w) pages
  -- an answered call says `more` exactly if fewer trees than L has are written up to and with it
  pub marks : (m : Mark) → some m ∈ (run w L [] pages).marks → T m.more ↔ (m.up_to < length L)

-- The run theorem.
pub paged : (w : ℕ) (L pages : List (List ℕ)) → 0 < w → Distinct L → ((p : List ℕ) → p ∈ L → length p ≡ w) → Paged w L pages
paged w L pages pos once long =
    let whole = run_is_lem w L pos once long pages in
    record {
      written = ap (λ r. r.written) whole;
      answered = ap (λ r. map refused r.marks) whole ∙ refused_marks w (length L) 0 pages;
      marks = λ m h. marks_right w (length L) 0 pages m (rw whole at h);
    }
