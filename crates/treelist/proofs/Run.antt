-- A run of pages over a file whose network has a tree, each page with room for a tree: it is never refused (`never_refused`), an answer
-- that says 'more' leaves fewer trees than there were (`more_left`), and one that does not ends the run with all trees counted (`all_written`).
use mathlib.Core.Path.{◌∙◌, ◌≡◌, ap, refl, sym}
use mathlib.Core.Bool.{false, true}
use mathlib.Core.Option.{none-ne-some, some-injective, none, some}
use mathlib.Core.List.Memᴰ.{head as here}
use mathlib.Core.List.Memᴰ.{tail as there}
use mathlib.Core.List.{List, [], ◌++◌, ◌∷◌, append_assoc}
use Prim.Native.Nat.{◌*◌, ◌+◌, ◌-◌, ◌/◌, ◌<◌, ◌^◌, ◌≤◌, min, suc, zero, ℕ}
use native.Mathlib.Nat.{le-div_iff_mul-le, suc-mul, zero-mul}
use native.Mathlib.Omega.{arith}
use lib.Dec.{T}
use lib.ListN.{drop, get_or, get_elem?, length, length-drop, length-take, take}
use lib.Seq.{drop-append-add, get_or-drop, get_or-take, take_at}
use borrow.Author.Tests.{le-ltb, ltb-false, ltb-true}
use Rattle.lists.proofs.Ascending.{at_get_or}
use Rattle.lists.proofs.Members.{◌∈◌, drop_out, take_out}
use Rattle.graph.specs.Graph.{width}
use Rattle.graph.proofs.Parts.{Part, part_distinct, part_length}
use Rattle.checks.specs.Checks.{Ended, Outcome, answered, first_unmet, refused}
use Rattle.network_file.specs.File.{file_checks}
use Rattle.network_file.proofs.Accepted.{accepted}
use Rattle.pages.specs.Pages.{flat, last_of, more_after, page_after, page_count, rest_after}
use Rattle.pages.proofs.Pages.{last_of_at, length_page_after, rest_after_drop, rows_end}
use Rattle.operations.specs.Operations.{Paged, graph_in, layouts_in, page_call, some_tree}
use Rattle.operations.proofs.Files.{layouts_in_lem, wide}
use Rattle.operations.proofs.Runs.{page_call_lem}

-- tree i of a page that begins with trees of w rows
tree_at : (w : ℕ) (l : List (List ℕ)) (rest : List ℕ) (i : ℕ) (p : List ℕ) → ((q : List ℕ) → q ∈ l → length q ≡ w) → get_elem? l i ≡ some p
    → take w (drop (i * w) (flat l ++ rest)) ≡ p
unfolding flat
tree_at w [] rest i p long e = absurd (none-ne-some _ e)
tree_at w (q ∷ l) rest zero p long e =
    ap (λ (k : ℕ). take w (drop k ((q ++ flat l) ++ rest))) (zero-mul w)
    ∙ ap (λ (x : List ℕ). take w x) (append_assoc q (flat l) rest)
    ∙ take_at q (flat l ++ rest) w (long q (here refl))
    ∙ some-injective _ _ e
tree_at w (q ∷ l) rest (suc i) p long e =
    let size : length q ≡ w = long q (here refl) in
    let at : suc i * w ≡ length q + i * w = omega (arith, suc-mul i w) in
    ap (λ (x : List ℕ). take w (drop (suc i * w) x)) (append_assoc q (flat l) rest)
    ∙ ap (λ (k : ℕ). take w (drop k (q ++ (flat l ++ rest)))) at
    ∙ ap (λ (x : List ℕ). take w x) (drop-append-add q (flat l ++ rest) (i * w))
    ∙ tree_at w l rest i p (λ r m. long r (there m)) e

-- how many trees a page with room for one takes: one at least where trees are left over, and no more than it holds
full_page : (w : ℕ) (page : List ℕ) (rest : List (List ℕ)) → 0 < w → w ≤ length page → page_count w page rest < length rest
    → (0 < page_count w page rest) × (page_count w page rest * w ≤ length page)
full_page w page rest pos room more =
    let one : 1 ≤ length page / w = (le-div_iff_mul-le {k = w} {x = 1} {y = length page} pos).1 (omega arith) in
    (omega arith, rows_end (page_count w page rest) w (length page) (omega arith))

-- The run so far: the first `written` trees, the last of which is the start of the next call, and the count of them.
pub record Run (f start : List ℕ) (total : ℕ) : Type 0 where
  pub written : ℕ
  pub few : written ≤ length (layouts_in f)
  pub last : start ≡ last_of (take written (layouts_in f))
  pub count : total ≡ min written (2 ^ 64 - 1)

-- no tree is written at first
pub run_start : (f : List ℕ) → Run f [] 0
run_start f = record { written = 0; few = omega arith; last = refl; count = omega arith }

-- An answer that says 'more': where the run stands then, and that fewer trees are left.
pub record More (f start page : List ℕ) (w total c : ℕ) : Type 0 where
  pub some_written : 0 < c
  pub within : c * w ≤ length page
  pub run : Run f (take w (drop ((c - 1) * w) page)) (min (total + c) (2 ^ 64 - 1))
  pub fewer : length (rest_after (layouts_in f) (take w (drop ((c - 1) * w) page))) < length (rest_after (layouts_in f) start)

-- what an answer says; a refusal says nothing
abbrev paged_in : Outcome Paged → Paged
paged_in (refused e) = record { count = 0; more = false }
paged_in (answered a) = a

module _ (f : List ℕ) (ok : first_unmet (file_checks f) ≡ none) (tree : T (some_tree (layouts_in f))) where
  abbrev w : ℕ
  w = width (graph_in f)

  abbrev L : List (List ℕ)
  L = layouts_in f

  part : Part (graph_in f) (layouts_in f)
  part = layouts_in_lem f (accepted f ok)

  abbrev left : ℕ → List (List ℕ)
  left k = rest_after L (last_of (take k L))

  -- after the first k trees the others are left
  left_is : (k : ℕ) → k ≤ length L → left k ≡ drop k L
  left_is k h = rest_after_drop w L (wide f (accepted f ok)) (part_distinct part) (part_length part) k h

  -- the call after the first k trees
  abbrev answer_of : List ℕ → List (List ℕ) → Ended Paged (List ℕ)
  answer_of page rest = record { outcome = answered (record { count = page_count w page rest; more = more_after w page rest }); buffers = page_after w page rest }

  call_after : (k : ℕ) (page : List ℕ) → k ≤ length L → w ≤ length page → page_call f page (last_of (take k L)) ≡ answer_of page (drop k L)
  call_after k page h room =
      page_call_lem f ok tree k h page
      ∙ (rw (le-ltb (length page) w room) refl)
      ∙ ap (answer_of page) (left_is k h)

  -- the last tree that the call writes is the last of the list so far
  last_written : (k : ℕ) (page : List ℕ) → k ≤ length L → 0 < page_count w page (drop k L)
      → take w (drop ((page_count w page (drop k L) - 1) * w) (page_after w page (drop k L))) ≡ last_of (take (k + page_count w page (drop k L)) L)
  last_written k page h some_written =
      let rest = drop k L in
      let c = page_count w page rest in
      let i = c - 1 in
      let size : length rest ≡ length L - k = length-drop k L in
      let p = get_or L (k + i) [] in
      let in_page : get_elem? (take c rest) i ≡ some p =
      at_get_or (take c rest) i [] (simp length-take (omega arith)) ∙ ap some (get_or-take c rest i [] (omega arith) ∙ get_or-drop k L i []) in
      let in_list : p ≡ last_of (take (suc (k + i)) L) =
      some-injective _ _ (sym (at_get_or L (k + i) [] (omega arith)) ∙ last_of_at L (k + i) (omega arith)) in
      let up_to : suc (k + i) ≡ k + c = omega arith in
      tree_at w (take c rest) (drop (c * w) page) i p (λ q m. part_length part q (drop_out k L (take_out c rest m))) in_page
      ∙ in_list
      ∙ ap (λ (j : ℕ). last_of (take j L)) up_to

  module _ (start page : List ℕ) (total : ℕ) (run : Run f start total) (room : w ≤ length page) where
    abbrev k : ℕ
    k = run.written

    -- the call, with the start as it is known
    called : page_call f page start ≡ answer_of page (drop k L)
    called = ap (page_call f page) run.last ∙ call_after k page run.few room

    pub never_refused : (page' : List ℕ) (e : ℕ) → record { outcome = refused e; buffers = page' } ≡ page_call f page start → ⊥
    never_refused page' e h =
        let clash : refused e ≡ (answer_of page (drop k L)).outcome = ap (λ (x : Ended Paged (List ℕ)). x.outcome) (h ∙ called) in
        let z : ◌≡◌ {A = ℕ} 0 1 = cc in
        omega arith

    pub all_written : (page' : List ℕ) (c : ℕ) → record { outcome = answered (record { count = c; more = false }); buffers = page' } ≡ page_call f page start
        → min (total + c) (2 ^ 64 - 1) ≡ min (length L) (2 ^ 64 - 1)
    all_written page' c h =
        let count : c ≡ page_count w page (drop k L) = ap (λ (x : Ended Paged (List ℕ)). (paged_in x.outcome).count) (h ∙ called) in
        let more : false ≡ more_after w page (drop k L) = ap (λ (x : Ended Paged (List ℕ)). (paged_in x.outcome).more) (h ∙ called) in
        let none_left = ltb-false (page_count w page (drop k L)) (length (drop k L)) (sym more) in
        omega (arith, length-drop k L, run.few, run.count)

    pub more_left : (page' : List ℕ) (c : ℕ) → record { outcome = answered (record { count = c; more = true }); buffers = page' } ≡ page_call f page start
        → More f start page' w total c
    more_left page' c h =
        let rest = drop k L in
        let count : c ≡ page_count w page rest = ap (λ (x : Ended Paged (List ℕ)). (paged_in x.outcome).count) (h ∙ called) in
        let more : true ≡ more_after w page rest = ap (λ (x : Ended Paged (List ℕ)). (paged_in x.outcome).more) (h ∙ called) in
        let after : page' ≡ page_after w page rest = ap (λ (x : Ended Paged (List ℕ)). x.buffers) (h ∙ called) in
        let some_left = ltb-true (page_count w page rest) (length rest) (sym more) in
        let (some_written, within) = full_page w page rest (wide f (accepted f ok)) room some_left in
        let size = length-drop k L in
        let few : k + page_count w page rest ≤ length L = omega (arith, run.few) in
        let last = last_written k page run.few some_written in
        let kept = length_page_after w page rest (λ p m. part_length part p (drop_out k L m)) in
        let now : length (left (k + page_count w page rest)) ≡ length L - (k + page_count w page rest) =
        ap length (left_is (k + page_count w page rest) few) ∙ length-drop (k + page_count w page rest) L in
        let before : length (rest_after L start) ≡ length rest = ap (λ (p : List ℕ). length (rest_after L p)) run.last ∙ ap length (left_is k run.few) in
        rw (count, after) (record {
          some_written = some_written;
          within = omega (arith, kept);
          run = record { written = k + page_count w page rest; few = few; last = last; count = omega (arith, run.count) };
          fewer = rw last (omega (arith, now, before));
        })
