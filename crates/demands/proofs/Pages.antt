-- Demand 3, of pages: once a call says that no tree is to come, what the run wrote is every tree of the network, each once (`complete`); and what a call of
-- Page leaves from whatever start (`page_from`).
use mathlib.Core.Path.{◌∙◌, ◌≡◌, ap, subst, sym}
use mathlib.Core.Bool.{false}
use mathlib.Core.Logic.{◌↔◌, ⊎_elim}
use mathlib.Core.List.Memᴰ.{cases_cons as mem_cases}
use mathlib.Core.List.Memᴰ.{not-nil as mem_nil}
use mathlib.Core.List.{List, [], ◌++◌, ◌∷◌}
use Prim.Native.Nat.{◌*◌, ◌-◌, ◌<◌, ◌≤◌, pred, suc, ℕ}
use native.Mathlib.Nat.{mul-le-mul_right, suc-mul}
use native.Mathlib.Omega.{arith}
use lib.Dec.{T}
use lib.ListN.{drop, get_or, length, length-append, length-take, take}
use lib.Seq.{drop_at, take_all}
use Rattle.lists.proofs.Distinct.{Distinct}
use Rattle.lists.proofs.Members.{◌∈◌, take_out}
use Rattle.graph.specs.Graph.{width}
use Rattle.graph.proofs.Parts.{part_distinct, part_length}
use Rattle.checks.specs.Checks.{Ended, answered}
use Rattle.checks.proofs.Ended.{ended_answered, ended_met}
use Rattle.costs.proofs.Layouts.{layouts_part}
use Rattle.network_file.specs.File.{network_of, sizes_of}
use Rattle.network_file.proofs.Accepted.{accepted}
use Rattle.pages.specs.Pages.{flat, last_of, more_after, page_after, page_count, pieces, rest_after}
use Rattle.pages.proofs.Pages.{length_flat, length_page_after, pieces_at, pieces_flat, rest_out, rows_end}
use Rattle.operations.specs.Operations.{Paged, graph_in, layouts_in, page_call, page_checks, pick_call, some_tree}
use Rattle.operations.specs.Runs.{Call, adds, run_from, run_of}
use Rattle.operations.proofs.Files.{node_count_lem}
use Rattle.operations.proofs.Picks.{picked}
use Rattle.operations.proofs.Runs.{Right, claim}
use Rattle.demands.specs.Demands.{EveryTree, PageFrom, Passes}
use Rattle.demands.proofs.Trees.{listed_is, path_of_tree}

-- The run

-- a run takes no tree back
grows : (f : List ℕ) (done pages : List (List ℕ)) → length done ≤ length (run_from f done pages).written
unfolding run_from
grows f done [] = omega arith
grows f done (page ∷ pages) =
    let e = page_call f page (last_of done) in
    let new = adds (width (graph_in f)) e.outcome e.buffers in
    omega (arith, length-append done new, grows f (done ++ new) pages)

-- what was written up to a call is written at the end
up_to_lem : (f : List ℕ) (done pages : List (List ℕ)) (c : Call) → c ∈ (run_from f done pages).calls → c.up_to ≤ length (run_from f done pages).written
unfolding run_from
up_to_lem f done [] c m = absurd (mem_nil m)
up_to_lem f done (page ∷ pages) c m =
    let e = page_call f page (last_of done) in
    let now = done ++ adds (width (graph_in f)) e.outcome e.buffers in
    ⊎_elim
    (λ (h : c ≡ record { outcome = e.outcome; up_to = length now }). subst (λ (x : Call). x.up_to ≤ length (run_from f now pages).written) (sym h) (grows f now pages))
    (λ (h : c ∈ (run_from f now pages).calls). up_to_lem f now pages c h)
    (mem_cases m)

module _ (f : List ℕ) (ok : Passes f) (tree : T (some_tree (layouts_in f))) where
  pub complete : (pages : List (List ℕ)) (c : Call) (a : Paged) → c ∈ (run_of f pages).calls → c.outcome ≡ answered a → a.more ≡ false
      → EveryTree f (run_of f pages).written
  complete pages c a m e last =
      let k = claim f ok tree pages in
      let r : T a.more ↔ (c.up_to < length (layouts_in f)) = subst (λ o. Right (length (layouts_in f)) o c.up_to) e (k.calls c m) in
      let n : ¬ (c.up_to < length (layouts_in f)) = λ h. subst T last (r.1 h) in
      let w : (run_of f pages).written ≡ layouts_in f =
      k.written ∙ take_all (length (run_of f pages).written) (layouts_in f) (omega (arith, n, up_to_lem f [] pages c m)) in
      record {
        all = w;
        once = subst Distinct (sym w) (part_distinct (layouts_part (network_of f)));
        trees_are_lem = λ p i. listed_is f ok p (subst (λ (l : List (List ℕ)). p ∈ l) w i);
        each = λ rows (t, keeps). let p = path_of_tree f ok rows t in (p.path, subst (λ (l : List (List ℕ)). p.path ∈ l) (sym w) (p.listed.0 keeps), p.within, p.around);
      }

-- A call from any start

module _ (f : List ℕ) (ok : Passes f) (page start : List ℕ) where
  abbrev w : ℕ
  w = width (graph_in f)

  abbrev rest : List (List ℕ)
  rest = rest_after (layouts_in f) start

  abbrev count : ℕ
  count = page_count w page rest

  abbrev paged : Paged
  paged = record { count = count; more = more_after w page rest }

  rest_sized : (p : List ℕ) → p ∈ rest → length p ≡ w
  rest_sized p m = part_length (layouts_part (network_of f)) p (rest_out (layouts_in f) start m)

  many : length (take count rest) ≡ count
  many = length-take count rest ∙ omega arith

  read : pieces w count (page_after w page rest) ≡ take count rest
  read =
      ap (λ (n : ℕ). pieces w n (page_after w page rest)) (sym many)
      ∙ pieces_flat w (take count rest) (drop (count * w) page) (λ p m. rest_sized p (take_out count rest m))

  kept : drop (count * w) (page_after w page rest) ≡ drop (count * w) page
  kept =
      drop_at (flat (take count rest)) (drop (count * w) page) (count * w)
      (length_flat w (take count rest) (λ p m. rest_sized p (take_out count rest m)) ∙ ap (λ (n : ℕ). n * w) many)

  tree_at : (t : ℕ) → t < count → pick_call (sizes_of f).n (page_after w page rest) t ≡ get_or (pieces w count (page_after w page rest)) t []
  tree_at t h =
      let a = accepted f ok in
      let n : (sizes_of f).n - 1 ≡ pred (length (graph_in f).nodes) = omega (arith, node_count_lem f) in
      let ends : suc t * w ≤ length (page_after w page rest) =
      omega (arith, mul-le-mul_right w h, rows_end count w (length page) (omega arith), length_page_after w page rest rest_sized) in
      picked (sizes_of f).n t (page_after w page rest) a.nodes_low a.nodes_high (rw n (omega (arith, suc-mul t w, ends)))
      ∙ (rw n) ∙ sym (pieces_at w count (page_after w page rest) t h)

  page_is : (page_call f page start).buffers ≡ page_after w page rest → PageFrom f page start paged
  page_is e = record {
    written = rw e read;
    listed = λ p m. rest_out (layouts_in f) start (take_out count rest (subst (λ (l : List (List ℕ)). p ∈ l) read (rw e at m)));
    rest = rw e kept;
    picked = λ t h. rw e (tree_at t h);
  }

  pub page_from : (a : Paged) → (page_call f page start).outcome ≡ answered a → PageFrom f page start a
  unfolding page_call
  page_from a h =
      let (met, e) = ended_answered (page_checks f page start) paged page (page_after w page rest) a h in
      subst (PageFrom f page start) e (page_is (ap (λ (x : Ended Paged (List ℕ)). x.buffers) (ended_met (page_checks f page start) paged page (page_after w page rest) met)))
