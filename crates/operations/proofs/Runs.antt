-- Demand 3, of pages: a run of Page calls over an accepted file whose network has a tree writes the first trees of the list, as many
-- as the pages hold, is refused only by 11, and marks truly (`claim`). In such a run Page is refused only by 11: `page_call_lem`.
use mathlib.Core.Path.{◌∙◌, ◌≡◌, ap, refl, subst, sym}
use mathlib.Core.Bool.{Bool, false, true}
use mathlib.Core.Option.{Option, none, some}
use mathlib.Core.Logic.{◌↔◌, ⊎_elim}
use mathlib.Core.List.Memᴰ.{cases_cons as mem_cases}
use mathlib.Core.List.Memᴰ.{not-nil as mem_nil}
use mathlib.Core.List.{List, [], ◌++◌, ◌∷◌}
use Prim.Native.Nat.{◌+◌, ◌/◌, ◌<◌, ◌≤◌, min, suc, zero, ℕ}
use native.Mathlib.Nat.{add_assoc, add-zero, min-zero, zero-add}
use native.Mathlib.Omega.{arith}
use lib.Dec.{T, eqb, leb, ltb, lt→ltb}
use lib.ListN.{length, length-take, take}
use borrow.Author.Tests.{eq-eqb, le-ltb, leb-false, leb-true, lt-ltb}
use Rattle.lists.specs.Lists.{all, pick, sum}
use Rattle.lists.proofs.Ascending.{at_mem}
use Rattle.lists.proofs.Members.{◌∈◌, all_in}
use Rattle.lists.proofs.Tests.{T_true}
use Rattle.graph.specs.Graph.{is_tree, width}
use Rattle.graph.specs.Paths.{is_minimal}
use Rattle.graph.proofs.Minimal.{WellFormed}
use Rattle.graph.proofs.Parts.{part_distinct, part_length}
use Rattle.graph.proofs.Tree.{minimal_tree, tree_out}
use Rattle.checks.specs.Checks.{Ended, Outcome, answered, first_unmet, refused}
use Rattle.checks.proofs.Checks.{first_unmet_append, first_unmet_met, first_unmet_unmet}
use Rattle.checks.proofs.Ended.{ended_met, ended_unmet}
use Rattle.costs.specs.Layouts.{keeps_states, layouts}
use Rattle.costs.specs.Network.{Network, graph_of}
use Rattle.costs.proofs.Layouts.{layouts_mem, layouts_part}
use Rattle.network_file.specs.File.{file_checks, network_of}
use Rattle.network_file.proofs.Accepted.{accepted}
use Rattle.pages.specs.Pages.{Answer, answer, call, last_of, mark_of, read_back, rest_after, room}
use Rattle.pages.proofs.Pages.{last_of_at, mark_for, mark_for_right, step}
use Rattle.operations.specs.Operations.{Paged, check, drawn_checks, graph_in, layouts_in, page_call, page_checks, some_tree, start_checks, tree_checks}
use Rattle.operations.specs.Runs.{Call, adds, run_from, run_of}
use Rattle.operations.proofs.Files.{formed, wide}

-- A tree of the list as a start

-- it passes the checks of a start
pub listed_passes : (w : Network) → WellFormed (graph_of w) → (p : List ℕ) → p ∈ layouts w → first_unmet (start_checks w p) ≡ none
unfolding start_checks drawn_checks tree_checks first_unmet
listed_passes w wf [] m = refl
listed_passes w wf (r ∷ rs) m =
    let (t, keeps) = (layouts_mem w wf (r ∷ rs)).0 m in
    let tree : T (is_tree (graph_of w) (r ∷ rs)) = minimal_tree (graph_of w) wf (r ∷ rs) t in
    let long : eqb (length (r ∷ rs)) (width (graph_of w)) ≡ true = eq-eqb _ _ (part_length (layouts_part w) (r ∷ rs) m) in
    let known : all (λ r. ltb r (length (graph_of w).first_ends)) (r ∷ rs) ≡ true =
    (T_true _).0 (all_in (λ r. ltb r (length (graph_of w).first_ends)) (r ∷ rs) (λ q i. lt→ltb q (length (graph_of w).first_ends) ((tree_out (graph_of w) (r ∷ rs) tree).rows q i))) in
    rw (long, known, (T_true (is_tree (graph_of w) (r ∷ rs))).0 tree, (T_true (keeps_states w (r ∷ rs))).0 keeps, (T_true (is_minimal (graph_of w) (r ∷ rs))).0 t) refl

-- so does the last of the first k trees, or the empty start
last_passes : (w : Network) → WellFormed (graph_of w) → (k : ℕ) → k ≤ length (layouts w) → first_unmet (start_checks w (last_of (take k (layouts w)))) ≡ none
unfolding start_checks first_unmet
last_passes w wf zero h = refl
last_passes w wf (suc i) h = listed_passes w wf (last_of (take (suc i) (layouts w))) (at_mem (layouts w) i (last_of_at (layouts w) i h))

-- A call of the run is one of crate pages, which refuses a short page alone

abbrev pub outcome_in : Option Answer → Outcome Paged
outcome_in none = refused 11
outcome_in (some a) = answered (record { count = a.count; more = a.more })

abbrev pub page_in : List ℕ → Option Answer → List ℕ
page_in page none = page
page_in page (some a) = a.page

abbrev pub call_in : List ℕ → Option Answer → Ended Paged (List ℕ)
call_in page a = record { outcome = outcome_in a; buffers = page_in page a }

-- Demand 3, of pages

-- a refusal is 11, and an answer's mark is 'more' exactly if fewer than n trees are written up to and with it
abbrev pub Right : ℕ → Outcome Paged → ℕ → Type 0
Right n (refused e) up_to = e ≡ 11
Right n (answered a) up_to = T a.more ↔ (up_to < n)

-- document 01's S is the length of the list, w the length of what is written, and f the room of the pages
pub record Claim (f : List ℕ) (pages : List (List ℕ)) : Type 0 where
  pub written : (run_of f pages).written ≡ take (length (run_of f pages).written) (layouts_in f)
  pub count : length (run_of f pages).written ≡ min (length (layouts_in f)) (room (width (graph_in f)) pages)
  pub calls : (c : Call) → c ∈ (run_of f pages).calls → Right (length (layouts_in f)) c.outcome c.up_to

adds_read : (w : ℕ) (page : List ℕ) (a : Option Answer) → adds w (outcome_in a) (page_in page a) ≡ read_back w a
adds_read w page none = refl
adds_read w page (some a) = refl

right_mark : (b : Bool) (k n : ℕ) (now : List (List ℕ)) (a : Option Answer) → mark_of now a ≡ mark_for b k n → Right n (outcome_in a) (length now)
right_mark b k n now none e = refl
right_mark b k n now (some a) e = mark_for_right b k n (record { up_to = length now; more = a.more }) e

module _ (f : List ℕ) (ok : first_unmet (file_checks f) ≡ none) (tree : T (some_tree (layouts_in f))) where
  abbrev net : Network
  net = network_of f

  abbrev w : ℕ
  w = width (graph_in f)

  abbrev L : List (List ℕ)
  L = layouts_in f

  -- a short page is refused by 11, before the start is looked at
  page_short : (page start : List ℕ) → leb w (length page) ≡ false → first_unmet (page_checks f page start) ≡ some 11
  unfolding page_checks
  page_short page start h =
      first_unmet_append (file_checks f) (check 12 (some_tree L) ∷ check 11 (leb w (length page)) ∷ start_checks net start) ok
      ∙ first_unmet_met (check 12 (some_tree L)) (check 11 (leb w (length page)) ∷ start_checks net start) ((T_true _).0 tree)
      ∙ first_unmet_unmet (check 11 (leb w (length page))) (start_checks net start) h

  page_long : (page start : List ℕ) → leb w (length page) ≡ true → first_unmet (start_checks net start) ≡ none → first_unmet (page_checks f page start) ≡ none
  unfolding page_checks
  page_long page start h m =
      first_unmet_append (file_checks f) (check 12 (some_tree L) ∷ check 11 (leb w (length page)) ∷ start_checks net start) ok
      ∙ first_unmet_met (check 12 (some_tree L)) (check 11 (leb w (length page)) ∷ start_checks net start) ((T_true _).0 tree)
      ∙ first_unmet_met (check 11 (leb w (length page))) (start_checks net start) h
      ∙ m

  -- In the run Page is refused only by 11, and otherwise answers as a call of crate pages.
  pub page_call_lem : (k : ℕ) → k ≤ length L → (page : List ℕ)
      → page_call f page (last_of (take k L)) ≡ call_in page (call w L (last_of (take k L)) page)
  unfolding page_call
  page_call_lem k h page = by (leb w (length page)) refl
    where
      start : List ℕ
      start = last_of (take k L)

      -- `call` asks whether the page is short
      called : Bool → Ended Paged (List ℕ)
      called short = call_in page (pick short none (some (answer w page (rest_after L start))))

      by : (b : Bool) → leb w (length page) ≡ b → page_call f page start ≡ call_in page (call w L start page)
      by true e =
          ended_met (page_checks f page start) _ page _ (page_long page start e (last_passes net (formed f (accepted f ok)) k h))
          ∙ ap called (sym (le-ltb (length page) w (leb-true w (length page) e)))
      by false e =
          ended_unmet (page_checks f page start) _ page _ 11 (page_short page start e)
          ∙ ap called (sym (lt-ltb (length page) w (leb-false w (length page) e)))

  -- the trees that are written once there was room for s
  abbrev up_to : ℕ → List (List ℕ)
  up_to s = take (min (length L) s) L

  abbrev ended_at : ℕ → List ℕ → Ended Paged (List ℕ)
  ended_at s page = page_call f page (last_of (up_to s))

  claim_from : (s : ℕ) (pages : List (List ℕ)) → ((run_from f (up_to s) pages).written ≡ up_to (s + room w pages))
      × ((c : Call) → c ∈ (run_from f (up_to s) pages).calls → Right (length L) c.outcome c.up_to)
  unfolding run_from sum
  claim_from s [] = (rw add-zero refl, λ c m. absurd (mem_nil m))
  claim_from s (page ∷ pages) =
      let s' = s + length page / w in
      let (e, m) = step w L (wide f (accepted f ok)) (part_distinct (layouts_part net)) (part_length (layouts_part net)) s page (ltb (length page) w) refl in
      let a = call w L (last_of (up_to s)) page in
      let r : ended_at s page ≡ call_in page a = page_call_lem (min (length L) s) (omega arith) page in
      let now : up_to s ++ adds w (ended_at s page).outcome (ended_at s page).buffers ≡ up_to s' =
      ap (λ (x : Ended Paged (List ℕ)). up_to s ++ adds w x.outcome x.buffers) r ∙ ap (λ (l : List (List ℕ)). up_to s ++ l) (adds_read w page a) ∙ e in
      let later = claim_from s' pages in (
        ap (λ (l : List (List ℕ)). (run_from f l pages).written) now ∙ later.0 ∙ ap up_to (add_assoc s (length page / w) (room w pages)),
        λ c i. ⊎_elim
            (λ (h : c ≡ record { outcome = (ended_at s page).outcome; up_to = length (up_to s ++ adds w (ended_at s page).outcome (ended_at s page).buffers) }).
            subst (λ (x : Call). Right (length L) x.outcome x.up_to) (sym h)
            (subst (λ (x : Ended Paged (List ℕ)). Right (length L) x.outcome (length (up_to s ++ adds w (ended_at s page).outcome (ended_at s page).buffers))) (sym r)
            (subst (λ (l : List (List ℕ)). Right (length L) (outcome_in a) (length l)) (sym now)
            (right_mark (ltb (length page) w) (min (length L) s') (length L) (up_to s') a m))))
            (λ h. later.1 c (subst (λ (l : List (List ℕ)). c ∈ (run_from f l pages).calls) now h))
            (mem_cases i),
      )

  pub claim : (pages : List (List ℕ)) → Claim f pages
  claim pages =
      let h = rw (min-zero, zero-add) at (claim_from 0 pages) in
      let long : length (run_of f pages).written ≡ min (length L) (room w pages) =
      ap length h.0 ∙ length-take (min (length L) (room w pages)) L ∙ omega arith in
      record { written = h.0 ∙ ap (λ (k : ℕ). take k L) (sym long); count = long; calls = h.1 }
