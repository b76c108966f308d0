-- What the functions below `print_file` are given, and what Page's answers say of a run.
use mathlib.Core.Path.{◌∙◌, ◌≡◌, ap, refl, sym}
use mathlib.Core.Bool.{Bool, false, true}
use mathlib.Core.Option.{none}
use mathlib.Core.List.Memᴰ.{head as here}
use mathlib.Core.List.{List, [], ◌∷◌}
use Prim.Native.Nat.{◌*◌, ◌+◌, ◌-◌, ◌<◌, ◌^◌, ◌≤◌, min, pred, suc, ℕ}
use native.Mathlib.Nat.{suc-mul}
use native.Mathlib.Omega.{arith}
use lib.Dec.{leb}
use lib.ListN.{drop, length, length-drop, length-take, take}
use borrow.Author.Tests.{le-leb}
use Rattle.lists.proofs.Tests.{T_true}
use Rattle.graph.specs.Graph.{width}
use Rattle.checks.specs.Checks.{answered, first_unmet, refused}
use Rattle.checks.proofs.Checks.{met_all}
use Rattle.checks.proofs.Ended.{ended_answered, unmet_parts}
use Rattle.network_file.specs.File.{Sizes, file_checks, network_of, sizes_of}
use Rattle.network_file.proofs.Accepted.{accepted}
use Rattle.fields.specs.Fields.{sizes_in}
use Rattle.fields.specs.declared.Header.{Header}
use Rattle.pages.specs.Pages.{rest_after}
use Rattle.operations.specs.Operations.{Paged, check, graph_in, layouts_in, page_call, page_checks, pick_call, some_tree, start_checks}
use Rattle.operations.proofs.Files.{node_count_lem}
use Rattle.treelist.specs.Given.{Given}
use Rattle.treelist.proofs.Run.{More, Run, all_written, more_left, never_refused}

-- A file that Open takes

pub sizes_in_lem : (f : List ℕ) {h : Header} → first_unmet (file_checks f) ≡ none → sizes_in h ≡ sizes_of f → (2 ≤ h.n) × (h.n ≤ 32) × (1 ≤ h.k) × (h.k ≤ 4)
sizes_in_lem f {h} met sizes =
    let a = accepted f met in
    let n = ap (λ (s : Sizes). s.n) sizes in
    let k = ap (λ (s : Sizes). s.k) sizes in
    (omega (arith, a.nodes_low), omega (arith, a.nodes_high), omega (arith, a.criteria_low), omega (arith, a.criteria_high))

-- where Page answers, there is a tree
pub answered_given : {f : List ℕ} {h : Header} {a : Paged} (page : List ℕ) → first_unmet (file_checks f) ≡ none → sizes_in h ≡ sizes_of f
    → answered a ≡ (page_call f page []).outcome → Given f h
unfolding page_call page_checks
answered_given {f} {h} {a} page met sizes told =
    let behind_file = check 12 (some_tree (layouts_in f)) ∷ check 11 (leb (width (graph_in f)) (length page)) ∷ start_checks (network_of f) [] in
    let all = (ended_answered (page_checks f page []) _ page _ a (sym told)).0 in
    let behind = (unmet_parts (file_checks f) behind_file all).1 in
    let (low, high, some, criteria) = sizes_in_lem f met sizes in
    record {
      met = met;
      sizes = sizes;
      low = low;
      high = high;
      some = some;
      criteria = criteria;
      tree = (T_true _).1 ((met_all behind_file).0 behind (check 12 (some_tree (layouts_in f))) (here refl));
    }

-- A call of Page in a run, which leaves the page as `after`.
pub record Called (f : List ℕ) (h : Header) (start page : List ℕ) (total : ℕ) : Type 0 where
  pub given : Given f h
  pub run : Run f start total
  pub room : h.n - 1 ≤ length page

module _ {f : List ℕ} {h : Header} {start page : List ℕ} {total : ℕ} (call : Called f h start page total) where
  -- the width of the trees, as the code has it
  given_width : h.n - 1 ≡ width (graph_in f)
  given_width =
      let n = ap (λ (s : Sizes). s.n) call.given.sizes in
      let is : h.n - 1 ≡ pred (length (graph_in f).nodes) = omega (arith, node_count_lem f) in
      is

  fits : width (graph_in f) ≤ length page
  fits = omega (arith, given_width, call.room)

  pub not_refused : {after : List ℕ} {n : ℕ} → record { outcome = refused n; buffers = after } ≡ page_call f page start → ⊥
  not_refused {after} {n} = never_refused f call.given.met call.given.tree start page total call.run fits after n

  module _ {after : List ℕ} {c : ℕ} {m : Bool} (ends : record { outcome = answered (record { count = c; more = m }); buffers = after } ≡ page_call f page start) where
    -- the same, with the mark as it is told
    marked : {t : Bool} → m ≡ t → record { outcome = answered (record { count = c; more = t }); buffers = after } ≡ page_call f page start
    marked told = ap (λ (b : Bool). record { outcome = answered (record { count = c; more = b }); buffers = after }) (sym told) ∙ ends

    pub last_page : m ≡ false → min (total + c) (2 ^ 64 - 1) ≡ min (length (layouts_in f)) (2 ^ 64 - 1)
    last_page none_left = all_written f call.given.met call.given.tree start page total call.run fits after c (marked none_left)

    pub page_left : m ≡ true → More f start after (h.n - 1) total c
    page_left some_left = rw given_width (more_left f call.given.met call.given.tree start page total call.run fits after c (marked some_left))

-- Pick's part, where the tree ends within the page
picked : (n t : ℕ) (page : List ℕ) → 2 ≤ n → n ≤ 32 → t * (n - 1) + (n - 1) ≤ length page → pick_call n page t ≡ take (n - 1) (drop (t * (n - 1)) page)
unfolding pick_call
picked n t page low high h = simp (le-leb _ _ low, le-leb _ _ high, le-leb _ _ h)

-- The run goes on after the copy of the last tree of the page: where it stands then, and that fewer trees are left.
pub copied_on : {f start page : List ℕ} {n total total' c : ℕ} (tree part : List ℕ) → 2 ≤ n → n ≤ 32 → More f start page (n - 1) total c
    → part ≡ pick_call n page (c - 1) → (length part ≤ 31 → take (length part) tree ≡ part) → total' ≡ min (total + c) (2 ^ 64 - 1)
    → Run f (take (n - 1) tree) total' × (length (rest_after (layouts_in f) (take (n - 1) tree)) < length (rest_after (layouts_in f) start))
copied_on {f} {start} {page} {n} {total} {total'} {c} tree part low high more e copied held =
    let some_written = more.some_written in
    let next : suc (c - 1) ≡ c = omega arith in
    let fits : (c - 1) * (n - 1) + (n - 1) ≤ length page = omega (arith, more.within, suc-mul (c - 1) (n - 1), ap (λ (k : ℕ). k * (n - 1)) next) in
    let is : part ≡ take (n - 1) (drop ((c - 1) * (n - 1)) page) = e ∙ picked n (c - 1) page low high fits in
    let long : length part ≡ n - 1 = ap length is ∙ simp (length-take, length-drop) (omega arith) in
    let same : take (n - 1) tree ≡ take (n - 1) (drop ((c - 1) * (n - 1)) page) = ap (λ (k : ℕ). take k tree) (sym long) ∙ copied (omega arith) ∙ is in
    rw (same, held) (more.run, more.fewer)
