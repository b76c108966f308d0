-- THE LAWS OF THE INDEX. The part of a buffer that a build filled, handed to a fetch with the same file and s, gives the list's tree t, or 26 where the list has none
-- (`built_fetched`, `built_past`). With any index an answer is the tree so many places behind the entry found there, which is a tree of the list (`fetch_any`).
use mathlib.Core.Path.{◌∙◌, ◌≡◌, ap, ap₂, refl, sym}
use mathlib.Core.Bool.{true}
use mathlib.Core.Option.{none, some}
use mathlib.Core.List.Memᴰ.{head as here}
use mathlib.Core.List.Memᴰ.{tail as there}
use mathlib.Core.List.{List, [], ◌++◌, ◌∷◌}
use Prim.Native.Nat.{◌%◌, ◌*◌, ◌+◌, ◌/◌, ◌<◌, ◌≤◌, ℕ}
use native.Mathlib.Decide.{dec_lt}
use native.Mathlib.Nat.{div-add-mod', mul-le-mul_right}
use native.Mathlib.Omega.{arith}
use lib.Dec.{leb, ltb}
use lib.ListN.{drop, get_or, get_elem?, length, length-drop, take}
use lib.Seq.{length-take-le, take-append_seam}
use borrow.Author.Tests.{leb-true, ltb-true}
use Rattle.lists.proofs.Ascending.{at_get_or, at_mem, get_d_at, mem_at}
use Rattle.lists.proofs.Distinct.{Distinct}
use Rattle.lists.proofs.Members.{◌∈◌}
use Rattle.graph.specs.Graph.{width}
use Rattle.graph.proofs.Parts.{part_distinct, part_length}
use Rattle.checks.specs.Checks.{Check, Ended, answered, first_unmet, refused}
use Rattle.checks.proofs.Checks.{met_all}
use Rattle.checks.proofs.Ended.{ended_answered, ended_met, unmet_parts}
use Rattle.network_file.specs.File.{file_checks, network_of, within}
use Rattle.network_file.proofs.Accepted.{Accepted, accepted}
use Rattle.operations.specs.Operations.{check, graph_in, layouts_in, over, some_tree}
use Rattle.operations.proofs.Files.{formed, layouts_in_lem, wide}
use Rattle.operations.proofs.Passing.{start_listed}
use Rattle.operations.proofs.Runs.{listed_passes}
use Rattle.pages.specs.Pages.{flat}
use Rattle.pages.proofs.Pages.{length_flat}
use Rattle.indexes.specs.Index.{entry_at, entry_checks, fetch_call, fetch_checks, index_call, index_checks, indexed, onward, spaced}
use Rattle.indexes.proofs.Checks.{entry_start, fetch_ends, fetch_met, fetch_none, spacing_least}
use Rattle.indexes.proofs.Every.{every_part, flat_at, index_entry, index_is}
use Rattle.indexes.proofs.Onward.{onward_at, onward_long}

module _ (f : List ℕ) (ok : first_unmet (file_checks f) ≡ none) where
  abbrev L : List (List ℕ)
  L = layouts_in f

  abbrev w : ℕ
  w = width (graph_in f)

  file : Accepted f
  file = accepted f ok

  once : Distinct L
  once = part_distinct (layouts_in_lem f file)

  tree_long : (p : List ℕ) → p ∈ L → length p ≡ w
  tree_long = part_length (layouts_in_lem f file)

  -- an entry is asked whether it is a tree of the list
  pub entry_met : (p : List ℕ) → p ∈ L → first_unmet (entry_checks (network_of f) p) ≡ none
  entry_met p m = sym (entry_start (network_of f) p (omega (arith, tree_long p m, wide f file)) (tree_long p m)) ∙ listed_passes (network_of f) (formed f file) p m

  pub entry_listed : (p : List ℕ) → length p ≡ w → first_unmet (entry_checks (network_of f) p) ≡ none → p ∈ L
  entry_listed [] long h = absurd (omega (arith, wide f file))
  entry_listed (r ∷ rs) long h = start_listed (network_of f) (formed f file) r rs (entry_start (network_of f) (r ∷ rs) (omega arith) long ∙ h)

  module _ (s : ℕ) (right : within 1 1000 s ≡ true) where
    low : 1 ≤ s
    low = spacing_least s right

    entries_long : (p : List ℕ) → p ∈ indexed s L → length p ≡ w
    entries_long p i = tree_long p (every_part s L 0 p i)

    -- the part of a buffer that holds the index
    built_part : (index : List ℕ) → take (length (indexed s L) * w) (over (flat (indexed s L)) index) ≡ flat (indexed s L)
    built_part index =
        ap (λ (n : ℕ). take n (over (flat (indexed s L)) index)) (sym (length_flat w (indexed s L) entries_long))
        ∙ take-append_seam (flat (indexed s L)) (drop (length (flat (indexed s L))) index)

    module _ (t : ℕ) (buffer : List ℕ) (room : w ≤ length buffer) where
      parts : t / s * s + t % s ≡ t
      parts = div-add-mod' t s

      -- the entry for t stands in the list at place i
      module _ (index : List ℕ) (held : t / s * w + w ≤ length index) (i : ℕ) (e : get_elem? L i ≡ some (entry_at w index (t / s))) where
        abbrev p : List ℕ
        p = entry_at w index (t / s)

        met : first_unmet (entry_checks (network_of f) p) ≡ none
        met = entry_met p (at_mem L i e)

        pub fetch_found : i + t % s < length L → fetch_call f s index t buffer ≡ record { outcome = answered (t % s); buffers = over (get_or L (i + t % s) []) buffer }
        fetch_found l =
            let reached : t % s < length (onward L p) = omega (arith, onward_long L i p once e) in
            let there : get_or (onward L p) (t % s) [] ≡ get_or L (i + t % s) [] =
            (get_d_at (onward L p) (t % s) [] (onward_at L i p once e (t % s) ∙ at_get_or L (i + t % s) [] l)).1 in
            sym (fetch_met f s index t buffer ok right room held met reached) ∙ ap (λ (q : List ℕ). record { outcome = answered (t % s); buffers = over q buffer }) there

        pub fetch_over : length L ≤ i + t % s → fetch_call f s index t buffer ≡ record { outcome = refused 26; buffers = buffer }
        fetch_over l = sym (fetch_ends f s index t buffer ok right room held met (omega (arith, onward_long L i p once e, (get_d_at L i [] e).0)))

      -- with the index built from the same file and s

      built_held : t / s < length (indexed s L) → t / s * w + w ≤ length (flat (indexed s L))
      built_held l = omega (arith, length_flat w (indexed s L) entries_long, mul-le-mul_right w l)

      built_entry : t / s < length (indexed s L) → get_elem? L (t / s * s) ≡ some (entry_at w (flat (indexed s L)) (t / s))
      built_entry l =
          at_get_or L (t / s * s) [] ((index_entry s low L (t / s)).0 l)
          ∙ ap some (sym (flat_at w (indexed s L) (t / s) entries_long l ∙ index_is s low L (t / s) l))

      -- THE LIST'S TREE t
      fetch_built : t < length L → fetch_call f s (flat (indexed s L)) t buffer ≡ record { outcome = answered (t % s); buffers = over (get_or L t []) buffer }
      fetch_built l =
          let k : t / s < length (indexed s L) = (index_entry s low L (t / s)).1 (omega (arith, parts)) in
          fetch_found (flat (indexed s L)) (built_held k) (t / s * s) (built_entry k) (omega (arith, parts))
          ∙ ap (λ (n : ℕ). record { outcome = answered (t % s); buffers = over (get_or L n []) buffer }) parts

      fetch_past : length L ≤ t → fetch_call f s (flat (indexed s L)) t buffer ≡ record { outcome = refused 26; buffers = buffer }
      fetch_past l = elim (dec_lt (t / s) (length (indexed s L))) [
        | yes k ↦ fetch_over (flat (indexed s L)) (built_held k) (t / s * s) (built_entry k) (omega (arith, parts))
        | no k ↦ sym (fetch_none f s (flat (indexed s L)) t buffer ok right room (past k))
      ]
        where
          past : ¬ (t / s < length (indexed s L)) → length (flat (indexed s L)) < t / s * w + w
          past k =
              let l : length (indexed s L) ≤ t / s = omega arith in
              omega (arith, length_flat w (indexed s L) entries_long, mul-le-mul_right w l, wide f file)

-- Built and fetched

module _ (f : List ℕ) (s : ℕ) (index : List ℕ) (n : ℕ) (e : (index_call f s index).outcome ≡ answered n) where
  -- the index as it was built: so many trees, from the first place on
  abbrev pub built : List ℕ
  built = take (n * width (graph_in f)) (index_call f s index).buffers

  abbrev entries : List (List ℕ)
  entries = indexed s (layouts_in f)

  abbrev checks : List Check
  checks = spaced s ∷ check 12 (some_tree (layouts_in f)) ∷ check 11 (leb (length entries * width (graph_in f)) (length index)) ∷ []

  answer : (first_unmet (index_checks f s index) ≡ none) × (length entries ≡ n)
  unfolding index_call
  answer = ended_answered (index_checks f s index) (length entries) index (over (flat entries) index) n e

  passed : (first_unmet (file_checks f) ≡ none) × (first_unmet checks ≡ none)
  unfolding index_checks
  passed = unmet_parts (file_checks f) checks answer.0

  -- the spacing was in range, and as many trees are held as the index has
  pub built_spaced : within 1 1000 s ≡ true
  built_spaced = (met_all checks).0 passed.1 (spaced s) (here refl)

  pub built_count : length entries ≡ n
  built_count = answer.1

  pub built_buffer : (index_call f s index).buffers ≡ over (flat entries) index
  unfolding index_call
  built_buffer = ap (λ (c : Ended ℕ (List ℕ)). c.buffers) (ended_met (index_checks f s index) (length entries) index (over (flat entries) index) answer.0)

  -- it holds the trees 0, s, 2 × s and so on, and nothing else
  built_is : built ≡ flat entries
  built_is =
      ap₂ (λ (n : ℕ) (l : List ℕ). take (n * width (graph_in f)) l) (sym built_count) built_buffer
      ∙ built_part f passed.0 s built_spaced index

  module _ (t : ℕ) (buffer : List ℕ) (room : width (graph_in f) ≤ length buffer) where
    -- the list's tree t, by t % s moves
    pub built_fetched : t < length (layouts_in f) → fetch_call f s built t buffer ≡ record { outcome = answered (t % s); buffers = over (get_or (layouts_in f) t []) buffer }
    built_fetched l = ap (λ (i : List ℕ). fetch_call f s i t buffer) built_is ∙ fetch_built f passed.0 s built_spaced t buffer room l

    pub built_past : length (layouts_in f) ≤ t → fetch_call f s built t buffer ≡ record { outcome = refused 26; buffers = buffer }
    built_past l = ap (λ (i : List ℕ). fetch_call f s i t buffer) built_is ∙ fetch_past f passed.0 s built_spaced t buffer room l

-- Fetched from any index

module _ (f : List ℕ) (s : ℕ) (index : List ℕ) (t : ℕ) (buffer : List ℕ) (m : ℕ) (e : (fetch_call f s index t buffer).outcome ≡ answered m) where
  abbrev found : List ℕ
  found = entry_at (width (graph_in f)) index (t / s)

  abbrev ends : Check
  ends = check 26 (ltb (t % s) (length (onward (layouts_in f) found)))

  abbrev heads : List Check
  heads = spaced s ∷ check 11 (leb (width (graph_in f)) (length buffer)) ∷ check 26 (leb (t / s * width (graph_in f) + width (graph_in f)) (length index)) ∷ []

  all_met : first_unmet (file_checks f ++ (heads ++ (entry_checks (network_of f) found ++ (ends ∷ [])))) ≡ none
  unfolding fetch_call fetch_checks
  all_met = (ended_answered (fetch_checks f s index t buffer) (t % s) buffer (over (get_or (onward (layouts_in f) found) (t % s) []) buffer) m e).0

  -- an answer is the list's tree so many places behind the entry for t, which is a tree of the list
  pub fetch_any : (i : ℕ) × (get_elem? (layouts_in f) i ≡ some found) × (i + t % s < length (layouts_in f))
      × (fetch_call f s index t buffer ≡ record { outcome = answered (t % s); buffers = over (get_or (layouts_in f) (i + t % s) []) buffer })
  fetch_any =
      let (ok, rest) = unmet_parts (file_checks f) (heads ++ (entry_checks (network_of f) found ++ (ends ∷ []))) all_met in
      let (begins, own) = unmet_parts heads (entry_checks (network_of f) found ++ (ends ∷ [])) rest in
      let (listed, end) = unmet_parts (entry_checks (network_of f) found) (ends ∷ []) own in
      let at_head = (met_all heads).0 begins in
      let right = at_head (spaced s) (here refl) in
      let room : width (graph_in f) ≤ length buffer = leb-true _ _ (at_head (check 11 (leb (width (graph_in f)) (length buffer))) (there (here refl))) in
      let held : t / s * width (graph_in f) + width (graph_in f) ≤ length index = leb-true _ _ (at_head _ (there (there (here refl)))) in
      let reached : t % s < length (onward (layouts_in f) found) = ltb-true _ _ ((met_all (ends ∷ [])).0 end ends (here refl)) in
      let long : length found ≡ width (graph_in f) =
      length-take-le (width (graph_in f)) (drop (t / s * width (graph_in f)) index) (omega (arith, length-drop (t / s * width (graph_in f)) index)) in
      let (i, at) = mem_at (entry_listed f ok found long listed) in
      let behind : i + t % s < length (layouts_in f) = omega (arith, onward_long (layouts_in f) i found (once f ok) at) in
      (i, at, behind, fetch_found f ok s right t buffer room index held i at behind)
