-- What a question is asked of makes one of completions' questions (`question`), whose rows are a node of the search (`node`), and so what is found tells whether the
-- branch has a wanted path (`opened`).
use mathlib.Core.Path.{◌∙◌, ◌≡◌, subst, sym}
use mathlib.Core.Logic.{⊎_elim}
use mathlib.Core.Bool.{not}
use mathlib.Core.Option.{some}
use Rattle.std.specs.Option.{is_some}
use Rattle.std.specs.Prelude.{None, Option as Maybe, Some}
use mathlib.Core.List.Memᴰ.{append_cases}
use mathlib.Core.List.Memᴰ.{append_left}
use mathlib.Core.List.Memᴰ.{append_right}
use mathlib.Core.List.{List}
use Prim.Native.Nat.{◌<◌, ℕ}
use native.Mathlib.Decide.{dec_lt}
use native.Mathlib.Omega.{arith}
use lib.Dec.{T, T_not, not_T, eqb, eqb→eq}
use lib.ListN.{drop, get_or, length, take, take-append-drop}
use Rattle.lists.proofs.Maps.{map_take}
use Rattle.lists.proofs.Members.{◌∈◌, filter_in, filter_out, take_or_drop}
use Rattle.lists.proofs.Tests.{eq→eqb}
use Rattle.graph.specs.Graph.{Graph, row_numbers}
use Rattle.graph.specs.Paths.{Key, steps}
use Rattle.graph.proofs.Growth.{rows_of as rows_by, start}
use Rattle.graph.proofs.Minimal.{WellFormed, completion_rows}
use Rattle.graph.proofs.Unique.{rows_distinct}
use Rattle.graph.proofs.Walk.{completion_part}
use Rattle.costs.specs.Network.{Network}
use Rattle.bounds.proofs.After.{legals_steps}
use Rattle.bounds.proofs.Missing.{rows_map}
use Rattle.states.specs.States.{must_row}
use Rattle.states.proofs.With.{with_of}
use Rattle.completions.proofs.Find.{Answers}
use Rattle.completions.proofs.Witness.{Question, inc_forest, opens_none, opens_some, us_lie}
use Rattle.paths.specs.Path.{keys_of, rows_in}
use Rattle.paths.specs.declared.Path.{Path}
use Rattle.chosen.specs.Chosen.{rows_of, rows_on}
use Rattle.chosen.specs.declared.Chosen.{Chosen}
use Rattle.find.specs.Find.{Node, found_of, graph_in}
use Rattle.branch.specs.Branch.{Asked, Tells, flags_of, standing_of}
use Rattle.branch.proofs.Comes.{flags_usable}
use Rattle.branch.proofs.Laws.{standing_once, standing_within}

module _ {firsts seconds heads : List ℕ} {limit k : ℕ} {limits : List ℕ} {path : Path} {musts : List ℕ}
    (asked : Asked firsts seconds heads limit k limits path musts) where
  abbrev g : Graph
  g = graph_in firsts seconds limit

  formed : WellFormed g
  formed = asked.tables.formed

  -- the rows of the path, and those of its steps
  rows_are : rows_by (keys_of path) ≡ rows_in path
  rows_are = rows_map (keys_of path)

  known : (r : ℕ) → r ∈ rows_in path → r < length firsts
  known r m = completion_rows g formed (row_numbers g) (keys_of path) asked.full.completes r (subst (λ (l : List ℕ). r ∈ l) (sym rows_are) m)

  -- its rows are bytes
  pub small : (r : ℕ) → r ∈ rows_in path → r < 256
  small r m = omega (arith, known r m, asked.tables.few_rows)

  module _ (len : ℕ) where
    -- its first rows make its first steps
    made : steps g (take len (rows_in path)) ≡ some (take len (keys_of path))
    made =
        let ks = keys_of path in
        let done = (completion_part g (row_numbers g) (start g) (take len ks) (drop len ks) (rw take-append-drop asked.full.completes)).0 in
        subst (λ (l : List ℕ). steps g l ≡ some (take len ks)) (rows_map (take len ks) ∙ map_take (λ (k : Key). k.row) len ks)
        (legals_steps g (row_numbers g) (start g) (take len ks) done)

    -- a row of the path that its heads call a must row is one
    must_in : (r : ℕ) → r ∈ rows_in path → T (must_row heads r) → r ∈ musts
    unfolding must_row
    must_in r m t = (asked.heads_are r (known r m)).1 (positive (get_or heads r 0) t)
      where
        positive : (n : ℕ) → T (not (eqb n 0)) → 0 < n
        positive n t = elim (dec_lt 0 n) [ yes h ↦ h | no h ↦ absurd (T_not (eqb n 0) t (eq→eqb n 0 (omega arith))) ]

    must_out : (r : ℕ) → r ∈ rows_in path → r ∈ musts → T (must_row heads r)
    unfolding must_row
    must_out r m i = not_T (eqb (get_or heads r 0) 0) (λ t. omega (arith, eqb→eq (get_or heads r 0) 0 t, (asked.heads_are r (known r m)).0 i))

    abbrev inc : List ℕ
    inc = standing_of heads len (rows_in path)

    abbrev us : List ℕ
    us = rows_on (flags_of firsts seconds heads limit 1 (take len (keys_of path)))

    -- QUESTION
    pub question : Question g musts (rows_in path) len inc us
    unfolding standing_of
    question = record {
      listed = rw rows_are at (with_of g formed musts (keys_of path) asked.full);
      once = standing_once heads len (rows_in path) (rw rows_are at (rows_distinct g (row_numbers g) (start g) (keys_of path) asked.full.completes));
      within = standing_within heads len (rows_in path);
      first = λ r m. append_left _ m;
      must = λ r m.
          let mine = rw rows_are at (asked.full.all r m) in
          ⊎_elim (λ i. append_left _ i) (λ i. append_right (take len (rows_in path)) (filter_in (must_row heads) i (must_out r mine m))) (take_or_drop len (rows_in path) mine);
      only = λ r m n. ⊎_elim
          (λ i. absurd (n i))
          (λ i. must_in r (standing_within heads len (rows_in path) r m) (filter_out (must_row heads) (drop len (rows_in path)) i).1)
          (append_cases (take len (rows_in path)) m);
      usable = flags_usable firsts seconds limit (take len (rows_in path)) (take len (keys_of path)) made heads musts asked.tables.few_rows asked.heads_are;
    }

    -- NODE
    pub node : Node g k limits inc (flags_of firsts seconds heads limit 1 (take len (keys_of path)))
    node = record {
      forest = inc_forest g formed musts (rows_in path) len inc us question;
      lies = us_lie g formed musts (rows_in path) len inc us question;
      open_past_lem = asked.open_past_lem;
    }

    -- OPENED
    pub opened : (w : Network) (tree : Maybe Chosen) → Answers g w (take k limits) inc us (found_of tree) → Tells g w musts (take k limits) (take len (rows_in path)) (is_some tree)
    opened w (Some rows) a = (λ e. opens_some g formed musts (rows_in path) len inc us question w (take k limits) (rows_of rows) a, λ e. cc)
    opened w None a = (λ e. cc, λ e. opens_none g formed musts (rows_in path) len inc us question w (take k limits) a)
