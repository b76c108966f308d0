-- What the walk answers is what stands next in the chart's list (`comes_after`), by a turn too (`comes_turned`), or first of all (`comes_first`); so from a start on
-- (`begins_after`, `begins_first`).
use mathlib.Core.Path.{◌∙◌, ◌≡◌, ap, refl, subst, sym}
use mathlib.Core.Option.{Option, none, some}
use Rattle.std.specs.declared.option.Option as code
use Rattle.std.specs.Prelude.{IfSome, None, Some}
use Rattle.std.proofs.lemmas.Option.{IfSome_then}
use mathlib.Core.List.Memᴰ.{head as here}
use mathlib.Core.List.{List, [], ◌∷◌, append-nil}
use Prim.Native.Nat.{◌<◌, ◌≤◌, ℕ}
use native.Mathlib.Omega.{arith}
use lib.ListN.{get_elem?, length}
use Rattle.lists.proofs.Members.{◌∈◌}
use Rattle.chart.proofs.Charts.{Charts, small}
use Rattle.chart.specs.Chart.{graph_in, list_in, musts_in, plant_in, width_in}
use Rattle.graph.proofs.Growth.{rows_of, rows_of_length, start}
use Rattle.graph.proofs.Parts.{Part, first_in_lem, part_length}
use Rattle.graph.specs.Graph.{row_numbers}
use Rattle.graph.specs.Paths.{Key}
use Rattle.grow.proofs.Leads.{MustsLead}
use Rattle.pages.proofs.TreePages.{Starts, next_behind, none_behind}
use Rattle.pages.specs.Pages.{behind}
use Rattle.paths.specs.Path.{plant_of}
use Rattle.paths.specs.declared.Path.{Path}
use Rattle.states.proofs.Beyond.{full_part}
use Rattle.states.proofs.Full.{Full}
use Rattle.states.proofs.With.{full_of_with, with_of, with_part_lem}
use Rattle.trace.proofs.Traced.{traced}
use Rattle.trace.specs.Trace.{traced_in}
use Rattle.trail.specs.Trail.{TurnsTo, turned_by}
use Rattle.trail.specs.declared.Turn.{Turn}
use Rattle.walk.proofs.Behind.{after_beyond, first_none, first_some, last_path, next_path}
use Rattle.walk.specs.Walk.{after_of, first_in, next_of}
use Rattle.fill.specs.Walkable.{Begins, Comes, Walkable}

-- the path that a turn makes of one
abbrev pub turned : List ℕ → List Key → Turn → List Key
turned c keys t = turned_by c (plant_in c) keys t.at t.row

-- and where there is no turn, none
abbrev pub turned_or : List ℕ → List Key → code.Option Turn → Option (List Key)
turned_or c keys (Some t) = some (turned c keys t)
turned_or c keys None = none

-- the trees with all must rows are a part of those of the graph, in its order
pub list_part : (c : List ℕ) → Part (graph_in c) (list_in c)
list_part c = with_part_lem (graph_in c) (musts_in c)

-- all its trees have its width
pub listed_long : {c : List ℕ} → Walkable c → (p : List ℕ) → p ∈ list_in c → length p ≡ width_in c
listed_long {c} w p m = omega (arith, part_length (list_part c) p m, w.right.wide)

-- from a path with all must rows on: the tree behind it
module _ {c : List ℕ} (w : Walkable c) (keys : List Key) (full : Full (graph_in c) (start (graph_in c)) (musts_in c) keys) where
  listed : rows_of keys ∈ list_in c
  listed = with_of (graph_in c) w.right.charted.formed (musts_in c) keys full

  pub full_long : length keys ≡ width_in c
  full_long = sym (rows_of_length keys) ∙ listed_long w (rows_of keys) listed

  abbrev next : Option (List ℕ)
  next = get_elem? (behind (rows_of keys) (list_in c)) 0

  comes_after : (len : ℕ) → width_in c ≤ len → Comes c (after_of c (plant_in c) keys len) (get_elem? (behind (rows_of keys) (list_in c)) 0)
  comes_after len all = by (after_of c (plant_in c) keys len) refl
    where
      by : (o : Option (List Key)) → after_of c (plant_in c) keys len ≡ o → Comes c o next
      by none e = none_behind (list_part c) (rows_of keys) listed (last_path w.right keys full len all e)
      by (some ls) e = (
        next_behind (list_part c) (rows_of keys) (rows_of ls) listed (next_path w.right keys full len all ls e),
        (after_beyond w.right keys full len ls e).full,
      )

  pub comes_turned : (turn : code.Option Turn) → TurnsTo c (plant_in c) keys turn
      → Comes c (turned_or c keys turn) (get_elem? (behind (rows_of keys) (list_in c)) 0)
  comes_turned (Some t) to = rw to.0 at (comes_after (length keys) (omega (arith, full_long)))
  comes_turned None to = rw to at (comes_after (length keys) (omega (arith, full_long)))

-- the first of all
module _ {c : List ℕ} (right : Charts c) (lead : MustsLead c) where
  pub comes_first : Comes c (first_in c) (get_elem? (list_in c) 0)
  comes_first = by (first_in c) refl
    where
      empty : (l : List (List ℕ)) → ((p : List ℕ) → ¬ (p ∈ l)) → get_elem? l 0 ≡ none
      empty [] h = refl
      empty (p ∷ l) h = absurd (h p (here refl))

      by : (o : Option (List Key)) → first_in c ≡ o → Comes c o (get_elem? (list_in c) 0)
      by none e = empty (list_in c) (first_none right e)
      by (some keys) e =
          let (full, least) = first_some right lead keys e in
          (first_in_lem (list_part c) (rows_of keys) least, full)

  -- behind an empty start
  pub begins_first : (n : code.Option Path) → IfSome n (λ path. plant_of path ≡ plant_in c) → next_of n ≡ first_in c → (begin : List ℕ) → length begin ≤ 0 → Begins c begin n
  begins_first n plant answer [] e = record { plant = plant; comes = rw answer comes_first }
  begins_first n plant answer (r ∷ rs) e = absurd (omega arith)

-- the path of a tree's rows
traced_full : {c : List ℕ} → Walkable c → (p : List ℕ) → p ∈ list_in c → Full (graph_in c) (start (graph_in c)) (musts_in c) (traced_in c p) × (p ≡ rows_of (traced_in c p))
traced_full {c} w p m =
    let g = graph_in c in
    let (ks, full, rows) = full_of_with g w.right.charted.formed (musts_in c) p m in
    let legals = (full_part {g = g} (start g) (musts_in c) ks [] (subst (Full g (start g) (musts_in c)) (sym (append-nil ks)) full)).0 in
    let short : length ks ≤ 31 = omega (arith, full_long w ks full, w.right.wide, small c) in
    let back : traced_in c p ≡ ks = sym (ap (traced_in c) rows) ∙ traced g (row_numbers g) ks legals short in
    (rw back full, rw back (sym rows))

-- behind one that is given
pub begins_after : {c : List ℕ} → Walkable c → (begin : List ℕ) → 0 < length begin → Starts (list_in c) begin → {plant : ℕ} {keys : List Key} → plant ≡ plant_in c
    → keys ≡ traced_in c begin → (n : code.Option Path) → IfSome n (λ path. plant_of path ≡ plant) → (len : ℕ) → width_in c ≤ len → next_of n ≡ after_of c plant keys len → Begins c begin n
begins_after w [] given starts plant_is keys_are n plant len all answer = absurd (omega arith)
begins_after {c} w (r ∷ rs) given starts plant_is keys_are n plant len all answer =
    let (full, rows) = traced_full w (r ∷ rs) (starts given) in
    record {
      plant = IfSome_then n plant (λ path e. e ∙ plant_is);
      comes = rw (answer, plant_is, keys_are) (subst (λ (q : List ℕ). Comes c (after_of c (plant_in c) (traced_in c (r ∷ rs)) len) (get_elem? (behind q (list_in c)) 0)) (sym rows)
          (comes_after w (traced_in c (r ∷ rs)) full len all));
    }
