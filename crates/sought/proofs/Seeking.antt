-- The search for a witness (`Seeking`): it begins at the first path of the list (`seek_start`), goes on by a step where a wanted path begins so (`seek_deeper`), else to the path
-- behind all that begin so (`seek_after`), and ends at the first wanted path (`seek_end`).
use mathlib.Core.Path.{◌∙◌, ◌≡◌, ap, subst, sym}
use mathlib.Core.Bool.{Bool, false, true}
use mathlib.Core.Option.{some}
use Rattle.std.specs.Option.{IfSome, unwrap_or}
use Rattle.std.specs.Prelude.{None, Option as Maybe, Some}
use mathlib.Core.List.{List}
use Prim.Native.Nat.{◌+◌, ◌<◌, ◌≤◌, suc, ℕ}
use native.Mathlib.Numerals.{add-one}
use native.Mathlib.Omega.{arith}
use lib.ListN.{get_or, length, take}
use Rattle.graph.specs.Graph.{Graph, row_numbers}
use Rattle.graph.proofs.Growth.{rows_of, rows_of_length, start}
use Rattle.graph.proofs.Minimal.{sound_start}
use Rattle.graph.proofs.Parts.{FirstIn}
use Rattle.graph.proofs.Unique.{completion_length}
use Rattle.costs.specs.Network.{Network}
use Rattle.bounds.proofs.Missing.{rows_map}
use Rattle.bounds.proofs.Prefix.{AfterIn}
use Rattle.states.specs.States.{trees_with}
use Rattle.states.proofs.Full.{Full}
use Rattle.states.proofs.With.{with_part_lem}
use Rattle.passes.proofs.Places.{left}
use Rattle.completions.proofs.Witness.{Shuts, Sought, after_left, sought_after, sought_deeper, sought_end, sought_first, sought_none}
use Rattle.chart.specs.Chart.{graph_in, limit_in, musts_in, plant_in, width_in}
use Rattle.chosen.proofs.Flags.{on_mem}
use Rattle.tally.specs.Tally.{table_of}
use Rattle.find.specs.Find as find
use Rattle.branch.specs.Branch.{Asked, Tells}
use Rattle.paths.specs.Path.{keys_of, plant_of, rows_in}
use Rattle.paths.specs.declared.Path.{Path}
use Rattle.grow.specs.Musts.{first_of}
use Rattle.walk.specs.Walk.{after_of, next_of}
use Rattle.walk.proofs.Behind.{after_beyond, after_path, after_in, first_path_lem, last_after}
use Rattle.sought.specs.Sought.{First, Ready, Wanted}

module _ {c firsts seconds heads : List ℕ} {k : ℕ} (ready : Ready c firsts seconds heads k) (kinds prices leads limits : List ℕ) where
  abbrev g : Graph
  g = graph_in c

  abbrev w : Network
  w = table_of kinds k prices leads

  abbrev musts : List ℕ
  musts = musts_in c

  abbrev lim : List ℕ
  lim = take k limits

  abbrev entries : List (List ℕ)
  entries = trees_with g musts

  planted : plant_in c ≡ 1
  planted = ap (λ (x : Graph). x.plant) (sym ready.graph_is)

  -- the walk stands at a path of the list of which a wanted one has the first len rows, and no wanted path stands before it
  pub record Seeking (path : Path) (len : ℕ) : Type 0 where
    pub whole : Full g (start g) musts (keys_of path)
    pub planted : plant_of path ≡ 1
    pub at : Sought g w musts lim (rows_in path) len
    pub short : len ≤ width_in c

  same_rows_lem : (path : Path) → rows_of (keys_of path) ≡ rows_in path
  same_rows_lem path = rows_map (keys_of path)

  pub seek_start : {path : Path} → plant_of path ≡ plant_in c → keys_of path ≡ first_of c → Wanted c kinds k prices leads limits → Seeking path 0
  seek_start {path} same e (q, fine) =
      let (full, first) = first_path_lem ready.right q fine.0 in
      record {
        whole = rw e full;
        planted = same ∙ planted;
        at = sought_first g w musts lim (rows_in path) (subst (FirstIn g entries) (sym (ap rows_of e) ∙ same_rows_lem path) first) (q, fine);
        short = omega arith;
      }

  module _ {path : Path} {len : ℕ} (s : Seeking path len) where
    seek_asked : ((i : ℕ) → k ≤ i → i < 4 → 0 < get_or limits i 0) → Asked firsts seconds heads (limit_in c) k limits path (musts_in c)
    seek_asked past = record {
      tables = ready.tables;
      open_past_lem = past;
      heads_are = λ r low. rw (← ready.musts_are) (λ m. ((on_mem heads r).0 m).1, λ h. (on_mem heads r).1 (omega (arith, ready.tables.few_rows), h));
      plant = s.planted;
      full = subst (λ (x : Graph). Full x (start x) musts (keys_of path)) (sym ready.graph_is) s.whole;
    }

    size : length (rows_in path) ≡ width_in c
    size = omega (
      arith,
      ap length (same_rows_lem path),
      rows_of_length (keys_of path),
      ready.right.wide,
      completion_length g (row_numbers g) (start g) (keys_of path) ready.right.charted.formed.once (sound_start g ready.right.charted.formed) s.whole.completes,
    )

    -- the search's tables are of the chart's graph
    pub seek_told : {limit : ℕ} {b : Bool} → limit ≡ limit_in c → ((i : ℕ) → k ≤ i → i < 4 → 0 < get_or limits i 0)
        → ((ms : List ℕ) → Asked firsts seconds heads limit k limits path ms
        → Tells (find.graph_in firsts seconds limit) (table_of kinds k prices leads) ms (take k limits) (take (len + 1) (rows_in path)) b)
        → Tells (graph_in c) (table_of kinds k prices leads) (musts_in c) (take k limits) (take (len + 1) (rows_in path)) b
    seek_told {limit} {b} e past answer =
        subst (λ (x : Graph). Tells x w musts lim (take (len + 1) (rows_in path)) b) (ap (find.graph_in firsts seconds) e ∙ ready.graph_is) (answer musts (rw e (seek_asked past)))

    module _ (more : len < width_in c) {b : Bool} (told : Tells (graph_in c) (table_of kinds k prices leads) (musts_in c) (take k limits) (take (len + 1) (rows_in path)) b) where
      pub seek_deeper : b ≡ true → Seeking path (len + 1)
      seek_deeper e = record {
        whole = s.whole;
        planted = s.planted;
        at = rw add-one (sought_deeper g w musts lim (rows_in path) len s.at (rw add-one at (told.0 e)));
        short = omega arith;
      }

      module _ (e : b ≡ false) where
        shut : Shuts g w musts lim (take (suc len) (rows_in path))
        shut = rw add-one at (told.1 e)

        -- behind the branch there is a path
        pub found : (o : Maybe Path) → IfSome o (λ next. plant_of next ≡ plant_of path) → next_of o ≡ after_of c (plant_of path) (keys_of path) (len + 1)
            → (plant_of (unwrap_or o path) ≡ plant_of path) × (after_in ready.right (keys_of path) (suc len) ≡ some (keys_of (unwrap_or o path)))
        found (Some next) same keys = (same, sym (keys ∙ (rw (s.planted ∙ sym planted, add-one))))
        found None same keys = absurd (sought_none g w musts lim (rows_in path) len s.at shut
            (rw same_rows_lem at (last_after ready.right (keys_of path) s.whole (suc len) (sym (keys ∙ (rw (s.planted ∙ sym planted, add-one)))))))

        module _ (next : Path) (goes : (plant_of next ≡ plant_of path) × (after_in ready.right (keys_of path) (suc len) ≡ some (keys_of next))) where
          after : AfterIn g entries (take (suc len) (rows_in path)) (rows_in path) (rows_in next)
          after = rw (same_rows_lem path, same_rows_lem next) at (after_path ready.right (keys_of path) s.whole (suc len) (keys_of next) goes.1)

          pub seek_after : Seeking next len
          seek_after = record {
            whole = (after_beyond ready.right (keys_of path) s.whole (suc len) (keys_of next) goes.1).full;
            planted = goes.0 ∙ s.planted;
            at = sought_after g w musts lim (rows_in path) len s.at shut (omega (arith, size)) (rows_in next) after;
            short = s.short;
          }

          pub seek_less : left g entries (rows_in next) < left g entries (rows_in path)
          seek_less = after_left (with_part_lem g musts) (take (suc len) (rows_in path)) (rows_in path) (rows_in next) after

    pub seek_end : width_in c ≤ len → First c kinds k prices leads limits path
    seek_end over =
        let (fine, before) = sought_end g w musts lim (rows_in path) len s.at (omega (arith, size)) in
        record { fine = fine; none_before = before }
