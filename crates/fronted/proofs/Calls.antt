-- Front's checks one after the other: which is not met (`front_stops`, `front_short`), or all are (`front_met`), and then both tables hold as many rows as the
-- smaller quotient says (`lent_holds`). What the call comes to where it is refused (`front_refused`), and where the tables are filled (`front_filled`).
use mathlib.Core.Path.{◌∙◌, ◌≡◌, ap, refl, sym}
use mathlib.Core.Bool.{Bool, ◌&&◌, false, true}
use mathlib.Core.Option.{none, some}
use mathlib.Core.List.{List, [], ◌++◌, ◌∷◌, append_assoc}
use Prim.Native.Nat.{◌-◌, ◌/◌, ◌≤◌, min, pred, ℕ}
use lib.Dec.{leb}
use native.Mathlib.Omega.{arith}
use lib.ListN.{length}
use Rattle.checks.specs.Checks.{Check, Outcome, first_unmet, refused}
use Rattle.checks.proofs.Checks.{first_unmet_append, first_unmet_met, first_unmet_unmet}
use Rattle.checks.proofs.Ended.{ended_met, ended_unmet, first_unmet_stops}
use Rattle.graph.specs.Graph.{width}
use Rattle.network_file.specs.File.{Sizes, file_checks, network_of, sizes_of}
use Rattle.pages.specs.Pages.{capacity}
use Rattle.pages.proofs.Pages.{rows_end}
use Rattle.operations.specs.Operations.{Fronted, check, front_call, front_checks, front_over, graph_in, layouts_in, some_tree}
use Rattle.operations.proofs.Files.{node_count_lem}
use Rattle.fronted.specs.Filled.{Filled, Holding, Lent}
use Rattle.fronted.specs.declared.Room.{Room}
use Rattle.listed.specs.Listed.{listed_checks}
use Rattle.listed.proofs.Answers.{Lists}

no_check : first_unmet [] ≡ none
unfolding first_unmet
no_check = refl

module _ {f : List ℕ} {h : Sizes} (l : Lists f h) where
  pub nodes_several : 2 ≤ h.n
  nodes_several = rw l.sizes l.file.nodes_low

  pub criteria_some : 1 ≤ h.k
  criteria_some = rw l.sizes l.file.criteria_low

module _ (f costs witnesses : List ℕ) where
  abbrev last : Check
  last = check 11 (leb (sizes_of f).k (length costs) && leb (width (graph_in f)) (length witnesses))

  table : front_checks f costs witnesses ≡ listed_checks f ++ (last ∷ [])
  unfolding front_checks
  table = sym (append_assoc (file_checks f) (check 12 (some_tree (layouts_in f)) ∷ []) (last ∷ []))

  -- Open's checks, and 12
  pub front_stops : (e : ℕ) → first_unmet (listed_checks f) ≡ some e → first_unmet (front_checks f costs witnesses) ≡ some e
  front_stops e h = ap first_unmet table ∙ first_unmet_stops (listed_checks f) (last ∷ []) e h

  module _ {h : Sizes} (l : Lists f h) where
    -- check 11 alone
    behind_listed : {o : _} → first_unmet (last ∷ []) ≡ o → first_unmet (front_checks f costs witnesses) ≡ o
    behind_listed e = ap first_unmet table ∙ first_unmet_append (listed_checks f) (last ∷ []) l.all ∙ e

    criteria_read : (sizes_of f).k ≡ h.k
    criteria_read = ap (λ (s : Sizes). s.k) (sym l.sizes)

    width_read : h.n - 1 ≡ width (graph_in f)
    width_read = let w : h.n - 1 ≡ pred (length (graph_in f).nodes) = omega (arith, ap (λ (s : Sizes). s.n) l.sizes, node_count_lem f) in w

    -- whether both tables hold a row, as the code asks it
    module _ (b : Bool) (asked : b ≡ (leb h.k (length costs) && leb (h.n - 1) (length witnesses))) where
      pub front_short : b ≡ false → first_unmet (front_checks f costs witnesses) ≡ some 11
      front_short e = behind_listed (first_unmet_unmet _ _ (rw (criteria_read, ← width_read, ← asked) e))

      pub front_met : b ≡ true → first_unmet (front_checks f costs witnesses) ≡ none
      front_met e = behind_listed (first_unmet_met _ _ (rw (criteria_read, ← width_read, ← asked) e) ∙ no_check)

    -- both tables hold as many rows as the smaller quotient says
    module _ (rows : ℕ) (e : rows ≡ min (length costs / h.k) (length witnesses / (h.n - 1))) where
      pub capacity_read : rows ≡ capacity (length (network_of f).kinds) (width (graph_in f)) costs witnesses
      unfolding capacity
      capacity_read = rw (l.file.kinds, criteria_read, ← width_read) e

      pub lent_holds : Holding rows h.k (h.n - 1) costs witnesses
      lent_holds = record {
        costs_fit = rows_end rows h.k (length costs) (omega arith);
        trees_fit = rows_end rows (h.n - 1) (length witnesses) (omega arith);
      }

-- What the call comes to

module _ (f costs witnesses : List ℕ) where
  -- what Front promises
  abbrev pub Right : Outcome Fronted → List ℕ → List ℕ → Type 0
  Right o costs' witnesses' = record { outcome = o; buffers = record { costs = costs'; witnesses = witnesses' } } ≡ front_call f costs witnesses

  pub front_refused : (e : ℕ) → first_unmet (front_checks f costs witnesses) ≡ some e → Right (refused e) costs witnesses
  unfolding front_call
  front_refused e h = sym (ended_unmet (front_checks f costs witnesses) _ _ _ e h)

  pub front_filled : {room : Room} → Lent f costs witnesses room → {o : Outcome Fronted} {costs' witnesses' : List ℕ}
      → Filled f room.capacity costs witnesses o costs' witnesses' → Right o costs' witnesses'
  unfolding front_call front_over
  front_filled lent filled =
      rw (filled.answer, filled.costs_are, filled.witnesses_are, lent.capacity_is) (sym (ended_met (front_checks f costs witnesses) _ _ _ lent.met))
