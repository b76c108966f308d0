-- A pass over a list L of trees, with the first n rows of its front known and room for `more` rows behind them: how it begins, goes on
-- tree by tree, and what stands behind the known rows at its end (`pass_begins`, `pass_goes_on`, `pass_ends`).
use mathlib.Core.Path.{◌∙◌, ◌≡◌, ap, refl, subst, sym}
use mathlib.Core.Option.{none, some}
use mathlib.Core.List.Memᴰ.{append_right}
use mathlib.Core.List.Memᴰ.{head as here}
use mathlib.Core.List.{List, [], ◌++◌, ◌∷◌, append-nil, map}
use Prim.Native.Nat.{◌+◌, ◌<◌, ◌≤◌, ℕ}
use native.Mathlib.Omega.{arith}
use lib.ListN.{drop, length, length-append, length-map, length-take, take}
use lib.Seq.{drop_at, length-take-le, take-add}
use Rattle.lists.proofs.Maps.{map_drop, map_take}
use Rattle.lists.proofs.Members.{◌∈◌}
use Rattle.costs.specs.Costs.{cost_of, front_trees, front_vectors, tree_with}
use Rattle.costs.specs.Network.{Network}
use Rattle.costs.proofs.FrontTrees.{front_trees_length, front_vectors_lem}
use Rattle.costs.proofs.Networks.{vectors_sized}
use Rattle.tables.specs.Tables.{Table}
use Rattle.tables.proofs.Bare.{bare}
use Rattle.tables.proofs.Known.{known_initial}
use Rattle.tables.proofs.Plans.{Ended, known_start, pass_end}
use Rattle.tables.proofs.Scratch.{scratch_again, scratch_known, scratch_whole}
use Rattle.tables.proofs.Witness.{Walked, walked_step}
use Rattle.passes.specs.Passes.{behind, enter_behind, known_trees}
use Rattle.passes.proofs.Behind.{enter_behind_lem}
use Rattle.passes.proofs.KnownTrees.{firsts_trees, known_firsts, known_front}

-- What stands behind the first n rows of the front once a pass has ended: the next rows of the front, all of them if there is no bound, and some if there is.
pub record PassEnd (g : Network) (L : List (List ℕ)) (n : ℕ) (s : Table (List ℕ)) : Type 0 where
  pub within : n + length s.rows ≤ length (front_vectors g L)
  pub rows_are : s.rows ≡ take (length s.rows) (drop n (front_trees g L))
  pub vectors_are : map (cost_of g) s.rows ≡ take (length s.rows) (drop n (front_vectors g L))
  pub all : s.bound ≡ none → n + length s.rows ≡ length (front_vectors g L)
  pub some_more : (w : List ℕ) → s.bound ≡ some w → 0 < length s.rows

-- the pass has done these trees, and the table stands behind the known rows
abbrev pub Done : Network → List (List ℕ) → ℕ → ℕ → List (List ℕ) → Table (List ℕ) → Type 0
Done g L n more done s =
    Walked (cost_of g) (length (known_trees g L n) + more) (map (cost_of g) (known_trees g L n)) L done (behind (known_trees g L n) s)

module _ (g : Network) (L : List (List ℕ)) (n more : ℕ) where
  abbrev known : List (List ℕ)
  known = known_trees g L n

  pub pass_begins : Done g L n more [] (record { rows = []; bound = none })
  pass_begins = rw append-nil (record {
    pass = known_start (length known + more) (map (cost_of g) L) (map (cost_of g) known) (known_front g L n) (simp length-map (omega arith));
    firsts = known_firsts g L n;
  })

  pub pass_goes_on : (done rest : List (List ℕ)) (p : List ℕ) (s : Table (List ℕ)) → done ++ p ∷ rest ≡ L → Done g L n more done s
      → Done g L n more (done ++ (p ∷ [])) (enter_behind (cost_of g) more known s p)
  pass_goes_on done rest p s e w =
      let member : p ∈ L = subst (λ (l : List (List ℕ)). p ∈ l) e (append_right done (here refl)) in
      subst (Walked (cost_of g) (length known + more) (map (cost_of g) known) L (done ++ (p ∷ [])))
      (enter_behind_lem (cost_of g) (length g.kinds) L known (vectors_sized g L) (known_front g L n) p member more s)
      (walked_step (cost_of g) (length g.kinds) (length known + more) (map (cost_of g) known) (vectors_sized g known) L done rest p (behind known s) e
      (vectors_sized g done) (vectors_sized g (p ∷ []) (cost_of g p) (here refl)) w)

  module _ (fits : n ≤ length (front_vectors g L)) (room : 0 < more) (s : Table (List ℕ)) (w : Done g L n more L s) where
    end : Ended (length (map (cost_of g) known) + more) (map (cost_of g) L) (map (cost_of g) known) (bare (cost_of g) (behind known s))
    end = rw length-map (pass_end (length known + more) (map (cost_of g) L) (map (cost_of g) known) (bare (cost_of g) (behind known s)) (known_front g L n) w.pass)

    long : length known ≡ n
    long = length-take-le n (front_trees g L) (omega (arith, front_trees_length g L))

    whole_long : length (known ++ s.rows) ≡ n + length s.rows
    whole_long = simp length-append (omega (arith, long))

    bare_long : length (map (cost_of g) (known ++ s.rows)) ≡ n + length s.rows
    bare_long = length-map (known ++ s.rows) (cost_of g) ∙ whole_long

    -- all rows are the first of the front
    vectors_first : map (cost_of g) (known ++ s.rows) ≡ take (n + length s.rows) (front_vectors g L)
    vectors_first =
        known_initial (map (cost_of g) L) (map (cost_of g) (known ++ s.rows)) (scratch_known _ more 0 (map (cost_of g) L) (map (cost_of g) known) (vectors_sized g L) (known_front g L n) room _ end)
        ∙ ap (λ (m : ℕ). take m (front_vectors g L)) bare_long

    trees_first : known ++ s.rows ≡ take (n + length s.rows) (front_trees g L)
    unfolding front_trees
    trees_first = firsts_trees g L (known ++ s.rows) w.firsts ∙ ap (map (tree_with g L)) vectors_first ∙ map_take (tree_with g L) (n + length s.rows) (front_vectors g L)

    rows_next : s.rows ≡ take (length s.rows) (drop n (front_trees g L))
    rows_next =
        sym (drop_at known s.rows n long) ∙ ap (drop n) (trees_first ∙ take-add n (length s.rows) (front_trees g L))
        ∙ drop_at known (take (length s.rows) (drop n (front_trees g L))) n long

    within_front : n + length s.rows ≤ length (front_vectors g L)
    within_front = omega (arith, bare_long, ap length vectors_first, length-take (n + length s.rows) (front_vectors g L))

    pub pass_ends : PassEnd g L n s
    pass_ends = record {
      within = within_front;
      rows_are = rows_next;
      vectors_are = ap (map (cost_of g)) rows_next ∙ map_take (cost_of g) (length s.rows) (drop n (front_trees g L))
          ∙ ap (take (length s.rows)) (map_drop (cost_of g) n (front_trees g L) ∙ ap (drop n) (front_vectors_lem g L));
      all = λ e.
          let (_, short) = scratch_whole (length g.kinds) more (n + length s.rows) (map (cost_of g) L) (map (cost_of g) known) (vectors_sized g L) (known_front g L n) room
          (bare (cost_of g) (behind known s)) end e (omega (arith, bare_long)) in
          omega (arith, within_front);
      some_more = λ v e. omega (
        arith,
        bare_long,
        long,
        length-map known (cost_of g),
        scratch_again (length g.kinds) more 0 (map (cost_of g) L) (map (cost_of g) known) (vectors_sized g L) (known_front g L n) room (bare (cost_of g) (behind known s)) end v e,
      );
    }
