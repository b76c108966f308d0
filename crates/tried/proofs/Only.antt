-- The graph of drawn rows: its legal steps are those by the drawn rows (`only_legal`), so first steps in it grow the tree's minimal path
-- (`whole_path`), or end before all nodes are entered exactly if the rows are no spanning tree (`short_no_tree`).
use mathlib.Core.Path.{◌∙◌, ◌≡◌, ap, refl, sym}
use mathlib.Core.Logic.{◌↔◌, ◌⊎◌, inl, inr, ⊎_elim}
use mathlib.Core.Option.{Option, some}
use mathlib.Core.List.Memᴰ.{cast as mem_cast}
use mathlib.Core.List.{List, [], ◌∷◌, map}
use Prim.Native.Nat.{◌<◌, suc, ℕ}
use native.Mathlib.Decide.{dec_lt, ℕ_discrete}
use native.Mathlib.Omega.{arith}
use lib.Dec.{T}
use lib.ListN.{get_or-eq_default, get_or, length, length-map}
use Rattle.lists.specs.Lists.{member, pick, range}
use Rattle.lists.proofs.Distinct.{filled, longer_member, no_repeat, pigeonhole}
use Rattle.lists.proofs.Members.{◌∈◌, member_in, member_out}
use Rattle.lists.proofs.Ranges.{get_or_map_past, get_or_map_range, range_length}
use Rattle.lists.proofs.Tests.{pick_elim, pick_true}
use Rattle.graph.specs.Graph.{Graph, is_tree, row_numbers}
use Rattle.graph.specs.Paths.{Key, and_then, path_of, steps}
use Rattle.graph.proofs.Growth.{Joins, Legal, State, after, back, forth, necessary, rows_of, rows_of_length, some_step, start}
use Rattle.graph.proofs.Least.{Sound}
use Rattle.graph.proofs.Masked.{ends_as}
use Rattle.graph.proofs.Minimal.{WellFormed, row_numbers_in, sound_start}
use Rattle.graph.proofs.PathOf.{path_of_greedy}
use Rattle.graph.proofs.Steps.{completion_steps}
use Rattle.graph.proofs.Tree.{live_tree, tree_in, tree_live, tree_out}
use Rattle.graph.proofs.Unique.{rows_distinct, rows_usable}
use Rattle.graph.proofs.Walk.{Leasts, least_all, leasts_legal, leasts_live, sound_walk, state_after, state_after_length}

-- The ends of drawn rows: those of every other row are taken out, set to 0, which is no node

unfoldable pub only_ends : List ℕ → List ℕ → List ℕ
only_ends rows ends = map (λ r. pick (member r rows) (get_or ends r 0) 0) (range 0 (length ends))

abbrev pub only : Graph → List ℕ → Graph
only g rows = ends_as g (only_ends rows g.first_ends) (only_ends rows g.second_ends)

module _ (rows ends : List ℕ) where
  pub ends_length : length (only_ends rows ends) ≡ length ends
  unfolding only_ends
  ends_length = length-map (range 0 (length ends)) _ ∙ range_length 0 (length ends)

  -- at every place, past the end too
  pub ends_at_lem : (r : ℕ) → get_or (only_ends rows ends) r 0 ≡ pick (member r rows) (get_or ends r 0) 0
  unfolding only_ends
  ends_at_lem r = elim (dec_lt r (length ends)) [
    | yes h ↦ get_or_map_range (λ r. pick (member r rows) (get_or ends r 0) 0) (length ends) r 0 h
    | no n ↦ get_or_map_past _ (length ends) r 0 (omega arith)
        ∙ sym (pick_elim (λ (x : ℕ). x ≡ 0) (member r rows) (λ t. get_or-eq_default ends 0 {n = r} (omega arith)) (λ t. refl))
  ]

  only_in : (r : ℕ) → r ∈ rows → get_or (only_ends rows ends) r 0 ≡ get_or ends r 0
  only_in r m = ends_at_lem r ∙ pick_true (member r rows) _ _ (member_in m)

  only_out : (r : ℕ) → (r ∈ rows) ⊎ (get_or (only_ends rows ends) r 0 ≡ 0)
  only_out r = rw (ends_at_lem r) (pick_elim (λ (x : ℕ). (r ∈ rows) ⊎ (x ≡ 0)) (member r rows) (λ t. inl (member_out r rows t)) (λ n. inr refl))

-- Steps

module _ (g : Graph) (wf : WellFormed g) (rs : List ℕ) where
  joins_in : {r u v : ℕ} → r ∈ rs → Joins g r u v → Joins (only g rs) r u v
  joins_in {r} m (forth a b) = forth (only_in rs g.first_ends r m ∙ a) (only_in rs g.second_ends r m ∙ b)
  joins_in {r} m (back a b) = back (only_in rs g.first_ends r m ∙ a) (only_in rs g.second_ends r m ∙ b)

  -- a row that is not drawn joins nothing
  joins_drawn : {r u v : ℕ} → Joins (only g rs) r u v → v ∈ g.nodes → r ∈ rs
  joins_drawn {r} (forth a b) m =
      ⊎_elim (λ i. i) (λ e. absurd (wf.no_zero (mem_cast (sym e ∙ b) m))) (only_out rs g.second_ends r)
  joins_drawn {r} (back a b) m =
      ⊎_elim (λ i. i) (λ e. absurd (wf.no_zero (mem_cast (sym e ∙ a) m))) (only_out rs g.first_ends r)

  joins_out : {r u v : ℕ} → r ∈ rs → Joins (only g rs) r u v → Joins g r u v
  joins_out {r} m (forth a b) = forth (sym (only_in rs g.first_ends r m) ∙ a) (sym (only_in rs g.second_ends r m) ∙ b)
  joins_out {r} m (back a b) = back (sym (only_in rs g.first_ends r m) ∙ a) (sym (only_in rs g.second_ends r m) ∙ b)

  module _ (known : (r : ℕ) → r ∈ rs → r < length g.first_ends) where
    pub only_legal : (s : State) (k : Key) → Legal (only g rs) (row_numbers (only g rs)) s k ↔ Legal g rs s k
    only_legal s k = (
      λ h.
          let drawn = joins_drawn h.step.joined h.step.enters in
          record {
            step = record {
              pivot = h.step.pivot;
              joined = joins_out drawn h.step.joined;
              leaves = h.step.leaves;
              enters = h.step.enters;
              fresh = h.step.fresh;
              stands = h.step.stands;
            };
            usable = drawn;
            above = h.above;
          },
      λ h. record {
        step = record {
          pivot = h.step.pivot;
          joined = joins_in h.usable h.step.joined;
          leaves = h.step.leaves;
          enters = h.step.enters;
          fresh = h.step.fresh;
          stands = h.step.stands;
        };
        usable = row_numbers_in (only g rs) k.row (rw (ends_length rs g.first_ends) (known k.row h.usable));
        above = h.above;
      },
    )

    pub only_leasts : (s : State) (ks : List Key) → Leasts (only g rs) (row_numbers (only g rs)) s ks → Leasts g rs s ks
    only_leasts s [] a = tt
    only_leasts s (k ∷ ks) a = (
      record { legal = (only_legal s k).0 a.0.legal; passes = tt; least = λ m h. a.0.least m ((only_legal s m).1 h) },
      only_leasts (after s k) ks a.1,
    )

-- Least steps

module _ (g : Graph) (wf : WellFormed g) (rs : List ℕ) (size : suc (length rs) ≡ length g.nodes) (known : (r : ℕ) → r ∈ rs → r < length g.first_ends)
    (ks : List Key) (a : Leasts g rs (start g) ks) where
  sound_end : Sound g (state_after (start g) ks)
  sound_end = sound_walk g rs (start g) ks (sound_start g wf) (leasts_legal g rs (start g) ks a)

  -- as many least steps as there are rows: they enter all nodes, so the rows are a tree, and the steps its path
  pub whole_path : length ks ≡ length rs → T (is_tree g rs) × (and_then (path_of g rs) (steps g) ≡ some ks)
  whole_path e =
      let all = filled ℕ_discrete _ g.nodes sound_end.once sound_end.nodes (omega (arith, size, state_after_length (start g) ks)) in
      let c = (least_all g rs (start g) ks a all).completes in
      let once = no_repeat (rows_of ks) [] rs (rows_distinct g rs (start g) ks c) (rows_usable g rs (start g) ks c) (omega (arith, rows_of_length ks)) in
      let tree = live_tree g wf rs size known once (necessary g rs (start g) ks c) in
      (tree_in g rs tree, ap (λ (path : Option (List ℕ)). and_then path (steps g)) (path_of_greedy g wf rs ks tree c) ∙ (completion_steps g rs (start g) ks c).0)

  -- fewer, and no legal step more: the rows are no tree, whose start would be live and stay so
  pub short_no_tree : ¬ (length ks ≡ length rs) → ((m : Key) → ¬ Legal g rs (state_after (start g) ks) m) → ¬ T (is_tree g rs)
  short_no_tree n none t =
      let fits = pigeonhole (state_after (start g) ks).entered sound_end.once sound_end.nodes in
      let (v, m, fresh) = longer_member ℕ_discrete g.nodes (state_after (start g) ks).entered wf.once (omega (arith, size, state_after_length (start g) ks)) in
      let live = leasts_live g rs (start g) ks a (tree_live g wf rs (tree_out g rs t)) in
      let (k, legal) = some_step g rs (state_after (start g) ks) (live v m fresh) in
      none k legal
