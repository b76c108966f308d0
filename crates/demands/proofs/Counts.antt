-- What Count says of a file that passes (`count_claim`): how many trees the list has, 25 exactly above 4,000,000,000, and 0 exactly without a tree.
use mathlib.Core.Path.{◌∙◌, ◌≡◌, refl, sym}
use mathlib.Core.Option.{none-ne-some}
use mathlib.Core.List.{List, [], ◌∷◌}
use Prim.Native.Nat.{◌<◌, ◌≤◌, min, ℕ}
use native.Mathlib.Decide.{dec_lt}
use native.Mathlib.Omega.{arith}
use lib.Dec.{T}
use lib.ListN.{length}
use Rattle.checks.specs.Checks.{answered, refused}
use Rattle.checks.proofs.Ended.{checked_answered, checked_refused}
use Rattle.network_file.specs.File.{network_of}
use Rattle.network_file.proofs.Accepted.{accepted}
use Rattle.operations.specs.Operations.{layouts_in, some_tree}
use Rattle.counts.specs.Count.{count_call, count_checks}
use Rattle.counts.specs.Matrix.{limit}
use Rattle.counts.specs.Trees.{tree_count}
use Rattle.counts.proofs.Count.{count_answered, count_listed, count_refused}
use Rattle.demands.specs.Demands.{CountClaim, Passes, Tree}
use Rattle.demands.proofs.Trees.{tree_listed}

some_long : (l : List (List ℕ)) → T (some_tree l) → 0 < length l
some_long [] t = absurd t
some_long (p ∷ l) t = omega arith

none_long : (l : List (List ℕ)) → ¬ T (some_tree l) → length l ≡ 0
none_long [] n = refl
none_long (p ∷ l) n = absurd (n tt)

module _ (f : List ℕ) (ok : Passes f) where
  listed : tree_count (network_of f) ≡ length (layouts_in f)
  listed = count_listed f (accepted f ok)

  answers : length (layouts_in f) ≤ 4000000000 → count_call f ≡ answered (length (layouts_in f))
  answers l = count_answered f ok (length (layouts_in f)) (omega (arith, listed)) l

  many : count_call f ≡ refused 25 → 4000000000 < length (layouts_in f)
  unfolding count_call
  many h = elim (dec_lt 4000000000 (length (layouts_in f))) [
    | yes l ↦ l
    | no n ↦ absurd (none-ne-some 25 (sym (checked_answered (count_checks f) _ _ (answers (omega arith))).0 ∙ checked_refused (count_checks f) _ 25 h))
  ]

  absent : count_call f ≡ answered 0 → (rows : List ℕ) → ¬ Tree f rows
  unfolding count_call
  absent h rows t =
      let zero = (checked_answered (count_checks f) (tree_count (network_of f)) 0 h).1 in
      let some = some_long (layouts_in f) ((tree_listed f ok).0 (rows, t)) in
      absurd (omega (arith, listed))

  pub count_claim : CountClaim f
  count_claim = record {
    listed = listed;
    answers = answers;
    refuses = (many, λ l. count_refused f ok (min limit (tree_count (network_of f))) refl (omega (arith, listed)));
    none = (
      absent,
      λ n.
          let empty = none_long (layouts_in f) (λ t. let (rows, tree) = (tree_listed f ok).1 t in n rows tree) in
          count_answered f ok 0 (omega (arith, listed)) (omega arith),
    );
  }
