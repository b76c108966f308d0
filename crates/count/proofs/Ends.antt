-- How a call of Count ends, by what Open, check 12 and the counting answered (`count_stops`, `count_empty`, `count_some`, `count_many`).
use Rattle.std.specs.Prelude.{Err, Ok, Result, is_err, true}
use mathlib.Core.Path.{◌∙◌, ◌≡◌, ap, refl, sym}
use mathlib.Core.Option.{none-ne-some, none, some}
use mathlib.Core.List.{List, [], ◌∷◌}
use Prim.Native.Nat.{◌<◌, ◌≤◌, min, ℕ}
use native.Mathlib.Omega.{arith}
use lib.ListN.{length}
use Rattle.checks.specs.Checks.{answered, first_unmet, refused}
use Rattle.checks.proofs.Checks.{first_unmet_append}
use Rattle.checks.proofs.Ended.{checked_unmet, first_unmet_stops}
use Rattle.network_file.specs.File.{Sizes, file_checks, network_of, open_of, sizes_of}
use Rattle.network_file.proofs.Accepted.{Accepted, accepted}
use Rattle.network_file.proofs.Opened.{open_answered, open_refused}
use Rattle.operations.specs.Operations.{check, layouts_in, some_tree}
use Rattle.counts.specs.Count.{count_call, count_checks}
use Rattle.counts.specs.Matrix.{limit}
use Rattle.counts.specs.Trees.{tree_count}
use Rattle.counts.proofs.Count.{count_answered, count_listed, count_refused}
use Rattle.fields.specs.declared.Header.{Header}
use Rattle.network.specs.Answers.{opened_of}
use Rattle.refusals.specs.Refusals.{number_of}
use Rattle.refusals.specs.declared.Refusal.{Refusal}
use Rattle.listed.specs.Listed.{listed_call}
use Rattle.listed.proofs.Answers.{refused_by_lem}

module _ (f : List ℕ) where
  pub count_stops : (e : ℕ) → refused e ≡ open_of f → refused e ≡ count_call f
  unfolding count_call count_checks
  count_stops e g =
      let h : open_of f ≡ refused e = sym g in sym (checked_unmet (count_checks f) (tree_count (network_of f)) e (first_unmet_stops (file_checks f) _ e (open_refused f e h)))

  module _ (s : Sizes) (told : answered s ≡ open_of f) where
    opened : open_of f ≡ answered s
    opened = sym told

    met : first_unmet (file_checks f) ≡ none
    met = (open_answered f s opened).0

    pub sizes_are : Accepted f × (s.n ≡ (sizes_of f).n) × (s.m ≡ (sizes_of f).m)
    sizes_are = let same = sym (open_answered f s opened).1 in (accepted f met, ap (λ (x : Sizes). x.n) same, ap (λ (x : Sizes). x.m) same)

    pub count_none : (e : ℕ) → listed_call f ≡ refused e → answered 0 ≡ count_call f
    unfolding first_unmet
    count_none e h =
        let empty = no_tree (layouts_in f) (sym (first_unmet_append (file_checks f) _ met) ∙ refused_by_lem f e h) in
        sym (count_answered f met 0 (omega (arith, count_listed f (accepted f met))) (omega arith))
      where
        no_tree : (l : List (List ℕ)) → first_unmet (check 12 (some_tree l) ∷ []) ≡ some e → length l ≡ 0
        no_tree [] u = refl
        no_tree (p ∷ l) u = absurd (none-ne-some e u)

    pub count_empty : (r : Result Header Refusal) → is_err r ≡ true → opened_of r ≡ listed_call f → answered 0 ≡ count_call f
    count_empty (Ok h) t l = cc
    count_empty (Err e) t l = count_none (number_of e) (sym l)

    module _ (r : ℕ) (e : r ≡ min limit (tree_count (network_of f))) where
      pub count_some : r ≤ 4000000000 → answered r ≡ count_call f
      count_some l = sym (count_answered f met r e l)

      pub count_many : 4000000000 < r → refused 25 ≡ count_call f
      count_many l = sym (count_refused f met r e l)
