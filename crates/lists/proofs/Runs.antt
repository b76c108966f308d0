-- What `all` of an iterator answers: where its items stand for the numbers below m, the test of each number (`all_run`); where they are the elements of a list, the test
-- of each element (`items_run`); where they are the pieces of a list, the test of each piece (`pieces_run`).
use mathlib.Core.Path.{◌∙◌, ◌≡◌, ap, sym}
use mathlib.Core.Bool.{Bool, false, true}
use mathlib.Core.List.{List, [], ◌∷◌, map}
use Prim.Native.Nat.{◌*◌, ◌+◌, ◌-◌, ◌/◌, ◌<◌, ◌≤◌, suc, zero, ℕ}
use native.Mathlib.Omega.{arith}
use denote.Ref.{Bor}
use denote.Param.Members.{Called, Mut}
use lib.Seq.{ext_get_or}
use lib.ListN.{drop, get_or, length, length-map, take}
use Rattle.std.proofs.Common.{None, Option, Some, refl}
use Rattle.std.proofs.lemmas.Nat.{le-div}
use Rattle.std.proofs.lemmas.Option.{IfSome_then}
use Rattle.std.proofs.lemmas.List.{get_or-drop, get_or-take, get_or_default}
use Rattle.std.specs.Bool.{MatchBool}
use Rattle.std.specs.Iterator.Runs.{AllItemsGive, AnyItemGives, CallKeepsClosure, ItemsMapTo, ItemsMapToExactChunks, Run, YieldsRun}
use Rattle.std.specs.List.{slice_get}
use Rattle.std.specs.Option.{IfSome, IsSomeAnd}
use Rattle.lists.specs.Lists.{all, range}
use Rattle.lists.proofs.Members.{all_in, all_out, range_in, range_out}
use Rattle.lists.proofs.Maps.{map_all}
use Rattle.lists.proofs.Ranges.{get_or_map_range, range_length}
use Rattle.lists.proofs.Tests.{T_false, T_true}

slice_some : {A : Type 0} (xs : List A) (k : ℕ) → k < length xs → (x : A) × (slice_get xs k ≡ Some x)
slice_some [] k h = absurd (omega arith)
slice_some (x ∷ xs) zero h = (x, refl)
slice_some (x ∷ xs) (suc k) h = slice_some xs k (omega arith)

at_some : {A : Type 0} (o : Option A) (P : A → Type 0) (x : A) → o ≡ Some x → IfSome o P → P x
at_some o P x e h = grind arith

some_and : {A : Type 0} (o : Option A) (P Q : A → Type 0) → IfSome o P → IsSomeAnd o Q → (x : A) × P x × Q x
some_and (Some x) P Q p q = (x, p, q)
some_and None P Q p q = absurd q

module _ {S A F : Type 0} {steps : S → Option A → S → Type 0} (p : Run steps) (g : Mut F (A × Unit {0}) Bool) (f : F) (keeps : CallKeepsClosure g f) where
  item_at : (k : ℕ) → k < p.len → (x : A) × (p.at k ≡ Some x)
  unfolding YieldsRun
  item_at k h =
      let (x, e) = slice_some p.items k (omega (arith, p.long)) in
      (x, p.gave.1 k ∙ e)

  -- where the test of an item answers that of the number which it stands for
  module _ (test : ℕ → Bool) (m : ℕ) (below : p.len ≤ m) (whole : p.whole ≡ true → p.len ≡ m)
      (tests : (k : ℕ) → k < m → IfSome (p.at k) (λ x. (b : Bool) → Called g f (x, tt) b f → b ≡ test k)) where
    pub all_run : (r : Bool) → MatchBool r ((p.whole ≡ true) × AllItemsGive p g f true) (AnyItemGives p g f false) → r ≡ all test (range 0 m)
    all_run true (to_end, gives) =
        sym ((T_true (all test (range 0 m))).0 (all_in test (range 0 m) (λ k i.
        let h : k < m = omega (arith, (range_out 0 m i).1) in
        let (x, e) = item_at k (omega (arith, whole to_end)) in
        (T_true (test k)).1 (sym (at_some (p.at k) _ x e (tests k h) true (at_some (p.at k) _ x e (gives keeps k)))))))
    all_run false any =
        let (k, h, some) = any keeps in
        let (x, asked, called) = some_and (p.at k) _ _ (tests k (omega arith)) some in
        sym ((T_false (all test (range 0 m))).0 (λ t.
        (T_false (test k)).1 (sym (asked false called)) (all_out test t (range_in 0 m k (omega arith) (omega arith)))))

  -- the elements of a list, which stand for their places
  places : {B : Type 0} (xs : List B) (d : B) → map (λ k. get_or xs k d) (range 0 (length xs)) ≡ xs
  places xs d =
      let long : length (map (λ k. get_or xs k d) (range 0 (length xs))) ≡ length xs = length-map (range 0 (length xs)) (λ k. get_or xs k d) ∙ range_length 0 (length xs) in
      ext_get_or d (map (λ k. get_or xs k d) (range 0 (length xs))) xs long (λ k h. get_or_map_range (λ k. get_or xs k d) (length xs) k d (omega (arith, long)))

  pub items_run : {B : Type 0} (v : A → B) (xs : List B) (d : B) (test : B → Bool) → ItemsMapTo p v xs → ((x : A) (b : Bool) → Called g f (x, tt) b f → b ≡ test (v x))
      → (r : Bool) → MatchBool r ((p.whole ≡ true) × AllItemsGive p g f true) (AnyItemGives p g f false) → r ≡ all test xs
  items_run v xs d test (within, whole, _, _, _, _, _, _, reads) tests r outcome =
      all_run (λ k. test (get_or xs k d)) (length xs) within whole
      (λ k h. IfSome_then (p.at k) (reads k) (λ x same b called.
      tests x b called ∙ ap test (same ∙ get_or_default xs k (v x) d h)))
      r outcome
      ∙ map_all (λ k. get_or xs k d) test (range 0 (length xs)) ∙ ap (all test) (places xs d)

-- the k-th piece of n bytes of a list
pub record PieceAt (n : ℕ) (xs : List ℕ) (k : ℕ) (piece : List ℕ) : Type 0 where
  pub long : length piece ≡ n
  pub there : k * n + n ≤ length xs
  pub reads : (j : ℕ) → j < n → get_or piece j 0 ≡ get_or xs (k * n + j) 0

module _ {S F : Type 0} {steps : S → Option (Bor (List ℕ)) → S → Type 0} (p : Run steps) (g : Mut F (Bor (List ℕ) × Unit {0}) Bool) (f : F) (keeps : CallKeepsClosure g f) where
  -- where the test of a piece answers that of its number
  pub pieces_run : (test : ℕ → Bool) (n : ℕ) {size : ℕ} {xs rest : List ℕ} → size ≡ n → rest ≡ xs → 0 < n → (0 < size → ItemsMapToExactChunks p (λ x. x.now) size rest)
      → ((k : ℕ) (x : Bor (List ℕ)) → k < length xs / n → PieceAt n xs k x.now → (b : Bool) → Called g f (x, tt) b f → b ≡ test k)
      → (r : Bool) → MatchBool r ((p.whole ≡ true) × AllItemsGive p g f true) (AnyItemGives p g f false) → r ≡ all test (range 0 (length xs / n))
  pieces_run test n {size} {xs} {rest} sized from wide run tests =
      let (within, whole, pieces) : ItemsMapToExactChunks p (λ x. x.now) n xs = rw (sized, from) at run (omega (arith, sized)) in
      all_run p g f keeps test (length xs / n) (le-div p.len (length xs) n wide within) whole
      (λ k h. IfSome_then (p.at k) (pieces k) (λ x (long, there, same) b called.
      tests k x h (record { long = long; there = there; reads = λ j l. same.2 j 0 l }) b called))
