-- Entering behind known rows (`enter_behind_lem`): an entry of the list that no known row meets dominates none of them and stands behind them all,
-- so that the step on the whole table is the step on the rows behind.
use mathlib.Core.Path.{◌∙◌, ◌≡◌, ap, ap₂, refl, subst, sym}
use mathlib.Core.Logic.{inl, inr, ⊎_elim}
use mathlib.Core.Bool.{Bool, false, not, true}
use mathlib.Core.Option.{Option}
use mathlib.Core.List.Memᴰ.{append_left}
use mathlib.Core.List.Memᴰ.{head as here}
use mathlib.Core.List.Memᴰ.{map as map_in}
use mathlib.Core.List.Memᴰ.{of_map as map_out}
use mathlib.Core.List.Memᴰ.{tail as there}
use mathlib.Core.List.{List, [], ◌++◌, ◌∷◌, map}
use Prim.Native.Nat.{◌+◌, ℕ}
use lib.Dec.{T, not_T}
use lib.ListN.{drop, length, take}
use lib.Seq.{drop-append-add, take-append-add}
use Rattle.lists.specs.Lists.{any, filter_b, insert, pick}
use Rattle.lists.proofs.Members.{◌∈◌, any_in, any_out}
use Rattle.lists.proofs.Orders.{Compared, compared, is_equal, is_greater, is_less}
use Rattle.lists.proofs.Tests.{T-either, T_false, T_true, decide}
use Rattle.costs.specs.Costs.{dominates, none_larger, vector_less}
use Rattle.costs.proofs.Fronts.{Meets, Sized, front_meets, front_out, meets_none_larger}
use Rattle.costs.proofs.Vectors.{dominates_less, none_larger_refl, vector_order}
use Rattle.tables.specs.Tables.{Table, below, bounded, cut_at, enter_bounded, met, replaced}
use Rattle.tables.proofs.Known.{Known}
use Rattle.tables.proofs.Pass.{skip_one}
use Rattle.passes.specs.Passes.{behind, enter_behind}

-- Lists in front

filter_behind : {A : Type 0} (p : A → Bool) (l m : List A) → ((a : A) → a ∈ l → T (p a)) → filter_b p (l ++ m) ≡ l ++ filter_b p m
unfolding filter_b
filter_behind p [] m h = refl
filter_behind p (a ∷ l) m h = rw ((T_true (p a)).0 (h a (here refl)), filter_behind p l m (λ b i. h b (there i)))

insert_behind : {A : Type 0} (less : A → A → Bool) (a : A) (l m : List A) → ((b : A) → b ∈ l → T (less b a)) → insert less a (l ++ m) ≡ l ++ insert less a m
unfolding insert
insert_behind less a [] m h = refl
insert_behind less a (b ∷ l) m h = rw ((T_true (less b a)).0 (h b (here refl)), insert_behind less a l m (λ c i. h c (there i)))

any_behind : {A : Type 0} (p : A → Bool) (l m : List A) → (¬ T (any p l)) → any p (l ++ m) ≡ any p m
unfolding any
any_behind p [] m n = refl
any_behind p (a ∷ l) m n =
    let here_not : ¬ T (p a) = λ t. n ((T-either (p a) (any p l)).1 (inl t)) in
    rw ((T_false (p a)).0 here_not) (any_behind p l m (λ t. n ((T-either (p a) (any p l)).1 (inr t))))

-- The table

behind_pick : {E : Type 0} (known : List E) (b : Bool) (s t : Table E) → pick b (behind known s) (behind known t) ≡ behind known (pick b s t)
behind_pick known true s t = refl
behind_pick known false s t = refl

behind_cut : {E : Type 0} (key : E → List ℕ) (more : ℕ) (b : Option (List ℕ)) (known rows : List E)
    → cut_at key (length known + more) b (known ++ rows) ≡ behind known (cut_at key more b rows)
behind_cut {E} key more b known rows =
    ap₂ (λ (l r : List E). bounded key l b r) (take-append-add known rows more) (drop-append-add known rows more) ∙ go (drop more rows)
  where
    go : (rest : List E) → bounded key (known ++ take more rows) b rest ≡ behind known (bounded key (take more rows) b rest)
    go [] = refl
    go (e ∷ rest) = refl

module _ {E : Type 0} (key : E → List ℕ) (k : ℕ) (es known : List E) (sized : Sized k (map key es)) (h : Known (map key es) (map key known))
    (e : E) (m : e ∈ es) where
  module _ (n : ¬ T (met key known e)) where
    -- it dominates no known row
    spares : (r : E) → r ∈ known → T (not (dominates (key e) (key r)))
    spares r i = not_T (dominates (key e) (key r)) ((front_out (map key es) (h.final (key r) (map_in key i))).1 (key e) (map_in key m))

    -- it is greater than each: else the member of the front that meets it would be known
    greater : (r : E) → r ∈ known → T (vector_less (key r) (key e))
    greater r i = go (compared vector_order (key r) (key e) tt tt)
      where
        unmet : (x : List ℕ) → x ∈ map key known → T (none_larger x (key e)) → ⊥
        unmet x j t =
            let (a, in_known, same) = map_out key known j in
            n (any_in (λ r. none_larger (key r) (key e)) in_known (subst (λ (v : List ℕ). T (none_larger v (key e))) (sym same) t))

        less_met : (x : List ℕ) → Meets x (key e) → T (vector_less (key e) (key r)) → T (vector_less x (key r))
        less_met x (inl q) l = subst (λ (v : List ℕ). T (vector_less v (key r))) (sym q) l
        less_met x (inr d) l = vector_order.trans x (key e) (key r) (dominates_less x (key e) d) l

        go : Compared vector_less (key r) (key e) → T (vector_less (key r) (key e))
        go (is_less l) = l
        go (is_equal q) = absurd (unmet (key r) (map_in key i) (subst (λ (v : List ℕ). T (none_larger (key r) v)) q (none_larger_refl (key r))))
        go (is_greater l) =
            let (x, final, meets) = front_meets k (map key es) sized (key e) (map_in key m) in
            absurd (unmet x (h.first x (key r) final (map_in key i) (less_met x meets l)) (meets_none_larger x (key e) meets))

    replaced_behind : (rows : List E) → replaced key (known ++ rows) e ≡ known ++ replaced key rows e
    replaced_behind rows =
        ap (insert (λ a b. vector_less (key a) (key b)) e) (filter_behind (λ r. not (dominates (key e) (key r))) known rows spares)
        ∙ insert_behind (λ a b. vector_less (key a) (key b)) e known (filter_b (λ r. not (dominates (key e) (key r))) rows) greater

    enter_unmet : (more : ℕ) (s : Table E) → enter_bounded key (length known + more) (behind known s) e ≡ behind known (enter_bounded key more s e)
    enter_unmet more s =
        let new = cut_at key more s.bound (replaced key s.rows e) in
        rw (any_behind (λ r. none_larger (key r) (key e)) known s.rows n, replaced_behind s.rows, behind_cut)
        (ap (λ (t : Table E). pick (below s.bound (key e)) t (behind known s)) (behind_pick known (met key s.rows e) s new)
        ∙ behind_pick known (below s.bound (key e)) (pick (met key s.rows e) s new) s)

  -- THE STEP on known rows and a table behind them is the step on that table
  pub enter_behind_lem : (more : ℕ) (s : Table E) → enter_bounded key (length known + more) (behind known s) e ≡ behind known (enter_behind key more known s e)
  enter_behind_lem more s = ⊎_elim
      (λ (t : T (met key known e)).
      skip_one key (length known + more) (behind known s) e (met_more t) ∙ ap (behind known) (sym (ap (λ (b : Bool). pick b s (enter_bounded key more s e)) ((T_true (met key known e)).0 t))))
      (λ (n : ¬ T (met key known e)).
      enter_unmet n more s ∙ ap (behind known) (sym (ap (λ (b : Bool). pick b s (enter_bounded key more s e)) ((T_false (met key known e)).0 n))))
      (decide (met key known e))
    where
      met_more : T (met key known e) → T (met key (known ++ s.rows) e)
      met_more t =
          let (r, i, larger) = any_out (λ r. none_larger (key r) (key e)) known t in
          any_in (λ r. none_larger (key r) (key e)) (append_left s.rows i) larger
