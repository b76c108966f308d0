-- CROSSING: if a forest joins u and v, and other rows gs do not, then a row of the forest that u and v need for being joined has ends that gs does not
-- join. With no rows gs: where u and v differ, there is a row that they need.
use mathlib.Core.Path.{◌≡◌, refl, subst}
use mathlib.Core.Logic.{◌⊎◌, inl, inr, ⊎_elim}
use mathlib.Core.List.Memᴰ.{cast as mem_cast}
use mathlib.Core.List.Memᴰ.{head as here}
use mathlib.Core.List.Memᴰ.{tail as there}
use mathlib.Core.List.{List, [], ◌∷◌}
use Prim.Native.Nat.{ℕ}
use Rattle.lists.proofs.Members.{◌∈◌}
use Rattle.graph.specs.Graph.{Graph, first_end, second_end}
use Rattle.forests.specs.Forests.{cut}
use Rattle.forests.proofs.Closure.{joined?}
use Rattle.forests.proofs.Cuts.{cut_head, cut_old}
use Rattle.forests.proofs.Forest.{Forest, cut_front, forest_head, forest_tail, over_ends}
use Rattle.forests.proofs.Joined.{Joined, Over, ends_joined, joined_ends_by, joined_left, joined_more, joined_none, joined_sym, joined_trans, joins_same, split, stay}

-- a row e of rs that u and v need, with ends that gs does not join
pub record Crosses (g : Graph) (gs rs : List ℕ) (u v e : ℕ) : Type 0 where
  pub row : e ∈ rs
  pub needed : ¬ Joined g (cut e rs) u v
  pub crossing : ¬ Joined g gs (first_end g e) (second_end g e)

module _ (g : Graph) (gs : List ℕ) (r : ℕ) (rs : List ℕ) (h : Forest g (r ∷ rs)) (u v : ℕ) where
  other : {e : ℕ} → e ∈ rs → ¬ (r ≡ e)
  other i d = h.once.0 (mem_cast d i)

  -- u and v are joined without r
  crosses_later : (e : ℕ) → Joined g rs u v → Crosses g gs rs u v e → Crosses g gs (r ∷ rs) u v e
  crosses_later e k c = record {
    row = there c.row;
    needed = λ j. ⊎_elim c.needed (λ o. forest_head h (over_ends o (cut_old e rs) k)) (cut_front r e rs (other c.row) j);
    crossing = c.crossing;
  }

  -- they are not
  module _ (k : ¬ Joined g rs u v) (o : Over g r rs u v) where
    apart : ¬ Joined g rs o.near o.far
    apart j = forest_head h (ends_joined o.row j)

    -- u needs e for its run to r, or v for its run from r
    needs : (e : ℕ) → e ∈ rs → (¬ Joined g (cut e rs) u o.near) ⊎ (¬ Joined g (cut e rs) o.far v) → ¬ Joined g (cut e (r ∷ rs)) u v
    needs e i n j = ⊎_elim (λ c. k (joined_more (cut_old e rs) c)) over (cut_front r e rs (other i) j)
      where
        over : ¬ Over g r (cut e rs) u v
        over c = ⊎_elim
            (λ (a, b). ⊎_elim (λ d. d (subst (Joined g (cut e rs) u) a c.before)) (λ d. d (subst (λ (x : ℕ). Joined g (cut e rs) x v) b c.after)) n)
            (λ (a, b). apart (joined_trans (joined_sym o.before) (joined_more (cut_old e rs) (subst (Joined g (cut e rs) u) a c.before))))
            (joins_same o.row c.row)

    crosses_here : ¬ Joined g gs (first_end g r) (second_end g r) → Crosses g gs (r ∷ rs) u v r
    crosses_here n = record {
      row = here refl;
      needed = λ j. k (joined_more (cut_old r rs) (subst (λ (x : List ℕ). Joined g x u v) (cut_head r rs) j));
      crossing = n;
    }

    crosses_near : (e : ℕ) → Crosses g gs rs u o.near e → Crosses g gs (r ∷ rs) u v e
    crosses_near e c = record { row = there c.row; needed = needs e c.row (inl c.needed); crossing = c.crossing }

    crosses_far : (e : ℕ) → Crosses g gs rs o.far v e → Crosses g gs (r ∷ rs) u v e
    crosses_far e c = record { row = there c.row; needed = needs e c.row (inr c.needed); crossing = c.crossing }

pub crosses : (g : Graph) (gs rs : List ℕ) → Forest g rs → (u v : ℕ) → Joined g rs u v → ¬ Joined g gs u v → (e : ℕ) × Crosses g gs rs u v e
crosses g gs [] h u v j n = absurd (n (stay (joined_left j) (joined_none j)))
crosses g gs (r ∷ rs) h u v j n = elim (joined? g rs u v) [
  | yes k ↦ let (e, c) = crosses g gs rs (forest_tail h) u v k n in (e, crosses_later g gs r rs h u v e k c)
  | no k ↦ ⊎_elim (λ c. absurd (k c)) (λ o. step k o (crosses g gs rs (forest_tail h))) (split j)
]
  where
    step : ¬ Joined g rs u v → Over g r rs u v → ((x y : ℕ) → Joined g rs x y → ¬ Joined g gs x y → (e : ℕ) × Crosses g gs rs x y e)
        → (e : ℕ) × Crosses g gs (r ∷ rs) u v e
    step k o ih = elim (joined? g gs (first_end g r) (second_end g r)) [
      | no m ↦ (r, crosses_here g gs r rs h u v k o m)
      | yes m ↦ elim (joined? g gs u o.near) [
        | no p ↦ let (e, c) = ih u o.near o.before p in (e, crosses_near g gs r rs h u v k o e c)
        | yes p ↦
            let q : ¬ Joined g gs o.far v = λ q. n (joined_trans p (joined_trans (joined_ends_by o.row m) q)) in
            let (e, c) = ih o.far v o.after q in
            (e, crosses_far g gs r rs h u v k o e c)
      ]
    ]
