-- UNBEATEN LAYOUTS: S beats T exactly if it is less where T's rows cost their least and the others their most (`beats_extreme`), so the unbeaten layouts are
-- those that are lightest for some choice (`unbeaten_lightest`, `lightest_unbeaten`). A row is in some of them exactly if its ends are not joined by must rows
-- and rows below its range (`possible`), and in all of them exactly if they are not joined by must rows and others that are not above its range (`necessary`).
use mathlib.Core.Path.{◌≡◌, refl, sym}
use mathlib.Core.Logic.{◌↔◌, ◌⊎◌, inl, inr, ⊎_elim}
use mathlib.Core.List.Memᴰ.{cases_cons as mem_cases}
use mathlib.Core.List.Memᴰ.{cast as mem_cast}
use mathlib.Core.List.Memᴰ.{head as here}
use mathlib.Core.List.Memᴰ.{tail as there}
use mathlib.Core.List.{List, [], ◌∷◌}
use Prim.Native.Nat.{◌+◌, ◌-◌, ◌<◌, ◌≤◌, ℕ}
use native.Mathlib.Decide.{dec_le, ℕ_discrete}
use native.Mathlib.Omega.{arith}
use Rattle.lists.specs.Lists.{filter_b, member, pick, sum}
use Rattle.lists.proofs.Distinct.{Distinct, filter_distinct, mem?}
use Rattle.lists.proofs.Members.{◌∈◌, ◌⊆◌, filter_out, member_in, member_out}
use Rattle.lists.proofs.Sums.{sum_within}
use Rattle.lists.proofs.Tests.{T_false, T_true}
use Rattle.graph.specs.Graph.{Graph, first_end, second_end}
use Rattle.graph.proofs.Minimal.{WellFormed}
use Rattle.graph.proofs.Tree.{tree_out}
use Rattle.forests.specs.Forests.{extreme, swap, weight}
use Rattle.forests.proofs.Cuts.{cut_gone}
use Rattle.forests.proofs.Intervals.{Within, extreme_at, extreme_else, within_low, within_high}
use Rattle.forests.proofs.Joined.{Joined, Lies}
use Rattle.forests.proofs.Minimum.{weight_swap}
use Rattle.musts.proofs.Layouts.{Layout, LightestIn, comes_in, gives_way, layout_swap, lightest_layout}
use Rattle.ranges.proofs.Choices.{Beats}

-- T's rows at their least, the others at their most
abbrev pub favours : (ℕ → ℕ) → (ℕ → ℕ) → List ℕ → ℕ → ℕ
favours lo hi ts r = pick (member r ts) (lo r) (hi r)

module _ (lo hi : ℕ → ℕ) (order : (r : ℕ) → lo r ≤ hi r) where
  favours_in : (ts : List ℕ) (r : ℕ) → r ∈ ts → favours lo hi ts r ≡ lo r
  favours_in ts r i = rw ((T_true (member r ts)).0 (member_in i))

  favours_out : (ts : List ℕ) (r : ℕ) → ¬ (r ∈ ts) → favours lo hi ts r ≡ hi r
  favours_out ts r n = rw ((T_false (member r ts)).0 (λ t. n (member_out r ts t)))

  favours_within : (ts : List ℕ) → Within lo hi (favours lo hi ts)
  favours_within ts r = elim (mem? ℕ_discrete r ts) [
    | yes i ↦ omega (arith, favours_in ts r i, order r)
    | no n ↦ omega (arith, favours_out ts r n, order r)
  ]

  module _ (c : ℕ → ℕ) (w : Within lo hi c) (ts : List ℕ) where
    -- by how much a row of T costs more than its least
    abbrev more : ℕ → ℕ
    more r = c r - lo r

    shared : List ℕ → List ℕ
    shared ss = filter_b (λ r. member r ts) ss

    own : (qs : List ℕ) → qs ⊆ ts → weight c qs ≡ weight (favours lo hi ts) qs + weight more qs
    unfolding sum
    own [] s = omega arith
    own (r ∷ qs) s = omega (arith, own qs (λ x i. s x (there i)), favours_in ts r (s r (here refl)), w r)

    others : (ss : List ℕ) → weight c ss ≤ weight (favours lo hi ts) ss + weight more (shared ss)
    unfolding sum filter_b shared
    others [] = omega arith
    others (r ∷ ss) = elim (mem? ℕ_discrete r ts) [
      | yes i ↦ rw ((T_true (member r ts)).0 (member_in i)) (omega (arith, others ss, w r))
      | no n ↦ rw ((T_false (member r ts)).0 (λ t. n (member_out r ts t))) (omega (arith, others ss, w r))
    ]

    -- no choice is worse for S against T
    pub worst_choice : (ss : List ℕ) → Distinct ss → weight c ss + weight (favours lo hi ts) ts ≤ weight (favours lo hi ts) ss + weight c ts
    unfolding shared
    worst_choice ss d = omega (
      arith,
      own ts (λ r i. i),
      others ss,
      sum_within more (shared ss) {m = ts} (filter_distinct (λ r. member r ts) ss d)
          (λ r i. member_out r ts (filter_out (λ r. member r ts) ss i).1),
    )

  -- EXTREME
  pub beats_extreme : (ss ts : List ℕ) → Distinct ss → Beats lo hi ss ts ↔ (weight (favours lo hi ts) ss < weight (favours lo hi ts) ts)
  beats_extreme ss ts d = (λ h. h (favours lo hi ts) (favours_within ts), λ h c w. omega (arith, worst_choice c w ts ss d))

  module _ (g : Graph) (wf : WellFormed g) (ms ps : List ℕ) where
    abbrev pub Unbeaten : List ℕ → Type 0
    Unbeaten ts = (ss : List ℕ) → Layout g ms ps ss → ¬ Beats lo hi ss ts

    once : {ts : List ℕ} → Layout g ms ps ts → Distinct ts
    once {ts} h = (tree_out g ts h.tree).once

    pub unbeaten_lightest : (ts : List ℕ) → Layout g ms ps ts → Unbeaten ts → LightestIn g ms ps (favours lo hi ts) ts
    unbeaten_lightest ts h u ss s = elim (dec_le (weight (favours lo hi ts) ts) (weight (favours lo hi ts) ss)) [
      | yes l ↦ l
      | no n ↦ absurd (u ss s ((beats_extreme ss ts (once s)).1 (omega arith)))
    ]

    pub lightest_unbeaten : (c : ℕ → ℕ) → Within lo hi c → (ts : List ℕ) → LightestIn g ms ps c ts → Unbeaten ts
    lightest_unbeaten c w ts l ss s b = omega (arith, l ss s, b c w)

    -- an exchange by a choice of costs
    swap_less : (c : ℕ → ℕ) (ts : List ℕ) (f e : ℕ) → Layout g ms ps ts → LightestIn g ms ps c ts → f ∈ ts → Layout g ms ps (swap f e ts) → c f ≤ c e
    swap_less c ts f e h l i s = omega (arith, l (swap f e ts) s, weight_swap c f e ts (once h) i)

    swap_lightest : (c : ℕ → ℕ) (ts : List ℕ) (f e : ℕ) → Layout g ms ps ts → LightestIn g ms ps c ts → f ∈ ts → c e ≤ c f → LightestIn g ms ps c (swap f e ts)
    swap_lightest c ts f e h l i k ss s = omega (arith, l ss s, weight_swap c f e ts (once h) i)

    module _ (some : (ts : List ℕ) × Layout g ms ps ts) (e : ℕ) (lies : Lies g e) (free : ¬ (e ∈ ms)) (may : e ∈ ps) where
      -- the must rows, and the rows below e's range
      abbrev pub Below : ℕ → Type 0
      Below r = (r ∈ ms) ⊎ ((r ∈ ps) × (hi r < lo e))

      -- POSSIBLE
      pub possible : (gs : List ℕ) → ((r : ℕ) → r ∈ gs ↔ Below r)
          → ((ts : List ℕ) × Layout g ms ps ts × Unbeaten ts × (e ∈ ts)) ↔ (¬ Joined g gs (first_end g e) (second_end g e))
      possible gs is = (out, into)
        where
          out : (ts : List ℕ) × Layout g ms ps ts × Unbeaten ts × (e ∈ ts) → ¬ Joined g gs (first_end g e) (second_end g e)
          out (ts, h, u, i) j =
              let other : ¬ (e ∈ gs) = λ m. ⊎_elim (λ k. free k) (λ k. omega (arith, order e)) ((is e).0 m) in
              let (r, k, n, t) = gives_way g wf gs ts h.tree e i other j in
              ⊎_elim
              (λ m. n (h.musts r m))
              (λ (m, l).
              let x = swap_less (favours lo hi ts) ts e r h (unbeaten_lightest ts h u) i (layout_swap g wf ms ps ts e r h free m t) in
              omega (arith, favours_in ts e i, favours_out ts r n))
              ((is r).0 k)

          into : ¬ Joined g gs (first_end g e) (second_end g e) → (ts : List ℕ) × Layout g ms ps ts × Unbeaten ts × (e ∈ ts)
          into n =
              let c = extreme lo hi e in
              let (bs, k, l) = lightest_layout g wf ms ps c some.0 some.1 in
              elim (mem? ℕ_discrete e bs) [
                | yes i ↦ (bs, k, lightest_unbeaten c (within_low lo hi order e) bs l, i)
                | no o ↦
                    let (f, i, a, t) = comes_in g wf gs bs k.tree e lies n in
                    let differ : ¬ (f ≡ e) = λ d. o (mem_cast (sym d) i) in
                    let above : lo e ≤ hi f = elim (dec_le (lo e) (hi f)) [ yes y ↦ y | no y ↦ absurd (a ((is f).1 (inr (k.allowed f i, omega arith)))) ] in
                    let s = layout_swap g wf ms ps bs f e k (λ m. a ((is f).1 (inl m))) may t in
                    let v = swap_lightest c bs f e k l i (omega (arith, extreme_at lo hi e, extreme_else lo hi e f differ)) in
                    (swap f e bs, s, lightest_unbeaten c (within_low lo hi order e) (swap f e bs) v, here refl)
              ]

      -- the must rows, and the other rows that are not above e's range
      abbrev pub Level : ℕ → Type 0
      Level r = (r ∈ ms) ⊎ ((r ∈ ps) × (¬ (r ≡ e)) × (lo r ≤ hi e))

      -- NECESSARY
      pub necessary : (gs : List ℕ) → ((r : ℕ) → r ∈ gs ↔ Level r)
          → ((ts : List ℕ) → Layout g ms ps ts → Unbeaten ts → e ∈ ts) ↔ (¬ Joined g gs (first_end g e) (second_end g e))
      necessary gs is = (out, into)
        where
          out : ((ts : List ℕ) → Layout g ms ps ts → Unbeaten ts → e ∈ ts) → ¬ Joined g gs (first_end g e) (second_end g e)
          out all j =
              let c = extreme hi lo e in
              let (bs, k, l) = lightest_layout g wf ms ps c some.0 some.1 in
              let i = all bs k (lightest_unbeaten c (within_high lo hi order e) bs l) in
              let other : ¬ (e ∈ gs) = λ m. ⊎_elim (λ x. free x) (λ x. x.1 refl) ((is e).0 m) in
              let (r, x, n, t) = gives_way g wf gs bs k.tree e i other j in
              ⊎_elim
              (λ m. n (k.musts r m))
              (λ (m, d, y).
              let s = layout_swap g wf ms ps bs e r k free m t in
              let v = swap_lightest c bs e r k l i (omega (arith, extreme_at hi lo e, extreme_else hi lo e r d)) in
              ⊎_elim (λ z. d (sym z)) (cut_gone e bs) (mem_cases (all (swap e r bs) s (lightest_unbeaten c (within_high lo hi order e) (swap e r bs) v))))
              ((is r).0 x)

          into : ¬ Joined g gs (first_end g e) (second_end g e) → (ts : List ℕ) → Layout g ms ps ts → Unbeaten ts → e ∈ ts
          into n ts h u = elim (mem? ℕ_discrete e ts) [
            | yes i ↦ i
            | no o ↦
                let (f, i, a, t) = comes_in g wf gs ts h.tree e lies n in
                let differ : ¬ (f ≡ e) = λ d. o (mem_cast (sym d) i) in
                let above : hi e < lo f = elim (dec_le (lo f) (hi e)) [ yes y ↦ absurd (a ((is f).1 (inr (h.allowed f i, differ, y)))) | no y ↦ omega arith ] in
                let s = layout_swap g wf ms ps ts f e h (λ m. a ((is f).1 (inl m))) may t in
                let x = swap_less (favours lo hi ts) ts f e h (unbeaten_lightest ts h u) i s in
                absurd (omega (arith, favours_in ts f i, favours_out ts e o))
          ]
