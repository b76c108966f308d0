-- Forests: distinct rows between nodes, of which none has its ends joined by the others. Parts of a forest are forests (`forest_part`), and a
-- row more whose ends are not joined keeps a forest (`forest_add`). A forest grows within any rows until it joins what they join (`grow`).
use mathlib.Core.Path.{◌≡◌, refl, subst, sym}
use mathlib.Core.Logic.{◌⊎◌, inl, inr, ⊎_elim}
use mathlib.Core.List.Memᴰ.{cases_cons as mem_cases}
use mathlib.Core.List.Memᴰ.{cast as mem_cast}
use mathlib.Core.List.Memᴰ.{head as here}
use mathlib.Core.List.Memᴰ.{not-nil as mem_nil}
use mathlib.Core.List.Memᴰ.{tail as there}
use mathlib.Core.List.{List, [], ◌∷◌}
use Prim.Native.Nat.{◌<◌, ℕ}
use native.Mathlib.Decide.{ℕ_discrete}
use lib.ListN.{length}
use Rattle.lists.proofs.Distinct.{Distinct, mem?}
use Rattle.lists.proofs.Members.{◌∈◌, ◌⊆◌, mem_elim}
use Rattle.graph.specs.Graph.{Graph, first_end, second_end}
use Rattle.graph.proofs.Minimal.{WellFormed}
use Rattle.forests.specs.Forests.{cut}
use Rattle.forests.proofs.Closure.{joined?}
use Rattle.forests.proofs.Cuts.{cut_head, cut_in, cut_mono, cut_next, cut_old}
use Rattle.forests.proofs.Joined.{Joined, Lies, Over, ends_joined, joined_ends, joined_more, joined_sym, joined_trans, lies_known, split, stay}

pub record Forest (g : Graph) (rs : List ℕ) : Type 0 where
  pub once : Distinct rs
  pub lies : (r : ℕ) → r ∈ rs → Lies g r
  pub apart : (r : ℕ) → r ∈ rs → ¬ Joined g (cut r rs) (first_end g r) (second_end g r)

pub forest_nil : (g : Graph) → Forest g []
forest_nil g = record { once = tt; lies = λ r i. absurd (mem_nil i); apart = λ r i. absurd (mem_nil i) }

-- the rows of a forest are rows of the graph
pub forest_known : (g : Graph) → WellFormed g → (rs : List ℕ) → Forest g rs → (r : ℕ) → r ∈ rs → r < length g.first_ends
forest_known g wf rs h r i = lies_known g wf r (h.lies r i)

module _ {g : Graph} where
  pub forest_part : {qs rs : List ℕ} → Distinct qs → qs ⊆ rs → Forest g rs → Forest g qs
  forest_part d s h = record {
    once = d;
    lies = λ r i. h.lies r (s r i);
    apart = λ r i j. h.apart r (s r i) (joined_more (cut_mono r s) j);
  }

  pub forest_tail : {r : ℕ} {rs : List ℕ} → Forest g (r ∷ rs) → Forest g rs
  forest_tail h = forest_part h.once.1 (λ q i. there i) h

  pub forest_head : {r : ℕ} {rs : List ℕ} → Forest g (r ∷ rs) → ¬ Joined g rs (first_end g r) (second_end g r)
  forest_head {r} {rs} h j = h.apart r (here refl) (joined_more (λ q i. cut_in r (there i) (λ e. h.once.0 (mem_cast (sym e) i))) j)

  -- loops are excluded
  pub forest_ends : {r : ℕ} {rs : List ℕ} → Forest g rs → r ∈ rs → ¬ (first_end g r ≡ second_end g r)
  forest_ends {r} h i e = h.apart r i (stay (h.lies r i).first e)

  -- where u and v are joined, a run between them over row r joins its ends
  pub over_ends : {r : ℕ} {rs qs : List ℕ} {u v : ℕ} → Over g r qs u v → qs ⊆ rs → Joined g rs u v → Joined g rs (first_end g r) (second_end g r)
  over_ends o s j = ends_joined o.row (joined_trans (joined_sym (joined_more s o.before)) (joined_trans j (joined_sym (joined_more s o.after))))

  -- a row in front, of which a later one is taken out
  pub cut_front : (r q : ℕ) (rs : List ℕ) → ¬ (r ≡ q) → {u v : ℕ} → Joined g (cut q (r ∷ rs)) u v → Joined g (cut q rs) u v ⊎ Over g r (cut q rs) u v
  cut_front r q rs n {u} {v} j = split (subst (λ (x : List ℕ). Joined g x u v) (cut_next q r rs n) j)

  -- ADD
  pub forest_add : {r : ℕ} {rs : List ℕ} → Forest g rs → Lies g r → ¬ Joined g rs (first_end g r) (second_end g r) → Forest g (r ∷ rs)
  forest_add {r} {rs} h l n = record {
    once = (fresh, h.once);
    lies = λ q i. mem_elim (Lies g) i l (h.lies q);
    apart = λ q i. mem_elim (λ (x : ℕ). ¬ Joined g (cut x (r ∷ rs)) (first_end g x) (second_end g x)) i first (later q);
  }
    where
      fresh : ¬ (r ∈ rs)
      fresh i = n (joined_ends i l)

      first : ¬ Joined g (cut r (r ∷ rs)) (first_end g r) (second_end g r)
      first j = n (joined_more (cut_old r rs) (subst (λ (x : List ℕ). Joined g x (first_end g r) (second_end g r)) (cut_head r rs) j))

      later : (q : ℕ) → q ∈ rs → ¬ Joined g (cut q (r ∷ rs)) (first_end g q) (second_end g q)
      later q i j =
          ⊎_elim (h.apart q i) (λ o. n (over_ends o (cut_old q rs) (joined_ends i (h.lies q i)))) (cut_front r q rs (λ e. fresh (mem_cast e i)) j)

module _ (g : Graph) where
  pub lies? : (r : ℕ) → Dec (Lies g r)
  lies? r = elim (mem? ℕ_discrete (first_end g r) g.nodes) [
    | no n ↦ no (λ h. n h.first)
    | yes a ↦ elim (mem? ℕ_discrete (second_end g r) g.nodes) [ no n ↦ no (λ h. n h.second) | yes b ↦ yes (record { first = a; second = b }) ]
  ]

  -- a row that may be added
  abbrev pub Free : List ℕ → ℕ → Type 0
  Free rs r = Lies g r × (¬ Joined g rs (first_end g r) (second_end g r))

  pub free? : (rs : List ℕ) (r : ℕ) → Dec (Free rs r)
  free? rs r = elim (lies? r) [
    | no n ↦ no (λ h. n h.0)
    | yes l ↦ elim (joined? g rs (first_end g r) (second_end g r)) [ yes j ↦ no (λ h. h.1 j) | no n ↦ yes (l, n) ]
  ]

  -- a forest ts around fs, with rows of fs and ps, that joins all that ps joins
  pub record Grown (fs ps ts : List ℕ) : Type 0 where
    pub forest : Forest g ts
    pub around : fs ⊆ ts
    pub within : (r : ℕ) → r ∈ ts → (r ∈ fs) ⊎ (r ∈ ps)
    pub ends : (r : ℕ) → r ∈ ps → Lies g r → Joined g ts (first_end g r) (second_end g r)

  pub grow : (ps fs : List ℕ) → Forest g fs → (ts : List ℕ) × Grown fs ps ts
  grow [] fs h = (fs, record { forest = h; around = λ r i. i; within = λ r i. inl i; ends = λ r i. absurd (mem_nil i) })
  grow (a ∷ ps) fs h = elim (free? fs a) [ yes f ↦ taken f (grow ps (a ∷ fs) (forest_add h f.0 f.1)) | no n ↦ left n (grow ps fs h) ]
    where
      taken : Free fs a → (ts : List ℕ) × Grown (a ∷ fs) ps ts → (ts : List ℕ) × Grown fs (a ∷ ps) ts
      taken f (ts, t) = (
        ts,
        record {
          forest = t.forest;
          around = λ r i. t.around r (there i);
          within = λ r i. ⊎_elim (λ m. ⊎_elim (λ e. inr (here e)) (λ k. inl k) (mem_cases m)) (λ m. inr (there m)) (t.within r i);
          ends = λ r i l. ⊎_elim (λ e. joined_ends (t.around r (here e)) l) (λ k. t.ends r k l) (mem_cases i);
        },
      )

      left : ¬ Free fs a → (ts : List ℕ) × Grown fs ps ts → (ts : List ℕ) × Grown fs (a ∷ ps) ts
      left n (ts, t) = (
        ts,
        record {
          forest = t.forest;
          around = t.around;
          within = λ r i. ⊎_elim (λ m. inl m) (λ m. inr (there m)) (t.within r i);
          ends = λ r i l. ⊎_elim (λ e. bound r e l) (λ k. t.ends r k l) (mem_cases i);
        },
      )
        where
          bound : (r : ℕ) → r ≡ a → Lies g r → Joined g ts (first_end g r) (second_end g r)
          bound r e l = elim (joined? g fs (first_end g r) (second_end g r)) [
            | yes j ↦ joined_more t.around j
            | no k ↦ absurd (n (subst (Free fs) e (l, k)))
          ]
