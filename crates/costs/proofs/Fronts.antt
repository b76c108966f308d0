-- The front of a list of vectors: it has the vectors that none of the list dominates (`front_members`), ascending (`front_ascending`),
-- and each vector of the list equals or is dominated by one of them (`undominated_meets`, `front_meets`). The members decide it (`front_same`).
use mathlib.Core.Path.{◌∙◌, ◌≡◌, ap, refl, subst, sym}
use mathlib.Core.Logic.{◌↔◌, ◌⊎◌, inl, inr, ⊎_elim}
use mathlib.Core.Bool.{not}
use mathlib.Core.List.{List, [], ◌++◌, ◌∷◌}
use mathlib.Core.List.Memᴰ.{append_cases}
use mathlib.Core.List.Memᴰ.{append_left}
use mathlib.Core.List.Memᴰ.{head as here}
use mathlib.Core.List.Memᴰ.{cases_cons as mem_cases}
use mathlib.Core.List.Memᴰ.{cast as mem_cast}
use mathlib.Core.List.Memᴰ.{not-nil as mem_nil}
use mathlib.Core.List.Memᴰ.{tail as there}
use Prim.Native.Nat.{ℕ}
use lib.Dec.{T, T_not, not_T}
use lib.ListN.{length}
use Rattle.lists.specs.Lists.{any, filter_b, same}
use Rattle.lists.proofs.Distinct.{Distinct}
use Rattle.lists.proofs.Members.{◌∈◌, ◌⊆◌, any_in, any_out, filter_in, filter_out, same_in, same_out, snoc_out}
use Rattle.lists.proofs.Orders.{Ascending, ascending_unique, sort_ascending, sort_in, sort_out}
use Rattle.lists.proofs.Tests.{decide, pick_elim}
use Rattle.costs.specs.Costs.{dominates, front_of, none_larger, once, vector_less}
use Rattle.costs.proofs.Vectors.{dominates_irrefl, dominates_none_larger, dominates_trans, none_larger_refl, vector_order}

-- all vectors of a list have length k
abbrev pub Sized : ℕ → List (List ℕ) → Type 0
Sized k vs = (w : List ℕ) → w ∈ vs → length w ≡ k

pub sized_left : (k : ℕ) (s t : List (List ℕ)) → Sized k (s ++ t) → Sized k s
sized_left k s t h w m = h w (append_left t m)

pub sized_append : (k : ℕ) (s t : List (List ℕ)) → Sized k s → Sized k t → Sized k (s ++ t)
sized_append k s t g h w m = ⊎_elim (g w) (h w) (append_cases s m)

pub sized_snoc : (k : ℕ) (s : List (List ℕ)) (v : List ℕ) → Sized k s → length v ≡ k → Sized k (s ++ (v ∷ []))
sized_snoc k s v g e w m = ⊎_elim (g w) (λ (i : w ≡ v). ap length i ∙ e) (snoc_out s m)

-- no vector of the list dominates w
abbrev pub Undominated : List (List ℕ) → List ℕ → Type 0
Undominated vs w = (x : List ℕ) → x ∈ vs → ¬ T (dominates x w)

-- v equals or dominates w
abbrev pub Meets : List ℕ → List ℕ → Type 0
Meets v w = (v ≡ w) ⊎ T (dominates v w)

pub meets_none_larger : (v w : List ℕ) → Meets v w → T (none_larger v w)
meets_none_larger v w (inl e) = subst (λ (u : List ℕ). T (none_larger v u)) e (none_larger_refl v)
meets_none_larger v w (inr t) = dominates_none_larger v w t

pub meets_dominates : (u v w : List ℕ) → length u ≡ length v → Meets u v → T (dominates v w) → T (dominates u w)
meets_dominates u v w e (inl q) t = subst (λ (x : List ℕ). T (dominates x w)) (sym q) t
meets_dominates u v w e (inr d) t = dominates_trans u v w e d t

pub dominates_meets : (u v w : List ℕ) → length u ≡ length v → T (dominates u v) → Meets v w → T (dominates u w)
dominates_meets u v w e t (inl q) = subst (λ (x : List ℕ). T (dominates u x)) q t
dominates_meets u v w e t (inr d) = dominates_trans u v w e t d

-- The descent: walk the list, and go over to each vector that dominates the one in hand.
record Descent (l : List (List ℕ)) (t : List ℕ) : Type 0 where
  least : List ℕ
  found : least ∈ t ∷ l
  meets : Meets least t
  undominated : Undominated l least

descend : (k : ℕ) (l : List (List ℕ)) (t : List ℕ) → length t ≡ k → Sized k l → Descent l t
descend k [] t e s = record { least = t; found = here refl; meets = inl refl; undominated = λ x m. absurd (mem_nil m) }
descend k (x ∷ l) t e s =
    go (decide (dominates x t)) (descend k l x (s x (here refl)) (λ w m. s w (there m))) (descend k l t e (λ w m. s w (there m)))
  where
    go : T (dominates x t) ⊎ (¬ T (dominates x t)) → Descent l x → Descent l t → Descent (x ∷ l) t
    go (inl d) r q = record {
      least = r.least;
      found = there r.found;
      meets = inr (meets_dominates r.least x t (size r.least r.found ∙ sym (s x (here refl))) r.meets d);
      undominated = λ y m h. ⊎_elim
          (λ (i : y ≡ x). dominates_irrefl x (dominates_meets x r.least x (s x (here refl) ∙ sym (size r.least r.found))
          (subst (λ (u : List ℕ). T (dominates u r.least)) i h) r.meets))
          (λ (i : y ∈ l). r.undominated y i h)
          (mem_cases m);
    }
      where
        size : (f : List ℕ) → f ∈ x ∷ l → length f ≡ k
        size f m = s f m
    go (inr n) r q = record {
      least = q.least;
      found = ⊎_elim (λ (i : q.least ≡ t). here i) (λ (i : q.least ∈ l). there (there i)) (mem_cases q.found);
      meets = q.meets;
      undominated = λ y m h. ⊎_elim
          (λ (i : y ≡ x). n (dominates_meets x q.least t (s x (here refl) ∙ sym (size q.least q.found))
          (subst (λ (u : List ℕ). T (dominates u q.least)) i h) q.meets))
          (λ (i : y ∈ l). q.undominated y i h)
          (mem_cases m);
    }
      where
        size : (f : List ℕ) → f ∈ t ∷ l → length f ≡ k
        size f m = ⊎_elim (λ (i : f ≡ t). ap length i ∙ e) (λ (i : f ∈ l). s f (there i)) (mem_cases m)

-- Every vector of the list equals or is dominated by one that no vector of the list dominates.
pub undominated_meets : (k : ℕ) (vs : List (List ℕ)) → Sized k vs → (t : List ℕ) → t ∈ vs → (f : List ℕ) × (f ∈ vs) × Meets f t × Undominated vs f
undominated_meets k vs s t m = let d = descend k vs t (s t m) s in
    (d.least, ⊎_elim (λ (i : d.least ≡ t). mem_cast i m) (λ (i : d.least ∈ vs). i) (mem_cases d.found), d.meets, d.undominated)

-- `once` keeps the members, and has none twice.
once_out : {w : List ℕ} (l : List (List ℕ)) → w ∈ once l → w ∈ l
unfolding once
once_out [] m = m
once_out {w} (v ∷ l) m = pick_elim (λ (k : List (List ℕ)). w ∈ k → w ∈ v ∷ l) (any (same v) (once l))
    (λ t i. there (once_out l i))
    (λ t i. ⊎_elim (λ (e : w ≡ v). here e) (λ (j : w ∈ once l). there (once_out l j)) (mem_cases i))
    m

once_in : {w : List ℕ} (l : List (List ℕ)) → w ∈ l → w ∈ once l
unfolding once
once_in [] m = m
once_in {w} (v ∷ l) m = pick_elim (λ (k : List (List ℕ)). w ∈ k) (any (same v) (once l))
    (λ t. ⊎_elim
    (λ (e : w ≡ v). let r = any_out (same v) (once l) t in mem_cast (e ∙ same_out v r.0 r.2) r.1)
    (λ (j : w ∈ l). once_in l j)
    (mem_cases m))
    (λ t. ⊎_elim (λ (e : w ≡ v). here e) (λ (j : w ∈ l). there (once_in l j)) (mem_cases m))

once_distinct : (l : List (List ℕ)) → Distinct (once l)
unfolding once
once_distinct [] = tt
once_distinct (v ∷ l) = pick_elim Distinct (any (same v) (once l))
    (λ t. once_distinct l)
    (λ n. (λ m. n (any_in (same v) m (same_in v)), once_distinct l))

-- The members of the front: those of the list that none of the list dominates. They ascend strictly.
pub front_out : {w : List ℕ} (vs : List (List ℕ)) → w ∈ front_of vs → (w ∈ vs) × Undominated vs w
unfolding front_of
front_out {w} vs m = (f.0, λ x i t. T_not (any (λ u. dominates u w) vs) f.1 (any_in (λ u. dominates u w) i t))
  where
    f : (w ∈ vs) × T (not (any (λ u. dominates u w) vs))
    f =
        filter_out (λ v. not (any (λ u. dominates u v) vs)) vs
        (once_out (filter_b (λ v. not (any (λ u. dominates u v) vs)) vs) (sort_out vector_less (once (filter_b (λ v. not (any (λ u. dominates u v) vs)) vs)) m))

pub front_in_lem : {w : List ℕ} (vs : List (List ℕ)) → w ∈ vs → Undominated vs w → w ∈ front_of vs
unfolding front_of
front_in_lem {w} vs m u =
    sort_in vector_less (once_in (filter_b (λ v. not (any (λ u. dominates u v) vs)) vs) (filter_in (λ v. not (any (λ u. dominates u v) vs)) m
    (not_T (any (λ u. dominates u w) vs) (λ t. let r = any_out (λ u. dominates u w) vs t in u r.0 r.1 r.2))))

pub front_members : (w : List ℕ) (vs : List (List ℕ)) → w ∈ front_of vs ↔ ((w ∈ vs) × Undominated vs w)
front_members w vs = (front_out vs, λ h. front_in_lem vs h.0 h.1)

pub front_ascending : (vs : List (List ℕ)) → Ascending vector_less (front_of vs)
unfolding front_of
front_ascending vs =
    sort_ascending vector_order (once (filter_b (λ v. not (any (λ u. dominates u v) vs)) vs)) (λ x i. tt)
    (once_distinct (filter_b (λ v. not (any (λ u. dominates u v) vs)) vs))

-- lists with the same members have the same front
pub front_same : (vs ws : List (List ℕ)) → vs ⊆ ws → ws ⊆ vs → front_of vs ≡ front_of ws
front_same vs ws s t = ascending_unique vector_order (front_of vs) (front_of ws) (front_ascending vs) (front_ascending ws) (part vs ws s t) (part ws vs t s)
  where
    part : (vs ws : List (List ℕ)) → vs ⊆ ws → ws ⊆ vs → front_of vs ⊆ front_of ws
    part vs ws s t v m = let (i, u) = front_out vs m in front_in_lem ws (s v i) (λ x j. u x (t x j))

-- every vector of the list is met by a member of the front
pub front_meets : (k : ℕ) (vs : List (List ℕ)) → Sized k vs → (t : List ℕ) → t ∈ vs → (f : List ℕ) × (f ∈ front_of vs) × Meets f t
front_meets k vs s t m = let r = undominated_meets k vs s t m in (r.0, front_in_lem vs r.1 r.3, r.2)
