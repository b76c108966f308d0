-- The count depends only on which nodes have one label: links may be moved to other nodes and labels, where what has one label keeps one (`count_alike`).
use mathlib.Core.Path.{◌∙◌, ◌≡◌, ap, ap₂, refl, sym}
use mathlib.Core.Logic.{◌↔◌, ◌⊎◌, inl, inr}
use mathlib.Core.Bool.{Bool}
use mathlib.Core.List.Memᴰ.{head as here}
use mathlib.Core.List.Memᴰ.{not-nil as mem_nil}
use mathlib.Core.List.Memᴰ.{tail as there}
use mathlib.Core.List.{List, [], ◌∷◌, map}
use Prim.Native.Nat.{◌*◌, ◌+◌, ℕ}
use lib.Dec.{T, eqb, eqb→eq}
use Rattle.lists.specs.Lists.{all, pick}
use Rattle.lists.proofs.Members.{◌∈◌, ◌⊆◌, all_in, all_out, mem_elim}
use Rattle.lists.proofs.Tests.{T_false, T-same, T_true, decide, eq→eqb}
use Rattle.counts.specs.Counting.{Link, count, link}
use Rattle.counts.specs.Trees.{unite, whole}
use Rattle.counts.proofs.Labels.{United, unite_coarser, unite_in, unite_out}

-- both ends of all links are among these nodes
abbrev pub Within : List ℕ → List Link → Type 0
Within ns [] = Unit {0}
Within ns (e ∷ es) = ((e.one ∈ ns) × (e.other ∈ ns)) × Within ns es

-- links at other nodes
abbrev pub move : (ℕ → ℕ) → List Link → List Link
move φ es = map (λ e. link (φ e.one) (φ e.other) e.weight) es

-- When all nodes have one label

-- one of them, with whose label all agree; or two that differ
pub data Labels (ns : List ℕ) (lab : ℕ → ℕ) : Type 0 where
  no_node : ns ≡ [] → Labels ns lab
  alone : (p : ℕ) → p ∈ ns → ((v : ℕ) → v ∈ ns → lab v ≡ lab p) → Labels ns lab
  differ : (u v : ℕ) → u ∈ ns → v ∈ ns → ¬ (lab u ≡ lab v) → Labels ns lab

some_other : (lab : ℕ → ℕ) (p : ℕ) (ns : List ℕ) → ¬ T (all (λ v. eqb (lab v) (lab p)) ns) → (v : ℕ) × (v ∈ ns) × (¬ (lab v ≡ lab p))
unfolding all
some_other lab p [] n = absurd (n tt)
some_other lab p (x ∷ ns) n = elim (decide (eqb (lab x) (lab p))) [
  | inr k ↦ (x, here refl, λ e. k (eq→eqb _ _ e))
  | inl t ↦ let (v, i, k) = some_other lab p ns (λ s. n (rw ((T_true (eqb (lab x) (lab p))).0 t) s)) in (v, there i, k)
]

pub labels : (ns : List ℕ) (lab : ℕ → ℕ) → Labels ns lab
labels [] lab = no_node refl
labels (p ∷ ns) lab = step (decide (all (λ v. eqb (lab v) (lab p)) ns))
  where
    step : T (all (λ v. eqb (lab v) (lab p)) ns) ⊎ (¬ T (all (λ v. eqb (lab v) (lab p)) ns)) → Labels (p ∷ ns) lab
    step (inl t) = alone p (here refl) (λ v i. mem_elim (λ (x : ℕ). lab x ≡ lab p) i refl (λ j. eqb→eq _ _ (all_out (λ v. eqb (lab v) (lab p)) t j)))
    step (inr n) = let (v, i, k) = some_other lab p ns n in differ v p (there i) (here refl) k

whole_nil : (lab : ℕ → ℕ) → whole [] lab ≡ 0
unfolding whole
whole_nil lab = refl

pub whole_alone : (ns : List ℕ) (lab : ℕ → ℕ) (p : ℕ) → p ∈ ns → ((v : ℕ) → v ∈ ns → lab v ≡ lab p) → whole ns lab ≡ 1
unfolding whole
whole_alone [] lab p i h = absurd (mem_nil i)
whole_alone (q ∷ ns) lab p i h = rw ((T_true (all (λ v. eqb (lab v) (lab q)) ns)).0
    (all_in (λ v. eqb (lab v) (lab q)) ns (λ v j. eq→eqb _ _ (h v (there j) ∙ sym (h q (here refl))))))

pub whole_differ : (ns : List ℕ) (lab : ℕ → ℕ) (u v : ℕ) → u ∈ ns → v ∈ ns → ¬ (lab u ≡ lab v) → whole ns lab ≡ 0
unfolding whole
whole_differ [] lab u v i j n = absurd (mem_nil i)
whole_differ (q ∷ ns) lab u v i j n = rw ((T_false (all (λ v. eqb (lab v) (lab q)) ns)).0 (λ t. n (like t u i ∙ sym (like t v j))))
  where
    like : T (all (λ v. eqb (lab v) (lab q)) ns) → (x : ℕ) → x ∈ q ∷ ns → lab x ≡ lab q
    like t x k = mem_elim (λ (y : ℕ). lab y ≡ lab q) k refl (λ m. eqb→eq _ _ (all_out (λ v. eqb (lab v) (lab q)) t m))

-- Nodes N with labels lab, of which ns count, moved by φ to nodes of which ms count with labels bal

pub record Alike (φ : ℕ → ℕ) (N ns : List ℕ) (lab : ℕ → ℕ) (ms : List ℕ) (bal : ℕ → ℕ) : Type 0 where
  pub part : ns ⊆ N
  pub to : (u : ℕ) → u ∈ ns → φ u ∈ ms
  pub from : (u : ℕ) → u ∈ ms → (v : ℕ) × (v ∈ ns) × (bal u ≡ bal (φ v))
  pub same : (u v : ℕ) → u ∈ N → v ∈ N → (lab u ≡ lab v) ↔ (bal (φ u) ≡ bal (φ v))

module _ (φ : ℕ → ℕ) (N ns : List ℕ) (ms : List ℕ) where
  whole_alike : (lab bal : ℕ → ℕ) → Alike φ N ns lab ms bal → whole ns lab ≡ whole ms bal
  whole_alike lab bal h = elim (labels ns lab) [
    | no_node e ↦ empty (labels ms bal) e
    | alone p i f ↦ whole_alone ns lab p i f ∙ sym (whole_alone ms bal (φ p) (h.to p i)
        (λ v j. let (u, k, e) = h.from v j in e ∙ (h.same u p (h.part u k) (h.part p i)).0 (f u k)))
    | differ u v i j n ↦ whole_differ ns lab u v i j n
        ∙ sym (whole_differ ms bal (φ u) (φ v) (h.to u i) (h.to v j) (λ e. n ((h.same u v (h.part u i) (h.part v j)).1 e)))
  ]
    where
      none : ns ≡ [] → (u : ℕ) → ¬ (u ∈ ms)
      none e u i = let (v, j, k) = h.from u i in mem_nil (rw e at j)

      empty : Labels ms bal → ns ≡ [] → whole ns lab ≡ whole ms bal
      empty (no_node f) e = rw (e, f) (whole_nil lab ∙ sym (whole_nil bal))
      empty (alone p i f) e = absurd (none e p i)
      empty (differ u v i j n) e = absurd (none e u i)

  unite_alike : (lab bal : ℕ → ℕ) (a b : ℕ) → a ∈ N → b ∈ N → Alike φ N ns lab ms bal → Alike φ N ns (unite lab a b) ms (unite bal (φ a) (φ b))
  unite_alike lab bal a b i j h = record {
    part = h.part;
    to = h.to;
    from = λ u k. let (v, m, e) = h.from u k in (v, m, unite_coarser bal (φ a) (φ b) u (φ v) e);
    same = λ u v k m. (
      λ e. unite_in bal (φ a) (φ b) (φ u) (φ v) (down u v k m (unite_out lab a b u v e)),
      λ e. unite_in lab a b u v (up u v k m (unite_out bal (φ a) (φ b) (φ u) (φ v) e)),
    );
  }
    where
      down : (u v : ℕ) → u ∈ N → v ∈ N → United lab a b u v → United bal (φ a) (φ b) (φ u) (φ v)
      down u v k m (inl e) = inl ((h.same u v k m).0 e)
      down u v k m (inr (inl (p, q))) = inr (inl ((h.same u a k i).0 p, (h.same v b m j).0 q))
      down u v k m (inr (inr (p, q))) = inr (inr ((h.same u b k j).0 p, (h.same v a m i).0 q))

      up : (u v : ℕ) → u ∈ N → v ∈ N → United bal (φ a) (φ b) (φ u) (φ v) → United lab a b u v
      up u v k m (inl e) = inl ((h.same u v k m).1 e)
      up u v k m (inr (inl (p, q))) = inr (inl ((h.same u a k i).1 p, (h.same v b m j).1 q))
      up u v k m (inr (inr (p, q))) = inr (inr ((h.same u b k j).1 p, (h.same v a m i).1 q))

  pub count_alike : (lab bal : ℕ → ℕ) (es : List Link) → Within N es → Alike φ N ns lab ms bal → count ns lab es ≡ count ms bal (move φ es)
  unfolding count
  count_alike lab bal [] w h = whole_alike lab bal h
  count_alike lab bal (e ∷ es) w h =
      ap₂ (λ (x y : ℕ). e.weight.dropped * x + e.weight.merged * y) (count_alike lab bal es w.1 h)
      (ap₂ (λ (t : Bool) (x : ℕ). pick t 0 x) loops
      (count_alike (unite lab e.one e.other) (unite bal (φ e.one) (φ e.other)) es w.1
      (unite_alike lab bal e.one e.other w.0.0 w.0.1 h)))
    where
      loops : eqb (lab e.one) (lab e.other) ≡ eqb (bal (φ e.one)) (bal (φ e.other))
      loops =
          let s = h.same e.one e.other w.0.0 w.0.1 in
          T-same _ _ (λ t. eq→eqb _ _ (s.0 (eqb→eq _ _ t))) (λ t. eq→eqb _ _ (s.1 (eqb→eq _ _ t)))

-- the same links at the same nodes, where the labels join the same nodes
pub move_same : (es : List Link) → move (λ v. v) es ≡ es
move_same [] = refl
move_same (e ∷ es) = ap (λ (l : List Link). e ∷ l) (move_same es)

pub count_same : (N ns : List ℕ) (lab bal : ℕ → ℕ) (es : List Link) → Within N es → ns ⊆ N
    → ((u v : ℕ) → u ∈ N → v ∈ N → (lab u ≡ lab v) ↔ (bal u ≡ bal v)) → count ns lab es ≡ count ns bal es
count_same N ns lab bal es w p s = count_alike (λ v. v) N ns ns lab bal es w (record {
  part = p;
  to = λ u i. i;
  from = λ u i. (u, i, refl);
  same = s;
}) ∙ ap (count ns bal) (move_same es)
