-- LABELS: where labels tell what rows join (`Labelled`), the choice by labels, ended once as many rows are chosen as a tree lacks, is the greedy choice
-- (`few_greedy`). Own labels tell it for no rows (`labelled_own`), and a row that joins its ends keeps this (`labelled_join`, `labelled_rows`).
-- The choice is of the sequence (`greedy_from`) and keeps a forest (`greedy_forest`), and a full forest leaves nothing to choose (`greedy_full`).
use mathlib.Core.Path.{◌∙◌, ◌≡◌, ap, refl, subst, sym}
use mathlib.Core.Logic.{◌↔◌, ⊎_elim}
use mathlib.Core.Bool.{Bool}
use mathlib.Core.List.{List, [], ◌++◌, ◌∷◌, append-nil}
use mathlib.Core.List.Memᴰ.{append_cases}
use mathlib.Core.List.Memᴰ.{append_left}
use mathlib.Core.List.Memᴰ.{append_right}
use mathlib.Core.List.Memᴰ.{cases_cons as mem_cases}
use mathlib.Core.List.Memᴰ.{head as here}
use mathlib.Core.List.Memᴰ.{tail as there}
use Prim.Native.Nat.{◌<◌, ◌+◌, suc, zero, ℕ}
use native.Mathlib.Decide.{ℕ_discrete}
use native.Mathlib.Omega.{arith}
use lib.Dec.{T, eqb, eqb→eq}
use lib.ListN.{length, length-map}
use Rattle.lists.specs.Lists.{pick}
use Rattle.lists.proofs.Distinct.{Distinct}
use Rattle.lists.proofs.Maps.{map_at}
use Rattle.lists.proofs.Members.{◌∈◌, ◌⊆◌}
use Rattle.lists.proofs.Tests.{T_false, T_true, eq→eqb, pick_elim, pick_true}
use Rattle.graph.specs.Graph.{Graph, first_end, second_end}
use Rattle.graph.proofs.Growth.{Joins, back, forth}
use Rattle.graph.proofs.Minimal.{WellFormed}
use Rattle.forests.proofs.Closure.{joined_runs}
use Rattle.forests.proofs.Forest.{Forest, forest_add, forest_part}
use Rattle.forests.proofs.Joined.{Joined, Lies, joined_left, joined_more, joined_none, joined_refl, joined_right, joined_row, joined_sym, joined_trans, split}
use Rattle.forests.proofs.Parts.{full_spans, spans_all}
use Rattle.completions.specs.Greedy.{closes, greedy}
use Rattle.completions.specs.Labels.{choose_few, joined_by, label_at, labels_of, same_label}

-- what closes a row joins its ends
pub closes_joined : (g : Graph) (ps : List ℕ) (r : ℕ) → Lies g r → T (closes g ps r) ↔ Joined g ps (first_end g r) (second_end g r)
closes_joined g ps r l = ((joined_runs g ps (first_end g r) (second_end g r) l.first).1, (joined_runs g ps (first_end g r) (second_end g r) l.first).0)

-- nodes have one label exactly if the rows ps join them
pub record Labelled (g : Graph) (ps labels : List ℕ) : Type 0 where
  pub known : (v : ℕ) → v ∈ g.nodes → v < length labels
  pub joined : (u v : ℕ) → u ∈ g.nodes → v ∈ g.nodes → label_at labels u ≡ label_at labels v → Joined g ps u v
  pub alike : (u v : ℕ) → Joined g ps u v → label_at labels u ≡ label_at labels v

-- a label that is changed, and one that is not

turned : (a b x : ℕ) → x ≡ a → pick (eqb x a) b x ≡ b
turned a b x e = ap (λ (t : Bool). pick t b x) ((T_true (eqb x a)).0 (eq→eqb x a e))

left : (a b x : ℕ) → ¬ (x ≡ a) → pick (eqb x a) b x ≡ x
left a b x n = ap (λ (t : Bool). pick t b x) ((T_false (eqb x a)).0 (λ t. n (eqb→eq x a t)))

module _ (g : Graph) (ps labels : List ℕ) (h : Labelled g ps labels) (r : ℕ) (l : Lies g r) where
  a : ℕ
  a = label_at labels (first_end g r)

  b : ℕ
  b = label_at labels (second_end g r)

  f : ℕ → ℕ
  unfolding a b
  f x = pick (eqb x a) b x

  new : (v : ℕ) → v ∈ g.nodes → label_at (joined_by g.first_ends g.second_ends labels r) v ≡ f (label_at labels v)
  unfolding f a b
  new v m = map_at (λ x. pick (eqb x a) b x) labels v 0 0 (h.known v m)

  over : {u v : ℕ} → u ∈ g.nodes → v ∈ g.nodes → label_at labels u ≡ label_at labels (first_end g r) → label_at labels (second_end g r) ≡ label_at labels v → Joined g (r ∷ ps) u v
  over {u} {v} i j x y = joined_trans (joined_more (λ q m. there m) (h.joined u (first_end g r) i l.first x))
      (joined_trans (joined_row (here refl) (forth refl refl) l.first l.second) (joined_more (λ q m. there m) (h.joined (second_end g r) v l.second j y)))

  both_ways : (u v : ℕ) → u ∈ g.nodes → v ∈ g.nodes → f (label_at labels u) ≡ f (label_at labels v) → Joined g (r ∷ ps) u v
  unfolding f a b
  both_ways u v i j e = elim (ℕ_discrete (label_at labels u) a) [
    | yes x ↦ elim (ℕ_discrete (label_at labels v) a) [
      | yes y ↦ joined_more (λ q m. there m) (h.joined u v i j (x ∙ sym y))
      | no y ↦ over i j x (sym (turned a b (label_at labels u) x) ∙ e ∙ left a b (label_at labels v) y)
    ]
    | no x ↦ elim (ℕ_discrete (label_at labels v) a) [
      | yes y ↦ joined_sym (over j i y (sym (turned a b (label_at labels v) y) ∙ sym e ∙ left a b (label_at labels u) x))
      | no y ↦ joined_more (λ q m. there m) (h.joined u v i j (sym (left a b (label_at labels u) x) ∙ e ∙ left a b (label_at labels v) y))
    ]
  ]

  -- both ends have the second end's label
  second_one : (z : ℕ) → z ≡ b → f z ≡ b
  unfolding f a b
  second_one z e = pick_elim (λ (t : ℕ). t ≡ b) (eqb z a) (λ t. refl) (λ t. e)

  ends_one : {u v : ℕ} → Joins g r u v → f (label_at labels u) ≡ f (label_at labels v)
  unfolding f a b
  ends_one {u} {v} (forth x y) = turned a b (label_at labels u) (ap (label_at labels) (sym x)) ∙ sym (second_one (label_at labels v) (ap (label_at labels) (sym y)))
  ends_one {u} {v} (back x y) = second_one (label_at labels u) (ap (label_at labels) (sym y)) ∙ sym (turned a b (label_at labels v) (ap (label_at labels) (sym x)))

  -- JOIN
  pub labelled_join : Labelled g (r ∷ ps) (joined_by g.first_ends g.second_ends labels r)
  labelled_join = record {
    known = λ v m. rw length-map (h.known v m);
    joined = λ u v i j e. both_ways u v i j (sym (new u i) ∙ e ∙ new v j);
    alike = λ u v j. new u (joined_left j) ∙ ⊎_elim (λ k. ap f (h.alike u v k))
        (λ o. ap f (h.alike u o.near o.before) ∙ ends_one o.row ∙ ap f (h.alike o.far v o.after)) (split j) ∙ sym (new v (joined_right j));
  }

-- each node its own label, and no row
pub labelled_own : (g : Graph) (own : List ℕ) → ((v : ℕ) → v ∈ g.nodes → v < length own) → ((u v : ℕ) → u ∈ g.nodes → v ∈ g.nodes → label_at own u ≡ label_at own v → u ≡ v)
    → Labelled g [] own
labelled_own g own known apart = record {
  known = known;
  joined = λ u v i j e. subst (Joined g [] u) (apart u v i j e) (joined_refl i);
  alike = λ u v j. ap (label_at own) (joined_none j);
}

pub labelled_rows : (g : Graph) (own ps : List ℕ) → Labelled g [] own → ((r : ℕ) → r ∈ ps → Lies g r) → Labelled g ps (labels_of g.first_ends g.second_ends own ps)
unfolding labels_of
labelled_rows g own [] h l = h
labelled_rows g own (r ∷ ps) h l = labelled_join g ps (labels_of g.first_ends g.second_ends own ps) (labelled_rows g own ps h (λ q m. l q (there m))) r (l r (here refl))

-- Forests

-- what is chosen is of the sequence
pub greedy_from : (g : Graph) (rs ps : List ℕ) → greedy g ps rs ⊆ rs
unfolding greedy
greedy_from g [] ps q m = m
greedy_from g (r ∷ rs) ps q m = pick_elim (λ (l : List ℕ). q ∈ l → q ∈ r ∷ rs) (closes g ps r)
    (λ t i. there (greedy_from g rs ps q i)) (λ t i. ⊎_elim (λ e. here e) (λ j. there (greedy_from g rs (r ∷ ps) q j)) (mem_cases i)) m

-- a row between others is as distinct as in front of them
between_distinct : (l m : List ℕ) {x : ℕ} → Distinct (x ∷ (l ++ m)) → Distinct (l ++ x ∷ m)
between_distinct [] m d = d
between_distinct (y ∷ l) m {x} d = (
  λ i. ⊎_elim (λ j. d.1.0 (append_left m j)) (λ j. ⊎_elim (λ e. d.0 (here (sym e))) (λ k. d.1.0 (append_right l k)) (mem_cases j)) (append_cases l i),
  between_distinct l m (λ i. d.0 (there i), d.1.1),
)

-- FOREST
pub greedy_forest : (g : Graph) (rs ps : List ℕ) → Forest g ps → ((r : ℕ) → r ∈ rs → Lies g r) → Forest g (ps ++ greedy g ps rs)
unfolding greedy
greedy_forest g [] ps h l = forest_part (subst Distinct (sym (append-nil ps)) h.once) (λ q m. subst (λ (x : List ℕ). q ∈ x) (append-nil ps) m) h
greedy_forest g (r ∷ rs) ps h l = pick_elim (λ (x : List ℕ). Forest g (ps ++ x)) (closes g ps r)
    (λ t. greedy_forest g rs ps h (λ q m. l q (there m)))
    (λ n.
    let x = l r (here refl) in
    let f = greedy_forest g rs (r ∷ ps) (forest_add h x (λ j. n ((closes_joined g ps r x).1 j))) (λ q m. l q (there m)) in
    forest_part (between_distinct ps (greedy g (r ∷ ps) rs) f.once)
    (λ q m. ⊎_elim (λ i. there (append_left (greedy g (r ∷ ps) rs) i)) (λ i. ⊎_elim (λ e. here e) (λ j. there (append_right ps j)) (mem_cases i)) (append_cases ps m)) f)

-- a full forest closes every row
pub greedy_full : (g : Graph) → WellFormed g → (rs ps : List ℕ) → Forest g ps → suc (length ps) ≡ length g.nodes → ((r : ℕ) → r ∈ rs → Lies g r) → greedy g ps rs ≡ []
unfolding greedy
greedy_full g wf [] ps h e l = refl
greedy_full g wf (r ∷ rs) ps h e l = pick_elim (λ (x : List ℕ). x ≡ []) (closes g ps r)
    (λ t. greedy_full g wf rs ps h e (λ q m. l q (there m)))
    (λ n. let x = l r (here refl) in absurd (n ((closes_joined g ps r x).1 (spans_all g ps (full_spans g wf ps h e) (first_end g r) (second_end g r) x.first x.second))))

-- FEW: it may be ended once as many rows are chosen as a tree lacks
pub few_greedy : (g : Graph) → WellFormed g → (rs : List ℕ) (n : ℕ) (ps labels : List ℕ) → Forest g ps → suc (length ps + n) ≡ length g.nodes → Labelled g ps labels
    → ((r : ℕ) → r ∈ rs → Lies g r) → choose_few g.first_ends g.second_ends n labels rs ≡ greedy g ps rs
unfolding choose_few greedy
few_greedy g wf [] n ps labels forest e h l = refl
few_greedy g wf (r ∷ rs) zero ps labels forest e h l = sym (greedy_full g wf (r ∷ rs) ps forest (omega (arith, e)) l)
few_greedy g wf (r ∷ rs) (suc n) ps labels forest e h l = same_choice g ps labels r rs h (l r (here refl))
    (choose_few g.first_ends g.second_ends (suc n) labels rs)
    (choose_few g.first_ends g.second_ends n (joined_by g.first_ends g.second_ends labels r) rs)
    (few_greedy g wf rs (suc n) ps labels forest e h (λ q m. l q (there m)))
    (λ k. few_greedy g wf rs n (r ∷ ps) (joined_by g.first_ends g.second_ends labels r) (forest_add forest (l r (here refl)) k) (omega (arith, e))
    (labelled_join g ps labels h r (l r (here refl))) (λ q m. l q (there m)))
  where
    same_choice : (g : Graph) (ps labels : List ℕ) (r : ℕ) (rs : List ℕ) → Labelled g ps labels → Lies g r → (a b : List ℕ) → a ≡ greedy g ps rs
        → ((¬ Joined g ps (first_end g r) (second_end g r)) → b ≡ greedy g (r ∷ ps) rs)
        → pick (same_label g.first_ends g.second_ends labels r) a (r ∷ b) ≡ pick (closes g ps r) (greedy g ps rs) (r ∷ greedy g (r ∷ ps) rs)
    same_choice g ps labels r rs h x a b d k = pick_elim (λ (y : List ℕ). y ≡ pick (closes g ps r) (greedy g ps rs) (r ∷ greedy g (r ∷ ps) rs)) (same_label g.first_ends g.second_ends labels r)
        (λ t. d ∙ sym (pick_true (closes g ps r) _ _ ((closes_joined g ps r x).1 (h.joined (first_end g r) (second_end g r) x.first x.second (eqb→eq _ _ t)))))
        (λ n. let out : ¬ Joined g ps (first_end g r) (second_end g r) = λ j. n (eq→eqb _ _ (h.alike (first_end g r) (second_end g r) j)) in
        ap (λ (y : List ℕ). r ∷ y) (k out) ∙ sym (ap (λ (t : Bool). pick t (greedy g ps rs) (r ∷ greedy g (r ∷ ps) rs)) ((T_false (closes g ps r)).0 (λ t. out ((closes_joined g ps r x).0 t)))))
