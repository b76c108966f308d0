-- The matrix filled with a graph's rows counts what the graph counts (`fill_total`).
use mathlib.Core.Path.{◌∙◌, ◌≡◌, ap, refl, sym}
use mathlib.Core.List.{List, [], ◌++◌, ◌∷◌, append-nil}
use Prim.Native.Nat.{◌+◌, ◌<◌, ◌≤◌, pred, suc, zero, ℕ}
use native.Mathlib.Omega.{arith}
use lib.ListN.{length}
use Rattle.lists.specs.Lists.{range}
use Rattle.lists.proofs.Members.{◌∈◌, range_in, range_out}
use Rattle.graph.specs.Graph.{Graph, first_end, second_end}
use Rattle.forests.proofs.Joined.{Lies}
use Rattle.counts.specs.Counting.{Link, count, link}
use Rattle.counts.specs.Matrix.{Matrix, add, links, star, total}
use Rattle.costs.specs.Network.{State}
use Rattle.counts.specs.States.{empty, fill, fill_from, link_count, links_from, weight_of}
use Rattle.counts.proofs.Alike.{Within, count_alike, move}
use Rattle.counts.proofs.Laws.{count_absent, count_behind, count_swap}
use Rattle.counts.proofs.Matrix.{count_add}

-- a link in front of other links may stand behind them
pub count_through : (ns : List ℕ) (e : Link) (l m k : List Link) → ((lab : ℕ → ℕ) → count ns lab (e ∷ m) ≡ count ns lab k)
    → (lab : ℕ → ℕ) → count ns lab (e ∷ l ++ m) ≡ count ns lab (l ++ k)
count_through ns e [] m k h lab = h lab
count_through ns e (g ∷ l) m k h lab = count_swap ns e g (l ++ m) lab ∙ count_behind ns g (e ∷ l ++ m) (l ++ k) (count_through ns e l m k h) lab

-- a graph with nodes 1 to n, and rows between different ones of them
pub record Between (g : Graph) (n : ℕ) : Type 0 where
  pub nodes : g.nodes ≡ range 1 n
  pub ends : (r : ℕ) → r < length g.first_ends → Lies g r
  pub differ : (r : ℕ) → r < length g.first_ends → ¬ (first_end g r ≡ second_end g r)

module _ (g : Graph) (n : ℕ) (b : Between g n) where
  pub first_in_lem : (r : ℕ) → r < length g.first_ends → first_end g r ∈ range 1 n
  first_in_lem r h = rw b.nodes at (b.ends r h).first

  pub second_in : (r : ℕ) → r < length g.first_ends → second_end g r ∈ range 1 n
  second_in r h = rw b.nodes at (b.ends r h).second

  filling : (ss : List State) (r : ℕ) → r + length ss ≤ length g.first_ends → (w : Matrix) (lab : ℕ → ℕ)
      → count (range 0 n) lab (move pred (links_from g r ss) ++ links w n) ≡ count (range 0 n) lab (links (fill_from g r ss w) n)
  unfolding links_from fill_from
  filling [] r h w lab = refl
  filling (s ∷ ss) r h w lab =
      let l : r < length g.first_ends = omega arith in
      let i = range_out 1 n (first_in_lem r l) in
      let j = range_out 1 n (second_in r l) in
      let d = b.differ r l in
      count_through (range 0 n) (link (pred (first_end g r)) (pred (second_end g r)) (weight_of s)) (move pred (links_from g (suc r) ss)) (links w n) _
      (λ bal. count_add (range 0 n) w n bal (pred (first_end g r)) (pred (second_end g r)) (weight_of s) (omega arith) (omega arith) (λ e. d (omega arith))) lab
      ∙ filling ss (suc r) (omega arith) (add w (pred (first_end g r)) (pred (second_end g r)) (weight_of s)) lab

  -- nothing joins the nodes of the empty matrix
  empty_star : (ns : List ℕ) (v j k : ℕ) (l : List Link) (lab : ℕ → ℕ) → count ns lab (star empty v j k ++ l) ≡ count ns lab l
  unfolding star
  empty_star ns v j zero l lab = refl
  empty_star ns v j (suc k) l lab = count_absent ns lab v j (star empty v (suc j) k ++ l) ∙ empty_star ns v (suc j) k l lab

  empty_links : (ns : List ℕ) (k : ℕ) (lab : ℕ → ℕ) → count ns lab (links empty k) ≡ count ns lab []
  unfolding links
  empty_links ns zero lab = refl
  empty_links ns (suc v) lab = empty_star ns v 0 v (links empty v) lab ∙ empty_links ns v lab

  without_empty : (ns : List ℕ) (l : List Link) (lab : ℕ → ℕ) → count ns lab (l ++ links empty n) ≡ count ns lab (l ++ [])
  without_empty ns [] lab = empty_links ns n lab
  without_empty ns (e ∷ l) lab = count_behind ns e (l ++ links empty n) (l ++ []) (without_empty ns l) lab

  links_in : (ss : List State) (r : ℕ) → r + length ss ≤ length g.first_ends → Within (range 1 n) (links_from g r ss)
  unfolding links_from
  links_in [] r h = tt
  links_in (s ∷ ss) r h = ((first_in_lem r (omega arith), second_in r (omega arith)), links_in ss (suc r) (omega arith))

  pub fill_total : (ss : List State) → length ss ≤ length g.first_ends → total (fill g ss) n ≡ link_count g ss
  unfolding total link_count
  fill_total ss h =
      sym (filling ss 0 (omega arith) empty (λ v. v))
      ∙ without_empty (range 0 n) (move pred (links_from g 0 ss)) (λ v. v) ∙ ap (count (range 0 n) (λ v. v)) (append-nil (move pred (links_from g 0 ss)))
      ∙ sym (count_alike pred (range 1 n) (range 1 n) (range 0 n) (λ v. v) (λ v. v) (links_from g 0 ss) (links_in ss 0 (omega arith)) (record {
        part = λ u i. i;
        to = λ u i. let r = range_out 1 n i in range_in 0 n (pred u) (omega arith) (omega arith);
        from = λ u i. let r = range_out 0 n i in (suc u, range_in 1 n (suc u) (omega arith) (omega arith), omega arith);
        same = λ u v i j. let r = range_out 1 n i in let s = range_out 1 n j in (λ e. ap pred e, λ e. omega arith);
      }))
      ∙ ap (λ (ns : List ℕ). count ns (λ v. v) (links_from g 0 ss)) (sym b.nodes)
