-- The word of Reach over a chart that is right: its members are the reached nodes (`reached_has`), it is their word (`reached_word_lem`) and its ones are their number (`reached_size`).
use mathlib.Core.Path.{◌∙◌, ◌≡◌, ap, refl, sym}
use mathlib.Core.Logic.{◌↔◌, inl, inr, ⊎_elim}
use mathlib.Core.List.Memᴰ.{cast as mem_cast}
use mathlib.Core.List.Memᴰ.{eq_of_singleton}
use mathlib.Core.List.Memᴰ.{head as here}
use mathlib.Core.List.Memᴰ.{tail as there}
use mathlib.Core.List.{List, [], ◌∷◌, map}
use Prim.Native.Nat.{◌%◌, ◌*◌, ◌-◌, ◌/◌, ◌<◌, ◌^◌, ◌≤◌, suc, zero, ℕ}
use native.Mathlib.Decide.{ℕ_discrete}
use native.Mathlib.Nat.{pow-suc}
use native.Mathlib.Omega.{arith}
use lib.Count.{ones, ones_step}
use lib.Dec.{T, T_not, lt→ltb, ltb, ltb→lt, not_T}
use lib.ListN.{length}
use Rattle.lists.specs.Lists.{filter_b, range, sum}
use Rattle.lists.proofs.Ascending.{filter_ascending}
use Rattle.lists.proofs.Members.{◌∈◌, filter_in, filter_out, range_in, range_out}
use Rattle.lists.proofs.Orders.{Ascending, Everywhere, StrictTotal, ascending_unique}
use Rattle.lists.proofs.Tests.{T-both, T-either, not_ltb→le}
use Rattle.graph.specs.Graph.{Graph, row_numbers, runs}
use Rattle.graph.proofs.Enough.{reached_runs}
use Rattle.graph.proofs.Growth.{start}
use Rattle.graph.proofs.Minimal.{WellFormed, sound_start}
use Rattle.graph.proofs.Runs.{Led, run_in, run_out}
use Rattle.graph.proofs.Walk.{reached_in}
use Rattle.words.specs.Words.{bit, has, minus}
use Rattle.words.proofs.Words.{bit_in, bit_out, has_minus, has_or, ones_members, word_sum, words_below}
use Rattle.chart.specs.Chart.{graph_in, limit_in, nodes_in}
use Rattle.chart.proofs.Charts.{Charts, Ready}
use Rattle.spread.proofs.Spreads.{spread_reaches}
use Rattle.operations.specs.Operations.{reached_nodes, word_of}
use Rattle.reach.specs.Reached.{reached_word}

-- Ascending numbers

numbers_order : StrictTotal Everywhere ltb
numbers_order = record {
  irrefl = λ a t. omega (arith, ltb→lt a a t);
  trans = λ a b c s t. lt→ltb a c (omega (arith, ltb→lt a b s, ltb→lt b c t));
  total = λ a b _ _ s t. omega (arith, not_ltb→le a b s, not_ltb→le b a t);
}

range_ascending : (from n : ℕ) → Ascending ltb (range from n)
unfolding range
range_ascending from zero = tt
range_ascending from (suc n) = (λ b m. lt→ltb from b (omega (arith, (range_out (suc from) n m).0)), range_ascending (suc from) n)

-- bit p - 1 for each number p stands one lower than bit p
word_half : (l : List ℕ) → ((p : ℕ) → p ∈ l → 1 ≤ p) → sum (map (λ p. 2 ^ p) l) ≡ word_of l * 2
unfolding word_of sum
word_half [] h = refl
word_half (p ∷ l) h =
    let one : 1 ≤ p = h p (here refl) in
    let e : suc (p - 1) ≡ p = omega arith in
    omega (arith, ap (λ (x : ℕ). 2 ^ x) e, pow-suc 2 (p - 1), word_half l (λ q m. h q (there m)))

module _ {c : List ℕ} (right : Charts c) where
  abbrev g : Graph
  g = graph_in c

  abbrev word : ℕ
  word = reached_word c

  formed : WellFormed g
  formed = right.charted.formed

  low : (v : ℕ) → v ∈ g.nodes → v ≤ 32
  low v m = omega (arith, right.charted.low v m)

  ready : Ready g (start g) (minus (nodes_in c) (bit g.plant))
  ready = record {
    sound = sound_start g formed;
    unentered = λ v. (
      λ t. let (m, n) = simp (has_minus, T-both) at t in
          ((right.all v).0 m, λ i. T_not (has (bit g.plant) v) n (bit_in g.plant v (omega (arith, low v ((right.all v).0 m))) (sym (eq_of_singleton i)))),
      λ (m, n). simp (has_minus, T-both) ((right.all v).1 m, not_T (has (bit g.plant) v) (λ t. n (here (sym (bit_out g.plant v t))))),
    );
  }

  -- the plant, and what the start reaches
  word_led : (v : ℕ) → T (has word v) ↔ Led g formed (row_numbers g) v
  unfolding reached_word
  word_led v =
      let spread = spread_reaches g _ (limit_in c) right.charted (start g) _ ready v in (
        λ t. ⊎_elim (λ s. inr (spread.0 s)) (λ s. inl (sym (bit_out g.plant v s))) (simp (has_or, T-either) at t),
        λ l. simp (has_or, T-either) (⊎_elim
            (λ (e : v ≡ g.plant). inr (bit_in g.plant v (omega (arith, low g.plant formed.plant)) (sym e)))
            (λ x. inl (spread.1 x))
            l),
      )

  led_node : (v : ℕ) → Led g formed (row_numbers g) v → v ∈ g.nodes
  led_node v (inl e) = mem_cast e formed.plant
  led_node v (inr x) = reached_in g (row_numbers g) (start g) (λ u. u ∈ g.nodes) (λ k h. h.step.enters) (λ r u w x i j m f. m) x

  -- THE MEMBERS are the nodes to which a run leads
  pub reached_has : (v : ℕ) → T (has (reached_word c) v) ↔ v ∈ reached_nodes (graph_in c)
  unfolding reached_nodes
  reached_has v =
      let n = length g.nodes in (
        λ t. let l = (word_led v).0 t in
            let m = led_node v l in
            filter_in (runs g (row_numbers g) n g.plant) m (run_in g (row_numbers g) n g.plant v ((reached_runs g formed (row_numbers g) v m).1 l)),
        λ i. let (m, t) = filter_out (runs g (row_numbers g) n g.plant) g.nodes i in
            (word_led v).1 ((reached_runs g formed (row_numbers g) v m).0 (run_out g (row_numbers g) n g.plant v t)),
      )

  node_range : (v : ℕ) → v ∈ reached_nodes g → (1 ≤ v) × (v ≤ 32)
  node_range v i =
      let m = led_node v ((word_led v).0 ((reached_has v).1 i)) in
      (elim (ℕ_discrete v 0) [ yes e ↦ absurd (formed.no_zero (mem_cast (sym e) m)) | no d ↦ omega arith ], low v m)

  -- both lists ascend
  listed : filter_b (has word) (range 0 33) ≡ reached_nodes g
  unfolding reached_nodes
  listed = ascending_unique numbers_order _ _
      (filter_ascending ltb (has word) (range 0 33) (range_ascending 0 33))
      (filter_ascending ltb _ g.nodes (filter_ascending ltb (has (nodes_in c)) (range 1 (limit_in c)) (range_ascending 1 (limit_in c))))
      (λ v m. (reached_has v).0 (filter_out (has word) (range 0 33) m).1)
      (λ v m. filter_in (has word) (range_in 0 33 v (omega arith) (omega (arith, (node_range v m).1))) ((reached_has v).1 m))

  word_lt : word < 2 ^ 33
  word_lt = words_below 33 word (λ v t. omega (arith, (node_range v ((reached_has v).0 t)).1))

  twice : word ≡ word_of (reached_nodes g) * 2
  twice = word_sum word 33 word_lt ∙ ap (λ (l : List ℕ). sum (map (λ p. 2 ^ p) l)) listed ∙ word_half (reached_nodes g) (λ p m. (node_range p m).0)

  -- ITS WORD, and the number of its ones
  pub reached_word_lem : reached_word c / 2 % 2 ^ 32 ≡ word_of (reached_nodes (graph_in c))
  reached_word_lem = omega (arith, twice, word_lt)

  pub reached_size : ones (reached_word c / 2 % 2 ^ 32) ≡ length (reached_nodes (graph_in c))
  reached_size =
      let low : word / 2 % 2 ^ 32 ≡ word / 2 = omega (arith, word_lt) in
      let even : word % 2 ≡ 0 = omega (arith, twice) in
      ap ones low ∙ omega (arith, ones_step word) ∙ ones_members word 33 word_lt ∙ ap length listed
