-- What the lightest choice says of a node: too short or too heavy, it closes the node (`short`, `too_heavy`); whole, it is a tree inside the limits, or the node may be split at each of its rows
-- (`settles`). On every input its rows are usable (`choice_on`).
use mathlib.Core.Path.{◌∙◌, ◌≡◌, ap, subst, sym}
use mathlib.Core.Logic.{⊎_elim}
use mathlib.Core.Option.{none}
use mathlib.Core.List.{List, [], ◌++◌, ◌∷◌, map}
use mathlib.Core.List.Memᴰ.{append_cases}
use mathlib.Core.List.Memᴰ.{cases_cons as mem_cases}
use mathlib.Core.List.Memᴰ.{head as here}
use mathlib.Core.List.Memᴰ.{not-nil as mem_nil}
use mathlib.Core.List.Memᴰ.{tail as there}
use Prim.Native.Nat.{◌+◌, ◌<◌, ◌≤◌, suc, zero, ℕ}
use native.Mathlib.Nat.{zero-add}
use native.Mathlib.Omega.{arith}
use lib.Dec.{T, lt→ltb}
use lib.ListN.{get_or, length, length-append, take}
use lib.Seq.{take_all}
use Rattle.lists.specs.Lists.{range, sort, sum}
use Rattle.lists.proofs.Members.{◌∈◌, ◌⊆◌, filter_in, filter_out, range_out, take_out}
use Rattle.lists.proofs.Orders.{sort_in, sort_out}
use Rattle.lists.proofs.Ranges.{range_length}
use Rattle.lists.proofs.Tests.{pick_elim}
use Rattle.graph.specs.Graph.{Graph}
use Rattle.costs.specs.Costs.{cost_of}
use Rattle.costs.specs.Network.{Network}
use Rattle.forests.proofs.Joined.{Lies, lies_known}
use Rattle.forests.proofs.Parts.{forest_size}
use Rattle.completions.specs.Boxes.{inside}
use Rattle.completions.specs.Greedy.{greedy}
use Rattle.completions.specs.Labels.{choose_few, joined_by, label_at, same_label}
use Rattle.completions.proofs.Find.{Answers, made_inside, short_none}
use Rattle.completions.proofs.Greedy.{Rising, rising_filter, sort_rising}
use Rattle.completions.proofs.Labels.{Labelled, few_greedy, greedy_forest, greedy_from, labelled_own, labelled_rows}
use Rattle.chosen.specs.Chosen.{is_on, rows_on}
use Rattle.chosen.proofs.Flags.{on_mem}
use Rattle.tally.specs.Tally.{table_of, vector_in}
use Rattle.tally.proofs.Tables.{inside_table}
use Rattle.orders.specs.Orders.{key_less}
use Rattle.weighing.specs.Weighing.{weights_in}
use Rattle.room.specs.Room.{room_in}
use Rattle.room.proofs.Heavy.{heavy}
use Rattle.find.specs.declared.Judged.{Judged}
use Rattle.find.specs.declared.Judged.TheVariants.{Closed, Open, Tree}
use Rattle.find.specs.Find.{graph_in}
use Rattle.find.specs.Nodes.{Given, Judges, Settles, Usable, rows_by}

-- a place of a range
get_or_range : (from n i : ℕ) → i < n → get_or (range from n) i 0 ≡ from + i
unfolding range
get_or_range from zero i low = absurd (omega arith)
get_or_range from (suc n) zero low = omega arith
get_or_range from (suc n) (suc i) low = get_or_range (suc from) n i (omega arith) ∙ sum_next from i
  where
    sum_next : (a b : ℕ) → suc a + b ≡ a + suc b
    sum_next a b = omega arith

-- the sorted rows are usable
by_usable : (weights flags : List ℕ) → rows_by weights flags ⊆ rows_on flags
by_usable weights flags r m = sort_out (key_less weights) (rows_on flags) (filter_out (is_on flags) (sort (key_less weights) (rows_on flags)) m).0

module _ {firsts seconds : List ℕ} {nodes k : ℕ} {limits inc flags : List ℕ} {need : ℕ} {labels : List ℕ}
    (given : Given firsts seconds nodes k limits inc flags need labels) (kinds costs leads : List ℕ) (four : length kinds ≡ 4) (whole : length limits ≡ 4) where
  abbrev pub g : Graph
  g = graph_in firsts seconds nodes

  abbrev pub w : Network
  w = table_of kinds k costs leads

  abbrev pub us : List ℕ
  us = rows_on flags

  abbrev pub lim : List ℕ
  lim = take k limits

  node_count_lem : length g.nodes ≡ nodes
  node_count_lem = range_length 1 nodes

  full_size : suc (length inc + need) ≡ length g.nodes
  full_size = given.lacks ∙ sym node_count_lem

  us_lie : (r : ℕ) → r ∈ us → Lies g r
  us_lie = given.node.lies

  row_low : (r : ℕ) → Lies g r → r < 256
  row_low r l = omega (arith, lies_known g given.tables.formed r l, given.tables.few_rows)

  inc_low : (r : ℕ) → r ∈ inc → r < 256
  inc_low r m = row_low r (given.node.forest.lies r m)

  -- the labels tell what the rows that are in join
  own_label : (v : ℕ) → v < 33 → label_at (range 0 33) v ≡ v
  own_label v low = get_or_range 0 33 v low ∙ zero-add v

  labelled : Labelled g inc labels
  labelled = subst (Labelled g inc) (sym given.labelled) (labelled_rows g (range 0 33) inc
      (labelled_own g (range 0 33)
      (λ v i. omega (arith, range_length 0 33, node_low v i))
      (λ u v i j e. sym (own_label u (node_low u i)) ∙ e ∙ own_label v (node_low v j)))
      given.node.forest.lies)
    where
      node_low : (v : ℕ) → v ∈ g.nodes → v < 33
      node_low v i = omega (arith, (range_out 1 nodes i).1, given.tables.small)

  -- the usable rows, sorted by any weights
  module _ (weights : List ℕ) where
    abbrev seq : List ℕ
    seq = rows_by weights flags

    seq_us : seq ⊆ us
    seq_us = by_usable weights flags

    us_seq : us ⊆ seq
    us_seq r m = filter_in (is_on flags) (sort_in (key_less weights) m) (lt→ltb 0 (get_or flags r 0) ((on_mem flags r).0 m).1)

    -- the rows that the code chooses
    module _ {chosen : List ℕ} (choice : chosen ≡ take 31 (choose_few firsts seconds need labels seq)) where
      few : choose_few firsts seconds need labels seq ≡ greedy g inc seq
      few = few_greedy g given.tables.formed seq need inc labels given.node.forest full_size labelled (λ r m. us_lie r (seq_us r m))

      choice_size : length (greedy g inc seq) ≤ need
      choice_size = omega (
        arith,
        forest_size g given.tables.formed (inc ++ greedy g inc seq) (greedy_forest g seq inc given.node.forest (λ r m. us_lie r (seq_us r m))),
        length-append inc (greedy g inc seq),
        full_size,
      )

      chosen_is : chosen ≡ greedy g inc seq
      chosen_is = choice ∙ ap (take 31) few ∙ take_all 31 (greedy g inc seq) (omega (arith, choice_size, given.lacks, given.tables.small))

      -- it is too short
      pub short : ¬ (length chosen ≡ need) → Answers g w lim inc us none
      short n = short_none g inc us us_lie seq seq_us given.tables.formed w lim us_seq
          (λ e. n (rw chosen_is (omega (arith, e, full_size))))

      rising : Rising (λ r. get_or weights r 0) seq
      rising = rising_filter (λ r. get_or weights r 0) (is_on flags) (sort (key_less weights) us) (sort_rising (λ r. get_or weights r 0) us)

      -- it is too heavy
      pub too_heavy : (factors : List ℕ) {room : ℕ} → weights ≡ weights_in kinds k costs leads limits inc flags factors → room ≡ room_in kinds k costs leads limits inc factors
          → room < sum (map (λ r. get_or weights r 0) chosen) → Answers g w lim inc us none
      too_heavy factors is_weights is_room h =
          heavy g given.tables.formed kinds k costs leads limits inc flags factors given.tables.few_criteria four whole inc_low us_lie seq seq_us us_seq
          (subst (λ (x : List ℕ). Rising (λ r. get_or x r 0) seq) is_weights rising)
          (omega (arith, h, is_room, ap (λ (x : List ℕ). sum (map (λ r. get_or x r 0) (greedy g inc seq))) is_weights, ap (λ (x : List ℕ). sum (map (λ r. get_or weights r 0) x)) chosen_is))

      -- it is whole
      module _ (full : length chosen ≡ need) where
        all_is : take 31 (inc ++ chosen) ≡ inc ++ greedy g inc seq
        all_is = take_all 31 (inc ++ chosen) (omega (arith, length-append inc chosen, full, given.lacks, given.tables.small)) ∙ ap (λ (x : List ℕ). inc ++ x) chosen_is

        tree_size : suc (length inc + length (greedy g inc seq)) ≡ length g.nodes
        tree_size = omega (arith, ap length chosen_is, full, full_size)

        all_low : (r : ℕ) → r ∈ inc ++ greedy g inc seq → r < 256
        all_low r m = ⊎_elim (inc_low r) (λ i. row_low r (us_lie r (seq_us r (greedy_from g seq inc r i)))) (append_cases inc m)

        -- the test of the code is that of the network
        same_test : inside limits (vector_in kinds k costs leads (take 31 (inc ++ chosen))) ≡ inside lim (cost_of w (inc ++ greedy g inc seq))
        same_test = ap (λ (x : List ℕ). inside limits (vector_in kinds k costs leads x)) all_is
            ∙ inside_table kinds k costs leads (inc ++ greedy g inc seq) all_low given.tables.few_criteria four limits whole given.node.open_past_lem

        pub settles : (j : Judged) → Settles kinds k costs leads limits inc chosen j → Judges g w lim inc us j
        settles Closed s = absurd s
        settles (Tree rows) s = rw (s.1, all_is) (made_inside g inc us us_lie seq seq_us given.tables.formed w lim given.node.forest tree_size (subst T same_test s.0))
        settles (Open rows factors) s = (seq, seq_us, s.1 ∙ chosen_is, rw (s.1, chosen_is) (λ t. s.0 (subst T (sym same_test) t)))

-- on every input the rows of a choice have their flags set
few_part : (firsts seconds : List ℕ) (n : ℕ) (labels rows : List ℕ) → choose_few firsts seconds n labels rows ⊆ rows
unfolding choose_few
few_part firsts seconds n labels [] q m = m
few_part firsts seconds zero labels (r ∷ rows) q m = absurd (mem_nil m)
few_part firsts seconds (suc n) labels (r ∷ rows) q m = pick_elim (λ (l : List ℕ). q ∈ l → q ∈ r ∷ rows) (same_label firsts seconds labels r)
    (λ t i. there (few_part firsts seconds (suc n) labels rows q i))
    (λ t i. ⊎_elim (λ e. here e) (λ j. there (few_part firsts seconds n (joined_by firsts seconds labels r) rows q j)) (mem_cases i)) m

pub choice_on : (firsts seconds weights flags : List ℕ) (n : ℕ) (labels : List ℕ) {chosen : List ℕ}
    → chosen ≡ take 31 (choose_few firsts seconds n labels (rows_by weights flags)) → chosen ⊆ rows_on flags
choice_on firsts seconds weights flags n labels e r m =
    by_usable weights flags r (few_part firsts seconds n labels (rows_by weights flags) r (take_out 31 _ (subst (λ (x : List ℕ). r ∈ x) e m)))

-- the rows of a whole choice that settles nothing
pub settles_usable : (kinds : List ℕ) (k : ℕ) (costs leads limits inc : List ℕ) {chosen : List ℕ} (flags : List ℕ) {need : ℕ} (j : Judged) → Settles kinds k costs leads limits inc chosen j
    → length chosen ≡ need → chosen ⊆ rows_on flags → Usable flags need j
settles_usable kinds k costs leads limits inc flags Closed s full within = tt
settles_usable kinds k costs leads limits inc flags (Tree rows) s full within = tt
settles_usable kinds k costs leads limits inc flags (Open rows factors) s full within = rw s.1 (full, within)
