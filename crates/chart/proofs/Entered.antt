-- What entering a row does to a chart, said of the graph g without the barred rows and of the graph h of the must rows (`Entered`, `entered`): its two nodes become
-- neighbours, it is the first row of both, and its word has its ends and what was the first row. A row whose ends are no nodes joins nothing.
use mathlib.Core.Path.{◌∙◌, ◌≡◌, ap, ap₂, refl, subst, sym}
use mathlib.Core.Logic.{◌↔◌, ◌⊎◌, inl, inr, ⊎_elim}
use mathlib.Core.Bool.{true}
use mathlib.Core.List.{List, []}
use Prim.Native.Nat.{◌%◌, ◌+◌, ◌<◌, ◌≤◌, ℕ}
use native.Mathlib.Omega.{arith}
use lib.Dec.{T, eqb}
use lib.ListN.{get_or, length, length-set, set}
use lib.Seq.{get_or-set_other, get_or-set_same}
use borrow.Author.Tests.{le-ltb}
use Rattle.lists.specs.Lists.{pick}
use Rattle.graph.specs.Graph.{Graph, first_end, second_end}
use Rattle.graph.proofs.Growth.{Joins, back, forth}
use Rattle.costs.specs.Layouts.{is_barred, is_must, must_end, open_end}
use Rattle.costs.specs.Network.{Row, State, barred, must, «open»}
use Rattle.words.specs.Words.{has}
use Rattle.chart.specs.Chart.{bare_row, claimed_by, end_by, entered_by, first_part, linked_by, next_part, pair_at, row_by, row_word, second_part}
use Rattle.chart.proofs.Tables.{Ends, claimed_ends, claimed_length, claimed_near, claimed_old, claimed_other, linked_length, linked_must, linked_near, linked_size}
use Rattle.chart.proofs.Tables.{linked_word, linked_words, pair_here, pair_other, word_drawn_first, word_drawn_second, word_first, word_next, word_second, word_state}

-- what can be a node
abbrev pub Nodal : ℕ → Type 0
Nodal v = (1 ≤ v) × (v ≤ 32)

-- w is the word of row r
pub record Worded (g h : Graph) (r w : ℕ) : Type 0 where
  pub first : first_part w ≡ first_end g r
  pub second : second_part w ≡ second_end g r
  pub must_first : end_by true w (first_part w) ≡ first_end h r
  pub must_second : end_by true w (second_part w) ≡ second_end h r

-- With row r the words c have become d: its place among all rows, and among the must rows
pub record Linked (g h : Graph) (c d : List ℕ) (r : ℕ) : Type 0 where
  pub long : length d ≡ 1416
  pub sizes : (i : ℕ) → i < 5 → get_or d i 0 ≡ get_or c i 0
  pub near : (u v : ℕ) → Nodal u → Nodal v → T (has (get_or d (5 + u) 0) v) ↔ (T (has (get_or c (5 + u) 0) v) ⊎ Joins g r u v)
  pub head : (u v : ℕ) → Nodal u → Nodal v → Joins g r u v → get_or d (pair_at u v) 0 ≡ r
  pub heads : (u v : ℕ) → Nodal u → Nodal v → ¬ Joins g r u v → get_or d (pair_at u v) 0 ≡ get_or c (pair_at u v) 0
  pub word : Worded g h r (get_or d (1160 + r) 0)
  pub next : (u v : ℕ) → Nodal v → Joins g r u v → next_part (get_or d (1160 + r) 0) ≡ get_or c (pair_at (first_end g r) (second_end g r)) 0 % 65536
  pub words : (s : ℕ) → ¬ (s ≡ r) → get_or d (1160 + s) 0 ≡ get_or c (1160 + s) 0

pub record Claimed (h : Graph) (c d : List ℕ) (r : ℕ) : Type 0 where
  pub near : (u v : ℕ) → Nodal u → Nodal v → T (has (get_or d (38 + u) 0) v) ↔ (T (has (get_or c (38 + u) 0) v) ⊎ Joins h r u v)
  pub old : (v : ℕ) → Nodal v → T (has (get_or c 38 0) v) → T (has (get_or d 38 0) v)
  pub ends : (u v : ℕ) → Nodal v → Joins h r u v → T (has (get_or d 38 0) v)

pub record Entered (g h : Graph) (c d : List ℕ) (r : ℕ) : Type 0 where
  pub linked : Linked g h c d r
  pub claimed : Claimed h c d r

-- the ends of row r in a graph are a and b
module _ {g : Graph} {r a b : ℕ} (e : first_end g r ≡ a) (f : second_end g r ≡ b) {u v : ℕ} where
  joins_ends : Joins g r u v → Ends a b u v
  joins_ends (forth p q) = inl (sym e ∙ p, sym f ∙ q)
  joins_ends (back p q) = inr (sym e ∙ p, sym f ∙ q)

  ends_join : Ends a b u v → Joins g r u v
  ends_join s = ⊎_elim (λ (p, q). forth (e ∙ p) (f ∙ q)) (λ (p, q). back (e ∙ p) (f ∙ q)) s

-- a row with the ends 0 joins nothing to a node
none_joined : {g : Graph} {r : ℕ} → first_end g r ≡ 0 → second_end g r ≡ 0 → {u v : ℕ} → Nodal v → ¬ Joins g r u v
none_joined e f n (forth p q) = omega (arith, n.0)
none_joined e f n (back p q) = omega (arith, n.0)

-- the ends of row r by its state
pub record Stated (g h : Graph) (r : ℕ) (row : Row) : Type 0 where
  pub first : first_end g r ≡ open_end row row.first_end
  pub second : second_end g r ≡ open_end row row.second_end
  pub must_first : first_end h r ≡ must_end row row.first_end
  pub must_second : second_end h r ≡ must_end row row.second_end
  pub first_high : row.first_end ≤ 32
  pub second_high : row.second_end ≤ 32

-- a row's word has its parts
worded : (g h : Graph) (r a b next u v state : ℕ) → a ≤ 32 → b ≤ 32 → next < 65536 → u ≤ 32 → v ≤ 32 → first_end g r ≡ a → second_end g r ≡ b
    → first_end h r ≡ pick (eqb state 1) a 0 → second_end h r ≡ pick (eqb state 1) b 0 → Worded g h r (row_word a b next u v state)
worded g h r a b next u v state p q l m n first second must_first must_second =
    let here = word_first a b next u v state p q l m n in
    let there = word_second a b next u v state p q l m n in
    let said = word_state a b next u v state p q l m n in
    record {
      first = here ∙ sym first;
      second = there ∙ sym second;
      must_first = ap₂ (λ (x y : ℕ). pick (eqb x 1) y 0) said here ∙ sym must_first;
      must_second = ap₂ (λ (x y : ℕ). pick (eqb x 1) y 0) said there ∙ sym must_second;
    }

-- and the row itself, without its street and its costs
abbrev pub bare : Row → Row
bare row = record { first_end = row.first_end; second_end = row.second_end; street = 0; state = row.state; costs = [] }

word_row : (a b next u v state : ℕ) → a ≤ 32 → b ≤ 32 → next < 65536 → u ≤ 32 → v ≤ 32
    → row_by (row_word a b next u v state) ≡ bare_row u v state
word_row a b next u v state p q l m n =
    rw (word_drawn_first a b next u v state p q l m n, word_drawn_second a b next u v state p q l m n, word_state a b next u v state p q l m n)

-- one that is no must row leaves the words of the must rows as they are
unclaimed : (h : Graph) (c d : List ℕ) (r : ℕ) → first_end h r ≡ 0 → second_end h r ≡ 0 → ((u : ℕ) → u ≤ 32 → get_or d (38 + u) 0 ≡ get_or c (38 + u) 0) → Claimed h c d r
unclaimed h c d r first second same = record {
  near = λ u v m n. rw (same u m.1) (λ t. inl t, λ s. ⊎_elim (λ t. t) (λ j. absurd (none_joined first second n j)) s);
  old = λ v n t. rw (same 0 (omega arith)) t;
  ends = λ u v n j. absurd (none_joined first second n j);
}

module _ (g h : Graph) (c : List ℕ) (r : ℕ) (row : Row) (long : length c ≡ 1416) (few : r ≤ 255) (stated : Stated g h r row) where
  abbrev a : ℕ
  a = row.first_end

  abbrev b : ℕ
  b = row.second_end

  -- the ends of the row by its state
  module _ (s : State) (e : row.state ≡ s) where
    first_by : first_end g r ≡ pick (is_barred s) 0 a
    first_by = stated.first ∙ ap (λ (s : State). pick (is_barred s) 0 a) e

    second_by : second_end g r ≡ pick (is_barred s) 0 b
    second_by = stated.second ∙ ap (λ (s : State). pick (is_barred s) 0 b) e

    must_first_by : first_end h r ≡ pick (is_must s) a 0
    must_first_by = stated.must_first ∙ ap (λ (s : State). pick (is_must s) a 0) e

    must_second_by : second_end h r ≡ pick (is_must s) b 0
    must_second_by = stated.must_second ∙ ap (λ (s : State). pick (is_must s) b 0) e

  abbrev gone : List ℕ
  gone = set c (1160 + r) (row_word 0 0 0 a b 2)

  barred_entered : row.state ≡ barred → Entered g h c gone r
  barred_entered e =
      let first = first_by barred e in
      let second = second_by barred e in
      let must_first = must_first_by barred e in
      let must_second = must_second_by barred e in
      record {
        linked = record {
          long = length-set c (1160 + r) _ ∙ long;
          sizes = λ i l. other i (omega arith);
          near = λ u v m n. rw (other (5 + u) (omega arith)) (λ t. inl t, λ s. ⊎_elim (λ t. t) (λ j. absurd (none_joined first second n j)) s);
          head = λ u v m n j. absurd (none_joined first second n j);
          heads = λ u v m n j. other (pair_at u v) (omega arith);
          word =
              rw (get_or-set_same c (1160 + r) (row_word 0 0 0 a b 2) 0 (omega (arith, long)))
              (worded g h r 0 0 0 a b 2 (omega arith) (omega arith) (omega arith) stated.first_high stated.second_high first second must_first must_second);
          next = λ u v n j. absurd (none_joined first second n j);
          words = λ s d. other (1160 + s) (omega arith);
        };
        claimed = unclaimed h c gone r must_first must_second (λ u l. other (38 + u) (omega arith));
      }
    where
      other : (i : ℕ) → ¬ (i ≡ 1160 + r) → get_or gone i 0 ≡ get_or c i 0
      other i d = get_or-set_other c (1160 + r) i _ 0 d

  -- a row that is not barred, whatever is written then to the words of the must rows
  module _ (state : ℕ) (d : List ℕ) (whole : length d ≡ 1416) (same : (i : ℕ) → (i < 38) ⊎ (71 ≤ i) → get_or d i 0 ≡ get_or (linked_by c r a b state) i 0) where
    open_linked : first_end g r ≡ a → second_end g r ≡ b → first_end h r ≡ pick (eqb state 1) a 0 → second_end h r ≡ pick (eqb state 1) b 0 → Linked g h c d r
    open_linked first second must_first must_second =
        let p = stated.first_high in
        let q = stated.second_high in
        let after = get_or c (pair_at a b) 0 % 65536 in
        let here : get_or d (1160 + r) 0 ≡ row_word a b after a b state = same (1160 + r) (inr (omega arith)) ∙ linked_word c r a b state long few p q in
        record {
          long = whole;
          sizes = λ i l. same i (inl (omega arith)) ∙ linked_size c r a b state long few p q i l;
          near = λ u v m n. let (f, t) = linked_near c r a b state long few p q u v m.1 n.1 in
              rw (same (5 + u) (inl (omega arith))) (
                λ t. ⊎_elim (λ s. inl s) (λ s. inr (ends_join first second s)) (f t),
                λ s. t (⊎_elim (λ t. inl t) (λ j. inr (joins_ends first second j)) s),
              );
          head = λ u v m n j. same (pair_at u v) (inr (omega arith)) ∙ pair_here c r a b state long few p q u v (joins_ends first second j);
          heads = λ u v m n j. same (pair_at u v) (inr (omega arith)) ∙ pair_other c r a b state long few p q u v m.1 n.1 (λ s. j (ends_join first second s));
          word = rw here (worded g h r a b after a b state p q (omega arith) p q first second must_first must_second);
          next = λ u v n j. rw (here, first, second) (word_next a b after a b state p q (omega arith) p q);
          words = λ s e. same (1160 + s) (inr (omega arith)) ∙ linked_words c r a b state long few p q s e;
        }

  open_entered : row.state ≡ «open» → Entered g h c (linked_by c r a b 0) r
  open_entered e =
      let p = stated.first_high in
      let q = stated.second_high in
      let must_first = must_first_by «open» e in
      let must_second = must_second_by «open» e in
      record {
        linked = open_linked 0 (linked_by c r a b 0) (linked_length c r a b 0 long few p q) (λ i l. refl) (first_by «open» e) (second_by «open» e) must_first must_second;
        claimed = unclaimed h c (linked_by c r a b 0) r must_first must_second (λ u l. linked_must c r a b 0 long few p q u l);
      }

  must_entered : row.state ≡ must → Entered g h c (claimed_by (linked_by c r a b 1) a b) r
  must_entered e =
      let p = stated.first_high in
      let q = stated.second_high in
      let must_first = must_first_by must e in
      let must_second = must_second_by must e in
      let linked = linked_by c r a b 1 in
      let whole = linked_length c r a b 1 long few p q in
      let kept = linked_must c r a b 1 long few p q in
      record {
        linked = open_linked 1 (claimed_by linked a b) (claimed_length linked a b whole p q) (λ i l. claimed_other linked a b whole p q i l)
            (first_by must e) (second_by must e) must_first must_second;
        claimed = record {
          near = λ u v m n. let (f, t) = claimed_near linked a b whole p q u v m.0 n.1 in (
            λ t. ⊎_elim (λ s. inl (rw (kept u m.1) at s)) (λ s. inr (ends_join must_first must_second s)) (f t),
            λ s. t (⊎_elim (λ t. inl (rw (kept u m.1) t)) (λ j. inr (joins_ends must_first must_second j)) s),
          );
          old = λ v n t. claimed_old linked a b whole p q v n.1 (rw (kept 0 (omega arith)) t);
          ends = λ u v n j. claimed_ends linked a b whole p q u v n.1 (joins_ends must_first must_second j);
        };
      }

  -- what is entered
  read : (s : State) → row.state ≡ s → entered_by c r row ≡ pick (is_barred s) gone (pick (is_must s) (claimed_by (linked_by c r a b 1) a b) (linked_by c r a b 0))
  unfolding entered_by
  read s e = simp (le-ltb 255 r few, le-ltb 32 a stated.first_high, le-ltb 32 b stated.second_high, e)

  -- ENTERED, by the row's state
  pub entered : Entered g h c (entered_by c r row) r
  entered = by row.state refl
    where
      by : (s : State) → row.state ≡ s → Entered g h c (entered_by c r row) r
      by «open» e = subst (λ (d : List ℕ). Entered g h c d r) (sym (read «open» e)) (open_entered e)
      by must e = subst (λ (d : List ℕ). Entered g h c d r) (sym (read must e)) (must_entered e)
      by barred e = subst (λ (d : List ℕ). Entered g h c d r) (sym (read barred e)) (barred_entered e)

  -- its word has the row itself
  pub entered_row : row_by (get_or (entered_by c r row) (1160 + r) 0) ≡ bare row
  entered_row = by row.state refl
    where
      p : a ≤ 32
      p = stated.first_high

      q : b ≤ 32
      q = stated.second_high

      after : ℕ
      after = get_or c (pair_at a b) 0 % 65536

      by : (s : State) → row.state ≡ s → row_by (get_or (entered_by c r row) (1160 + r) 0) ≡ bare row
      by «open» e = rw (read «open» e, linked_word c r a b 0 long few p q, e) (word_row a b after a b 0 p q (omega arith) p q)
      by must e = rw (read must e, claimed_other (linked_by c r a b 1) a b (linked_length c r a b 1 long few p q) p q (1160 + r) (inr (omega arith)), linked_word c r a b 1 long few p q, e)
          (word_row a b after a b 1 p q (omega arith) p q)
      by barred e = rw (read barred e, get_or-set_same c (1160 + r) (row_word 0 0 0 a b 2) 0 (omega (arith, long)), e)
          (word_row 0 0 0 a b 2 (omega arith) (omega arith) (omega arith) p q)
