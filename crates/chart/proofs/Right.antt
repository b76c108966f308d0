-- The words of a chart are right for the rows from r on (`Right`), and with row r entered for one more (`right_more`). g is the graph without the barred rows, h that
-- of the must rows.
use mathlib.Core.Path.{◌∙◌, ◌≡◌, subst}
use mathlib.Core.Logic.{◌↔◌, ◌⊎◌, inl, inr, ⊎_elim}
use mathlib.Core.List.{List}
use Prim.Native.Nat.{◌%◌, ◌+◌, ◌<◌, ◌≤◌, suc, ℕ}
use native.Mathlib.Decide.{ℕ_discrete}
use native.Mathlib.Omega.{arith}
use lib.Dec.{T}
use lib.ListN.{get_or, length}
use Rattle.lists.proofs.Tests.{decide}
use Rattle.graph.specs.Graph.{Graph, first_end, joins, second_end}
use Rattle.graph.proofs.Growth.{Joins, back, forth, joins_sym}
use Rattle.graph.proofs.Runs.{joins_in, joins_out}
use Rattle.words.specs.Words.{has}
use Rattle.chart.specs.Chart.{next_part, pair_at}
use Rattle.chart.proofs.Charts.{NextRow}
use Rattle.chart.proofs.Entered.{Entered, Nodal, Worded}

-- The first row

-- x is the first row from r on that joins u and v; 0 where there is none
pub record First (g : Graph) (r x u v : ℕ) : Type 0 where
  pub none : 0 < r → x ≡ 0 → (q : ℕ) → r ≤ q → q < length g.first_ends → ¬ Joins g q u v
  pub low : 0 < x → r ≤ x
  pub known : 0 < x → x < length g.first_ends
  pub joined : 0 < x → Joins g x u v
  pub before : (q : ℕ) → r ≤ q → q < x → ¬ Joins g q u v

-- with a row more it is the first, or the first is as before
first_here : {g : Graph} {r u v : ℕ} → r < length g.first_ends → Joins g r u v → First g r r u v
first_here h j = record {
  none = λ p e. absurd (omega arith);
  low = λ p. omega arith;
  known = λ p. h;
  joined = λ p. j;
  before = λ q l k. absurd (omega arith);
}

module _ {g : Graph} {r x u v : ℕ} where
  first_sym : First g r x u v → First g r x v u
  first_sym f = record {
    none = λ p e q l k j. f.none p e q l k (joins_sym j);
    low = f.low;
    known = f.known;
    joined = λ p. joins_sym (f.joined p);
    before = λ q l k j. f.before q l k (joins_sym j);
  }

  first_past : First g (suc r) x u v → ¬ Joins g r u v → First g r x u v
  first_past f n = record {
    none = λ p e q l k j. at q l j (λ l. f.none (omega arith) e q l k j);
    low = λ p. omega (arith, f.low p);
    known = f.known;
    joined = f.joined;
    before = λ q l k j. at q l j (λ l. f.before q l k j);
  }
    where
      at : (q : ℕ) → r ≤ q → Joins g q u v → (suc r ≤ q → ⊥) → ⊥
      at q l j above = elim (ℕ_discrete q r) [ yes e ↦ n (rw e at j) | no d ↦ above (omega arith) ]

  -- the first row above r is the next
  first_next : First g (suc r) x u v → r < length g.first_ends → NextRow g r x u v
  first_next f h = record {
    none_above = λ e q l k. f.none (omega arith) e q (omega arith) k;
    above = λ p. omega (arith, f.low p);
    known = elim (ℕ_discrete x 0) [ yes e ↦ omega arith | no d ↦ f.known (omega arith) ];
    joined = f.joined;
    between = λ q l k. f.before q (omega arith) k;
  }

-- The rows from r on

abbrev pub Joined : Graph → ℕ → ℕ → ℕ → Type 0
Joined g r u v = (q : ℕ) × (r ≤ q) × (q < length g.first_ends) × Joins g q u v

-- a word that has v exactly if a row joins it to u, with a row more
joined_more : {g : Graph} {r u v : ℕ} {A B : Type 0} → r < length g.first_ends → A ↔ Joined g (suc r) u v → B ↔ (A ⊎ Joins g r u v) → B ↔ Joined g r u v
joined_more {g} {r} {u} {v} h old new = (
  λ b. ⊎_elim (λ a. let (q, l, k, j) = old.0 a in (q, omega arith, k, j)) (λ j. (r, omega arith, h, j)) (new.0 b),
  λ (q, l, k, j). new.1 (elim (ℕ_discrete q r) [ yes e ↦ inr (subst (λ (x : ℕ). Joins g x u v) e j) | no d ↦ inl (old.1 (q, omega arith, k, j)) ]),
)

pub record Right (g h : Graph) (begun c : List ℕ) (r : ℕ) : Type 0 where
  pub long : length c ≡ 1416
  pub sizes : (i : ℕ) → i < 5 → get_or c i 0 ≡ get_or begun i 0
  pub near : (u v : ℕ) → Nodal u → Nodal v → T (has (get_or c (5 + u) 0) v) ↔ Joined g r u v
  pub must_near : (u v : ℕ) → Nodal u → Nodal v → T (has (get_or c (38 + u) 0) v) ↔ Joined h r u v
  pub must_ends : (u v q : ℕ) → Nodal v → r ≤ q → q < length h.first_ends → Joins h q u v → T (has (get_or c 38 0) v)
  pub heads : (u v : ℕ) → Nodal u → Nodal v → First g r (get_or c (pair_at u v) 0) u v
  pub words : (q : ℕ) → r ≤ q → q < length g.first_ends → Worded g h q (get_or c (1160 + q) 0)
  pub next : (q u v : ℕ) → r ≤ q → q < length g.first_ends → Nodal u → Nodal v → Joins g q u v → NextRow g q (next_part (get_or c (1160 + q) 0)) u v

module _ {g h : Graph} {begun : List ℕ} {c d : List ℕ} {r : ℕ} (few : length g.first_ends ≤ 256) (same : length h.first_ends ≡ length g.first_ends)
    (known : r < length g.first_ends) where
  pub right_more : Right g h begun c (suc r) → Entered g h c d r → Right g h begun d r
  right_more old new = record {
    long = new.linked.long;
    sizes = λ i l. new.linked.sizes i l ∙ old.sizes i l;
    near = λ u v m n. joined_more known (old.near u v m n) (new.linked.near u v m n);
    must_near = λ u v m n. joined_more (omega arith) (old.must_near u v m n) (new.claimed.near u v m n);
    must_ends = λ u v q n l k j. elim (ℕ_discrete q r) [
      | yes e ↦ new.claimed.ends u v n (rw e at j)
      | no d ↦ new.claimed.old v n (old.must_ends u v q n (omega arith) k j)
    ];
    heads = λ u v m n. ⊎_elim
        (λ t. let j = joins_out g r u v t in rw (new.linked.head u v m n j) (first_here known j))
        (λ t. let j : ¬ Joins g r u v = λ j. t (joins_in j) in rw (new.linked.heads u v m n j) (first_past (old.heads u v m n) j))
        (decide (joins g r u v));
    words = λ q l k. elim (ℕ_discrete q r) [ yes e ↦ rw e new.linked.word | no d ↦ rw (new.linked.words q d) (old.words q (omega arith) k) ];
    next = λ q u v l k m n j. elim (ℕ_discrete q r) [
      | yes e ↦ rw e (here u v m n (rw e at j))
      | no d ↦ rw (new.linked.words q d) (old.next q u v (omega arith) k m n j)
    ];
  }
    where
      -- what was the first row of the two
      x : ℕ
      x = get_or c (pair_at (first_end g r) (second_end g r)) 0

      was : (u v : ℕ) → Nodal u → Nodal v → Joins g r u v → First g (suc r) x u v
      was u v m n (forth p q) = rw (p, q) (old.heads u v m n)
      was u v m n (back p q) = rw (p, q) (first_sym (old.heads v u n m))

      here : (u v : ℕ) → Nodal u → Nodal v → Joins g r u v → NextRow g r (next_part (get_or d (1160 + r) 0)) u v
      here u v m n j =
          let f = was u v m n j in
          let small : x % 65536 ≡ x = elim (ℕ_discrete x 0) [ yes e ↦ rw e | no d ↦ omega (arith, f.known (omega arith)) ] in
          rw (new.linked.next u v n j, small) (first_next f known)
