-- What a search still answers at each turn of its loops: at a place, a node, a row. The whole answer equals what the rest of the search answers.
use mathlib.Core.Path.{◌∙◌, ◌≡◌, ap, refl, subst, sym}
use mathlib.Core.Bool.{false, true}
use mathlib.Core.Option.{Option, none, some}
use mathlib.Core.List.{List}
use Prim.Native.Nat.{◌+◌, ◌-◌, ◌<◌, ◌≤◌, suc, zero, ℕ}
use native.Mathlib.Decide.{dec_lt}
use native.Mathlib.Nat.{add-zero}
use native.Mathlib.Numerals.{add-one}
use native.Mathlib.Omega.{arith}
use borrow.Author.Tests.{le-ltb, lt-ltb}
use lib.ListN.{get_or, length}
use Rattle.graph.specs.Paths.{Key}
use Rattle.words.specs.Words.{above, has, lowest}
use Rattle.spread.specs.Spread.{open_at}
use Rattle.words.proofs.Words.{NextMember, next_member}
use Rattle.search.specs.Search.{first_from, first_step_of, joins_at, node_try, or_else, place_try, row_try}

-- A range: one more number, and its end

module _ {A : Type 0} (f : ℕ → Option A) where
  pub first_more : (m i : ℕ) → i < m → first_from f (m - i) i ≡ or_else (f i) (first_from f (m - suc i) (suc i))
  unfolding first_from
  first_more m i h =
      let e : m - i ≡ suc (m - suc i) = omega arith in
      rw e

  pub first_over : (m i : ℕ) → m ≤ i → first_from f (m - i) i ≡ none
  unfolding first_from
  first_over m i h =
      let e : m - i ≡ 0 = omega arith in
      rw e

pub or_else_assoc : {A : Type 0} (a b d : Option A) → or_else (or_else a b) d ≡ or_else a (or_else b d)
or_else_assoc (some x) b d = refl
or_else_assoc none b d = refl

-- The first step. `first_step_of` at a place and a node is itself what is left of the search from there; the two loops inside have what follows them besides.

module _ (nb : List ℕ) (heads : ℕ → ℕ → ℕ) (firsts seconds : List ℕ) (limit fresh : ℕ) (entered : List ℕ) where
  abbrev pub from_place : ℕ → ℕ → Option Key
  from_place = first_step_of nb heads firsts seconds limit fresh entered

  unfoldable pub from_node : ℕ → ℕ → ℕ → Option Key
  from_node i pivot j = or_else (first_from (node_try nb heads firsts seconds fresh i pivot) (limit - j) j) (from_place (i + 1) 0)

  unfoldable pub from_row : ℕ → ℕ → ℕ → ℕ → Option Key
  from_row i pivot node r = or_else (first_from (row_try firsts seconds i pivot node) (length firsts - r) r) (from_node i pivot node)

  pub leave_places : (i j : ℕ) → length entered ≤ i → from_place i j ≡ none
  unfolding first_step_of
  leave_places i j h = rw (le-ltb _ _ h)

  later : (i : ℕ) → first_from (λ (i : ℕ). place_try nb heads firsts seconds limit fresh entered i 0) (length entered - i) i ≡ from_place i 0
  unfolding first_step_of
  later i = elim (dec_lt i (length entered)) [
    | yes h ↦ first_more _ _ _ h ∙ (rw (lt-ltb _ _ h))
    | no n ↦ let h : length entered ≤ i = omega arith in first_over _ _ _ h ∙ sym (leave_places i 0 h)
  ]

  pub enter_nodes : (i j : ℕ) → i < length entered → from_place i j ≡ from_node i (get_or entered i 0) j
  unfolding first_step_of from_node place_try
  enter_nodes i j h = rw (lt-ltb _ _ h, later (suc i), add-one)

  pub leave_nodes : (i p j : ℕ) → limit ≤ j → from_node i p j ≡ from_place (i + 1) 0
  unfolding from_node
  leave_nodes i p j h = rw (first_over _ _ _ h)

  pub shut_node : (i p j : ℕ) → j < limit → has (open_at nb fresh p) (j + 1) ≡ false → from_node i p j ≡ from_node i p (j + 1)
  unfolding from_node node_try
  shut_node i p j h e = rw (first_more _ _ _ h, ← add-one j, e)

  pub enter_rows : (i p j : ℕ) → j < limit → has (open_at nb fresh p) (j + 1) ≡ true → from_node i p j ≡ from_row i p (j + 1) (heads p (j + 1))
  unfolding from_node from_row node_try
  enter_rows i p j h e = rw (first_more _ _ _ h, ← add-one j, e, or_else_assoc)

  pub leave_rows : (i p v r : ℕ) → length firsts ≤ r → from_row i p v r ≡ from_node i p v
  unfolding from_row
  leave_rows i p v r h = rw (first_over _ _ _ h)

  pub pass_row : (i p v r : ℕ) → r < length firsts → joins_at firsts seconds r p v ≡ false → from_row i p v r ≡ from_row i p v (r + 1)
  unfolding from_row row_try
  pass_row i p v r h e = rw (first_more _ _ _ h, e, add-one)

  pub at_row : (i p v r : ℕ) → r < length firsts → joins_at firsts seconds r p v ≡ true → from_row i p v r ≡ some (record { place = i; node = v; row = r })
  unfolding from_row row_try
  at_row i p v r h e = rw (first_more _ _ _ h, e)

  -- nodes that are not open, one after the other
  pass_node : (i p j : ℕ) → has (open_at nb fresh p) (j + 1) ≡ false → from_node i p j ≡ from_node i p (j + 1)
  pass_node i p j e = elim (dec_lt j limit) [
    | yes h ↦ shut_node i p j h e
    | no n ↦ leave_nodes i p j (omega arith) ∙ sym (leave_nodes i p (j + 1) (omega arith))
  ]

  pass_nodes : (i p d j : ℕ) → ((u : ℕ) → j < u → u ≤ j + d → has (open_at nb fresh p) u ≡ false) → from_node i p j ≡ from_node i p (j + d)
  pass_nodes i p zero j shut = ap (from_node i p) (sym (add-zero j))
  pass_nodes i p (suc d) j shut =
      let e : j + 1 + d ≡ j + suc d = omega arith in
      pass_node i p j (shut (j + 1) (omega arith) (omega arith)) ∙ pass_nodes i p d (j + 1) (λ u a b. shut u (omega arith) (omega arith)) ∙ ap (from_node i p) e

  -- to the node before the next open one
  before_next : (i p j v : ℕ) → NextMember (open_at nb fresh p) j v → from_node i p j ≡ from_node i p (v - 1)
  before_next i p j v n =
      let h = n.beyond in
      let e : j + (v - 1 - j) ≡ v - 1 = omega arith in
      pass_nodes i p (v - 1 - j) j (λ u a b. n.between u a (omega arith)) ∙ ap (from_node i p) e

  -- there is no next one
  pub over_limit : (i p j v : ℕ) → NextMember (open_at nb fresh p) j v → limit < v → from_node i p j ≡ from_node i p v
  over_limit i p j v n h = before_next i p j v n ∙ leave_nodes i p (v - 1) (omega arith) ∙ sym (leave_nodes i p v (omega arith))

  -- the next open node, and its rows
  pub next_rows : (i p j v r : ℕ) → limit < 64 → NextMember (open_at nb fresh p) j v → v ≤ limit → r ≡ heads p v → from_node i p j ≡ from_row i p v r
  next_rows i p j v r small n h d =
      let b = n.beyond in
      let e : v - 1 + 1 ≡ v = omega arith in
      let member : has (open_at nb fresh p) (v - 1 + 1) ≡ true = rw e (n.member (omega arith)) in
      before_next i p j v n ∙ enter_rows i p (v - 1) (omega arith) member ∙ ap (λ (x : ℕ). from_row i p x (heads p x)) e ∙ ap (from_row i p v) (sym d)

-- the next open node, as the code finds it
pub next_open : (nb : List ℕ) (fresh p o a j v : ℕ) → j < 64 → o ≡ open_at nb fresh p → a ≡ above o j → v ≡ lowest a → NextMember (open_at nb fresh p) j v
next_open nb fresh p o a j v h e d f =
    subst (NextMember (open_at nb fresh p) j) (sym (f ∙ ap lowest (d ∙ ap (λ (x : ℕ). above x j) e))) (next_member (open_at nb fresh p) j h)
