-- The search of the model in the theory of growing paths: what `first_step_of` finds is the least legal step (`first_least`, `first_none`).
use mathlib.Core.Path.{◌∙◌, ◌≡◌, ap, refl, subst, sym}
use mathlib.Core.Option.{Option, none-ne-some, some-injective, none, some}
use mathlib.Core.List.{List}
use Prim.Native.Nat.{◌+◌, ◌-◌, ◌<◌, ◌≤◌, suc, zero, ℕ}
use native.Mathlib.Omega.{arith}
use lib.Dec.{T, ltb, ltb→lt}
use lib.ListN.{get_or, length}
use Rattle.lists.proofs.Ascending.{get_or_mem}
use Rattle.lists.proofs.Members.{◌∈◌, range_out}
use Rattle.lists.proofs.Tests.{T-both, not_ltb→le, pick_elim}
use Rattle.graph.specs.Graph.{Graph, row_numbers}
use Rattle.graph.specs.Paths.{Key}
use Rattle.graph.proofs.Growth.{Joins, Legal, State}
use Rattle.graph.proofs.Keys.{Lex, further, level}
use Rattle.graph.proofs.Least.{AnyKey, Least}
use Rattle.graph.proofs.Minimal.{row_numbers_in}
use Rattle.graph.proofs.Places.{node_at, place_at}
use Rattle.graph.proofs.Runs.{joins_in, joins_out}
use Rattle.graph.proofs.Search.{NoneBefore, before_last, before_node, before_place, before_row, before_start, found_least}
use Rattle.words.specs.Words.{has}
use Rattle.words.proofs.Words.{has_and}
use Rattle.spread.specs.Spread.{open_at}
use Rattle.chart.proofs.Charts.{Charted, Ready}
use Rattle.search.specs.Search.{first_from, first_step_of, joins_at, node_try, or_else, place_try, row_try}

-- What a search tells: N where it finds nothing, Q of what it finds

module _ {A : Type 0} (Q : A → Type 0) where
  data Tells (o : Option A) (N : Type 0) : Type 0 where
    nothing : o ≡ none → N → Tells o N
    found : {a : A} → o ≡ some a → Q a → Tells o N

module _ {A : Type 0} {Q : A → Type 0} where
  tells_none : {o : Option A} {N : Type 0} → Tells Q o N → o ≡ none → N
  tells_none (nothing e n) d = n
  tells_none (found {a} e q) d = absurd (none-ne-some a (sym d ∙ e))

  tells_some : {o : Option A} {N : Type 0} {a : A} → Tells Q o N → o ≡ some a → Q a
  tells_some {a = a} (nothing e n) d = absurd (none-ne-some a (sym e ∙ d))
  tells_some {a = a} (found {a = b} e q) d = subst Q (some-injective b a (sym e ∙ d)) q

  tells_then : {o : Option A} {M N : Type 0} → Tells Q o M → (M → N) → Tells Q o N
  tells_then (nothing e m) f = nothing e (f m)
  tells_then (found e q) f = found e q

  tells_else : {a b : Option A} {M N : Type 0} → Tells Q a M → (M → Tells Q b N) → Tells Q (or_else a b) N
  tells_else (nothing e m) f = rw e (f m)
  tells_else (found {a} e q) f = found {a = a} (rw e) q

  -- over a range, P holds of each number that the search comes to
  tells_from : (f : ℕ → Option A) (P : ℕ → Type 0) (k i e : ℕ) → i + k ≡ e → ((m : ℕ) → i ≤ m → m < e → P m → Tells Q (f m) (P (suc m))) → P i
      → Tells Q (first_from f k i) (P e)
  unfolding first_from
  tells_from f P zero i e sum turn p = nothing refl (subst P (omega arith) p)
  tells_from f P (suc k) i e sum turn p =
      tells_else (turn i (omega arith) (omega arith) p) (tells_from f P k (suc i) e (omega arith) (λ m a. turn m (omega arith)))

-- row r joins u and v
module _ (g : Graph) (r u v : ℕ) where
  at_out : T (joins_at g.first_ends g.second_ends r u v) → Joins g r u v
  unfolding joins_at
  at_out t = joins_out g r u v t

  at_in : Joins g r u v → T (joins_at g.first_ends g.second_ends r u v)
  unfolding joins_at
  at_in j = joins_in j

rows_below : (g : Graph) (q : ℕ) → q ∈ row_numbers g → q < length g.first_ends
rows_below g q m = omega (arith, (range_out 0 (length g.first_ends) m).1)

-- The first step

-- no row below the first that is tried joins two nodes
abbrev pub Headed : Graph → (ℕ → ℕ → ℕ) → Type 0
Headed g heads = (u v r : ℕ) → u ∈ g.nodes → v ∈ g.nodes → r < heads u v → ¬ Joins g r u v

module _ {g : Graph} {nb : List ℕ} {heads : ℕ → ℕ → ℕ} {limit fresh : ℕ} {s : State} (charted : Charted g nb limit) (headed : Headed g heads) (ready : Ready g s fresh) where
  abbrev Allowed : Key → Type 0
  Allowed = Legal g (row_numbers g) s

  abbrev Before : ℕ → ℕ → ℕ → Type 0
  Before = NoneBefore g (row_numbers g) s

  abbrev Finds : Key → Type 0
  Finds = Least g (row_numbers g) s AnyKey

  abbrev pivot_at : ℕ → ℕ
  pivot_at i = get_or s.entered i 0

  -- a legal step's pivot stands at its place, and its node is open there
  pivot_of : (k : Key) (h : Allowed k) → h.step.pivot ≡ pivot_at k.place
  pivot_of k h = sym (ap pivot_at h.step.stands ∙ node_at s.entered h.step.leaves)

  joined_at : (k : Key) → Allowed k → Joins g k.row (pivot_at k.place) k.node
  joined_at k h = subst (λ (u : ℕ). Joins g k.row u k.node) (pivot_of k h) h.step.joined

  open_in_lem : (k : Key) → Allowed k → T (has (open_at nb fresh (pivot_at k.place)) k.node)
  unfolding open_at
  open_in_lem k h =
      let u = pivot_at k.place in
      let known : u ∈ g.nodes = ready.sound.nodes u (subst (λ (u : ℕ). u ∈ s.entered) (pivot_of k h) h.step.leaves) in
      rw has_and ((T-both (has (get_or nb u 0) k.node) (has fresh k.node)).1 (
        (charted.joined u k.node known h.step.enters).1 (k.row, rows_below g k.row h.usable, joined_at k h),
        (ready.unentered k.node).1 (h.step.enters, h.step.fresh),
      ))

  open_out : (u v : ℕ) → T (has (open_at nb fresh u) v) → (v ∈ g.nodes) × (¬ (v ∈ s.entered))
  unfolding open_at
  open_out u v t = (ready.unentered v).0 ((T-both (has (get_or nb u 0) v) (has fresh v)).0 (rw has_and at t)).1

  -- no row makes a legal step from place i to node v
  none_here : (i v : ℕ) → ((r : ℕ) → ¬ Allowed (record { place = i; node = v; row = r })) → Before i v 0 → Before i (suc v) 0
  none_here i v n b = before_node g (row_numbers g) s i v (length g.first_ends) (rows_below g) (rows (length g.first_ends))
    where
      rows : (r : ℕ) → Before i v r
      rows zero = b
      rows (suc r) = before_row g (row_numbers g) s i v r (rows r) (n r)

  module _ (i : ℕ) (stands : i < length s.entered) where
    row_tells : (v r : ℕ) → T (has (open_at nb fresh (pivot_at i)) v) → Lex s.place s.node i v → r < length g.first_ends
        → Before i v r → Tells Finds (row_try g.first_ends g.second_ends i (pivot_at i) v r) (Before i v (suc r))
    unfolding row_try
    row_tells v r o above low b =
        pick_elim (λ (o : Option Key). Tells Finds o (Before i v (suc r))) (joins_at g.first_ends g.second_ends r (pivot_at i) v)
        (λ t. found refl (found_least g (row_numbers g) s (record { place = i; node = v; row = r }) b (record {
          step = record {
            pivot = pivot_at i;
            joined = at_out g r (pivot_at i) v t;
            leaves = get_or_mem s.entered i 0 stands;
            enters = (open_out (pivot_at i) v o).0;
            fresh = (open_out (pivot_at i) v o).1;
            stands = sym (place_at s.entered i ready.sound.once stands);
          };
          usable = row_numbers_in g r low;
          above = above;
        })))
        (λ n. nothing refl (before_row g (row_numbers g) s i v r b (λ h. n (at_in g r (pivot_at i) v (joined_at (record { place = i; node = v; row = r }) h)))))

    -- the rows below the first that is tried make no legal step
    to_head : (v : ℕ) → T (has (open_at nb fresh (pivot_at i)) v) → (r : ℕ) → r ≤ heads (pivot_at i) v → Before i v 0 → Before i v r
    to_head v o zero h b = b
    to_head v o (suc r) h b = before_row g (row_numbers g) s i v r (to_head v o r (omega arith) b) (λ x.
        headed (pivot_at i) v r (ready.sound.nodes (pivot_at i) (get_or_mem s.entered i 0 stands)) (open_out (pivot_at i) v o).0 (omega arith)
        (joined_at (record { place = i; node = v; row = r }) x))

    node_tells : (j : ℕ) → Lex s.place s.node i (suc j) → Before i (suc j) 0
        → Tells Finds (node_try nb heads g.first_ends g.second_ends fresh i (pivot_at i) j) (Before i (suc (suc j)) 0)
    unfolding node_try
    node_tells j above b =
        let head = heads (pivot_at i) (suc j) in
        let end = head + (length g.first_ends - head) in
        pick_elim (λ (o : Option Key). Tells Finds o (Before i (suc (suc j)) 0)) (has (open_at nb fresh (pivot_at i)) (suc j))
        (λ t. tells_then
        (tells_from _ (Before i (suc j)) (length g.first_ends - head) head end refl (λ r a low. row_tells (suc j) r t above (omega arith)) (to_head (suc j) t head (omega arith) b))
        (before_node g (row_numbers g) s i (suc j) end (λ q m. omega (arith, rows_below g q m))))
        (λ n. nothing refl (none_here i (suc j) (λ r h. n (open_in_lem (record { place = i; node = suc j; row = r }) h)) b))

    place_tells : (j : ℕ) → ((v : ℕ) → j < v → Lex s.place s.node i v) → Before i (suc j) 0
        → Tells Finds (place_try nb heads g.first_ends g.second_ends limit fresh s.entered i j) (Before (suc i) 1 0)
    unfolding place_try
    place_tells j above b =
        tells_then
        (tells_from _ (λ (j : ℕ). Before i (suc j) 0) (limit - j) j (j + (limit - j)) refl (λ m a _. node_tells m (above (suc m) (omega arith))) b)
        (λ p. none_here (suc i) 0 (λ r h. charted.formed.no_zero h.step.enters)
        (before_place g (row_numbers g) s i (suc (j + (limit - j))) (λ v m. omega (arith, charted.low v m)) p))

  later_tells : s.place < length s.entered → Before (suc s.place) 1 0
      → Tells Finds (first_from (λ i. place_try nb heads g.first_ends g.second_ends limit fresh s.entered i 0) (length s.entered - suc s.place) (suc s.place))
      ((m : Key) → ¬ Allowed m)
  later_tells low b =
      tells_then
      (tells_from _ (λ (i : ℕ). Before i 1 0) (length s.entered - suc s.place) (suc s.place) (length s.entered) (omega arith)
      (λ i a low. place_tells i low 0 (λ v _. further a)) b)
      (before_last g (row_numbers g) s (length s.entered) 1 0 (omega arith))

  first_tells : Tells Finds (first_step_of nb heads g.first_ends g.second_ends limit fresh s.entered s.place s.node) ((m : Key) → ¬ Allowed m)
  unfolding first_step_of
  first_tells =
      let start = before_start g (row_numbers g) s in
      pick_elim (λ (o : Option Key). Tells Finds o ((m : Key) → ¬ Allowed m)) (ltb s.place (length s.entered))
      (λ t.
      let low = ltb→lt s.place (length s.entered) t in
      tells_else (place_tells s.place low s.node (λ v. level refl) start) (later_tells low))
      (λ n. nothing refl (before_last g (row_numbers g) s s.place (suc s.node) 0 (not_ltb→le s.place (length s.entered) n) start))

  pub first_least : (k : Key) → first_step_of nb heads g.first_ends g.second_ends limit fresh s.entered s.place s.node ≡ some k
      → Least g (row_numbers g) s AnyKey k
  first_least k e = tells_some first_tells e

  pub first_none : first_step_of nb heads g.first_ends g.second_ends limit fresh s.entered s.place s.node ≡ none
      → (m : Key) → ¬ Legal g (row_numbers g) s m
  first_none e = tells_none first_tells e
