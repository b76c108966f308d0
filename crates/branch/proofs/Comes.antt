-- The rows that may come, by the table of entries, are those of completions' `may_come` (`comes_is`), and so the flags are those of the usable rows (`flags_usable`).
use mathlib.Core.Path.{◌≡◌, refl, subst, sym}
use mathlib.Core.Logic.{◌↔◌, ◌⊎◌, inl, inr, ⊎_elim}
use mathlib.Core.Bool.{Bool, false, not, true}
use mathlib.Core.Option.{some}
use mathlib.Core.List.Memᴰ.{cast as mem_cast}
use mathlib.Core.List.{List}
use Prim.Native.Nat.{◌-◌, ◌<◌, ◌≤◌, ℕ}
use native.Mathlib.Decide.{dec_lt, ℕ_discrete}
use native.Mathlib.Omega.{arith}
use lib.Dec.{T, T_not, eqb, eqb→eq, not_T}
use lib.ListN.{get_or-eq_default, get_or, length}
use borrow.Author.Tests.{eq-eqb, ne_eqb}
use Rattle.lists.specs.Lists.{any, both, either, filter_b, member, pick, range}
use Rattle.lists.proofs.Distinct.{mem?}
use Rattle.lists.proofs.Members.{◌∈◌, any_in, any_out, filter_in, filter_out, member_in, member_out, range_out}
use Rattle.lists.proofs.Ranges.{get_or_map_range}
use Rattle.lists.proofs.Tests.{T-both, T-either, T_false, T-same, T_true, eq→eqb}
use Rattle.graph.specs.Graph.{Graph, row_numbers}
use Rattle.graph.specs.Paths.{Key, follows, place_of, steps}
use Rattle.graph.proofs.Minimal.{row_numbers_in}
use Rattle.bounds.specs.Bounds.{last_key, opens}
use Rattle.chosen.specs.Chosen.{rows_on}
use Rattle.chosen.proofs.Flags.{on_mem}
use Rattle.completions.specs.Coming.{lies, may_come}
use Rattle.completions.proofs.Coming.{lies_out}
use Rattle.paths.specs.Path.{entered_by, no_key}
use Rattle.find.specs.Find.{graph_in}
use Rattle.branch.specs.Branch.{comes_at, comes_by, entry_of, flag_by, flags_of}
use Rattle.branch.proofs.Laws.{entry_in, entry_out}

-- A row with ends a and b that are nodes; the nodes l are entered, and k is the last step

module _ (nodes l : List ℕ) (k : Key) (a b : ℕ) (first : a ∈ nodes) (second : b ∈ nodes) where
  -- it may enter v
  abbrev enters : ℕ → Bool
  enters v = either (both (eqb b v) (opens l k a v)) (both (eqb a v) (opens l k b v))

  abbrev left : List ℕ
  left = filter_b (λ v. not (member v l)) nodes

  -- a step from u to v comes behind the last one
  abbrev behind : ℕ → ℕ → Bool
  behind u v = follows k (record { place = place_of l u; node = v; row = 0 })

  opens_old : (u v : ℕ) → u ∈ l → T (opens l k u v) → T (behind u v)
  opens_old u v m t = ⊎_elim (λ n. absurd (T_not (member u l) n (member_in m))) (λ h. h) ((T-either (not (member u l)) (behind u v)).0 t)

  enters_out : (v : ℕ) → T (enters v) → ((b ≡ v) × T (opens l k a v)) ⊎ ((a ≡ v) × T (opens l k b v))
  enters_out v t = ⊎_elim
      (λ h. let (e, o) = (T-both (eqb b v) (opens l k a v)).0 h in inl (eqb→eq b v e, o))
      (λ h. let (e, o) = (T-both (eqb a v) (opens l k b v)).0 h in inr (eqb→eq a v e, o))
      ((T-either (both (eqb b v) (opens l k a v)) (both (eqb a v) (opens l k b v))).0 t)

  -- where it may enter a node that is left
  some_out : T (any enters left) → ((¬ (b ∈ l)) × T (opens l k a b)) ⊎ ((¬ (a ∈ l)) × T (opens l k b a))
  some_out t =
      let (v, m, h) = any_out enters left t in
      let (i, n) = filter_out (λ v. not (member v l)) nodes m in
      let new : ¬ (v ∈ l) = λ j. T_not (member v l) n (member_in j) in
      ⊎_elim
      (λ (e, o). inl (λ j. new (mem_cast (sym e) j), subst (λ (x : ℕ). T (opens l k a x)) (sym e) o))
      (λ (e, o). inr (λ j. new (mem_cast (sym e) j), subst (λ (x : ℕ). T (opens l k b x)) (sym e) o))
      (enters_out v h)

  is_left : (v : ℕ) → v ∈ nodes → ¬ (v ∈ l) → v ∈ left
  is_left v m n = filter_in (λ v. not (member v l)) m (not_T (member v l) (λ t. n (member_out v l t)))

  enters_second : ¬ (b ∈ l) → T (opens l k a b) → T (any enters left)
  enters_second n o = any_in enters (is_left b second n)
      ((T-either (both (eqb b b) (opens l k a b)) (both (eqb a b) (opens l k b b))).1 (inl ((T-both (eqb b b) (opens l k a b)).1 (eq→eqb b b refl, o))))

  enters_first : ¬ (a ∈ l) → T (opens l k b a) → T (any enters left)
  enters_first n o = any_in enters (is_left a first n)
      ((T-either (both (eqb b a) (opens l k a a)) (both (eqb a a) (opens l k b a))).1 (inr ((T-both (eqb a a) (opens l k b a)).1 (eq→eqb a a refl, o))))

  opens_new : (u v : ℕ) → ¬ (u ∈ l) → T (opens l k u v)
  opens_new u v n = (T-either (not (member u l)) (behind u v)).1 (inl (not_T (member u l) (λ t. n (member_out u l t))))

  opens_behind : (u v : ℕ) → T (behind u v) → T (opens l k u v)
  opens_behind u v t = (T-either (not (member u l)) (behind u v)).1 (inr t)

  -- what the table says of a node
  entry_old : (v : ℕ) → v ∈ l → (eqb (entry_of l v) 0 ≡ false) × (entry_of l v - 1 ≡ place_of l v)
  entry_old v m = let e = entry_in 0 l v m in (ne_eqb (entry_of l v) 0 (λ d. omega arith), omega arith)

  entry_new : (v : ℕ) → ¬ (v ∈ l) → eqb (entry_of l v) 0 ≡ true
  entry_new v n = eq-eqb (entry_of l v) 0 (entry_out 0 l v n)

  -- so by the entries of its ends
  pub by_entries : any enters left
      ≡ pick (eqb (entry_of l a) 0)
      (pick (eqb (entry_of l b) 0) true (follows k (record { place = entry_of l b - 1; node = a; row = 0 })))
      (pick (eqb (entry_of l b) 0) (follows k (record { place = entry_of l a - 1; node = b; row = 0 })) false)
  by_entries = elim (mem? ℕ_discrete a l) [
    | yes i ↦ elim (mem? ℕ_discrete b l) [
      | yes j ↦ rw ((entry_old a i).0, (entry_old b j).0) ((T_false (any enters left)).0 (λ t. ⊎_elim (λ h. h.0 j) (λ h. h.0 i) (some_out t)))
      | no n ↦ rw ((entry_old a i).0, (entry_old a i).1, entry_new b n) (T-same (any enters left) (behind a b)
          (λ t. ⊎_elim (λ h. opens_old a b i h.1) (λ h. absurd (h.0 i)) (some_out t))
          (λ t. enters_second n (opens_behind a b t)))
    ]
    | no m ↦ elim (mem? ℕ_discrete b l) [
      | yes j ↦ rw (entry_new a m, (entry_old b j).0, (entry_old b j).1) (T-same (any enters left) (behind b a)
          (λ t. ⊎_elim (λ h. absurd (h.0 j)) (λ h. opens_old b a j h.1) (some_out t))
          (λ t. enters_first m (opens_behind b a t)))
      | no n ↦ rw (entry_new a m, entry_new b n) ((T_true (any enters left)).0 (enters_second n (opens_new a b m)))
    ]
  ]

-- The flags that the table gives

-- the flag of row r
abbrev pub flag_at : List ℕ → List ℕ → List ℕ → ℕ → List ℕ → ℕ → ℕ → ℕ → ℕ
flag_at firsts seconds heads limit entries place last r =
    let a = get_or firsts r 0 in
    let b = get_or seconds r 0 in
    flag_by (get_or heads r 0) (comes_by limit a b (get_or entries a 0) (get_or entries b 0) place last)

module _ (firsts seconds heads : List ℕ) (limit plant : ℕ) (keys : List Key) (entries : List ℕ)
    (table : (v : ℕ) → v < 256 → get_or entries v 0 ≡ entry_of (entered_by plant keys) v) where
  pub flag_is : (place last : ℕ) → place ≡ (last_key no_key keys).place → last ≡ (last_key no_key keys).node → (r : ℕ) → get_or firsts r 0 < 256 → get_or seconds r 0 < 256
      → flag_at firsts seconds heads limit entries place last r ≡ flag_by (get_or heads r 0) (comes_at firsts seconds limit plant keys r)
  flag_is place last e d r first second = rw (e, d, table (get_or firsts r 0) first, table (get_or seconds r 0) second) refl

-- both of two tests, the second of which counts only where the first passes
both_same : (a b c : Bool) → (T a → b ≡ c) → both a b ≡ both a c
both_same true b c h = h tt
both_same false b c h = refl

-- a flag is set
flag_on : (head : ℕ) (comes : Bool) → (0 < flag_by head comes) ↔ ((head ≡ 0) × T comes)
flag_on head comes = elim (ℕ_discrete head 0) [
  | yes e ↦ rw (eq-eqb head 0 e) (on comes e)
  | no d ↦ rw (ne_eqb head 0 d) (λ h. absurd (omega arith), λ h. absurd (d h.0))
]
  where
    on : (comes : Bool) → head ≡ 0 → (0 < pick comes 1 0) ↔ ((head ≡ 0) × T comes)
    on true e = (λ h. (e, tt), λ h. omega arith)
    on false e = (λ h. absurd (omega arith), λ h. absurd h.1)

module _ (firsts seconds : List ℕ) (limit : ℕ) (prefix : List ℕ) (keys : List Key) (made : steps (graph_in firsts seconds limit) prefix ≡ some keys) where
  abbrev g : Graph
  g = graph_in firsts seconds limit

  -- SAME: row r may come
  pub comes_is : (r : ℕ) → comes_at firsts seconds limit 1 keys r ≡ may_come g prefix r
  unfolding comes_by may_come
  comes_is r = rw made (both_same (lies g r) _ _ (λ t.
      let h = lies_out g r t in
      sym (by_entries (range 1 limit) (entered_by 1 keys) (last_key no_key keys) (get_or firsts r 0) (get_or seconds r 0) h.first h.second)))

  -- a row that may come is a row
  comes_known : (r : ℕ) → T (may_come g prefix r) → r < length firsts
  unfolding may_come
  comes_known r t = elim (dec_lt r (length firsts)) [
    | yes h ↦ h
    | no n ↦
        let (low, high) = range_out 1 limit (lies_out g r ((T-both (lies g r) _).0 t).0).first in
        absurd (omega (arith, low, get_or-eq_default firsts 0 {n = r} (omega arith)))
  ]

  -- USABLE: of rows of a graph with at most 256 rows, and must rows by their heads
  pub flags_usable : (heads musts : List ℕ) → length firsts ≤ 256 → ((r : ℕ) → r < length firsts → ((r ∈ musts) ↔ (0 < get_or heads r 0)))
      → (r : ℕ) → (r ∈ rows_on (flags_of firsts seconds heads limit 1 keys)) ↔ ((r ∈ row_numbers g) × T (may_come g prefix r) × (¬ (r ∈ musts)))
  unfolding flags_of
  flags_usable heads musts few are r = (
    λ m.
        let (h, t) = (on_mem (flags_of firsts seconds heads limit 1 keys) r).0 m in
        let (e, s) = (flag_on (get_or heads r 0) (comes_at firsts seconds limit 1 keys r)).0 (rw (get_or_map_range flag 256 r 0 h) at t) in
        let comes = rw (comes_is r) at s in
        let known = comes_known r comes in
        (row_numbers_in g r known, comes, λ i. omega (arith, (are r known).0 i)),
    λ (i, comes, n).
        let known : r < length firsts = omega (arith, (range_out 0 (length firsts) i).1) in
        let none : get_or heads r 0 ≡ 0 = elim (dec_lt 0 (get_or heads r 0)) [ yes h ↦ absurd (n ((are r known).1 h)) | no h ↦ omega arith ] in
        (on_mem (flags_of firsts seconds heads limit 1 keys) r).1 (
          omega arith,
          rw (get_or_map_range flag 256 r 0 (omega arith)) ((flag_on (get_or heads r 0) (comes_at firsts seconds limit 1 keys r)).1 (none, rw (comes_is r) comes)),
        ),
  )
    where
      flag : ℕ → ℕ
      flag r = flag_by (get_or heads r 0) (comes_at firsts seconds limit 1 keys r)
