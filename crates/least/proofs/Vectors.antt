-- The search for the least vector of a box, over arrays of four places of which the first k are read: what is asked for (`vector_asked`), lowered in one component
-- (`lower_end`, `lower_next`), settled in one component after the other (`settle_start`, `settle_next`, `settle_end`), and the lesser of it and the best so far
-- (`lesser_first`, `lesser_none`, `lesser_less`, `lesser_kept`).
use mathlib.Core.Path.{◌∙◌, ◌≡◌, ap, subst, sym}
use mathlib.Core.Bool.{Bool, false, true}
use mathlib.Core.Option.{Option, none, some}
use mathlib.Core.List.{List}
use Prim.Native.Nat.{◌+◌, ◌<◌, ◌≤◌, min, suc, ℕ}
use native.Mathlib.Numerals.{add-one}
use native.Mathlib.Omega.{arith}
use native.Mathlib.Decide.{dec_lt}
use lib.Dec.{T, ltb}
use borrow.Author.Tests.{le-ltb, lt-ltb}
use lib.ListN.{get_or, length, set, take}
use lib.Seq.{get_or-set_other, get_or-take, length-take-le, take-set-lt}
use Rattle.lists.specs.Lists.{pick}
use Rattle.lists.proofs.Members.{◌∈◌}
use Rattle.lists.proofs.Tests.{T_false, T_true}
use Rattle.graph.specs.Graph.{Graph}
use Rattle.graph.proofs.Tree.{tree_out}
use Rattle.costs.specs.Costs.{vector_less}
use Rattle.costs.specs.Network.{Network}
use Rattle.forests.proofs.Spanning.{tree_forest}
use Rattle.completions.specs.Boxes.{inside}
use Rattle.completions.specs.Rows.{head_of}
use Rattle.completions.proofs.Boxes.{inside_at_lem, inside_length}
use Rattle.completions.proofs.Find.{Answers}
use Rattle.completions.proofs.Least.{Asked, Box, LeastIn, Lowered, Lowest, Settled, cut, lowered_first, lowered_kept, lowered_less}
use Rattle.completions.proofs.Least.{lowered_none, lowest_none, lowest_some, settled_end, settled_next, settled_start}
use Rattle.completions.proofs.NextRow.{Good, Of}
use Rattle.completions.proofs.Search.{Within}
use Rattle.chosen.specs.Chosen.{rows_on}
use Rattle.tally.specs.Tally.{table_of, vector_in}
use Rattle.tally.proofs.Tables.{vector_table}
use Rattle.find.specs.Find.{Node, Tables, graph_in}
use Rattle.least.specs.Least.{Ground, OnGround, OpenPast}

-- ASKED: what is found is the vector of a tree with all must rows, and all of those are found
module _ (firsts seconds : List ℕ) (limit : ℕ) (kinds : List ℕ) (k : ℕ) (costs leads musts free limits : List ℕ) where
  abbrev g : Graph
  g = graph_in firsts seconds limit

  abbrev w : Network
  w = table_of kinds k costs leads

  abbrev Told : Option (List ℕ) → Type 0
  Told o = Tables firsts seconds limit k → Node g k limits musts free → Answers g w (take k limits) musts (rows_on free) o

  pub asked_none : Told none → OnGround firsts seconds limit kinds k costs leads musts free limits (λ Of. Asked Of (take k limits) none)
  asked_none answers ground past = λ u (p, good, d) i.
      answers ground.tables (record { forest = ground.forest; lies = ground.lies; open_past_lem = past }) p (within p good)
      (subst (λ (x : List ℕ). T (inside (take k limits) x)) (sym d) i)
    where
      within : (p : List ℕ) → Good g musts p → Within g musts (rows_on free) p
      within p good = record {
        tree = good.tree;
        has = good.has;
        once = ground.forest.once;
        rest = λ r m n. ground.all_free r ((tree_forest g ground.tables.formed p good.tree).lies r m) n;
      }

  pub asked_some : length kinds ≡ 4 → (rows v : List ℕ) → v ≡ vector_in kinds k costs leads rows → Told (some rows)
      → OnGround firsts seconds limit kinds k costs leads musts free limits (λ Of. Asked Of (take k limits) (some (take k v)))
  asked_some four rows v e answers ground past =
      let h = answers ground.tables (record { forest = ground.forest; lies = ground.lies; open_past_lem = past }) in
      let known : (r : ℕ) → r ∈ rows → r < 256 = λ r m. omega (arith, ground.tables.few_rows, (tree_out g rows h.tree).rows r m) in
      let so = ap (take k) e ∙ vector_table kinds k costs leads rows known ground.tables.few_criteria four in
      ((rows, record { tree = h.tree; has = h.has }, sym so), subst (λ (x : List ℕ). T (inside (take k limits) x)) (sym so) h.low)

-- as many components are compared as there are criteria, of four places
pub count_is : (k n : ℕ) → n ≡ pick (ltb k 4) k 4 → n ≡ min k 4
count_is k n e = elim (dec_lt k 4) [
  | yes h ↦ let so : n ≡ k = rw (lt-ltb k 4 h) at e in omega arith
  | no h ↦ let so : n ≡ 4 = rw (le-ltb k 4 (omega arith)) at e in omega arith
]

-- limits that were set within the criteria
pub past_set : (k : ℕ) (limits : List ℕ) (c x : ℕ) → c < k → OpenPast k limits → OpenPast k (set limits c x)
past_set k limits c x h past i a b = subst (λ (y : ℕ). 0 < y) (sym (get_or-set_other limits c i x 0 (λ e. omega (arith, e)))) (past i a b)

-- in the box, by the first k places
abbrev pub InBox : (List ℕ → Type 0) → ℕ → List ℕ → List ℕ → Type 0
InBox Of k limits v = Of (take k v) × T (inside (take k limits) (take k v))

module _ (Of : List ℕ → Type 0) (k : ℕ) (limits : List ℕ) (four : length limits ≡ 4) (few : k ≤ 4) where
  tops_long : length (take k limits) ≡ k
  tops_long = length-take-le k limits (omega arith)

  -- LOWERED in component c
  module _ (c : ℕ) (low : c < k) (v : List ℕ) (i : InBox Of k limits v) where
    asked_of : (o : Option (List ℕ)) → Asked Of (take k (set limits c (get_or v c 0))) o → Asked Of (set (take k limits) c (get_or (take k v) c 0)) o
    asked_of o asked =
        subst (λ (x : List ℕ). Asked Of x o) (take-set-lt k limits c (get_or v c 0) low ∙ ap (set (take k limits) c) (sym (get_or-take k v c 0 low))) asked

    pub lower_end : Asked Of (take k (set limits c (get_or v c 0))) none → Lowest Of (take k limits) c (take k v)
    lower_end asked = lowest_none Of (take k limits) (take k v) c i.0 i.1 (asked_of none asked)

    pub lower_next : (w : List ℕ) → Asked Of (take k (set limits c (get_or v c 0))) (some (take k w)) → InBox Of k limits w × (get_or w c 0 < get_or v c 0)
    lower_next w asked =
        let (a, b, z) = lowest_some Of (take k limits) (take k v) (take k w) c i.1 (omega (arith, tops_long)) (asked_of (some (take k w)) asked) in
        ((a, b), omega (arith, get_or-take k v c 0 low, get_or-take k w c 0 low))

  -- SETTLED in the components before c
  pub settle_start : (v : List ℕ) → Asked Of (take k limits) (some (take k v)) → Settled Of (take k limits) 0 (take k limits) (take k v)
  settle_start v (a, b) = settled_start Of (take k limits) (take k v) a b

  pub settle_next : (lower v u : List ℕ) (c : ℕ) → c < k → Settled Of (take k limits) c (take k lower) (take k v) → Lowest Of (take k lower) c (take k u)
      → Settled Of (take k limits) (c + 1) (take k (set lower c (min (get_or lower c 0) (suc (get_or u c 0))))) (take k u)
  settle_next lower v u c low s h =
      rw (add-one c) (subst (λ (x : List ℕ). Settled Of (take k limits) (suc c) x (take k u)) (sym same)
      (settled_next Of (take k limits) (take k lower) (take k v) (take k u) c s (omega (arith, tops_long)) h))
    where
      below : get_or (take k u) c 0 < get_or (take k lower) c 0
      below = inside_at_lem (take k lower) (take k u) c h.1 (omega (arith, inside_length (take k lower) (take k u) h.1, s.size, tops_long))

      least : min (get_or lower c 0) (suc (get_or u c 0)) ≡ suc (get_or (take k u) c 0)
      least = omega (arith, below, get_or-take k u c 0 low, get_or-take k lower c 0 low)

      same : take k (set lower c (min (get_or lower c 0) (suc (get_or u c 0)))) ≡ set (take k lower) c (suc (get_or (take k u) c 0))
      same = take-set-lt k lower c (min (get_or lower c 0) (suc (get_or u c 0))) low ∙ ap (set (take k lower) c) least

  pub settle_end : (lower v : List ℕ) (c : ℕ) → c ≡ k → Settled Of (take k limits) c (take k lower) (take k v) → LeastIn Of (take k limits) (some (take k v))
  settle_end lower v c e s = settled_end Of (take k limits) (take k lower) (take k v)
      (subst (λ (j : ℕ). Settled Of (take k limits) j (take k lower) (take k v)) (e ∙ sym tops_long) s)

  -- The LESSER of the least and the best so far
  abbrev pub Lesser : Option (List ℕ) → Option (List ℕ) → Type 0
  Lesser best r = Lowered Of (Box (take k limits)) (Box (take k limits)) best r

  module _ (many : 0 < k) (best : List ℕ) where
    abbrev pub v : List ℕ
    v = take k best

    some_tops : 0 < length (take k limits)
    some_tops = omega (arith, tops_long)

    abbrev pub Cut : Option (List ℕ) → Type 0
    Cut o = LeastIn Of (take k (set limits 0 (min (get_or limits 0 0) (suc (get_or best 0 0))))) o

    cut_is : (o : Option (List ℕ)) → Cut o → LeastIn Of (cut Of (take k limits) v some_tops) o
    cut_is o least = subst (λ (x : List ℕ). LeastIn Of x o) same least
      where
        heads : min (get_or limits 0 0) (suc (get_or best 0 0)) ≡ min (head_of (take k limits)) (suc (head_of v))
        heads = omega (arith, get_or-take k limits 0 0 many, get_or-take k best 0 0 many)

        same : take k (set limits 0 (min (get_or limits 0 0) (suc (get_or best 0 0)))) ≡ cut Of (take k limits) v some_tops
        same = take-set-lt k limits 0 (min (get_or limits 0 0) (suc (get_or best 0 0))) many ∙ ap (set (take k limits) 0) heads

    pub lesser_none : Cut none → Lesser (some v) (some v)
    lesser_none least = lowered_none Of (take k limits) v some_tops (cut_is none least)

    module _ (w : List ℕ) (least : Cut (some (take k w))) where
      pub lesser_less : vector_less (take k w) v ≡ true → Lesser (some v) (some (take k w))
      lesser_less l = lowered_less Of (take k limits) v some_tops (take k w) (cut_is (some (take k w)) least) ((T_true (vector_less (take k w) v)).1 l)

      pub lesser_kept : vector_less (take k w) v ≡ false → Lesser (some v) (some v)
      lesser_kept l = lowered_kept Of (take k limits) v some_tops (take k w) (cut_is (some (take k w)) least) ((T_false (vector_less (take k w) v)).1 l)

-- The same on a ground
module _ (firsts seconds : List ℕ) (limit : ℕ) (kinds : List ℕ) (k : ℕ) (costs leads musts free limits : List ℕ) (four : length limits ≡ 4) where
  abbrev On : List ℕ → ((List ℕ → Type 0) → Type 0) → Type 0
  On tops Holds = OnGround firsts seconds limit kinds k costs leads musts free tops Holds

  abbrev Vs : Ground firsts seconds limit k musts free → List ℕ → Type 0
  Vs ground = Of (graph_in firsts seconds limit) ground.tables.formed (table_of kinds k costs leads) musts

  module _ (c : ℕ) (v lower : List ℕ) (e : lower ≡ set limits c (get_or v c 0)) where
    asked_on : (o : Option (List ℕ)) → On lower (λ Of. Asked Of (take k lower) o) → On limits (λ Of. (c < k → Asked Of (take k (set limits c (get_or v c 0))) o))
    asked_on o asked ground past low =
        let low_past = subst (λ (x : List ℕ). OpenPast k x) (sym e) (past_set k limits c (get_or v c 0) low past) in
        subst (λ (x : List ℕ). Asked (Vs ground) (take k x) o) e (asked ground low_past)

    pub on_end : On lower (λ Of. Asked Of (take k lower) none) → On limits (λ Of. (c < k → InBox Of k limits v → Lowest Of (take k limits) c (take k v)))
    on_end asked ground past low i = lower_end (Vs ground) k limits four ground.tables.few_criteria c low v i (asked_on none asked ground past low)

    pub on_next : (w : List ℕ) → On lower (λ Of. Asked Of (take k lower) (some (take k w)))
        → On limits (λ Of. (c < k → InBox Of k limits v → InBox Of k limits w × (get_or w c 0 < get_or v c 0)))
    on_next w asked ground past low i = lower_next (Vs ground) k limits four ground.tables.few_criteria c low v i w (asked_on (some (take k w)) asked ground past low)

  pub on_start : (v : List ℕ) → On limits (λ Of. Asked Of (take k limits) (some (take k v)))
      → On limits (λ Of. OpenPast k limits × Settled Of (take k limits) 0 (take k limits) (take k v))
  on_start v asked ground past = (past, settle_start (Vs ground) k limits four ground.tables.few_criteria v (asked ground past))

  module _ (n : ℕ) (count : n ≡ min k 4) (lower v : List ℕ) (c : ℕ)
      (settled : On limits (λ Of. OpenPast k lower × Settled Of (take k limits) c (take k lower) (take k v))) where
    pub on_settled : (u : List ℕ) (x : ℕ) → c < n
        → On lower (λ Of. (c < k → Of (take k v) → T (inside (take k lower) (take k v)) → Lowest Of (take k lower) c (take k u)))
        → x ≡ min (get_or lower c 0) (suc (get_or u c 0))
        → On limits (λ Of. OpenPast k (set lower c x) × Settled Of (take k limits) (c + 1) (take k (set lower c x)) (take k u))
    on_settled u x h lowest e ground past =
        let (low_past, s) = settled ground past in
        let low : c < k = omega arith in (
          past_set k lower c x low low_past,
          subst (λ (y : ℕ). Settled (Vs ground) (take k limits) (c + 1) (take k (set lower c y)) (take k u)) (sym e)
              (settle_next (Vs ground) k limits four ground.tables.few_criteria lower v u c low s (lowest ground low_past low s.of s.low)),
        )

    pub on_least : c ≤ n → n ≤ c → On limits (λ Of. LeastIn Of (take k limits) (some (take k v)))
    on_least a b ground past =
        let few = ground.tables.few_criteria in
        settle_end (Vs ground) k limits four few lower v c (omega arith) (settled ground past).1

  pub on_first : (r : Option (List ℕ)) → On limits (λ Of. LeastIn Of (take k limits) r) → On limits (λ Of. Lowered Of (Box (take k limits)) (Box (take k limits)) none r)
  on_first r least ground past = lowered_first (Vs ground) (take k limits) r (least ground past)

  module _ (v : List ℕ) (top : ℕ) (high : top ≡ min (get_or limits 0 0) (suc (get_or v 0 0))) (lower : List ℕ) (low : lower ≡ set limits 0 top) where
    cut_least : (o : Option (List ℕ)) → On lower (λ Of. LeastIn Of (take k lower) o)
        → On limits (λ Of. LeastIn Of (take k (set limits 0 (min (get_or limits 0 0) (suc (get_or v 0 0))))) o)
    cut_least o least ground past =
        let so = low ∙ ap (set limits 0) high in
        let low_past = subst (λ (x : List ℕ). OpenPast k x) (sym low) (past_set k limits 0 top ground.tables.some_criteria past) in
        subst (λ (x : List ℕ). LeastIn (Vs ground) (take k x) o) so (least ground low_past)

    abbrev pub Lessens : Option (List ℕ) → Type 0
    Lessens r = On limits (λ Of. Lowered Of (Box (take k limits)) (Box (take k limits)) (some (take k v)) r)

    pub on_stays : On lower (λ Of. LeastIn Of (take k lower) none) → Lessens (some (take k v))
    on_stays least ground past = lesser_none (Vs ground) k limits four ground.tables.few_criteria ground.tables.some_criteria v (cut_least none least ground past)

    module _ (w : List ℕ) (least : On lower (λ Of. LeastIn Of (take k lower) (some (take k w)))) (b : Bool) (less : b ≡ vector_less (take k w) (take k v)) where
      pub on_less : b ≡ true → Lessens (some (take k w))
      on_less t ground past =
          lesser_less (Vs ground) k limits four ground.tables.few_criteria ground.tables.some_criteria v w (cut_least (some (take k w)) least ground past) (sym less ∙ t)

      pub on_kept : b ≡ false → Lessens (some (take k v))
      on_kept t ground past =
          lesser_kept (Vs ground) k limits four ground.tables.few_criteria ground.tables.some_criteria v w (cut_least (some (take k w)) least ground past) (sym less ∙ t)
