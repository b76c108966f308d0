-- Rows numbered anew, there and back, each with all it has (`Renaming`). A path renamed row by row makes the same steps, but for their rows (`steps_renamed`): so
-- the trees of one network, renamed, are those of the other (`layout_renamed`, `layout_from`), and there are as many (`layouts_as_many`). Two of them stand in the
-- same order unless they part first at parallel rows (`order_renamed`), so the first of some trees is the same in both, or parts from the other's there (`first_renamed`).
use mathlib.Core.Path.{◌∙◌, ◌≡◌, ap, ap₂, refl, subst, sym}
use mathlib.Core.Logic.{◌⊎◌, inl, inr}
use mathlib.Core.Bool.{Bool, ◌&&◌, ◌||◌, cond, false, not, true}
use mathlib.Core.Option.{Option, some-injective, none, some}
use mathlib.Core.List.Memᴰ.{cast as mem_cast}
use mathlib.Core.List.Memᴰ.{head as here}
use mathlib.Core.List.Memᴰ.{map as map_in}
use mathlib.Core.List.Memᴰ.{of_map as map_out}
use mathlib.Core.List.Memᴰ.{tail as there}
use mathlib.Core.List.{List, [], ◌++◌, ◌∷◌, map}
use Prim.Native.Nat.{◌<◌, suc, ℕ}
use native.Mathlib.Omega.{arith}
use lib.Dec.{T, eqb, eqb→eq, ltb}
use lib.ListN.{get_or, length, length-map}
use Rattle.lists.specs.Lists.{both, member, range}
use Rattle.lists.proofs.Maps.{map_back}
use Rattle.lists.proofs.Members.{◌∈◌, filter_in, filter_out, range_out}
use Rattle.lists.proofs.Orders.{less_asym}
use Rattle.lists.proofs.Tests.{T-both, T_false, T-same, T_true, decide, eq→eqb}
use Rattle.graph.specs.Graph.{Graph, first_end, joins, second_end}
use Rattle.graph.specs.Paths.{Key, and_then, ascending, ascends, cons_key, follows, is_minimal, key_less, keys_less, path_less, place_of, same_key, step_of, steps, steps_from, trees}
use Rattle.graph.proofs.Growth.{Joins, back, forth}
use Rattle.graph.proofs.Keys.{key_irrefl, key_less_out, same_key_in}
use Rattle.graph.proofs.Listing.{AtMost}
use Rattle.graph.proofs.Parts.{part_distinct}
use Rattle.graph.proofs.Places.{place_injective}
use Rattle.graph.proofs.Runs.{joins_in}
use Rattle.graph.proofs.Steps.{step_of_out, steps_from_cons, steps_from_nil}
use Rattle.graph.proofs.Trees.{Stepping, minimal_stepping, path_order, trees_mem}
use Rattle.forests.proofs.Matching.{matched}
use Rattle.costs.specs.Layouts.{is_barred, is_must, keeps_states, layouts}
use Rattle.costs.specs.Network.{Network, Row, graph_of, no_row, row_at}
use Rattle.costs.proofs.Layouts.{end_at, keeps_in, keeps_out, layouts_part, must_in, must_out, row_count}
use Rattle.shuffles.specs.Shuffles.{part_parallel}

-- row r of v is row ρ r of w, and τ leads back
pub record Renaming (w v : Network) (ρ τ : ℕ → ℕ) : Type 0 where
  pub node_count : v.node_count ≡ w.node_count
  pub kinds : v.kinds ≡ w.kinds
  pub to : (r : ℕ) → r < length v.rows → ρ r < length w.rows
  pub from : (r : ℕ) → r < length w.rows → τ r < length v.rows
  pub back : (r : ℕ) → r < length v.rows → τ (ρ r) ≡ r
  pub forth : (r : ℕ) → r < length w.rows → ρ (τ r) ≡ r
  pub row : (r : ℕ) → r < length v.rows → row_at w (ρ r) ≡ row_at v r

-- the same the other way round
pub turned : {w v : Network} {ρ τ : ℕ → ℕ} → Renaming w v ρ τ → Renaming v w τ ρ
turned {w} {v} {ρ} {τ} n = record {
  node_count = sym n.node_count;
  kinds = sym n.kinds;
  to = n.from;
  from = n.to;
  back = n.forth;
  forth = n.back;
  row = λ r l. sym (n.row (τ r) (n.from r l)) ∙ ap (row_at w) (n.forth r l);
}

-- rows that the network has
abbrev pub Known : Network → List ℕ → Type 0
Known v p = (r : ℕ) → r ∈ p → r < length v.rows

pub layout_known : (v : Network) (p : List ℕ) → p ∈ layouts v → Known v p
layout_known v p i r j = omega (arith, row_count v, ((trees_mem (graph_of v) p).0 ((layouts_part v).listed p i)).1 r j)

-- Keys

-- one key before both: the rest decides
head_same : (k l : Key) → k ≡ l → (ks ls : List Key) → keys_less (k ∷ ks) (l ∷ ls) ≡ keys_less ks ls
unfolding keys_less
head_same k l e ks ls =
    rw ((T_false (key_less k l)).0 (λ t. key_irrefl (key_less_out k k (subst (λ (x : Key). T (key_less k x)) (sym e) t))), (T_true (same_key k l)).0 (same_key_in e)) refl

-- rows that make steps of one place and one node are parallel
parallel : (h : Graph) (entered : List ℕ) (r s : ℕ) (k l : Key) → step_of h entered r ≡ some k → step_of h entered s ≡ some l
    → T (both (eqb k.place l.place) (eqb k.node l.node)) → T (joins h r (first_end h s) (second_end h s))
parallel h entered r s k l e f t =
    let (a, i) = step_of_out h entered r k e in
    let (b, j) = step_of_out h entered s l f in
    let (same_place, same_node) = (T-both (eqb k.place l.place) (eqb k.node l.node)).0 t in
    let pivot : a.pivot ≡ b.pivot = place_injective entered a.leaves b.leaves (sym a.stands ∙ eqb→eq _ _ same_place ∙ b.stands) in
    joins_in (ends r s (subst (λ (x : ℕ). Joins h x a.pivot k.node) i a.joined)
    (subst (λ (x : ℕ). Joins h x a.pivot k.node) j (rw (pivot, eqb→eq k.node l.node same_node) b.joined)))
  where
    ends : (r s : ℕ) {u v : ℕ} → Joins h r u v → Joins h s u v → Joins h r (first_end h s) (second_end h s)
    ends r s (forth a b) (forth c d) = forth (a ∙ sym c) (b ∙ sym d)
    ends r s (forth a b) (back c d) = back (a ∙ sym d) (b ∙ sym c)
    ends r s (back a b) (forth c d) = back (a ∙ sym d) (b ∙ sym c)
    ends r s (back a b) (back c d) = forth (a ∙ sym c) (b ∙ sym d)

-- Keys with their rows renamed

module _ (ρ : ℕ → ℕ) where
  abbrev rename_key : Key → Key
  rename_key k = record { place = k.place; node = k.node; row = ρ k.row }

  abbrev rename_step : Option Key → Option Key
  rename_step none = none
  rename_step (some k) = some (rename_key k)

  abbrev rename_steps : Option (List Key) → Option (List Key)
  rename_steps none = none
  rename_steps (some ks) = some (map rename_key ks)

  ascends_renamed : (o : Option (List Key)) → ascends (rename_steps o) ≡ ascends o
  unfolding ascending
  ascends_renamed none = refl
  ascends_renamed (some ks) = up ks
    where
      up : (ks : List Key) → ascending (map rename_key ks) ≡ ascending ks
      up [] = refl
      up (k ∷ []) = refl
      up (k ∷ l ∷ ks) = ap (both (follows k l)) (up (l ∷ ks))

  -- keys that differ in place or node decide, whatever their rows are
  head_apart : (k l : Key) → ¬ T (both (eqb k.place l.place) (eqb k.node l.node))
      → (ks ls : List Key) → keys_less (rename_key k ∷ map rename_key ks) (rename_key l ∷ map rename_key ls) ≡ keys_less (k ∷ ks) (l ∷ ls)
  unfolding keys_less
  head_apart k l n ks ls = by (eqb k.place l.place) (eqb k.node l.node) (follows k l) (ltb (ρ k.row) (ρ l.row)) (ltb k.row l.row)
      (eqb (ρ k.row) (ρ l.row)) (eqb k.row l.row) (keys_less (map rename_key ks) (map rename_key ls)) (keys_less ks ls) n
    where
      by : (p v f x y s t a b : Bool) → ¬ T (both p v) → ((f || (p && v && x)) || ((p && (v && s)) && a)) ≡ ((f || (p && v && y)) || ((p && (v && t)) && b))
      by true true f x y s t a b n = absurd (n tt)
      by true false f x y s t a b n = refl
      by false v f x y s t a b n = refl

  -- two paths that do not part first at parallel rows are compared alike with their rows renamed
  keys_same : (h : Graph) (p q entered : List ℕ) (ks ls : List Key) → steps_from h entered p ≡ some ks → steps_from h entered q ≡ some ls → ¬ T (part_parallel h p q)
      → keys_less (map rename_key ks) (map rename_key ls) ≡ keys_less ks ls
  unfolding part_parallel keys_less
  keys_same h [] q entered ks [] e f n = rw (steps_from_nil h entered ks e) refl
  keys_same h [] q entered ks (l ∷ ls) e f n = rw (steps_from_nil h entered ks e) refl
  keys_same h (r ∷ p) [] entered [] ls e f n = rw (steps_from_nil h entered ls f) refl
  keys_same h (r ∷ p) [] entered (k ∷ ks) ls e f n = rw (steps_from_nil h entered ls f) refl
  keys_same h (r ∷ p) (s ∷ q) entered ks ls e f n =
      let x = steps_from_cons h entered r p ks e in
      let y = steps_from_cons h entered s q ls f in
      rw (x.keys, y.keys) (elim (decide (eqb r s)) [
        | inl t ↦
            let one : x.key ≡ y.key = some-injective x.key y.key (sym x.made ∙ ap (step_of h entered) (eqb→eq r s t) ∙ y.made) in
            head_same (rename_key x.key) (rename_key y.key) (ap rename_key one) (map rename_key x.later) (map rename_key y.later)
            ∙ keys_same h p q (entered ++ (x.key.node ∷ [])) x.later y.later x.rest
            (subst (λ (v : ℕ). steps_from h (entered ++ (v ∷ [])) q ≡ some y.later) (ap (λ (k : Key). k.node) (sym one)) y.rest)
            (λ u. n (rw ((T_true (eqb r s)).0 t) u))
            ∙ sym (head_same x.key y.key one x.later y.later)
        | inr d ↦ head_apart x.key y.key (λ t. n (rw ((T_false (eqb r s)).0 d) (parallel h entered r s x.key y.key x.made y.made t))) x.later y.later
      ])

-- Paths

module _ {w v : Network} {ρ τ : ℕ → ℕ} (n : Renaming w v ρ τ) where
  abbrev g : Graph
  g = graph_of w

  abbrev h : Graph
  h = graph_of v

  nodes : g.nodes ≡ h.nodes
  nodes = ap (range 1) (sym n.node_count)

  end_renamed : (end : Row → ℕ) → end no_row ≡ 0 → (r : ℕ) → r < length v.rows → get_or (map end w.rows) (ρ r) 0 ≡ get_or (map end v.rows) r 0
  end_renamed end e r l = end_at w end e (ρ r) ∙ ap end (n.row r l) ∙ sym (end_at v end e r)

  first_end_lem : (r : ℕ) → r < length v.rows → first_end g (ρ r) ≡ first_end h r
  first_end_lem = end_renamed (λ row. row.first_end) refl

  second_end_lem : (r : ℕ) → r < length v.rows → second_end g (ρ r) ≡ second_end h r
  second_end_lem = end_renamed (λ row. row.second_end) refl

  step_renamed : (entered : List ℕ) (r : ℕ) → r < length v.rows → step_of g entered (ρ r) ≡ rename_step ρ (step_of h entered r)
  unfolding step_of
  step_renamed entered r l = rw (first_end_lem r l, second_end_lem r l, nodes) (by
      (member (first_end h r) entered && (member (second_end h r) h.nodes && not (member (second_end h r) entered)))
      (member (second_end h r) entered && (member (first_end h r) h.nodes && not (member (first_end h r) entered)))
      (record { place = place_of entered (first_end h r); node = second_end h r; row = r })
      (record { place = place_of entered (second_end h r); node = first_end h r; row = r }))
    where
      by : (a b : Bool) (k l : Key) → cond a (some (rename_key ρ k)) (cond b (some (rename_key ρ l)) none) ≡ rename_step ρ (cond a (some k) (cond b (some l) none))
      by true b k l = refl
      by false true k l = refl
      by false false k l = refl

  from_renamed : (p entered : List ℕ) → Known v p → steps_from g entered (map ρ p) ≡ rename_steps ρ (steps_from h entered p)
  unfolding steps_from
  from_renamed [] entered l = refl
  from_renamed (r ∷ p) entered l = rw (step_renamed entered r (l r (here refl))) (by (step_of h entered r) (λ e. from_renamed p e (λ q i. l q (there i))))
    where
      cons : (k : Key) (o : Option (List Key)) → cons_key (rename_key ρ k) (rename_steps ρ o) ≡ rename_steps ρ (cons_key k o)
      cons k none = refl
      cons k (some ks) = refl

      by : (o : Option Key) → ((e : List ℕ) → steps_from g e (map ρ p) ≡ rename_steps ρ (steps_from h e p)) → and_then (rename_step ρ o) (λ k. cons_key k (steps_from g (entered ++ (k.node ∷ [])) (map ρ p)))
          ≡ rename_steps ρ (and_then o (λ k. cons_key k (steps_from h (entered ++ (k.node ∷ [])) p)))
      by none rest = refl
      by (some k) rest = ap (cons_key (rename_key ρ k)) (rest (entered ++ (k.node ∷ []))) ∙ cons k (steps_from h (entered ++ (k.node ∷ [])) p)

  -- THE STEPS: node 1 is the plant of both
  steps_renamed : (p : List ℕ) → Known v p → steps g (map ρ p) ≡ rename_steps ρ (steps h p)
  steps_renamed p l = from_renamed p (1 ∷ []) l

  minimal_renamed : (p : List ℕ) → Known v p → is_minimal g (map ρ p) ≡ is_minimal h p
  unfolding is_minimal
  minimal_renamed p l = ap₂ both (ap₂ (λ (x : ℕ) (ns : List ℕ). eqb (suc x) (length ns)) (length-map p ρ) nodes) (ap ascends (steps_renamed p l) ∙ ascends_renamed ρ (steps h p))

  -- Trees that keep the states of their rows

  -- a path renamed and renamed back
  path_back : (p : List ℕ) → Known v p → map τ (map ρ p) ≡ p
  path_back p l = map_back τ ρ p (λ r i. n.back r (l r i))

  keeps_renamed : (p : List ℕ) → Known v p → T (keeps_states v p) → T (keeps_states w (map ρ p))
  keeps_renamed p l t =
      let (musts, free) = keeps_out v p t in
      keeps_in w (map ρ p)
      (λ q i.
      let (j, m) = must_out w q i in
      let known : q < length w.rows = omega (arith, row_count w, (range_out 0 (length g.first_ends) j).1) in
      mem_cast (sym (n.forth q known)) (map_in ρ (musts (τ q) (must_in v (τ q) (subst (λ (row : Row). T (is_must row.state)) (sym ((turned n).row q known)) m)))))
      (λ q i b. let (r, j, e) = map_out ρ p i in free r j (subst (λ (row : Row). T (is_barred row.state)) (ap (row_at w) (sym e) ∙ n.row r (l r j)) b))

  -- THE LAYOUTS: a tree of v renamed is one of w
  pub layout_renamed : (p : List ℕ) → p ∈ layouts v → map ρ p ∈ layouts w
  layout_renamed p i =
      let l = layout_known v p i in
      let (j, keeps) = filter_out (keeps_states v) (trees h) i in
      filter_in (keeps_states w) ((trees_mem g (map ρ p)).1 (
        rw (minimal_renamed p l) ((trees_mem h p).0 j).0,
        λ q k. let (r, m, e) = map_out ρ p k in omega (arith, row_count w, e, n.to r (l r m)),
      )) (keeps_renamed p l keeps)

  -- The order

  part_renamed : (p q : List ℕ) → Known v p → Known v q → part_parallel g (map ρ p) (map ρ q) ≡ part_parallel h p q
  unfolding part_parallel
  part_renamed [] q l m = refl
  part_renamed (r ∷ p) [] l m = refl
  part_renamed (r ∷ p) (s ∷ q) l m =
      let lr = l r (here refl) in
      let ls = m s (here refl) in
      let same : eqb (ρ r) (ρ s) ≡ eqb r s =
      T-same (eqb (ρ r) (ρ s)) (eqb r s) (λ t. eq→eqb r s (sym (n.back r lr) ∙ ap τ (eqb→eq (ρ r) (ρ s) t) ∙ n.back s ls)) (λ t. eq→eqb (ρ r) (ρ s) (ap ρ (eqb→eq r s t))) in
      rw (same, first_end_lem r lr, second_end_lem r lr, first_end_lem s ls, second_end_lem s ls, part_renamed p q (λ x i. l x (there i)) (λ x i. m x (there i))) refl

  layout_steps : (p : List ℕ) → p ∈ layouts v → Stepping h p
  layout_steps p i = minimal_stepping h p ((trees_mem h p).0 ((layouts_part v).listed p i)).0

  -- THE ORDER
  pub order_renamed : (p q : List ℕ) → p ∈ layouts v → q ∈ layouts v → ¬ T (part_parallel h p q) → path_less g (map ρ p) (map ρ q) ≡ path_less h p q
  order_renamed p q i j d =
      let (ks, e) = layout_steps p i in
      let (ls, f) = layout_steps q j in
      rw (steps_renamed p (layout_known v p i), steps_renamed q (layout_known v q j), e, f) (keys_same ρ h p q (1 ∷ []) ks ls e f d)

module _ {w v : Network} {ρ τ : ℕ → ℕ} (n : Renaming w v ρ τ) where
  -- each tree of w is a tree of v renamed
  pub layout_from : (q : List ℕ) → q ∈ layouts w → (p : List ℕ) × (p ∈ layouts v) × (map ρ p ≡ q)
  layout_from q i = (map τ q, layout_renamed (turned n) q i, path_back (turned n) q (layout_known w q i))

  -- different trees stay different
  layout_only : (p q : List ℕ) → p ∈ layouts v → q ∈ layouts v → map ρ p ≡ map ρ q → p ≡ q
  layout_only p q i j e = sym (path_back n p (layout_known v p i)) ∙ ap (map τ) e ∙ path_back n q (layout_known v q j)

  pub layouts_as_many : length (layouts v) ≡ length (layouts w)
  layouts_as_many = matched (λ p q. map ρ p ≡ q) (layouts v) (layouts w) (part_distinct (layouts_part v)) (part_distinct (layouts_part w))
      (λ p i. (map ρ p, layout_renamed n p i, refl)) layout_from (λ p c q i j k a b. layout_only p c i j (a ∙ sym b)) (λ p q d i j k a b. sym a ∙ b)

  -- THE FIRST: p comes no later than the tree that q is in v, and q no later than the tree that p is in w: they are one tree, or part first at parallel rows
  pub first_renamed : (p q : List ℕ) → p ∈ layouts v → q ∈ layouts w → AtMost (graph_of v) p (map τ q) → AtMost (graph_of w) q (map ρ p)
      → (map ρ p ≡ q) ⊎ T (part_parallel (graph_of w) (map ρ p) q)
  first_renamed p q i j (inl e) b = inl (ap (map ρ) e ∙ path_back (turned n) q (layout_known w q j))
  first_renamed p q i j (inr a) (inl e) = inl (sym e)
  first_renamed p q i j (inr a) (inr b) = elim (decide (part_parallel (graph_of w) (map ρ p) q)) [
    | inl t ↦ inr t
    | inr d ↦
        let k = layout_renamed (turned n) q j in
        let e = path_back (turned n) q (layout_known w q j) in
        let same : part_parallel (graph_of w) (map ρ p) q ≡ part_parallel (graph_of v) p (map τ q) =
        ap (part_parallel (graph_of w) (map ρ p)) (sym e) ∙ part_renamed n p (map τ q) (layout_known v p i) (layout_known v (map τ q) k) in
        let less : path_less (graph_of w) (map ρ p) q ≡ path_less (graph_of v) p (map τ q) =
        ap (path_less (graph_of w) (map ρ p)) (sym e) ∙ order_renamed n p (map τ q) i k (λ t. d (rw same t)) in
        absurd (less_asym (path_order (graph_of w)) q (map ρ p) b (rw less a))
  ]
