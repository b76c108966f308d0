-- What is left of a graph at a state of a growing path (`rest`): the entered nodes are one node, the plant, and the rows that cannot be used any more
-- have no ends. Its spanning trees are the rows of the state's completions (`completion_rest`, `rest_completion`), and what rows join to its plant
-- is what they reach (`reaches_joined`, `joined_reaches`).
use mathlib.Core.Path.{◌∙◌, ◌≡◌, ap, refl, subst, sym}
use mathlib.Core.Logic.{◌⊎◌, inl, inr, ⊎_elim}
use mathlib.Core.Bool.{not}
use mathlib.Core.List.{List, ◌++◌, ◌∷◌, map}
use mathlib.Core.List.Memᴰ.{append_cases}
use mathlib.Core.List.Memᴰ.{append_left}
use mathlib.Core.List.Memᴰ.{append_right}
use mathlib.Core.List.Memᴰ.{cases_cons as mem_cases}
use mathlib.Core.List.Memᴰ.{cast as mem_cast}
use mathlib.Core.List.Memᴰ.{head as here}
use mathlib.Core.List.Memᴰ.{tail as there}
use Prim.Native.Nat.{◌+◌, ◌<◌, ℕ}
use native.Mathlib.Decide.{dec_lt, ℕ_discrete}
use native.Mathlib.Omega.{arith}
use lib.Dec.{T, T_not, not_T}
use lib.ListN.{length, length-append, length-map}
use Rattle.lists.specs.Lists.{filter_b, member}
use Rattle.lists.proofs.Distinct.{append_distinct, filled, filter_distinct, mem?, pigeonhole}
use Rattle.lists.proofs.Members.{◌∈◌, ◌⊆◌, filter_in, filter_out, member_in, member_out}
use Rattle.lists.proofs.Ranges.{get_or_map_past, get_or_map_range, range_length}
use Rattle.graph.specs.Graph.{Graph, first_end, is_tree, row_numbers, second_end}
use Rattle.graph.specs.Paths.{Key, place_of}
use Rattle.graph.proofs.Growth.{Completion, Joins, Legal, Live, Reaches, State, back, direct, forth, necessary, onward, rows_of, rows_of_length}
use Rattle.graph.proofs.Keys.{Lex, lex_asym, lex_compare, lex_irrefl}
use Rattle.graph.proofs.Least.{Sound, sufficient}
use Rattle.graph.proofs.Minimal.{WellFormed, known_from, row_known, row_numbers_in}
use Rattle.graph.proofs.Tree.{tree_out}
use Rattle.graph.proofs.Unique.{completion_length, completion_reuse, rows_distinct, rows_usable}
use Rattle.forests.proofs.Joined.{Joined, Lies, joined_right, lies_in_lem, stay, walk}
use Rattle.forests.proofs.Parts.{Spans}
use Rattle.forests.proofs.Spanning.{spans_tree, tree_spans}

-- A state of a path from the plant
pub record Begun (g : Graph) (s : State) : Type 0 where
  pub sound : Sound g s
  pub plant : g.plant ∈ s.entered

module _ (g : Graph) (s : State) where
  -- a node that is not entered
  pub record Fresh (v : ℕ) : Type 0 where
    pub node : v ∈ g.nodes
    pub new : ¬ (v ∈ s.entered)

  -- a step from u to v comes after the last step
  pub record Onto (u v : ℕ) : Type 0 where
    pub leaves : u ∈ s.entered
    pub enters : Fresh v
    pub above : Lex s.place s.node (place_of s.entered u) v

  -- a row between a and b can still be used
  pub data Usable (a b : ℕ) : Type 0 where
    inside : Fresh a → Fresh b → Usable a b
    outward : Onto a b → Usable a b
    inward : Onto b a → Usable a b

  fresh? : (v : ℕ) → Dec (Fresh v)
  fresh? v = elim (mem? ℕ_discrete v g.nodes) [
    | no n ↦ no (λ f. n f.node)
    | yes m ↦ elim (mem? ℕ_discrete v s.entered) [ yes i ↦ no (λ f. f.new i) | no n ↦ yes (record { node = m; new = n }) ]
  ]

  above? : (p v : ℕ) → Dec (Lex s.place s.node p v)
  above? p v = elim (lex_compare s.place s.node p v) [
    | inl h ↦ yes h
    | inr d ↦ no (λ h. ⊎_elim (λ e. lex_irrefl e.0 e.1 h) (λ b. lex_asym b h) d)
  ]

  onto? : (u v : ℕ) → Dec (Onto u v)
  onto? u v = elim (mem? ℕ_discrete u s.entered) [
    | no n ↦ no (λ h. n h.leaves)
    | yes i ↦ elim (fresh? v) [
      | no n ↦ no (λ h. n h.enters)
      | yes f ↦ elim (above? (place_of s.entered u) v) [ no n ↦ no (λ h. n h.above) | yes h ↦ yes (record { leaves = i; enters = f; above = h }) ]
    ]
  ]

  pub usable? : (a b : ℕ) → Dec (Usable a b)
  usable? a b = step (fresh? a) (fresh? b) (onto? a b) (onto? b a)
    where
      step : Dec (Fresh a) → Dec (Fresh b) → Dec (Onto a b) → Dec (Onto b a) → Dec (Usable a b)
      step fa fb (yes o) i = yes (outward o)
      step fa fb (no m) (yes i) = yes (inward i)
      step (yes fa) (yes fb) (no m) (no n) = yes (inside fa fb)
      step (no x) fb (no m) (no n) = no neither
        where
          neither : ¬ Usable a b
          neither (inside fa fb) = x fa
          neither (outward o) = m o
          neither (inward o) = n o
      step (yes fa) (no x) (no m) (no n) = no neither
        where
          neither : ¬ Usable a b
          neither (inside fa fb) = x fb
          neither (outward o) = m o
          neither (inward o) = n o

  usable_sym : {a b : ℕ} → Usable a b → Usable b a
  usable_sym (inside f h) = inside h f
  usable_sym (outward o) = inward o
  usable_sym (inward o) = outward o

-- The rest

unfoldable pub end_if : {P : Type 0} → Dec P → ℕ → ℕ
end_if (yes h) v = v
end_if (no n) v = 0

module _ (g : Graph) (s : State) where
  -- an entered node is the plant
  unfoldable pub into : (v : ℕ) → Dec (v ∈ s.entered) → ℕ
  into v (yes i) = g.plant
  into v (no n) = v

  abbrev pub left : ℕ → ℕ
  left v = into v (mem? ℕ_discrete v s.entered)

  abbrev pub usable_row? : (r : ℕ) → Dec (Usable g s (first_end g r) (second_end g r))
  usable_row? r = usable? g s (first_end g r) (second_end g r)

abbrev pub fresh_nodes : Graph → State → List ℕ
fresh_nodes g s = filter_b (λ v. not (member v s.entered)) g.nodes

abbrev pub rest : Graph → State → Graph
rest g s = record {
  plant = g.plant;
  nodes = g.plant ∷ fresh_nodes g s;
  first_ends = map (λ r. end_if (usable_row? g s r) (left g s (first_end g r))) (row_numbers g);
  second_ends = map (λ r. end_if (usable_row? g s r) (left g s (second_end g r))) (row_numbers g);
}

end_if_yes : {P : Type 0} (d : Dec P) (v : ℕ) → P → end_if d v ≡ v
unfolding end_if
end_if_yes (yes h) v p = refl
end_if_yes (no n) v p = absurd (n p)

end_if_used : {P : Type 0} (d : Dec P) (v : ℕ) → ¬ (end_if d v ≡ 0) → P
unfolding end_if
end_if_used (yes h) v n = h
end_if_used (no h) v n = absurd (n refl)

module _ (g : Graph) (wf : WellFormed g) (s : State) (b : Begun g s) where
  -- Nodes

  pub fresh_in : {v : ℕ} → Fresh g s v → v ∈ fresh_nodes g s
  fresh_in {v} f = filter_in (λ v. not (member v s.entered)) f.node (not_T (member v s.entered) (λ t. f.new (member_out v s.entered t)))

  pub fresh_out : {v : ℕ} → v ∈ fresh_nodes g s → Fresh g s v
  fresh_out {v} m = let (i, t) = filter_out (λ v. not (member v s.entered)) g.nodes m in record { node = i; new = λ e. T_not (member v s.entered) t (member_in e) }

  pub fresh_plant : {v : ℕ} → Fresh g s v → ¬ (v ≡ g.plant)
  fresh_plant f e = f.new (mem_cast e b.plant)

  pub rest_formed : WellFormed (rest g s)
  rest_formed = record {
    once = (λ m. fresh_plant (fresh_out m) refl, filter_distinct (λ v. not (member v s.entered)) g.nodes wf.once);
    plant = here refl;
    no_zero = λ m. ⊎_elim (λ e. wf.no_zero (mem_cast e wf.plant)) (λ i. wf.no_zero (fresh_out i).node) (mem_cases m);
  }

  -- as many as there are nodes not entered, and the plant
  pub rest_count : length s.entered + length (fresh_nodes g s) ≡ length g.nodes
  rest_count = omega (
    arith,
    length-append s.entered (fresh_nodes g s),
    pigeonhole (s.entered ++ fresh_nodes g s) {m = g.nodes}
        (append_distinct s.entered (fresh_nodes g s) b.sound.once (filter_distinct (λ v. not (member v s.entered)) g.nodes wf.once) (λ a i j. (fresh_out j).new i))
        (λ v i. ⊎_elim (λ e. b.sound.nodes v e) (λ f. (fresh_out f).node) (append_cases s.entered i)),
    pigeonhole g.nodes {m = s.entered ++ fresh_nodes g s} wf.once
        (λ v i. elim (mem? ℕ_discrete v s.entered) [ yes e ↦ append_left (fresh_nodes g s) e | no n ↦ append_right s.entered (fresh_in (record { node = i; new = n })) ]),
  )

  -- Ends

  left_entered : {v : ℕ} → v ∈ s.entered → left g s v ≡ g.plant
  unfolding into
  left_entered {v} i = step (mem? ℕ_discrete v s.entered)
    where
      step : (d : Dec (v ∈ s.entered)) → into g s v d ≡ g.plant
      step (yes j) = refl
      step (no n) = absurd (n i)

  left_fresh : {v : ℕ} → ¬ (v ∈ s.entered) → left g s v ≡ v
  unfolding into
  left_fresh {v} n = step (mem? ℕ_discrete v s.entered)
    where
      step : (d : Dec (v ∈ s.entered)) → into g s v d ≡ v
      step (yes j) = absurd (n j)
      step (no m) = refl

  module _ (r : ℕ) (known : r < length g.first_ends) (u : Usable g s (first_end g r) (second_end g r)) where
    rest_first : first_end (rest g s) r ≡ left g s (first_end g r)
    rest_first = get_or_map_range (λ r. end_if (usable_row? g s r) (left g s (first_end g r))) (length g.first_ends) r 0 known ∙ end_if_yes (usable_row? g s r) (left g s (first_end g r)) u

    rest_second : second_end (rest g s) r ≡ left g s (second_end g r)
    rest_second = get_or_map_range (λ r. end_if (usable_row? g s r) (left g s (second_end g r))) (length g.first_ends) r 0 known ∙ end_if_yes (usable_row? g s r) (left g s (second_end g r)) u

  -- the ends of a usable row, either way round
  rest_joins : {r u v : ℕ} → r < length g.first_ends → Joins g r u v → Usable g s u v → Joins (rest g s) r (left g s u) (left g s v)
  rest_joins {r} known (forth p q) h =
      let x : Usable g s (first_end g r) (second_end g r) = rw (p, q) h in
      forth (rest_first r known x ∙ ap (left g s) p) (rest_second r known x ∙ ap (left g s) q)
  rest_joins {r} known (back p q) h =
      let x : Usable g s (first_end g r) (second_end g r) = rw (p, q) (usable_sym g s h) in
      back (rest_first r known x ∙ ap (left g s) p) (rest_second r known x ∙ ap (left g s) q)

  -- a row between nodes not entered stays as it is
  pub rest_inside : {r u v : ℕ} → Joins g r u v → Fresh g s u → Fresh g s v → Joins (rest g s) r u v
  rest_inside {r} {u} {v} j f h =
      subst (λ (x : ℕ). Joins (rest g s) r x v) (left_fresh f.new)
      (subst (Joins (rest g s) r (left g s u)) (left_fresh h.new) (rest_joins (row_known g wf j f.node h.node) j (inside f h)))

  -- a row that makes a step goes from the plant
  pub rest_onto : {r u v : ℕ} → Joins g r u v → Onto g s u v → Joins (rest g s) r g.plant v
  rest_onto {r} {u} {v} j o =
      subst (λ (x : ℕ). Joins (rest g s) r x v) (left_entered o.leaves)
      (subst (Joins (rest g s) r (left g s u)) (left_fresh o.enters.new)
      (rest_joins (row_known g wf j (b.sound.nodes u o.leaves) o.enters.node) j (outward o)))

  pub onto_of : {qs : List ℕ} {k : Key} (h : Legal g qs s k) → Onto g s h.step.pivot k.node
  onto_of {qs} {k} h = record {
    leaves = h.step.leaves;
    enters = record { node = h.step.enters; new = h.step.fresh };
    above = subst (λ (p : ℕ). Lex s.place s.node p k.node) h.step.stands h.above;
  }

  pub onto_legal : {qs : List ℕ} {r u v : ℕ} → r ∈ qs → Joins g r u v → Onto g s u v
      → Legal g qs s (record { place = place_of s.entered u; node = v; row = r })
  onto_legal {qs} {r} {u} i j o = record {
    step = record { pivot = u; joined = j; leaves = o.leaves; enters = o.enters.node; fresh = o.enters.new; stands = refl };
    usable = i;
    above = o.above;
  }

  -- The rows of the rest: between nodes not entered, or a step
  pub data RestRow (r u v : ℕ) : Type 0 where
    within : Joins g r u v → Fresh g s u → Fresh g s v → RestRow r u v
    leaving : {w : ℕ} → u ≡ g.plant → Joins g r w v → Onto g s w v → RestRow r u v
    coming : {w : ℕ} → v ≡ g.plant → Joins g r w u → Onto g s w u → RestRow r u v

  -- a row with two ends in the rest can be used
  pub rest_usable : (r : ℕ) → Lies (rest g s) r → (r < length g.first_ends) × Usable g s (first_end g r) (second_end g r)
  rest_usable r l = elim (dec_lt r (length g.first_ends)) [
    | no n ↦ absurd (rest_formed.no_zero (mem_cast (sym (get_or_map_past (λ r. end_if (usable_row? g s r) (left g s (first_end g r))) (length g.first_ends) r 0 (omega arith))) l.first))
    | yes h ↦ (
      h,
      end_if_used (usable_row? g s r) (left g s (first_end g r)) (λ e.
          rest_formed.no_zero (mem_cast (sym (get_or_map_range (λ r. end_if (usable_row? g s r) (left g s (first_end g r))) (length g.first_ends) r 0 h ∙ e)) l.first)),
    )
  ]

  pub rest_row : {r u v : ℕ} → Joins (rest g s) r u v → u ∈ (rest g s).nodes → v ∈ (rest g s).nodes → RestRow r u v
  rest_row {r} {u} {v} j m n = let (h, x) = rest_usable r (lies_in_lem j m n) in step h x j
    where
      a : ℕ
      a = first_end g r

      c : ℕ
      c = second_end g r

      step : r < length g.first_ends → Usable g s (first_end g r) (second_end g r) → Joins (rest g s) r u v → RestRow r u v
      step h (inside f k) (forth p q) =
          let e : first_end g r ≡ u = sym (rest_first r h (inside f k) ∙ left_fresh f.new) ∙ p in
          let d : second_end g r ≡ v = sym (rest_second r h (inside f k) ∙ left_fresh k.new) ∙ q in
          within (forth e d) (subst (Fresh g s) e f) (subst (Fresh g s) d k)
      step h (inside f k) (back p q) =
          let e : first_end g r ≡ v = sym (rest_first r h (inside f k) ∙ left_fresh f.new) ∙ p in
          let d : second_end g r ≡ u = sym (rest_second r h (inside f k) ∙ left_fresh k.new) ∙ q in
          within (back e d) (subst (Fresh g s) d k) (subst (Fresh g s) e f)
      step h (outward o) (forth p q) =
          let e : g.plant ≡ u = sym (rest_first r h (outward o) ∙ left_entered o.leaves) ∙ p in
          let d : second_end g r ≡ v = sym (rest_second r h (outward o) ∙ left_fresh o.enters.new) ∙ q in
          leaving (sym e) (forth refl d) (subst (Onto g s (first_end g r)) d o)
      step h (outward o) (back p q) =
          let e : g.plant ≡ v = sym (rest_first r h (outward o) ∙ left_entered o.leaves) ∙ p in
          let d : second_end g r ≡ u = sym (rest_second r h (outward o) ∙ left_fresh o.enters.new) ∙ q in
          coming (sym e) (forth refl d) (subst (Onto g s (first_end g r)) d o)
      step h (inward o) (forth p q) =
          let e : first_end g r ≡ u = sym (rest_first r h (inward o) ∙ left_fresh o.enters.new) ∙ p in
          let d : g.plant ≡ v = sym (rest_second r h (inward o) ∙ left_entered o.leaves) ∙ q in
          coming (sym d) (back e refl) (subst (Onto g s (second_end g r)) e o)
      step h (inward o) (back p q) =
          let e : first_end g r ≡ v = sym (rest_first r h (inward o) ∙ left_fresh o.enters.new) ∙ p in
          let d : g.plant ≡ u = sym (rest_second r h (inward o) ∙ left_entered o.leaves) ∙ q in
          leaving (sym d) (back e refl) (subst (Onto g s (second_end g r)) e o)

  -- Reached is joined to the plant of the rest

  reached_fresh : {qs : List ℕ} {v : ℕ} → Reaches g qs s v → Fresh g s v
  reached_fresh (direct {k} h e) = subst (Fresh g s) e (record { node = h.step.enters; new = h.step.fresh })
  reached_fresh (onward x i j m f) = record { node = m; new = f }

  pub reaches_joined : {qs : List ℕ} {v : ℕ} → Reaches g qs s v → Joined (rest g s) qs g.plant v
  reaches_joined {qs} (direct {k} {v} h e) =
      subst (Joined (rest g s) qs g.plant) e
      (walk (stay (here refl) refl) h.usable (rest_onto h.step.joined (onto_of h)) (there (fresh_in (onto_of h).enters)))
  reaches_joined (onward x i j m f) =
      walk (reaches_joined x) i (rest_inside j (reached_fresh x) (record { node = m; new = f })) (there (fresh_in (record { node = m; new = f })))

  pub joined_reaches : {qs : List ℕ} {v : ℕ} → Joined (rest g s) qs g.plant v → Fresh g s v → Reaches g qs s v
  joined_reaches (stay m e) f = absurd (fresh_plant f (sym e))
  joined_reaches {qs} (walk {r} {w} {v} j i o m) f = step (rest_row o (joined_right j) m) (λ h. joined_reaches j h)
    where
      step : RestRow r w v → (Fresh g s w → Reaches g qs s w) → Reaches g qs s v
      step (within o h k) x = onward (x h) i o f.node f.new
      step (leaving e o k) x = direct (onto_legal i o k) refl
      step (coming e o k) x = absurd (fresh_plant f e)

  -- rows with which the state is live join all of the rest
  pub live_spans : {qs : List ℕ} → Live g qs s → Spans (rest g s) qs
  live_spans {qs} live v m = ⊎_elim (λ e. stay (here refl) (sym e)) (λ i. let f = fresh_out i in reaches_joined (live v f.node f.new)) (mem_cases m)

  pub spans_live : {qs : List ℕ} → Spans (rest g s) qs → Live g qs s
  spans_live span v m n = let f : Fresh g s v = record { node = m; new = n } in joined_reaches (span v (there (fresh_in f))) f

  -- COMPLETIONS ARE TREES of the rest

  pub completion_rest : (qs : List ℕ) (ks : List Key) → Completion g qs s ks → T (is_tree (rest g s) (rows_of ks))
  completion_rest qs ks c =
      spans_tree (rest g s) rest_formed (rows_of ks)
      (omega (arith, rest_count, rows_of_length ks, completion_length g qs s ks wf.once b.sound c))
      (λ r i. subst (λ (n : ℕ). r < n) (sym (length-map (row_numbers g) _ ∙ range_length 0 (length g.first_ends))) (known_from g wf qs s ks b.sound c r i))
      (rows_distinct g qs s ks c)
      (live_spans (necessary g (rows_of ks) s ks (completion_reuse g qs (rows_of ks) s ks c (λ r i. i))))

  pub rest_completion : (ts : List ℕ) → T (is_tree (rest g s) ts)
      → (ks : List Key) × Completion g (row_numbers g) s ks × (rows_of ks ⊆ ts) × (ts ⊆ rows_of ks)
  rest_completion ts t =
      let tree = tree_out (rest g s) ts t in
      let (ks, c) = sufficient g ts s b.sound (spans_live (tree_spans (rest g s) rest_formed ts t)) in
      let used = rows_usable g ts s ks c.completes in (
        ks,
        completion_reuse g ts (row_numbers g) s ks c.completes (λ r i. row_numbers_in g r (known_from g wf ts s ks b.sound c.completes r i)),
        used,
        filled ℕ_discrete (rows_of ks) ts (rows_distinct g ts s ks c.completes) used
            (omega (arith, tree.size, rest_count, rows_of_length ks, completion_length g ts s ks wf.once b.sound c.completes)),
      )
