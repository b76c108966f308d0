-- The turns of the search at one node (`Turn`): what is found among the usable rows that are left tells of all (`carries`). It begins with all rows that fit (`turn_start`,
-- `fitted`), and goes on without a row that was tried in (`turn_next`).
use mathlib.Core.Path.{◌∙◌, ◌≡◌, ap, refl, subst, sym}
use mathlib.Core.Logic.{◌↔◌, ⊎_elim}
use mathlib.Core.Option.{Option, none, some}
use mathlib.Core.List.{List, [], ◌++◌, ◌∷◌, append-nil}
use mathlib.Core.List.Memᴰ.{append_cases}
use mathlib.Core.List.Memᴰ.{append_left}
use mathlib.Core.List.Memᴰ.{append_right}
use mathlib.Core.List.Memᴰ.{cases_cons as mem_cases}
use mathlib.Core.List.Memᴰ.{head as here}
use mathlib.Core.List.Memᴰ.{not-nil as mem_nil}
use mathlib.Core.List.Memᴰ.{tail as there}
use Prim.Native.Nat.{◌-◌, ◌<◌, suc, ℕ}
use native.Mathlib.Omega.{arith}
use lib.Dec.{T}
use Rattle.std.specs.Prelude.{Option as Maybe, None, Some, false, true}
use Rattle.std.specs.Option.{is_some}
use lib.ListN.{get_or, length, length-append, length-map, length-set, set, take}
use lib.Seq.{get_or-take, length-take-le, take_all}
use Rattle.lists.specs.Lists.{range}
use Rattle.lists.proofs.Distinct.{Distinct, append_distinct, pigeonhole}
use Rattle.lists.proofs.Members.{◌∈◌, ◌⊆◌}
use Rattle.lists.proofs.Ranges.{range_length}
use Rattle.graph.specs.Graph.{Graph}
use Rattle.costs.specs.Costs.{cost_of}
use Rattle.costs.specs.Network.{Network}
use Rattle.costs.proofs.Networks.{cost_length}
use Rattle.forests.proofs.Forest.{Forest, forest_part}
use Rattle.forests.proofs.Joined.{lies_known}
use Rattle.forests.proofs.Parts.{forest_size}
use Rattle.completions.specs.Boxes.{inside}
use Rattle.completions.specs.Greedy.{greedy}
use Rattle.completions.specs.Labels.{labels_of}
use Rattle.completions.proofs.Boxes.{inside_at_lem}
use Rattle.completions.proofs.Find.{Answers, branch_in, branch_none, branch_out, choice_pivot, cost_at_lem, only_none, same_rows_lem, wider}
use Rattle.chosen.specs.Chosen.{rows_of, rows_on}
use Rattle.chosen.specs.declared.Chosen.{Chosen}
use Rattle.chosen.proofs.Flags.{on_clear, on_distinct, on_fewer, on_mem}
use Rattle.tally.specs.Tally.{kind_of, table_of}
use Rattle.tally.proofs.Tables.{kind_at_lem, kind_table}
use Rattle.find.specs.declared.Judged.TheVariants.{Open}
use Rattle.find.specs.Find.{Node, Tables, found_of, graph_in}
use Rattle.find.specs.Nodes.{Given, Judges, Reached, Sifted}
use Rattle.find.proofs.Sifting.{sifted_keeps, sifted_part}

-- fewer usable rows
pub node_part : {g : Graph} {k : ℕ} {limits inc usable us : List ℕ} → rows_on us ⊆ rows_on usable → Node g k limits inc usable → Node g k limits inc us
node_part within n = record { forest = n.forest; lies = λ r m. n.lies r (within r m); open_past_lem = n.open_past_lem }

module _ (firsts seconds : List ℕ) (limit k : ℕ) (kinds costs leads limits inc : List ℕ) where
  abbrev g : Graph
  g = graph_in firsts seconds limit

  abbrev w : Network
  w = table_of kinds k costs leads

  abbrev lim : List ℕ
  lim = take k limits

  module _ (tables : Tables firsts seconds limit k) where
    pub given_of : (us labels : List ℕ) (need : ℕ) → Node g k limits inc us → labels ≡ labels_of firsts seconds (range 0 33) inc → need ≡ limit - suc (length inc)
        → Given firsts seconds limit k limits inc us need labels
    given_of us labels need node is_labels is_need = record {
      tables = tables;
      node = node;
      labelled = is_labels;
      lacks = omega (arith, forest_size g tables.formed inc node.forest, range_length 1 limit, is_need);
    }

    inc_low : Forest g inc → (r : ℕ) → r ∈ inc → r < 256
    inc_low f r m = omega (arith, lies_known g tables.formed r (f.lies r m), tables.few_rows)

    -- the rows that do not fit are in no tree inside the limits
    module _ (four : length kinds ≡ 4) (usable us : List ℕ) (node : Node g k limits inc usable)
        (s : Sifted (λ r. Reached kinds k costs leads limits (r ∷ inc)) usable us) where
      reached_out : (r : ℕ) → r ∈ rows_on usable → T (inside lim (cost_of w (r ∷ inc))) → ¬ Reached kinds k costs leads limits (r ∷ inc)
      unfolding table_of
      reached_out r m t (c, low, _, h) = omega (
        arith,
        h,
        get_or-take k limits c 0 low,
        inside_at_lem lim (cost_of w (r ∷ inc)) c t (omega (arith, low, cost_length w (r ∷ inc), length-map (take k kinds) kind_of, length-take-le k kinds (omega (arith, four, tables.few_criteria)))),
        cost_at_lem w c (kind_of (get_or kinds c 0)) (r ∷ inc) (kind_at_lem kinds k costs leads (r ∷ inc) rows_low tables.few_criteria four c low),
        kind_table kinds k costs leads c (omega (arith, tables.few_criteria)) (r ∷ inc) rows_low (get_or kinds c 0),
      )
        where
          rows_low : (q : ℕ) → q ∈ r ∷ inc → q < 256
          rows_low q i = ⊎_elim (λ (e : q ≡ r). subst (λ (x : ℕ). x < 256) (sym e) ((on_mem usable r).0 m).0) (inc_low node.forest q) (mem_cases i)

      pub fitted : (o : Option (List ℕ)) → Answers g w lim inc (rows_on us) o → Answers g w lim inc (rows_on usable) o
      fitted o h = wider g w lim inc (rows_on usable) (rows_on us) (sifted_part _ usable us s) (λ r m t. sifted_keeps _ usable us s r m (reached_out r m t)) o h

  -- THE LOOP
  pub record Turn (us₀ us : List ℕ) : Type 0 where
    pub size : length us ≡ 256
    pub part : rows_on us ⊆ rows_on us₀
    pub carries : Tables firsts seconds limit k → Node g k limits inc us₀ → (o : Option (List ℕ)) → Answers g w lim inc (rows_on us) o → Answers g w lim inc (rows_on us₀) o

  pub turn_start : (us : List ℕ) → length us ≡ 256 → Turn us us
  turn_start us size = record { size = size; part = λ r m. m; carries = λ t n o h. h }

  module _ (us₀ us : List ℕ) (turn : Turn us₀ us) (at : ℕ) (low : at < 256) where
    left : (r : ℕ) → (r ∈ rows_on (set us at 0)) ↔ ((r ∈ rows_on us) × (¬ (r ≡ at)))
    left r = on_clear us at turn.size low r

    pub clear_part : rows_on (set us at 0) ⊆ rows_on us
    clear_part r m = ((left r).0 m).0

    -- the row is tried in
    module _ (tables : Tables firsts seconds limit k) (node : Node g k limits inc us₀) (seq : List ℕ) (within : seq ⊆ rows_on us) (m : at ∈ greedy g inc seq)
        (inc' : List ℕ) (is_longer : inc' ≡ take 31 (inc ++ (at ∷ []))) where
      here_node : Node g k limits inc us
      here_node = node_part turn.part node

      pivot : (at ∈ rows_on us) × (¬ (at ∈ inc)) × Forest g (at ∷ inc)
      pivot = choice_pivot g inc (rows_on us) here_node.lies seq within node.forest at m

      longer : inc' ≡ inc ++ (at ∷ [])
      longer = is_longer ∙ take_all 31 (inc ++ (at ∷ [])) (omega (arith, length-append inc (at ∷ []), forest_size g tables.formed (at ∷ inc) pivot.2, range_length 1 limit, tables.small))

      swapped : (r : ℕ) → r ∈ inc' → r ∈ at ∷ inc
      swapped r i = ⊎_elim (λ j. there j) (λ j. ⊎_elim (λ e. here e) (λ k. absurd (mem_nil k)) (mem_cases j)) (append_cases inc (subst (λ (x : List ℕ). r ∈ x) longer i))

      back : (r : ℕ) → r ∈ at ∷ inc → r ∈ inc'
      back r i = subst (λ (x : List ℕ). r ∈ x) (sym longer) (⊎_elim (λ e. append_right inc (here e)) (λ j. append_left (at ∷ []) j) (mem_cases i))

      once : Distinct inc'
      once = subst Distinct (sym longer) (append_distinct inc (at ∷ []) node.forest.once ((λ i. mem_nil i), tt)
          (λ r i j. ⊎_elim (λ (e : r ≡ at). pivot.1 (subst (λ (x : ℕ). x ∈ inc) e i)) (λ k. mem_nil k) (mem_cases j)))

      pub in_node : Node g k limits inc' (set us at 0)
      in_node = record { forest = forest_part once swapped pivot.2; lies = λ r i. here_node.lies r (clear_part r i); open_past_lem = node.open_past_lem }

      -- a tree with the row in
      pub found_in : (p : List ℕ) → Answers g w lim inc' (rows_on (set us at 0)) (some p) → Answers g w lim inc (rows_on us₀) (some p)
      found_in p h = turn.carries tables node (some p) (branch_in g w lim inc (rows_on us) (rows_on (set us at 0)) at left p pivot.0
          (same_rows_lem g w lim (at ∷ inc) inc' (rows_on (set us at 0)) back swapped once (some p) h))

      -- none with the row in: it goes on without it
      pub carries_on : Answers g w lim inc' (rows_on (set us at 0)) none → (o : Option (List ℕ)) → Answers g w lim inc (rows_on (set us at 0)) o → Answers g w lim inc (rows_on us₀) o
      carries_on h none a = turn.carries tables node none (branch_none g w lim inc (rows_on us) (rows_on (set us at 0)) at left pivot.1 a
          (same_rows_lem g w lim (at ∷ inc) inc' (rows_on (set us at 0)) back swapped once none h))
      carries_on h (some p) a = turn.carries tables node (some p) (branch_out g w lim inc (rows_on us) (rows_on (set us at 0)) at left p a)

    pub turn_next : (Tables firsts seconds limit k → Node g k limits inc us₀ → (o : Option (List ℕ)) → Answers g w lim inc (rows_on (set us at 0)) o → Answers g w lim inc (rows_on us₀) o)
        → Turn us₀ (set us at 0)
    turn_next h = record { size = length-set us at 0 ∙ turn.size; part = λ r m. turn.part r (clear_part r m); carries = h }

  -- the row of an unsettled choice is tried in
  module _ (us₀ us : List ℕ) (turn : Turn us₀ us) (tables : Tables firsts seconds limit k) (node : Node g k limits inc us₀) (choice : Chosen) (factors : List ℕ)
      (judges : Judges g w lim inc (rows_on us) (Open choice factors)) (at : ℕ) (m : at ∈ rows_of choice) (low : at < 256)
      (inc' : List ℕ) (is_longer : inc' ≡ take 31 (inc ++ (at ∷ []))) where
    pub step_node : Node g k limits inc' (set us at 0)
    step_node =
        let (seq, within, is, n) = judges in
        in_node us₀ us turn at low tables node seq within (subst (λ (x : List ℕ). at ∈ x) is m) inc' is_longer

    pub step_found : (tree : Maybe Chosen) → is_some tree ≡ true → Answers g w lim inc' (rows_on (set us at 0)) (found_of tree) → Answers g w lim inc (rows_on us₀) (found_of tree)
    step_found None e h = cc
    step_found (Some rows) e h =
        let (seq, within, is, n) = judges in
        found_in us₀ us turn at low tables node seq within (subst (λ (x : List ℕ). at ∈ x) is m) inc' is_longer (rows_of rows) h

    pub step_none : (tree : Maybe Chosen) → is_some tree ≡ false → Answers g w lim inc' (rows_on (set us at 0)) (found_of tree)
        → (o : Option (List ℕ)) → Answers g w lim inc (rows_on (set us at 0)) o → Answers g w lim inc (rows_on us₀) o
    step_none (Some rows) e h = cc
    step_none None e h =
        let (seq, within, is, n) = judges in
        carries_on us₀ us turn at low tables node seq within (subst (λ (x : List ℕ). at ∈ x) is m) inc' is_longer h

  -- nothing is missing, and the rows that are in are not inside
  pub full_none : {us labels : List ℕ} {need : ℕ} → Given firsts seconds limit k limits inc us need labels → need ≡ 0 → (rows : List ℕ) → length rows ≡ need
      → ¬ T (inside lim (cost_of w (inc ++ rows))) → Answers g w lim inc (rows_on us) none
  full_none given e rows size n = only_none g w lim inc _ (omega (arith, given.lacks, e, range_length 1 limit))
      (λ t. n (subst (λ (x : List ℕ). T (inside lim (cost_of w x))) (sym (append-nil inc) ∙ ap (λ (x : List ℕ). inc ++ x) (sym (empty rows (omega (arith, size, e))))) t))
    where
      empty : (l : List ℕ) → length l ≡ 0 → l ≡ []
      empty [] z = refl
      empty (x ∷ l) z = absurd (omega (arith, z))

  -- at a turn, what is told of the usable rows that are left tells of all that were lent
  module _ (four : length kinds ≡ 4) {usable us₀ us : List ℕ} (s : Sifted (λ r. Reached kinds k costs leads limits (r ∷ inc)) usable us₀) (turn : Turn us₀ us)
      (tables : Tables firsts seconds limit k) (node : Node g k limits inc usable) where
    pub first_node : Node g k limits inc us₀
    first_node = node_part (sifted_part _ usable us₀ s) node

    pub turn_given : {labels : List ℕ} {need : ℕ} → labels ≡ labels_of firsts seconds (range 0 33) inc → need ≡ limit - suc (length inc)
        → Given firsts seconds limit k limits inc us need labels
    turn_given is_labels is_need = given_of tables us _ _ (node_part turn.part first_node) is_labels is_need

    pub tells : (o : Option (List ℕ)) → Answers g w lim inc (rows_on us) o → Answers g w lim inc (rows_on usable) o
    tells o h = fitted tables four usable us₀ node s o (turn.carries tables first_node o h)

    pub tells_first : (o : Option (List ℕ)) → Answers g w lim inc (rows_on us₀) o → Answers g w lim inc (rows_on usable) o
    tells_first o h = fitted tables four usable us₀ node s o h

-- without it fewer rows are usable than were lent
pub rows_fall : (Bad : ℕ → Type 0) (usable us₀ us : List ℕ) (at : ℕ) → Sifted Bad usable us₀ → rows_on us ⊆ rows_on us₀ → length us ≡ 256 → at ∈ rows_on us
    → length (rows_on (set us at 0)) < length (rows_on usable)
rows_fall Bad usable us₀ us at s part size m =
    let within : rows_on us ⊆ rows_on usable = λ r i. sifted_part Bad usable us₀ s r (part r i) in
    omega (arith, on_fewer us at size m, pigeonhole (rows_on us) (on_distinct us) within)
