-- An offer to a scratch table whose places hold a table of trees (`Held`) is the step on that table behind the known rows (`offer_held`).
use mathlib.Core.Path.{◌∙◌, ◌≡◌, ap, ap₂, refl, sym}
use mathlib.Core.Logic.{⊎_elim}
use mathlib.Core.Bool.{Bool, false, not, true}
use mathlib.Core.Option.{Option, none, some}
use mathlib.Core.List.Memᴰ.{of_map as map_out}
use mathlib.Core.List.{List, [], ◌++◌, ◌∷◌, append_assoc, map, map-append}
use Prim.Native.Nat.{◌*◌, ◌/◌, ◌<◌, ◌≤◌, suc, ℕ}
use native.Mathlib.Nat.{le-div_iff_mul-le, mul-le-mul_right, suc-mul}
use native.Mathlib.Omega.{arith}
use lib.ListN.{drop, length, length-drop, length-map, length-take, take, take-append-drop}
use lib.Seq.{drop_at, length-take-le, take_at}
use borrow.Author.Tests.{le-ltb, lt-leb, lt-ltb, ne_eqb}
use Rattle.lists.specs.Lists.{filter_b, insert, pick}
use Rattle.lists.proofs.Maps.{map_any, map_filter, map_insert}
use Rattle.lists.proofs.Members.{filter_out, take_out}
use Rattle.lists.proofs.Orders.{insert_out}
use Rattle.costs.specs.Costs.{dominates, vector_less}
use Rattle.costs.proofs.Fronts.{Sized}
use Rattle.pages.specs.Pages.{capacity, flat, pieces}
use Rattle.pages.proofs.Pages.{pieces_flat}
use Rattle.tables.specs.Tables.{Table, below, bounded, cut_at, met, replaced}
use Rattle.tables.proofs.Pass.{replaced_length}
use Rattle.table.specs.Enter.{Row, beside, enter_call, filled}
use Rattle.table.specs.Enter as entry
use Rattle.table.proofs.Filled.{filled_length, paths_are, vectors_are}
use Rattle.passes.specs.Passes.{enter_behind}
use Rattle.passes.proofs.Flat.{flat_append, flat_long, over_past, pieces_long}
use Rattle.scratch.specs.Scratch.{Held, Offered, bound_in, offer_of, offered, row_with}
use Rattle.scratch.specs.declared.Scratch.{Scratch}

-- Trees with their vectors

module _ (key : List ℕ → List ℕ) where
  vectors_of : (l : List (List ℕ)) → map (λ (r : Row). r.vector) (map (row_with key) l) ≡ map key l
  vectors_of [] = refl
  vectors_of (p ∷ l) = ap (λ (m : List (List ℕ)). key p ∷ m) (vectors_of l)

  paths_of : (l : List (List ℕ)) → map (λ (r : Row). r.path) (map (row_with key) l) ≡ l
  paths_of [] = refl
  paths_of (p ∷ l) = ap (λ (m : List (List ℕ)). p ∷ m) (paths_of l)

  rows_of_lem : (l : List (List ℕ)) → beside (map key l) l ≡ map (row_with key) l
  unfolding beside
  rows_of_lem [] = refl
  rows_of_lem (p ∷ l) = ap (λ (m : List Row). row_with key p ∷ m) (rows_of_lem l)

  rows_replaced : (l : List (List ℕ)) (e : List ℕ) → replaced (λ (r : Row). r.vector) (map (row_with key) l) (row_with key e) ≡ map (row_with key) (replaced key l e)
  rows_replaced l e =
      sym (map_insert (row_with key) (λ a b. vector_less a.vector b.vector) e (filter_b (λ r. not (dominates (key e) (key r))) l)
      ∙ ap (insert (λ a b. vector_less a.vector b.vector) (row_with key e)) (map_filter (row_with key) (λ r. not (dominates (key e) r.vector)) l))

-- The first places of a table that begins with rows of k places

pieces_first : (k n : ℕ) (a b : List (List ℕ)) (behind : List ℕ) → Sized k a → n ≡ length a → pieces k n (flat (a ++ b) ++ behind) ≡ a
pieces_first k n a b behind sized e = rw (e, flat_append, append_assoc) (pieces_flat k a (flat b ++ behind) sized)

-- The start, and what the places hold

pub held_start : (key : List ℕ → List ℕ) (k w rows : ℕ) (costs witnesses : List ℕ)
    → Held key k w rows (record { count = 0; bounded = false }) costs witnesses (record { rows = []; bound = none })
unfolding filled beside pieces bound_in
held_start key k w rows costs witnesses = record { few = omega arith; rows_are = refl; bound_is = refl }

module _ {key : List ℕ → List ℕ} {k w rows : ℕ} {s : Scratch} {costs witnesses : List ℕ} {t : Table (List ℕ)} (held : Held key k w rows s costs witnesses t) where
  pub held_count : s.count ≡ length t.rows
  held_count = sym (filled_length k w costs witnesses s.count) ∙ ap length held.rows_are ∙ length-map t.rows (row_with key)

  pub held_vectors : pieces k s.count costs ≡ map key t.rows
  held_vectors = sym (vectors_are k w costs witnesses s.count) ∙ ap (map (λ (r : Row). r.vector)) held.rows_are ∙ vectors_of key t.rows

  pub held_trees : pieces w s.count witnesses ≡ t.rows
  held_trees = sym (paths_are k w costs witnesses s.count) ∙ ap (map (λ (r : Row). r.path)) held.rows_are ∙ paths_of key t.rows

  -- there is a bound exactly if a row was dropped
  pub held_unbounded : s.bounded ≡ false → t.bound ≡ none
  unfolding bound_in
  held_unbounded e = sym held.bound_is ∙ ap (λ (b : Bool). pick b (some (take k (drop (rows * k) costs))) none) e

  pub held_bounded : s.bounded ≡ true → t.bound ≡ some (take k (drop (rows * k) costs))
  unfolding bound_in
  held_bounded e = sym held.bound_is ∙ ap (λ (b : Bool). pick b (some (take k (drop (rows * k) costs))) none) e

module _ (key : List ℕ → List ℕ) (k w rows : ℕ) (long : (p : List ℕ) → length (key p) ≡ k) where
  sized_keys : (l : List (List ℕ)) → Sized k (map key l)
  sized_keys l v m = let (p, _, e) = map_out key l m in sym (ap length e) ∙ long p

  abbrev Holds : Offered → Table (List ℕ) → Type 0
  Holds o t = Held key k w rows o.scratch o.costs o.witnesses t

  -- New rows in the first places: one too many is dropped, and stands where the bound is read

  abbrev new_costs : List ℕ → List (List ℕ) → List ℕ
  new_costs costs new = flat (map key new) ++ drop (length (flat (map key new))) costs

  abbrev new_trees : List ℕ → List (List ℕ) → List ℕ
  new_trees witnesses new = flat new ++ drop (length (flat new)) witnesses

  abbrev renewed : List ℕ → List ℕ → Scratch → List (List ℕ) → Offered
  renewed costs witnesses s new = offered rows s (record { answer = entry.entered (length new); costs = new_costs costs new; witnesses = new_trees witnesses new })

  module _ (costs witnesses : List ℕ) (s : Scratch) (b : Option (List ℕ)) (new : List (List ℕ)) (wide : Sized w new) (same : bound_in rows k s.bounded costs ≡ b) where
    abbrev first : List (List ℕ)
    first = take rows new

    parts : first ++ drop rows new ≡ new
    parts = take-append-drop rows new

    key_parts : map key first ++ map key (drop rows new) ≡ map key new
    key_parts = sym (map-append key first (drop rows new)) ∙ ap (map key) parts

    kept_rows : (n : ℕ) → n ≡ length first → filled k w n (new_costs costs new) (new_trees witnesses new) ≡ map (row_with key) first
    unfolding filled
    kept_rows n e =
        ap₂ beside
        (ap (λ (l : List (List ℕ)). pieces k n (flat l ++ drop (length (flat (map key new))) costs)) (sym key_parts)
        ∙ pieces_first k n (map key first) (map key (drop rows new)) _ (sized_keys first) (e ∙ sym (length-map first key)))
        (ap (λ (l : List (List ℕ)). pieces w n (flat l ++ drop (length (flat new)) witnesses)) (sym parts)
        ∙ pieces_first w n first (drop rows new) _ (λ p m. wide p (take_out rows new m)) e)
        ∙ rows_of_lem key first

    dropped_row : (x : List ℕ) (more : List (List ℕ)) → drop rows new ≡ x ∷ more → rows ≤ length new → take k (drop (rows * k) (new_costs costs new)) ≡ key x
    unfolding flat
    dropped_row x more e h =
        let before : length (flat (map key first)) ≡ rows * k =
        flat_long k (map key first) (sized_keys first) ∙ ap (λ (n : ℕ). n * k) (length-map first key ∙ length-take-le rows new h) in
        let split : flat (map key new) ≡ flat (map key first) ++ (key x ++ flat (map key more)) =
        ap flat (sym key_parts) ∙ flat_append (map key first) (map key (drop rows new)) ∙ ap (λ (l : List (List ℕ)). flat (map key first) ++ flat (map key l)) e in
        rw (split, append_assoc, drop_at (flat (map key first)) _ (rows * k) before, append_assoc) (take_at (key x) _ k (long x))

    cut_held : Holds (renewed costs witnesses s new) (cut_at key rows b new)
    unfolding bound_in
    cut_held = go (drop rows new) refl
      where
        go : (rest : List (List ℕ)) → drop rows new ≡ rest → Holds (renewed costs witnesses s new) (bounded key first b rest)
        go [] e =
            let short : length new ≤ rows = omega (arith, length-drop rows new, ap length e) in
            let before : length (flat (map key new)) ≤ rows * k = rw (flat_long k (map key new) (sized_keys new), length-map) (mul-le-mul_right k short) in
            rw (le-ltb _ _ short) (record {
              few = short;
              rows_are = kept_rows (length new) (sym (length-take rows new ∙ omega arith));
              bound_is = ap (λ (l : List ℕ). pick s.bounded (some (take k l)) none) (over_past (flat (map key new)) costs (rows * k) before) ∙ same;
            })
        go (x ∷ rest) e =
            let more : rows < length new = omega (arith, length-drop rows new, ap length e) in
            rw (lt-ltb _ _ more) (record {
              few = omega arith;
              rows_are = kept_rows rows (sym (length-take-le rows new (omega arith)));
              bound_is = ap some (dropped_row x rest e (omega arith));
            })

  -- THE OFFER

  module _ {costs witnesses : List ℕ} {s : Scratch} {t : Table (List ℕ)} (held : Held key k w rows s costs witnesses t)
      (some_costs : 0 < k) (some_rows : 0 < w) (costs_fit : suc rows * k ≤ length costs) (trees_fit : suc rows * w ≤ length witnesses)
      (e : List ℕ) (size : length e ≡ w) where
    abbrev new : List (List ℕ)
    new = replaced key t.rows e

    new_wide : Sized w new
    new_wide p m = ⊎_elim
        (λ (q : p ≡ e). rw q size)
        (λ m. let fits : s.count * w ≤ length witnesses = omega (arith, mul-le-mul_right w held.few, suc-mul rows w) in
        let i = (filter_out (λ r. not (dominates (key e) (key r))) t.rows m).0 in
        pieces_long w s.count witnesses fits p (rw (held_trees held) i))
        (insert_out (λ a b. vector_less (key a) (key b)) (filter_b (λ r. not (dominates (key e) (key r))) t.rows) m)

    room_is : suc rows ≤ capacity k w costs witnesses
    unfolding capacity
    room_is =
        let a = (le-div_iff_mul-le {k = k} {x = suc rows} {y = length costs} some_costs).1 costs_fit in
        let b = (le-div_iff_mul-le {k = w} {x = suc rows} {y = length witnesses} some_rows).1 trees_fit in
        omega arith

    -- entering, where a row meets the tree or none does
    abbrev entering : Bool → entry.EnterEnd
    entering m = pick m
        (record { answer = entry.met; costs = costs; witnesses = witnesses })
        (record { answer = entry.entered (length new); costs = new_costs costs new; witnesses = new_trees witnesses new })

    enter_is : enter_call costs witnesses s.count (key e) e ≡ entering (met key t.rows e)
    unfolding enter_call
    enter_is =
        let fewer : s.count ≤ capacity k w costs witnesses = omega (arith, held.few, room_is) in
        let fits : length new ≤ capacity k w costs witnesses = omega (arith, held.few, room_is, replaced_length key t.rows e, held_count held) in
        rw (
          long e,
          size,
          ne_eqb k 0 (λ z. omega arith),
          ne_eqb w 0 (λ z. omega arith),
          le-ltb _ _ fewer,
          held.rows_are,
          rows_replaced key t.rows e,
          length-map,
          le-ltb _ _ fits,
          vectors_of,
          paths_of,
          ← map_any (row_with key),
        )

    -- behind known rows
    module _ (known : List ℕ) (n : ℕ) (trees : List (List ℕ)) (fits : n * k ≤ length known) (same : pieces k n known ≡ map key trees) where
      abbrev still : Offered
      still = record { scratch = s; costs = costs; witnesses = witnesses }

      offer_is : offer_of known n costs witnesses rows s (key e) e
          ≡ pick (below t.bound (key e)) (pick (met key trees e) still (offered rows s (entering (met key t.rows e)))) still
      unfolding offer_of
      offer_is =
          let all : rows < length costs / k = (le-div_iff_mul-le {k = k} {x = suc rows} {y = length costs} some_costs).1 costs_fit in
          let enough : n ≤ length known / k = (le-div_iff_mul-le {k = k} {x = n} {y = length known} some_costs).1 fits in
          rw (long e, ne_eqb k 0 (λ z. omega arith), lt-leb _ _ all, le-ltb _ _ enough, held.bound_is, same, ← map_any key, enter_is)

      pub offer_held : Holds (offer_of known n costs witnesses rows s (key e) e) (enter_behind key rows trees t e)
      offer_held = rw offer_is (go (below t.bound (key e)) (met key trees e) (met key t.rows e))
        where
          go : (b m r : Bool) → Holds (pick b (pick m still (offered rows s (entering r))) still) (pick m t (pick b (pick r t (cut_at key rows t.bound new)) t))
          go true true r = held
          go true false true = held
          go true false false = cut_held costs witnesses s t.bound new new_wide held.bound_is
          go false true r = held
          go false false r = held
