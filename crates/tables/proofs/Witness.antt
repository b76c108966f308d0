-- Rows are entries that carry a vector. At the end each row is the FIRST entry of the list with its vector, also over several passes
-- (`Witnessed`, `plan_witnessed`). `Walked` is the invariant of a loop over the entries: `walked_step`, `walked_walk`.
-- With no bound the rows are the front, and first entries too (`enter_all_witnessed`).
use mathlib.Core.Path.{◌∙◌, ◌≡◌, ap, refl, subst, sym}
use mathlib.Core.Logic.{◌⊎◌, inl, inr, ⊎_elim}
use mathlib.Core.Bool.{Bool, false, true}
use mathlib.Core.Option.{Option, none, some}
use mathlib.Core.List.{List, [], ◌++◌, ◌∷◌, append_assoc, append-nil, map, map-append}
use mathlib.Core.List.Memᴰ.{append_right}
use mathlib.Core.List.Memᴰ.{head as here}
use mathlib.Core.List.Memᴰ.{not-nil as mem_nil}
use mathlib.Core.List.Memᴰ.{tail as there}
use Prim.Native.Nat.{◌+◌, ◌≤◌, suc, zero, ℕ}
use native.Mathlib.Omega.{arith}
use lib.Dec.{T, leb, ltb}
use lib.ListN.{drop, length, take}
use lib.Seq.{append_snoc}
use Rattle.lists.specs.Lists.{first_with, pick, same}
use Rattle.lists.proofs.Members.{◌∈◌, first_here, first_there, same_in, same_out, take_out}
use Rattle.lists.proofs.Tests.{pick_elim}
use Rattle.costs.specs.Costs.{front_of}
use Rattle.costs.proofs.Fronts.{Sized, sized_append, sized_snoc}
use Rattle.tables.specs.Tables.{Plan, Table, below, bounded, conclude, cut_at, enter, enter_all, enter_bounded, met, pass, passes, plan, replaced, walk}
use Rattle.tables.proofs.Bare.{bare, bare_enter, bare_met, bare_passes, bare_plan}
use Rattle.tables.proofs.Enter.{front_whole, seen_met}
use Rattle.tables.proofs.Known.{Known, known_nothing, rows_known}
use Rattle.tables.proofs.Pass.{Pass, cut_fits, pass_step, replaced_length, replaced_out}
use Rattle.tables.proofs.Plans.{Ended, Planned, known_sized, known_start, pass_end, plan_planned}

module _ {E : Type 0} (key : E → List ℕ) where
  -- each row is the first entry with its vector
  abbrev pub Firsts : List E → List E → Type 0
  Firsts es rows = (r : E) → r ∈ rows → first_with key (key r) es ≡ some r

  -- an entry whose vector did not stand before
  first_new : (done rest : List E) (e : E) → (¬ (key e ∈ map key done)) → first_with key (key e) (done ++ e ∷ rest) ≡ some e
  first_new [] rest e n = first_here (λ d. same (key e) (key d)) e rest (same_in (key e))
  first_new (d ∷ done) rest e n =
      first_there (λ d. same (key e) (key d)) d (done ++ e ∷ rest) (λ t. n (here (same_out (key e) (key d) t))) ∙ first_new done rest e (λ m. n (there m))

  bounded_rows : (rows : List E) (b : Option (List ℕ)) (rest : List E) → (bounded key rows b rest).rows ≡ rows
  bounded_rows rows b [] = refl
  bounded_rows rows b (e ∷ rest) = refl

  -- A row after an entry was a row before, or is the entry, and then it is below the bound and no row met it.
  pub entered_row : (cap : ℕ) (s : Table E) (e r : E) → r ∈ (enter_bounded key cap s e).rows
      → (r ∈ s.rows) ⊎ ((r ≡ e) × T (below s.bound (key e)) × (¬ T (met key s.rows e)))
  entered_row cap s e r = pick_elim (λ (t : Table E). r ∈ t.rows → Origin) (below s.bound (key e))
      (λ t. pick_elim (λ (u : Table E). r ∈ u.rows → Origin) (met key s.rows e)
      (λ h m. inl m)
      (λ n m. ⊎_elim (λ (q : r ≡ e). inr (q, t, n)) inl
      (replaced_out key s.rows e r (take_out cap (replaced key s.rows e) (subst (λ (l : List E). r ∈ l)
      (bounded_rows (take cap (replaced key s.rows e)) s.bound (drop cap (replaced key s.rows e))) m)))))
      (λ n m. inl m)
    where
      Origin : Type 0
      Origin = (r ∈ s.rows) ⊎ ((r ≡ e) × T (below s.bound (key e)) × (¬ T (met key s.rows e)))

-- The state of a pass over the entries es that has walked `done`.
pub record Walked {E : Type 0} (key : E → List ℕ) (cap : ℕ) (known : List (List ℕ)) (es done : List E) (s : Table E) : Type 0 where
  pub pass : Pass cap known (map key done) (bare key s)
  pub firsts : Firsts key es s.rows

module _ {E : Type 0} (key : E → List ℕ) (k cap : ℕ) (known : List (List ℕ)) (sized : Sized k known) (es : List E) where
  -- One entry. A vector that was seen and is below the bound is met: so what is entered was not seen.
  pub walked_step : (done rest : List E) (e : E) (s : Table E) → done ++ e ∷ rest ≡ es → Sized k (map key done) → length (key e) ≡ k
      → Walked key cap known es done s → Walked key cap known es (done ++ (e ∷ [])) (enter_bounded key cap s e)
  walked_step done rest e s q z y p = record {
    pass = rw map-append (subst (Pass cap known (map key done ++ (key e ∷ []))) (sym (bare_enter key cap s e))
        (pass_step k cap known (map key done) (bare key s) (key e) sized (sized_snoc k (map key done) (key e) z y) p.pass));
    firsts = λ r m. ⊎_elim (p.firsts r) (new r) (entered_row key cap s e r m);
  }
    where
      fresh : T (below s.bound (key e)) → (¬ T (met key s.rows e)) → ¬ (key e ∈ map key done)
      fresh t n i = n (subst T (sym (bare_met key s.rows e))
          (seen_met k s.bound (known ++ map key done) (map key s.rows) (sized_append k known (map key done) sized z) p.pass.front (key e) (append_right known i) t))

      new : (r : E) → (r ≡ e) × T (below s.bound (key e)) × (¬ T (met key s.rows e)) → first_with key (key r) es ≡ some r
      new r o =
          subst (λ (x : E). first_with key (key x) es ≡ some x) (sym o.0)
          (subst (λ (l : List E). first_with key (key e) l ≡ some e) q (first_new key done rest e (fresh o.1 o.2)))

  -- A stretch of the list.
  pub walked_walk : (done us rest : List E) (s : Table E) → done ++ us ++ rest ≡ es → Sized k (map key done) → Sized k (map key us)
      → Walked key cap known es done s → Walked key cap known es (done ++ us) (walk key cap s us)
  walked_walk done [] rest s q z y p = rw append-nil p
  walked_walk done (u ∷ us) rest s q z y p = rw append_snoc at
      (walked_walk (done ++ (u ∷ [])) us rest (enter_bounded key cap s u) (rw append_snoc q)
      (rw map-append (sized_snoc k (map key done) (key u) z (y (key u) (here refl)))) (λ w m. y w (there m))
      (walked_step done (us ++ rest) u s (sym (append_assoc done (u ∷ us) rest) ∙ q) z (y (key u) (here refl)) p))

module _ {E : Type 0} (key : E → List ℕ) (k cap : ℕ) (es : List E) (sized : Sized k (map key es)) where
  -- A whole pass, from known rows that are first entries.
  pub pass_walked : (known : List E) → Known (map key es) (map key known) → length (map key known) ≤ cap → Firsts key es known
      → Walked key cap (map key known) es es (pass key cap known es)
  pass_walked known h fits f =
      walked_walk key k cap (map key known) (known_sized k (map key es) (map key known) sized h) es [] es [] (record { rows = known; bound = none })
      (append-nil es) (λ w m. absurd (mem_nil m)) sized (record { pass = known_start cap (map key es) (map key known) h fits; firsts = f })

  conclude_firsts : (rows : List E) (b : Option (List ℕ)) (room : Bool) (again : Plan E) → Firsts key es rows → Firsts key es again.rows
      → Firsts key es (conclude key rows b room again).rows
  conclude_firsts rows none room again f g = f
  conclude_firsts rows (some w) true again f g = g
  conclude_firsts rows (some w) false again f g = f

  -- Passes keep first entries.
  pub passes_firsts : (n : ℕ) (known : List E) → Known (map key es) (map key known) → length (map key known) ≤ cap → Firsts key es known
      → Firsts key es (passes key cap n known es).rows
  unfolding passes
  passes_firsts zero known h fits f = f
  passes_firsts (suc n) known h fits f =
      conclude_firsts s.rows s.bound (ltb (length known) cap) (passes key cap n s.rows es) walked.firsts
      (passes_firsts n s.rows (rows_known s.bound (map key es) (map key s.rows) ended.front) ended.fits walked.firsts)
    where
      s : Table E
      s = pass key cap known es

      walked : Walked key cap (map key known) es es s
      walked = pass_walked known h fits f

      ended : Ended cap (map key es) (map key known) (bare key s)
      ended = pass_end cap (map key es) (map key known) (bare key s) h walked.pass

-- What the planner ends with: the first `cap` vectors of the front, each carried by the first entry that has it, and whether there are no more.
pub record Witnessed {E : Type 0} (key : E → List ℕ) (cap : ℕ) (es : List E) (r : Plan E) : Type 0 where
  pub vectors_are : map key r.rows ≡ take cap (front_of (map key es))
  pub whole_is : r.whole ≡ leb (length (front_of (map key es))) cap
  pub firsts : Firsts key es r.rows

pub plan_witnessed : {E : Type 0} (key : E → List ℕ) (k cap : ℕ) (es : List E) → Sized k (map key es) → Witnessed key cap es (plan key cap es)
plan_witnessed key k cap es sized = record {
  vectors_are = planned.rows_are;
  whole_is = planned.whole_is;
  firsts = passes_firsts key k cap es sized (suc cap) [] (known_nothing (map key es)) (omega arith) (λ x m. absurd (mem_nil m));
}
  where
    planned : Planned cap (map key es) (bare_plan key (plan key cap es))
    planned = subst (Planned cap (map key es)) (sym (bare_passes key cap (suc cap) [] es)) (plan_planned k cap (map key es) sized)

-- Entering all entries, one after the other, with no bound: the rows are the front, each the first entry with its vector.
module _ {E : Type 0} (key : E → List ℕ) where
  -- with room for all, a bounded table has no bound
  roomy : (cap : ℕ) (rows : List E) (e : E) → suc (length rows) ≤ cap
      → enter_bounded key cap (record { rows = rows; bound = none }) e ≡ record { rows = enter key rows e; bound = none }
  roomy cap rows e h = go (met key rows e)
    where
      go : (b : Bool) → pick b (record { rows = rows; bound = none }) (cut_at key cap none (replaced key rows e)) ≡ record { rows = pick b rows (replaced key rows e); bound = none }
      go true = refl
      go false = cut_fits key cap none (replaced key rows e) (omega (arith, replaced_length key rows e))

  pub enter_out : (rows : List E) (e r : E) → r ∈ enter key rows e → (r ≡ e) ⊎ (r ∈ rows)
  enter_out rows e r = pick_elim (λ (l : List E). r ∈ l → (r ≡ e) ⊎ (r ∈ rows)) (met key rows e) (λ t m. inr m) (λ n. replaced_out key rows e r)

  enter_length : (rows : List E) (e : E) → length (enter key rows e) ≤ suc (length rows)
  enter_length rows e = pick_elim (λ (l : List E). length l ≤ suc (length rows)) (met key rows e) (λ t. omega arith) (λ n. replaced_length key rows e)

  walk_roomy : (cap : ℕ) (rows es : List E) → length rows + length es ≤ cap
      → walk key cap (record { rows = rows; bound = none }) es ≡ record { rows = enter_all key rows es; bound = none }
  walk_roomy cap rows [] h = refl
  walk_roomy cap rows (e ∷ es) h =
      ap (λ (t : Table E). walk key cap t es) (roomy cap rows e (omega arith)) ∙ walk_roomy cap (enter key rows e) es (omega (arith, enter_length rows e))

  pub enter_all_witnessed : (k : ℕ) (es : List E) → Sized k (map key es)
      → (map key (enter_all key [] es) ≡ front_of (map key es)) × Firsts key es (enter_all key [] es)
  enter_all_witnessed k es sized =
      let cap = length es in
      let walked = subst (Walked key cap [] es es) (walk_roomy cap [] es (omega arith))
      (pass_walked key k cap es sized [] (known_nothing (map key es)) (omega arith) (λ x m. absurd (mem_nil m))) in
      (front_whole (map key es) (map key (enter_all key [] es)) walked.pass.front, walked.firsts)
