-- The rows that a path still has to take (`Due`) of all that it must have: the others have both ends entered, so that they make no steps and lead nowhere.
-- So a step is accepted by all of them exactly if it is by those that are due (`due_accepted`, `due_least`). Least accepted steps one after the other
-- (`Accepts`), as a loop takes them: they are the least completion with all the rows, if there is any (`accepts_full`, `accepts_least`, `accepts_decide`).
use mathlib.Core.Path.{sym}
use mathlib.Core.Logic.{◌↔◌, ◌⊎◌, inl, inr, ⊎_elim}
use mathlib.Core.List.Memᴰ.{cast as mem_cast}
use mathlib.Core.List.{List, [], ◌++◌, ◌∷◌}
use Prim.Native.Nat.{ℕ}
use native.Mathlib.Decide.{ℕ_discrete}
use Rattle.lists.proofs.Distinct.{Distinct, subset?}
use Rattle.lists.proofs.Members.{◌∈◌, ◌⊆◌, snoc_new, snoc_old}
use Rattle.graph.specs.Graph.{Graph, first_end, row_numbers, second_end}
use Rattle.graph.specs.Paths.{Key}
use Rattle.graph.proofs.Growth.{Joins, Legal, Reaches, State, after, back, bound, direct, forth, legal_with, onward}
use Rattle.graph.proofs.Least.{Least}
use Rattle.graph.proofs.Minimal.{WellFormed}
use Rattle.graph.proofs.Walk.{Legals, state_after}
use Rattle.forests.specs.Forests.{cut}
use Rattle.forests.proofs.Cuts.{cut_distinct, cut_old, cut_or}
use Rattle.states.proofs.Rest.{Begun}
use Rattle.states.proofs.Full.{Accepted, Full, LeastFull, begun_after, least_accepted, least_full_cons, least_full_nil, some_accepted}

-- both ends of row r are entered
abbrev pub Spent : Graph → List ℕ → ℕ → Type 0
Spent g entered r = (first_end g r ∈ entered) × (second_end g r ∈ entered)

pub record Due (g : Graph) (s : State) (musts ms : List ℕ) : Type 0 where
  pub part : ms ⊆ musts
  pub spent : (r : ℕ) → r ∈ musts → (r ∈ ms) ⊎ Spent g s.entered r

-- the rows that are due after some steps
abbrev pub due_after : List ℕ → List Key → List ℕ
due_after ms [] = ms
due_after ms (k ∷ ks) = due_after (cut k.row ms) ks

pub due_after_distinct : (ms : List ℕ) (ks : List Key) → Distinct ms → Distinct (due_after ms ks)
due_after_distinct ms [] d = d
due_after_distinct ms (k ∷ ks) d = due_after_distinct (cut k.row ms) ks (cut_distinct k.row ms d)

-- at the start all are
pub due_all : (g : Graph) (s : State) (ms : List ℕ) → Due g s ms ms
due_all g s ms = record { part = λ r i. i; spent = λ r i. inl i }

module _ {g : Graph} {s : State} {musts ms : List ℕ} (d : Due g s musts ms) where
  pub due_bound : (p j : ℕ) → Due g (bound s p j) musts ms
  due_bound p j = record { part = d.part; spent = d.spent }

  pub due_after_lem : (k : Key) → Legal g (row_numbers g) s k → Due g (after s k) musts (cut k.row ms)
  due_after_lem k h = record {
    part = λ r i. d.part r (cut_old k.row ms r i);
    spent = λ r i. ⊎_elim
        (λ j. ⊎_elim (λ e. inr (rw e (used h.step.joined))) (λ c. inl c) (cut_or k.row j))
        (λ (a, b). inr (snoc_old k.node a, snoc_old k.node b)) (d.spent r i);
  }
    where
      used : Joins g k.row h.step.pivot k.node → Spent g (s.entered ++ (k.node ∷ [])) k.row
      used (forth p q) = (mem_cast p (snoc_old k.node h.step.leaves), mem_cast q (snoc_new s.entered k.node))
      used (back p q) = (mem_cast p (snoc_new s.entered k.node), mem_cast q (snoc_old k.node h.step.leaves))

  -- a row with a node that is not entered is due
  due_fresh : {r u v : ℕ} → r ∈ musts → Joins g r u v → ¬ (v ∈ s.entered) → r ∈ ms
  due_fresh {r} {u} {v} i j n = ⊎_elim (λ m. m) (λ (a, b). absurd (n (side j a b))) (d.spent r i)
    where
      side : Joins g r u v → first_end g r ∈ s.entered → second_end g r ∈ s.entered → v ∈ s.entered
      side (forth p q) a b = mem_cast (sym q) b
      side (back p q) a b = mem_cast (sym p) a

  pub due_row : {k : Key} → Legal g (row_numbers g) s k → (k.row ∈ musts) ↔ (k.row ∈ ms)
  due_row {k} h = (λ i. due_fresh i h.step.joined h.step.fresh, λ i. d.part k.row i)

  pub due_reaches : {v : ℕ} → Reaches g musts s v → Reaches g ms s v
  due_reaches (direct {k} h e) = direct (legal_with s.place s.node h (due_fresh h.usable h.step.joined h.step.fresh) h.above) e
  due_reaches (onward x i j m f) = onward (due_reaches x) (due_fresh i j f) j m f

  pub reaches_due : {v : ℕ} → Reaches g ms s v → Reaches g musts s v
  reaches_due (direct {k} h e) = direct (legal_with s.place s.node h (d.part k.row h.usable) h.above) e
  reaches_due (onward {r} x i j m f) = onward (reaches_due x) (d.part r i) j m f

  pub due_accepted : {k : Key} → Legal g (row_numbers g) s k → Accepted g s musts k ↔ Accepted g s ms k
  due_accepted h = (
    λ a. ⊎_elim (λ i. inl ((due_row h).0 i)) (λ n. inr (λ x. n (reaches_due x))) a,
    λ a. ⊎_elim (λ i. inl ((due_row h).1 i)) (λ n. inr (λ x. n (due_reaches x))) a,
  )

  pub due_least : {k : Key} → Least g (row_numbers g) s (Accepted g s musts) k → Least g (row_numbers g) s (Accepted g s ms) k
  due_least {k} a = record { legal = a.legal; passes = (due_accepted a.legal).0 a.passes; least = λ m h c. a.least m h ((due_accepted h).1 c) }

-- least accepted steps one after the other
abbrev pub Accepts : Graph → List ℕ → State → List Key → Type 0
Accepts g musts s [] = Unit {0}
Accepts g musts s (k ∷ ks) = Least g (row_numbers g) s (Accepted g s musts) k × Accepts g musts (after s k) ks

module _ (g : Graph) (musts : List ℕ) where
  pub accepts_legal : (s : State) (ks : List Key) → Accepts g musts s ks → Legals g (row_numbers g) s ks
  accepts_legal s [] a = tt
  accepts_legal s (k ∷ ks) a = (a.0.legal, accepts_legal (after s k) ks a.1)

  pub begun_walk : (s : State) (ks : List Key) → Begun g s → Legals g (row_numbers g) s ks → Begun g (state_after s ks)
  begun_walk s [] b a = b
  begun_walk s (k ∷ ks) b a = begun_walk (after s k) ks (begun_after b a.0) a.1

  pub due_walk : (s : State) (ms : List ℕ) (ks : List Key) → Due g s musts ms → Legals g (row_numbers g) s ks → Due g (state_after s ks) musts (due_after ms ks)
  due_walk s ms [] d a = d
  due_walk s ms (k ∷ ks) d a = due_walk (after s k) (cut k.row ms) ks (due_after_lem d k a.0) a.1

  module _ (wf : WellFormed g) where
    -- there is still a completion with the rows that are due
    pub accepts_full : (s : State) (ms : List ℕ) → Begun g s → Distinct ms → Due g s musts ms → (ls ks : List Key) → Full g s ms ls → Accepts g musts s ks
        → (js : List Key) × Full g (state_after s ks) (due_after ms ks) js
    accepts_full s ms b once d ls [] f a = (ls, f)
    accepts_full s ms b once d ls (k ∷ ks) f a =
        let (js, h) = least_accepted g wf s b ms once ls f k (due_least d a.0) in
        accepts_full (after s k) (cut k.row ms) (begun_after b a.0.legal) (cut_distinct k.row ms once) (due_after_lem d k a.0.legal) js ks h a.1

    -- and with all nodes entered they are the least
    pub accepts_least : (s : State) (ms : List ℕ) → Begun g s → Distinct ms → Due g s musts ms → (ls ks : List Key) → Full g s ms ls → Accepts g musts s ks
        → g.nodes ⊆ (state_after s ks).entered → LeastFull g s ms ks
    accepts_least s ms b once d ls [] f a w = least_full_nil g s ms w ls f
    accepts_least s ms b once d ls (k ∷ ks) f a w =
        let (js, h) = least_accepted g wf s b ms once ls f k (due_least d a.0) in
        least_full_cons g wf s b ms once k ks (due_least d a.0)
        (accepts_least (after s k) (cut k.row ms) (begun_after b a.0.legal) (cut_distinct k.row ms once) (due_after_lem d k a.0.legal) js ks h a.1 w)

    -- steps that end where no step is accepted have entered all nodes, if there is such a completion
    pub accepts_end : (s : State) (ms : List ℕ) → Begun g s → Distinct ms → Due g s musts ms → (ls ks : List Key) → Full g s ms ls → Accepts g musts s ks
        → ((m : Key) → Legal g (row_numbers g) (state_after s ks) m → ¬ Accepted g (state_after s ks) musts m) → g.nodes ⊆ (state_after s ks).entered
    accepts_end s ms b once d ls ks f a none =
        let (js, h) = accepts_full s ms b once d ls ks f a in
        let steps = accepts_legal s ks a in
        let e = due_walk s ms ks d steps in
        ⊎_elim (λ w. w) (λ (v, m, n).
        let (k, l, c) = some_accepted g wf (state_after s ks) (begun_walk s ks b steps) (due_after ms ks) (due_after_distinct ms ks once) js h v m n in
        absurd (none k l ((due_accepted e l).1 c))) (subset? ℕ_discrete g.nodes (state_after s ks).entered)
