-- Growing in the theory of growing paths: the words of fresh nodes stay right (`ready_after`, `ready_back`, `fresh_ready`), and `open_past` says what is still reached
-- (`open_past_lem`).
use mathlib.Core.Path.{◌∙◌, ◌≡◌, ap, subst, sym}
use mathlib.Core.Bool.{false}
use mathlib.Core.Logic.{◌↔◌, inl, inr, ⊎_elim}
use mathlib.Core.List.Memᴰ.{not-nil as mem_nil}
use mathlib.Core.List.{List, [], ◌++◌, ◌∷◌, append-nil, map-append}
use Prim.Native.Nat.{◌<◌, ◌≤◌, ℕ}
use native.Mathlib.Decide.{ℕ_discrete}
use native.Mathlib.Nat.{mod-eq_of_lt}
use native.Mathlib.Omega.{arith}
use lib.Bits.{bit_or}
use lib.Dec.{T, T_not, not_T}
use lib.ListN.{length, length-map}
use lib.Seq.{append_snoc}
use borrow.Author.Tests.{lt-ltb}
use Rattle.lists.proofs.Members.{◌∈◌, not_snoc, range_out, snoc_new, snoc_old}
use Rattle.lists.proofs.Tests.{T-both, T-either}
use Rattle.graph.specs.Graph.{Graph, row_numbers}
use Rattle.graph.specs.Paths.{Key}
use Rattle.graph.proofs.Growth.{Legal, Reaches, State, after, bound, pivot_below, start}
use Rattle.graph.proofs.Least.{Sound, sound_after}
use Rattle.graph.proofs.Minimal.{sound_start}
use Rattle.graph.proofs.Walk.{Legals, state_after}
use Rattle.words.specs.Words.{bit, has, minus}
use Rattle.words.proofs.Words.{bit_in, bit_out, has_minus, has_or}
use Rattle.chart.proofs.Charts.{Charted, Charts, Ready, few}
use Rattle.chart.specs.Chart.{graph_in, limit_in, near_in}
use Rattle.spread.proofs.Spreads.{spread_reaches}
use Rattle.paths.specs.Path.{entered_by, extended_by, nodes_of}
use Rattle.grow.specs.Grow.{fresh_after, kept, open_past}

-- Fresh nodes

-- the word of the nodes that are none of a list
abbrev Without : Graph → List ℕ → ℕ → Type 0
Without g l word = (v : ℕ) → T (has word v) ↔ ((v ∈ g.nodes) × (¬ (v ∈ l)))

pub ready_bound : {g : Graph} {s : State} {fresh : ℕ} (place node : ℕ) → Ready g s fresh → Ready g (bound s place node) fresh
ready_bound place node r = record { sound = record { once = r.sound.once; nodes = r.sound.nodes }; unentered = r.unentered }

module _ {g : Graph} {nb : List ℕ} {limit : ℕ} (charted : Charted g nb limit) where
  without_snoc : (l : List ℕ) (word u : ℕ) → Without g l word → Without g (l ++ (u ∷ [])) (minus word (bit u))
  without_snoc l word u w v = (
    λ t.
        let (old, new) = (T-both (has word v) _).0 (rw has_minus at t) in
        let (m, n) = (w v).0 old in
        (m, not_snoc l n (λ e. T_not (has (bit u) v) new (bit_in u v (omega (arith, charted.small, charted.low v m)) (sym e)))),
    λ (m, n).
        rw has_minus ((T-both (has word v) _).1 (
          (w v).1 (m, λ i. n (snoc_old u i)),
          not_T (has (bit u) v) (λ t. n (subst (λ (x : ℕ). x ∈ l ++ (u ∷ [])) (bit_out u v t) (snoc_new l u))),
        )),
  )

  pub ready_after : {s : State} {fresh : ℕ} {k : Key} → Ready g s fresh → Legal g (row_numbers g) s k → Ready g (after s k) (minus fresh (bit k.node))
  ready_after {s} {fresh} {k} r h = record {
    sound = sound_after g (row_numbers g) s k r.sound h;
    unentered = without_snoc s.entered fresh k.node r.unentered;
  }

  -- the word of a state, made from the word of the state after a step
  pub ready_back : {s : State} {fresh : ℕ} {k : Key} → Sound g s → Legal g (row_numbers g) s k → Ready g (after s k) fresh → Ready g s (bit_or fresh (bit k.node))
  ready_back {s} {fresh} {k} o h r = record {
    sound = o;
    unentered = λ v. (
      λ t. ⊎_elim (λ t. let (m, n) = (r.unentered v).0 t in (m, λ i. n (snoc_old k.node i)))
          (λ t. let e = bit_out k.node v t in (rw e at h.step.enters, rw e at h.step.fresh))
          (simp (has_or, T-either) at t),
      λ (m, n). simp (has_or, T-either) (elim (ℕ_discrete v k.node) [
        | yes e ↦ inr (bit_in k.node v (omega (arith, charted.small, charted.low v m)) (sym e))
        | no d ↦ inl ((r.unentered v).1 (m, not_snoc s.entered n d))
      ]),
    );
  }

  ready_walk : (s : State) (fresh : ℕ) (ks : List Key) → Ready g s fresh → Legals g (row_numbers g) s ks → Ready g (state_after s ks) (fresh_after fresh (nodes_of ks))
  unfolding fresh_after
  ready_walk s fresh [] r a = r
  ready_walk s fresh (k ∷ ks) r a = ready_walk (after s k) (minus fresh (bit k.node)) ks (ready_after r a.0) a.1

  -- at the state after a path's keys
  pub fresh_ready : (nodes : ℕ) (ks : List Key) → ((v : ℕ) → T (has nodes v) ↔ (v ∈ g.nodes)) → Legals g (row_numbers g) (start g) ks
      → Ready g (state_after (start g) ks) (fresh_after nodes (entered_by g.plant ks))
  unfolding fresh_after
  fresh_ready nodes ks w = ready_walk (start g) (minus nodes (bit g.plant)) ks (record {
    sound = sound_start g charted.formed;
    unentered = without_snoc [] nodes g.plant (λ v. (λ t. ((w v).0 t, mem_nil), λ m. (w v).1 m.0));
  })

entered_walk : (s : State) (ks : List Key) → (state_after s ks).entered ≡ s.entered ++ nodes_of ks
entered_walk s [] = sym (append-nil s.entered)
entered_walk s (k ∷ ks) = entered_walk (after s k) ks ∙ append_snoc s.entered k.node (nodes_of ks)

pub entered_after : (g : Graph) (ks : List Key) → (state_after (start g) ks).entered ≡ entered_by g.plant ks
entered_after g ks = entered_walk (start g) ks

-- A path that grows

-- a path keeps a legal step as it is, if there is room for it
pub step_kept : {g : Graph} {s : State} {k : Key} (keys : List Key) → length g.first_ends ≤ 65536 → s.entered ≡ entered_by g.plant keys → length keys < 31
    → Legal g (row_numbers g) s k → extended_by keys (kept k) ≡ keys ++ (k ∷ [])
unfolding extended_by
step_kept {g} {s} {k} keys few e room h =
    let place : k.place < 256 = omega (arith, pivot_below g (row_numbers g) s k h, ap length e, length-map keys (λ (k : Key). k.node)) in
    let row : k.row < 65536 = omega (arith, range_out 0 (length g.first_ends) h.usable) in
    rw (lt-ltb _ _ room, mod-eq_of_lt place, mod-eq_of_lt row)

pub entered_step : {plant : ℕ} {entered : List ℕ} (keys : List Key) (k : Key) → entered ≡ entered_by plant keys
    → entered ++ (k.node ∷ []) ≡ entered_by plant (keys ++ (k ∷ []))
entered_step {plant} keys k e = rw (e, map-append (λ (k : Key). k.node) keys (k ∷ []))

module _ {c : List ℕ} (right : Charts c) where
  abbrev g : Graph
  g = graph_in c

  abbrev charted : Charted (graph_in c) (near_in false c) (limit_in c)
  charted = right.charted

  -- whether a node is still reached once the bound is moved up to a step to it
  pub open_past_lem : {s : State} {fresh : ℕ} (keys : List Key) (place node : ℕ) → s.entered ≡ entered_by g.plant keys → Ready g s fresh
      → T (open_past c (graph_in c).plant fresh keys place node) ↔ Reaches g (row_numbers g) (bound s place node) node
  unfolding open_past
  open_past_lem {s} {fresh} keys place node e r =
      rw (← e) (spread_reaches g (near_in false c) (limit_in c) charted (bound s place node) fresh (ready_bound place node r) node)
