-- Demand 1 but for 12: a call is refused by the number of the first check not met, and a refusal keeps the buffers (`refuses_checked`, `refuses_ended`).
use mathlib.Core.Path.{◌≡◌, ap, refl}
use mathlib.Core.Logic.{◌↔◌}
use mathlib.Core.List.{List, [], ◌∷◌}
use Prim.Native.Nat.{ℕ}
use Rattle.checks.specs.Checks.{Check, Ended, checked, ended, refused}
use Rattle.checks.proofs.Checks.{StopsAt, stops_iff}
use Rattle.checks.proofs.Ended.{checked_refused, checked_unmet, ended_refused, ended_unmet}
use Rattle.costs.specs.Network.{Network}
use Rattle.operations.specs.Operations.{drawn_checks, start_checks, tree_checks}
use Rattle.demands.specs.Demands.{Refuses, numbers, start_numbers}

pub refuses_checked : {A : Type 0} (cs : List Check) (a : A) (e : ℕ) → (checked cs a ≡ refused e) ↔ StopsAt cs e
refuses_checked cs a e = (λ h. (stops_iff cs e).0 (checked_refused cs a e h), λ s. checked_unmet cs a e ((stops_iff cs e).1 s))

pub refuses_ended : {A B : Type 0} (cs : List Check) (a : A) (before after : B) → Refuses cs (ended cs a before after) before
refuses_ended cs a before after = record {
  first = λ e. (λ h. (stops_iff cs e).0 (ended_refused cs a before after e h), λ s. ap (λ (x : Ended _ _). x.outcome) (ended_unmet cs a before after e ((stops_iff cs e).1 s)));
  kept = λ e h. ap (λ (x : Ended _ _). x.buffers) (ended_unmet cs a before after e (ended_refused cs a before after e h));
}

pub start_order : (w : Network) (start : List ℕ) → numbers (start_checks w start) ≡ start_numbers start
unfolding start_checks drawn_checks tree_checks
start_order w [] = refl
start_order w (r ∷ rs) = refl
