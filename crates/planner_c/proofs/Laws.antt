-- Laws of the calls: what a call comes to by its result, where its answer has the places and where it has not; and Pick.
use Rattle.std.specs.Prelude.{Err, Ok, Result}
use Prim.Native.Nat.{◌<◌, ◌≤◌, ℕ}
use mathlib.Core.Path.{◌≡◌, ◌∙◌, ap}
use mathlib.Core.Bool.{and-false}
use mathlib.Core.List.{List}
use lib.ListN.{length}
use lib.Seq.{take-nil}
use native.Mathlib.Omega.{arith}
use borrow.Author.Tests.{le-ltb, lt-leb, lt-ltb}
use Rattle.checks.specs.Checks.{Ended, Outcome}
use Rattle.operations.specs.Operations.{pick_call}
use Rattle.copies.specs.Copies.{copied}
use Rattle.copies.proofs.Copies.{copied_first}
use Rattle.refusals.specs.Refusals.{outcome_of}
use Rattle.refusals.specs.declared.Refusal.{Refusal}
use Rattle.planner_c.specs.Calls.{Called, answering, answering_beside, ending, planner_pick, told}

-- no node number of 256 or more is in range
pub pick_none : (n : ℕ) (page : List ℕ) (t : ℕ) (out : List ℕ) → 255 < n → record { code = 0; buffers = out } ≡ planner_pick n page t out
unfolding planner_pick pick_call
pick_none n page t out high = simp (lt-leb n 32 (omega arith), and-false, take-nil)

pub pick_copied : (n : ℕ) (page : List ℕ) (t : ℕ) (out part after : List ℕ) → part ≡ pick_call n page t
    → after ≡ copied out 0 part (length part) → record { code = length part; buffers = after } ≡ planner_pick n page t out
unfolding planner_pick
pick_copied n page t out part after same e = rw (e ∙ copied_first out part, same)

-- A call that is lent nothing but its answer buffer
module _ {A : Type 0} (values : A → List ℕ) (outcome : Outcome A) (answer : List ℕ) (places : ℕ) where
  pub answering_short : length answer < places → record { code = 255; buffers = answer } ≡ answering places values outcome answer
  unfolding answering
  answering_short few = simp (lt-ltb _ _ few)

  pub answering_told : {T : Type 0} (f : T → A) (result : Result T Refusal) (code : ℕ) (after : List ℕ) → places ≤ length answer → outcome_of f result ≡ outcome
      → record { code = code; buffers = after } ≡ told (λ a. values (f a)) result answer → record { code = code; buffers = after } ≡ answering places values outcome answer
  unfolding answering
  answering_told f (Ok a) code after enough e h = rw (← e) (h ∙ simp (le-ltb _ _ enough))
  answering_told f (Err r) code after enough e h = rw (← e) (h ∙ simp (le-ltb _ _ enough))

-- A call that is lent a buffer and has no answer buffer
pub ending_told : {A B T : Type 0} (f : T → A) (values : T → List ℕ) (result : Result T Refusal) (e : Ended A B) (code : ℕ) (after : B) (answer numbers : List ℕ)
    → record { outcome = outcome_of f result; buffers = after } ≡ e → record { code = code; buffers = numbers } ≡ told values result answer
    → record { code = code; buffers = after } ≡ ending e
unfolding ending
ending_told f values (Ok a) e code after answer numbers ends h = rw (← ends) (ap (λ (c : Called (List ℕ)). record { code = c.code; buffers = after }) h)
ending_told f values (Err r) e code after answer numbers ends h = rw (← ends) (ap (λ (c : Called (List ℕ)). record { code = c.code; buffers = after }) h)

-- A call that is lent buffers, and an answer buffer
module _ {A B : Type 0} (values : A → List ℕ) (e : Ended A B) (lent : B) (answer : List ℕ) (places : ℕ) where
  pub beside_short : length answer < places → record { code = 255; buffers = record { lent = lent; answer = answer } } ≡ answering_beside places values e lent answer
  unfolding answering_beside
  beside_short few = simp (lt-ltb _ _ few)

  pub beside_told : {T : Type 0} (f : T → A) (result : Result T Refusal) (code : ℕ) (after : B) (numbers : List ℕ) → places ≤ length answer
      → record { outcome = outcome_of f result; buffers = after } ≡ e → record { code = code; buffers = numbers } ≡ told (λ a. values (f a)) result answer
      → record { code = code; buffers = record { lent = after; answer = numbers } } ≡ answering_beside places values e lent answer
  unfolding answering_beside
  beside_told f (Ok a) code after numbers enough ends h =
      rw (← ends) (ap (λ (c : Called (List ℕ)). record { code = c.code; buffers = record { lent = after; answer = c.buffers } }) h ∙ simp (le-ltb _ _ enough))
  beside_told f (Err r) code after numbers enough ends h =
      rw (← ends) (ap (λ (c : Called (List ℕ)). record { code = c.code; buffers = record { lent = after; answer = c.buffers } }) h ∙ simp (le-ltb _ _ enough))
