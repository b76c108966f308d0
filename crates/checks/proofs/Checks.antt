-- Laws of numbered checks. A call is refused by the number of the first check that is not met (`stops_iff`), and answers exactly if
-- all are met (`met_all`); checks that are met are passed over (`first_unmet_append`, `first_unmet_skip`, `checked_next`), and the first that is not ends the call
-- (`checked_stop`).
use mathlib.Core.Path.{◌∙◌, ◌≡◌, ap, refl}
use mathlib.Core.Logic.{◌↔◌, ⊎_elim}
use mathlib.Core.Bool.{Bool, false, true}
use mathlib.Core.Option.{Option, none, some}
use mathlib.Core.List.Memᴰ.{cases_cons as mem_cases}
use mathlib.Core.List.Memᴰ.{head as here}
use mathlib.Core.List.Memᴰ.{not-nil as mem_nil}
use mathlib.Core.List.Memᴰ.{tail as there}
use mathlib.Core.List.{List, [], ◌++◌, ◌∷◌}
use Prim.Native.Nat.{ℕ}
use native.Mathlib.Omega.{arith}
use Rattle.lists.specs.Lists.{pick}
use Rattle.lists.proofs.Members.{◌∈◌}
use Rattle.checks.specs.Checks.{Check, answered, checked, first_unmet, outcome_by, refused}

-- One check more in front

-- the rest decides exactly if the check in front is met
module _ (c : Check) (cs : List Check) where
  pub first_unmet_met : c.met ≡ true → first_unmet (c ∷ cs) ≡ first_unmet cs
  unfolding first_unmet
  first_unmet_met e = rw e

  pub first_unmet_unmet : c.met ≡ false → first_unmet (c ∷ cs) ≡ some c.number
  unfolding first_unmet
  first_unmet_unmet e = rw e

-- a check by itself that is met, before others
pub checked_next : {A : Type 0} (c : Check) (cs : List Check) (a : A) {b : A} → checked (c ∷ []) a ≡ answered b → checked (c ∷ cs) a ≡ checked cs a
unfolding checked first_unmet
checked_next {A} c cs a {b} = next c.met
  where
    next : (t : Bool) → outcome_by (pick t none (some c.number)) a ≡ answered b → outcome_by (pick t (first_unmet cs) (some c.number)) a ≡ outcome_by (first_unmet cs) a
    next true e = refl
    next false e = let z : ◌≡◌ {A = ℕ} 0 1 = cc in absurd (omega arith)

-- a check by itself that is not met, before others
pub checked_stop : {A : Type 0} (c : Check) (cs : List Check) (a : A) {e : ℕ} → checked (c ∷ []) a ≡ refused e → checked (c ∷ cs) a ≡ refused e
unfolding checked first_unmet
checked_stop c cs a {e} = stop c.met
  where
    stop : (t : Bool) → outcome_by (pick t none (some c.number)) a ≡ refused e → outcome_by (pick t (first_unmet cs) (some c.number)) a ≡ refused e
    stop true h = let z : ◌≡◌ {A = ℕ} 0 1 = cc in absurd (omega arith)
    stop false h = h

-- Many in front

-- what the first of several checks that is not met says of all of them
in_front : (c : Check) (cs : List Check) → first_unmet (c ∷ cs) ≡ none → (c.met ≡ true) × (first_unmet cs ≡ none)
unfolding first_unmet
in_front c cs = by c.met
  where
    by : (t : Bool) → pick t (first_unmet cs) (some c.number) ≡ none → (t ≡ true) × (first_unmet cs ≡ none)
    by true e = (refl, e)
    by false e = let z : ◌≡◌ {A = ℕ} 0 1 = cc in absurd (omega arith)

-- checks that are all met are passed over
pub first_unmet_append : (cs ds : List Check) → first_unmet cs ≡ none → first_unmet (cs ++ ds) ≡ first_unmet ds
first_unmet_append [] ds e = refl
first_unmet_append (c ∷ cs) ds e =
    let (met, rest) = in_front c cs e in
    first_unmet_met c (cs ++ ds) met ∙ first_unmet_append cs ds rest

-- a check that is met may be left out
pub first_unmet_skip : (cs ds : List Check) (c : Check) → c.met ≡ true → first_unmet (cs ++ (c ∷ ds)) ≡ first_unmet (cs ++ ds)
unfolding first_unmet
first_unmet_skip [] ds c e = first_unmet_met c ds e
first_unmet_skip (d ∷ cs) ds c e = ap {B = Option ℕ} (λ o. pick d.met o (some d.number)) (first_unmet_skip cs ds c e)

-- no check is unmet exactly if each is met
pub met_all : (cs : List Check) → (first_unmet cs ≡ none) ↔ ((c : Check) → c ∈ cs → c.met ≡ true)
unfolding first_unmet
met_all cs = (each cs, none_unmet cs)
  where
    each : (cs : List Check) → first_unmet cs ≡ none → (c : Check) → c ∈ cs → c.met ≡ true
    each [] e c m = absurd (mem_nil m)
    each (d ∷ cs) e c m =
        let (met, rest) = in_front d cs e in
        ⊎_elim (λ (same : c ≡ d). ap (λ (x : Check). x.met) same ∙ met) (each cs rest c) (mem_cases m)

    none_unmet : (cs : List Check) → ((c : Check) → c ∈ cs → c.met ≡ true) → first_unmet cs ≡ none
    none_unmet [] h = refl
    none_unmet (c ∷ cs) h = first_unmet_met c cs (h c (here refl)) ∙ none_unmet cs (λ d m. h d (there m))

-- The first that is not met: it has the number e, and all before it are met.
pub record StopsAt (cs : List Check) (e : ℕ) : Type 0 where
  pub before : List Check
  pub stop : Check
  pub after : List Check
  pub parts : cs ≡ before ++ (stop ∷ after)
  pub before_met : first_unmet before ≡ none
  pub unmet : stop.met ≡ false
  pub numbered : stop.number ≡ e

stops_here : (c : Check) (cs : List Check) (e : ℕ) → c.met ≡ false → c.number ≡ e → StopsAt (c ∷ cs) e
unfolding first_unmet
stops_here c cs e n same = record { before = []; stop = c; after = cs; parts = refl; before_met = refl; unmet = n; numbered = same }

stops_later : (c : Check) (cs : List Check) (e : ℕ) → c.met ≡ true → StopsAt cs e → StopsAt (c ∷ cs) e
stops_later c cs e met s = record {
  before = c ∷ s.before;
  stop = s.stop;
  after = s.after;
  parts = ap (λ (l : List Check). c ∷ l) s.parts;
  before_met = first_unmet_met c s.before met ∙ s.before_met;
  unmet = s.unmet;
  numbered = s.numbered;
}

stops : (cs : List Check) (e : ℕ) → first_unmet cs ≡ some e → StopsAt cs e
unfolding first_unmet
stops [] e h = let z : ◌≡◌ {A = ℕ} 0 1 = cc in absurd (omega arith)
stops (c ∷ cs) e h = by c.met refl h (stops cs e)
  where
    by : (t : Bool) → c.met ≡ t → pick t (first_unmet cs) (some c.number) ≡ some e → (first_unmet cs ≡ some e → StopsAt cs e) → StopsAt (c ∷ cs) e
    by true met h later = stops_later c cs e met (later h)
    by false n h later = stops_here c cs e n (cc)

-- a call is refused by e exactly if e is the number of its first check that is not met
pub stops_iff : (cs : List Check) (e : ℕ) → (first_unmet cs ≡ some e) ↔ StopsAt cs e
stops_iff cs e = (stops cs e, back)
  where
    back : StopsAt cs e → first_unmet cs ≡ some e
    back s =
        ap first_unmet s.parts ∙ first_unmet_append s.before (s.stop ∷ s.after) s.before_met
        ∙ first_unmet_unmet s.stop s.after s.unmet ∙ ap some s.numbered
