-- What a call comes to, by the first of its checks that is not met; checks behind others (`first_unmet_stops`); and one that alone has its number (`stops_only`).
use mathlib.Core.Path.{◌∙◌, ◌≡◌, ap, refl, subst, sym}
use mathlib.Core.Logic.{◌↔◌}
use mathlib.Core.Bool.{Bool, false, true}
use mathlib.Core.Option.{Option, some-injective, none, some}
use mathlib.Core.List.Memᴰ.{append_left}
use mathlib.Core.List.Memᴰ.{append_right}
use mathlib.Core.List.Memᴰ.{head as here}
use mathlib.Core.List.Memᴰ.{map as map_in}
use mathlib.Core.List.{List, ◌++◌, ◌∷◌, append_assoc, map}
use Prim.Native.Nat.{ℕ}
use native.Mathlib.Omega.{arith}
use Rattle.lists.proofs.Members.{◌∈◌}
use Rattle.checks.specs.Checks.{Check, answered, buffers_by, checked, ended, first_unmet, outcome_by, refused}
use Rattle.checks.proofs.Checks.{first_unmet_append, first_unmet_met, first_unmet_unmet, met_all, stops_iff}

-- what stops a list of checks stops it with others behind
pub first_unmet_stops : (cs ds : List Check) (e : ℕ) → first_unmet cs ≡ some e → first_unmet (cs ++ ds) ≡ some e
first_unmet_stops cs ds e h =
    let s = (stops_iff cs e).0 h in
    (stops_iff (cs ++ ds) e).1 (record {
      before = s.before;
      stop = s.stop;
      after = s.after ++ ds;
      parts = ap (λ (l : List Check). l ++ ds) s.parts ∙ append_assoc s.before (s.stop ∷ s.after) ds;
      before_met = s.before_met;
      unmet = s.unmet;
      numbered = s.numbered;
    })

-- Checks stop at one whose number no other has exactly if those before it are met and it is not.
pub stops_only : (cs : List Check) (c : Check) (ds : List Check) → ¬ (c.number ∈ map (λ d. d.number) cs) → ¬ (c.number ∈ map (λ d. d.number) ds)
    → (first_unmet (cs ++ (c ∷ ds)) ≡ some c.number) ↔ ((first_unmet cs ≡ none) × (c.met ≡ false))
stops_only cs c ds others later = (
  front (first_unmet cs) refl,
  λ (met, unmet). first_unmet_append cs (c ∷ ds) met ∙ first_unmet_unmet c ds unmet,
)
  where
    -- the number of the first check not met is one of theirs
    known : (l : List Check) → first_unmet l ≡ some c.number → c.number ∈ map (λ d. d.number) l
    known l h =
        let s = (stops_iff l c.number).0 h in
        subst (λ (n : ℕ). n ∈ map (λ (d : Check). d.number) l) s.numbered
        (map_in (λ (d : Check). d.number) (subst (λ (k : List Check). s.stop ∈ k) (sym s.parts) (append_right s.before (here refl))))

    itself : (t : Bool) → c.met ≡ t → first_unmet (c ∷ ds) ≡ some c.number → c.met ≡ false
    itself true met h = absurd (later (known ds (sym (first_unmet_met c ds met) ∙ h)))
    itself false unmet h = unmet

    front : (o : Option ℕ) → first_unmet cs ≡ o → first_unmet (cs ++ (c ∷ ds)) ≡ some c.number → (first_unmet cs ≡ none) × (c.met ≡ false)
    front none met h = (met, itself c.met refl (sym (first_unmet_append cs (c ∷ ds) met) ∙ h))
    front (some e) stop h =
        let same : e ≡ c.number = some-injective _ _ (sym (first_unmet_stops cs (c ∷ ds) e stop) ∙ h) in
        absurd (others (known cs (stop ∙ ap some same)))

-- checks that are met with others behind are met, and so are those
pub unmet_parts : (cs ds : List Check) → first_unmet (cs ++ ds) ≡ none → (first_unmet cs ≡ none) × (first_unmet ds ≡ none)
unmet_parts cs ds h =
    let each = (met_all (cs ++ ds)).0 h in
    ((met_all cs).1 (λ c m. each c (append_left ds m)), (met_all ds).1 (λ c m. each c (append_right cs m)))

module _ {A : Type 0} (cs : List Check) (a : A) where
  pub checked_met : first_unmet cs ≡ none → checked cs a ≡ answered a
  unfolding checked
  checked_met h = ap (λ (o : Option ℕ). outcome_by o a) h

  pub checked_unmet : (e : ℕ) → first_unmet cs ≡ some e → checked cs a ≡ refused e
  unfolding checked
  checked_unmet e h = ap (λ (o : Option ℕ). outcome_by o a) h

  -- a refusal's number is that of the first check not met
  pub checked_refused : (e : ℕ) → checked cs a ≡ refused e → first_unmet cs ≡ some e
  unfolding checked
  checked_refused e = by (first_unmet cs)
    where
      by : (o : Option ℕ) → outcome_by o a ≡ refused e → o ≡ some e
      by none h = let z : ◌≡◌ {A = ℕ} 0 1 = cc in absurd (omega arith)
      by (some d) h = cc

  -- a call that answers has met all its checks
  pub checked_answered : (x : A) → checked cs a ≡ answered x → (first_unmet cs ≡ none) × (a ≡ x)
  unfolding checked
  checked_answered x = by (first_unmet cs)
    where
      by : (o : Option ℕ) → outcome_by o a ≡ answered x → (o ≡ none) × (a ≡ x)
      by none h = (refl, cc)
      by (some e) h = let z : ◌≡◌ {A = ℕ} 0 1 = cc in absurd (omega arith)

module _ {A B : Type 0} (cs : List Check) (a : A) (before after : B) where
  pub ended_refused : (e : ℕ) → (ended cs a before after).outcome ≡ refused e → first_unmet cs ≡ some e
  unfolding ended
  ended_refused e h = checked_refused cs a e h

  pub ended_met : first_unmet cs ≡ none → ended cs a before after ≡ record { outcome = answered a; buffers = after }
  unfolding ended checked
  ended_met h = ap (λ (o : Option ℕ). record { outcome = outcome_by o a; buffers = buffers_by o before after }) h

  pub ended_unmet : (e : ℕ) → first_unmet cs ≡ some e → ended cs a before after ≡ record { outcome = refused e; buffers = before }
  unfolding ended checked
  ended_unmet e h = ap (λ (o : Option ℕ). record { outcome = outcome_by o a; buffers = buffers_by o before after }) h

  pub ended_answered : (x : A) → (ended cs a before after).outcome ≡ answered x → (first_unmet cs ≡ none) × (a ≡ x)
  unfolding ended
  ended_answered x h = checked_answered cs a x h

-- a call goes by the first of its checks that is not met
pub ended_same : {A B : Type 0} (cs ds : List Check) (a : A) (before after : B) → first_unmet cs ≡ first_unmet ds → ended cs a before after ≡ ended ds a before after
unfolding ended checked
ended_same cs ds a before after e = ap (λ (o : Option ℕ). record { outcome = outcome_by o a; buffers = buffers_by o before after }) e
