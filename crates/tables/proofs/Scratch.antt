-- A pass with room for `more` rows behind the known ones (DESIGN section 3): the laws that the loop over passes uses, for any capacity.
use mathlib.Core.Path.{◌∙◌, ◌≡◌, ap, sym}
use mathlib.Core.Option.{none, some}
use mathlib.Core.List.{List}
use Prim.Native.Nat.{◌+◌, ◌<◌, ◌≤◌, ℕ}
use native.Mathlib.Omega.{arith}
use lib.ListN.{length, take}
use lib.Seq.{take_all}
use Rattle.costs.specs.Costs.{front_of}
use Rattle.costs.proofs.Fronts.{Sized}
use Rattle.tables.specs.Tables.{Table}
use Rattle.tables.proofs.Known.{Known, rows_known}
use Rattle.tables.proofs.Plans.{Ended, ended_again, ended_whole}

module _ (k more cap : ℕ) (vs known : List (List ℕ)) (sized : Sized k vs) (h : Known vs known) (room : 0 < more)
    (s : Table (List ℕ)) (p : Ended (length known + more) vs known s) where
  -- what the pass ends with is known
  pub scratch_known : Known vs s.rows
  scratch_known = rows_known s.bound vs s.rows p.front

  -- no bound: they are the front, whole if they fit
  pub scratch_whole : s.bound ≡ none → length s.rows ≤ cap → (s.rows ≡ take cap (front_of vs)) × (length (front_of vs) ≤ cap)
  scratch_whole e l =
      let f = ended_whole (length known + more) vs known s p e in
      let short : length (front_of vs) ≤ cap = omega (arith, ap length f) in
      (f ∙ sym (take_all cap (front_of vs) short), short)

  -- a bound: the next pass starts from more
  pub scratch_again : (w : List ℕ) → s.bound ≡ some w → length known < length s.rows
  scratch_again w e = (ended_again k (length known + more) vs known sized h (omega arith) s p w e (omega arith)).1
