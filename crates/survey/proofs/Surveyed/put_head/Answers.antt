-- The version, the length, the sizes and the kinds stand one behind the other (`head_put`).
use Rattle.std.proofs.Common.{◌∙◌, ◌∷◌, [], ℕ, ap₂, arith}
use Rattle.printout.specs.Text.{put}
use Rattle.survey.proofs.Putting.{head_few, head_put, two_bytes}
use Rattle.survey.proofs.Surveyed.put_head.Goals as goal

pub slice_bounds-text-end-3 : goal.slice_bounds-text-end-3
slice_bounds-text-end-3 c =
    omega (arith, (head_few _ _ c.requires.0 c.args.self.now.fitting.same _ c.requires.1).1)

pub returns : goal.returns
returns c =
    let h = c.args.self.now.header in
    let (high, low) = two_bytes c.args.m (omega arith) c.to_be_bytes.ensures in
    let sizes = ap₂ (λ (x y : ℕ). put c.put_u32-length.new.buffer c.put_u32-length.result (h.n ∷ x ∷ y ∷ h.k ∷ [])) high low in
    head_put _ _ c.requires.0 c.args.self.now.fitting.same _ _ c.text-version.ensures c.put_u32-length.ensures (c.text-kinds.ensures ∙ sizes) c.text.ensures
