use Rattle.std.proofs.Common.{◌∙◌, ◌∷◌, ℕ, ap, arith}
use Rattle.std.proofs.lemmas.List.{length-map}
use Rattle.printout.specs.Text.{decimal_of, put}
use Rattle.printout.proofs.Spelling.{all_numbered, next_number, none_numbered, one_numbered}
use Rattle.printout.proofs.numbers.Goals as goal

pub loop-n-init : goal.loop-n-init
loop-n-init g c = none_numbered

pub loop-n-preserved : goal.loop-n-preserved
loop-n-preserved g c =
    let list = c.args.numbers.now in
    let next = next_number g.N.AsNumber.value list c.loop-n-test.true c.n-item.is c.as_number.ensures in
    one_numbered c.loop-n.invariant (omega (arith, length-map list g.N.AsNumber.value)) c.number-place.auto.out
    (c.number-place.ensures ∙ ap (λ (n : ℕ). put c.loop-n.out c.loop-n.place (32 ∷ decimal_of n)) next)

pub returns : goal.returns
returns g c = all_numbered c.loop-n.invariant (omega (arith, length-map c.args.numbers.now g.N.AsNumber.value))
