use Rattle.std.proofs.Common.{◌∙◌, sym}
use Rattle.edge_lines.proofs.Numbers.{number_end, number_leads, number_start, number_stop, number_turn}
use Rattle.edge_lines.proofs.number_of.Goals as goal

pub returns-then-not-begins_well : goal.returns-then-not-begins_well
returns-then-not-begins_well c = number_leads _ (sym c.begins_well.ensures ∙ c.if-not-begins_well.true)

pub loop-b-init : goal.loop-b-init
loop-b-init c = number_start _

pub returns-then-not-is_ascii_digit : goal.returns-then-not-is_ascii_digit
returns-then-not-is_ascii_digit c = number_stop c.loop-b.invariant c.loop-b-test.true (sym c.is_ascii_digit.ensures.value ∙ c.if-not-is_ascii_digit.true)

pub loop-b-preserved : goal.loop-b-preserved
loop-b-preserved c =
    number_turn c.loop-b.invariant c.loop-b-test.true (sym c.is_ascii_digit.ensures.value ∙ c.if-not-is_ascii_digit.false) c.next_value-value.ensures

pub returns : goal.returns
returns c = number_end c.loop-b.invariant (sym c.begins_well.ensures ∙ c.if-not-begins_well.false) c.loop-b-test.false
