-- What each case of the code's comparison stands for.
use Rattle.costs.specs.Cases.{Case, so_far_better, so_far_equal, worse_somewhere}
use Rattle.compare.specs.declared.Comparison.{Comparison}
use Rattle.compare.specs.declared.Comparison.TheVariants.{SoFarBetter, SoFarEqual, WorseSomewhere}

abbrev pub case_of : Comparison → Case
case_of WorseSomewhere = worse_somewhere
case_of SoFarEqual = so_far_equal
case_of SoFarBetter = so_far_better
