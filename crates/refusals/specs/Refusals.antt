-- The number of each refusal, and what a result that may be refused comes to.
use Rattle.std.specs.Prelude.{Err, Ok, Result, ℕ}
use Rattle.checks.specs.Checks.{Outcome, answered, refused}
use Rattle.refusals.specs.declared.Refusal.{Refusal}
use Rattle.refusals.specs.declared.Refusal.TheVariants.{BrokenState, FullHalf, HighCost, NoTree, NotATree, NotAdded, NotIndexed, NotMinimal, OtherFrame, ShortBuffer, TooManyRows, TooManyTrees, UnknownKind, UnknownRow, UnknownState, WrongBody, WrongEdgeCount, WrongEnds, WrongLength, WrongLine, WrongRowCount, WrongSizes, WrongVersion}

abbrev pub number_of : Refusal → ℕ
number_of WrongVersion = 1
number_of WrongLength = 2
number_of WrongSizes = 3
number_of WrongBody = 4
number_of UnknownKind = 5
number_of WrongEnds = 6
number_of HighCost = 7
number_of WrongRowCount = 8
number_of UnknownRow = 9
number_of NotATree = 10
number_of ShortBuffer = 11
number_of NoTree = 12
number_of NotMinimal = 13
number_of UnknownState = 14
number_of BrokenState = 15
number_of WrongLine = 16
number_of WrongEdgeCount = 17
number_of OtherFrame = 18
number_of TooManyRows = 19
number_of NotAdded = 22
number_of FullHalf = 24
number_of TooManyTrees = 25
number_of NotIndexed = 26

-- an answer says what f makes of the value, and a refusal has its number
abbrev pub outcome_of : {A B : Type 0} → (A → B) → Result A Refusal → Outcome B
outcome_of f (Ok a) = answered (f a)
outcome_of f (Err e) = refused (number_of e)
