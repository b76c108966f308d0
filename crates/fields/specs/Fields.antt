-- What the code's sizes, states and rows say in document 01's terms.
use Rattle.std.proofs.Math.Option.{none, some}
use Rattle.std.specs.Prelude.{List, MatchResult, Result, ◌≡◌, ℕ}
use Rattle.costs.specs.Network as net
use Rattle.network_file.specs.File.{Sizes, kind_of, state_of}
use Rattle.fields.specs.declared.Header.{Header}
use Rattle.fields.specs.declared.Kind.{Kind}
use Rattle.fields.specs.declared.Kind.TheVariants.{Added, Closing, Worst}
use Rattle.fields.specs.declared.Row.{Row}
use Rattle.fields.specs.declared.State.{State}
use Rattle.fields.specs.declared.State.TheVariants.{Barred, Must, Open}
use Rattle.fields.specs.declared.UnknownKind.{UnknownKind}
use Rattle.fields.specs.declared.UnknownState.{UnknownState}

abbrev pub sizes_in : Header → Sizes
sizes_in h = record { n = h.n; m = h.m; k = h.k }

abbrev pub kind_in : Kind → net.Kind
kind_in Added = net.added
kind_in Worst = net.worst
kind_in Closing = net.closing

-- a byte as a kind: the one that it names, or an error with this byte, which names none
abbrev pub NamesKind : ℕ → Result Kind UnknownKind → Type 0
NamesKind byte r = MatchResult r (λ kind. kind_of byte ≡ some (kind_in kind)) (λ e. (kind_of byte ≡ none) × (e.0 ≡ byte))

abbrev pub state_in : State → net.State
state_in Open = net.«open»
state_in Must = net.must
state_in Barred = net.barred

-- a byte as a state: the one that it names, or an error with this byte, which names none
abbrev pub NamesState : ℕ → Result State UnknownState → Type 0
NamesState byte r = MatchResult r (λ state. state_of byte ≡ some (state_in state)) (λ e. (state_of byte ≡ none) × (e.0 ≡ byte))

-- a row by value, with the costs that it leaves out
abbrev pub row_with : Row → List ℕ → net.Row
row_with row costs = record { first_end = row.first; second_end = row.second; street = row.street; state = state_in row.state; costs = costs }
