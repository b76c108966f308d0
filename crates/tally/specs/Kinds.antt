-- Kinds as numbers: that of a kind, as a network file has it.
use Rattle.std.specs.Prelude.{List, map, ℕ}
use Rattle.fields.specs.Fields.{kind_in}
use Rattle.fields.specs.declared.Kind.{Kind}
use Rattle.network_file.specs.Bytes.{kind_number}

abbrev pub number_of : Kind → ℕ
number_of kind = kind_number (kind_in kind)

abbrev pub numbers_of : List Kind → List ℕ
numbers_of kinds = map number_of kinds
