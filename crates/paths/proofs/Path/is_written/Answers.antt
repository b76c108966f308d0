use mathlib.Core.Path.{◌∙◌, ap}
use mathlib.Core.List.{List}
use Prim.Native.Nat.{ℕ}
use borrow.Author.Rules.{rules}
use Rattle.std.specs.Cmp.Lexicographic.{pointwise}
use Rattle.std.specs.Prelude.{nat_eq}
use Rattle.paths.proofs.Laws.{path_rows, same_is}
use Rattle.paths.proofs.Path.is_written.Goals as goal

pub returns : goal.returns
returns c =
    c.eq.ensures
    ∙ ap (λ (l : List ℕ). pointwise nat_eq l c.args.rows.now) (path_rows c.args.self c.length-n.result c.length-n.ensures (search rules) (search rules) (search rules))
    ∙ same_is _ _
