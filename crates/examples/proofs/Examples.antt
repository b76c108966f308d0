-- All examples of the table are right (`table_right`): antt computes each.
use mathlib.Core.Path.{refl}
use Rattle.lists.specs.Lists.{all, filter_b, first, insert, largest, member, range, same, sequences, sort, sum}
use Rattle.graph.specs.Graph.{is_tree}
use Rattle.graph.specs.Paths.{ascending, is_minimal, keys_less, place_of, step_of, steps_from, trees}
use Rattle.costs.specs.Costs.{cost_of, front_of, none_larger, once, some_smaller, streets_of, vector_less}
use Rattle.counts.specs.Trees.{count_rows, tree_count, whole}
use Rattle.pages.specs.Pages.{behind, flat, pieces, run}
use Rattle.tables.specs.Tables.{passes}
use Rattle.examples.specs.Examples.{AllRight, table}

pub table_right : AllRight table
unfolding all filter_b first insert sort range member sum largest sequences same is_tree place_of step_of steps_from ascending is_minimal keys_less trees
    streets_of cost_of none_larger some_smaller vector_less once front_of behind flat pieces run passes whole count_rows tree_count
table_right = (refl, (refl, (refl, (refl, (refl, (refl, (refl, (refl, (refl, (refl, (refl, (refl, (refl, (refl, (refl, (refl, (refl, (refl, (refl, (refl, tt))))))))))))))))))))
