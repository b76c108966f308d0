-- All trials of the table are right (`trials_right`): antt computes each; and network A's rows in another sequence are a rearrangement of them (`shuffled_a_lem`).
use mathlib.Core.Path.{refl}
use lib.ListN.{drop}
use Rattle.lists.specs.Lists.{all, any, concat_map, distinct, filter_b, first, insert, largest, member, range, same, sequences, sort, sum}
use Rattle.graph.specs.Graph.{is_tree}
use Rattle.graph.specs.Paths.{ascending, is_minimal, keys_less, place_of, step_of, steps_from, trees}
use Rattle.checks.specs.Checks.{checked, ended, first_unmet}
use Rattle.costs.specs.Cases.{case_after}
use Rattle.costs.specs.Costs.{cost_of, front_of, front_trees, none_larger, once, some_smaller, streets_of, tree_with, vector_less}
use Rattle.network_file.specs.Bytes.{file_of}
use Rattle.network_file.specs.File.{file_checks, network_of, open_of}
use Rattle.network_file.specs.Frames.{same_frame}
use Rattle.operations.specs.Operations.{cost_call, cost_checks, drawn_checks, front_call, front_checks, front_over, order_call}
use Rattle.operations.specs.Operations.{order_checks, page_call, page_checks, reach_call, reached_nodes, start_checks, tree_checks, word_of}
use Rattle.pages.specs.Pages.{behind, capacity, flat, pieces}
use Rattle.table.specs.Enter.{beside, filled}
use Rattle.charges.specs.Charges.{borne_by, charge_call, charge_checks, charges_by}
use Rattle.counts.specs.Count.{count_call, count_checks}
use Rattle.counts.specs.Trees.{count_rows, tree_count, whole}
use Rattle.indexes.specs.Index.{entry_checks, every_from, fetch_call, fetch_checks, index_call, index_checks}
use Rattle.printout.specs.Text.{decimal_of, places_up_to}
use Rattle.edge_file.specs.Decimal.{leads, number_of, value_from}
use Rattle.edge_file.specs.Dimacs.{dimacs_call, edge_file, edges_call, edges_checks, text_call, text_checks, text_in}
use Rattle.edge_file.specs.Text.{edges_alone, edges_by, edges_in, edges_of, form_of, is_comment, line_of, lines_in, lines_of, parts_by, text_of}
use Rattle.offices.specs.Offices.{entry_of, office_call, office_checks, tables_fit}
use Rattle.surveys.specs.Surveys.{has_pair, survey_call, survey_checks, survey_file, survivors}
use Rattle.shuffles.specs.Shuffles.{Shuffled, part_parallel}
use Rattle.shuffles.proofs.Shuffles.{shuffled_by}
use Rattle.examples.specs.Trials.{AllRight, file_a, numbers_a, shuffled_a, table}

pub trials_right : AllRight table
unfolding all range filter_b first insert sort sequences same member sum largest place_of step_of steps_from ascending keys_less is_minimal is_tree trees streets_of cost_of none_larger
    some_smaller vector_less case_after once front_of tree_with front_trees behind flat capacity first_unmet checked ended network_of file_checks open_of reached_nodes word_of reach_call
    tree_checks drawn_checks start_checks order_checks order_call cost_checks cost_call page_checks page_call front_over front_checks front_call borne_by charges_by charge_checks charge_call
    any beside filled pieces entry_of tables_fit office_checks office_call whole count_rows tree_count count_checks count_call part_parallel every_from index_checks index_call
    entry_checks fetch_checks fetch_call leads value_from number_of parts_by form_of is_comment line_of lines_in lines_of edges_alone edges_in edges_by edges_of concat_map file_of edge_file
    edges_checks edges_call dimacs_call places_up_to decimal_of text_of text_in text_checks text_call same_frame has_pair survivors survey_file survey_checks survey_call
trials_right =
    let from_136 : AllRight (drop 136 table) = (refl, (refl, (refl, (refl, (refl, (refl, (refl, (refl, (refl, (refl, (refl, (refl, (refl, tt))))))))))))) in
    let from_119 : AllRight (drop 119 table) = (refl, (refl, (refl, (refl, (refl, (refl, (refl, (refl, (refl, (refl, (refl, (refl, (refl, (refl, (refl, (refl, (refl, from_136))))))))))))))))) in
    let from_102 : AllRight (drop 102 table) = (refl, (refl, (refl, (refl, (refl, (refl, (refl, (refl, (refl, (refl, (refl, (refl, (refl, (refl, (refl, (refl, (refl, from_119))))))))))))))))) in
    let from_85 : AllRight (drop 85 table) = (refl, (refl, (refl, (refl, (refl, (refl, (refl, (refl, (refl, (refl, (refl, (refl, (refl, (refl, (refl, (refl, (refl, from_102))))))))))))))))) in
    let from_68 : AllRight (drop 68 table) = (refl, (refl, (refl, (refl, (refl, (refl, (refl, (refl, (refl, (refl, (refl, (refl, (refl, (refl, (refl, (refl, (refl, from_85))))))))))))))))) in
    let from_51 : AllRight (drop 51 table) = (refl, (refl, (refl, (refl, (refl, (refl, (refl, (refl, (refl, (refl, (refl, (refl, (refl, (refl, (refl, (refl, (refl, from_68))))))))))))))))) in
    let from_34 : AllRight (drop 34 table) = (refl, (refl, (refl, (refl, (refl, (refl, (refl, (refl, (refl, (refl, (refl, (refl, (refl, (refl, (refl, (refl, (refl, from_51))))))))))))))))) in
    let from_17 : AllRight (drop 17 table) = (refl, (refl, (refl, (refl, (refl, (refl, (refl, (refl, (refl, (refl, (refl, (refl, (refl, (refl, (refl, (refl, (refl, from_34))))))))))))))))) in
    (refl, (refl, (refl, (refl, (refl, (refl, (refl, (refl, (refl, (refl, (refl, (refl, (refl, (refl, (refl, (refl, (refl, from_17)))))))))))))))))

pub shuffled_a_lem : Shuffled (network_of file_a) (network_of shuffled_a) numbers_a
unfolding all any distinct member network_of
shuffled_a_lem = shuffled_by (network_of file_a) (network_of shuffled_a) numbers_a refl refl refl tt tt refl
