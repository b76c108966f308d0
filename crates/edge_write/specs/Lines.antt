-- A line by its word and its two numbers, and the edge lines of a network's first rows, as the code comes to them one by one.
use Rattle.std.specs.Prelude.{List, [], ◌++◌, ◌∷◌, ℕ, take}
use Rattle.lists.specs.Lists.{concat_map}
use Rattle.costs.specs.Network.{Network}
use Rattle.printout.specs.Text.{decimal_of}
use Rattle.edge_file.specs.Text.{Ends, edge_line, with_feed}
use Rattle.edge_file.specs.Dimacs.{ends_of}

-- a word, two numbers, each behind a space, and a line feed
abbrev pub worded : List ℕ → ℕ → ℕ → List ℕ
worded word one two = ((word ++ (32 ∷ decimal_of one)) ++ (32 ∷ decimal_of two)) ++ (10 ∷ [])

unfoldable pub edge_lines : Network → ℕ → List ℕ
unfolding concat_map
edge_lines w r = concat_map (λ (e : Ends). with_feed (edge_line e)) (take r (ends_of w))
