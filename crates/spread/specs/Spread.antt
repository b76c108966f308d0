-- The computation of what a growing path still reaches, with sets as words (crate words); `nb` are the neighbours of each node.
use Rattle.std.specs.Prelude.{List, ◌-◌, ◌^◌, suc, zero, ℕ, eqb, ltb, get_or, length}
use Rattle.std.specs.Int.Bits.{bit_and, bit_or}
use Rattle.lists.specs.Lists.{pick}
use Rattle.words.specs.Words.{above, has}

-- The nodes that a legal step enters: from the node at the bound's place those above the bound's node, from later places all.

unfoldable pub open_at : List ℕ → ℕ → ℕ → ℕ
open_at nb fresh u = bit_and (get_or nb u 0) fresh

-- from the nodes at k places, the first of them place i
unfoldable pub open_from : List ℕ → ℕ → List ℕ → ℕ → ℕ → ℕ
unfolding open_at
open_from nb fresh entered zero i = 0
open_from nb fresh entered (suc k) i = bit_or (open_at nb fresh (get_or entered i 0)) (open_from nb fresh entered k (suc i))

unfoldable pub seeds_of : List ℕ → ℕ → List ℕ → ℕ → ℕ → ℕ
unfolding open_from above
seeds_of nb fresh entered place node = pick (ltb place (length entered))
    (bit_or (above (open_at nb fresh (get_or entered place 0)) node) (open_from nb fresh entered (length entered - suc place) (suc place)))
    0

-- Spread

-- a member brings in its neighbours that are open
unfoldable pub bring : List ℕ → ℕ → ℕ → ℕ → ℕ
unfolding open_at has
bring nb fresh word u = pick (has word u) (bit_or word (open_at nb fresh u)) word

-- k members, one after the other, the first of them u
unfoldable pub sweep_from : List ℕ → ℕ → ℕ → ℕ → ℕ → ℕ
unfolding bring
sweep_from nb fresh zero u word = word
sweep_from nb fresh (suc k) u word = sweep_from nb fresh k (suc u) (bring nb fresh word u)

-- the nodes from 1 to the limit
unfoldable pub sweep_of : List ℕ → ℕ → ℕ → ℕ → ℕ
unfolding sweep_from
sweep_of nb limit fresh word = sweep_from nb fresh limit 1 word

-- sweeps until nothing new comes in, at most k
unfoldable pub spread_up_to : ℕ → List ℕ → ℕ → ℕ → ℕ → ℕ
unfolding sweep_of
spread_up_to zero nb limit fresh word = word
spread_up_to (suc k) nb limit fresh word =
    let next = sweep_of nb limit fresh word in
    let more = spread_up_to k nb limit fresh next in
    pick (eqb next word) word more

-- a word of 64 bits that grows with each sweep grows fewer than 2 ^ 64 - word times
unfoldable pub spread_of : List ℕ → ℕ → ℕ → ℕ → ℕ
unfolding spread_up_to
spread_of nb limit fresh word = spread_up_to (2 ^ 64 - word) nb limit fresh word

-- what a member brings in, one by one: a number from 1 to the limit its open neighbours, any other nothing
unfoldable pub brought_by : List ℕ → ℕ → ℕ → ℕ → ℕ
unfolding open_at
brought_by nb limit fresh u = pick (eqb u 0) 0 (pick (ltb limit u) 0 (open_at nb fresh u))
