-- What a turn of the loop over the entered nodes does to what is computed: the whole answer equals what the rest of the loop answers.
use mathlib.Core.Path.{◌≡◌}
use mathlib.Core.List.{List}
use Prim.Native.Nat.{◌+◌, ◌<◌, ◌≤◌, ℕ}
use native.Mathlib.Numerals.{add-one}
use lib.ListN.{drop, drop_of_length-le, get_or, length}
use lib.Seq.{drop-cons}
use Rattle.words.specs.Words.{bit, minus}
use Rattle.grow.specs.Grow.{fresh_after}

pub fresh_more : (word : ℕ) (l : List ℕ) (i : ℕ) → i < length l
    → fresh_after word (drop i l) ≡ fresh_after (minus word (bit (get_or l i 0))) (drop (i + 1) l)
unfolding fresh_after
fresh_more word l i h = rw (drop-cons l i 0 h, add-one)

pub fresh_over : (word : ℕ) (l : List ℕ) (i : ℕ) → length l ≤ i → fresh_after word (drop i l) ≡ word
unfolding fresh_after
fresh_over word l i h = rw (drop_of_length-le l h)
