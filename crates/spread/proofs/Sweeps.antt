-- What a turn of each loop does to what is computed: the words only grow, stay below 2 ^ 64, and sweeps end.
use mathlib.Core.Path.{◌∙◌, ◌≡◌, ap, sym}
use mathlib.Core.List.{List}
use Prim.Native.Nat.{◌+◌, ◌-◌, ◌<◌, ◌^◌, ◌≤◌, suc, zero, ℕ}
use native.Mathlib.Numerals.{add-one}
use native.Mathlib.Omega.{arith}
use lib.Bits.{and_le_r, bit_and, bit_or, or_lt, or_zero_r}
use lib.Dec.{eqb, eqb→eq}
use lib.ListN.{get_or, length}
use borrow.Author.Tests.{le-ltb, lt-ltb}
use Rattle.lists.proofs.Tests.{eq→eqb, pick_elim}
use Rattle.words.specs.Words.{above, has}
use Rattle.words.proofs.Words.{or_assoc, or_le}
use Rattle.spread.specs.Spread.{bring, open_at, open_from, seeds_of, spread_of, spread_up_to, sweep_from, sweep_of}

module _ (nb : List ℕ) (fresh : ℕ) where
  -- The seeds

  module _ (entered : List ℕ) where
    pub seeds_none : (place node : ℕ) → length entered ≤ place → 0 ≡ seeds_of nb fresh entered place node
    unfolding seeds_of
    seeds_none place node h = simp (le-ltb place (length entered) h)

    pub seeds_start : (place node i : ℕ) → place < length entered → i ≡ place + 1
        → seeds_of nb fresh entered place node
        ≡ bit_or (above (open_at nb fresh (get_or entered place 0)) node) (open_from nb fresh entered (length entered - i) i)
    unfolding seeds_of
    seeds_start place node i h e = rw (e, add-one) (simp (lt-ltb place (length entered) h))

    pub seeds_more : (word i j : ℕ) → i < length entered → j ≡ i + 1
        → bit_or word (open_from nb fresh entered (length entered - i) i)
        ≡ bit_or (bit_or word (open_at nb fresh (get_or entered i 0))) (open_from nb fresh entered (length entered - j) j)
    unfolding open_from
    seeds_more word i j h d =
        let e : length entered - i ≡ suc (length entered - j) = omega arith in
        let f : suc i ≡ j = omega arith in
        ap (λ (k : ℕ). bit_or word (open_from nb fresh entered k i)) e
        ∙ sym (or_assoc word (open_at nb fresh (get_or entered i 0)) (open_from nb fresh entered (length entered - j) (suc i)))
        ∙ ap (λ (k : ℕ). bit_or (bit_or word (open_at nb fresh (get_or entered i 0))) (open_from nb fresh entered (length entered - j) k)) f

    pub seeds_end : (word i : ℕ) → length entered ≤ i → bit_or word (open_from nb fresh entered (length entered - i) i) ≡ word
    unfolding open_from
    seeds_end word i h =
        let e : length entered - i ≡ 0 = omega arith in
        ap (λ (k : ℕ). bit_or word (open_from nb fresh entered k i)) e ∙ or_zero_r word

  bring_le : (word u : ℕ) → word ≤ bring nb fresh word u
  unfolding bring
  bring_le word u = pick_elim (λ (w : ℕ). word ≤ w) (has word u) (λ t. or_le word (open_at nb fresh u)) (λ n. omega arith)

  sweep_le : (k u word : ℕ) → word ≤ sweep_from nb fresh k u word
  unfolding sweep_from
  sweep_le zero u word = omega arith
  sweep_le (suc k) u word = omega (arith, bring_le word u, sweep_le k (suc u) (bring nb fresh word u))

  module _ (room : fresh < 2 ^ 64) where
    bring_lt : (word u : ℕ) → word < 2 ^ 64 → bring nb fresh word u < 2 ^ 64
    unfolding bring open_at
    bring_lt word u h = pick_elim (λ (w : ℕ). w < 2 ^ 64) (has word u)
        (λ t. or_lt 64 word (bit_and (get_or nb u 0) fresh) h (omega (arith, and_le_r (get_or nb u 0) fresh))) (λ n. h)

    sweep_lt : (k u word : ℕ) → word < 2 ^ 64 → sweep_from nb fresh k u word < 2 ^ 64
    unfolding sweep_from
    sweep_lt zero u word h = h
    sweep_lt (suc k) u word h = sweep_lt k (suc u) (bring nb fresh word u) (bring_lt word u h)

    -- Sweeps

    module _ (limit : ℕ) where
      sweep_grows : (word : ℕ) → word < 2 ^ 64 → ¬ (sweep_of nb limit fresh word ≡ word)
          → (word < sweep_of nb limit fresh word) × (sweep_of nb limit fresh word < 2 ^ 64)
      unfolding sweep_of
      sweep_grows word h n =
          let le = sweep_le limit 1 word in
          (omega arith, sweep_lt limit 1 word h)

      -- where they end, another sweep brings in nothing
      up_fixed : (k word : ℕ) → word < 2 ^ 64 → 2 ^ 64 ≤ word + k → sweep_of nb limit fresh (spread_up_to k nb limit fresh word) ≡ spread_up_to k nb limit fresh word
      unfolding spread_up_to
      up_fixed zero word h a = absurd (omega arith)
      up_fixed (suc k) word h a =
          let next = sweep_of nb limit fresh word in
          pick_elim (λ (w : ℕ). sweep_of nb limit fresh w ≡ w) (eqb next word) (λ t. eqb→eq next word t)
          (λ n. let g = sweep_grows word h (λ e. n (eq→eqb next word e)) in up_fixed k next g.1 (omega arith))

      pub spread_fixed : (word : ℕ) → word < 2 ^ 64 → sweep_of nb limit fresh (spread_of nb limit fresh word) ≡ spread_of nb limit fresh word
      unfolding spread_of
      spread_fixed word h = up_fixed (2 ^ 64 - word) word h (omega arith)
