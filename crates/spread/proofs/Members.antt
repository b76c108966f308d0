-- The spread member by member: what is in so far (`word`) and which members have not brought in their neighbours yet (`left`). A turn keeps `Spreading` (`turn`) and
-- falls (`falls`), and where no member is left the word is the whole spread (`all_in`).
use mathlib.Core.Path.{◌≡◌, refl, subst, sym}
use mathlib.Core.Logic.{◌⊎◌, inl, inr, ⊎_elim}
use mathlib.Core.Bool.{not}
use mathlib.Core.List.{List}
use Prim.Native.Nat.{◌*◌, ◌+◌, ◌-◌, ◌<◌, ◌^◌, ◌≤◌, suc, ℕ}
use native.Mathlib.Decide.{dec_lt, ℕ_discrete}
use native.Mathlib.Nat.{mul-le-mul_right, suc-mul}
use native.Mathlib.Omega.{arith}
use lib.Bits.{and_le_r, bit_or, or_lt, or_zero_r}
use lib.Dec.{T, T_not, eqb, ltb, not_T}
use lib.ListN.{get_or}
use borrow.Author.Tests.{le-ltb, ne_eqb}
use Rattle.lists.proofs.Tests.{T-both, T-either, T-same, decide, eq→eqb, not_ltb→le, pick_elim}
use Rattle.words.specs.Words.{bit, has, lowest, minus}
use Rattle.words.proofs.Words.{bit_in, bit_out, has_beyond, has_minus, has_or, has_zero, lowest_in, or_le, words_below, words_same}
use Rattle.spread.specs.Spread.{brought_by, open_at, spread_of}
use Rattle.spread.proofs.Spreads.{open_in_lem, open_out, spread_closed, spread_least, spread_start}

-- members of a word of 64 bits, and of one word or another
member_low : (w v : ℕ) → w < 2 ^ 64 → T (has w v) → v < 64
member_low w v h t = elim (dec_lt v 64) [ yes l ↦ l | no n ↦ absurd (rw (has_beyond 64 w v h (omega arith)) at t) ]

or_out : (a b v : ℕ) → T (has (bit_or a b) v) → T (has a v) ⊎ T (has b v)
or_out a b v t = (T-either (has a v) (has b v)).0 (rw has_or at t)

or_in : (a b v : ℕ) → T (has a v) ⊎ T (has b v) → T (has (bit_or a b) v)
or_in a b v t = rw has_or ((T-either (has a v) (has b v)).1 t)

-- where the first of two numbers below m grows, the second may be any
lex_less : (m w more l left : ℕ) → w < more → more < m → left < m → (m - more) * m + left < (m - w) * m + l
lex_less m w more l left h k b =
    let le : suc (m - more) ≤ m - w = omega arith in
    omega (arith, mul-le-mul_right m le, suc-mul (m - more) m)

-- what stands of both words at each turn
pub record Spreading (nb : List ℕ) (limit fresh seeds word left : ℕ) : Type 0 where
  pub small : word < 2 ^ 64
  pub left_small : left < 2 ^ 64
  pub begun : (v : ℕ) → T (has seeds v) → T (has word v)
  pub reached : (v : ℕ) → T (has word v) → T (has (spread_of nb limit fresh seeds) v)
  pub inside : (v : ℕ) → T (has left v) → T (has word v)
  pub closed : (u v : ℕ) → 1 ≤ u → u ≤ limit → T (has word u) → ¬ T (has left u) → T (has (get_or nb u 0) v) → T (has fresh v) → T (has word v)

module _ (nb : List ℕ) (limit fresh seeds : ℕ) (room : fresh < 2 ^ 64) (fits : seeds < 2 ^ 64) where
  pub spread_begins : Spreading nb limit fresh seeds seeds seeds
  spread_begins = record {
    small = fits;
    left_small = fits;
    begun = λ v t. t;
    reached = λ v t. spread_start nb fresh limit seeds v t;
    inside = λ v t. t;
    closed = λ u v p q t n a b. absurd (n t);
  }

  pub all_in : {word left : ℕ} → Spreading nb limit fresh seeds word left → left ≡ 0 → word ≡ spread_of nb limit fresh seeds
  all_in {word} s e = words_same word (spread_of nb limit fresh seeds) (λ v. T-same _ _ (s.reached v)
      (λ t. spread_least nb fresh limit (λ v. T (has word v))
      (λ u v p q m a b. s.closed u v p q m (λ x. absurd (rw (e, has_zero) at x)) a b) seeds s.begun v t))

  -- one member brings in its neighbours

  module _ {word left u brought more : ℕ} (s : Spreading nb limit fresh seeds word left) (some : ¬ (left ≡ 0)) (lowest_is : u ≡ lowest left) (open_is : brought ≡ brought_by nb limit fresh u)
      (more_is : more ≡ minus brought word) where
    member : T (has left u)
    member = rw lowest_is (lowest_in left (omega arith) s.left_small)

    -- a number from 1 to the limit, and its open neighbours
    by_node : (P : ℕ → Type 0) → P 0 → (1 ≤ u → u ≤ limit → P (open_at nb fresh u)) → P brought
    unfolding brought_by
    by_node P none some = subst P (sym open_is) (pick_elim P (eqb u 0) (λ t. none)
        (λ n. pick_elim P (ltb limit u) (λ t. none) (λ m. some (above (λ e. n (eq→eqb u 0 e))) (not_ltb→le limit u m))))
      where
        above : ¬ (u ≡ 0) → 1 ≤ u
        above n = omega arith

    brought_out : (v : ℕ) → T (has brought v) → (1 ≤ u) × (u ≤ limit) × T (has (get_or nb u 0) v) × T (has fresh v)
    brought_out v = by_node (λ w. T (has w v) → (1 ≤ u) × (u ≤ limit) × T (has (get_or nb u 0) v) × T (has fresh v))
        (λ t. absurd (rw has_zero at t)) (λ p q t. let (a, b) = open_out nb fresh u v t in (p, q, a, b))

    brought_in : (v : ℕ) → 1 ≤ u → u ≤ limit → T (has (get_or nb u 0) v) → T (has fresh v) → T (has brought v)
    unfolding brought_by
    brought_in v p q a b = rw (open_is, ne_eqb u 0 (λ e. omega arith), le-ltb limit u q) (open_in_lem nb fresh u v a b)

    brought_small : brought < 2 ^ 64
    unfolding open_at
    brought_small = by_node (λ w. w < 2 ^ 64) (omega arith) (λ p q. omega (arith, and_le_r (get_or nb u 0) fresh))

    more_out : (v : ℕ) → T (has more v) → T (has brought v) × (¬ T (has word v))
    more_out v t = let (a, b) = (T-both (has brought v) (not (has word v))).0 (rw (more_is, has_minus) at t) in (a, T_not (has word v) b)

    more_small : more < 2 ^ 64
    more_small = words_below 64 more (λ v t. member_low brought v brought_small (more_out v t).0)

    abbrev rest : ℕ
    rest = minus left (bit u)

    rest_out : (v : ℕ) → T (has rest v) → T (has left v) × (¬ (u ≡ v))
    rest_out v t =
        let (a, b) = (T-both (has left v) (not (has (bit u) v))).0 (rw has_minus at t) in
        (a, λ e. T_not (has (bit u) v) b (bit_in u v (member_low left v s.left_small a) e))

    rest_in : (v : ℕ) → T (has left v) → ¬ (u ≡ v) → T (has rest v)
    rest_in v t n = rw has_minus ((T-both (has left v) (not (has (bit u) v))).1 (t, not_T (has (bit u) v) (λ x. n (bit_out u v x))))

    rest_small : rest < 2 ^ 64
    rest_small = words_below 64 rest (λ v t. member_low left v s.left_small (rest_out v t).0)

    pub turn : Spreading nb limit fresh seeds (bit_or word more) (bit_or (minus left (bit u)) more)
    turn = record {
      small = or_lt 64 word more s.small more_small;
      left_small = or_lt 64 rest more rest_small more_small;
      begun = λ v t. or_in word more v (inl (s.begun v t));
      reached = λ v t. ⊎_elim (s.reached v) (λ m. let (p, q, a, b) = brought_out v (more_out v m).0 in
          spread_closed nb fresh limit seeds u v room fits p q (s.reached u (s.inside u member)) a b) (or_out word more v t);
      inside = λ v t. or_in word more v (⊎_elim (λ r. inl (s.inside v (rest_out v r).0)) inr (or_out rest more v t));
      closed = λ w v p q t n a b. ⊎_elim (old w v p q n a b) (λ m. absurd (n (or_in rest more w (inr m)))) (or_out word more w t);
    }
      where
        new : (v : ℕ) → T (has brought v) → T (has (bit_or word more) v)
        new v t = or_in word more v (⊎_elim inl (λ n. inr (rw (more_is, has_minus) ((T-both (has brought v) (not (has word v))).1 (t, not_T (has word v) n)))) (decide (has word v)))

        old : (w v : ℕ) → 1 ≤ w → w ≤ limit → ¬ T (has (bit_or rest more) w) → T (has (get_or nb w 0) v) → T (has fresh v) → T (has word w) → T (has (bit_or word more) v)
        old w v p q n a b t = elim (ℕ_discrete u w) [
          | yes e ↦ new v (brought_in v (rw e p) (rw e q) (rw e a) b)
          | no d ↦ or_in word more v (inl (s.closed w v p q t (λ l. n (or_in rest more w (inl (rest_in w l d)))) a b))
        ]

    -- the word grows, or a member less is left
    pub falls : (2 ^ 64 - bit_or word more) * 2 ^ 64 + bit_or (minus left (bit u)) more < (2 ^ 64 - word) * 2 ^ 64 + left
    falls = elim (ℕ_discrete more 0) [
      | yes e ↦ rw (e, or_zero_r, or_zero_r) (omega (arith, rest_less))
      | no n ↦ lex_less (2 ^ 64) word (bit_or word more) left (bit_or rest more) (grows n) (or_lt 64 word more s.small more_small) (or_lt 64 rest more rest_small more_small)
    ]
      where
        whole : bit_or rest (bit u) ≡ left
        whole = words_same (bit_or rest (bit u)) left (λ v. T-same _ _
            (λ t. ⊎_elim (λ r. (rest_out v r).0) (λ b. subst (λ (x : ℕ). T (has left x)) (bit_out u v b) member) (or_out rest (bit u) v t))
            (λ t. or_in rest (bit u) v (elim (ℕ_discrete u v) [ yes e ↦ inr (bit_in u v (member_low left v s.left_small t) e) | no d ↦ inl (rest_in v t d) ])))

        rest_less : rest < left
        rest_less =
            let le = or_le rest (bit u) in
            let apart : ¬ (rest ≡ left) = λ e. (rest_out u (subst (λ (w : ℕ). T (has w u)) (sym e) member)).1 refl in
            omega (arith, whole)

        grows : ¬ (more ≡ 0) → word < bit_or word more
        grows n =
            let some_more = lowest_in more (omega arith) more_small in
            let le = or_le word more in
            let apart : ¬ (bit_or word more ≡ word) = λ e. (more_out (lowest more) some_more).1 (subst (λ (w : ℕ). T (has w (lowest more))) e (or_in word more (lowest more) (inr some_more))) in
            omega arith
