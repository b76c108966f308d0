-- A reader with a cursor reads the text as edge_file's specs/Text.antt defines it: line by line (`lines_next`, `lines_end`, `lines_stray`), a line by its
-- first bytes (`line_by_lem`), a number held at a cap (`capped_value`).
use mathlib.Core.Path.{◌∙◌, ◌≡◌, ap, ap₂, refl, subst, sym}
use mathlib.Core.Logic.{⊎_elim}
use mathlib.Core.Bool.{Bool}
use mathlib.Core.Option.{Option, none, some}
use mathlib.Core.List.Memᴰ.{cases_cons as mem_cases}
use mathlib.Core.List.Memᴰ.{not-nil as mem_nil}
use mathlib.Core.List.{List, [], ◌++◌, ◌∷◌, cons≢nil, head-eq_of_cons-eq, tail-eq_of_cons-eq}
use Prim.Native.Nat.{◌*◌, ◌+◌, ◌-◌, min, ℕ}
use native.Mathlib.Decide.{ℕ_discrete, dec_lt}
use native.Mathlib.Omega.{arith}
use lib.Dec.{T, eqb, eqb→eq}
use lib.ListN.{drop, length}
use Rattle.lists.specs.Lists.{all, both, member, pick, same}
use Rattle.lists.proofs.Members.{◌∈◌, all_out, member_in, member_out, same_out}
use Rattle.lists.proofs.Tests.{T-both, T_false, T_true, decide, eq→eqb}
use Rattle.edge_file.specs.Decimal.{is_digit, leads, number_of, value_from}
use Rattle.edge_lines.specs.Reading.{before, behind, cap, capped_from, line_by, starts, two_by}
use Rattle.edge_file.specs.Text.{Line, comment, edge_of, form_of, is_comment, line_feed, line_of, lines_in, lines_of, other, parts_by, problem_of, space, word_e, word_edge, word_p}
use Rattle.edge_file.proofs.Text.{parts_first, parts_last, parts_some}

-- Before and behind

module _ (s : ℕ) where
  -- where there is an s, the bytes are what stands before it, and behind it
  pub split : (l : List ℕ) → s ∈ l → (l ≡ before s l ++ (s ∷ behind s l)) × (¬ (s ∈ before s l))
  unfolding before behind
  split [] m = absurd (mem_nil m)
  split (b ∷ l) m = elim (ℕ_discrete b s) [
    | yes e ↦ rw ((T_true (eqb b s)).0 (eq→eqb b s e)) (ap (λ (x : ℕ). x ∷ l) e, mem_nil)
    | no n ↦ rw ((T_false (eqb b s)).0 (λ t. n (eqb→eq b s t)))
        (let (e, f) = split l (⊎_elim (λ q. absurd (n (sym q))) (λ i. i) (mem_cases m)) in
        (ap (λ (x : List ℕ). b ∷ x) e, λ i. ⊎_elim (λ q. n (sym q)) f (mem_cases i)))
  ]

  -- the first part, and the others
  parts_next : (l : List ℕ) → s ∈ l → parts_by s l ≡ before s l ∷ parts_by s (behind s l)
  parts_next l m = let (e, n) = split l m in ap (parts_by s) e ∙ parts_first s (before s l) (behind s l) n

  -- two parts or more: the bytes are the first, an s, and what has the others
  parts_join : (l p q : List ℕ) (ps : List (List ℕ)) → parts_by s l ≡ p ∷ q ∷ ps → (rest : List ℕ) × (l ≡ p ++ (s ∷ rest)) × (parts_by s rest ≡ q ∷ ps)
  parts_join l p q ps e = ⊎_elim
      (λ (t : T (member s l)).
      let m = member_out s l t in
      let f = sym (parts_next l m) ∙ e in
      (behind s l, (split l m).0 ∙ ap (λ (x : List ℕ). x ++ (s ∷ behind s l)) (head-eq_of_cons-eq f), tail-eq_of_cons-eq f))
      (λ (n : ¬ T (member s l)). absurd (cons≢nil (sym (tail-eq_of_cons-eq (sym (parts_last s l (λ m. n (member_in m))) ∙ e)))))
      (decide (member s l))

-- Lines

pub lines_end : lines_of [] ≡ []
unfolding lines_of lines_in parts_by
lines_end = refl

pub lines_next : (l : List ℕ) → line_feed ∈ l → lines_of l ≡ line_of (before line_feed l) ∷ lines_of (behind line_feed l)
unfolding lines_of lines_in
lines_next l m =
    let (q, ps, e) = parts_some line_feed (behind line_feed l) in
    ap lines_in (parts_next line_feed l m ∙ ap (λ (x : List (List ℕ)). before line_feed l ∷ x) e)
    ∙ ap (λ (x : List Line). line_of (before line_feed l) ∷ x) (ap lines_in (sym e))

pub lines_stray : (b : ℕ) (l : List ℕ) → ¬ (line_feed ∈ b ∷ l) → lines_of (b ∷ l) ≡ other ∷ []
unfolding lines_of lines_in
lines_stray b l n = ap lines_in (parts_last line_feed (b ∷ l) n)

-- A line by its first bytes

starts_in : (xs rest : List ℕ) → T (starts xs (xs ++ rest))
unfolding starts
starts_in [] rest = tt
starts_in (x ∷ xs) rest = (T-both (eqb x x) (starts xs (xs ++ rest))).1 (eq→eqb x x refl, starts_in xs rest)

starts_out : (xs bytes : List ℕ) → T (starts xs bytes) → bytes ≡ xs ++ drop (length xs) bytes
unfolding starts
starts_out [] bytes t = refl
starts_out (x ∷ xs) [] t = absurd t
starts_out (x ∷ xs) (b ∷ bytes) t =
    let (e, r) = (T-both (eqb b x) (starts xs bytes)).0 t in
    ap₂ {C = List ℕ} (λ a l. a ∷ l) (eqb→eq b x e) (starts_out xs bytes r)

-- what holds a space is no number
number_space : (l : List ℕ) → space ∈ l → number_of l ≡ none
unfolding number_of
number_space l m =
    rw ((T_false (both (all is_digit l) (leads l))).0 (λ t. all_out is_digit ((T-both (all is_digit l) (leads l)).0 t).0 m))

edge_none : (o : Option ℕ) → edge_of o none ≡ other
edge_none none = refl
edge_none (some u) = refl

problem_none : (o : Option ℕ) → problem_of o none ≡ other
problem_none none = refl
problem_none (some n) = refl

-- the parts of two numbers: one part, two, or more
module _ (form : Option ℕ → Option ℕ → Line) (form_none : (o : Option ℕ) → form o none ≡ other) (by : List (List ℕ) → Line)
    (one : (p : List ℕ) → by (p ∷ []) ≡ other) (two : (p q : List ℕ) → by (p ∷ q ∷ []) ≡ form (number_of p) (number_of q))
    (more : (p q r : List ℕ) (ps : List (List ℕ)) → by (p ∷ q ∷ r ∷ ps) ≡ other) where
  two_by_lem : (rest : List ℕ) → by (parts_by space rest) ≡ two_by form rest
  two_by_lem rest = ⊎_elim
      (λ (t : T (member space rest)).
      let m = member_out space rest t in
      ap by (parts_next space rest m) ∙ second (behind space rest)
      ∙ sym (ap (λ (b : Bool). pick b (form (number_of (before space rest)) (number_of (behind space rest))) other) ((T_true (member space rest)).0 t)))
      (λ (n : ¬ T (member space rest)).
      ap by (parts_last space rest (λ m. n (member_in m))) ∙ one rest
      ∙ sym (ap (λ (b : Bool). pick b (form (number_of (before space rest)) (number_of (behind space rest))) other) ((T_false (member space rest)).0 n)))
      (decide (member space rest))
    where
      first : List ℕ
      first = before space rest

      second : (l : List ℕ) → by (first ∷ parts_by space l) ≡ form (number_of first) (number_of l)
      second l = ⊎_elim
          (λ (t : T (member space l)).
          let m = member_out space l t in
          let (q, ps, e) = parts_some space (behind space l) in
          ap (λ (x : List (List ℕ)). by (first ∷ x)) (parts_next space l m ∙ ap (λ (x : List (List ℕ)). before space l ∷ x) e) ∙ more first (before space l) q ps
          ∙ sym (ap (form (number_of first)) (number_space l m) ∙ form_none (number_of first)))
          (λ (n : ¬ T (member space l)). ap (λ (x : List (List ℕ)). by (first ∷ x)) (parts_last space l (λ m. n (member_in m))) ∙ two first l)
          (decide (member space l))

edge_by : (rest : List ℕ) → form_of (word_e ∷ parts_by space rest) ≡ two_by edge_of rest
unfolding form_of same
edge_by = two_by_lem edge_of edge_none (λ ps. form_of (word_e ∷ ps)) (λ p. refl) (λ p q. refl) more
  where
    more : (p q r : List ℕ) (ps : List (List ℕ)) → form_of (word_e ∷ p ∷ q ∷ r ∷ ps) ≡ other
    more p q r [] = refl
    more p q r (s ∷ ps) = refl

problem_by : (rest : List ℕ) → form_of (word_p ∷ word_edge ∷ parts_by space rest) ≡ two_by problem_of rest
unfolding form_of same
problem_by = two_by_lem problem_of problem_none (λ ps. form_of (word_p ∷ word_edge ∷ ps)) (λ p. refl) (λ p q. refl) (λ p q r ps. refl)

abbrev start_e : List ℕ
start_e = 101 ∷ 32 ∷ []

abbrev start_p : List ℕ
start_p = 112 ∷ 32 ∷ 101 ∷ 100 ∷ 103 ∷ 101 ∷ 32 ∷ []

-- a line that begins with neither is of no form
neither : (bytes : List ℕ) → ¬ T (starts start_e bytes) → ¬ T (starts start_p bytes) → form_of (parts_by space bytes) ≡ other
unfolding form_of
neither bytes ne np = go (parts_by space bytes) refl
  where
    no_e : (w u : List ℕ) (ps : List (List ℕ)) → parts_by space bytes ≡ w ∷ u ∷ ps → ¬ T (same w word_e)
    no_e w u ps e t =
        let (rest, q, _) = parts_join space bytes w u ps e in
        ne (subst (λ (l : List ℕ). T (starts start_e l)) (sym (q ∙ ap (λ (x : List ℕ). x ++ (space ∷ rest)) (same_out w word_e t))) (starts_in start_e rest))

    no_p : (w x n : List ℕ) (ps : List (List ℕ)) → parts_by space bytes ≡ w ∷ x ∷ n ∷ ps → ¬ T (both (same w word_p) (same x word_edge))
    no_p w x n ps e t =
        let (tw, tx) = (T-both (same w word_p) (same x word_edge)).0 t in
        let (rest, q, f) = parts_join space bytes w x (n ∷ ps) e in
        let (rest', q', _) = parts_join space rest x n ps f in
        np (subst (λ (l : List ℕ). T (starts start_p l))
        (sym (q ∙ ap₂ {C = List ℕ} (λ a b. a ++ (space ∷ b)) (same_out w word_p tw) (q' ∙ ap (λ (a : List ℕ). a ++ (space ∷ rest')) (same_out x word_edge tx)))) (starts_in start_p rest'))

    go : (ps : List (List ℕ)) → parts_by space bytes ≡ ps → form_of ps ≡ other
    go [] e = refl
    go (w ∷ []) e = refl
    go (w ∷ u ∷ []) e = refl
    go (w ∷ u ∷ v ∷ []) e = ap (λ (b : Bool). pick b (edge_of (number_of u) (number_of v)) other) ((T_false (same w word_e)).0 (no_e w u (v ∷ []) e))
    go (w ∷ x ∷ n ∷ m ∷ []) e = ap (λ (b : Bool). pick b (problem_of (number_of n) (number_of m)) other) ((T_false (both (same w word_p) (same x word_edge))).0 (no_p w x n (m ∷ []) e))
    go (w ∷ x ∷ y ∷ z ∷ t ∷ ts) e = refl

form_by : (bytes : List ℕ) → form_of (parts_by space bytes)
    ≡ pick (starts start_e bytes) (two_by edge_of (drop 2 bytes)) (pick (starts start_p bytes) (two_by problem_of (drop 7 bytes)) other)
unfolding parts_by
form_by bytes = ⊎_elim
    (λ (t : T (starts start_e bytes)).
    ap (λ (l : List ℕ). form_of (parts_by space l)) (starts_out start_e bytes t) ∙ edge_by (drop 2 bytes)
    ∙ sym (ap (λ (b : Bool). pick b (two_by edge_of (drop 2 bytes)) (pick (starts start_p bytes) (two_by problem_of (drop 7 bytes)) other)) ((T_true (starts start_e bytes)).0 t)))
    (λ (n : ¬ T (starts start_e bytes)). ⊎_elim
    (λ (t : T (starts start_p bytes)).
    ap (λ (l : List ℕ). form_of (parts_by space l)) (starts_out start_p bytes t) ∙ problem_by (drop 7 bytes)
    ∙ sym (ap₂ (λ (b c : Bool). pick b (two_by edge_of (drop 2 bytes)) (pick c (two_by problem_of (drop 7 bytes)) other)) ((T_false (starts start_e bytes)).0 n) ((T_true (starts start_p bytes)).0 t)))
    (λ (m : ¬ T (starts start_p bytes)).
    neither bytes n m
    ∙ sym (ap₂ (λ (b c : Bool). pick b (two_by edge_of (drop 2 bytes)) (pick c (two_by problem_of (drop 7 bytes)) other)) ((T_false (starts start_e bytes)).0 n) ((T_false (starts start_p bytes)).0 m)))
    (decide (starts start_p bytes)))
    (decide (starts start_e bytes))

-- LINE: by its first bytes
pub line_by_lem : (bytes : List ℕ) → line_of bytes ≡ line_by bytes
unfolding line_of line_by
line_by_lem bytes = ap (pick (is_comment bytes) comment) (form_by bytes)

-- Numbers held at a cap

-- below the cap the value is the number's, and at it the number is not below it
capped_next : (high d : ℕ) → min cap (min cap high * 10 + d) ≡ min cap (high * 10 + d)
capped_next high d = elim (dec_lt high cap) [
  | yes l ↦ let e : min cap high ≡ high = omega arith in rw e
  | no l ↦ let e : min cap high ≡ cap = omega arith in rw e (omega arith)
]

pub capped_value : (high : ℕ) (ds : List ℕ) → capped_from (min cap high) ds ≡ min cap (value_from high ds)
unfolding capped_from value_from
capped_value high [] = refl
capped_value high (d ∷ ds) = ap (λ (x : ℕ). capped_from x ds) (capped_next high (d - 48)) ∙ capped_value (high * 10 + (d - 48)) ds
