-- Which rows stand: an older row exactly if its pair has no row in the newer (`survives_exactly`); of a pair with a row in the newer, the newer's rows
-- alone (`pair_newer`), of any other the older's (`pair_older`), each in their order. A survey over itself has its own rows (`over_itself`), one over an older
-- without rows the newer's (`over_nothing`), and one without rows over an older the older's (`nothing_over`). `survey_met` has what the checks ask. What is written
-- is a file that Open accepts, and it says these rows (`survey_accepted`); its length is `survey_long`.
use mathlib.Core.Path.{◌∙◌, ◌≡◌, ap, refl, subst, sym}
use mathlib.Core.Logic.{◌↔◌, ◌⊎◌, inl, inr, ⊎_elim}
use mathlib.Core.Bool.{Bool}
use mathlib.Core.Option.{none}
use mathlib.Core.List.Memᴰ.{append_cases}
use mathlib.Core.List.Memᴰ.{head as here}
use mathlib.Core.List.Memᴰ.{of_map as map_out}
use mathlib.Core.List.Memᴰ.{tail as there}
use mathlib.Core.List.{List, [], ◌++◌, ◌∷◌, append-nil}
use Prim.Native.Nat.{◌+◌, ◌*◌, ◌≤◌, ℕ}
use native.Mathlib.Omega.{arith}
use lib.Dec.{T, T_not, eqb, eqb→eq, leb, leb→le, le→leb, not_T}
use lib.ListN.{length}
use Rattle.lists.specs.Lists.{all, any, both, filter_b, range}
use Rattle.lists.proofs.Members.{◌∈◌, all_in, all_out, any_in, any_out, filter_append, filter_both, filter_in, filter_none, filter_out, filter_same, filter_whole}
use Rattle.lists.proofs.Tests.{T-both, T-either, T-same, T_true, eq→eqb}
use Rattle.checks.specs.Checks.{Check, first_unmet}
use Rattle.checks.proofs.Checks.{first_unmet_append, first_unmet_met, met_all}
use Rattle.checks.proofs.Ended.{unmet_parts}
use Rattle.costs.specs.Network.{Network, Row}
use Rattle.network_file.specs.File.{costs_met, costs_sound, ends_met, ends_sound, file_checks, network_of, row_in, sizes_of, within}
use Rattle.network_file.specs.Frames.{same_frame}
use Rattle.network_file.proofs.Accepted.{Accepted, accepted, row_costs}
use Rattle.network_file.proofs.Frames.{frame_exactly}
use Rattle.network_file.proofs.Bytes.{Limits, Sayable, file_long, file_met, file_network}
use Rattle.operations.specs.Operations.{check}
use Rattle.surveys.specs.Surveys.{has_pair, is_pair, stands, survivors, survey_checks, survey_file, survey_network}

-- Pairs

abbrev Joins : ℕ → ℕ → Row → Type 0
Joins u v r = ((r.first_end ≡ u) × (r.second_end ≡ v)) ⊎ ((r.first_end ≡ v) × (r.second_end ≡ u))

pair_out : (u v : ℕ) (r : Row) → T (is_pair u v r) → Joins u v r
pair_out u v r t = ⊎_elim
    (λ s. let (a, b) = (T-both (eqb r.first_end u) (eqb r.second_end v)).0 s in inl (eqb→eq r.first_end u a, eqb→eq r.second_end v b))
    (λ s. let (a, b) = (T-both (eqb r.first_end v) (eqb r.second_end u)).0 s in inr (eqb→eq r.first_end v a, eqb→eq r.second_end u b))
    ((T-either (both (eqb r.first_end u) (eqb r.second_end v)) (both (eqb r.first_end v) (eqb r.second_end u))).0 t)

pair_in : (u v : ℕ) (r : Row) → Joins u v r → T (is_pair u v r)
pair_in u v r h = (T-either (both (eqb r.first_end u) (eqb r.second_end v)) (both (eqb r.first_end v) (eqb r.second_end u))).1 (go h)
  where
    go : Joins u v r → T (both (eqb r.first_end u) (eqb r.second_end v)) ⊎ T (both (eqb r.first_end v) (eqb r.second_end u))
    go (inl (a, b)) = inl ((T-both (eqb r.first_end u) (eqb r.second_end v)).1 (eq→eqb r.first_end u a, eq→eqb r.second_end v b))
    go (inr (a, b)) = inr ((T-both (eqb r.first_end v) (eqb r.second_end u)).1 (eq→eqb r.first_end v a, eq→eqb r.second_end u b))

-- two rows of one pair are of each other's pair, and what is of the one's pair is of the pair
pair_same : (u v : ℕ) (r q : Row) → T (is_pair u v r) → T (is_pair u v q) → T (is_pair r.first_end r.second_end q)
pair_same u v r q s t = pair_in r.first_end r.second_end q (go (pair_out u v r s) (pair_out u v q t))
  where
    go : Joins u v r → Joins u v q → Joins r.first_end r.second_end q
    go (inl (a, b)) (inl (c, d)) = inl (c ∙ sym a, d ∙ sym b)
    go (inl (a, b)) (inr (c, d)) = inr (c ∙ sym b, d ∙ sym a)
    go (inr (a, b)) (inl (c, d)) = inr (c ∙ sym b, d ∙ sym a)
    go (inr (a, b)) (inr (c, d)) = inl (c ∙ sym a, d ∙ sym b)

pair_back : (u v : ℕ) (r q : Row) → T (is_pair u v r) → T (is_pair r.first_end r.second_end q) → T (is_pair u v q)
pair_back u v r q s t = pair_in u v q (go (pair_out u v r s) (pair_out r.first_end r.second_end q t))
  where
    go : Joins u v r → Joins r.first_end r.second_end q → Joins u v q
    go (inl (a, b)) (inl (c, d)) = inl (c ∙ a, d ∙ b)
    go (inl (a, b)) (inr (c, d)) = inr (c ∙ b, d ∙ a)
    go (inr (a, b)) (inl (c, d)) = inr (c ∙ a, d ∙ b)
    go (inr (a, b)) (inr (c, d)) = inl (c ∙ b, d ∙ a)

-- a pair that has a row, and a row that it has
pair_there : (u v : ℕ) (rows : List Row) {q : Row} → q ∈ rows → T (is_pair u v q) → T (has_pair u v rows)
unfolding has_pair
pair_there u v rows m p = any_in (is_pair u v) m p

pair_found : (u v : ℕ) (rows : List Row) → T (has_pair u v rows) → (q : Row) × (q ∈ rows) × T (is_pair u v q)
unfolding has_pair
pair_found u v rows t = any_out (is_pair u v) rows t

-- SURVIVES: exactly the older rows whose pair has no row in the newer
pub survives_exactly : (older newer : List Row) (r : Row) → r ∈ survivors older newer ↔ ((r ∈ older) × ((q : Row) → q ∈ newer → ¬ T (is_pair r.first_end r.second_end q)))
unfolding survivors
survives_exactly older newer r = (
  λ m. let (i, t) = filter_out (stands newer) older m in (i, λ q j p. T_not (has_pair r.first_end r.second_end newer) t (pair_there r.first_end r.second_end newer j p)),
  λ h. filter_in (stands newer) h.0 (not_T (has_pair r.first_end r.second_end newer) (λ t. let (q, j, p) = pair_found r.first_end r.second_end newer t in h.1 q j p)),
)

-- a filter before that keeps all that pass
filter_twice : {A : Type 0} (p q : A → Bool) (l : List A) → ((a : A) → a ∈ l → T (p a) → T (q a)) → filter_b p (filter_b q l) ≡ filter_b p l
filter_twice p q l h =
    sym (filter_both p q l) ∙ filter_same (λ a. both (p a) (q a)) p l (λ a m. T-same (both (p a) (q a)) (p a) (λ t. ((T-both (p a) (q a)).0 t).0) (λ t. (T-both (p a) (q a)).1 (t, h a m t)))

-- the rows of a pair among all that stand
module _ (older newer : List Row) (u v : ℕ) where
  -- NEWER: a pair with a row in the newer has the newer's rows
  pub pair_newer : T (has_pair u v newer) → filter_b (is_pair u v) (survivors older newer ++ newer) ≡ filter_b (is_pair u v) newer
  pair_newer t =
      filter_append (is_pair u v) (survivors older newer) newer
      ∙ ap (λ (l : List Row). l ++ filter_b (is_pair u v) newer) (filter_none (is_pair u v) (survivors older newer) (λ r m s.
      let (q, j, p) = pair_found u v newer t in ((survives_exactly older newer r).0 m).1 q j (pair_same u v r q s p)))

  -- OLDER: any other has the older's
  pub pair_older : ¬ T (has_pair u v newer) → filter_b (is_pair u v) (survivors older newer ++ newer) ≡ filter_b (is_pair u v) older
  unfolding survivors
  pair_older n =
      filter_append (is_pair u v) (survivors older newer) newer
      ∙ ap (λ (l : List Row). filter_b (is_pair u v) (survivors older newer) ++ l) (filter_none (is_pair u v) newer (λ q j p. n (pair_there u v newer j p)))
      ∙ append-nil (filter_b (is_pair u v) (survivors older newer))
      ∙ filter_twice (is_pair u v) (stands newer) older (λ r m s.
      not_T (has_pair r.first_end r.second_end newer) (λ t. let (q, j, p) = pair_found r.first_end r.second_end newer t in
      n (pair_there u v newer j (pair_back u v r q s p))))

-- Surveys of which nothing stands, or nothing goes

over_same : (rows : List Row) → survivors rows rows ≡ []
unfolding survivors
over_same rows = filter_none (stands rows) rows (λ r m t.
    let u = r.first_end in
    let v = r.second_end in
    T_not (has_pair u v rows) t (pair_there u v rows m (pair_in u v r (inl (refl, refl)))))

none_over : (rows : List Row) → survivors rows [] ≡ rows
unfolding survivors has_pair any
none_over rows = filter_whole (stands []) rows (λ r m. tt)

pub over_itself : (w : Network) → survey_network w w ≡ w
over_itself w = ap (λ (rows : List Row). record { node_count = w.node_count; kinds = w.kinds; rows = rows ++ w.rows }) (over_same w.rows)

pub over_nothing : (v w : Network) → v.node_count ≡ w.node_count → v.kinds ≡ w.kinds → v.rows ≡ [] → survey_network v w ≡ w
unfolding survivors filter_b
over_nothing v w nodes kinds rows i = record { node_count = nodes i; kinds = kinds i; rows = survivors (rows i) w.rows ++ w.rows }

pub nothing_over : (v w : Network) → w.rows ≡ [] → survey_network v w ≡ v
nothing_over v w rows =
    ap (λ (l : List Row). record { node_count = v.node_count; kinds = v.kinds; rows = survivors v.rows l ++ l }) rows
    ∙ ap (λ (l : List Row). record { node_count = v.node_count; kinds = v.kinds; rows = l }) (append-nil (survivors v.rows []) ∙ none_over v.rows)

-- What the files say

-- the rows of an accepted file have as many costs as there are kinds
costs_long : (f : List ℕ) → Accepted f → (r : Row) → r ∈ (network_of f).rows → length r.costs ≡ length (network_of f).kinds
unfolding network_of
costs_long f a r m =
    let (i, _, e) = map_out (row_in f) (range 0 (sizes_of f).m) m in
    ap {B = ℕ} (λ x. length x.costs) (sym e) ∙ row_costs f i ∙ sym a.kinds

-- what the checks of a file say of its rows
module _ (f : List ℕ) (h : first_unmet (file_checks f) ≡ none) where
  ends_met_lem : T (all (ends_sound (network_of f).node_count) (network_of f).rows)
  unfolding file_checks ends_met network_of
  ends_met_lem = (T_true (ends_met f)).1 ((met_all (file_checks f)).0 h (check 6 (ends_met f)) (there (there (there (there (there (here refl)))))))

  costs_met_lem : T (all costs_sound (network_of f).rows)
  unfolding file_checks costs_met
  costs_met_lem = (T_true (costs_met f)).1 ((met_all (file_checks f)).0 h (check 7 (costs_met f)) (there (there (there (there (there (there (here refl))))))))

-- What the checks ask, all together

pub record SurveyMet (older newer buffer : List ℕ) : Type 0 where
  pub older_met : first_unmet (file_checks older) ≡ none
  pub newer_met : first_unmet (file_checks newer) ≡ none
  pub framed : T (same_frame (network_of older) (network_of newer))
  pub few : length (survey_network (network_of older) (network_of newer)).rows ≤ 256
  pub room : length (survey_file older newer) ≤ length buffer

-- MET: the checks are met exactly if it holds
pub survey_met : (older newer buffer : List ℕ) → (first_unmet (survey_checks older newer buffer) ≡ none) ↔ SurveyMet older newer buffer
unfolding survey_checks first_unmet
survey_met older newer buffer = (
  λ h.
      let (files, own_met) = unmet_parts (file_checks older ++ file_checks newer) own h in
      let (older_met, newer_met) = unmet_parts (file_checks older) (file_checks newer) files in
      let each : (c : Check) → c ∈ own → T c.met = λ c m. (T_true c.met).1 ((met_all own).0 own_met c m) in
      record {
        older_met = older_met;
        newer_met = newer_met;
        framed = each framed (here refl);
        few = leb→le total 256 (each fitting (there (here refl)));
        room = leb→le (length (survey_file older newer)) (length buffer) (each roomy (there (there (here refl))));
      },
  λ a.
      first_unmet_append (file_checks older ++ file_checks newer) own (first_unmet_append (file_checks older) (file_checks newer) a.older_met ∙ a.newer_met)
      ∙ first_unmet_met framed (fitting ∷ roomy ∷ []) ((T_true framed.met).0 a.framed)
      ∙ first_unmet_met fitting (roomy ∷ []) ((T_true fitting.met).0 (le→leb total 256 a.few))
      ∙ first_unmet_met roomy [] ((T_true roomy.met).0 (le→leb (length (survey_file older newer)) (length buffer) a.room)),
)
  where
    total : ℕ
    total = length (survey_network (network_of older) (network_of newer)).rows

    framed : Check
    framed = check 18 (same_frame (network_of older) (network_of newer))

    fitting : Check
    fitting = check 19 (leb total 256)

    roomy : Check
    roomy = check 11 (leb (length (survey_file older newer)) (length buffer))

    own : List Check
    own = framed ∷ fitting ∷ roomy ∷ []

-- What is written

module _ (older newer : List ℕ) (older_met : first_unmet (file_checks older) ≡ none) (newer_met : first_unmet (file_checks newer) ≡ none)
    (framed : T (same_frame (network_of older) (network_of newer))) where
  abbrev O : Network
  O = network_of older

  abbrev N : Network
  N = network_of newer

  frame : (O.node_count ≡ N.node_count) × (O.kinds ≡ N.kinds)
  frame = (frame_exactly O N).0 framed

  -- a row that stands is a row of one of the files
  from : (r : Row) → r ∈ (survey_network O N).rows → (r ∈ O.rows) ⊎ (r ∈ N.rows)
  from r m = ⊎_elim (λ i. inl ((survives_exactly O.rows N.rows r).0 i).0) (λ j. inr j) (append_cases (survivors O.rows N.rows) m)

  pub survey_sayable : Sayable 2 (survey_network O N)
  survey_sayable = record {
    known = inr refl;
    wide = λ r m. ⊎_elim (costs_long older (accepted older older_met) r) (λ i. costs_long newer (accepted newer newer_met) r i ∙ sym (ap length frame.1)) (from r m);
    opened = λ r m e. absurd (subst T (e) tt);
  }

  pub survey_long : length (survey_file older newer) ≡ 9 + length O.kinds + length (survey_network O N).rows * (5 + 4 * length O.kinds)
  unfolding survey_file
  survey_long = file_long 2 (survey_network O N) survey_sayable

  module _ (few : length (survey_network O N).rows ≤ 256) where
    survey_limits : Limits (survey_network O N)
    unfolding network_of
    survey_limits =
        let a = accepted older older_met in
        record {
          nodes = (T-both (leb 2 O.node_count) (leb O.node_count 32)).1 (le→leb 2 O.node_count a.nodes_low, le→leb O.node_count 32 a.nodes_high);
          rows = (T-both (leb 0 (length (survey_network O N).rows)) (leb (length (survey_network O N).rows) 256)).1
              (le→leb 0 (length (survey_network O N).rows) (omega arith), le→leb (length (survey_network O N).rows) 256 few);
          criteria = subst (λ (k : ℕ). T (within 1 4 k)) (sym a.kinds)
              ((T-both (leb 1 (sizes_of older).k) (leb (sizes_of older).k 4)).1 (le→leb 1 (sizes_of older).k a.criteria_low, le→leb (sizes_of older).k 4 a.criteria_high));
          ends = all_in (ends_sound O.node_count) (survey_network O N).rows (λ r m. ⊎_elim
              (λ i. all_out (ends_sound O.node_count) (ends_met_lem older older_met) i)
              (λ i. subst (λ (n : ℕ). T (ends_sound n r)) (sym frame.0) (all_out (ends_sound N.node_count) (ends_met_lem newer newer_met) i))
              (from r m));
          costs = all_in costs_sound (survey_network O N).rows (λ r m. ⊎_elim (all_out costs_sound (costs_met_lem older older_met)) (all_out costs_sound (costs_met_lem newer newer_met)) (from r m));
        }

    -- ACCEPTED: Open accepts the file, and it says the survivors in their order and then the newer's rows
    pub survey_accepted : (first_unmet (file_checks (survey_file older newer)) ≡ none) × (network_of (survey_file older newer) ≡ survey_network O N)
    unfolding survey_file
    survey_accepted = (file_met 2 (survey_network O N) survey_sayable survey_limits, file_network 2 (survey_network O N) survey_sayable)
