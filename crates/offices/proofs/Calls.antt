-- One call: an office's answer and its filled rows are those of the office by itself, and the other half keeps its content (`Stepped`, `step`);
-- a number that is no office changes nothing (`stranger`). The other half keeps its content on each call, whatever it is handed (`other_kept`).
use mathlib.Core.Path.{◌∙◌, ◌≡◌, ap, refl, subst, sym}
use mathlib.Core.Logic.{◌⊎◌, inl, inr, ⊎_elim}
use mathlib.Core.Bool.{Bool}
use mathlib.Core.Option.{Option, none, some}
use mathlib.Core.List.Memᴰ.{append_right}
use mathlib.Core.List.Memᴰ.{head as here}
use mathlib.Core.List.Memᴰ.{tail as there}
use mathlib.Core.List.{List, [], ◌++◌, ◌∷◌, append_assoc}
use Prim.Native.Nat.{◌*◌, ◌<◌, ◌≤◌, pred, ℕ}
use native.Mathlib.Omega.{arith}
use lib.Dec.{T, eqb, eqb→eq, leb, leb→le, le→leb, ltb, ltb→lt, lt→ltb}
use lib.ListN.{length}
use Rattle.lists.specs.Lists.{both, either}
use Rattle.lists.proofs.Tests.{T-both, T-either, T_true, eq→eqb}
use Rattle.checks.specs.Checks.{Check, Ended, answered, first_unmet, refused}
use Rattle.checks.proofs.Checks.{first_unmet_append, first_unmet_skip, met_all}
use Rattle.checks.proofs.Ended.{ended_met, ended_unmet, unmet_parts}
use Rattle.graph.specs.Graph.{is_tree, width}
use Rattle.graph.specs.Paths.{path_in, path_of}
use Rattle.graph.proofs.Minimal.{minimal_parts}
use Rattle.graph.proofs.PathOf.{path_of_tree_lem}
use Rattle.costs.specs.Costs.{cost_of}
use Rattle.costs.specs.Network.{Network, graph_of}
use Rattle.costs.proofs.Networks.{cost_length}
use Rattle.table.specs.Enter.{Row, costs_over, witnesses_over}
use Rattle.network_file.specs.File.{file_checks, network_of, sizes_of}
use Rattle.network_file.proofs.Accepted.{Accepted, accepted}
use Rattle.operations.specs.Operations.{FrontTables, check, drawn_checks, graph_in, tree_checks}
use Rattle.operations.proofs.Files.{formed}
use Rattle.offices.specs.Offices.{Counts, Half, Noted, count_of, entry_of, filled_in, first_half, fits_in, half_of, half_rows}
use Rattle.offices.specs.Offices.{note_of, office_call, office_checks, part_of, rows_after, second_half, tables_fit, written}
use Rattle.offices.specs.Sequences.{counts_after, office_of, other, own_call, own_checks, with_count}
use Rattle.offices.proofs.Parts.{after_costs, after_rows, after_witnesses, count_other, count_same, part_long, part_other, part_same, with_long}

none_or_some : (o : Option ℕ) → (o ≡ none) ⊎ ((e : ℕ) × (o ≡ some e))
none_or_some none = inl refl
none_or_some (some e) = inr (e, refl)

pub half_office : (x : Half) → half_of (office_of x) ≡ x
half_office first_half = refl
half_office second_half = refl

-- What check 11 asks of the tables and the counts
pub record Good (k w h : ℕ) (counts : Counts) (lent : FrontTables) : Type 0 where
  pub first : counts.first ≤ h
  pub second : counts.second ≤ h
  pub costs : length lent.costs ≡ 2 * (h * k)
  pub witnesses : length lent.witnesses ≡ 2 * (h * w)

pub count_few : {k w h : ℕ} {counts : Counts} {lent : FrontTables} → Good k w h counts lent → (x : Half) → count_of x counts ≤ h
count_few g first_half = g.first
count_few g second_half = g.second

good_count : {k w h : ℕ} {counts : Counts} {lent : FrontTables} → Good k w h counts lent → (x : Half) (n : ℕ) → n ≤ h → Good k w h (with_count x n counts) lent
good_count g first_half n l = record { first = l; second = g.second; costs = g.costs; witnesses = g.witnesses }
good_count g second_half n l = record { first = g.first; second = l; costs = g.costs; witnesses = g.witnesses }

module _ (k w h office : ℕ) (counts : Counts) (lent : FrontTables) where
  abbrev known : Bool
  known = either (eqb office 1) (eqb office 2)

  abbrev wide_costs : Bool
  wide_costs = eqb (length lent.costs) (2 * (h * k))

  abbrev wide_witnesses : Bool
  wide_witnesses = eqb (length lent.witnesses) (2 * (h * w))

  abbrev few : Bool
  few = both (leb counts.first h) (leb counts.second h)

  pub fits_in_lem : T known → 0 < h → Good k w h counts lent → T (tables_fit k w office h counts lent)
  unfolding tables_fit
  fits_in_lem t pos g =
      (T-both known _).1 (
        t,
        (T-both (ltb 0 h) _).1 (
          lt→ltb 0 h pos,
          (T-both wide_costs _).1 (
            eq→eqb _ _ g.costs,
            (T-both wide_witnesses few).1 (
              eq→eqb _ _ g.witnesses,
              (T-both (leb counts.first h) (leb counts.second h)).1 (le→leb counts.first h g.first, le→leb counts.second h g.second),
            ),
          ),
        ),
      )

  pub fits_out : T (tables_fit k w office h counts lent) → T known × (0 < h) × Good k w h counts lent
  unfolding tables_fit
  fits_out t =
      let (named, t) = (T-both known (both (ltb 0 h) (both wide_costs (both wide_witnesses few)))).0 t in
      let (pos, t) = (T-both (ltb 0 h) (both wide_costs (both wide_witnesses few))).0 t in
      let (c, t) = (T-both wide_costs (both wide_witnesses few)).0 t in
      let (p, t) = (T-both wide_witnesses few).0 t in
      let (i, j) = (T-both (leb counts.first h) (leb counts.second h)).0 t in (
        named,
        ltb→lt 0 h pos,
        record { first = leb→le counts.first h i; second = leb→le counts.second h j; costs = eqb→eq _ _ c; witnesses = eqb→eq _ _ p },
      )

-- What a call with tables of k costs and w row numbers does to the half x and to the other; `mine` is what the office by itself comes to
pub record Stepped (k w h : ℕ) (x : Half) (counts : Counts) (lent : FrontTables) (call : Ended Noted FrontTables) (mine : Ended Noted (List Row)) : Type 0 where
  pub outcome : call.outcome ≡ mine.outcome
  pub rows : filled_in k w h x (counts_after x call.outcome counts) call.buffers ≡ mine.buffers
  pub other_rows : filled_in k w h (other x) (counts_after x call.outcome counts) call.buffers ≡ filled_in k w h (other x) counts lent
  pub other_costs : part_of (other x) (h * k) call.buffers.costs ≡ part_of (other x) (h * k) lent.costs
  pub other_witnesses : part_of (other x) (h * w) call.buffers.witnesses ≡ part_of (other x) (h * w) lent.witnesses
  pub good : Good k w h (counts_after x call.outcome counts) call.buffers

module _ (k w h : ℕ) (x : Half) (counts : Counts) (lent : FrontTables) (g : Good k w h counts lent) where
  abbrev rows : List Row
  rows = filled_in k w h x counts lent

  stepped_refused : (e : ℕ) → Stepped k w h x counts lent (record { outcome = refused e; buffers = lent }) (record { outcome = refused e; buffers = rows })
  stepped_refused e = record { outcome = refl; rows = refl; other_rows = refl; other_costs = refl; other_witnesses = refl; good = g }

  stepped_answered : (e : Row) → length e.vector ≡ k → length e.path ≡ w → T (fits_in h rows e)
      → Stepped k w h x counts lent (record { outcome = answered (note_of rows e); buffers = written k w h x (rows_after rows e) lent })
      (record { outcome = answered (note_of rows e); buffers = rows_after rows e })
  stepped_answered e vector path fits = record {
    outcome = refl;
    rows = rw (count_same x (length new) counts, part_same (h * k) lent.costs g.costs new_costs costs_long x, part_same (h * w) lent.witnesses g.witnesses new_witnesses witnesses_long x)
        (after_rows k w h (count_of x counts) (part_of x (h * k) lent.costs) (part_of x (h * w) lent.witnesses) costs_half witnesses_half (count_few g x) e vector path);
    other_rows = rw (
      count_other x (length new) counts,
      part_other (h * k) lent.costs g.costs new_costs costs_long x,
      part_other (h * w) lent.witnesses g.witnesses new_witnesses witnesses_long x,
    );
    other_costs = part_other (h * k) lent.costs g.costs new_costs costs_long x;
    other_witnesses = part_other (h * w) lent.witnesses g.witnesses new_witnesses witnesses_long x;
    good = good_count (record {
      first = g.first;
      second = g.second;
      costs = with_long (h * k) lent.costs g.costs new_costs costs_long x;
      witnesses = with_long (h * w) lent.witnesses g.witnesses new_witnesses witnesses_long x;
    }) x (length new) l;
  }
    where
      new : List Row
      new = rows_after rows e

      l : length new ≤ h
      l = leb→le (length new) h fits

      new_costs : List ℕ
      new_costs = costs_over new (part_of x (h * k) lent.costs)

      new_witnesses : List ℕ
      new_witnesses = witnesses_over new (part_of x (h * w) lent.witnesses)

      costs_half : length (part_of x (h * k) lent.costs) ≡ h * k
      costs_half = part_long (h * k) lent.costs g.costs x

      witnesses_half : length (part_of x (h * w) lent.witnesses) ≡ h * w
      witnesses_half = part_long (h * w) lent.witnesses g.witnesses x

      costs_long : length new_costs ≡ h * k
      costs_long =
          after_costs k w h (count_of x counts) (part_of x (h * k) lent.costs) (part_of x (h * w) lent.witnesses) costs_half witnesses_half (count_few g x) e vector path l

      witnesses_long : length new_witnesses ≡ h * w
      witnesses_long =
          after_witnesses k w h (count_of x counts) (part_of x (h * k) lent.costs) (part_of x (h * w) lent.witnesses) costs_half witnesses_half (count_few g x) e vector path l

-- What is entered for drawn rows, by their cost and their path; of a tree of an accepted file it is as wide as the tables' rows

pub entry_is : (w : Network) (drawn : List ℕ) {v p : List ℕ} → cost_of w drawn ≡ v → path_of (graph_of w) drawn ≡ some p → entry_of w drawn ≡ record { vector = v; path = p }
unfolding entry_of
entry_is w drawn priced found = rw (priced, found)

entry_vector : (f drawn : List ℕ) → Accepted f → length (entry_of (network_of f) drawn).vector ≡ (sizes_of f).k
unfolding entry_of
entry_vector f drawn a = cost_length (network_of f) drawn ∙ a.kinds

entry_path : (f drawn : List ℕ) → Accepted f → T (is_tree (graph_in f) drawn) → length (entry_of (network_of f) drawn).path ≡ width (graph_in f)
unfolding entry_of
entry_path f drawn a t =
    let (ps, e, m, _, _) = path_of_tree_lem (graph_in f) (formed f a) drawn t in
    let long : length ps ≡ pred (length (graph_in f).nodes) = omega (arith, (minimal_parts (graph_in f) ps m).0) in
    ap {B = ℕ} (λ o. length (path_in o)) e ∙ long

drawn_tree : (f drawn : List ℕ) → first_unmet (drawn_checks (network_of f) drawn) ≡ none → T (is_tree (graph_in f) drawn)
unfolding drawn_checks tree_checks
drawn_tree f drawn q =
    (T_true (is_tree (graph_in f) drawn)).1 ((met_all (drawn_checks (network_of f) drawn)).0 q (check 10 (is_tree (graph_in f) drawn)) (there (there (here refl))))

named : (x : Half) → T (either (eqb (office_of x) 1) (eqb (office_of x) 2))
named first_half = tt
named second_half = tt

-- One call

module _ (f : List ℕ) (ok : first_unmet (file_checks f) ≡ none) (h : ℕ) (pos : 0 < h) (drawn : List ℕ) (counts : Counts) (lent : FrontTables)
    (g : Good (sizes_of f).k (width (graph_in f)) h counts lent) where
  abbrev k : ℕ
  k = (sizes_of f).k

  abbrev w : ℕ
  w = width (graph_in f)

  -- the file's checks and 11 are met; the office goes by its half
  same_checks : (x : Half) → first_unmet (office_checks f drawn (office_of x) h counts lent) ≡ first_unmet (own_checks (network_of f) h (half_rows f h x counts lent) drawn)
  unfolding office_checks own_checks
  same_checks x =
      first_unmet_skip (file_checks f ++ drawn_checks (network_of f) drawn) (last (half_of (office_of x)))
      (check 11 (tables_fit k w (office_of x) h counts lent)) ((T_true (tables_fit k w (office_of x) h counts lent)).0 (fits_in_lem k w h (office_of x) counts lent (named x) pos g))
      ∙ ap (λ (y : Half). first_unmet (file_checks f ++ drawn_checks (network_of f) drawn ++ last y)) (half_office x)
      ∙ ap first_unmet (append_assoc (file_checks f) (drawn_checks (network_of f) drawn) (last x)) ∙ first_unmet_append (file_checks f) (drawn_checks (network_of f) drawn ++ last x) ok
    where
      last : Half → List Check
      last y = check 24 (fits_in h (half_rows f h y counts lent) (entry_of (network_of f) drawn)) ∷ []

  pub step : (x : Half) → Stepped k w h x counts lent (office_call f drawn (office_of x) h counts lent) (own_call (network_of f) h (half_rows f h x counts lent) drawn)
  unfolding office_call own_call own_checks
  step x = elim (none_or_some (first_unmet (own_checks (network_of f) h rows₀ drawn))) [
    | inr (e, q) ↦ subst (λ (c : Ended Noted FrontTables). Stepped k w h x counts lent c mine) (sym (ended_unmet (office_checks f drawn (office_of x) h counts lent) _ lent _ e (same_checks x ∙ q)))
        (subst (Stepped k w h x counts lent (record { outcome = refused e; buffers = lent })) (sym (ended_unmet (own_checks (network_of f) h rows₀ drawn) _ rows₀ _ e q))
        (stepped_refused k w h x counts lent g e))
    | inl q ↦
        let (of_drawn, last) = unmet_parts (drawn_checks (network_of f) drawn) (check 24 (fits_in h rows₀ entry) ∷ []) q in
        let file = accepted f ok in
        let fits = (T_true (fits_in h rows₀ entry)).1 ((met_all (check 24 (fits_in h rows₀ entry) ∷ [])).0 last (check 24 (fits_in h rows₀ entry)) (here refl)) in
        subst (λ (c : Ended Noted FrontTables). Stepped k w h x counts lent c mine) (sym (ended_met (office_checks f drawn (office_of x) h counts lent) _ lent _ (same_checks x ∙ q)))
        (subst (Stepped k w h x counts lent (answer_at (half_of (office_of x)))) (sym (ended_met (own_checks (network_of f) h rows₀ drawn) _ rows₀ _ q))
        (subst (λ (y : Half). Stepped k w h x counts lent (answer_at y) (record { outcome = answered (note_of rows₀ entry); buffers = rows_after rows₀ entry })) (sym (half_office x))
        (stepped_answered k w h x counts lent g entry (entry_vector f drawn file) (entry_path f drawn file (drawn_tree f drawn of_drawn)) fits)))
  ]
    where
      entry : Row
      entry = entry_of (network_of f) drawn

      rows₀ : List Row
      rows₀ = half_rows f h x counts lent

      mine : Ended Noted (List Row)
      mine = own_call (network_of f) h rows₀ drawn

      answer_at : Half → Ended Noted FrontTables
      answer_at y = record {
        outcome = answered (note_of (half_rows f h y counts lent) entry);
        buffers = written k w h y (rows_after (half_rows f h y counts lent) entry) lent;
      }

-- where all checks are met, check 11 is, and so are the file's
fit_met : (f : List ℕ) (h : ℕ) (drawn : List ℕ) (office : ℕ) (counts : Counts) (lent : FrontTables) → first_unmet (office_checks f drawn office h counts lent) ≡ none
    → T (tables_fit (sizes_of f).k (width (graph_in f)) office h counts lent)
unfolding office_checks
fit_met f h drawn office counts lent q =
    let fit = tables_fit (sizes_of f).k (width (graph_in f)) office h counts lent in
    (T_true fit).1 ((met_all (office_checks f drawn office h counts lent)).0 q (check 11 fit) (append_right (file_checks f ++ drawn_checks (network_of f) drawn) (here refl)))

file_met : (f : List ℕ) (h : ℕ) (drawn : List ℕ) (office : ℕ) (counts : Counts) (lent : FrontTables) → first_unmet (office_checks f drawn office h counts lent) ≡ none
    → first_unmet (file_checks f) ≡ none
unfolding office_checks
file_met f h drawn office counts lent q = (unmet_parts (file_checks f) (drawn_checks (network_of f) drawn) (unmet_parts (file_checks f ++ drawn_checks (network_of f) drawn) _ q).0).0

-- a number that is no office is refused, and changes nothing
pub stranger : (f : List ℕ) (h : ℕ) (drawn : List ℕ) (office : ℕ) (counts : Counts) (lent : FrontTables) → ¬ (office ≡ 1) → ¬ (office ≡ 2)
    → (e : ℕ) × (office_call f drawn office h counts lent ≡ record { outcome = refused e; buffers = lent })
unfolding office_call
stranger f h drawn office counts lent n1 n2 = elim (none_or_some (first_unmet (office_checks f drawn office h counts lent))) [
  | inr (e, q) ↦ (e, ended_unmet (office_checks f drawn office h counts lent) _ lent _ e q)
  | inl q ↦ absurd (⊎_elim (λ s. n1 (eqb→eq office 1 s)) (λ s. n2 (eqb→eq office 2 s))
      ((T-either (eqb office 1) (eqb office 2)).0 (fits_out _ _ h office counts lent (fit_met f h drawn office counts lent q)).0))
]

-- THE OTHER'S ROWS keep their content on each call, whatever tables and counts it is handed
pub other_kept : (f : List ℕ) (h : ℕ) (drawn : List ℕ) (counts : Counts) (lent : FrontTables) (x : Half)
    → (part_of (other x) (h * (sizes_of f).k) (office_call f drawn (office_of x) h counts lent).buffers.costs ≡ part_of (other x) (h * (sizes_of f).k) lent.costs)
    × (part_of (other x) (h * width (graph_in f)) (office_call f drawn (office_of x) h counts lent).buffers.witnesses ≡ part_of (other x) (h * width (graph_in f)) lent.witnesses)
unfolding office_call
other_kept f h drawn counts lent x = elim (none_or_some (first_unmet (office_checks f drawn (office_of x) h counts lent))) [
  | inr (e, q) ↦
      let kept = ended_unmet (office_checks f drawn (office_of x) h counts lent) _ lent _ e q in (
        ap (λ (c : Ended Noted FrontTables). part_of (other x) (h * (sizes_of f).k) c.buffers.costs) kept,
        ap (λ (c : Ended Noted FrontTables). part_of (other x) (h * width (graph_in f)) c.buffers.witnesses) kept,
      )
  | inl q ↦
      let (_, pos, good) = fits_out _ _ h (office_of x) counts lent (fit_met f h drawn (office_of x) counts lent q) in
      let s = step f (file_met f h drawn (office_of x) counts lent q) h pos drawn counts lent good x in (s.other_costs, s.other_witnesses)
]
