-- Reading our own text gives the same nodes and ends, in sequence (`read_back_lem`). For a reader that goes byte by byte: the first part of a text is
-- what stands before the first separator (`parts_first`), and the last is what has none (`parts_last`).
use mathlib.Core.Path.{◌∙◌, ◌≡◌, ap, ap₂, refl, subst, sym}
use mathlib.Core.Logic.{⊎_elim}
use mathlib.Core.Bool.{Bool, false, true}
use mathlib.Core.Option.{some}
use mathlib.Core.List.Memᴰ.{append_cases}
use mathlib.Core.List.Memᴰ.{cases_cons as mem_cases}
use mathlib.Core.List.Memᴰ.{head as here}
use mathlib.Core.List.Memᴰ.{of_map as map_out}
use mathlib.Core.List.Memᴰ.{tail as there}
use mathlib.Core.List.{List, [], ◌++◌, ◌∷◌, map}
use Prim.Native.Nat.{ℕ}
use native.Mathlib.Omega.{arith}
use lib.Dec.{eqb, eqb→eq}
use lib.ListN.{length}
use lib.Seq.{append_snoc}
use Rattle.lists.specs.Lists.{concat_map, filter_b, pick, same}
use Rattle.lists.proofs.Members.{◌∈◌, mem_elim}
use Rattle.lists.proofs.Tests.{T_false, T_true, eq→eqb}
use Rattle.printout.specs.Text.{decimal_of}
use Rattle.edge_file.specs.Text.{Ends, Line, cons_ends, cons_first, edge, edge_line, edges_alone, edges_by, edges_in, edges_of, edges_with, form_of}
use Rattle.edge_file.specs.Text.{is_comment, is_content, line_feed, line_of, lines_in, lines_of, parts_by, problem, problem_line, space, text_of, with_feed}
use Rattle.edge_file.proofs.Decimal.{decimal_digits, number_decimal}

-- Parts

module _ (s : ℕ) where
  parts_here : (rest : List ℕ) → parts_by s (s ∷ rest) ≡ [] ∷ parts_by s rest
  unfolding parts_by
  parts_here rest = rw ((T_true (eqb s s)).0 (eq→eqb s s refl))

  parts_there : (b : ℕ) (rest : List ℕ) → ¬ (b ≡ s) → parts_by s (b ∷ rest) ≡ cons_first b (parts_by s rest)
  unfolding parts_by
  parts_there b rest n = rw ((T_false (eqb b s)).0 (λ t. n (eqb→eq b s t)))

  pub parts_first : (p rest : List ℕ) → ¬ (s ∈ p) → parts_by s (p ++ (s ∷ rest)) ≡ p ∷ parts_by s rest
  parts_first [] rest n = parts_here rest
  parts_first (b ∷ p) rest n =
      parts_there b (p ++ (s ∷ rest)) (λ e. n (here (sym e))) ∙ ap (cons_first b) (parts_first p rest (λ m. n (there m)))

  pub parts_last : (p : List ℕ) → ¬ (s ∈ p) → parts_by s p ≡ p ∷ []
  unfolding parts_by
  parts_last [] n = refl
  parts_last (b ∷ p) n = parts_there b p (λ e. n (here (sym e))) ∙ ap (cons_first b) (parts_last p (λ m. n (there m)))

  -- there is always a part
  pub parts_some : (l : List ℕ) → (q : List ℕ) × (ps : List (List ℕ)) × (parts_by s l ≡ q ∷ ps)
  unfolding parts_by
  parts_some [] = ([], [], refl)
  parts_some (b ∷ l) = go (eqb b s) (parts_some l)
    where
      go : (t : Bool) → (q : List ℕ) × (ps : List (List ℕ)) × (parts_by s l ≡ q ∷ ps)
          → (q : List ℕ) × (ps : List (List ℕ)) × (pick t ([] ∷ parts_by s l) (cons_first b (parts_by s l)) ≡ q ∷ ps)
      go true w = ([], parts_by s l, refl)
      go false (q, ps, e) = (b ∷ q, ps, ap (cons_first b) e)

-- Lines

-- whole lines are read one by one
lines_whole : (ls : List (List ℕ)) → ((l : List ℕ) → l ∈ ls → ¬ (line_feed ∈ l)) → lines_of (concat_map with_feed ls) ≡ map line_of ls
unfolding lines_of lines_in concat_map parts_by
lines_whole [] h = refl
lines_whole (l ∷ ls) h =
    let rest = concat_map with_feed ls in
    let (q, ps, e) = parts_some line_feed rest in
    ap lines_in (ap (parts_by line_feed) (append_snoc l line_feed rest) ∙ parts_first line_feed l rest (h l (here refl)) ∙ ap (λ (x : List (List ℕ)). l ∷ x) e)
    ∙ ap (λ (x : List Line). line_of l ∷ x) (sym (ap lines_in e) ∙ lines_whole ls (λ k m. h k (there m)))

-- a number holds neither a space nor a line feed
no_space : (n : ℕ) → ¬ (space ∈ decimal_of n)
no_space n m = let h = decimal_digits n space m in omega arith

no_feed : (n : ℕ) → ¬ (line_feed ∈ decimal_of n)
no_feed n m = let h = decimal_digits n line_feed m in omega arith

-- two numbers, parted by a space
two_parts : (a b : ℕ) → parts_by space (decimal_of a ++ (space ∷ decimal_of b)) ≡ decimal_of a ∷ decimal_of b ∷ []
two_parts a b = parts_first space (decimal_of a) (decimal_of b) (no_space a) ∙ ap (λ (x : List (List ℕ)). decimal_of a ∷ x) (parts_last space (decimal_of b) (no_space b))

two_feeds : (a b : ℕ) → ¬ (line_feed ∈ decimal_of a ++ (space ∷ decimal_of b))
two_feeds a b m = ⊎_elim (no_feed a) (λ i. ⊎_elim (λ (e : line_feed ≡ space). omega arith) (no_feed b) (mem_cases i)) (append_cases (decimal_of a) m)

edge_read : (e : Ends) → line_of (edge_line e) ≡ edge e.one e.two
unfolding line_of is_comment form_of parts_by same
edge_read e = rw (two_parts e.one e.two, number_decimal e.one, number_decimal e.two)

problem_read : (n m : ℕ) → line_of (problem_line n m) ≡ problem n m
unfolding line_of is_comment form_of parts_by same
problem_read n m = rw (two_parts n m, number_decimal n, number_decimal m)

-- The whole text

-- a line feed further on
later : {b : ℕ} {l : List ℕ} → line_feed ∈ b ∷ l → ¬ (line_feed ≡ b) → line_feed ∈ l
later m n = ⊎_elim (λ e. absurd (n e)) (λ i. i) (mem_cases m)

edge_whole : (e : Ends) → ¬ (line_feed ∈ edge_line e)
edge_whole e m = two_feeds e.one e.two (later (later m (λ q. omega arith)) (λ q. omega arith))

problem_whole : (n m : ℕ) → ¬ (line_feed ∈ problem_line n m)
problem_whole n k m =
    two_feeds n k
    (later (later (later (later (later (later (later m (λ q. omega arith)) (λ q. omega arith)) (λ q. omega arith)) (λ q. omega arith)) (λ q. omega arith)) (λ q. omega arith)) (λ q. omega arith))

lines_read : (es : List Ends) → map line_of (map edge_line es) ≡ map (λ e. edge e.one e.two) es
lines_read [] = refl
lines_read (e ∷ es) = ap₂ {C = List Line} (λ x y. x ∷ y) (edge_read e) (lines_read es)

edges_kept : (es : List Ends) → filter_b is_content (map (λ e. edge e.one e.two) es) ≡ map (λ e. edge e.one e.two) es
unfolding filter_b
edges_kept [] = refl
edges_kept (e ∷ es) = ap (λ (x : List Line). edge e.one e.two ∷ x) (edges_kept es)

ends_read : (es : List Ends) → edges_alone (map (λ e. edge e.one e.two) es) ≡ some es
unfolding edges_alone
ends_read [] = refl
ends_read (e ∷ es) = ap (cons_ends e.one e.two) (ends_read es)

-- READ BACK: our own text says the same nodes and ends, in sequence, and as many edges as it has
pub read_back_lem : (n : ℕ) (es : List Ends) → edges_of (text_of n es) ≡ some (record { nodes = n; count = length es; edges = es })
unfolding edges_of edges_by text_of edges_in filter_b
read_back_lem n es =
    ap (λ (ls : List Line). edges_in (filter_b is_content ls))
    (lines_whole (problem_line n (length es) ∷ map edge_line es) whole ∙ ap₂ {C = List Line} (λ x y. x ∷ y) (problem_read n (length es)) (lines_read es))
    ∙ ap (λ (ls : List Line). edges_with n (length es) (edges_alone ls)) (edges_kept es) ∙ ap (edges_with n (length es)) (ends_read es)
  where
    whole : (l : List ℕ) → l ∈ problem_line n (length es) ∷ map edge_line es → ¬ (line_feed ∈ l)
    whole l m = mem_elim (λ (x : List ℕ). ¬ (line_feed ∈ x)) m (problem_whole n (length es))
        (λ i. let (e, _, q) = map_out edge_line es i in subst (λ (x : List ℕ). ¬ (line_feed ∈ x)) q (edge_whole e))
