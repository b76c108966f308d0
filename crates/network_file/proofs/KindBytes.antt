-- The kind bytes of a file: as many as there are criteria (`kinds_count`), and standing in it from place 9 on (`kinds_stand`); of one that passes, the numbers of its kinds
-- (`kinds_numbered`).
use mathlib.Core.Path.{◌∙◌, ◌≡◌, ap, refl, sym}
use mathlib.Core.Option.{none}
use mathlib.Core.List.Memᴰ.{head as here}
use mathlib.Core.List.Memᴰ.{tail as there}
use mathlib.Core.List.{List, [], ◌∷◌, map}
use Prim.Native.Nat.{◌+◌, ◌<◌, ◌≤◌, ℕ}
use native.Mathlib.Decide.{ℕ_discrete}
use native.Mathlib.Omega.{arith}
use lib.Dec.{T, eqb, eqb→eq}
use lib.ListN.{drop, length, length-drop, length-map, length-take, take}
use lib.Seq.{ext_get_or, get_or-drop, get_or-take}
use Rattle.lists.specs.Lists.{all, range}
use Rattle.lists.proofs.Ranges.{get_or_map_range, range_length}
use Rattle.lists.proofs.Tests.{T-both, T_false, T_true}
use Rattle.checks.specs.Checks.{first_unmet}
use Rattle.checks.proofs.Checks.{met_all}
use Rattle.network_file.specs.Bytes.{kind_number}
use Rattle.network_file.specs.File.{byte_at, cons_kind, file_checks, is_kind, kind_bytes, kind_of, kinds_met, kinds_of, network_of, sizes_of}

-- a byte that names a kind is the kind's number
one : (b : ℕ) (bs : List ℕ) → T (is_kind (kind_of b)) → map kind_number (cons_kind (kind_of b) (kinds_of bs)) ≡ b ∷ map kind_number (kinds_of bs)
unfolding kind_of
one b bs t = elim (ℕ_discrete b 0) [
  | yes e ↦ rw e
  | no n0 ↦ elim (ℕ_discrete b 1) [
    | yes e ↦ rw e
    | no n1 ↦ elim (ℕ_discrete b 2) [
      | yes e ↦ rw e
      | no n2 ↦ absurd (rw ((T_false (eqb b 0)).0 (λ u. n0 (eqb→eq b 0 u)), (T_false (eqb b 1)).0 (λ u. n1 (eqb→eq b 1 u)), (T_false (eqb b 2)).0 (λ u. n2 (eqb→eq b 2 u))) at t)
    ]
  ]
]

numbered : (bs : List ℕ) → T (all (λ b. is_kind (kind_of b)) bs) → map kind_number (kinds_of bs) ≡ bs
unfolding all kinds_of
numbered [] t = refl
numbered (b ∷ bs) t =
    let (here_is, rest) = (T-both (is_kind (kind_of b)) (all (λ b. is_kind (kind_of b)) bs)).0 t in
    one b bs here_is ∙ ap (λ (l : List ℕ). b ∷ l) (numbered bs rest)

pub kinds_numbered : (f : List ℕ) → first_unmet (file_checks f) ≡ none → map kind_number (network_of f).kinds ≡ kind_bytes f
unfolding file_checks kinds_met network_of
kinds_numbered f h = numbered (kind_bytes f) ((T_true (kinds_met f)).1 ((met_all (file_checks f)).0 h (record { number = 5; met = kinds_met f }) (there (there (there (there (here refl)))))))

pub kinds_count : (f : List ℕ) → length (kind_bytes f) ≡ (sizes_of f).k
unfolding kind_bytes
kinds_count f = length-map (range 0 (sizes_of f).k) (λ c. byte_at f (9 + c)) ∙ range_length 0 (sizes_of f).k

pub kinds_stand : (f : List ℕ) → 9 + (sizes_of f).k ≤ length f → kind_bytes f ≡ take (sizes_of f).k (drop 9 f)
unfolding kind_bytes
kinds_stand f there_are = ext_get_or 0 (kind_bytes f) (take k (drop 9 f)) (kinds_count f ∙ sym whole) (λ c h. let few : c < k = omega (arith, kinds_count f) in
    get_or_map_range (λ c. byte_at f (9 + c)) k c 0 few ∙ sym (get_or-take k (drop 9 f) c 0 few ∙ get_or-drop 9 f c 0))
  where
    k : ℕ
    k = (sizes_of f).k

    whole : length (take k (drop 9 f)) ≡ k
    whole = omega (arith, length-take k (drop 9 f), length-drop 9 f)
