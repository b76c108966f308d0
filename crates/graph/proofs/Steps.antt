-- What `step_of` and `steps_from` compute: a step of a row (`Step`, `step_of_out`, `step_of_in`), the first step and the rest
-- (`steps_from_cons`), the rows read off the steps (`steps_rows`), and that rising steps are the keys of a completion and the other
-- way round (`steps_completion`, `completion_steps`).
use mathlib.Core.Path.{◌∙◌, ◌≡◌, ap, ap₂, refl, subst, sym}
use mathlib.Core.Logic.{◌⊎◌, inl, inr, ⊎_elim}
use mathlib.Core.Bool.{Bool, false, not, true}
use mathlib.Core.Option.{Option, none-ne-some, some-injective, none, some}
use mathlib.Core.List.Memᴰ.{cast as mem_cast}
use mathlib.Core.List.Memᴰ.{head as here}
use mathlib.Core.List.Memᴰ.{tail as there}
use mathlib.Core.List.{List, [], ◌++◌, ◌∷◌}
use Prim.Native.Nat.{◌+◌, ◌≤◌, ℕ}
use native.Mathlib.Decide.{ℕ_discrete}
use native.Mathlib.Omega.{arith}
use lib.Dec.{T, T_not, not_T}
use lib.ListN.{length}
use Rattle.lists.specs.Lists.{both, member, pick}
use Rattle.lists.proofs.Distinct.{filled}
use Rattle.lists.proofs.Members.{◌∈◌, ◌⊆◌, length_snoc, member_in, member_out}
use Rattle.lists.proofs.Tests.{T-both, T_false, T_true}
use Rattle.graph.specs.Graph.{Graph, first_end, second_end}
use Rattle.graph.specs.Paths.{Key, and_then, ascending, cons_key, follows, place_of, step_of, steps_from}
use Rattle.graph.proofs.Growth.{Completion, Joins, Legal, State, Step, after, back, forth, rows_of}
use Rattle.graph.proofs.Keys.{Lex, follows_in, follows_out}
use Rattle.graph.proofs.Least.{Sound, sound_after}

-- One step

module _ (g : Graph) (entered : List ℕ) where
  -- a row may lead from u to v; `step_of` tries both directions
  leads : ℕ → ℕ → Bool
  leads u v = both (member u entered) (both (member v g.nodes) (not (member v entered)))

  abbrev key_of : ℕ → ℕ → ℕ → Key
  key_of u v r = record { place = place_of entered u; node = v; row = r }

  -- the first direction that leads on
  tried : ℕ → ℕ → ℕ → Option Key
  tried r u v = pick (leads u v) (some (key_of u v r)) (pick (leads v u) (some (key_of v u r)) none)

  step_of_is : (r : ℕ) → step_of g entered r ≡ tried r (first_end g r) (second_end g r)
  unfolding step_of leads tried
  step_of_is r = refl

  leads_out : (r u v : ℕ) → Joins g r u v → T (leads u v) → Step g entered (key_of u v r)
  unfolding leads
  leads_out r u v j t =
      let (a, t) = (T-both (member u entered) (both (member v g.nodes) (not (member v entered)))).0 t in
      let (b, c) = (T-both (member v g.nodes) (not (member v entered))).0 t in
      record {
        pivot = u;
        joined = j;
        leaves = member_out u entered a;
        enters = member_out v g.nodes b;
        fresh = λ i. T_not (member v entered) c (member_in i);
        stands = refl;
      }

  leads_in_lem : (u v : ℕ) → u ∈ entered → v ∈ g.nodes → ¬ (v ∈ entered) → leads u v ≡ true
  unfolding leads
  leads_in_lem u v a b c = (T_true (both (member u entered) (both (member v g.nodes) (not (member v entered))))).0
      (simp T-both (member_in a, (member_in b, not_T (member v entered) (λ t. c (member_out v entered t)))))

  leads_not : (u v : ℕ) → ¬ (u ∈ entered) → leads u v ≡ false
  unfolding leads
  leads_not u v n = rw ((T_false (member u entered)).0 (λ t. n (member_out u entered t)))

  picked : (b c : Bool) (x y : Key) {k : Key} → pick b (some x) (pick c (some y) none) ≡ some k → (T b × (x ≡ k)) ⊎ (T c × (y ≡ k))
  picked true c x y {k} e = inl (tt, some-injective x k e)
  picked false true x y {k} e = inr (tt, some-injective y k e)
  picked false false x y {k} e = absurd (none-ne-some k e)

  pub step_of_out : (r : ℕ) (k : Key) → step_of g entered r ≡ some k → Step g entered k × (k.row ≡ r)
  unfolding tried
  step_of_out r k e = ⊎_elim
      (λ a. (subst (Step g entered) a.1 (leads_out r (first_end g r) (second_end g r) (forth refl refl) a.0), ap (λ (x : Key). x.row) (sym a.1)))
      (λ a. (subst (Step g entered) a.1 (leads_out r (second_end g r) (first_end g r) (back refl refl) a.0), ap (λ (x : Key). x.row) (sym a.1)))
      (picked (leads (first_end g r) (second_end g r)) (leads (second_end g r) (first_end g r)) (key_of (first_end g r) (second_end g r) r) (key_of (second_end g r) (first_end g r) r) (sym (step_of_is r) ∙ e))

  pub step_of_in : (k : Key) → Step g entered k → step_of g entered k.row ≡ some k
  unfolding tried
  step_of_in k h = step_of_is k.row ∙ go h.joined
    where
      go : Joins g k.row h.pivot k.node → tried k.row (first_end g k.row) (second_end g k.row) ≡ some k
      go (forth a b) = rw (a, b) (rw (leads_in_lem h.pivot k.node h.leaves h.enters h.fresh) (rw h.stands))
      go (back a b) =
          rw (a, b)
          (rw (leads_not k.node h.pivot h.fresh, leads_in_lem h.pivot k.node h.leaves h.enters h.fresh) (rw h.stands))

-- Steps one after the other

pub steps_from_nil : (g : Graph) (entered : List ℕ) (ks : List Key) → steps_from g entered [] ≡ some ks → ks ≡ []
unfolding steps_from
steps_from_nil g entered ks e = sym (some-injective [] ks e)

-- the first step, and the rest
pub record FirstStep (g : Graph) (entered : List ℕ) (r : ℕ) (rs : List ℕ) (ks : List Key) : Type 0 where
  pub key : Key
  pub later : List Key
  pub made : step_of g entered r ≡ some key
  pub rest : steps_from g (entered ++ (key.node ∷ [])) rs ≡ some later
  pub keys : ks ≡ key ∷ later

pub steps_from_cons : (g : Graph) (entered : List ℕ) (r : ℕ) (rs : List ℕ) (ks : List Key) → steps_from g entered (r ∷ rs) ≡ some ks
    → FirstStep g entered r rs ks
unfolding steps_from
steps_from_cons g entered r rs ks e = go (step_of g entered r) refl e
  where
    onward' : (k : Key) → step_of g entered r ≡ some k → (o : Option (List Key)) → steps_from g (entered ++ (k.node ∷ [])) rs ≡ o
        → cons_key k o ≡ some ks → FirstStep g entered r rs ks
    onward' k p none q d = absurd (none-ne-some ks d)
    onward' k p (some ls) q d = record { key = k; later = ls; made = p; rest = q; keys = sym (some-injective (k ∷ ls) ks d) }

    go : (o : Option Key) → step_of g entered r ≡ o → and_then o (λ k. cons_key k (steps_from g (entered ++ (k.node ∷ [])) rs)) ≡ some ks
        → FirstStep g entered r rs ks
    go none p d = absurd (none-ne-some ks d)
    go (some k) p d = onward' k p (steps_from g (entered ++ (k.node ∷ [])) rs) refl d

-- the rows of a path are read off its steps, so two paths with the same steps are one
pub steps_rows : (g : Graph) (entered rs : List ℕ) (ks : List Key) → steps_from g entered rs ≡ some ks → rows_of ks ≡ rs
steps_rows g entered [] ks e = rw (steps_from_nil g entered ks e)
steps_rows g entered (r ∷ rs) ks e =
    let f = steps_from_cons g entered r rs ks e in
    ap rows_of f.keys ∙ ap₂ {C = List ℕ} (λ x y. x ∷ y)
    (step_of_out g entered r f.key f.made).1 (steps_rows g (entered ++ (f.key.node ∷ [])) rs f.later f.rest)

-- Rising keys

-- each key is ahead of the one before, the first of (p, j)
abbrev pub Rising : ℕ → ℕ → List Key → Type 0
Rising p j [] = Unit {0}
Rising p j (k ∷ ks) = Lex p j k.place k.node × Rising k.place k.node ks

pub rising_out : (k : Key) (ks : List Key) → T (ascending (k ∷ ks)) → Rising k.place k.node ks
unfolding ascending
rising_out k [] t = tt
rising_out k (l ∷ ks) t = let (h, t) = (T-both (follows k l) (ascending (l ∷ ks))).0 t in (follows_out k l h, rising_out l ks t)

rising_next : (k : Key) (ks : List Key) → Rising k.place k.node ks → T (ascending (k ∷ ks))
unfolding ascending
rising_next k [] r = tt
rising_next k (l ∷ ks) r = (T-both (follows k l) (ascending (l ∷ ks))).1 (follows_in k l r.0, rising_next l ks r.1)

pub rising_in : (p j : ℕ) (ks : List Key) → Rising p j ks → T (ascending ks)
unfolding ascending
rising_in p j [] r = tt
rising_in p j (k ∷ ks) r = rising_next k ks r.1

-- rising steps that are enough make a completion with these rows
pub steps_completion : (g : Graph) (qs rs : List ℕ) (s : State) (ks : List Key) → Sound g s → rs ⊆ qs → steps_from g s.entered rs ≡ some ks
    → Rising s.place s.node ks → length g.nodes ≤ length s.entered + length rs
    → Completion g qs s ks
steps_completion g qs [] s ks o w e a b =
    rw (steps_from_nil g s.entered ks e) (filled ℕ_discrete s.entered g.nodes o.once o.nodes (omega arith))
steps_completion g qs (r ∷ rs) s ks o w e a b =
    let f = steps_from_cons g s.entered r rs ks e in
    go f.key f.later f.made f.keys (λ o' a' b'. steps_completion g qs rs (after s f.key) f.later o' (λ v i. w v (there i)) f.rest a' b')
  where
    go : (k : Key) (ls : List Key) → step_of g s.entered r ≡ some k → ks ≡ k ∷ ls
        → (Sound g (after s k) → Rising k.place k.node ls → length g.nodes ≤ length (s.entered ++ (k.node ∷ [])) + length rs
        → Completion g qs (after s k) ls) → Completion g qs s ks
    go k ls p q f =
        let up = subst (Rising s.place s.node) q a in
        let h = step_of_out g s.entered r k p in
        let legal : Legal g qs s k = record { step = h.0; usable = mem_cast h.1 (w r (here refl)); above = up.0 } in
        rw q (legal, f (sound_after g qs s k o legal) up.1 (omega (arith, length_snoc s.entered k.node)))

-- the keys of a completion are the steps of its rows
pub completion_steps : (g : Graph) (rs : List ℕ) (s : State) (ks : List Key) → Completion g rs s ks
    → (steps_from g s.entered (rows_of ks) ≡ some ks) × Rising s.place s.node ks
unfolding steps_from
completion_steps g rs s [] c = (refl, tt)
completion_steps g rs s (k ∷ ks) c =
    let t = completion_steps g rs (after s k) ks c.1 in
    let made = step_of_in g s.entered k c.0.step in
    (rw made (rw t.0), (c.0.above, t.1))
