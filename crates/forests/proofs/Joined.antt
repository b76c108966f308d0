-- Nodes joined by rows: `Joined g rs u v` is a run of the rows rs from node to node between u and v. It is an equivalence on the nodes,
-- grows with the rows, and one row more joins only what it leads over to (`split`).
use mathlib.Core.Path.{◌∙◌, ◌≡◌, refl, subst, sym}
use mathlib.Core.Logic.{◌⊎◌, inl, inr, ⊎_elim}
use mathlib.Core.List.Memᴰ.{cases_cons as mem_cases}
use mathlib.Core.List.Memᴰ.{cast as mem_cast}
use mathlib.Core.List.Memᴰ.{not-nil as mem_nil}
use mathlib.Core.List.{List, [], ◌∷◌}
use Prim.Native.Nat.{◌<◌, ℕ}
use lib.ListN.{length}
use Rattle.lists.proofs.Members.{◌∈◌, ◌⊆◌}
use Rattle.graph.specs.Graph.{Graph, first_end, second_end}
use Rattle.graph.proofs.Growth.{Joins, back, forth, joins_sym}
use Rattle.graph.proofs.Minimal.{WellFormed, row_known}

pub data Joined (g : Graph) (rs : List ℕ) (u : ℕ) : ℕ → Type 0 where
  stay : {v : ℕ} → u ∈ g.nodes → u ≡ v → Joined g rs u v
  walk : {r w v : ℕ} → Joined g rs u w → r ∈ rs → Joins g r w v → v ∈ g.nodes → Joined g rs u v

-- both ends of row r are nodes
pub record Lies (g : Graph) (r : ℕ) : Type 0 where
  pub first : first_end g r ∈ g.nodes
  pub second : second_end g r ∈ g.nodes

pub lies_in_lem : {g : Graph} {r u v : ℕ} → Joins g r u v → u ∈ g.nodes → v ∈ g.nodes → Lies g r
lies_in_lem (forth a b) m n = record { first = mem_cast a m; second = mem_cast b n }
lies_in_lem (back a b) m n = record { first = mem_cast a n; second = mem_cast b m }

pub lies_known : (g : Graph) → WellFormed g → (r : ℕ) → Lies g r → r < length g.first_ends
lies_known g wf r h = row_known g wf {r = r} (forth refl refl) h.first h.second

-- a row joins the same two nodes both times, this or the other way round
pub joins_same : {g : Graph} {r a b u v : ℕ} → Joins g r a b → Joins g r u v → ((u ≡ a) × (v ≡ b)) ⊎ ((u ≡ b) × (v ≡ a))
joins_same (forth p q) (forth s t) = inl (sym s ∙ p, sym t ∙ q)
joins_same (forth p q) (back s t) = inr (sym t ∙ q, sym s ∙ p)
joins_same (back p q) (forth s t) = inr (sym s ∙ p, sym t ∙ q)
joins_same (back p q) (back s t) = inl (sym t ∙ q, sym s ∙ p)

module _ {g : Graph} {rs : List ℕ} where
  pub joined_left : {u v : ℕ} → Joined g rs u v → u ∈ g.nodes
  joined_left (stay m e) = m
  joined_left (walk j i o m) = joined_left j

  pub joined_right : {u v : ℕ} → Joined g rs u v → v ∈ g.nodes
  joined_right (stay m e) = mem_cast (sym e) m
  joined_right (walk j i o m) = m

  pub joined_refl : {u : ℕ} → u ∈ g.nodes → Joined g rs u u
  joined_refl m = stay m refl

  pub joined_row : {r u v : ℕ} → r ∈ rs → Joins g r u v → u ∈ g.nodes → v ∈ g.nodes → Joined g rs u v
  joined_row i o m n = walk (stay m refl) i o n

  pub joined_trans : {u v w : ℕ} → Joined g rs u v → Joined g rs v w → Joined g rs u w
  joined_trans {u} j (stay m e) = subst (λ (x : ℕ). Joined g rs u x) e j
  joined_trans j (walk k i o m) = walk (joined_trans j k) i o m

  pub joined_sym : {u v : ℕ} → Joined g rs u v → Joined g rs v u
  joined_sym (stay m e) = stay (mem_cast (sym e) m) (sym e)
  joined_sym (walk j i o m) = joined_trans (joined_row i (joins_sym o) m (joined_right j)) (joined_sym j)

  -- the ends of a row that lies between nodes
  pub joined_ends : {r : ℕ} → r ∈ rs → Lies g r → Joined g rs (first_end g r) (second_end g r)
  joined_ends i h = joined_row i (forth refl refl) h.first h.second

  -- what row r joins is joined exactly if its ends are
  pub ends_joined : {r a b : ℕ} → Joins g r a b → Joined g rs a b → Joined g rs (first_end g r) (second_end g r)
  ends_joined (forth p q) j = rw (p, q) j
  ends_joined (back p q) j = rw (p, q) (joined_sym j)

  pub joined_ends_by : {r a b : ℕ} → Joins g r a b → Joined g rs (first_end g r) (second_end g r) → Joined g rs a b
  joined_ends_by (forth p q) j = rw (p, q) at j
  joined_ends_by (back p q) j = joined_sym (rw (p, q) at j)

-- nodes joined in one graph are joined in another, where the nodes go by f and what each row joins is joined there
pub joined_map : (g h : Graph) (rs qs : List ℕ) (f : ℕ → ℕ) → ((v : ℕ) → v ∈ g.nodes → f v ∈ h.nodes)
    → ((r u v : ℕ) → r ∈ rs → Joins g r u v → u ∈ g.nodes → v ∈ g.nodes → Joined h qs (f u) (f v))
    → {u v : ℕ} → Joined g rs u v → Joined h qs (f u) (f v)
joined_map g h rs qs f n s {u} (stay m e) = subst (λ (x : ℕ). Joined h qs (f u) (f x)) e (joined_refl (n u m))
joined_map g h rs qs f n s (walk {r} {w} {v} j i o m) = joined_trans (joined_map g h rs qs f n s j) (s r w v i o (joined_right j) m)

module _ {g : Graph} where
  -- by rows of which each one's ends are joined
  pub joined_by_lem : {rs qs : List ℕ} → ((r : ℕ) → r ∈ rs → Lies g r → Joined g qs (first_end g r) (second_end g r)) → {u v : ℕ} → Joined g rs u v → Joined g qs u v
  joined_by_lem {rs} {qs} s = joined_map g g rs qs (λ x. x) (λ v m. m) (λ r u v i o m n. joined_ends_by o (s r i (lies_in_lem o m n)))

  pub joined_more : {rs qs : List ℕ} → rs ⊆ qs → {u v : ℕ} → Joined g rs u v → Joined g qs u v
  joined_more s = joined_by_lem (λ r i h. joined_ends (s r i) h)

  -- no rows join only a node with itself
  pub joined_none : {u v : ℕ} → Joined g [] u v → u ≡ v
  joined_none (stay m e) = e
  joined_none (walk j i o m) = absurd (mem_nil i)

-- a run over row r: to one of its ends by rs, and on from the other
pub record Over (g : Graph) (r : ℕ) (rs : List ℕ) (u v : ℕ) : Type 0 where
  pub near : ℕ
  pub far : ℕ
  pub row : Joins g r near far
  pub before : Joined g rs u near
  pub after : Joined g rs far v

-- SPLIT: with one row more
pub split : {g : Graph} {r : ℕ} {rs : List ℕ} {u v : ℕ} → Joined g (r ∷ rs) u v → Joined g rs u v ⊎ Over g r rs u v
split (stay m e) = inl (stay m e)
split {g} {r} {rs} {u} (walk {r = q} {w} {v} j i o m) = ⊎_elim (λ e. by (rw e at o) (split j)) (λ t. on t (split j)) (mem_cases i)
  where
    by : Joins g r w v → Joined g rs u w ⊎ Over g r rs u w → Joined g rs u v ⊎ Over g r rs u v
    by o (inl k) = inr (record { near = w; far = v; row = o; before = k; after = joined_refl m })
    by o (inr h) = ⊎_elim
        (λ (a, b). inr (record { near = h.near; far = h.far; row = h.row; before = h.before; after = stay (joined_left h.after) (sym b) }))
        (λ (a, b). inl (subst (Joined g rs u) (sym b) h.before))
        (joins_same h.row o)

    on : q ∈ rs → Joined g rs u w ⊎ Over g r rs u w → Joined g rs u v ⊎ Over g r rs u v
    on t (inl k) = inl (walk k t o m)
    on t (inr h) = inr (record { near = h.near; far = h.far; row = h.row; before = h.before; after = walk h.after t o m })
