-- Pages: the trees of a list L, each of w rows, written into pages of numbers, call after call.
-- A call is given a page of any length and content, and a start: the tree after which it goes on, [] for the first call.
use Rattle.std.specs.Prelude.{Bool, List, [], ◌++◌, ◌∷◌, map, ◌*◌, ◌/◌, min, suc, zero, ℕ, ltb, drop, length, take}
use Rattle.std.proofs.Math.Option.{Option, none, some}
use Rattle.lists.specs.Lists.{pick, same, sum}

-- One call

-- what stands behind p in a list; nothing, where p does not stand there
unfoldable pub behind : List ℕ → List (List ℕ) → List (List ℕ)
behind p [] = []
behind p (q ∷ l) = pick (same p q) l (behind p l)

-- what is left to write from a start on
abbrev pub rest_after : List (List ℕ) → List ℕ → List (List ℕ)
rest_after L [] = L
rest_after L (x ∷ p) = behind (x ∷ p) L

-- the trees' numbers, one tree after the other
unfoldable pub flat : List (List ℕ) → List ℕ
flat [] = []
flat (p ∷ l) = p ++ flat l

-- how many trees go into a page
abbrev pub page_count : ℕ → List ℕ → List (List ℕ) → ℕ
page_count w page rest = min (length page / w) (length rest)

-- the page's content after the call: those trees, and what stood behind them
abbrev pub page_after : ℕ → List ℕ → List (List ℕ) → List ℕ
page_after w page rest = flat (take (page_count w page rest) rest) ++ drop (page_count w page rest * w) page

-- whether trees are left after the call
abbrev pub more_after : ℕ → List ℕ → List (List ℕ) → Bool
more_after w page rest = ltb (page_count w page rest) (length rest)

pub record Answer : Type 0 where
  pub count : ℕ
  pub page : List ℕ
  pub more : Bool

abbrev pub answer : ℕ → List ℕ → List (List ℕ) → Answer
answer w page rest = record { count = page_count w page rest; page = page_after w page rest; more = more_after w page rest }

-- A call; a page that is too short for one tree is refused.
abbrev pub call : ℕ → List (List ℕ) → List ℕ → List ℕ → Option Answer
call w L start page = pick (ltb (length page) w) none (some (answer w page (rest_after L start)))

-- A run of calls

-- the first n pieces of w numbers each
unfoldable pub pieces : ℕ → ℕ → List ℕ → List (List ℕ)
pieces w zero page = []
pieces w (suc n) page = take w page ∷ pieces w n (drop w page)

-- the trees that a call wrote, read off the page
abbrev pub read_back : ℕ → Option Answer → List (List ℕ)
read_back w none = []
read_back w (some a) = pieces w a.count a.page

-- the last tree; [] if there is none
abbrev pub last_of : List (List ℕ) → List ℕ
last_of [] = []
last_of (p ∷ []) = p
last_of (p ∷ q ∷ l) = last_of (q ∷ l)

-- an answered call's mark, and how many trees were written up to and with it
pub record Mark : Type 0 where
  pub up_to : ℕ
  pub more : Bool

abbrev pub mark_of : List (List ℕ) → Option Answer → Option Mark
mark_of now none = none
mark_of now (some a) = some (record { up_to = length now; more = a.more })

-- the trees that the calls wrote, in order, and for each call its mark, none if it was refused
pub record Outcome : Type 0 where
  pub written : List (List ℕ)
  pub marks : List (Option Mark)

-- The calls, one after the other, where the trees `done` are written: each starts after the last tree written.
unfoldable pub run : ℕ → List (List ℕ) → List (List ℕ) → List (List ℕ) → Outcome
run w L done [] = record { written = done; marks = [] }
run w L done (page ∷ pages) =
    let a = call w L (last_of done) page in
    let now = done ++ read_back w a in
    let later = run w L now pages in
    record { written = later.written; marks = mark_of now a ∷ later.marks }

-- how many trees the pages can hold, each by itself
abbrev pub room : ℕ → List (List ℕ) → ℕ
room w pages = sum (map (λ page. length page / w) pages)

-- A cost table and a witness table: how many whole rows both hold, of k costs and of w row numbers; asked only where neither is 0.
unfoldable pub capacity : ℕ → ℕ → List ℕ → List ℕ → ℕ
capacity k w costs witnesses = min (length costs / k) (length witnesses / w)
