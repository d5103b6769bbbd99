-- Sets and rows of positions, as the program holds them, and the numbers of links. Positions past 60 are counted and have no place
-- in a set and no row, so each fact of sets and rows holds of every number; the numbers of links are those of kept pairs.
use Rattle.std.specs.Prelude.{◌≡◌, Bool, true, false, ◌&&◌, ◌||◌, List, ℕ, zero, suc, ◌+◌, ◌*◌, ◌<◌, min, eqb, ltb, get_or, if◌then◌else◌}
use Rattle.bits.specs.Bits.{has_bit}

-- has a number a place in a set, and a row
abbrev pub kept : ℕ → Bool
kept b = ltb b 61

-- the set m has the numbers that pass f
abbrev pub Marks : ℕ → (ℕ → Bool) → Type 0
Marks m f = (b : ℕ) → has_bit m b ≡ (kept b && f b)

-- in the rows r, the pairs that pass g may follow
abbrev pub Links : List ℕ → (ℕ → ℕ → Bool) → Type 0
Links r g = (a b : ℕ) → has_bit (get_or r a 0) b ≡ ((kept a && kept b) && g a b)

-- the rows r are those before, and the pairs that pass g
abbrev pub Adds : List ℕ → (ℕ → ℕ → Bool) → List ℕ → Type 0
Adds before g r = (a b : ℕ) → has_bit (get_or r a 0) b ≡ (has_bit (get_or before a 0) b || ((kept a && kept b) && g a b))

-- the rows r are those before, and each of firsts may follow each of lasts that has a row
abbrev pub Linked : List ℕ → ℕ → ℕ → List ℕ → Type 0
Linked before lasts firsts r = (a b : ℕ) → has_bit (get_or r a 0) b ≡ (has_bit (get_or before a 0) b || ((kept a && has_bit lasts a) && has_bit firsts b))

-- ---- numbers of links

-- the entry of a pair in the table of links beyond the first
abbrev pub entry : ℕ → ℕ → ℕ
entry a b = 61 * a + b

-- how many links lead from a to b: the first is in the rows, the others are counted
abbrev pub number : List ℕ → List ℕ → ℕ → ℕ → ℕ
number rows more a b = (if has_bit (get_or rows a 0) b then 1 else 0) + get_or more (entry a b) 0

-- one more, up to 256
abbrev pub one_more : ℕ → ℕ
one_more n = if ltb n 256 then suc n else n

-- k more, up to 256
abbrev pub after : ℕ → ℕ → ℕ
after zero n = n
after (suc k) n = one_more (after k n)

-- one more beyond the first, up to 255
abbrev pub further : ℕ → ℕ
further n = min (n + 1) 255

-- of each kept pair, as many links more as k says
abbrev pub Counts : List ℕ → List ℕ → (ℕ → ℕ → ℕ) → List ℕ → List ℕ → Type 0
Counts rows more k rows' more' = (a b : ℕ) → kept a ≡ true → kept b ≡ true → number rows' more' a b ≡ after (k a b) (number rows more a b)

-- no link is counted yet
abbrev pub NoneCounted : List ℕ → Type 0
NoneCounted more = (k : ℕ) → get_or more k 0 ≡ 0

-- no link leads from a position past n, and none is counted
pub record Clear (n : ℕ) (rows more : List ℕ) : Type 0 where
  pub unlinked : (a b : ℕ) → n < a → has_bit (get_or rows a 0) b ≡ false
  pub none : (a b : ℕ) → kept a ≡ true → kept b ≡ true → n < a → number rows more a b ≡ 0

-- one more beyond the first from a to each of a set
pub record Further (more : List ℕ) (a set : ℕ) (more' : List ℕ) : Type 0 where
  pub counts : (x y : ℕ) → kept y ≡ true → get_or more' (entry x y) 0 ≡ (if eqb a x && has_bit set y then further (get_or more (entry x y) 0) else get_or more (entry x y) 0)
  pub none : set ≡ 0 → more' ≡ more

-- each of firsts may follow each of lasts that has a row, by one link more; where r is false none is a second one
pub record LinksMore (rows more : List ℕ) (lasts firsts : ℕ) (rows' more' : List ℕ) (r : Bool) : Type 0 where
  pub linked : Linked rows lasts firsts rows'
  pub counts : Counts rows more (λ a b. if has_bit lasts a && has_bit firsts b then 1 else 0) rows' more'
  pub none : r ≡ false → more' ≡ more
