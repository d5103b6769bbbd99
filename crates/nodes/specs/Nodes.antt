-- The nodes of a search, as numbers, and the steps between them. Below 64 a node is a state: both paths are there, and have not
-- parted. From 64 on it is a * 64 + b with b ≤ a: they have parted, and one is at position a, the other at b. Paths have parted
-- where they are at different positions, came to one by different links, or had parted before.
use Rattle.std.specs.Prelude.{◌≡◌, Bool, true, ◌&&◌, ◌||◌, not, List, ℕ, ◌+◌, ◌*◌, ◌/◌, ◌%◌, ◌≤◌, ◌<◌, eqb, ltb, leb, get_or, if◌then◌else◌}
use Rattle.bits.specs.Bits.{has_bit}
use Rattle.nodes.specs.declared.Node.{Node}
use Rattle.nodes.specs.declared.Node.TheVariants.{Together, Parted}
use Rattle.nodes.specs.declared.Steps.{Steps}

pub data IsNode : ℕ → Type 0 where
  one : {a : ℕ} → a ≤ 60 → IsNode a
  two : {a b : ℕ} → 1 ≤ b → b ≤ a → a ≤ 60 → IsNode (a * 64 + b)

-- the node of two positions in either order
unfoldable pub pack : ℕ → ℕ → ℕ
pack a b = if ltb a b then b * 64 + a else a * 64 + b

-- where the two paths are
unfoldable pub left_of : ℕ → ℕ
left_of x = if ltb x 64 then x else x / 64

unfoldable pub right_of : ℕ → ℕ
right_of x = if ltb x 64 then x else x % 64

-- ---- nodes as the program holds them

-- the number of a node
abbrev pub number_of : Node → ℕ
number_of (Together a) = a
number_of (Parted a b) = a * 64 + b

-- it is at states, or at positions in order
abbrev pub Fits : Node → Type 0
Fits (Together a) = a ≤ 60
Fits (Parted a b) = (1 ≤ b) × (b ≤ a) × (a ≤ 60)

-- it has the number x, which need not be a node's
abbrev pub Numbered : ℕ → Node → Type 0
Numbered x (Together a) = (x < 64) × (a ≡ x)
Numbered x (Parted a b) = (64 ≤ x) × (a ≡ x / 64) × (b ≡ x % 64)

-- where its two paths are
abbrev pub left_side : Node → ℕ
left_side (Together a) = a
left_side (Parted a b) = a

abbrev pub right_side : Node → ℕ
right_side (Together a) = a
right_side (Parted a b) = b

-- ---- steps

-- position i may come next at state u, by the rows F of a graph
abbrev pub goes : List ℕ → ℕ → ℕ → Bool
goes F u i = has_bit (get_or F u 0) i && (leb 1 i && ltb i 61)

-- m is the set of positions that may come next at u
pub record RowOf (F : List ℕ) (u m : ℕ) : Type 0 where
  pub bits : (i : ℕ) → has_bit m i ≡ goes F u i

-- one letter on from x, the paths come to a and b, which share a letter, and they have parted: before, or at different positions, or by
-- different links, where two or more lead from x to a
pub record Parts (t : Steps) (x a b : ℕ) : Type 0 where
  pub left : goes t.follow (left_of x) a ≡ true
  pub right : goes t.follow (right_of x) b ≡ true
  pub share : has_bit (get_or t.shares a 0) b ≡ true
  pub apart : ((leb 64 x || has_bit (get_or t.doubles x 0) a) || not (eqb a b)) ≡ true

pub data Step (t : Steps) (x : ℕ) : ℕ → Type 0 where
  single : {a : ℕ} → x < 64 → goes t.follow x a ≡ true → Step t x a
  beside : {a b : ℕ} → Parts t x a b → Step t x (pack a b)

-- m is the set of the partners b of a, by its row of shared letters and its row of those taken up
pub record PartnersOf (to shared seen a own m : ℕ) : Type 0 where
  pub bits : (b : ℕ) → has_bit m b ≡ (((has_bit to b && has_bit shared b) && not (has_bit seen b)) && (has_bit own a || not (eqb a b)))
