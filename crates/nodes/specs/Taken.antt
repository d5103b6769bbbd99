-- Which nodes are taken up, and the nodes one step on that are not.
use Rattle.std.specs.Prelude.{◌≡◌, Bool, true, false, ◌||◌, not, List, ℕ, ◌/◌, ◌%◌, ◌≤◌, ◌<◌, eqb, ltb, get_or, length, if◌then◌else◌, Option, None, Some}
use Rattle.bits.specs.Bits.{has_bit}
use Rattle.nodes.specs.declared.Next.{Next}
use Rattle.nodes.specs.declared.Node.{Node}
use Rattle.nodes.specs.declared.Seen.{Seen}
use Rattle.nodes.specs.declared.Steps.{Steps}
use Rattle.nodes.specs.Nodes.{IsNode, pack, number_of, Fits, goes, Parts}

-- is x taken up: of the states those of a set, and the pair of a and b where row a has b
unfoldable pub taken : Seen → ℕ → Bool
taken seen x = if ltb x 64 then has_bit seen.states x else has_bit (get_or seen.pairs (x / 64) 0) (x % 64)

-- a pair is taken up in both rows or in neither
pub record Even (seen : List ℕ) : Type 0 where
  pub size : length seen ≡ 61
  pub same : (a b : ℕ) → a ≤ 60 → b ≤ 60 → has_bit (get_or seen a 0) b ≡ has_bit (get_or seen b 0) a

-- x is all that is taken up
pub record OneTaken (x : ℕ) (seen : Seen) : Type 0 where
  pub takes : (z : ℕ) → IsNode z → taken seen z ≡ eqb x z
  pub even : Even seen.pairs

-- y is taken up besides
pub record TakenUp (seen seen' : Seen) (y : ℕ) : Type 0 where
  pub takes : (z : ℕ) → IsNode z → taken seen' z ≡ (taken seen z || eqb y z)
  pub even : Even seen.pairs → Even seen'.pairs

-- a of the set `from` and b of the set `to`, that share a letter by the rows S, are not taken up, and differ unless a is of the set `own`
pub record Free (S : List ℕ) (seen : Seen) (from to own a b : ℕ) : Type 0 where
  pub left : has_bit from a ≡ true
  pub right : has_bit to b ≡ true
  pub share : has_bit (get_or S a 0) b ≡ true
  pub new : has_bit (get_or seen.pairs a 0) b ≡ false
  pub apart : (has_bit own a || not (eqb a b)) ≡ true

-- r is the node of such a pair; and of each such pair a is pending
pub record FoundPair (S : List ℕ) (seen : Seen) (from to own : ℕ) (r : Next) : Type 0 where
  pub left : ℕ
  pub right : ℕ
  pub free : Free S seen from to own left right
  pub is : number_of r.node ≡ pack left right
  pub fits : Fits r.node
  pub pending : (a b : ℕ) → Free S seen from to own a b → has_bit r.pending a ≡ true

-- such a pair, or None where there is none
abbrev pub FindsPair : List ℕ → Seen → ℕ → ℕ → ℕ → Option Next → Type 0
FindsPair S seen from to own None = (a b : ℕ) → Free S seen from to own a b → ⊥
FindsPair S seen from to own (Some r) = FoundPair S seen from to own r

-- a node one step on from x that is not taken up
pub data Fresh (t : Steps) (seen : Seen) (x : ℕ) : ℕ → Type 0 where
  new_single : {a : ℕ} → x < 64 → goes t.follow x a ≡ true → has_bit seen.states a ≡ false → Fresh t seen x a
  new_beside : {a b : ℕ} → Parts t x a b → has_bit (get_or seen.pairs a 0) b ≡ false → Fresh t seen x (pack a b)

-- each pair one step on from x whose first path comes to a position that is not pending is taken up
abbrev pub Gone : Steps → Seen → ℕ → ℕ → Type 0
Gone t seen pending x = (a b : ℕ) → Parts t x a b → has_bit pending a ≡ false → has_bit (get_or seen.pairs a 0) b ≡ true

-- r is a node one step on from x that is not taken up, and what is pending then
pub record Found (t : Steps) (seen : Seen) (pending x : ℕ) (r : Next) : Type 0 where
  pub fresh : Fresh t seen x (number_of r.node)
  pub fits : Fits r.node
  pub gone : Gone t seen pending x → Gone t seen r.pending x

-- such a node, or None where there is none, if of pairs only those that are pending need be looked at
abbrev pub Finds : Steps → Seen → ℕ → Node → Option Next → Type 0
Finds t seen pending x None = Fits x → Gone t seen pending (number_of x) → (y : ℕ) → Fresh t seen (number_of x) y → ⊥
Finds t seen pending x (Some r) = Found t seen pending (number_of x) r
