-- A search under way, breadth first. The queue stands in the lent numbers: the i-th node taken up at i, and at 2048 + i the
-- queue number of the node before it on the way.
use Rattle.std.specs.Prelude.{◌≡◌, Bool, true, false, ◌&&◌, List, ℕ, suc, ◌+◌, ◌/◌, ◌%◌, ◌≤◌, ◌<◌, ltb, length, get_or, set, if◌then◌else◌, Option, None, Some, MatchOption}
use Rattle.basics.specs.Lists.{end_of, Chain}
use Rattle.bits.specs.Bits.{has_bit}
use Rattle.graph.specs.Graph.{Graph}
use Rattle.verdict.specs.Verdict.{first_pivot}
use Rattle.search.specs.declared.Goal.{Goal}
use Rattle.search.specs.declared.Goal.TheVariants.{OnePath, Parted}
use Rattle.search.specs.declared.Search.{Search}
use Rattle.nodes.specs.declared.Node.{Node}
use Rattle.nodes.specs.declared.Steps.{Steps}
use Rattle.nodes.specs.Nodes.{IsNode, number_of, Fits, Step}
use Rattle.nodes.specs.Taken.{taken, Even, Gone}

abbrev pub queue : List ℕ → ℕ → ℕ
queue s i = get_or s i 0

abbrev pub back_of : List ℕ → ℕ → ℕ
back_of s i = get_or s (2048 + i) 0

-- x is among the first n of the queue
pub record Queued (s : List ℕ) (n x : ℕ) : Type 0 where
  pub at : ℕ
  pub low : at < n
  pub is : queue s at ≡ x

-- it is n steps back from the i-th to the first
pub data Behind (s : List ℕ) : ℕ → ℕ → Type 0 where
  first : Behind s 0 0
  later : {i n : ℕ} → 0 < i → Behind s (back_of s i) n → Behind s i (suc n)

-- what holds of the queue between visits, for any steps E and any test of what is taken up; breadth first: what is taken up later is
-- taken up from the same node or a later one, the head at most
pub record SoundQueue (E : ℕ → ℕ → Type 0) (is_taken : ℕ → Bool) (s : List ℕ) (head tail : ℕ) : Type 0 where
  pub begun : 0 < tail
  pub within : head ≤ tail
  pub few : tail ≤ 2048
  pub nodes : (i : ℕ) → i < tail → IsNode (queue s i)
  pub taken_up : (i : ℕ) → i < tail → is_taken (queue s i) ≡ true
  pub queued : (x : ℕ) → IsNode x → is_taken x ≡ true → Queued s tail x
  pub differ : (i j : ℕ) → i < j → j < tail → queue s i ≡ queue s j → ⊥
  pub back : (i : ℕ) → 0 < i → i < tail → (back_of s i < i) × E (queue s (back_of s i)) (queue s i)
  pub ordered : (i j : ℕ) → i ≤ j → j < tail → back_of s i ≤ back_of s j
  pub behind : (i : ℕ) → i < tail → back_of s i ≤ head
  pub closed : (i : ℕ) → i < head → (y : ℕ) → E (queue s i) y → (q : Queued s tail y) × (back_of s q.at ≤ i)

-- such a queue for the steps of t; pairs are taken up in both of their rows, and those one step on from the head are taken up but for what
-- is pending
pub record SoundSearch (t : Steps) (s : List ℕ) (w : Search) : Type 0 where
  pub queue : SoundQueue (Step t) (taken w.seen) s w.head w.tail
  pub even : Even w.seen.pairs
  pub gone : Gone t w.seen w.pending (get_or s w.head 0)

-- the queue with y at its end, taken up from the one at `from`
unfoldable pub enqueue : List ℕ → ℕ → ℕ → ℕ → List ℕ
enqueue s y from tail = set (set s tail y) (2048 + tail) from

-- the set that a search is to end in
abbrev pub mask_of : Goal → ℕ
mask_of (OnePath m) = m
mask_of (Parted m) = m

-- for one path a state in the set is a goal, and for two that part no state
abbrev pub is_goal_state : Goal → ℕ → Bool
is_goal_state (OnePath m) x = has_bit m x
is_goal_state (Parted m) x = false

-- both paths are in the set, parted or, for a search of one path, not
unfoldable pub is_goal : Goal → ℕ → Bool
is_goal goal x =
    if ltb x 64 then is_goal_state goal x
    else has_bit (mask_of goal) (x / 64) && has_bit (mask_of goal) (x % 64)

-- a search of one node
pub record Begun (t : Steps) (s : List ℕ) (start : ℕ) (w : Search) : Type 0 where
  pub sound : SoundSearch t s w
  pub first : queue s 0 ≡ start
  pub one : w.tail ≡ 1

-- a visit that takes up y, the i-th of the queue, and one that finds the search over
pub record TookUp (t : Steps) (s s' : List ℕ) (w w' : Search) (i : ℕ) (y : Node) : Type 0 where
  pub sound : SoundSearch t s' w'
  pub kept : (j : ℕ) → j < w.tail → queue s' j ≡ queue s j
  pub last : i ≡ w.tail
  pub more : w'.tail ≡ w.tail + 1
  pub is : queue s' i ≡ number_of y
  pub fits : Fits y

pub record Ended (t : Steps) (s s' : List ℕ) (w w' : Search) : Type 0 where
  pub sound : SoundSearch t s' w'
  pub kept : s' ≡ s
  pub still : w'.tail ≡ w.tail
  pub over : w'.head ≡ w'.tail

abbrev pub Visited : Steps → List ℕ → List ℕ → Search → Search → Option (ℕ × Node) → Type 0
Visited t s s' w w' None = Ended t s s' w w'
Visited t s s' w w' (Some (i, y)) = TookUp t s s' w w' i y

-- a visit of any queue: it takes one node up, or the search is over; where the queue is that of a search, the search goes on
pub record Tried (t : Steps) (s s' : List ℕ) (w w' : Search) (r : Option (ℕ × Node)) : Type 0 where
  pub ends : MatchOption r ((w'.tail ≡ w.tail) × (w'.tail ≤ w'.head)) (λ _. w'.tail ≡ w.tail + 1)
  pub right : SoundSearch t s w → Visited t s s' w w' r

-- a search under way that has taken up no goal
pub record Searching (t : Steps) (s : List ℕ) (goal : Goal) (start : ℕ) (w : Search) : Type 0 where
  pub sound : SoundSearch t s w
  pub first : queue s 0 ≡ start
  pub none : (i : ℕ) → i < w.tail → is_goal goal (queue s i) ≡ false

-- the i-th node of the queue, its last, is a goal, and no chain of steps to a goal is shorter than the way back from it
pub record Reached (t : Steps) (s : List ℕ) (goal : Goal) (start i : ℕ) : Type 0 where
  pub head : ℕ
  pub tail : ℕ
  pub is_taken : ℕ → Bool
  pub sound : SoundQueue (Step t) is_taken s head tail
  pub first : queue s 0 ≡ start
  pub last : tail ≡ i + 1
  pub meets : is_goal goal (queue s i) ≡ true
  pub nearest : (n : ℕ) → Behind s i n → (nodes : List ℕ) → Chain (Step t) start nodes → is_goal goal (end_of start nodes) ≡ true → n ≤ length nodes

-- the queue has been gone through, no node of it is a goal, and no chain of steps leads to one
pub record Missed (t : Steps) (s : List ℕ) (goal : Goal) (start : ℕ) : Type 0 where
  pub tail : ℕ
  pub is_taken : ℕ → Bool
  pub sound : SoundQueue (Step t) is_taken s tail tail
  pub first : queue s 0 ≡ start
  pub none : (i : ℕ) → i < tail → is_goal goal (queue s i) ≡ false
  pub unmet : (nodes : List ℕ) → Chain (Step t) start nodes → is_goal goal (end_of start nodes) ≡ false

-- what a search gives: the queue number of a goal, or None, where there is none
abbrev pub Searched : Steps → List ℕ → Goal → ℕ → Option ℕ → Type 0
Searched t s goal start None = Missed t s goal start
Searched t s goal start (Some i) = Reached t s goal start i

-- the first pivot, which is numbered 0 in the rules where there is none
abbrev pub IsFirstPivot : Graph → Option ℕ → Type 0
IsFirstPivot g None = first_pivot g ≡ 0
IsFirstPivot g (Some q) = (0 < q) × (first_pivot g ≡ q)
