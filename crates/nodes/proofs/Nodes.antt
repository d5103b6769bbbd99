-- Nodes and steps: a step leads to a node, a node has a number of its own below 1891, and whether it is taken up is one bit in
-- either row of its pair. The numbers: row a of the triangle of pairs fills a line of 61 with row 61 - a. Assumes nothing.
use mathlib.Core.Path.{◌≡◌, sym, ap, ap₂, ◌∙◌, subst}
use mathlib.Core.Logic.{◌⊎◌, inl, inr, ⊎_elim}
use mathlib.Core.Bool.{Bool, true, false, ◌&&◌, ◌||◌, not, true≢false}
use mathlib.Core.List.{List}
use Prim.Native.Nat.{ℕ, ◌+◌, ◌-◌, ◌*◌, ◌/◌, ◌%◌, ◌^◌, ◌≤◌, ◌<◌}
use native.Mathlib.Omega.{arith}
use borrow.Author.Tests.{lt-ltb, le-ltb, lt-leb, le-leb, not-true}
use lib.Dec.{eqb, ltb, leb}
use lib.ListN.{get_or}
use Rattle.std.specs.Prelude.{if◌then◌else◌, Option, None, Some}
use Rattle.basics.specs.Folds.{LeastOf}
use Rattle.basics.proofs.Tests.{and_parts, and_of, or_left, le_or_lt, if_yes, if_no, by_test}
use Rattle.bits.specs.Bits.{has_bit}
use Rattle.bits.proofs.Laws.{has_ones}
use Rattle.bits.proofs.Walk.{Passed}
use Rattle.nodes.specs.declared.Next.{Next}
use Rattle.nodes.specs.declared.Node.{Node}
use Rattle.nodes.specs.declared.Node.TheVariants.{Together, Parted as Two}
use Rattle.nodes.specs.declared.Seen.{Seen}
use Rattle.nodes.specs.declared.Steps.{Steps}
use Rattle.nodes.specs.Nodes.{IsNode, one, two, pack, left_of, right_of, number_of, Fits, Numbered, left_side, right_side, goes, RowOf, Parts, Step, single, beside, PartnersOf}
use Rattle.nodes.specs.Taken.{taken, Even, Free, FoundPair, FindsPair, Fresh, new_single, new_beside, Gone, Found, Finds}
use Rattle.std.proofs.lemmas.Grind.{common_steps}

-- ---- the two sides of a node

pub pack_less : (a b : ℕ) → a < b → pack a b ≡ b * 64 + a
unfolding pack
pack_less a b h = if_yes (b * 64 + a) (a * 64 + b) (ltb a b) (lt-ltb a b h)

pub pack_more : (a b : ℕ) → b ≤ a → pack a b ≡ a * 64 + b
unfolding pack
pack_more a b h = if_no (b * 64 + a) (a * 64 + b) (ltb a b) (le-ltb a b h)

-- in either order
pub pack_swap : (a b : ℕ) → pack a b ≡ pack b a
pack_swap a b = grind (arith, common_steps, pack_less, pack_more, le_or_lt)

-- what holds of a pair in order, and does not tell the order, holds of every pair
by_order : (P : ℕ → ℕ → Type 0) → ((a b : ℕ) → P a b → P b a) → ((a b : ℕ) → b ≤ a → P a b) → (a b : ℕ) → P a b
by_order P swap f a b = ⊎_elim (λ h. f a b h) (λ h. swap b a (f b a (omega arith))) (le_or_lt b a)

pub left_low : (x : ℕ) → x < 64 → left_of x ≡ x
unfolding left_of
left_low x h = if_yes x (x / 64) (ltb x 64) (lt-ltb x 64 h)

pub right_low : (x : ℕ) → x < 64 → right_of x ≡ x
unfolding right_of
right_low x h = if_yes x (x % 64) (ltb x 64) (lt-ltb x 64 h)

pub left_high : (x : ℕ) → 64 ≤ x → left_of x ≡ x / 64
unfolding left_of
left_high x h = if_no x (x / 64) (ltb x 64) (le-ltb x 64 h)

pub right_high : (x : ℕ) → 64 ≤ x → right_of x ≡ x % 64
unfolding right_of
right_high x h = if_no x (x % 64) (ltb x 64) (le-ltb x 64 h)

-- positions that can stand in a pair
pub record Places (a b : ℕ) : Type 0 where
  pub left_low : 1 ≤ a
  pub left_high : a ≤ 60
  pub right_low : 1 ≤ b
  pub right_high : b ≤ 60

turned : (a b : ℕ) → Places a b → Places b a
turned a b h = record { left_low = h.right_low; left_high = h.right_high; right_low = h.left_low; right_high = h.left_high }

-- the sides of a pair's node are its two positions, the greater one first
pub record Sides (a b : ℕ) : Type 0 where
  pub high : 64 ≤ pack a b
  pub low : pack a b < 3904
  pub sides : ((left_of (pack a b) ≡ a) × (right_of (pack a b) ≡ b)) ⊎ ((left_of (pack a b) ≡ b) × (right_of (pack a b) ≡ a))

pub sides : (a b : ℕ) → Places a b → Sides a b
sides = by_order (λ a b. Places a b → Sides a b) swap ordered
  where
    swap : (a b : ℕ) → (Places a b → Sides a b) → Places b a → Sides b a
    swap a b f h = let s = f (turned b a h) in let e = pack_swap a b in record {
      high = subst (λ (x : ℕ). 64 ≤ x) e s.high;
      low = subst (λ (x : ℕ). x < 3904) e s.low;
      sides = subst (λ (x : ℕ). ((left_of x ≡ b) × (right_of x ≡ a)) ⊎ ((left_of x ≡ a) × (right_of x ≡ b))) e (⊎_elim inr inl s.sides);
    }

    ordered : (a b : ℕ) → b ≤ a → Places a b → Sides a b
    ordered a b l h =
        let e = pack_more a b l in
        let big : 64 ≤ a * 64 + b = omega arith in
        let left : (a * 64 + b) / 64 ≡ a = omega arith in
        let right : (a * 64 + b) % 64 ≡ b = omega arith in
        record {
          high = omega arith;
          low = omega arith;
          sides = inl (ap left_of e ∙ left_high (a * 64 + b) big ∙ left, ap right_of e ∙ right_high (a * 64 + b) big ∙ right);
        }

pub pack_node : (a b : ℕ) → Places a b → IsNode (pack a b)
pack_node = by_order (λ a b. Places a b → IsNode (pack a b)) (λ a b f h. subst IsNode (pack_swap a b) (f (turned b a h)))
    (λ a b l h. subst IsNode (sym (pack_more a b l)) (two {a = a} {b = b} h.right_low l h.left_high))

-- ---- nodes as the program holds them

-- the node of a node's number
pub numbered_fits : (x : ℕ) (n : Node) → IsNode x → Numbered x n → Fits n × (number_of n ≡ x)
numbered_fits x (Together a) h e = let k : x ≤ 60 = low x h e.0 in (subst (λ (i : ℕ). i ≤ 60) (sym e.1) k, e.1)
  where
    low : (x : ℕ) → IsNode x → x < 64 → x ≤ 60
    low x (one h) k = h
    low x (two {a} {b} l m h) k = absurd (omega arith)
numbered_fits x (Two a b) h e =
    let o = ordered x h e.0 in
    let l = o.0 in
    let m = o.1 in
    let n = o.2 in
    let p = e.1 in
    let q = e.2 in
    ((omega arith, omega arith, omega arith), omega arith)
  where
    ordered : (x : ℕ) → IsNode x → 64 ≤ x → (1 ≤ x % 64) × (x % 64 ≤ x / 64) × (x / 64 ≤ 60)
    ordered x (one {a} k) l = absurd (omega arith)
    ordered x (two {a} {b} l m k) n = omega arith

-- and its sides
pub numbered_sides : (x : ℕ) (n : Node) → Numbered x n → (left_side n ≡ left_of x) × (right_side n ≡ right_of x)
numbered_sides x (Together a) e = (e.1 ∙ sym (left_low x e.0), e.1 ∙ sym (right_low x e.0))
numbered_sides x (Two a b) e = (e.1 ∙ sym (left_high x e.0), e.2 ∙ sym (right_high x e.0))

-- ---- a step leads to a node

pub goes_parts : (F : List ℕ) (u i : ℕ) → goes F u i ≡ true → (has_bit (get_or F u 0) i ≡ true) × (1 ≤ i) × (i ≤ 60)
goes_parts F u i h = grind (arith, common_steps)

module _ (t : Steps) (x : ℕ) where
  pub parts_positions : (a b : ℕ) → Parts t x a b → Places a b
  parts_positions a b p = grind (arith, common_steps)

  pub step_node : (y : ℕ) → Step t x y → IsNode y
  step_node y (single {a} l h) = one {a = a} (goes_parts t.follow x a h).2
  step_node y (beside {a} {b} p) = pack_node a b (parts_positions a b p)

-- ---- taken up

pub taken_low : (seen : Seen) (x : ℕ) → x < 64 → taken seen x ≡ has_bit seen.states x
unfolding taken
taken_low seen x h = if_yes (has_bit seen.states x) (has_bit (get_or seen.pairs (x / 64) 0) (x % 64)) (ltb x 64) (lt-ltb x 64 h)

pub taken_high : (seen : Seen) (x : ℕ) → 64 ≤ x → taken seen x ≡ has_bit (get_or seen.pairs (x / 64) 0) (x % 64)
unfolding taken
taken_high seen x h = if_no (has_bit seen.states x) (has_bit (get_or seen.pairs (x / 64) 0) (x % 64)) (ltb x 64) (le-ltb x 64 h)

module _ (seen : Seen) (even : Even seen.pairs) where
  pub taken_pair : (a b : ℕ) → Places a b → taken seen (pack a b) ≡ has_bit (get_or seen.pairs a 0) b
  taken_pair = grind (arith, common_steps, by_order, pack_swap, turned, right_high, left_high, pack_more, taken_high)

  module _ (t : Steps) (x : ℕ) where
    -- what is found is one step on and not taken up
    pub fresh : (y : ℕ) → Fresh t seen x y → Step t x y × (taken seen y ≡ false)
    fresh y (new_single {a} l h n) = let p = (goes_parts t.follow x a h).2 in (single l h, taken_low seen a (omega arith) ∙ n)
    fresh y (new_beside {a} {b} p n) = (beside p, taken_pair a b (parts_positions t x a b p) ∙ n)

    step_fresh : (y : ℕ) → Step t x y → taken seen y ≡ false → Fresh t seen x y
    step_fresh y (single {a} k h) e = let p = (goes_parts t.follow x a h).2 in new_single k h (sym (taken_low seen a (omega arith)) ∙ e)
    step_fresh y (beside {a} {b} p) e = new_beside p (sym (taken_pair a b (parts_positions t x a b p)) ∙ e)

    -- where nothing is found, each node one step on is taken up
    pub spent : (y : ℕ) → ((y : ℕ) → Fresh t seen x y → ⊥) → Step t x y → taken seen y ≡ true
    spent y none s = by_test (taken seen y) (λ e. e) (λ e. absurd (none y (step_fresh y s e)))

-- ---- a free pair, by the word of partners

module _ {to shared seen a own m : ℕ} (p : PartnersOf to shared seen a own m) (b : ℕ) where
  partner_parts : has_bit m b ≡ true → (has_bit to b ≡ true) × (has_bit shared b ≡ true) × (has_bit seen b ≡ false) × ((has_bit own a || not (eqb a b)) ≡ true)
  partner_parts h = grind (arith, common_steps)

module _ {S : List ℕ} {seen : Seen} {from to own a m : ℕ} (p : PartnersOf to (get_or S a 0) (get_or seen.pairs a 0) a own m) {b : ℕ} where
  pub partner_free : has_bit from a ≡ true → has_bit m b ≡ true → Free S seen from to own a b
  partner_free l h = let x = partner_parts p b h in record { left = l; right = x.0; share = x.1; new = x.2; apart = x.3 }

-- those of `from` that a loop has passed have none, so that whoever has one is not below the one at hand
pub free_pending : {S : List ℕ} {seen : Seen} {from to own left a : ℕ} (n m : ℕ) → Passed from left (λ a. (b : ℕ) → Free S seen from to own a b → ⊥) → LeastOf (has_bit left) a → ((j : ℕ) → has_bit n j ≡ ltb j a) → ((j : ℕ) → has_bit m j ≡ (has_bit from j && not (has_bit n j)))
    → (c d : ℕ) → Free S seen from to own c d → has_bit m c ≡ true
free_pending {from = from} {left = left} {a = a} n m p least below is c d f = grind (arith, common_steps)

-- the members of a row are positions
pub row_positions : {F : List ℕ} {u m : ℕ} → RowOf F u m → (i : ℕ) → has_bit m i ≡ true → (1 ≤ i) × (i ≤ 60)
row_positions {F} {u} row i h = let p = goes_parts F u i (sym (row.bits i) ∙ h) in (p.1, p.2)

-- ---- what is found from a node

-- a state that is not taken up
pub find_single : {t : Steps} {seen : Seen} {pending x next : ℕ} (new : ℕ) {r : ℕ} → x ≤ 60 → RowOf t.follow x next → ((i : ℕ) → has_bit new i ≡ (has_bit next i && not (has_bit seen.states i)))
    → has_bit new r ≡ true → Found t seen pending x (record { node = Together r; pending = pending })
find_single {t} {seen} {x = x} {next} new {r} h row f k =
    let p = and_parts (has_bit next r) (not (has_bit seen.states r)) (sym (f r) ∙ k) in
    record { fresh = new_single {a = r} (omega arith) (sym (row.bits r) ∙ p.0) (not-true (has_bit seen.states r) p.1); fits = (row_positions row r p.0).1; gone = λ g. g }

-- a pair that is not taken up, of the sets that were looked at
module _ (t : Steps) (seen : Seen) (pending : ℕ) {x all from to own : ℕ} (row : RowOf t.follow (left_of x) all) (cut : (a : ℕ) → has_bit from a ≡ (has_bit all a && has_bit pending a)) (right : RowOf t.follow (right_of x) to)
    (q : (a : ℕ) → has_bit all a ≡ true → has_bit own a ≡ (leb 64 x || has_bit (get_or t.doubles x 0) a)) where
  -- a new pair one step on is one of those
  free : Gone t seen pending x → (a b : ℕ) → Parts t x a b → has_bit (get_or seen.pairs a 0) b ≡ false → Free t.shares seen from to own a b
  free g a b p e =
      let h = row.bits a ∙ p.left in
      let k = by_test (has_bit pending a) (λ y. y) (λ y. absurd (true≢false (sym (g a b p y) ∙ e))) in
      record { left = cut a ∙ and_of (has_bit all a) (has_bit pending a) h k; right = right.bits b ∙ p.right; share = p.share; new = e; apart = ap (λ (y : Bool). y || not (eqb a b)) (q a h) ∙ p.apart }

  find_some : {r : Next} → FoundPair t.shares seen from to own r → Found t seen pending x r
  find_some d =
      let a = d.left in
      let b = d.right in
      let w = d.free in
      let h = (and_parts (has_bit all a) (has_bit pending a) (sym (cut a) ∙ w.left)).0 in
      record {
        fresh = subst (Fresh t seen x) (sym d.is)
            (new_beside (record { left = sym (row.bits a) ∙ h; right = sym (right.bits b) ∙ w.right; share = w.share; apart = sym (ap (λ (y : Bool). y || not (eqb a b)) (q a h)) ∙ w.apart }) w.new);
        fits = d.fits;
        gone = λ g a b p n. by_test (has_bit (get_or seen.pairs a 0) b) (λ y. y) (λ y. absurd (true≢false (sym (d.pending a b (free g a b p y)) ∙ n)));
      }

  find_none : ((a : ℕ) → x < 64 → goes t.follow x a ≡ true → has_bit seen.states a ≡ true) → ((a b : ℕ) → Free t.shares seen from to own a b → ⊥) → Gone t seen pending x → (y : ℕ) → Fresh t seen x y → ⊥
  find_none states none g y (new_single {a} k h e) = true≢false (sym (states a k h) ∙ e)
  find_none states none g y (new_beside {a} {b} p e) = none a b (free g a b p e)

-- from a state whose next states are taken up
module _ (t : Steps) {x next : ℕ} (h : x ≤ 60) (row : RowOf t.follow x next) where
  abbrev ends : (P : ℕ → Type 0) → P x → P (left_of x) × P (right_of x)
  ends P k = (subst P (sym (left_low x (omega arith))) k, subst P (sym (right_low x (omega arith))) k)

  abbrev rows : RowOf t.follow (left_of x) next × RowOf t.follow (right_of x) next
  rows = ends (λ u. RowOf t.follow u next) row

  abbrev twice : (a : ℕ) → has_bit next a ≡ true → has_bit (get_or t.doubles x 0) a ≡ (leb 64 x || has_bit (get_or t.doubles x 0) a)
  twice a l = sym (ap (λ (y : Bool). y || has_bit (get_or t.doubles x 0) a) (lt-leb 64 x (omega arith)))

  module _ (seen : Seen) (pending : ℕ) {from : ℕ} (cut : (a : ℕ) → has_bit from a ≡ (has_bit next a && has_bit pending a)) where
    pub parting_some : {r : Next} → FoundPair t.shares seen from next (get_or t.doubles x 0) r → Found t seen pending x r
    parting_some = find_some t seen pending rows.0 cut rows.1 twice

    pub parting_none : (new : ℕ) → ((i : ℕ) → has_bit new i ≡ (has_bit next i && not (has_bit seen.states i))) → ((i : ℕ) → has_bit new i ≡ false)
        → ((a b : ℕ) → Free t.shares seen from next (get_or t.doubles x 0) a b → ⊥) → Gone t seen pending x → (y : ℕ) → Fresh t seen x y → ⊥
    parting_none new f z =
        find_none t seen pending rows.0 cut rows.1 twice
        (λ a l g.
        by_test (has_bit seen.states a) (λ y. y)
        (λ y. absurd (true≢false (sym (f a ∙ and_of (has_bit next a) (not (has_bit seen.states a)) (row.bits a ∙ g) (ap not y)) ∙ z a))))

-- from a pair
module _ (t : Steps) {a b all to : ℕ} (places : Places a b) (row : RowOf t.follow a all) (right : RowOf t.follow b to) where
  abbrev high : 64 ≤ a * 64 + b
  high = omega (arith, places)

  abbrev both : RowOf t.follow (left_of (a * 64 + b)) all × RowOf t.follow (right_of (a * 64 + b)) to
  both =
      let e : (a * 64 + b) / 64 ≡ a = omega (arith, places) in
      let f : (a * 64 + b) % 64 ≡ b = omega (arith, places) in
      (subst (λ (u : ℕ). RowOf t.follow u all) (sym (left_high (a * 64 + b) high ∙ e)) row, subst (λ (u : ℕ). RowOf t.follow u to) (sym (right_high (a * 64 + b) high ∙ f)) right)

  abbrev any : (c : ℕ) → has_bit all c ≡ true → has_bit (2 ^ 64 - 1) c ≡ (leb 64 (a * 64 + b) || has_bit (get_or t.doubles (a * 64 + b) 0) c)
  any c l =
      has_ones 64 c ∙ lt-ltb c 64 (omega (arith, row_positions row c l))
      ∙ sym (or_left (leb 64 (a * 64 + b)) (has_bit (get_or t.doubles (a * 64 + b) 0) c) (le-leb 64 (a * 64 + b) high))

  module _ (seen : Seen) (pending : ℕ) {from : ℕ} (cut : (c : ℕ) → has_bit from c ≡ (has_bit all c && has_bit pending c)) where
    pub parted_some : {r : Next} → FoundPair t.shares seen from to (2 ^ 64 - 1) r → Found t seen pending (a * 64 + b) r
    parted_some = find_some t seen pending both.0 cut both.1 any

    pub parted_none : ((c d : ℕ) → Free t.shares seen from to (2 ^ 64 - 1) c d → ⊥) → Gone t seen pending (a * 64 + b) → (y : ℕ) → Fresh t seen (a * 64 + b) y → ⊥
    parted_none = find_none t seen pending both.0 cut both.1 any (λ c l. absurd (omega (arith, high)))

-- the same from a node as the program holds it; v is what a pattern finds in it
module _ (t : Steps) (seen : Seen) (pending : ℕ) {x : Node} {u v next : ℕ} (is : x ≡ Together u) (read : v ≡ u) (h : v ≤ 60) (row : RowOf t.follow v next) where
  pub finds_single : (new m a : ℕ) → ((i : ℕ) → has_bit new i ≡ (has_bit next i && not (has_bit seen.states i))) → m ≡ new → has_bit m a ≡ true → Found t seen pending (number_of x) (record { node = Together a; pending = pending })
  finds_single new m a f e k =
      subst (λ (n : ℕ). Found t seen pending n (record { node = Together a; pending = pending })) (read ∙ sym (ap number_of is))
      (find_single new h row f (ap (λ (s : ℕ). has_bit s a) (sym e) ∙ k))

  pub finds_parting : (new m from : ℕ) → ((i : ℕ) → has_bit new i ≡ (has_bit next i && not (has_bit seen.states i))) → m ≡ new → ((i : ℕ) → has_bit m i ≡ false) → ((a : ℕ) → has_bit from a ≡ (has_bit next a && has_bit pending a))
      → (r : Option Next) → FindsPair t.shares seen from next (get_or t.doubles v 0) r → Finds t seen pending x r
  finds_parting new m from f e z cut r d = subst (λ (n : Node). Finds t seen pending n r) (ap Together read ∙ sym is) (of r d)
    where
      of : (r : Option Next) → FindsPair t.shares seen from next (get_or t.doubles v 0) r → Finds t seen pending (Together v) r
      of None d = λ fits g. parting_none t h row seen pending cut new f (λ i. ap (λ (s : ℕ). has_bit s i) (sym e) ∙ z i) d g
      of (Some q) d = parting_some t h row seen pending cut d

pub finds_parted : (t : Steps) (seen : Seen) (pending : ℕ) {x : Node} {a b c d all to : ℕ} (from : ℕ) → x ≡ Two a b → c ≡ a → d ≡ b → Places c d → RowOf t.follow c all → ((i : ℕ) → has_bit from i ≡ (has_bit all i && has_bit pending i)) → RowOf t.follow d to
    → (r : Option Next) → FindsPair t.shares seen from to (2 ^ 64 - 1) r → Finds t seen pending x r
finds_parted t seen pending {c = c} {d} {to = to} from is e f places row cut right r h =
    subst (λ (n : Node). Finds t seen pending n r) (ap₂ Two e f ∙ sym is) (of r h)
  where
    of : (r : Option Next) → FindsPair t.shares seen from to (2 ^ 64 - 1) r → Finds t seen pending (Two c d) r
    of None h = λ fits g. parted_none t places row right seen pending cut h g
    of (Some q) h = parted_some t places row right seen pending cut h

-- with all pending, nothing need be known
pub all_pending : (t : Steps) (seen : Seen) (x : ℕ) → Gone t seen (2 ^ 64 - 1) x
all_pending t seen x a b p n =
    let l = (parts_positions t x a b p).left_high in
    absurd (true≢false (sym (has_ones 64 a ∙ lt-ltb a 64 (omega arith)) ∙ n))

-- ---- a number of its own for each node

abbrev fold_pair : ℕ → ℕ → ℕ
fold_pair a b = if ltb a 31 then (a - 1) * 61 + (b - 1) else (60 - a) * 61 + (60 - a + b)

abbrev pub number : ℕ → ℕ
number x = if ltb x 64 then 1830 + x else fold_pair (x / 64) (x % 64)

number_low : (x : ℕ) → x < 64 → number x ≡ 1830 + x
number_low x h = if_yes (1830 + x) (fold_pair (x / 64) (x % 64)) (ltb x 64) (lt-ltb x 64 h)

-- the number of a pair, by the half of the triangle that it is in
record Folded (a b n : ℕ) : Type 0 where
  near : a < 31 → n ≡ (a - 1) * 61 + (b - 1)
  far : 31 ≤ a → n ≡ (60 - a) * 61 + (60 - a + b)

number_two : (a b : ℕ) → 1 ≤ b → b ≤ a → a ≤ 60 → Folded a b (number (a * 64 + b))
number_two a b l m h = grind (arith, common_steps)

pair_below : (a b : ℕ) → 1 ≤ b → b ≤ a → a ≤ 60 → number (a * 64 + b) < 1830
pair_below a b l m h = let n = number_two a b l m h in ⊎_elim (λ k. omega (arith, n.far k)) (λ k. omega (arith, n.near k)) (le_or_lt 31 a)

pub node_low : (x : ℕ) → IsNode x → number x < 1891
node_low x (one {a} h) = omega (arith, number_low a (omega arith))
node_low x (two {a} {b} l m h) = omega (arith, pair_below a b l m h)

pub node_told : (x y : ℕ) → IsNode x → IsNode y → number x ≡ number y → x ≡ y
node_told x y (one {a} h) (one {a = c} k) e = omega (arith, number_low a (omega arith), number_low c (omega arith))
node_told x y (one {a} h) (two {a = c} {b = d} l m k) e = absurd (omega (arith, number_low a (omega arith), pair_below c d l m k))
node_told x y (two {a} {b} l m h) (one {a = c} k) e = absurd (omega (arith, number_low c (omega arith), pair_below a b l m h))
node_told x y (two {a} {b} l m h) (two {a = c} {b = d} l' m' h') e = grind (arith, common_steps)
