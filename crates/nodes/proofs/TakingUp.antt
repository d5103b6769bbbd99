-- Taking a node up: a state in the set, or a pair in both of its rows. Assumes nothing.
use mathlib.Core.Path.{◌≡◌, refl, sym, ap, ap₂, ◌∙◌, subst}
use mathlib.Core.Logic.{⊎_elim}
use mathlib.Core.Bool.{Bool, false, ◌&&◌, ◌||◌, or-false, or_comm, and_comm}
use mathlib.Core.List.{List}
use Prim.Native.Nat.{ℕ, ◌+◌, ◌*◌, ◌/◌, ◌%◌, ◌≤◌, ◌<◌}
use native.Mathlib.Omega.{arith}
use Rattle.std.proofs.lemmas.Grind.{common_steps}
use borrow.Author.Tests.{ne_eqb}
use lib.Dec.{eqb}
use lib.ListN.{get_or, set, length, length-set, replicate}
use Rattle.basics.proofs.Tests.{le_or_lt}
use Rattle.basics.proofs.Lists.{zeros}
use Rattle.bits.specs.Bits.{has_bit}
use Rattle.bits.proofs.Laws.{has_none}
use Rattle.nodes.specs.declared.Node.{Node}
use Rattle.nodes.specs.declared.Node.TheVariants.{Together, Parted as Two}
use Rattle.nodes.specs.declared.Seen.{Seen}
use Rattle.nodes.specs.Nodes.{IsNode, one, two, number_of, Fits}
use Rattle.nodes.specs.Taken.{taken, Even, OneTaken, TakenUp}
use Rattle.nodes.proofs.Nodes.{taken_low, taken_high}

pub take_state : (seen seen' : Seen) (y : ℕ) → y < 64 → seen'.pairs ≡ seen.pairs → ((j : ℕ) → has_bit seen'.states j ≡ (has_bit seen.states j || eqb y j)) → TakenUp seen seen' y
take_state seen seen' y l same h = record {
  takes = λ z n.
      ⊎_elim
      (λ k. taken_high seen' z k ∙ ap (λ (s : List ℕ). has_bit (get_or s (z / 64) 0) (z % 64)) same ∙ sym (ap₂ ◌||◌ (taken_high seen z k) (ne_eqb y z (λ e. omega arith)) ∙ or-false (has_bit (get_or seen.pairs (z / 64) 0) (z % 64))))
      (λ k. taken_low seen' z k ∙ h z ∙ sym (ap (λ (t : Bool). t || eqb y z) (taken_low seen z k)))
      (le_or_lt 64 z);
  even = λ even. subst Even (sym same) even;
}

-- ---- a pair, in both rows

-- c and d are a and b, in either order
abbrev hit : ℕ → ℕ → ℕ → ℕ → Bool
hit a b c d = (eqb a c && eqb b d) || (eqb b c && eqb a d)

hit_swap : (a b c d : ℕ) → hit a b c d ≡ hit a b d c
hit_swap a b c d = ap₂ ◌||◌ (and_comm (eqb a c) (eqb b d)) (and_comm (eqb b c) (eqb a d)) ∙ or_comm (eqb b d && eqb a c) (eqb a d && eqb b c)

-- of two pairs in order
hit_same : (a b c d : ℕ) → b ≤ a → a < 64 → d ≤ c → c < 64 → hit a b c d ≡ eqb (a * 64 + b) (c * 64 + d)
hit_same a b c d l m k n = grind (arith, common_steps)

module _ (seen : List ℕ) (a b m n : ℕ) (size : length seen ≡ 61) (l : a ≤ 60) (k : b ≤ 60) (row : (j : ℕ) → has_bit m j ≡ (has_bit (get_or seen a 0) j || eqb b j))
    (other : (j : ℕ) → has_bit n j ≡ (has_bit (get_or (set seen a m) b 0) j || eqb a j)) where
  rows : (c d : ℕ) → has_bit (get_or (set (set seen a m) b n) c 0) d ≡ (has_bit (get_or seen c 0) d || hit a b c d)
  rows c d = grind (arith, common_steps, length-set)

  pub rows_even : Even seen → Even (set (set seen a m) b n)
  rows_even even = record {
    size = length-set (set seen a m) b n ∙ length-set seen a m ∙ even.size;
    same = λ c d h g. rows c d ∙ ap₂ ◌||◌ (even.same c d h g) (hit_swap a b c d) ∙ sym (rows d c);
  }

-- the pair of a and b, with b of row a and a of row b
pub take_pair : (seen seen' : Seen) (a b m n : ℕ) → length seen.pairs ≡ 61 → 1 ≤ b → b ≤ a → a ≤ 60 → seen'.states ≡ seen.states → seen'.pairs ≡ set (set seen.pairs a m) b n → ((j : ℕ) → has_bit m j ≡ (has_bit (get_or seen.pairs a 0) j || eqb b j))
    → ((j : ℕ) → has_bit n j ≡ (has_bit (get_or (set seen.pairs a m) b 0) j || eqb a j)) → TakenUp seen seen' (a * 64 + b)
take_pair seen seen' a b m n size u h l alone pairs row other =
    record { takes = takes; even = λ even. subst Even (sym pairs) (rows_even seen.pairs a b m n size l (omega arith) row other even) }
  where
    here : (c d : ℕ) → has_bit (get_or seen'.pairs c 0) d ≡ (has_bit (get_or seen.pairs c 0) d || hit a b c d)
    here c d = ap (λ (s : List ℕ). has_bit (get_or s c 0) d) pairs ∙ rows seen.pairs a b m n size l (omega arith) row other c d

    takes : (z : ℕ) → IsNode z → taken seen' z ≡ (taken seen z || eqb (a * 64 + b) z)
    takes z (one {a = c} g) =
        taken_low seen' c (omega arith) ∙ ap (λ (s : ℕ). has_bit s c) alone
        ∙ sym (ap₂ ◌||◌ (taken_low seen c (omega arith)) (ne_eqb (a * 64 + b) c (λ e. omega arith)) ∙ or-false (has_bit seen.states c))
    takes z (two {a = c} {b = d} p q r) =
        let big : 64 ≤ c * 64 + d = omega arith in
        let left : (c * 64 + d) / 64 ≡ c = omega arith in
        let right : (c * 64 + d) % 64 ≡ d = omega arith in
        taken_high seen' (c * 64 + d) big ∙ ap₂ (λ i j. has_bit (get_or seen'.pairs i 0) j) left right ∙ here c d
        ∙ sym (ap₂ ◌||◌ (taken_high seen (c * 64 + d) big ∙ ap₂ (λ i j. has_bit (get_or seen.pairs i 0) j) left right) (sym (hit_same a b c d h (omega arith) q (omega arith))))

-- ---- a node that the program holds

pub took_state : (seen seen' : Seen) (n : Node) (a : ℕ) → Fits n → n ≡ Together a → seen'.pairs ≡ seen.pairs → ((j : ℕ) → has_bit seen'.states j ≡ (has_bit seen.states j || eqb a j)) → TakenUp seen seen' (number_of n)
took_state seen seen' n a fits is same h = grind (arith, common_steps, take_state)

pub took_pair : (seen seen' : Seen) (n : Node) (a b m k : ℕ) → length seen.pairs ≡ 61 → Fits n → n ≡ Two a b → seen'.states ≡ seen.states → seen'.pairs ≡ set (set seen.pairs a m) b k → ((j : ℕ) → has_bit m j ≡ (has_bit (get_or seen.pairs a 0) j || eqb b j))
    → ((j : ℕ) → has_bit k j ≡ (has_bit (get_or (set seen.pairs a m) b 0) j || eqb a j)) → TakenUp seen seen' (number_of n)
took_pair seen seen' n a b m k size fits is alone pairs row other = grind (arith, common_steps, take_pair)

-- ---- the first

pub no_pairs : (a b : ℕ) → has_bit (get_or (replicate 61 0) a 0) b ≡ false
no_pairs a b = ap (λ (x : ℕ). has_bit x b) (zeros 61 a) ∙ has_none b

none_even : Even (replicate 61 0)
none_even = record { size = refl; same = λ a b l k. no_pairs a b ∙ sym (no_pairs b a) }

pub take_first : (x : ℕ) (seen : Seen) → x ≤ 60 → ((j : ℕ) → has_bit seen.states j ≡ eqb x j) → seen.pairs ≡ replicate 61 0 → OneTaken x seen
take_first x seen l only none = record { takes = takes; even = subst Even (sym none) none_even }
  where
    takes : (z : ℕ) → IsNode z → taken seen z ≡ eqb x z
    takes z (one {a} k) = taken_low seen a (omega arith) ∙ only a
    takes z (two {a} {b} k m n) =
        taken_high seen (a * 64 + b) (omega arith)
        ∙ ap (λ (s : List ℕ). has_bit (get_or s ((a * 64 + b) / 64) 0) ((a * 64 + b) % 64)) none
        ∙ no_pairs ((a * 64 + b) / 64) ((a * 64 + b) % 64) ∙ sym (ne_eqb x (a * 64 + b) (λ e. omega arith))
