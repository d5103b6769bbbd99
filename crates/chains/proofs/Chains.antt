-- Intervals by their shapes. The idea: copies joined one after the other have the same firsts and links whether or not the later ones are
-- optional and nested; an interval is such a chain that may end with each copy from the lower bound on, and whose last copy may go
-- round. Written out, an interval nests to the right, and one copy more before it is one copy more of the chain. Assumes nothing.
use mathlib.Core.Path.{◌≡◌, refl, sym, ap, ap₂, ◌∙◌}
use mathlib.Core.Bool.{Bool, true, false, ◌&&◌, ◌||◌, and_self, true≢false}
use mathlib.Core.List.{◌++◌}
use Prim.Native.Nat.{ℕ, zero, suc, ◌+◌, ◌-◌, ◌*◌, max}
use native.Mathlib.Nat.{zero-add, add-zero, suc-add, zero-mul, suc-mul}
use native.Mathlib.Omega.{arith}
use borrow.Author.Tests.{eqb-true, le-leb}
use lib.Dec.{eqb, leb, eqb-suc-zero, leb-zero, leb-suc-suc, leb-suc-zero}
use lib.ListN.{length, length-append}
use Rattle.std.specs.Prelude.{if◌then◌else◌}
use Rattle.basics.proofs.Tests.{if_yes, if_no}
use Rattle.pattern.specs.Parts.{star, plus, Part, again, Bounds, out_of_bounds, copies, nested, written_out}
use Rattle.pattern.proofs.Written.{written_by}
use Rattle.parsed.specs.Parsed.{Shape, shape_of}
use Rattle.parsed.proofs.Shapes.{joined_shape, joined_assoc, Owns, owns_part, owns_joined}
use Rattle.chains.specs.Chains.{how_many}

module _ (x : Shape) (owned : Owns x) where
  -- x, and k copies after it
  abbrev pub chain : ℕ → Shape
  chain zero = x
  chain (suc k) = joined_shape (chain k) x

  pub owns_chain : (k : ℕ) → Owns (chain k)
  owns_chain zero = owned
  owns_chain (suc k) = owns_joined (chain k) x (owns_chain k) owned

  -- one more at its front is one more at its end
  chain_right : (k : ℕ) → chain (suc k) ≡ joined_shape x (chain k)
  chain_right zero = refl
  chain_right (suc k) = ap (λ (y : Shape). joined_shape y x) (chain_right k) ∙ joined_assoc x (chain k) x owned (owns_chain k) owned

  pub chain_empty : (k : ℕ) → (chain k).empty ≡ x.empty
  chain_empty zero = refl
  chain_empty (suc k) = ap (λ (b : Bool). b && x.empty) (chain_empty k) ∙ and_self x.empty

  abbrev width : ℕ
  width = length x.atoms

  pub chain_length : (k : ℕ) → length (chain k).atoms ≡ suc k * width
  chain_length zero = let o = suc-mul 0 width in let z = zero-mul width in omega arith
  chain_length (suc k) = let l = length-append (chain k).atoms x.atoms in let o = suc-mul (suc k) width in let i = chain_length k in omega arith

  -- where it may end: with the last copy and, from the m-th on, with each before it
  abbrev pub ends : ℕ → ℕ → ℕ → ℕ → Bool
  ends m zero n z = x.last n z
  ends m (suc k) n z = (chain (suc k)).last n z || (leb m (suc k) && ends m k n z)

  -- does the last copy go round from a to b
  abbrev pub turned : Bool → ℕ → ℕ → ℕ → ℕ → ℕ
  turned e k n a b = if (e && x.last (n + k * width) a) && x.first (n + k * width) b then 1 else 0

  -- the chain as an interval: m copies at least, and with e no end
  abbrev pub final : ℕ → ℕ → Bool → Shape
  final m k e = record {
    atoms = (chain k).atoms;
    empty = eqb m 0 || (chain k).empty;
    first = (chain k).first;
    last = ends m k;
    links = λ n a b. (chain k).links n a b + turned e k n a b;
    misbounded = (chain k).misbounded;
  }

  -- ---- one copy more in front

  ends_law : (c e l t o d : Bool) → (o ≡ true → t ≡ true) → ((c || (e && l)) || (t && (d || ((o || e) && l)))) ≡ ((c || (t && d)) || ((o || e) && l))
  ends_law true e l t o d h = refl
  ends_law false true true true o d h = or_yes d o
    where
      or_yes : (d o : Bool) → true ≡ (d || ((o || true) && true))
      or_yes true o = refl
      or_yes false true = refl
      or_yes false false = refl
  ends_law false true true false true d h = absurd (true≢false (sym (h refl)))
  ends_law false true true false false d h = refl
  ends_law false true false true o true h = refl
  ends_law false true false true true false h = refl
  ends_law false true false true false false h = refl
  ends_law false true false false true d h = absurd (true≢false (sym (h refl)))
  ends_law false true false false false d h = refl
  ends_law false false l true o d h = refl
  ends_law false false l false true d h = absurd (true≢false (sym (h refl)))
  ends_law false false l false false d h = refl

  first_law : (c e l o t : Bool) → t ≡ o → ((c || (e && l)) || (t && l)) ≡ (c || ((o || e) && l))
  first_law true e l o t h = refl
  first_law false true true true t h = refl
  first_law false true true false t h = refl
  first_law false true false true true h = refl
  first_law false true false true false h = refl
  first_law false true false false true h = refl
  first_law false true false false false h = refl
  first_law false false l true t h = ap (λ (b : Bool). b && l) h
  first_law false false l false t h = ap (λ (b : Bool). b && l) h

  -- the last of one copy more, by the copy in front
  last_right : (k n z : ℕ) → (chain (suc k)).last n z ≡ ((chain k).last (n + width) z || (x.empty && x.last n z))
  last_right k n z = ap (λ (y : Shape). y.last n z) (chain_right k) ∙ ap (λ (b : Bool). (chain k).last (n + width) z || (b && x.last n z)) (chain_empty k)

  at_one : (m : ℕ) → leb (suc m) 1 ≡ eqb m 0
  at_one zero = refl
  at_one (suc m) = leb-suc-suc (suc m) 0 ∙ leb-suc-zero m ∙ sym (eqb-suc-zero m)

  zero_low : (m k : ℕ) → eqb m 0 ≡ true → leb m k ≡ true
  zero_low m k e = le-leb m k (let z = eqb-true m 0 e in omega arith)

  ends_right : (m k n z : ℕ) → ends (suc m) (suc k) n z ≡ (ends m k (n + width) z || ((eqb m 0 || x.empty) && x.last n z))
  ends_right m zero n z =
      ap (λ (b : Bool). b || (leb (suc m) 1 && x.last n z)) (last_right 0 n z)
      ∙ first_law (x.last (n + width) z) x.empty (x.last n z) (eqb m 0) (leb (suc m) 1) (at_one m)
  ends_right m (suc k) n z =
      ap₂ (λ (a b : Bool). a || b) (last_right (suc k) n z) (ap₂ ◌&&◌ (leb-suc-suc m (suc k)) (ends_right m k n z))
      ∙ ends_law ((chain (suc k)).last (n + width) z) x.empty (x.last n z) (leb m (suc k)) (eqb m 0) (ends m k (n + width) z) (zero_low m (suc k))

  empty_law : (e o : Bool) → (e && (o || e)) ≡ (e && e)
  empty_law true true = refl
  empty_law true false = refl
  empty_law false o = refl

  further : (k n : ℕ) → (n + width) + k * width ≡ n + suc k * width
  further k n = let o = suc-mul k width in omega arith

  pub one_more : (m k : ℕ) (e : Bool) → joined_shape x (final m k e) ≡ final (suc m) (suc k) e
  one_more m k e =
      (λ t. record {
        atoms = x.atoms ++ (chain k).atoms;
        empty = (ap (λ (b : Bool). x.empty && (eqb m 0 || b)) (chain_empty k) ∙ empty_law x.empty (eqb m 0) ∙ ap (λ (b : Bool). x.empty && b) (sym (chain_empty k)) ∙ ap (λ (b : Bool). b || (x.empty && (chain k).empty)) (sym (eqb-suc-zero m))) t;
        first = (joined_shape x (chain k)).first;
        last = λ n z. (ap (λ (b : Bool). ends m k (n + width) z || ((eqb m 0 || b) && x.last n z)) (chain_empty k) ∙ sym (ends_right m k n z)) t;
        links = λ n a b. (links_law (x.links n a b) ((chain k).links (n + width) a b) (turned e k (n + width) a b) (if x.last n a && (chain k).first (n + width) b then 1 else 0)
            ∙ ap (λ (j : ℕ). (joined_shape x (chain k)).links n a b + (if (e && x.last j a) && x.first j b then 1 else 0)) (further k n)) t;
        misbounded = x.misbounded || (chain k).misbounded;
      })
      ∙ sym (λ t. record {
        atoms = (chain_right k t).atoms;
        empty = eqb (suc m) 0 || (chain_right k t).empty;
        first = (chain_right k t).first;
        last = ends (suc m) (suc k);
        links = λ n a b. (chain_right k t).links n a b + turned e (suc k) n a b;
        misbounded = (chain_right k t).misbounded;
      })
    where
      links_law : (a b c d : ℕ) → a + ((b + c) + d) ≡ (a + (b + d)) + c
      links_law a b c d = omega arith

-- ---- an interval, written out

module _ (q : Part) where
  abbrev one : Shape
  one = shape_of q

  abbrev pub interval : ℕ → ℕ → Bool → Shape
  interval = final one (owns_part q)

  from_start : (n : ℕ) → n ≡ n + 0 * length one.atoms
  from_start n = let z = zero-mul (length one.atoms) in omega arith

  -- an atom that goes round from any of its lasts to any of its firsts
  round_start : (n a b : ℕ) → one.links n a b + (if one.last n a && one.first n b then 1 else 0) ≡ one.links n a b + turned one (owns_part q) true 0 n a b
  round_start n a b = ap (λ (j : ℕ). one.links n a b + (if one.last j a && one.first j b then 1 else 0)) (from_start n)

  any : shape_of (again star q) ≡ interval 0 0 true
  any t = record { atoms = one.atoms; empty = true; first = one.first; last = one.last; links = λ n a b. round_start n a b t; misbounded = one.misbounded }

  some : shape_of (again plus q) ≡ interval 1 0 true
  some t = record { atoms = one.atoms; empty = one.empty; first = one.first; last = one.last; links = λ n a b. round_start n a b t; misbounded = one.misbounded }

  once : shape_of q ≡ interval 1 0 false
  once t = record { atoms = one.atoms; empty = one.empty; first = one.first; last = one.last; links = λ n a b. sym (add-zero (one.links n a b)) t; misbounded = one.misbounded }

  -- left out or not, as `?` has it
  abbrev optional_shape : Shape → Shape
  optional_shape y = record { atoms = y.atoms; empty = true; first = y.first; last = y.last; links = λ n a b. y.links n a b + 0; misbounded = y.misbounded }

  -- from the first on, or with none
  ends_same : (k n z : ℕ) → ends one (owns_part q) 1 k n z ≡ ends one (owns_part q) 0 k n z
  ends_same zero n z = refl
  ends_same (suc k) n z = ap₂ (λ (a b : Bool). (chain one (owns_part q) (suc k)).last n z || (a && b)) (leb-suc-suc 0 k ∙ leb-zero k ∙ sym (leb-zero (suc k))) (ends_same k n z)

  left_out : (k : ℕ) → optional_shape (interval 1 k false) ≡ interval 0 k false
  left_out k t = record {
    atoms = (chain one (owns_part q) k).atoms;
    empty = true;
    first = (chain one (owns_part q) k).first;
    last = λ n z. ends_same k n z t;
    links = λ n a b. add-zero ((chain one (owns_part q) k).links n a b + 0) t;
    misbounded = (chain one (owns_part q) k).misbounded;
  }

  up_to : (j : ℕ) → shape_of (nested j q) ≡ interval 0 j false
  up_to zero = refl
  up_to (suc j) = ap (λ (y : Shape). optional_shape (joined_shape one y)) (up_to j) ∙ ap optional_shape (one_more one (owns_part q) 0 j false) ∙ left_out (suc j)

  -- m copies before it
  after : (m a b : ℕ) (e : Bool) (r : Part) → shape_of r ≡ interval a b e → shape_of (copies m q r) ≡ interval (m + a) (m + b) e
  after zero a b e r h = h ∙ ap₂ (λ (i j : ℕ). interval i j e) (sym (zero-add a)) (sym (zero-add b))
  after (suc m) a b e r h =
      ap (joined_shape one) (after m a b e r h) ∙ one_more one (owns_part q) (m + a) (m + b) e
      ∙ ap₂ (λ (i j : ℕ). interval i j e) (sym (suc-add m a)) (sym (suc-add m b))

  pub written : (b : Bounds) (k : ℕ) → out_of_bounds b ≡ false → how_many b ≡ suc k → shape_of (written_out b q) ≡ interval b.lower k b.endless
  written b k e h =
      written_by (λ p. shape_of p ≡ interval b.lower k b.endless) b q e
      (λ o z. let is = endless o in any ∙ same 0 0 true (sym z) (omega arith) (sym o))
      (λ o z. let is = endless o in after (b.lower - 1) 1 0 true (again plus q) some ∙ same (b.lower - 1 + 1) (b.lower - 1 + 0) true (omega arith) (omega arith) (sym o))
      (λ o z. let is = upper o in after (b.upper - 1) 1 0 false q once ∙ same (b.upper - 1 + 1) (b.upper - 1 + 0) false (omega arith) (omega arith) (sym o))
      (λ o z. let is = upper o in let j = b.upper - suc b.lower in after b.lower 0 j false (nested j q) (up_to j) ∙ same (b.lower + 0) (b.lower + j) false (omega arith) (omega arith) (sym o))
    where
      same : (m j : ℕ) (f : Bool) → m ≡ b.lower → j ≡ k → f ≡ b.endless → interval m j f ≡ interval b.lower k b.endless
      same m j f x y z t = interval (x t) (y t) (z t)

      -- how many copies there are
      endless : b.endless ≡ true → max b.lower 1 ≡ suc k
      endless o = sym (if_yes (max b.lower 1) b.upper b.endless o) ∙ h

      upper : b.endless ≡ false → b.upper ≡ suc k
      upper o = sym (if_no (max b.lower 1) b.upper b.endless o) ∙ h
