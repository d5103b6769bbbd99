-- Tables by codes, in some entries of which the members of a mask are flipped. Assumes nothing.
use mathlib.Core.Path.{◌≡◌, refl, sym, ap, ap₂, ◌∙◌}
use mathlib.Core.Logic.{⊎_elim}
use mathlib.Core.Bool.{Bool, true, false, ◌&&◌, ◌||◌, and-false, true≢false}
use mathlib.Core.List.{List, ◌++◌}
use Prim.Native.Nat.{ℕ, ◌+◌, ◌-◌, ◌≤◌, ◌<◌}
use native.Mathlib.Omega.{arith}
use lib.Dec.{leb, ltb}
use lib.ListN.{length, get_or, set, take, drop, length-set, length-drop, get_or-append}
use lib.Seq.{get_or-set_same, get_or-set_other}
use borrow.Rule.Slice.PartMut.{put_mid, post_of, same_len_mid}
use Rattle.std.proofs.lemmas.List.{length-take-le, get_or-take, get_or-drop, get_or-append_right}
use borrow.Author.Tests.{lt-ltb, le-ltb, le-leb, lt-leb}
use Rattle.basics.proofs.Tests.{le_or_lt, by_equal, same_less}
use Rattle.bits.specs.Bits.{has_bit}
use Rattle.alphabet.specs.Flipped.{flipped, Flipped}

twice : (p q m b : Bool) → (p ≡ true → q ≡ false) → flipped (q && m) (flipped (p && m) b) ≡ flipped ((p || q) && m) b
twice true true m b apart = absurd (true≢false (apart refl))
twice true false m b apart = refl
twice false q m b apart = refl

-- ---- tables

-- the entries below k are flipped, and one more
pub flip_one : (k mask v : ℕ) (table at : List ℕ) → k < length at → Flipped (λ c. ltb c k) mask table at
    → ((j : ℕ) → has_bit v j ≡ flipped (has_bit mask j) (has_bit (get_or at k 0) j)) → Flipped (λ c. ltb c (k + 1)) mask table (set at k v)
flip_one k mask v table at h w new = record {
  size = length-set at k v ∙ w.size;
  has = λ c j.
      by_equal c k
      (λ z.
      ap (λ (x : ℕ). has_bit (get_or (set at k v) x 0) j) z ∙ ap (λ (x : ℕ). has_bit x j) (get_or-set_same at k v 0 h) ∙ new j
      ∙ ap₂ flipped (sym (ap (λ (t : Bool). t && has_bit mask j) (lt-ltb c (k + 1) (omega arith))))
      (w.has k j ∙ ap (λ (t : Bool). flipped (t && has_bit mask j) (has_bit (get_or table k 0) j)) (le-ltb k k (omega arith)) ∙ ap (λ (x : ℕ). has_bit (get_or table x 0) j) (sym z)))
      (λ d.
      ap (λ (x : ℕ). has_bit x j) (get_or-set_other at k c v 0 d) ∙ w.has c j
      ∙ ap (λ (t : Bool). flipped (t && has_bit mask j) (has_bit (get_or table c 0) j)) (same_less c k c (k + 1) (λ x. omega arith) (λ x. omega arith)));
}

-- the entries of a part are flipped, and the part stands in the table again
pub flip_part : (a n mask : ℕ) (table part : List ℕ) → a + n ≤ length table → Flipped (λ c. ltb c n) mask (take n (drop a table)) part
    → Flipped (λ c. leb a c && ltb c (a + n)) mask table (put_mid a n table part)
flip_part a n mask table part h w = record {
  size = same_len_mid a n table part w.size;
  has = λ c j.
      ⊎_elim
      (λ l.
      ⊎_elim (λ p. same c j (after c p) (ap (λ (t : Bool). leb a c && t) (le-ltb c (a + n) p) ∙ and-false (leb a c)))
      (λ p.
      ap (λ (x : ℕ). has_bit x j) (within c l p) ∙ w.has (c - a) j
      ∙ ap₂ flipped (ap (λ (t : Bool). t && has_bit mask j) (lt-ltb (c - a) n (omega arith) ∙ sym (ap₂ ◌&&◌ (le-leb a c l) (lt-ltb c (a + n) p))))
      (ap (λ (x : ℕ). has_bit x j) (get_or-take n (drop a table) (c - a) 0 (omega arith) ∙ get_or-drop a table (c - a) 0 ∙ ap (λ (x : ℕ). get_or table x 0) (omega arith))))
      (le_or_lt (a + n) c))
      (λ p. same c j (before c p) (ap (λ (t : Bool). t && ltb c (a + n)) (lt-leb a c p))) (le_or_lt a c);
}
  where
    rest : List ℕ
    rest = post_of a n table

    front : length (take a table) ≡ a
    front = length-take-le a table (omega arith)

    middle : length part ≡ n
    middle = w.size ∙ length-take-le n (drop a table) (let l = length-drop a table in omega arith)

    before : (c : ℕ) → c < a → get_or (put_mid a n table part) c 0 ≡ get_or table c 0
    before c p = get_or-append (take a table) (part ++ rest) 0 c (omega (arith, front)) ∙ get_or-take a table c 0 p

    within : (c : ℕ) → a ≤ c → c < a + n → get_or (put_mid a n table part) c 0 ≡ get_or part (c - a) 0
    within c l p = get_or-append_right (take a table) (part ++ rest) a c 0 front l ∙ get_or-append part rest 0 (c - a) (omega (arith, middle))

    after : (c : ℕ) → a + n ≤ c → get_or (put_mid a n table part) c 0 ≡ get_or table c 0
    after c p =
        get_or-append_right (take a table) (part ++ rest) a c 0 front (omega arith) ∙ get_or-append_right part rest n (c - a) 0 middle (omega arith)
        ∙ get_or-drop n (drop a table) (c - a - n) 0 ∙ get_or-drop a table (n + (c - a - n)) 0 ∙ ap (λ (x : ℕ). get_or table x 0) (omega arith)

    same : (c j : ℕ) → get_or (put_mid a n table part) c 0 ≡ get_or table c 0 → (leb a c && ltb c (a + n)) ≡ false
        → has_bit (get_or (put_mid a n table part) c 0) j ≡ flipped ((leb a c && ltb c (a + n)) && has_bit mask j) (has_bit (get_or table c 0) j)
    same c j e out = ap (λ (x : ℕ). has_bit x j) e ∙ sym (ap (λ (t : Bool). flipped (t && has_bit mask j) (has_bit (get_or table c 0) j)) out)

pub flip_same : (p q : ℕ → Bool) (mask : ℕ) (table at : List ℕ) → ((c : ℕ) → p c ≡ q c) → Flipped p mask table at → Flipped q mask table at
flip_same p q mask table at e w = record {
  size = w.size;
  has = λ c j. w.has c j ∙ ap (λ (t : Bool). flipped (t && has_bit mask j) (has_bit (get_or table c 0) j)) (e c);
}

pub flip_twice : (p q : ℕ → Bool) (mask : ℕ) (table at end : List ℕ) → ((c : ℕ) → p c ≡ true → q c ≡ false) → Flipped p mask table at → Flipped q mask at end
    → Flipped (λ c. p c || q c) mask table end
flip_twice p q mask table at end apart v w = record {
  size = w.size ∙ v.size;
  has = λ c j.
      w.has c j ∙ ap (flipped (q c && has_bit mask j)) (v.has c j) ∙ twice (p c) (q c) (has_bit mask j) (has_bit (get_or table c 0) j) (apart c);
}
