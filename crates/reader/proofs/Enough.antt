-- The grammar's bounds are enough: with greater ones the same is read. The idea: a call one deeper is of a text that has a byte less, or of
-- the same text by a narrower rule, so that three calls for each byte suffice; and an item of a class takes a byte. Assumes nothing.
use mathlib.Core.Path.{◌≡◌, refl, ap, ◌∙◌}
use mathlib.Core.Bool.{false, ◌&&◌, true≢false}
use mathlib.Core.List.{List, [], ◌∷◌}
use Prim.Native.Nat.{ℕ, zero, suc, ◌+◌, ◌*◌, ◌≤◌, ◌<◌}
use Prim.Native.Char.{code}
use native.Mathlib.Omega.{arith}
use lib.Dec.{eqb}
use lib.ListN.{length, drop, length-drop}
use Rattle.std.specs.Prelude.{if◌then◌else◌}
use Rattle.basics.proofs.Steps.{stays}
use Rattle.basics.proofs.Tests.{and_parts, if_same, if_either}
use Rattle.pattern.specs.Parts.{Item, either, joined}
use Rattle.pattern.specs.Grammar.{Read, read, broken, peek, class_letter, class_letter_long, items_from, repeated, goes_on, pattern_from, branch_from, piece_from, read_pattern}
use Rattle.reader.proofs.Depth.{drop_low, peek_some, parts}

-- ---- the items of a class

letter_takes : (s : List ℕ) → eqb (class_letter s) 0 ≡ false → length (drop (class_letter_long s) s) < length s
letter_takes [] e = absurd (true≢false e)
letter_takes (b ∷ s) e =
    let d = length-drop (class_letter_long (b ∷ s)) (b ∷ s) in
    let l : 1 ≤ class_letter_long (b ∷ s) = if_either (λ (k : ℕ). 1 ≤ k) 2 1 (eqb b (code "\\")) (λ h. omega arith) (λ h. omega arith) in
    omega arith

items_same : (f : ℕ) (is : List Item) (s : List ℕ) → length s < f → items_from (suc f) is s ≡ items_from f is s
items_same zero is s h = absurd (omega arith)
items_same (suc f) is s h =
    let t = drop (class_letter_long s) s in
    let b = class_letter (drop 1 t) in
    if_same (eqb (class_letter s) 0) (λ e. refl)
    (λ e.
    let l = letter_takes s e in
    let lu = drop_low (suc (class_letter_long (drop 1 t))) t in
    if_same (eqb (peek t) (code "-")) (λ d. if_same (eqb b 0) (λ c. refl) (λ c. items_same f _ _ (omega arith))) (λ d. items_same f _ _ (omega arith)))

pub longer_reads_same : (n : ℕ) (is : List Item) (s : List ℕ) → suc (length s) ≤ n → items_from n is s ≡ items_from (suc (length s)) is s
longer_reads_same n is s h = stays (λ (d : ℕ). items_from d is s) (suc (length s)) (λ k l. items_same k is s (omega arith)) n h

-- ---- patterns, branches, pieces

-- what a call makes of those that it makes
abbrev with_branches : Read → Read → Read
with_branches a b = if a.good && eqb (peek a.rest) (code "|") then (if b.good then read (either a.part b.part) b.rest else broken) else a

abbrev with_pieces : Read → Read → Read
with_pieces a b = if a.good && goes_on a.rest then (if b.good then read (joined a.part b.part) b.rest else broken) else a

abbrev closed : Read → Read
closed a = if a.good && eqb (peek a.rest) (code ")") then repeated (read a.part (drop 1 a.rest)) else broken

-- one level of depth more, where there is enough
record Same (f : ℕ) (s : List ℕ) : Type 0 where
  pattern : 3 * length s + 3 ≤ f → pattern_from (suc f) s ≡ pattern_from f s
  branch : 3 * length s + 2 ≤ f → branch_from (suc f) s ≡ branch_from f s
  piece : 3 * length s + 1 ≤ f → piece_from (suc f) s ≡ piece_from f s

module _ (f : ℕ) (less : (s : List ℕ) → Same f s) (s : List ℕ) where
  pattern_same : 3 * length s + 3 ≤ suc f → pattern_from (suc (suc f)) s ≡ pattern_from (suc f) s
  pattern_same h =
      let a = branch_from f s in
      let t = drop 1 a.rest in
      ap (λ (c : Read). with_branches c (pattern_from (suc f) (drop 1 c.rest))) ((less s).branch (omega arith))
      ∙ if_same (a.good && eqb (peek a.rest) (code "|"))
      (λ e.
      let shorter = ((parts f s).branch (and_parts a.good (eqb (peek a.rest) (code "|")) e).0).0 in
      let l = drop_low 1 a.rest in
      ap (λ (b : Read). if b.good then read (either a.part b.part) b.rest else broken) ((less t).pattern (omega arith))) (λ e. refl)

  branch_same : 3 * length s + 2 ≤ suc f → branch_from (suc (suc f)) s ≡ branch_from (suc f) s
  branch_same h =
      let a = piece_from f s in
      ap (λ (c : Read). with_pieces c (branch_from (suc f) c.rest)) ((less s).piece (omega arith))
      ∙ if_same (a.good && goes_on a.rest)
      (λ e.
      let shorter = ((parts f s).piece (and_parts a.good (goes_on a.rest) e).0).0 in
      ap (λ (b : Read). if b.good then read (joined a.part b.part) b.rest else broken) ((less a.rest).branch (omega arith))) (λ e. refl)

  piece_same : 3 * length s + 1 ≤ suc f → piece_from (suc (suc f)) s ≡ piece_from (suc f) s
  piece_same h =
      if_same (eqb (peek s) (code "("))
      (λ e.
      let some = peek_some s (code "(") (omega arith) e in
      let d = length-drop 1 s in
      ap closed ((less (drop 1 s)).pattern (omega arith))) (λ e. refl)

same : (f : ℕ) (s : List ℕ) → Same f s
same zero s = record { pattern = λ h. absurd (omega arith); branch = λ h. absurd (omega arith); piece = λ h. absurd (omega arith) }
same (suc f) s = let less = same f in record { pattern = pattern_same f less s; branch = branch_same f less s; piece = piece_same f less s }

pub deeper_reads_same : (n : ℕ) (s : List ℕ) → suc (3 * suc (length s)) ≤ n → pattern_from n s ≡ read_pattern s
deeper_reads_same n s h = stays (λ (d : ℕ). pattern_from d s) (suc (3 * suc (length s))) (λ k l. (same k s).pattern (omega arith)) n h
