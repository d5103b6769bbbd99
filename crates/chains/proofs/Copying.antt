-- A copy of a part in the rows and in the table. The idea: the rows past n have the part's links and no other, so that the rows w further
-- on have the part's links with w positions more to its left. Assumes nothing.
use mathlib.Core.Path.{◌≡◌, sym, ap, ap₂, ◌∙◌}
use mathlib.Core.Logic.{⊎_elim}
use mathlib.Core.Bool.{Bool, true, false, ◌&&◌, ◌||◌, and-false, or-false}
use mathlib.Core.List.{List}
use Prim.Native.Nat.{ℕ, ◌+◌, ◌-◌, ◌*◌, ◌≤◌, ◌<◌}
use native.Mathlib.Omega.{arith}
use borrow.Author.Tests.{ltb-true, lt-ltb, leb-true, le-leb}
use lib.Dec.{ltb, leb}
use lib.ListN.{get_or}
use Rattle.std.specs.Prelude.{if◌then◌else◌}
use Rattle.basics.proofs.Tests.{and_parts, and_of, same_test, by_test, le_or_lt}
use Rattle.bits.specs.Bits.{has_bit}
use Rattle.copies.specs.Copies.{Moved}
use Rattle.pattern.specs.Parts.{Part}
use Rattle.pattern.specs.Positions.{positions, links}
use Rattle.pattern.proofs.Moved.{links_moved}
use Rattle.links.specs.Rows.{kept, Marks, Adds, entry, number, after, Counts, Clear}
use Rattle.parsed.proofs.Shapes.{owns_part}
use Rattle.parsed.proofs.Joining.{none}
use Rattle.chains.specs.Chains.{NextRows}

-- past n the rows have the links of the part q, with n positions to its left, and no other
pub record Fresh (n : ℕ) (doubled : Bool) (rows more : List ℕ) (q : Part) : Type 0 where
  pub linked : (a b : ℕ) → n < a → has_bit (get_or rows a 0) b ≡ ((kept a && kept b) && ltb 0 (links n q a b))
  pub numbers : (a b : ℕ) → kept a ≡ true → kept b ≡ true → n < a → number rows more a b ≡ after (links n q a b) 0
  pub single : doubled ≡ false → (a b : ℕ) → kept a ≡ true → kept b ≡ true → n < a → get_or more (entry a b) 0 ≡ 0

pub fresh : (n : ℕ) (doubled : Bool) (rows more rows' more' : List ℕ) (q : Part) → Clear n rows more → Adds rows (λ a b. ltb 0 (links n q a b)) rows' → Counts rows more (links n q) rows' more' → (doubled ≡ false → more' ≡ more)
    → Fresh n doubled rows' more' q
fresh n doubled rows more rows' more' q c adds counts none = record {
  linked = λ a b h. adds a b ∙ ap (λ (t : Bool). t || ((kept a && kept b) && ltb 0 (links n q a b))) (c.unlinked a b h);
  numbers = λ a b i j h. counts a b i j ∙ ap (after (links n q a b)) (c.none a b i j h);
  single = λ d a b i j h. ap (λ (l : List ℕ). get_or l (entry a b) 0) (none d) ∙ (let z = c.none a b i j h in omega arith);
}

-- ---- sets of positions, moved on

-- a test that positions past n pass, w of them, and that goes by the distance from n
module _ (F : ℕ → ℕ → Bool) (w : ℕ) (own : (n i : ℕ) → F n i ≡ true → (n < i) × (i ≤ n + w)) (moves : (n d i : ℕ) → F (n + d) (i + d) ≡ F n i) where
  further : (n i : ℕ) → w ≤ i → F (n + w) i ≡ F n (i - w)
  further n i h = ap (F (n + w)) (omega arith) ∙ moves n w (i - w)

  pub marks_moved : (n s s' : ℕ) → n + w + w ≤ 60 → Moved w s s' → Marks s (F n) → Marks s' (F (n + w))
  marks_moved n s s' few m marks b =
      m b ∙ ap (λ (t : Bool). leb w b && (ltb b 64 && t)) (marks (b - w))
      ∙ same_test (leb w b && (ltb b 64 && (kept (b - w) && F n (b - w)))) (kept b && F (n + w) b)
      (λ e.
      let u = and_parts (leb w b) (ltb b 64 && (kept (b - w) && F n (b - w))) e in
      let l = leb-true w b u.0 in
      let v = (and_parts (kept (b - w)) (F n (b - w)) (and_parts (ltb b 64) (kept (b - w) && F n (b - w)) u.1).1).1 in
      let o = own n (b - w) v in
      and_of (kept b) (F (n + w) b) (lt-ltb b 61 (omega arith)) (further n b l ∙ v))
      (λ e.
      let v = (and_parts (kept b) (F (n + w) b) e).1 in
      let o = own (n + w) b v in
      and_of (leb w b) (ltb b 64 && (kept (b - w) && F n (b - w))) (le-leb w b (omega arith))
      (and_of (ltb b 64) (kept (b - w) && F n (b - w)) (lt-ltb b 64 (omega arith)) (and_of (kept (b - w)) (F n (b - w)) (lt-ltb (b - w) 61 (omega arith)) (sym (further n b (omega arith)) ∙ v))))

-- ---- rows and numbers, moved on

module _ (q : Part) (n last : ℕ) (doubled : Bool) (rows more rows' more' : List ℕ) (few : n + positions q + positions q ≤ 60) (count : last ≡ n + positions q) (f : Fresh n doubled rows more q) (cl : Clear (n + positions q) rows more) (c : NextRows (positions q) doubled last rows more rows' more') where
  abbrev w : ℕ
  w = positions q

  -- the positions of the copy
  abbrev Here : ℕ → Type 0
  Here a = (n + w < a) × (a ≤ n + w + w)

  own : (a b : ℕ) → 1 ≤ links (n + w) q a b → Here a × Here b
  own = (owns_part q).links (n + w)

  moved : (a b : ℕ) → w ≤ a → w ≤ b → links (n + w) q a b ≡ links n q (a - w) (b - w)
  moved a b h l = ap₂ (links (n + w) q) (omega arith) (omega arith) ∙ links_moved q n w (a - w) (b - w)

  -- a row of the copy
  row_here : (a b : ℕ) → Here a → has_bit (get_or rows' a 0) b ≡ (leb w b && (ltb b 64 && has_bit (get_or rows (a - w) 0) (b - w)))
  row_here a b h =
      let back : a - w + w ≡ a = omega arith in
      ap (λ (i : ℕ). has_bit (get_or rows' i 0) b) (sym back)
      ∙ c.copied.copied 0 (a - w) (omega arith) (omega arith) b
      ∙ ap (λ (s : ℕ). leb w b && (ltb b 64 && has_bit s (b - w))) (c.copied.below 0 (a - w) (omega arith))

  -- any other
  row_other : (a : ℕ) → (Here a → ⊥) → get_or rows' a 0 ≡ get_or rows a 0
  row_other a d = ⊎_elim (λ h. c.copied.below 0 a (omega arith)) (λ h. c.copied.above 0 a (⊎_elim (λ l. absurd (d (omega arith))) (λ l. omega arith) (le_or_lt a (n + w + w)))) (le_or_lt a (n + w))

  linked_here : (a b : ℕ) → Here a → has_bit (get_or rows' a 0) b ≡ ((kept a && kept b) && ltb 0 (links (n + w) q a b))
  linked_here a b h =
      row_here a b h ∙ ap (λ (t : Bool). leb w b && (ltb b 64 && t)) (f.linked (a - w) (b - w) (omega arith))
      ∙ same_test (leb w b && (ltb b 64 && ((kept (a - w) && kept (b - w)) && ltb 0 (links n q (a - w) (b - w))))) ((kept a && kept b) && ltb 0 (links (n + w) q a b))
      (λ e.
      let u = and_parts (leb w b) (ltb b 64 && ((kept (a - w) && kept (b - w)) && ltb 0 (links n q (a - w) (b - w)))) e in
      let l = leb-true w b u.0 in
      let v = (and_parts (kept (a - w) && kept (b - w)) (ltb 0 (links n q (a - w) (b - w))) (and_parts (ltb b 64) ((kept (a - w) && kept (b - w)) && ltb 0 (links n q (a - w) (b - w))) u.1).1).1 in
      let z = ap (ltb 0) (moved a b (omega arith) l) ∙ v in
      let o = (own a b (ltb-true 0 (links (n + w) q a b) z)).1 in
      and_of (kept a && kept b) (ltb 0 (links (n + w) q a b)) (and_of (kept a) (kept b) (lt-ltb a 61 (omega arith)) (lt-ltb b 61 (omega arith))) z)
      (λ e.
      let v = (and_parts (kept a && kept b) (ltb 0 (links (n + w) q a b)) e).1 in
      let o = (own a b (ltb-true 0 (links (n + w) q a b) v)).1 in
      and_of (leb w b) (ltb b 64 && ((kept (a - w) && kept (b - w)) && ltb 0 (links n q (a - w) (b - w)))) (le-leb w b (omega arith))
      (and_of (ltb b 64) ((kept (a - w) && kept (b - w)) && ltb 0 (links n q (a - w) (b - w))) (lt-ltb b 64 (omega arith))
      (and_of (kept (a - w) && kept (b - w)) (ltb 0 (links n q (a - w) (b - w))) (and_of (kept (a - w)) (kept (b - w)) (lt-ltb (a - w) 61 (omega arith)) (lt-ltb (b - w) 61 (omega arith))) (sym (ap (ltb 0) (moved a b (omega arith) (omega arith))) ∙ v))))

  by_here : {P : Type 0} (a : ℕ) → (Here a → P) → ((Here a → ⊥) → P) → P
  by_here a within without = ⊎_elim (λ h. without (λ e. omega arith)) (λ h. ⊎_elim (λ l. within (h, l)) (λ l. without (λ e. omega arith)) (le_or_lt a (n + w + w))) (le_or_lt a (n + w))

  -- no link of the copy
  no_link : (a b : ℕ) → (Here a × Here b → ⊥) → links (n + w) q a b ≡ 0
  no_link a b d = none (links (n + w) q a b) (λ h. d (own a b h))

  pub copy_adds : (a b : ℕ) → has_bit (get_or rows' a 0) b ≡ (has_bit (get_or rows a 0) b || ((kept a && kept b) && ltb 0 (links (n + w) q a b)))
  copy_adds a b =
      by_here a (λ h. linked_here a b h ∙ sym (ap (λ (t : Bool). t || ((kept a && kept b) && ltb 0 (links (n + w) q a b))) (cl.unlinked a b h.0)))
      (λ d.
      ap (λ (s : ℕ). has_bit s b) (row_other a d)
      ∙ sym (ap (λ (i : ℕ). has_bit (get_or rows a 0) b || ((kept a && kept b) && ltb 0 i)) (no_link a b (λ h. d h.0)) ∙ ap (λ (t : Bool). has_bit (get_or rows a 0) b || t) (and-false (kept a && kept b)) ∙ or-false (has_bit (get_or rows a 0) b)))

  -- no number of links where the part has none
  none_counted : (a b : ℕ) → a < 61 → b < 61 → n < a → links n q a b ≡ 0 → get_or more (entry a b) 0 ≡ 0
  none_counted a b i j h z = let e : number rows more a b ≡ 0 = f.numbers a b (lt-ltb a 61 i) (lt-ltb b 61 j) h ∙ ap (λ (k : ℕ). after k 0) z in omega arith

  none_here : (a b : ℕ) → a < 61 → b < 61 → n + w < a → get_or more (entry a b) 0 ≡ 0
  none_here a b i j h = let e = cl.none a b (lt-ltb a 61 i) (lt-ltb b 61 j) h in omega arith

  own_before : (a b : ℕ) → (b ≤ n + w → ⊥) → links n q a b ≡ 0
  own_before a b d = none (links n q a b) (λ h. let o = ((owns_part q).links n a b h).1 in d o.1)

  -- the number beyond the first of two positions of the copy
  more_here : (a b : ℕ) → Here a → Here b → get_or more' (entry a b) 0 ≡ get_or more (entry (a - w) (b - w)) 0
  more_here a b h l =
      by_test doubled
      (λ d.
      let k = c.numbers d in
      let far : entry a b ≡ entry (a - w) (b - w) + 62 * w = omega arith in
      ap (λ (i : ℕ). get_or more' i 0) far ∙ k.copied 0 (entry (a - w) (b - w)) (omega arith) (omega arith) ∙ k.below 0 (entry (a - w) (b - w)) (omega arith))
      (λ d.
      ap (λ (t : List ℕ). get_or t (entry a b) 0) (c.none d) ∙ none_here a b (omega arith) (omega arith) h.0
      ∙ sym (f.single d (a - w) (b - w) (lt-ltb (a - w) 61 (omega arith)) (lt-ltb (b - w) 61 (omega arith)) (omega arith)))

  -- and of any other two
  more_other : (a b : ℕ) → a < 61 → b < 61 → (Here a × Here b → ⊥) → get_or more' (entry a b) 0 ≡ get_or more (entry a b) 0
  more_other a b i j d =
      by_test doubled
      (λ e.
      let k = c.numbers e in
      ⊎_elim
      (λ h.
      ⊎_elim (λ l. k.above 0 (entry a b) (omega arith))
      (λ l.
      let far : entry a b ≡ (entry a b - 62 * w) + 62 * w = omega arith in
      ap (λ (t : ℕ). get_or more' t 0) far ∙ k.copied 0 (entry a b - 62 * w) (omega arith) (omega arith) ∙ k.below 0 (entry a b - 62 * w) (omega arith)
      ∙ source (omega arith) (omega arith) ∙ sym (none_here a b i j (omega arith))) (le_or_lt (62 * (n + w + w) + 1) (entry a b)))
      (λ h. k.below 0 (entry a b) (omega arith)) (le_or_lt (62 * (n + w + 1)) (entry a b)))
      (λ e. ap (λ (t : List ℕ). get_or t (entry a b) 0) (c.none e))
    where
      source : 62 * (n + w + 1) ≤ entry a b → entry a b ≤ 62 * (n + w + w) → get_or more (entry a b - 62 * w) 0 ≡ 0
      source h l =
          ⊎_elim
          (λ g.
          let same : entry a b - 62 * w ≡ entry (a - w) (b - w) = omega arith in
          ap (λ (t : ℕ). get_or more t 0) same ∙ none_counted (a - w) (b - w) (omega arith) (omega arith) (omega arith) (sym (moved a b (omega arith) g) ∙ no_link a b d))
          (λ g.
          let same : entry a b - 62 * w ≡ entry (a - w - 1) (61 + b - w) = omega arith in
          ap (λ (t : ℕ). get_or more t 0) same ∙ none_counted (a - w - 1) (61 + b - w) (omega arith) (omega arith) (omega arith) (own_before (a - w - 1) (61 + b - w) (λ e. omega arith))) (le_or_lt w b)

  pub copy_counts : (a b : ℕ) → kept a ≡ true → kept b ≡ true → number rows' more' a b ≡ after (links (n + w) q a b) (number rows more a b)
  copy_counts a b i j =
      by_here a (λ h. by_here b (λ l. both h l) (λ d. other (λ e. d e.1))) (λ d. other (λ e. d e.0))
    where
      low_a : a < 61
      low_a = ltb-true a 61 i

      low_b : b < 61
      low_b = ltb-true b 61 j

      both : Here a → Here b → number rows' more' a b ≡ after (links (n + w) q a b) (number rows more a b)
      both h l =
          ap₂ (λ (t : Bool) (k : ℕ). (if t then 1 else 0) + k)
          (row_here a b h ∙ ap₂ (λ (s t : Bool). s && (t && has_bit (get_or rows (a - w) 0) (b - w))) (le-leb w b (omega arith)) (lt-ltb b 64 (omega arith))) (more_here a b h l)
          ∙ f.numbers (a - w) (b - w) (lt-ltb (a - w) 61 (omega arith)) (lt-ltb (b - w) 61 (omega arith)) (omega arith)
          ∙ sym (ap₂ after (moved a b (omega arith) (omega arith)) (cl.none a b i j h.0))

      other : (Here a × Here b → ⊥) → number rows' more' a b ≡ after (links (n + w) q a b) (number rows more a b)
      other d =
          ap₂ (λ (t : Bool) (k : ℕ). (if t then 1 else 0) + k)
          (copy_adds a b ∙ ap (λ (k : ℕ). has_bit (get_or rows a 0) b || ((kept a && kept b) && ltb 0 k)) (no_link a b d) ∙ ap (λ (t : Bool). has_bit (get_or rows a 0) b || t) (and-false (kept a && kept b)) ∙ or-false (has_bit (get_or rows a 0) b)) (more_other a b low_a low_b d)
          ∙ sym (ap (λ (k : ℕ). after k (number rows more a b)) (no_link a b d))
