-- An interval that was read after an atom: written out, it has the atom's copies. Where there is no room for them nothing is kept but
-- that; where refusal 11 names it, the atom stays as it is. Assumes nothing.
use mathlib.Core.Path.{◌≡◌, refl, sym, ap, ◌∙◌, subst}
use mathlib.Core.Bool.{Bool, true, false, ◌||◌, not, or_self}
use mathlib.Core.List.{List, [], ◌∷◌, ◌++◌, append_assoc}
use mathlib.Core.Logic.{⊎_elim}
use Prim.Native.Nat.{ℕ, zero, suc, ◌+◌, ◌-◌, ◌*◌, ◌≤◌, ◌<◌, max}
use native.Mathlib.Nat.{add-zero, suc-mul}
use native.Mathlib.Omega.{arith}
use borrow.Author.Tests.{ltb-true, ltb-false}
use lib.Dec.{ltb}
use lib.ListN.{length}
use Rattle.basics.proofs.Tests.{by_test, or_parts, or_cases, if_yes, if_no, le_or_lt}
use Rattle.alphabet.specs.Alphabet.{some_letter}
use Rattle.set_table.specs.Tables.{Repeats}
use Rattle.pattern.specs.Parts.{Atom, holds, Part, Bounds, out_of_bounds, written_out}
use Rattle.pattern.proofs.Own.{some_position}
use Rattle.pattern.proofs.Written.{in_bounds, written_refused}
use Rattle.pattern.specs.Positions.{atoms, positions, links}
use Rattle.pattern.specs.Refusals.{some_reversed, any_reversed, any_empty}
use Rattle.links.specs.Rows.{Adds, Counts}
use Rattle.parsed.specs.declared.Parsed.{Parsed}
use Rattle.set_table.specs.declared.Tables.{Tables}
use Rattle.parsed.specs.Tables.{Stored}
use Rattle.parsed.specs.Parsed.{Shape, shape_of, Memory, memory, Keeps, Has}
use Rattle.parsed.proofs.Shapes.{owns_part}
use Rattle.parsed.proofs.Joining.{any_both}
use Rattle.chains.specs.Chains.{how_many, Chains}
use Rattle.chains.proofs.Chains.{chain, chain_length, interval, written}
use Rattle.repeats.specs.Repeats.{Placed}
use Rattle.repeats.proofs.Tables.{with, stored_copies}

-- ---- parts and bounds

pub placed : (n : ℕ) (m m' : Memory) (p : Part) (r : Parsed) → n ≤ 61 → Has n m m' (shape_of p) r → Placed n r
placed n m m' p r low h = let c = h.count in let s = some_position p in record { on = omega arith; cut = omega arith; some = λ l. omega arith }

-- how many copies there are, where a test says that the bounds are not named
pub many : (b : Bounds) (k : ℕ) (named : Bool) → k ≡ how_many b → named ≡ out_of_bounds b → named ≡ false → (0 < k) × (k ≤ 255)
many b k named is test e =
    let fine = in_bounds b (sym test ∙ e) in
    let low = fine.low in
    by_test b.endless
    (λ t. let number = if_yes (max b.lower 1) b.upper b.endless t in (omega arith, omega arith))
    (λ t. let number = if_no (max b.lower 1) b.upper b.endless t in let some = fine.some t in let high = fine.high t in (omega arith, omega arith))

-- is there no room for the copies
module _ (n : ℕ) (p : Parsed) (copies : ℕ) (at : Placed n p) (some : 0 < copies) where
  -- the first copy, and the others
  first_and_others : copies * (p.n - n) ≡ (copies - 1) * (p.n - n) + (p.n - n)
  first_and_others = ap (λ (v : ℕ). v * (p.n - n)) (omega arith) ∙ suc-mul (copies - 1) (p.n - n)

  pub room : (ltb 60 p.n || ltb 60 (n + copies * (p.n - n))) ≡ false → (0 < p.n - n) × (p.n + (copies - 1) * (p.n - n) ≤ 60) × (n + copies * (p.n - n) ≤ 60)
  room e =
      let parts = or_parts (ltb 60 p.n) (ltb 60 (n + copies * (p.n - n))) e in
      let low = ltb-false 60 p.n parts.0 in
      let all = ltb-false 60 (n + copies * (p.n - n)) parts.1 in
      let more = at.some low in
      (omega arith, omega (arith, first_and_others), all)

  pub no_room : (m now : Memory) (q : Part) → Has n m now (shape_of q) p → (ltb 60 p.n || ltb 60 (n + copies * (p.n - n))) ≡ true → 60 < n + copies * positions q
  no_room m now q h e = ⊎_elim (λ l. high (ltb-true 60 p.n l)) (λ l. ⊎_elim (λ g. wide g (ltb-true 60 (n + copies * (p.n - n)) l)) high (le_or_lt p.n 60)) (or_cases (ltb 60 p.n) (ltb 60 (n + copies * (p.n - n))) e)
    where
      others : copies * positions q ≡ (copies - 1) * positions q + positions q
      others = ap (λ (v : ℕ). v * positions q) (omega arith) ∙ suc-mul (copies - 1) (positions q)

      high : 60 < p.n → 60 < n + copies * positions q
      high l = omega (arith, others, h.count)

      wide : p.n ≤ 60 → 60 < n + copies * (p.n - n) → 60 < n + copies * positions q
      wide g l = subst (λ (v : ℕ). 60 < n + copies * v) (omega (arith, h.count)) l

-- ---- the atoms of copies

module _ (q : Part) where
  abbrev chained : ℕ → Shape
  chained = chain (shape_of q) (owns_part q)

  -- a test that one of them passes
  any_chained : (any : List Atom → Bool) (one : Atom → Bool) → any [] ≡ false → ((a : Atom) (al : List Atom) → any (a ∷ al) ≡ (one a || any al)) → (k : ℕ) → any (chained k).atoms ≡ any (atoms q)
  any_chained any one e f zero = refl
  any_chained any one e f (suc k) = any_both any one e f (chained k).atoms (atoms q) ∙ ap (λ (t : Bool). t || any (atoms q)) (any_chained any one e f k) ∙ or_self (any (atoms q))

  misbounded_chained : (k : ℕ) → (chained k).misbounded ≡ (shape_of q).misbounded
  misbounded_chained zero = refl
  misbounded_chained (suc k) = ap (λ (t : Bool). t || (shape_of q).misbounded) (misbounded_chained k) ∙ or_self (shape_of q).misbounded

  with_chained : (al : List Atom) (k : ℕ) → with al (atoms q) (suc k) ≡ al ++ (chained k).atoms
  with_chained al zero = refl
  with_chained al (suc k) = ap (λ (l : List Atom). l ++ atoms q) (with_chained al k) ∙ append_assoc al (chained k).atoms (atoms q)

-- ---- what the result has

-- with other marks
abbrev pub changed : Parsed → ℕ → Bool → Parsed
changed p n named = record { n = n; empty = p.empty; firsts = p.firsts; lasts = p.lasts; reversed = p.reversed; hollow = p.hollow; misbounded = named; doubled = p.doubled }

module _ (n : ℕ) (m now : Memory) (p : Parsed) (q : Part) (h : Has n m now (shape_of q) p) where
  -- an interval that refusal 11 names
  pub has_misbounded : (b : Bounds) → out_of_bounds b ≡ true → Has n m now (shape_of (written_out b q)) (changed p p.n true)
  has_misbounded b e = subst (λ (x : Part). Has n m now (shape_of x) (changed p p.n true)) (sym (written_refused b q e)) record {
    count = h.count;
    reversed = h.reversed;
    hollow = h.hollow;
    misbounded = refl;
    keeps = λ f c.
        let k = h.keeps f c in
        record {
          empty = k.empty;
          firsts = k.firsts;
          lasts = k.lasts;
          adds = subst (λ (g : ℕ → ℕ → ℕ). Adds m.rows (λ a b. ltb 0 (g a b)) now.rows) (λ t a b. sym (add-zero (links n q a b)) t) k.adds;
          counts = subst (λ (g : ℕ → ℕ → ℕ). Counts m.rows m.more g now.rows now.more) (λ t a b. sym (add-zero (links n q a b)) t) k.counts;
          none = k.none;
        };
    stores = h.stores;
  }

  module _ (b : Bounds) (number : ℕ) (e : out_of_bounds b ≡ false) (are : number ≡ how_many b) (some : 0 < number) where
    -- the copies after the first
    abbrev k : ℕ
    k = number - 1

    with_first : number ≡ suc k
    with_first = omega arith

    is : how_many b ≡ suc k
    is = sym are ∙ with_first

    -- how many positions there are
    size : length (chained q k).atoms ≡ suc k * positions q
    size = chain_length (shape_of q) (owns_part q) k

    as_written : (now' : Memory) (r : Parsed) → Has n m now' (interval q b.lower k b.endless) r → Has n m now' (shape_of (written_out b q)) r
    as_written now' r = subst (λ (x : Shape). Has n m now' x r) (sym (written q b k e is))

    turned : p.reversed ≡ any_reversed (chained q k).atoms
    turned = h.reversed ∙ sym (any_chained q any_reversed (λ x. some_reversed x.items) refl (λ x l. refl) k)

    hollowed : p.hollow ≡ any_empty (chained q k).atoms
    hollowed = h.hollow ∙ sym (any_chained q any_empty (λ x. not (some_letter (holds x))) refl (λ x l. refl) k)

    named : p.misbounded ≡ (chained q k).misbounded
    named = h.misbounded ∙ sym (misbounded_chained q k)

    -- no room for the copies
    pub has_many : 60 < n + number * positions q → Has n m now (shape_of (written_out b q)) (changed p 61 p.misbounded)
    has_many over =
        let l : 60 < n + suc k * positions q = subst (λ (v : ℕ). 60 < n + v * positions q) with_first over in
        as_written now (changed p 61 p.misbounded)
        record { count = omega (arith, size); reversed = turned; hollow = hollowed; misbounded = named; keeps = λ f. absurd (omega (arith, size, l, f)); stores = λ f. absurd (omega (arith, size, l, f)) }

    -- room for them
    module _ (w : ℕ) (rows' more' : List ℕ) (tables' : Tables) (r : Parsed) (room : n + number * w ≤ 60) (wide : p.n ≡ n + w) (s : Repeats (n + 1) (n + 1 + k * w) w now.tables tables') (ch : Chains w number b now.rows now.more rows' more' p r) where
      few : n + suc k * w ≤ 60
      few = subst (λ (v : ℕ). n + v * w ≤ 60) with_first room

      width : positions q ≡ w
      width = let o = suc-mul k w in omega (arith, few, h.count, wide)

      first_few : n + positions q ≤ 60
      first_few = let o = suc-mul k w in omega (arith, few, width)

      stored : (al : List Atom) → length al ≡ n → Stored al m.tables.sets m.tables.credits → Stored (al ++ (chained q k).atoms) tables'.sets tables'.credits
      stored al l st =
          subst (λ (x : List Atom). Stored x tables'.sets tables'.credits) (with_chained q al k)
          (stored_copies al (atoms q) k now.tables tables' (some_position q) (subst (λ (u : ℕ × ℕ). u.0 + suc k * u.1 ≤ 60) turn few)
          (subst (λ (u : ℕ × ℕ). Repeats (u.0 + 1) (u.0 + 1 + k * u.1) u.1 now.tables tables') turn s) (h.stores first_few al l st))
        where
          turn : ◌≡◌ {A = ℕ × ℕ} (n, w) (length al, length (atoms q))
          turn t = (sym l t, sym width t)

      pub has_few : Has n m (memory rows' more' tables') (shape_of (written_out b q)) r
      has_few =
          as_written (memory rows' more' tables') r
          record {
            count = let o = suc-mul k w in omega (arith, ch.count, size, ap (λ (v : ℕ). suc k * v) width, wide, few);
            reversed = ch.reversed ∙ turned;
            hollow = ch.hollow ∙ hollowed;
            misbounded = ch.misbounded ∙ named;
            keeps = λ f c.
                let old = h.keeps first_few c in
                subst (λ (x : Shape). Keeps n m (memory rows' more' tables') x r) (written q b k e is)
                (ch.keeps n m tables' q e are width wide c
                record { empty = old.empty; firsts = old.firsts; lasts = old.lasts; adds = old.adds; counts = old.counts; none = old.none });
            stores = λ f. stored;
          }
