-- Results that have shapes: a lettered atom, a repeat, a part and one after it, and nothing before the first. Assumes nothing.
use mathlib.Core.Path.{◌≡◌, refl, sym, ap, ap₂, ◌∙◌, subst}
use mathlib.Core.Bool.{Bool, true, false, ◌&&◌, ◌||◌, not, and_assoc, and-false, or-false, or_assoc}
use mathlib.Core.List.{List, [], ◌∷◌, ◌++◌, append-nil, append_assoc}
use Prim.Native.Nat.{ℕ, zero, suc, ◌+◌, ◌<◌, ◌≤◌, min}
use native.Mathlib.Numerals.{add-one}
use native.Mathlib.Omega.{arith}
use lib.Dec.{eqb, ltb}
use lib.ListN.{length, length-append}
use Rattle.std.specs.Prelude.{if◌then◌else◌}
use Rattle.basics.proofs.Tests.{and_parts, or_parts}
use Rattle.bits.specs.Bits.{has_bit}
use Rattle.alphabet.specs.Alphabet.{some_letter}
use Rattle.pattern.specs.Parts.{Atom, holds, Repeat, skips, loops, is_misbounded, Part, letter, again}
use Rattle.pattern.specs.Positions.{is_first, is_last, links}
use Rattle.pattern.specs.Refusals.{some_reversed, any_reversed, any_empty, any_misbounded}
use Rattle.parsed.specs.declared.Parsed.{Parsed}
use Rattle.set_table.specs.declared.Tables.{Tables}
use Rattle.links.specs.Rows.{kept, Marks, Adds, number, after, Counts, Clear, LinksMore}
use Rattle.parsed.specs.Tables.{Stored}
use Rattle.pattern.specs.Grammar.{Read}
use Rattle.parsed.specs.Parsed.{Shape, shape_of, Memory, memory, Keeps, Has, Gives, nothing_read, Either, Joins}
use Rattle.parsed.proofs.Shapes.{joined_shape, either_shape, no_shape, Owns}
use Rattle.links.proofs.Linking.{marks_if, marks_none, adds_none}
use Rattle.links.proofs.Counting.{counts_both, adds_more, adds_one, counts_new, counts_one}

-- ---- a result

pub gives_as : {text rest : List ℕ} {n : ℕ} {m m' : Memory} {r : Parsed} {R Q : Read} → R ≡ Q → Gives text n m m' Q r rest → Gives text n m m' R r rest
gives_as {text} {rest} {n} {m} {m'} {r} e w = subst (λ (X : Read). Gives text n m m' X r rest) (sym e) w

-- ---- nothing, and one atom

pub has_nothing : (n : ℕ) (m : Memory) (empty : Bool) → n ≤ 61 → Has n m m (no_shape empty) (nothing_read n empty)
has_nothing n m empty low = record {
  count = omega arith;
  reversed = refl;
  hollow = refl;
  misbounded = refl;
  keeps = λ h c. record { empty = refl; firsts = marks_none; lasts = marks_none; adds = adds_none m.rows; counts = λ a b k l. refl; none = λ e. refl };
  stores = λ h al l st. subst (λ (x : List Atom). Stored x m.tables.sets m.tables.credits) (sym (append-nil al)) st;
}

pub has_read_letter : (n : ℕ) (rows more : List ℕ) (tables tables' : Tables) (x : Atom) (count own : ℕ) (reversed hollow : Bool) → count ≡ min (n + 1) 61 → (n + 1 ≤ 60 → Marks own (λ b. eqb b (n + 1)))
    → reversed ≡ some_reversed x.items → hollow ≡ not (some_letter (holds x)) → (n + 1 ≤ 60 → (al : List Atom) → length al ≡ n → Stored al tables.sets tables.credits → Stored (al ++ (x ∷ [])) tables'.sets tables'.credits)
    → Has n (memory rows more tables) (memory rows more tables') (shape_of (letter x)) record { n = count; empty = false; firsts = own; lasts = own; reversed = reversed; hollow = hollow; misbounded = false; doubled = false }
has_read_letter n rows more tables tables' x count own reversed hollow cuts m turned empty stored = record {
  count = cuts;
  reversed = turned ∙ sym (or-false (some_reversed x.items));
  hollow = empty ∙ sym (or-false (not (some_letter (holds x))));
  misbounded = refl;
  keeps = λ h c. record { empty = refl; firsts = mine h; lasts = mine h; adds = adds_none rows; counts = λ a b k l. refl; none = λ e. refl };
  stores = stored;
}
  where
    mine : n + 1 ≤ 60 → Marks own (is_first n (letter x))
    mine h b = m h b ∙ ap (λ (i : ℕ). kept b && eqb b i) (add-one n)

-- ---- one link more from each of some to each of some, as a repeat makes them

module _ (n : ℕ) (m m₁ : Memory) (x y : Shape) (a r : Parsed) (k : Keeps n m m₁ x a) (back firsts : ℕ) (f g : ℕ → Bool) (fs : Marks back f) (gs : Marks firsts g) (rows' more' : List ℕ) (second : Bool) (l : LinksMore m₁.rows m₁.more back firsts rows' more' second) where
  abbrev over : ℕ → ℕ → ℕ
  over i j = if f i && g j then 1 else 0

  pub keeps_linked : r.empty ≡ y.empty → Marks r.firsts (y.first n) → Marks r.lasts (y.last n) → r.doubled ≡ (a.doubled || second) → ((i j : ℕ) → y.links n i j ≡ x.links n i j + (if f i && g j then 1 else 0))
      → Keeps n m (memory rows' more' m₁.tables) y r
  keeps_linked e first last d more-links = record {
    empty = e;
    firsts = first;
    lasts = last;
    adds =
        subst (λ (h : ℕ → ℕ → ℕ). Adds m.rows (λ i j. ltb 0 (h i j)) rows') (sym (λ t i j. more-links i j t))
        (adds_more m.rows m₁.rows rows' (x.links n) over k.adds (adds_one m₁.rows rows' back firsts f g l.linked fs gs));
    counts =
        subst (λ (h : ℕ → ℕ → ℕ). Counts m.rows m.more h rows' more') (sym (λ t i j. more-links i j t))
        (counts_both m.rows m.more m₁.rows m₁.more rows' more' (x.links n) over k.counts (counts_one m₁.rows m₁.more rows' more' back firsts f g l.counts fs gs));
    none = λ h. let parts = or_parts a.doubled second (sym d ∙ h) in l.none parts.1 ∙ k.none parts.0;
  }

pub has_again : (n : ℕ) (m : Memory) (rows more : List ℕ) (tables : Tables) (p : Part) (a : Parsed) → Has n m (memory rows more tables) (shape_of p) a
    → (k : Repeat) (skip loop : Bool) → skips k ≡ skip → loops k ≡ loop → is_misbounded k ≡ false → (back : ℕ) (rows' more' : List ℕ) (second : Bool)
    → ((b : ℕ) → has_bit back b ≡ (has_bit 0 b || (loop && has_bit a.lasts b))) → LinksMore rows more back a.firsts rows' more' second
    → Has n m (memory rows' more' tables) (shape_of (again k p)) record { n = a.n; empty = skip || a.empty; firsts = a.firsts; lasts = a.lasts; reversed = a.reversed; hollow = a.hollow; misbounded = a.misbounded; doubled = a.doubled || second }
has_again n m rows more tables p a ha k skip loop e f named back rows' more' second j l = record {
  count = ha.count;
  reversed = ha.reversed;
  hollow = ha.hollow;
  misbounded = ha.misbounded ∙ ap (λ (u : Bool). u || any_misbounded p) (sym named);
  keeps = λ h c.
      let w = ha.keeps h c in
      keeps_linked n m (memory rows more tables) (shape_of p) (shape_of (again k p)) a _ w back a.firsts (λ x. loop && is_last n p x) (λ y. is_first n p y)
      (marks_if back 0 a.lasts (λ x. false) (λ x. is_last n p x) loop j marks_none w.lasts) w.firsts rows' more' second l (ap₂ ◌||◌ (sym e) w.empty) w.firsts w.lasts refl
      (λ x y. ap (λ (u : ℕ). links n p x y + u) (sym (round x y)));
  stores = ha.stores;
}
  where
    round : (x y : ℕ) → ◌≡◌ {A = ℕ} (if (loop && is_last n p x) && is_first n p y then 1 else 0) (if loops k && (is_last n p x && is_first n p y) then 1 else 0)
    round x y =
        ap {B = ℕ} (λ (u : Bool). if u then 1 else 0)
        (and_assoc loop (is_last n p x) (is_first n p y) ∙ ap (λ (u : Bool). u && (is_last n p x && is_first n p y)) (sym f))

-- ---- a part and one after it

-- a test that one of some atoms passes
pub any_both : (any : List Atom → Bool) (one : Atom → Bool) → any [] ≡ false → ((a : Atom) (al : List Atom) → any (a ∷ al) ≡ (one a || any al)) → (al bl : List Atom) → any (al ++ bl) ≡ (any al || any bl)
any_both any one e f [] bl = sym (ap (λ (b : Bool). b || any bl) e)
any_both any one e f (a ∷ al) bl =
    f a (al ++ bl) ∙ ap (λ (b : Bool). one a || b) (any_both any one e f al bl) ∙ sym (ap (λ (b : Bool). b || any bl) (f a al) ∙ or_assoc (one a) (any al) (any bl))

pub none : (k : ℕ) → (1 ≤ k → ⊥) → k ≡ 0
none zero h = refl
none (suc k) h = absurd (h (omega arith))

-- past its own positions, a shape adds no link
pub clear_on : (n : ℕ) (x : Shape) (rows more rows' more' : List ℕ) → Owns x → Clear n rows more → Adds rows (λ a b. ltb 0 (x.links n a b)) rows' → Counts rows more (x.links n) rows' more'
    → Clear (n + length x.atoms) rows' more'
clear_on n x rows more rows' more' o c h w = record {
  unlinked = λ a b past. h a b ∙ ap₂ (λ (t : Bool) (i : ℕ). t || ((kept a && kept b) && ltb 0 i)) (c.unlinked a b (omega arith)) (past_own a b past) ∙ and-false (kept a && kept b);
  none = λ a b k l past. w a b k l ∙ ap₂ after (past_own a b past) (c.none a b k l (omega arith));
}
  where
    past_own : (a b : ℕ) → n + length x.atoms < a → x.links n a b ≡ 0
    past_own a b past = none (x.links n a b) (λ e. let i = (o.links n a b e).0 in omega arith)

module _ (n : ℕ) (m m₁ m₂ : Memory) (p q : Shape) (op : Owns p) (oq : Owns q) (a b : Parsed) (c : Clear n m.rows m.more) (ka : Keeps n m m₁ p a) (kb : Keeps (n + length p.atoms) m₁ m₂ q b) where
  -- no link of the one, or of the other, leads from or to positions that are not its own
  first_none : (x y : ℕ) → (((n < x) × (x ≤ n + length p.atoms)) × ((n < y) × (y ≤ n + length p.atoms)) → ⊥) → p.links n x y ≡ 0
  first_none x y d = none (p.links n x y) (λ h. d (op.links n x y h))

  abbrev after_first : ℕ
  after_first = n + length p.atoms

  second_none : (x y : ℕ) → (((after_first < x) × (x ≤ after_first + length q.atoms)) × ((after_first < y) × (y ≤ after_first + length q.atoms)) → ⊥) → q.links after_first x y ≡ 0
  second_none x y d = none (q.links after_first x y) (λ h. d (oq.links after_first x y h))

  -- from a last of the first to a first of the second no link leads yet
  not_yet : (x y : ℕ) → kept x ≡ true → kept y ≡ true → (p.last n x && q.first (n + length p.atoms) y) ≡ true → number m₂.rows m₂.more x y ≡ 0
  not_yet x y k l e =
      let w = and_parts (p.last n x) (q.first (n + length p.atoms) y) e in
      let i = op.lasts n x w.0 in
      let j = oq.firsts (n + length p.atoms) y w.1 in
      kb.counts x y k l
      ∙ ap₂ after (second_none x y (λ o. let u = o.0 in omega arith)) (ka.counts x y k l ∙ ap₂ after (first_none x y (λ o. let u = o.1 in omega arith)) (c.none x y k l i.0))

  none_both : (a.doubled ≡ false) × (b.doubled ≡ false) → m₂.more ≡ m.more
  none_both d = kb.none d.1 ∙ ka.none d.0

  pub keeps_either : (r : Parsed) → Either a b r → Keeps n m m₂ (either_shape p q) r
  keeps_either r e = record {
    empty = e.empty ∙ ap₂ ◌||◌ ka.empty kb.empty;
    firsts = marks_if r.firsts a.firsts b.firsts (p.first n) (q.first after_first) true e.firsts ka.firsts kb.firsts;
    lasts = marks_if r.lasts a.lasts b.lasts (p.last n) (q.last after_first) true e.lasts ka.lasts kb.lasts;
    adds = adds_more m.rows m₁.rows m₂.rows (p.links n) (q.links after_first) ka.adds kb.adds;
    counts = counts_both m.rows m.more m₁.rows m₁.more m₂.rows m₂.more (p.links n) (q.links after_first) ka.counts kb.counts;
    none = λ d. none_both (or_parts a.doubled b.doubled (sym e.doubled ∙ d));
  }

  pub keeps_joined : (rows : List ℕ) (r : Parsed) → Joins m₂.rows rows a b r → Keeps n m (memory rows m₂.more m₂.tables) (joined_shape p q) r
  keeps_joined rows r e = record {
    empty = e.empty ∙ ap₂ ◌&&◌ ka.empty kb.empty;
    firsts =
        subst (λ (t : Bool). Marks r.firsts (λ j. p.first n j || (t && q.first after_first j))) ka.empty
        (marks_if r.firsts a.firsts b.firsts (p.first n) (q.first after_first) a.empty e.firsts ka.firsts kb.firsts);
    lasts =
        subst (λ (t : Bool). Marks r.lasts (λ j. q.last after_first j || (t && p.last n j))) kb.empty
        (marks_if r.lasts b.lasts a.lasts (q.last after_first) (p.last n) b.empty e.lasts kb.lasts ka.lasts);
    adds =
        adds_more m.rows m₁.rows rows (p.links n) (λ x y. q.links after_first x y + over x y) ka.adds
        (adds_more m₁.rows m₂.rows rows (q.links after_first) over kb.adds (adds_one m₂.rows rows a.lasts b.firsts (p.last n) (q.first after_first) e.links ka.lasts kb.firsts));
    counts =
        counts_both m.rows m.more m₁.rows m₁.more rows m₂.more (p.links n) (λ x y. q.links after_first x y + over x y) ka.counts
        (counts_both m₁.rows m₁.more m₂.rows m₂.more rows m₂.more (q.links after_first) over kb.counts
        (counts_new m₂.rows rows a.lasts b.firsts (p.last n) (q.first after_first) e.links ka.lasts kb.firsts m₂.more not_yet));
    none = λ d. none_both (or_parts a.doubled b.doubled (sym e.doubled ∙ d));
  }
    where
      over : ℕ → ℕ → ℕ
      over x y = if p.last n x && q.first (n + length p.atoms) y then 1 else 0

module _ (n : ℕ) (m m₁ m₂ : Memory) (p q : Shape) (op : Owns p) (oq : Owns q) (a b : Parsed) (ha : Has n m m₁ p a) (hb : Has a.n m₁ m₂ q b) where
  counted : b.n ≡ min (n + length (p.atoms ++ q.atoms)) 61
  counted = omega (arith, ha.count, hb.count, length-append p.atoms q.atoms)

  turned : (a.reversed || b.reversed) ≡ any_reversed (p.atoms ++ q.atoms)
  turned = ap₂ ◌||◌ ha.reversed hb.reversed ∙ sym (any_both any_reversed (λ x. some_reversed x.items) refl (λ x l. refl) p.atoms q.atoms)

  hollowed : (a.hollow || b.hollow) ≡ any_empty (p.atoms ++ q.atoms)
  hollowed = ap₂ ◌||◌ ha.hollow hb.hollow ∙ sym (any_both any_empty (λ x. not (some_letter (holds x))) refl (λ x l. refl) p.atoms q.atoms)

  -- where both have room, so has the first, and the second begins where it ends
  module _ (few : n + length (p.atoms ++ q.atoms) ≤ 60) where
    first_few : n + length p.atoms ≤ 60
    first_few = omega (arith, length-append p.atoms q.atoms)

    begins : a.n ≡ n + length p.atoms
    begins = omega (arith, ha.count, first_few)

    second_few : a.n + length q.atoms ≤ 60
    second_few = omega (arith, begins, length-append p.atoms q.atoms)

    module _ (c : Clear n m.rows m.more) where
      first_keeps : Keeps n m m₁ p a
      first_keeps = ha.keeps first_few c

      second_clear : Clear (n + length p.atoms) m₁.rows m₁.more
      second_clear = clear_on n p m.rows m.more m₁.rows m₁.more op c first_keeps.adds first_keeps.counts

      second_keeps : Keeps (n + length p.atoms) m₁ m₂ q b
      second_keeps = subst (λ (k : ℕ). Keeps k m₁ m₂ q b) begins (hb.keeps second_few (subst (λ (k : ℕ). Clear k m₁.rows m₁.more) (sym begins) second_clear))

    stored : (al : List Atom) → length al ≡ n → Stored al m.tables.sets m.tables.credits → Stored (al ++ (p.atoms ++ q.atoms)) m₂.tables.sets m₂.tables.credits
    stored al l st =
        subst (λ (x : List Atom). Stored x m₂.tables.sets m₂.tables.credits) (append_assoc al p.atoms q.atoms)
        (hb.stores second_few (al ++ p.atoms) (omega (arith, l, begins, length-append al p.atoms)) (ha.stores first_few al l st))

  pub has_either : (r : Parsed) → Either a b r → Has n m m₂ (either_shape p q) r
  has_either r e = record {
    count = e.follows.count ∙ counted;
    reversed = e.follows.reversed ∙ turned;
    hollow = e.follows.hollow ∙ hollowed;
    misbounded = e.follows.misbounded ∙ ap₂ ◌||◌ ha.misbounded hb.misbounded;
    keeps = λ h c. keeps_either n m m₁ m₂ p q op oq a b c (first_keeps h c) (second_keeps h c) r e;
    stores = stored;
  }

  pub has_joined : (rows : List ℕ) (r : Parsed) → Joins m₂.rows rows a b r → Has n m (memory rows m₂.more m₂.tables) (joined_shape p q) r
  has_joined rows r e = record {
    count = e.follows.count ∙ counted;
    reversed = e.follows.reversed ∙ turned;
    hollow = e.follows.hollow ∙ hollowed;
    misbounded = e.follows.misbounded ∙ ap₂ ◌||◌ ha.misbounded hb.misbounded;
    keeps = λ h c. keeps_joined n m m₁ m₂ p q op oq a b c (first_keeps h c) (second_keeps h c) rows r e;
    stores = stored;
  }
