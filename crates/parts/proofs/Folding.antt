-- Patterns and branches, folded from the left. The idea: of what was read so far only the shape counts, and shapes associate; so
-- what the grammar reads of the whole text has the shape so far and, joined to it, the shape of what it reads of the text that is left.
-- Assumes nothing.
use mathlib.Core.Path.{◌≡◌, refl, sym, ap, ap₂, ◌∙◌, subst}
use mathlib.Core.Bool.{Bool, true, false, ◌&&◌}
use mathlib.Core.List.{List}
use Prim.Native.Nat.{ℕ, zero, suc, ◌+◌, ◌*◌, ◌<◌, ◌≤◌}
use Prim.Native.Char.{code}
use native.Mathlib.Nat.{lt-suc_self}
use native.Mathlib.Omega.{arith}
use lib.Dec.{eqb}
use lib.ListN.{length, drop, length-drop}
use Rattle.std.specs.Prelude.{if◌then◌else◌, Some}
use Rattle.std.specs.Borrow.{Bor}
use Rattle.basics.proofs.Tests.{if_yes, if_no}
use Rattle.pattern.specs.Parts.{Part, joined, either}
use Rattle.pattern.specs.Grammar.{Read, read, broken, peek, goes_on, piece_from, branch_from, pattern_from}
use Rattle.parsed.specs.declared.Parsed.{Parsed}
use Rattle.parsed.specs.Parsed.{Shape, shape_of, Memory, memory, Has, Gives, nothing_read, Follows, Either, Joins}
use Rattle.parts.specs.Parsing.{Parses}
use Rattle.parsed.proofs.Joining.{has_nothing, has_either, has_joined}
use Rattle.parsed.proofs.Shapes.{joined_shape, either_shape, no_shape, joined_none, joined_assoc, either_none, either_assoc, Owns, owns_part, owns_none, owns_joined, owns_either}

-- a part, and one read after it
abbrev both : (Part → Part → Part) → Read → Read → Read
both combine a b = if b.good then read (combine a.part b.part) b.rest else broken

-- A loop that folds: `self` reads a `first` and, on a test of what comes next and some bytes on, combines it with more of its own kind.
-- For shapes op does so, with a unit, which can be empty where `none` says so; for a and b in the program, and for the memory after b,
-- Combined says that r and the memory after it are what they are combined to.
pub record Fold : Type 1 where
  pub first : ℕ → List ℕ → Read
  pub self : ℕ → List ℕ → Read
  pub rank : ℕ
  pub skip : ℕ
  pub test : List ℕ → Bool
  pub combine : Part → Part → Part
  pub step : (f : ℕ) (s : List ℕ) → self (suc f) s ≡ (if (first f s).good && test (first f s).rest then both combine (first f s) (self f (drop skip (first f s).rest)) else first f s)
  pub op : Shape → Shape → Shape
  pub none : Bool
  pub shapes : (p q : Part) → shape_of (combine p q) ≡ op (shape_of p) (shape_of q)
  pub unit : (x : Shape) → op (no_shape none) x ≡ x
  pub owns : (x y : Shape) → Owns x → Owns y → Owns (op x y)
  pub assoc : (x y z : Shape) → Owns x → Owns y → Owns z → op (op x y) z ≡ op x (op y z)
  pub Combined : Memory → Memory → Parsed → Parsed → Parsed → Type 0
  pub follows : (m m' : Memory) (a b r : Parsed) → Combined m m' a b r → Follows a b r
  pub has : (n : ℕ) (m m₁ m₂ m₃ : Memory) (x y : Shape) (a b r : Parsed) → Owns x → Owns y → Has n m m₁ x a → Has a.n m₁ m₂ y b → Combined m₂ m₃ a b r → Has n m m₃ (op x y) r

-- pieces to a branch
abbrev pub pieces : Fold
pieces = record {
  first = piece_from;
  self = branch_from;
  rank = 0;
  skip = 0;
  test = goes_on;
  combine = joined;
  step = λ f s. refl;
  op = joined_shape;
  none = true;
  shapes = λ p q. refl;
  unit = joined_none;
  owns = owns_joined;
  assoc = joined_assoc;
  Combined = λ m m' a b r. Joins m.rows m'.rows a b r × (m' ≡ memory m'.rows m.more m.tables);
  follows = λ m m' a b r e. e.0.follows;
  has = λ n m m₁ m₂ m₃ x y a b r ox oy ha hb e. subst (λ (k : Memory). Has n m k (joined_shape x y) r) (sym e.1) (has_joined n m m₁ m₂ x y ox oy a b ha hb m₃.rows r e.0);
}

-- does another branch follow
abbrev bar_next : List ℕ → Bool
bar_next s = eqb (peek s) (code "|")

-- branches to a pattern
abbrev pub branches : Fold
branches = record {
  first = branch_from;
  self = pattern_from;
  rank = 1;
  skip = 1;
  test = bar_next;
  combine = either;
  step = λ f s. refl;
  op = either_shape;
  none = false;
  shapes = λ p q. refl;
  unit = either_none;
  owns = owns_either;
  assoc = λ x y z ox oy oz. either_assoc x y z;
  Combined = λ m m' a b r. Either a b r × (m' ≡ m);
  follows = λ m m' a b r e. e.0.follows;
  has = λ n m m₁ m₂ m₃ x y a b r ox oy ha hb e. subst (λ (k : Memory). Has n m k (either_shape x y) r) (sym e.1) (has_either n m m₁ m₂ x y ox oy a b ha hb r e.0);
}

module _ (F : Fold) where
  -- R is good where Q is, and then it is the shape x and, joined to it, Q
  pub record Then (x : Shape) (R Q : Read) : Type 0 where
    pub bad : Q.good ≡ false → R.good ≡ false
    pub good : Q.good ≡ true → R.good ≡ true
    pub goes : Q.good ≡ true → R.rest ≡ Q.rest
    pub shape : Q.good ≡ true → shape_of R.part ≡ F.op x (shape_of Q.part)

  then_more : (x : Shape) → Owns x → (R A B : Read) → Then x R (both F.combine A B) → Then (F.op x (shape_of A.part)) R B
  then_more x ox R A B t = record {
    bad = λ g. t.bad (ap (λ (X : Read). X.good) (no g));
    good = λ g. t.good (ap (λ (X : Read). X.good) (yes g));
    goes = λ g. t.goes (ap (λ (X : Read). X.good) (yes g)) ∙ ap (λ (X : Read). X.rest) (yes g);
    shape = λ g. t.shape (ap (λ (X : Read). X.good) (yes g)) ∙ ap (λ (X : Read). F.op x (shape_of X.part)) (yes g) ∙ ap (F.op x) (F.shapes A.part B.part)
        ∙ sym (F.assoc x (shape_of A.part) (shape_of B.part) ox (owns_part A.part) (owns_part B.part));
  }
    where
      yes : B.good ≡ true → both F.combine A B ≡ read (F.combine A.part B.part) B.rest
      yes g = if_yes (read (F.combine A.part B.part) B.rest) broken B.good g

      no : B.good ≡ false → both F.combine A B ≡ broken
      no g = if_no (read (F.combine A.part B.part) B.rest) broken B.good g

  module _ (text : List ℕ) (n : ℕ) (m : Memory) where
    -- a, and the memory now, have the shape of what was read so far of what the grammar reads at the depth f; it reads the rest of it
    -- of the text that is left
    pub record Partly (f : ℕ) (left : List ℕ) (now : Memory) (a : Parsed) : Type 0 where
      pub depth : ℕ
      pub enough : 3 * length left + suc F.rank < depth
      pub shape : Shape
      pub owns : Owns shape
      pub has : Has n m now shape a
      pub rest : Then shape (F.self f text) (F.self depth left)

    pub record Sofar (left : List ℕ) (now : Memory) (a : Parsed) : Type 0 where
      pub within : length left ≤ length text
      pub few : a.n ≤ 61
      pub partly : (f : ℕ) → 3 * length text + suc F.rank < f → Partly f left now a

    begin : n ≤ 61 → Sofar text m (nothing_read n F.none)
    begin l = record {
      within = omega arith;
      few = l;
      partly = λ f h. record {
        depth = f;
        enough = h;
        shape = no_shape F.none;
        owns = owns_none F.none;
        has = has_nothing n m F.none l;
        rest = record { bad = λ g. g; good = λ g. g; goes = λ g. refl; shape = λ g. sym (F.unit (shape_of (F.self f text).part)) };
      };
    }

    pub begins : n ≤ 61 → (a : Parsed) → a ≡ nothing_read n F.none → Sofar text m a
    begins l a e = subst (Sofar text m) (sym e) (begin l)

    module _ (left : List ℕ) (now : Memory) (a : Parsed) (so : Sofar left now a) where
      -- none comes
      pub breaks : ((f : ℕ) → 3 * length left + F.rank < f → (F.first f left).good ≡ false) → (f : ℕ) → 3 * length text + suc F.rank < f → (F.self f text).good ≡ false
      breaks e f h = let w = so.partly f h in w.rest.bad (none w.depth w.enough)
        where
          none : (d : ℕ) → 3 * length left + suc F.rank < d → (F.self d left).good ≡ false
          none zero l = absurd (omega arith)
          none (suc d) l =
              let A = F.first d left in
              let bad : A.good ≡ false = e d (omega arith) in
              ap (λ (X : Read). X.good) (F.step d left ∙ if_no (both F.combine A (F.self d (drop F.skip A.rest))) A (A.good && F.test A.rest) (ap (λ (g : Bool). g && F.test A.rest) bad)) ∙ bad

      -- one more, b, is combined with a: that is r
      module _ (now' now'' : Memory) (b r : Parsed) (rest : Bor (List ℕ)) (goes : Parses F.first F.rank left a.n now now' (Some (b, rest))) (combined : F.Combined now' now'' a b r) where
        has : (x : Shape) → Owns x → Has n m now x a → (d : ℕ) → 3 * length left + F.rank < d → Has n m now'' (F.op x (shape_of (F.first d left).part)) r
        has x ox hx d l = F.has n m now now' now'' x (shape_of (F.first d left).part) a b r ox (owns_part (F.first d left).part) hx (goes d l).has combined

        -- the test is the code's
        tested : (d : ℕ) → 3 * length left + F.rank < d → ((F.first d left).good && F.test (F.first d left).rest) ≡ F.test rest.now
        tested d l = ap₂ (λ (g : Bool) (t : List ℕ). g && F.test t) (goes d l).good (goes d l).goes

        -- it was the last
        pub ends : F.test rest.now ≡ false → Parses F.self (suc F.rank) text n m now'' (Some (r, rest))
        ends e f h = let w = so.partly f h in last w.depth w.enough w.shape w.owns w.has w.rest
          where
            last : (d : ℕ) → 3 * length left + suc F.rank < d → (x : Shape) → Owns x → Has n m now x a → Then x (F.self f text) (F.self d left) → Gives text n m now'' (F.self f text) r rest.now
            last zero l x ox hx t = absurd (omega arith)
            last (suc d) l x ox hx t =
                let low : 3 * length left + F.rank < d = omega arith in
                let A = F.first d left in
                let y = goes d low in
                let is : F.self (suc d) left ≡ A = F.step d left ∙ if_no (both F.combine A (F.self d (drop F.skip A.rest))) A (A.good && F.test A.rest) (tested d low ∙ e) in
                let g : (F.self (suc d) left).good ≡ true = ap (λ (X : Read). X.good) is ∙ y.good in
                record {
                  good = t.good g;
                  goes = t.goes g ∙ ap (λ (X : Read). X.rest) is ∙ y.goes;
                  on = let on = y.on in let within = so.within in omega arith;
                  has = subst (λ (z : Shape). Has n m now'' z r) (sym (t.shape g ∙ ap (λ (X : Read). F.op x (shape_of X.part)) is)) (has x ox hx d low);
                }

        -- or another comes, in the text that is left then
        module _ (left' : List ℕ) (there : left' ≡ drop F.skip rest.now) (e : F.test rest.now ≡ true) where
          pub shorter : length left' < length left
          shorter = let on = (goes _ (lt-suc_self (3 * length left + F.rank))).on in omega (arith, ap length there, length-drop F.skip rest.now)

          next : (R : Read) (d : ℕ) → 3 * length left + suc F.rank < d → (x : Shape) → Owns x → Has n m now x a → Then x R (F.self d left) → (f : ℕ) → R ≡ F.self f text → Partly f left' now'' r
          next R zero l x ox hx t f k = absurd (omega arith)
          next R (suc d) l x ox hx t f k =
              let low : 3 * length left + F.rank < d = omega arith in
              let A = F.first d left in
              let is : F.self (suc d) left ≡ both F.combine A (F.self d left') = F.step d left ∙ if_yes (both F.combine A (F.self d (drop F.skip A.rest))) A (A.good && F.test A.rest) (tested d low ∙ e)
              ∙ ap (λ (l : List ℕ). both F.combine A (F.self d l)) (ap (drop F.skip) (goes d low).goes ∙ sym there) in
              record {
                depth = d;
                enough = omega (arith, shorter);
                shape = F.op x (shape_of A.part);
                owns = F.owns x (shape_of A.part) ox (owns_part A.part);
                has = has x ox hx d low;
                rest = then_more x ox (F.self f text) A (F.self d left') (subst (λ (u : Read × Read). Then x u.0 u.1) (λ i. (k i, is i)) t);
              }

          pub goes_further : Sofar left' now'' r
          goes_further =
              let y = goes _ (lt-suc_self (3 * length left + F.rank)) in
              let count = (F.follows now' now'' a b r combined).count in
              record {
                within = let within = so.within in omega (arith, shorter);
                few = omega (arith, y.has.count);
                partly = λ f h. let w = so.partly f h in next (F.self f text) w.depth w.enough w.shape w.owns w.has w.rest f refl;
              }
