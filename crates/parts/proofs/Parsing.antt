-- What a result stands for, through the calls of a pattern, a branch and a piece. The idea: a call one deeper has a smaller measure,
-- so that the grammar's depth suffices for it too. Assumes nothing.
use mathlib.Core.Path.{◌≡◌, refl, sym, ap, ◌∙◌, subst}
use mathlib.Core.Bool.{Bool, true, false, ◌&&◌}
use mathlib.Core.List.{List, []}
use Prim.Native.Nat.{ℕ, zero, suc, ◌+◌, ◌*◌, ◌<◌, ◌≤◌}
use Prim.Native.Char.{code}
use native.Mathlib.Nat.{lt-suc_self}
use native.Mathlib.Omega.{arith}
use borrow.Author.Tests.{eq-eqb, ne_eqb}
use lib.Dec.{eqb, ltb}
use lib.ListN.{length, get_or, drop, replicate, length-drop}
use Rattle.std.specs.Prelude.{if◌then◌else◌, Option, Some, None}
use Rattle.std.specs.Borrow.{Bor}
use Rattle.basics.proofs.Tests.{if_yes, if_no}
use Rattle.basics.proofs.Lists.{zeros}
use Rattle.pattern.specs.Parts.{again, optional, star, plus}
use Rattle.pattern.specs.Grammar.{Read, read, broken, peek, read_letter, with_interval, read_interval, repeated, pattern_from, piece_from, read_pattern}
use Rattle.links.proofs.Linking.{links_alone}
use Rattle.bits.specs.Bits.{has_bit}
use Rattle.bits.proofs.Laws.{has_none}
use Rattle.links.specs.Rows.{NoneCounted}
use Rattle.links.proofs.Counting.{none_linked, counts_alone}
use Rattle.parsed.specs.declared.Parsed.{Parsed}
use Rattle.set_table.specs.declared.Tables.{Tables}
use Rattle.parsed.specs.Tables.{Stored}
use Rattle.parsed.specs.Parsed.{Shape, Memory, memory, Has, Stands}
use Rattle.repeats.specs.Repeats.{Placed, ReadsRepeat}
use Rattle.repeats.proofs.Intervals.{placed}
use Rattle.places.specs.Reads.{Reads}
use Rattle.parts.specs.Parsing.{Parses, closed_read, closed_from, Whole, IsPattern}

-- ---- a result

stands_as : (text : List ℕ) (n : ℕ) (m m' : Memory) (r : Option (Parsed × Bor (List ℕ))) {R Q : Read} → R ≡ Q → Stands text n m m' Q r → Stands text n m m' R r
stands_as text n m m' r e w = subst (λ (X : Read). Stands text n m m' X r) (sym e) w

-- what is parsed of a text's end is parsed of the text
stands_from : (inside text : List ℕ) (n : ℕ) (m m' : Memory) (R : Read) (r : Option (Parsed × Bor (List ℕ))) → length inside ≤ length text → Stands inside n m m' R r → Stands text n m m' R r
stands_from inside text n m m' R None l w = w
stands_from inside text n m m' R (Some x) l w = record { good = w.good; goes = w.goes; on = let on = w.on in omega arith; has = w.has }

-- the same by equal memory and an equal result
pub parses_by : (F : ℕ → List ℕ → Read) (rank : ℕ) (text : List ℕ) (n : ℕ) (m : Memory) {rows more rows' more' : List ℕ} {tables tables' : Tables} {r r' : Option (Parsed × Bor (List ℕ))} → rows ≡ rows' → more ≡ more' → tables ≡ tables' → r ≡ r'
    → Parses F rank text n m (memory rows' more' tables') r' → Parses F rank text n m (memory rows more tables) r
parses_by F rank text n m d h e g = subst (λ (x : Memory × Option (Parsed × Bor (List ℕ))). Parses F rank text n m x.0 x.1) (sym (λ i. (memory (d i) (h i) (e i), g i)))

-- ---- an atom: a pattern in `( )`, or a lettered one

abbrev pub atom_from : ℕ → List ℕ → Read
atom_from zero s = broken
atom_from (suc f) s = if eqb (peek s) (code "(") then closed_from (suc f) (drop 1 s) else read_letter s

module _ (left : List ℕ) (n : ℕ) (m now : Memory) (r : Option (Parsed × Bor (List ℕ))) where
  pub atom_open : (inside : List ℕ) → inside ≡ drop 1 left → 0 < length left → peek left ≡ code "(" → Parses closed_from 3 inside n m now r → Parses atom_from 0 left n m now r
  atom_open inside there some e w zero h = absurd (omega arith)
  atom_open inside there some e w (suc f) h =
      let l : length inside + 1 ≡ length left = omega (arith, ap length there, length-drop 1 left) in
      stands_as left n m now r (if_yes (closed_from (suc f) (drop 1 left)) (read_letter left) (eqb (peek left) (code "(")) (eq-eqb (peek left) (code "(") e) ∙ ap (closed_from (suc f)) (sym there))
      (stands_from inside left n m now (closed_from (suc f) inside) r (omega arith) (w (suc f) (omega arith)))

  pub atom_letter : (peek left ≡ code "(" → ⊥) → Stands left n m now (read_letter left) r → Parses atom_from 0 left n m now r
  atom_letter d w zero h = absurd (omega arith)
  atom_letter d w (suc f) h = stands_as left n m now r (if_no (closed_from (suc f) (drop 1 left)) (read_letter left) (eqb (peek left) (code "(")) (ne_eqb (peek left) (code "(") d)) w

-- ---- a piece: an atom, repeated

repeated_if : (t : Bool) (X : Read) → ◌≡◌ {A = Read} (if t then repeated X else broken) (repeated (if t then X else broken))
repeated_if true X = refl
repeated_if false X = refl

repeated_either : (t : Bool) (X Y : Read) → ◌≡◌ {A = Read} (if t then repeated X else repeated Y) (repeated (if t then X else Y))
repeated_either true X Y = refl
repeated_either false X Y = refl

piece_step : (f : ℕ) (l : List ℕ) → piece_from (suc f) l ≡ repeated (atom_from (suc f) l)
piece_step f l =
    let X = pattern_from f (drop 1 l) in
    ap (λ (Y : Read). if eqb (peek l) (code "(") then Y else repeated (read_letter l)) (repeated_if (X.good && eqb (peek X.rest) (code ")")) (read X.part (drop 1 X.rest)))
    ∙ repeated_either (eqb (peek l) (code "(")) (closed_read X) (read_letter l)

-- what is not good is not good repeated
repeated_bad : (R : Read) → R.good ≡ false → (repeated R).good ≡ false
repeated_bad R e = ap (λ (g : Bool). (by g).good) e ∙ e
  where
    by : Bool → Read
    by g =
        let b = peek R.rest in
        if g && eqb b (code "?") then read (again optional R.part) (drop 1 R.rest)
        else if g && eqb b (code "*") then read (again star R.part) (drop 1 R.rest)
        else if g && eqb b (code "+") then read (again plus R.part) (drop 1 R.rest)
        else if g && eqb b (code "{") then with_interval R.part (read_interval (drop 1 R.rest))
        else R

module _ (left : List ℕ) where
  pub no_piece : ((f : ℕ) → 3 * length left + 0 < f → (atom_from f left).good ≡ false) → (f : ℕ) → 3 * length left + 0 < f → (piece_from f left).good ≡ false
  no_piece w zero h = absurd (omega arith)
  no_piece w (suc f) h = ap (λ (X : Read). X.good) (piece_step f left) ∙ repeated_bad (atom_from (suc f) left) (w (suc f) h)

  module _ (n : ℕ) (m now : Memory) (a : Parsed) (rest : Bor (List ℕ)) (w : Parses atom_from 0 left n m now (Some (a, rest))) where
    pub piece_repeated : (now' : Memory) (r : Option (Parsed × Bor (List ℕ))) → ReadsRepeat rest.now n now now' a r → Parses piece_from 0 left n m now' r
    piece_repeated now' r e zero h = absurd (omega arith)
    piece_repeated now' r e (suc f) h = stands_as left n m now' r (piece_step f left) (e left m (atom_from (suc f) left) (w (suc f) h))

    -- the atom has the positions after n
    pub atom_placed : n ≤ 61 → Placed n a
    atom_placed low = let f = suc (3 * length left + 0) in placed n m now (atom_from f left).part a low (w f (lt-suc_self (3 * length left + 0))).has

-- ---- the whole pattern: nothing is before it

pub has_whole : (k : ℕ) (rows more more' : List ℕ) (tables tables' : Tables) (x : Shape) (r : Parsed) → Has 0 (memory (replicate k 0) more tables) (memory rows more' tables') x r
    → Stored [] tables.sets tables.credits → NoneCounted more → Whole x rows more' tables'.sets tables'.credits r
has_whole k rows more more' tables tables' x r h st none = record {
  count = omega (arith, h.count);
  reversed = h.reversed;
  hollow = h.hollow;
  misbounded = h.misbounded;
  keeps = λ few.
      let w = h.keeps (omega arith) record { unlinked = λ a b l. ap (λ (i : ℕ). has_bit i b) (zeros k a) ∙ has_none b; none = λ a b x y l. none_linked k more none a b } in
      record {
        count = omega (arith, h.count, few);
        empty = w.empty;
        firsts = w.firsts;
        lasts = w.lasts;
        links = links_alone k rows (λ a b. ltb 0 (x.links 0 a b)) w.adds;
        numbers = counts_alone k rows more more' (x.links 0) none w.counts;
        none = λ d i. ap (λ (l : List ℕ). get_or l i 0) (w.none d) ∙ none i;
        stored = h.stores (omega arith) [] refl st;
      };
}

pub all_parsed : (text rows more more' : List ℕ) (tables tables' : Tables) → Stored [] tables.sets tables.credits → NoneCounted more
    → (r : Option (Parsed × Bor (List ℕ))) → Stands text 0 (memory (replicate 61 0) more tables) (memory rows more' tables') (read_pattern text) r → Reads r ((read_pattern text).good ≡ false) (IsPattern text rows more' tables')
all_parsed text rows more more' tables tables' st none None w = w
all_parsed text rows more more' tables tables' st none (Some x) w = record { good = w.good; goes = w.goes; has = has_whole 61 _ _ _ _ _ _ _ w.has st none }
