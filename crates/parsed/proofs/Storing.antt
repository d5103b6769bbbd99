-- The tables with one atom more: the store at the next entry changes that one alone. Assumes nothing.
use mathlib.Core.Path.{◌≡◌, refl, sym, ap, ◌∙◌, subst}
use mathlib.Core.Bool.{and-false, false}
use mathlib.Core.List.{List, [], ◌∷◌, ◌++◌}
use Prim.Native.Nat.{ℕ, zero, suc, ◌+◌, ◌≤◌, ◌<◌}
use native.Mathlib.Omega.{arith}
use lib.IntN.{pos}
use lib.ListN.{length, get_or, replicate, length-append}
use lib.Seq.{take_all, get_or_at}
use Rattle.basics.proofs.Tests.{by_equal}
use Rattle.basics.proofs.Lists.{alike, last_other}
use Rattle.alphabet.specs.Alphabet.{is_letter}
use Rattle.letters.specs.LetterSet.{has_letter, set_at}
use Rattle.letters.specs.declared.LetterSet.{LetterSet}
use Rattle.set_table.specs.declared.Tables.{Tables}
use Rattle.set_table.specs.Tables.{entry_at, Writes}
use Rattle.graph.specs.Built.{lowered}
use Rattle.pattern.specs.Parts.{Atom, holds}
use Rattle.pattern.specs.Grammar.{no_atom}
use Rattle.parsed.specs.Tables.{atom_of, Stored}

-- ---- no atom

atom_none : (i : ℕ) → atom_of [] i ≡ no_atom
atom_none zero = refl
atom_none (suc i) = refl

pub none_stored : (sets : List LetterSet) → ((i c : ℕ) → has_letter (set_at sets i) c ≡ false) → Stored [] sets (replicate 61 9)
none_stored sets empty = record {
  has = λ i c. empty i c ∙ sym (ap (λ (a : Atom). holds a c) (atom_none i) ∙ and-false (is_letter c));
  credit = λ i. alike (λ (n : ℕ). lowered 1 n ≡ pos 0) 61 9 9 refl refl i ∙ sym (ap (λ (a : Atom). a.credit) (atom_none i));
  small = alike (λ (n : ℕ). n ≤ 18) 61 9 9 (omega arith) (omega arith);
}

-- ---- one atom more

-- a set and a raised credit that are an atom's
pub record Fits (f : LetterSet × ℕ) (a : Atom) : Type 0 where
  pub has : (c : ℕ) → has_letter f.0 c ≡ holds a c
  pub credit : lowered 1 f.1 ≡ a.credit
  pub small : f.1 ≤ 18

pub one_stored : (al : List Atom) (x : Atom) (s : LetterSet) (credit : ℕ) (tables tables' : Tables) → length al < 60 → Writes (length al + 1) s credit tables tables'
    → Fits (s, credit) x → Stored al tables.sets tables.credits → Stored (al ++ (x ∷ [])) tables'.sets tables'.credits
one_stored al x s credit tables tables' h w own st = record { has = λ i. (fits i).has; credit = λ i. (fits i).credit; small = λ i. (fits i).small }
  where
    whole : (l : List Atom) (i : ℕ) → length l ≤ 60 → atom_of l i ≡ get_or (no_atom ∷ l) i no_atom
    whole l i few = ap (λ (ys : List Atom). get_or (no_atom ∷ ys) i no_atom) (take_all 60 l few)

    fits : (i : ℕ) → Fits (entry_at tables' i) (atom_of (al ++ (x ∷ [])) i)
    fits i =
        let l = length-append al (x ∷ []) in
        let all = whole (al ++ (x ∷ [])) i (omega arith) in
        by_equal i (length al + 1)
        (λ z.
        let here : ◌≡◌ {A = (LetterSet × ℕ) × Atom} (entry_at tables' i, atom_of (al ++ (x ∷ [])) i) ((s, credit), x)
        = λ k. ((ap (entry_at tables') z ∙ w.here) k, (all ∙ get_or_at (no_atom ∷ al) x [] no_atom i (omega arith)) k) in
        subst (λ (f : (LetterSet × ℕ) × Atom). Fits f.0 f.1) (sym here) own)
        (λ d.
        let there : ◌≡◌ {A = (LetterSet × ℕ) × Atom} (entry_at tables' i, atom_of (al ++ (x ∷ [])) i) (entry_at tables i, atom_of al i)
        = λ k. (w.others i (λ e. d (sym e)) k, (all ∙ last_other (no_atom ∷ al) x no_atom i (λ e. d (omega arith)) ∙ sym (whole al i (omega arith))) k) in
        subst (λ (f : (LetterSet × ℕ) × Atom). Fits f.0 f.1) (sym there) record { has = st.has i; credit = st.credit i; small = st.small i })
