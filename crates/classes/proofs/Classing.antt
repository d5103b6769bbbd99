-- A class: its items, or with `^` the other letters, as the letters of an atom up to its credit. Assumes nothing.
use mathlib.Core.Path.{◌≡◌, refl, sym, ap, ◌∙◌}
use mathlib.Core.Bool.{Bool, true, false, ◌&&◌, not}
use mathlib.Core.List.{List, []}
use Prim.Native.Nat.{ℕ, suc, ◌≤◌, ◌<◌}
use Prim.Native.Char.{code}
use native.Mathlib.Omega.{arith}
use lib.Dec.{eqb}
use lib.IntN.{pos}
use lib.ListN.{length, drop, length-drop}
use borrow.Author.Tests.{eq-eqb, ne_eqb}
use Rattle.std.specs.Prelude.{if◌then◌else◌, Option, Some, None}
use Rattle.std.specs.Borrow.{Bor}
use Rattle.basics.proofs.Tests.{if_yes, if_no}
use Rattle.alphabet.specs.Alphabet.{is_letter}
use Rattle.letters.specs.LetterSet.{has_letter}
use Rattle.letters.specs.declared.LetterSet.{LetterSet}
use Rattle.pattern.specs.Parts.{atom, in_items, holds}
use Rattle.pattern.specs.Grammar.{Read, broken, peek, Items, items_from, with_credit, read_class}
use Rattle.classes.specs.declared.Named.{Named}
use Rattle.classes.specs.Classes.{IsItems, ReadsItems, IsNamed, ReadsNamed}

-- the other letters of the items
other_letters : (a b : Bool) → (a && not (a && b)) ≡ (a && not b)
other_letters true b = refl
other_letters false b = refl

module _ (text : List ℕ) where
  abbrev items_of : Bool → Items
  items_of o = items_from (suc (length text)) [] (if o then drop 1 text else text)

  abbrev class_by : Bool → Read
  class_by o = let x = items_of o in if x.good then with_credit o x.items x.rest else broken

  module _ (o : Bool) (e : eqb (peek text) (code "^") ≡ o) where
    named_bad : (items_of o).good ≡ false → read_class text ≡ broken
    named_bad g = ap class_by e ∙ if_no (with_credit o (items_of o).items (items_of o).rest) broken (items_of o).good g

    named : (n : Named) (part rest : List ℕ) (set : LetterSet) → length part ≤ length text → IsItems (items_of o) part n rest → ((c : ℕ) → has_letter set c ≡ holds (atom o (items_of o).items (pos 0)) c)
        → IsNamed (read_class text) text record { set = set; reversed = n.reversed } rest
    named n part rest set l w h = record {
      others = o;
      items = (items_of o).items;
      same = ap class_by e ∙ if_yes (with_credit o (items_of o).items (items_of o).rest) broken (items_of o).good w.good ∙ ap (with_credit o (items_of o).items) w.after;
      names = record { has = h; turned = w.turned };
      shorter = omega (arith, l, w.shorter);
    }

  -- without `^`
  pub class_plain : (r : Option (Named × Bor (List ℕ))) → (peek text ≡ code "^" → ⊥) → ((f : ℕ) → length text < f → ReadsItems (items_from f [] text) text r) → ReadsNamed (read_class text) text r
  class_plain None d w = named_bad false (ne_eqb (peek text) (code "^") d) (w (suc (length text)) (omega arith))
  class_plain (Some x) d w = let v = w (suc (length text)) (omega arith) in named false (ne_eqb (peek text) (code "^") d) x.0 text x.1.now x.0.set (omega arith) v v.has

  -- with it
  module _ (rest : List ℕ) (same : rest ≡ drop 1 text) (caret : peek text ≡ code "^") where
    pub others_bad : ((f : ℕ) → length rest < f → (items_from f [] rest).good ≡ false) → read_class text ≡ broken
    others_bad w = let l = length-drop 1 text in named_bad true (eq-eqb (peek text) (code "^") caret) (ap (λ (t : List ℕ). (items_from (suc (length text)) [] t).good) (sym same) ∙ w (suc (length text)) (omega (arith, ap length same)))

    pub class_others : (n : Named) (left : List ℕ) (set : LetterSet) → ((f : ℕ) → length rest < f → IsItems (items_from f [] rest) rest n left) → ((c : ℕ) → has_letter set c ≡ (is_letter c && not (has_letter n.set c)))
        → IsNamed (read_class text) text record { set = set; reversed = n.reversed } left
    class_others n left set w h =
        let l = length-drop 1 text in
        let v : IsItems (items_of true) rest n left = rw (← same) (w (suc (length text)) (omega (arith, ap length same))) in
        named true (eq-eqb (peek text) (code "^") caret) n rest left set (omega (arith, ap length same)) v (λ c. h c ∙ ap (λ (t : Bool). is_letter c && not t) (v.has c) ∙ other_letters (is_letter c) (in_items c (items_of true).items))
