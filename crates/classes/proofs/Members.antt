-- The items of a class: one turn of the loop over them is one step of `items_from`. Assumes nothing.
use mathlib.Core.Path.{◌≡◌, refl, sym, ap, ap₂, ◌∙◌}
use mathlib.Core.Bool.{Bool, true, false, ◌&&◌, ◌||◌, not, or_assoc, or-false, and-false}
use mathlib.Core.List.{List, [], ◌∷◌, ◌++◌}
use Prim.Native.Nat.{ℕ, zero, suc, ◌-◌, ◌≤◌, ◌<◌}
use Prim.Native.Char.{code}
use native.Mathlib.Omega.{arith}
use lib.Dec.{eqb, leb, ltb}
use lib.ListN.{length, drop, length-drop}
use borrow.Author.Tests.{ne_eqb}
use Rattle.alphabet.specs.Alphabet.{is_letter}
use Rattle.letters.specs.LetterSet.{has_letter}
use Rattle.letters.specs.declared.LetterSet.{LetterSet}
use Rattle.pattern.specs.Parts.{Item, item, in_items}
use Rattle.pattern.specs.Grammar.{peek, Items, items_read, class_letter, items_from}
use Rattle.pattern.specs.Refusals.{some_reversed}
use Rattle.classes.specs.declared.Range.{Range}
use Rattle.classes.specs.Classes.{OneMore, NoItem, IsItems}

-- where no class letter is, there is no item
pub no_item : (text : List ℕ) → class_letter text ≡ 0 → NoItem text
no_item text e f is d = rw e d

-- ---- the items so far

in_add : (c : ℕ) (is : List Item) (i : Item) → in_items c (is ++ (i ∷ [])) ≡ (in_items c is || (leb i.lo c && leb c i.hi))
in_add c [] i = or-false (leb i.lo c && leb c i.hi)
in_add c (j ∷ is) i =
    ap (λ (t : Bool). (leb j.lo c && leb c j.hi) || t) (in_add c is i)
    ∙ sym (or_assoc (leb j.lo c && leb c j.hi) (in_items c is) (leb i.lo c && leb c i.hi))

turned_add : (is : List Item) (i : Item) → some_reversed (is ++ (i ∷ [])) ≡ (some_reversed is || ltb i.hi i.lo)
turned_add [] i = or-false (ltb i.hi i.lo)
turned_add (j ∷ is) i =
    ap (λ (t : Bool). ltb j.hi j.lo || t) (turned_add is i) ∙ sym (or_assoc (ltb j.hi j.lo) (some_reversed is) (ltb i.hi i.lo))

some_add : (is : List Item) (i : Item) → true ≡ not (eqb (length (is ++ (i ∷ []))) 0)
some_add [] i = refl
some_add (j ∷ is) i = sym (ap not (ne_eqb (suc (length (is ++ (i ∷ [])))) 0 (λ e. omega arith)))

and_or : (a b c : Bool) → ((a && b) || (a && c)) ≡ (a && (b || c))
and_or true b c = refl
and_or false b c = refl

-- so far the loop has read some items of those that the rules read, X; `text` is left of the whole, and it is not the class's end
pub record Sofar (X : Items) (whole text : List ℕ) (set : LetterSet) (reversed : Bool) : Type 0 where
  pub items : List Item
  pub turns : ℕ
  pub within : length text ≤ length whole
  pub enough : length text < turns
  pub same : X ≡ items_from turns items text
  pub has : (c : ℕ) → has_letter set c ≡ (is_letter c && in_items c items)
  pub turned : reversed ≡ some_reversed items
  pub on : (eqb (peek text) (code "]") && not (eqb (length items) 0)) ≡ false

pub sofar_none : (f : ℕ) (text : List ℕ) (set : LetterSet) → length text < f → ((c : ℕ) → has_letter set c ≡ false) → Sofar (items_from f [] text) text text set false
sofar_none f text set l h = record {
  items = [];
  turns = f;
  within = omega arith;
  enough = l;
  same = refl;
  has = λ c. h c ∙ sym (and-false (is_letter c));
  turned = refl;
  on = and-false (eqb (peek text) (code "]"));
}

-- no item: nothing good
pub sofar_bad : (X : Items) (whole text : List ℕ) (set : LetterSet) (reversed : Bool) → Sofar X whole text set reversed → NoItem text → X.good ≡ false
sofar_bad X whole text set reversed w none = go w.turns w.enough w.same
  where
    go : (f : ℕ) → length text < f → X ≡ items_from f w.items text → X.good ≡ false
    go zero l e = absurd (omega arith)
    go (suc f) l e = ap (λ (Y : Items). Y.good) e ∙ none f w.items w.on

-- `]` is no class letter
close_none : (text : List ℕ) → peek text ≡ code "]" → class_letter text ≡ 0
close_none [] e = refl
close_none (b ∷ text) e = rw e

-- one item more: the class goes on, or it ends
module _ (X : Items) (whole text rest : List ℕ) (i : Range) (set range all : LetterSet) (reversed : Bool) (w : Sofar X whole text set reversed) (o : OneMore text i rest) (r : (c : ℕ) → has_letter range c ≡ (is_letter c && (leb i.lo c && leb c i.hi))) (j : (c : ℕ) → has_letter all c ≡ (has_letter set c || has_letter range c)) where
  abbrev more : List Item
  more = w.items ++ (item i.lo i.hi ∷ [])

  same_more : X ≡ items_from (w.turns - 1) more rest
  same_more =
      let add : w.turns ≡ suc (w.turns - 1) = let l = w.enough in omega arith in
      w.same ∙ ap (λ (f : ℕ). items_from f w.items text) add ∙ o.step (w.turns - 1) w.items

  has_more : (c : ℕ) → has_letter all c ≡ (is_letter c && in_items c more)
  has_more c = j c ∙ ap₂ ◌||◌ (w.has c) (r c) ∙ and_or (is_letter c) (in_items c w.items) (leb i.lo c && leb c i.hi) ∙ ap (λ (t : Bool). is_letter c && t) (sym (in_add c w.items (item i.lo i.hi)))

  turned_more : (reversed || ltb i.hi i.lo) ≡ some_reversed more
  turned_more = ap (λ (t : Bool). t || ltb i.hi i.lo) w.turned ∙ sym (turned_add w.items (item i.lo i.hi))

  pub sofar_next : (peek rest ≡ code "]" → ⊥) → Sofar X whole rest all (reversed || ltb i.hi i.lo)
  sofar_next d = record {
    items = more;
    turns = w.turns - 1;
    within = omega (arith, w.within, o.shorter);
    enough = let l = w.enough in let k = o.shorter in omega arith;
    same = same_more;
    has = has_more;
    turned = turned_more;
    on = ap (λ (t : Bool). t && not (eqb (length more) 0)) (ne_eqb (peek rest) (code "]") d);
  }

  pub sofar_end : (left : List ℕ) → peek rest ≡ code "]" → left ≡ drop 1 rest → IsItems X whole record { set = all; reversed = reversed || ltb i.hi i.lo } left
  sofar_end left e l =
      let add : w.turns - 1 ≡ suc (w.turns - 2) = let k = w.enough in let h = o.shorter in omega arith in
      let is : X ≡ items_read true more (drop 1 rest)
      = same_more ∙ ap (λ (f : ℕ). items_from f more rest) add ∙ rw (close_none rest e, e) (ap (λ (t : Bool). items_read t more (drop 1 rest)) (sym (some_add w.items (item i.lo i.hi)))) in
      record {
        good = ap (λ (Y : Items). Y.good) is;
        after = ap (λ (Y : Items). Y.rest) is ∙ sym l;
        has = λ c. has_more c ∙ ap (λ (Y : Items). is_letter c && in_items c Y.items) (sym is);
        turned = turned_more ∙ ap (λ (Y : Items). some_reversed Y.items) (sym is);
        shorter = omega (arith, w.within, o.shorter, ap length l, length-drop 1 rest);
      }
