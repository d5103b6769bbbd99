-- What the functions promise that read a lettered atom up to its credit: class letters, items, the letters named.
use Rattle.std.specs.Prelude.{◌≡◌, Bool, true, false, ◌&&◌, not, List, [], ◌∷◌, ◌++◌, ℕ, suc, ◌<◌, eqb, pos, length, drop, Option}
use Rattle.std.specs.Borrow.{Bor}
use Prim.Native.Char.{code}
use Rattle.alphabet.specs.Alphabet.{is_letter}
use Rattle.letters.specs.LetterSet.{has_letter}
use Rattle.pattern.specs.Parts.{Item, item, atom, in_items, holds}
use Rattle.pattern.specs.Grammar.{Read, broken, peek, Items, class_letter, class_letter_long, items_from, with_credit}
use Rattle.pattern.specs.Refusals.{some_reversed}
use Rattle.places.specs.Reads.{Reads}
use Rattle.classes.specs.declared.Range.{Range}
use Rattle.classes.specs.declared.Named.{Named}

-- ---- a class letter

pub record IsClassLetter (text : List ℕ) (code : ℕ) (rest : List ℕ) : Type 0 where
  pub is : class_letter text ≡ suc code
  pub after : drop (class_letter_long text) text ≡ rest
  pub shorter : length rest < length text

abbrev pub ReadsClassLetter : List ℕ → Option (ℕ × Bor (List ℕ)) → Type 0
ReadsClassLetter text r = Reads r (class_letter text ≡ 0) (IsClassLetter text)

-- ---- an item: whatever items there are so far, the rules read one more, or nothing good

pub record OneMore (text : List ℕ) (i : Range) (rest : List ℕ) : Type 0 where
  pub step : (f : ℕ) (is : List Item) → items_from (suc f) is text ≡ items_from f (is ++ (item i.lo i.hi ∷ [])) rest
  pub shorter : length rest < length text

abbrev pub NoItem : List ℕ → Type 0
NoItem text = (f : ℕ) (is : List Item) → (eqb (peek text) (code "]") && not (eqb (length is) 0)) ≡ false → (items_from (suc f) is text).good ≡ false

abbrev pub ReadsItem : List ℕ → Option (Range × Bor (List ℕ)) → Type 0
ReadsItem text r = Reads r (NoItem text) (OneMore text)

-- ---- all items of a class

pub record IsItems (X : Items) (text : List ℕ) (n : Named) (rest : List ℕ) : Type 0 where
  pub good : X.good ≡ true
  pub after : X.rest ≡ rest
  pub has : (c : ℕ) → has_letter n.set c ≡ (is_letter c && in_items c X.items)
  pub turned : n.reversed ≡ some_reversed X.items
  pub shorter : length rest < length text

abbrev pub ReadsItems : Items → List ℕ → Option (Named × Bor (List ℕ)) → Type 0
ReadsItems X text r = Reads r (X.good ≡ false) (IsItems X text)

-- ---- the letters of an atom, where R is what the rules read: all but the credit is read

-- the letters that the items name or, with `others`, all others
pub record Names (others : Bool) (items : List Item) (n : Named) : Type 0 where
  pub has : (c : ℕ) → has_letter n.set c ≡ holds (atom others items (pos 0)) c
  pub turned : n.reversed ≡ some_reversed items

pub record IsNamed (R : Read) (text : List ℕ) (n : Named) (rest : List ℕ) : Type 0 where
  pub others : Bool
  pub items : List Item
  pub same : R ≡ with_credit others items rest
  pub names : Names others items n
  pub shorter : length rest < length text

abbrev pub ReadsNamed : Read → List ℕ → Option (Named × Bor (List ℕ)) → Type 0
ReadsNamed R text r = Reads r (R ≡ broken) (IsNamed R text)
