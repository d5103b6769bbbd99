-- By the first byte, as the rules go. Assumes nothing.
use mathlib.Core.Path.{◌≡◌, refl, sym, ap, ◌∙◌}
use mathlib.Core.Bool.{true, false, false≢true}
use mathlib.Core.List.{List, [], ◌∷◌}
use Prim.Native.Nat.{ℕ, ◌≤◌}
use Prim.Native.Char.{code}
use native.Mathlib.Omega.{arith}
use lib.Dec.{eqb}
use lib.ListN.{length, get_or, drop, length-drop}
use borrow.Author.Tests.{ne_eqb, ltb-false}
use Rattle.std.proofs.Common.{rules}
use Rattle.std.proofs.lemmas.Grind.{common_steps}
use Rattle.basics.specs.Bytes.{is_in}
use Rattle.pattern.specs.Parts.{item}
use Rattle.std.specs.Prelude.{Option, Some, None}
use Rattle.std.specs.Borrow.{Bor}
use Rattle.pattern.specs.Grammar.{peek, special, with_credit, read_class, read_letter}
use Rattle.classes.specs.declared.Named.{Named}
use Rattle.classes.specs.Classes.{ReadsNamed}
use Rattle.places.proofs.Places.{text_after}
use Rattle.atoms.proofs.names.Goals as goal

-- a byte that is not special is none of `[`, `.` and `\`, which are
plain : (text : List ℕ) → 1 ≤ length text → is_in (get_or text 0 0) special ≡ false
    → read_letter text ≡ with_credit false (item (get_or text 0 0) (get_or text 0 0) ∷ []) (drop 1 text)
plain [] l e = absurd (omega arith)
plain (b ∷ text) l e = rw (e, differs 91 refl, differs 46 refl, differs 92 refl)
  where
    differs : (k : ℕ) → is_in k special ≡ true → eqb b k ≡ false
    differs k i = ne_eqb b k (λ z. false≢true (sym e ∙ ap (λ (x : ℕ). is_in x special) z ∙ i))

-- an atom that begins with `[` is a class
class_next : (text : List ℕ) → peek text ≡ code "[" → read_letter text ≡ read_class (drop 1 text)
class_next [] e = absurd (omega (arith, e))
class_next (b ∷ text) e = rw e

named_on : (text part : List ℕ) (r : Option (Named × Bor (List ℕ))) → part ≡ drop 1 text → peek text ≡ code "[" → ReadsNamed (read_class part) part r → ReadsNamed (read_letter text) text r
named_on text part None same e w = class_next text e ∙ ap read_class (sym same) ∙ w
named_on text part (Some x) same e w =
    let l = length-drop 1 text in
    let k = ap length same in
    record { others = w.others; items = w.items; same = class_next text e ∙ ap read_class (sym same) ∙ w.same; names = w.names; shorter = omega (arith, w.shorter) }

pub returns-in-91 : goal.returns-in-91
returns-in-91 c = named_on c.args.text.now _ c.class.result (text_after 1 c.args.text.now) (search rules) c.class.ensures

pub returns-in-46 : goal.returns-in-46
returns-in-46 c = record { others = true; items = []; same = grind (arith, common_steps); names = c.every.ensures; shorter = search rules }

pub returns-in-92 : goal.returns-in-92
returns-in-92 c = record { others = false; items = item (get_or c.args.text.now 1 0) (get_or c.args.text.now 1 0) ∷ []; same = grind (arith, common_steps); names = c.one.ensures; shorter = search rules }

pub returns-in-len1-up : goal.returns-in-len1-up
returns-in-len1-up c = record {
  others = false;
  items = item (get_or c.args.text.now 0 0) (get_or c.args.text.now 0 0) ∷ [];
  same =
      plain c.args.text.now (ltb-false (length c.args.text.now) 1 (search rules)) (sym c.special-2.ensures ∙ c.if-not-special.true)
      ∙ ap (with_credit false (item (get_or c.args.text.now 0 0) (get_or c.args.text.now 0 0) ∷ [])) (sym (text_after 1 c.args.text.now));
  names = c.one-in-len1-up.ensures;
  shorter = search rules;
}
