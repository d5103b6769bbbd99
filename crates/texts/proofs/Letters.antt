-- What is shown of sets, when each is cut to its letters. Assumes nothing.
use mathlib.Core.Path.{◌≡◌, ap, ◌∙◌}
use mathlib.Core.List.{List, ◌++◌, map}
use Prim.Native.Nat.{ℕ, ◌+◌}
use lib.ListN.{take, drop}
use Rattle.std.specs.Prelude.{Option, None, Some}
use Rattle.letters.specs.LetterSet.{LettersOf}
use Rattle.letters.specs.declared.LetterSet.{LetterSet}
use Rattle.letters.proofs.Order.{some_alike, first_alike}
use Rattle.nodes.specs.declared.Steps.{Steps}
use Rattle.nodes.specs.Nodes.{left_of, right_of}
use Rattle.search.specs.declared.Goal.{Goal}
use Rattle.shares.specs.Tables.{held}
use Rattle.shares.proofs.Letters.{held_alike}
use Rattle.texts.specs.Texts.{Showable, letter_at, Shown}

module _ (sets letters : List LetterSet) (cut : LettersOf sets letters) where
  -- the letter shown of a node, and that there is one
  letter_alike : (x : ℕ) → letter_at letters x ≡ letter_at sets x
  unfolding letter_at
  letter_alike x = first_alike (held letters (left_of x) (right_of x)) (held sets (left_of x) (right_of x)) (held_alike sets letters cut (left_of x) (right_of x))

  pub showable_alike : {x : ℕ} → Showable sets x → Showable letters x
  showable_alike {x} h = record {
    left = h.left;
    right = h.right;
    some = some_alike (held letters (left_of x) (right_of x)) (held sets (left_of x) (right_of x)) (held_alike sets letters cut (left_of x) (right_of x)) ∙ h.some;
  }

  -- and so the text
  pub shown_alike : (t : Steps) (e e' : List ℕ) (goal : Goal) (start base : ℕ) (r : Option ℕ) → Shown letters t e e' goal start base r → Shown sets t e e' goal start base r
  shown_alike t e e' goal start base None h = h
  shown_alike t e e' goal start base (Some r) w = record {
    nodes = w.nodes;
    goes = w.goes;
    apart = w.apart;
    meets = w.meets;
    size = w.size;
    nearest = w.nearest;
    few = w.few;
    text = w.text ∙ ap (λ (f : ℕ → ℕ). take base e ++ (map f w.nodes ++ drop (base + r) e)) (λ i x. letter_alike x i);
  }
