-- Byte by byte: what was found is whether all so far are letters. Assumes nothing.
use mathlib.Core.Path.{◌≡◌, refl, sym, ap, ◌∙◌}
use mathlib.Core.Bool.{Bool, true, ◌&&◌}
use mathlib.Core.List.{List}
use Prim.Native.Nat.{ℕ}
use Rattle.std.proofs.Common.{rules}
use Rattle.std.proofs.lemmas.Fn.{fold_over, slice_gives, fronts}
use Rattle.alphabet.specs.Alphabet.{is_letter, all_letters}
use Rattle.alphabet.proofs.Alphabet.{letters_more}
use Rattle.alphabet.proofs.all_letters.Goals as goal

pub returns : goal.returns
returns c =
    fold_over fronts (λ y. y.now) _ (λ (s : List ℕ) (good : Bool). good ≡ all_letters s) _
    (λ s good x next f' all k. (
      let called : next ≡ (good && is_letter x.now) = search rules in called ∙ ap (λ (t : Bool). t && is_letter x.now) all ∙ sym (letters_more s x.now),
      search rules,
    )) c.iter.result c.iter.result.rest.now true c.fold.result (slice_gives c.iter.result) refl c.fold.ensures.ran
    ∙ ap all_letters c.iter.ensures.rest
