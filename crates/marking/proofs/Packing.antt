-- Every field of a result fits its bits, so the fields of the packed number are those of the result. Assumes nothing.
use mathlib.Core.Path.{◌≡◌, ap, ◌∙◌}
use mathlib.Core.List.{List}
use Prim.Native.Nat.{ℕ, ◌^◌, ◌<◌}
use native.Mathlib.Omega.{arith}
use Rattle.std.specs.Prelude.{Result, Ok, Err, IfOk}
use Rattle.pattern.specs.declared.Refusal.{Refusal}
use Rattle.vetting.specs.declared.Vetted.{Vetted}
use Rattle.marks.specs.declared.Marked.{Marked}
use Rattle.calls.specs.Marking.{MarkSays}
use Rattle.calls.specs.Vetting.{VetSays}
use Rattle.marking.specs.Packing.{field, ShortTexts, VetFields, vet_fields_of, vet_packed, vet_unpacked, int32, mark_fields_of, mark_unpacked}
use Rattle.marking.specs.ForC.{MarkForC, VetForC}
use Rattle.std.proofs.lemmas.Grind.{common_steps}

-- ---- vetting

pub record Fits (r : VetFields) : Type 0 where
  pub refusal : r.refusal < 2 ^ 8
  pub verdict : r.verdict < 2 ^ 8
  pub positions : r.positions < 2 ^ 8
  pub first : r.first < 2 ^ 12
  pub second : r.second < 2 ^ 12
  pub third : r.third < 2 ^ 12

pub fits : (s e e' w w' : List ℕ) (r : Result Vetted Refusal) → VetSays s e e' w w' r → Fits (vet_fields_of r)
fits s e e' w w' (Ok v) h = grind (arith, common_steps)
fits s e e' w w' (Err e₀) h = grind (arith, common_steps)

pub short_texts : (s e e' w w' : List ℕ) (r : Result Vetted Refusal) → VetSays s e e' w w' r → IfOk r (λ v. ShortTexts v.verdict)
short_texts s e e' w w' (Ok v) h = let f = fits s e e' w w' (Ok v) h in (f.first, f.second, f.third)
short_texts s e e' w w' (Err x) h = tt

vet_again : (r : VetFields) → Fits r → vet_unpacked (vet_packed r) ≡ r
vet_again r f = grind (arith, common_steps)

pub vet_fields : (s e e' w w' : List ℕ) (n : ℕ) (h : VetForC s e e' w w' n) → vet_unpacked n ≡ vet_fields_of h.vetted
vet_fields s e e' w w' n h = ap vet_unpacked h.packing ∙ vet_again (vet_fields_of h.vetted) (fits s e e' w w' h.vetted h.says)

-- so what the header reads from a number are the fields of a result of which VetSays holds
pub vet_unpacks : (s e e' w w' : List ℕ) (n : ℕ) → VetForC s e e' w w' n
    → (r : Result Vetted Refusal) × VetSays s e e' w w' r × (vet_unpacked n ≡ vet_fields_of r)
vet_unpacks s e e' w w' n h = (h.vetted, h.says, vet_fields s e e' w w' n h)

-- ---- marking

pub mark_fields : (s a : List ℕ) (old new n : ℕ) (h : MarkForC s a old new n)
    → let f = mark_fields_of h.marked in (field n 32 8 ≡ f.refusal) × (int32 (field n 0 32) ≡ f.mark) × (field n 40 16 ≡ f.taken)
mark_fields s a old new n h = grind (arith, common_steps)

pub mark_read : (s a : List ℕ) (old new n : ℕ) (h : MarkForC s a old new n) → mark_unpacked n new ≡ mark_fields_of h.marked
mark_read s a old new n h = grind (arith, common_steps)

-- so what the header reads from a number are the fields of a result of which MarkSays holds
pub mark_unpacks : (s a : List ℕ) (old new n : ℕ) → MarkForC s a old new n
    → (r : Result Marked Refusal) × MarkSays s a r × (mark_unpacked n new ≡ mark_fields_of r)
mark_unpacks s a old new n h = (h.marked, h.says, mark_read s a old new n h)
