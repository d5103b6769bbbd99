-- What the calls for C promise, for all input: what the calls that they are made of promise, with one number for the result.
use Rattle.std.specs.Prelude.{◌≡◌, List, ℕ, eqb, length, if◌then◌else◌, Result}
use Rattle.pattern.specs.declared.Refusal.{Refusal}
use Rattle.marks.specs.declared.Marked.{Marked}
use Rattle.vetting.specs.declared.Vetted.{Vetted}
use Rattle.calls.specs.Marking.{mark_refusal, count_shown, MarkSays}
use Rattle.calls.specs.Vetting.{VetSays}
use Rattle.marking.specs.Packing.{vet_fields_of, vet_packed, mark_fields_of, mark_packed}

-- vetting: the packed result
pub record VetForC (s e e' w w' : List ℕ) (packed : ℕ) : Type 0 where
  pub vetted : Result Vetted Refusal
  pub says : VetSays s e e' w w' vetted
  pub packing : packed ≡ vet_packed (vet_fields_of vetted)

-- the same where the library brings the scratch, 4,096 numbers, whatever they are before and after
pub record VetAlone (s e e' : List ℕ) (packed : ℕ) : Type 0 where
  pub scratch : List ℕ
  pub left : List ℕ
  pub enough : length scratch ≡ 4096
  pub vets : VetForC s e e' scratch left packed

-- [Memory] the number that C is lent: the count where there is no refusal, else what was there
abbrev pub count_after : List ℕ → List ℕ → ℕ → ℕ
count_after s a old = if eqb (mark_refusal s a) 0 then count_shown s a else old

-- marking: the packed result, and what stands behind the pointer before and after
pub record MarkForC (s a : List ℕ) (old new packed : ℕ) : Type 0 where
  pub marked : Result Marked Refusal
  pub says : MarkSays s a marked
  pub packing : packed ≡ mark_packed (mark_fields_of marked)
  pub stored : new ≡ count_after s a old
