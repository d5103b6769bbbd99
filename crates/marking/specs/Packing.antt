-- [Packed results] For C a result is one number, made of fields of bits; and the fields of such a number, as the header reads them.
use Rattle.std.specs.Prelude.{ℕ, suc, ◌+◌, ◌-◌, ◌*◌, ◌/◌, ◌%◌, ◌^◌, ◌<◌, eqb, ltb, ℤ, pos, negsuc, if◌then◌else◌, Result, Ok, Err}
use Rattle.std.proofs.Math.IntN.{sub_ℕ}
use Rattle.pattern.specs.Refusals as Refusals
use Rattle.pattern.specs.declared.Refusal.{Refusal}
use Rattle.marks.specs.declared.Marked.{Marked}
use Rattle.vetting.specs.Answers.{number_of, first_of, second_of, third_of}
use Rattle.vetting.specs.declared.Verdict.{Verdict}
use Rattle.vetting.specs.declared.Vetted.{Vetted}

-- as many bits of n as `width` says, from bit `from` on: a shift and a mask
abbrev pub field : ℕ → ℕ → ℕ → ℕ
field n from width = n / 2 ^ from % 2 ^ width

-- what the number has of a result of vetting: a length is 0 where there is no text, and a refusal is a number and nothing else
pub record VetFields : Type 0 where
  pub refusal : ℕ
  pub verdict : ℕ
  pub positions : ℕ
  pub first : ℕ
  pub second : ℕ
  pub third : ℕ

abbrev pub refused : ℕ → VetFields
refused k = record { refusal = k; verdict = 0; positions = 0; first = 0; second = 0; third = 0 }

abbrev pub vet_fields_of : Result Vetted Refusal → VetFields
vet_fields_of (Ok v) =
    record { refusal = 0; verdict = number_of v.verdict; positions = v.positions; first = first_of v.verdict; second = second_of v.verdict; third = third_of v.verdict }
vet_fields_of (Err e) = refused (Refusals.number_of e)

-- vetting: the refusal in bits 0 to 7, the verdict in 8 to 15, p in 16 to 23, the lengths in 24 to 35, 36 to 47 and 48 to 59
abbrev pub vet_packed : VetFields → ℕ
vet_packed r = r.refusal + r.verdict * 2 ^ 8 + r.positions * 2 ^ 16 + r.first * 2 ^ 24 + r.second * 2 ^ 36 + r.third * 2 ^ 48

abbrev pub vet_unpacked : ℕ → VetFields
vet_unpacked n =
    record { refusal = field n 0 8; verdict = field n 8 8; positions = field n 16 8; first = field n 24 12; second = field n 36 12; third = field n 48 12 }

-- what of that is the verdict's; each length fits its field
abbrev pub verdict_packed : Verdict → ℕ
verdict_packed v = number_of v * 2 ^ 8 + first_of v * 2 ^ 24 + second_of v * 2 ^ 36 + third_of v * 2 ^ 48

abbrev pub ShortTexts : Verdict → Type 0
ShortTexts v = (first_of v < 2 ^ 12) × (second_of v < 2 ^ 12) × (third_of v < 2 ^ 12)

-- a number as the 32 bits of its two's complement: one below zero is 2 ^ 32 more; and as an int32_t is read from them
abbrev pub bits32 : ℤ → ℕ
bits32 (pos n) = n
bits32 (negsuc n) = 2 ^ 32 - suc n

abbrev pub int32 : ℕ → ℤ
int32 b = if ltb b (2 ^ 31) then pos b else sub_ℕ b (2 ^ 32)

-- what the number has of a result of marking, and the count, which stands behind a pointer; all 0 at a refusal but its number
pub record MarkFields : Type 0 where
  pub refusal : ℕ
  pub count : ℕ
  pub mark : ℤ
  pub taken : ℕ

abbrev pub mark_fields_of : Result Marked Refusal → MarkFields
mark_fields_of (Ok m) = record { refusal = 0; count = m.count; mark = m.mark; taken = m.taken }
mark_fields_of (Err e) = record { refusal = Refusals.number_of e; count = 0; mark = pos 0; taken = 0 }

-- marking: the mark in bits 0 to 31, the refusal in 32 to 39, the letters taken in 40 to 55; the count is not in the number, but
-- stands behind a pointer where there is no refusal
abbrev pub mark_packed : MarkFields → ℕ
mark_packed r = r.taken * 2 ^ 40 + r.refusal * 2 ^ 32 + bits32 r.mark

abbrev pub mark_unpacked : ℕ → ℕ → MarkFields
mark_unpacked n count =
    record { refusal = field n 32 8; count = if eqb (field n 32 8) 0 then count else 0; mark = int32 (field n 0 32); taken = field n 40 16 }
