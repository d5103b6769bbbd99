-- Each refusal has a number from 1 to 11. Assumes nothing.
use Prim.Native.Nat.{◌≤◌}
use native.Mathlib.Omega.{arith}
use Rattle.pattern.specs.Refusals.{number_of}
use Rattle.pattern.specs.declared.Refusal.{Refusal}
use Rattle.pattern.specs.declared.Refusal.TheVariants.{ShortEvidence, ShortScratch, LongPattern, PatternNotLetters, BrokenGrammar, ReversedRange, EmptyClass, ManyPositions, LongAnswer, AnswerNotLetters, WrongBounds}

pub number_low : (e : Refusal) → (1 ≤ number_of e) × (number_of e ≤ 11)
number_low ShortEvidence = (omega arith, omega arith)
number_low ShortScratch = (omega arith, omega arith)
number_low LongPattern = (omega arith, omega arith)
number_low PatternNotLetters = (omega arith, omega arith)
number_low BrokenGrammar = (omega arith, omega arith)
number_low ReversedRange = (omega arith, omega arith)
number_low EmptyClass = (omega arith, omega arith)
number_low ManyPositions = (omega arith, omega arith)
number_low LongAnswer = (omega arith, omega arith)
number_low AnswerNotLetters = (omega arith, omega arith)
number_low WrongBounds = (omega arith, omega arith)
