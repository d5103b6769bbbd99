-- What a run has still to put: at its start the whole output (`still_first`), and less by each line that it puts (`still_next`), until
-- nothing is left (`still_none`). So, for a reader, what a run puts, line after line, is the whole output, for every input
-- (`run_is_output`, at the end). Assumes nothing.
use mathlib.Core.Path.{◌≡◌, refl, sym, ap, ap₂, ◌∙◌}
use mathlib.Core.List.{List, [], ◌++◌, append-nil}
use mathlib.Core.Logic.{⊎_elim}
use Prim.Native.Nat.{ℕ, ◌≤◌, ◌<◌}
use native.Mathlib.Numerals.{add-one}
use native.Mathlib.Omega.{arith}
use lib.Dec.{ltb}
use lib.ListN.{length, take, drop, drop_of_length-le}
use Rattle.std.specs.Prelude.{if◌then◌else◌, Some, None}
use Rattle.basics.proofs.Tests.{if_yes, if_no, le_or_lt}
use borrow.Author.Tests.{lt-ltb, le-ltb}
use Rattle.fields.proofs.Putting.{puts_bytes}
use Rattle.lines.specs.Lines.{line_of, patterns_from, patterns_of, lines_from, too_long, output_of, start, PatternLine, OnlyLine, NextLine}
use Rattle.lines.specs.declared.Run.{Run}
use Rattle.lines.proofs.Running.{Stands, stands_first, stands_over, stands_next}

-- calls of `next_line` as the program makes them: each with room for a line, and from where the last one left the run, until one
-- gives `None`; t is what they put, joined
pub data Calls : List ℕ → Run → List ℕ → Type 0 where
  over : (s : List ℕ) (run : Run) (old new : List ℕ) (r : Run) → 18 ≤ length old → NextLine s run old new r None → Calls s run []
  next : (s : List ℕ) (run : Run) (old new t : List ℕ) (r : Run) (len : ℕ) → 18 ≤ length old → NextLine s run old new r (Some len) → Calls s r t → Calls s run (take len new ++ t)

-- ---- what a run has still to put

-- an input that is too long has its one line until the run is over; any other has the lines of the patterns that the run has not passed
abbrev pub still : List ℕ → Run → List ℕ
still s run =
    if ltb 65536 (length s) then (if ltb run.from (length s) then too_long else [])
    else lines_from run.number (patterns_of (drop run.from s))

-- past the input there is no pattern
no_more : (n : ℕ) → lines_from n (patterns_of []) ≡ []
unfolding lines_from patterns_from
no_more n = refl

-- a line, with the lines of the rest, is the lines of all
line_and_rest : {s old new : List ℕ} {run r : Run} {len : ℕ} (o : PatternLine s run old new len r)
    → lines_from run.number (patterns_of (drop run.from s)) ≡ line_of run.number o.pattern ++ lines_from r.number (patterns_of (drop r.from s))
unfolding lines_from
line_and_rest {s} {old} {new} {run} {r} {len} o =
    ap (lines_from run.number) o.cuts
    ∙ ap (λ (n : ℕ). line_of run.number o.pattern ++ lines_from n (patterns_of (drop r.from s))) (sym (o.counts ∙ add-one run.number))

module _ (s : List ℕ) where
  still_long : (run : Run) → 65536 < length s → still s run ≡ (if ltb run.from (length s) then too_long else [])
  still_long run long =
      if_yes (if ltb run.from (length s) then too_long else []) (lines_from run.number (patterns_of (drop run.from s))) (ltb 65536 (length s)) (lt-ltb 65536 (length s) long)

  still_short : (run : Run) → length s ≤ 65536 → still s run ≡ lines_from run.number (patterns_of (drop run.from s))
  still_short run small =
      if_no (if ltb run.from (length s) then too_long else []) (lines_from run.number (patterns_of (drop run.from s))) (ltb 65536 (length s)) (le-ltb 65536 (length s) small)

  still_on : (run : Run) → 65536 < length s → run.from < length s → still s run ≡ too_long
  still_on run long on = still_long run long ∙ if_yes too_long [] (ltb run.from (length s)) (lt-ltb run.from (length s) on)

  -- a run that is over has nothing,
  still_over : (run : Run) → length s ≤ run.from → still s run ≡ []
  still_over run past =
      ⊎_elim
      (λ small. still_short run small ∙ ap (λ (l : List ℕ). lines_from run.number (patterns_of l)) (drop_of_length-le s {i = run.from} past) ∙ no_more run.number)
      (λ long. still_long run long ∙ if_no too_long [] (ltb run.from (length s)) (le-ltb run.from (length s) past))
      (le_or_lt (length s) 65536)

  -- one from `Run::new` has the whole output,
  pub still_first : {run : Run} → run ≡ start → still s run ≡ output_of s
  still_first {run} e =
      ap (still s) e
      ∙ ⊎_elim
      (λ small. still_short start small ∙ sym (if_no too_long (lines_from 1 (patterns_of s)) (ltb 65536 (length s)) (le-ltb 65536 (length s) small)))
      (λ long. still_on start long (omega arith) ∙ sym (if_yes too_long (lines_from 1 (patterns_of s)) (ltb 65536 (length s)) (lt-ltb 65536 (length s) long)))
      (le_or_lt (length s) 65536)

  module _ {old new : List ℕ} {run r : Run} where
    -- and a line that is put is the next of it.
    pub still_next : {len : ℕ} → 18 ≤ length old → NextLine s run old new r (Some len) → still s run ≡ take len new ++ still s r
    still_next {len} room c =
        ⊎_elim
        (λ small.
        let o : PatternLine s run old new len r = c.line small in
        let l = o.short in
        still_short run small ∙ line_and_rest o ∙ sym (ap₂ ◌++◌ (puts_bytes o.puts (omega arith)) (still_short r small)))
        (λ long.
        let o : OnlyLine s run old new len r = c.only long in
        let e : len ≡ 15 = o.puts.end in
        let f = o.over in
        still_on run long c.has.0 ∙ sym (append-nil too_long) ∙ sym (ap₂ ◌++◌ (puts_bytes o.puts (omega arith)) (still_over r (omega arith))))
        (le_or_lt (length s) 65536)

    -- Where none is put there is nothing.
    pub still_none : Stands s run → 18 ≤ length old → NextLine s run old new r None → still s run ≡ []
    still_none st room c = still_over run (stands_over st room c)

-- ---- every input

-- a run puts what it has still to put
run_puts : {s : List ℕ} {run : Run} {t : List ℕ} → Calls s run t → Stands s run → t ≡ still s run
run_puts (over s run old new r room c) st = sym (still_none s st room c)
run_puts (next s run old new t r len room c k) st = ap (λ (x : List ℕ). take len new ++ x) (run_puts k (stands_next st c).1) ∙ sym (still_next s room c)

-- a run that starts as `Run::new` does puts the whole output
pub run_is_output : {s t : List ℕ} → Calls s start t → t ≡ output_of s
run_is_output {s} {t} k = run_puts k (stands_first refl) ∙ still_first s refl
