-- A run from `Run::new` on has a line to put until it is over, and each line brings it on: so it ends, whatever the input. Assumes
-- nothing.
use mathlib.Core.Path.{◌≡◌, ap}
use mathlib.Core.List.{List}
use mathlib.Core.Logic.{⊎_elim}
use Prim.Native.Nat.{ℕ, ◌+◌, ◌≤◌, ◌<◌}
use native.Mathlib.Omega.{arith}
use lib.ListN.{length}
use Rattle.basics.proofs.Tests.{le_or_lt}
use Rattle.lines.specs.Lines.{start, HasLine, OneLine, NoLine}
use Rattle.lines.specs.declared.Run.{Run}

-- how such a run stands: its number is at most one more than the bytes that it has passed, and in an input that is too long it
-- stands at the first byte or is over
pub record Stands (s : List ℕ) (run : Run) : Type 0 where
  pub few : run.number ≤ run.from + 1
  pub first : 65536 < length s → run.from < length s → run.from ≡ 0

-- the run that `Run::new` gives
pub stands_first : {s : List ℕ} {run : Run} → run ≡ start → Stands s run
stands_first {s} {run} e =
    let a = ap (λ (r : Run). r.from) e in
    let n = ap (λ (r : Run). r.number) e in
    record { few = omega arith; first = λ long on. a }

-- there is a line to put, if there is room for it
pub stands_has : {s : List ℕ} {run : Run} {room : ℕ} → Stands s run → run.from < length s → 18 ≤ room → HasLine s run room
stands_has {s} {run} st on fits =
    (on, ⊎_elim (λ small. omega arith) (λ long. let a = st.first long on in omega arith) (le_or_lt (length s) 65536), fits)

-- so a call that has the room and puts none finds it over,
pub stands_over : {s old new : List ℕ} {run r : Run} → Stands s run → 18 ≤ length old → NoLine s run old new r → length s ≤ run.from
stands_over {s} {old} {new} {run} {r} st fits c = ⊎_elim (λ over. over) (λ on. absurd (c.none (stands_has st on fits))) (le_or_lt (length s) run.from)

-- and one that puts a line brings it on
pub stands_next : {s old new : List ℕ} {run r : Run} {len : ℕ} → Stands s run → OneLine s run old new r len → (run.from < r.from) × Stands s r
stands_next {s} {old} {new} {run} {r} {len} st c =
    let on = c.has.0 in
    ⊎_elim
    (λ small. let o = c.line small in let a = o.after in let n = o.counts in (omega arith, record { few = omega arith; first = λ long b. absurd (omega arith) }))
    (λ long. let o = c.only long in let a = o.over in let n = o.counts in (omega arith, record { few = omega arith; first = λ l b. absurd (omega arith) }))
    (le_or_lt (length s) 65536)
