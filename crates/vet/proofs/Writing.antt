-- What was written and what is still to be written are the whole, of one text and of a run's lines; so where a write fails, what was
-- written is a beginning of it. Assumes nothing.
use mathlib.Core.Path.{◌≡◌, sym, ap, ◌∙◌, subst}
use mathlib.Core.List.{List, [], ◌++◌, append_assoc, append-nil}
use Prim.Native.Nat.{ℕ, ◌+◌, ◌-◌, ◌≤◌}
use native.Mathlib.Omega.{arith}
use lib.ListN.{length, take, drop, length-drop, take-append-drop}
use lib.Seq.{take_all, take-add}
use Rattle.std.specs.Prelude.{Option, Some, None, Result, Ok, Err, OnErr}
use Rattle.std.specs.Io.KnownBytes.{Keeps, Appends}
use Rattle.std.proofs.KnownBytes.{Appends-nil, Appends-trans, Appends-kept}
use Rattle.lines.specs.Lines.{output_of, start, NextLine}
use Rattle.lines.specs.declared.Run.{Run}
use Rattle.lines.proofs.Running.{Stands, stands_first, stands_next}
use Rattle.lines.proofs.Written.{still, still_first, still_next, still_none}
use Rattle.vet.specs.Written.{AppendsBeginning}

-- ---- one text, written in parts

module _ (all : List ℕ) (written : ℕ) where
  -- what is handed to a write
  abbrev pub handed : List ℕ
  handed = take (length all - written) (drop written all)

  handed_is : handed ≡ drop written all
  handed_is = let l : length (drop written all) ≡ length all - written = length-drop written all in take_all (length all - written) (drop written all) (omega arith)

  module _ (old mid new : Option (List ℕ)) (so : (written ≤ length all) × Appends old mid (take written all)) where
    -- so many more bytes were written
    pub written_on : (n k : ℕ) → k ≡ written + n → n ≤ length handed → Appends mid new (take n handed) → (k ≤ length all) × Appends old new (take k all)
    written_on n k e l a =
        let fits : n ≤ length all - written = omega (arith, ap length handed_is, length-drop written all) in
        let w = so.0 in
        let more : Appends mid new (take n (drop written all)) = subst (λ (r : List ℕ). Appends mid new (take n r)) handed_is a in
        (omega arith, subst (Appends old new) (sym (ap (λ (i : ℕ). take i all) e ∙ take-add written n all)) (Appends-trans old mid new (take written all) (take n (drop written all)) so.1 more))

    -- none were
    pub kept_on : (k : ℕ) → k ≡ written → Keeps mid new → (k ≤ length all) × Appends old new (take k all)
    kept_on k e h = let w = so.0 in (omega arith, subst (λ (i : ℕ). Appends old new (take i all)) (sym e) (Appends-kept old mid new (take written all) so.1 h))

-- where a write gives up, a beginning was written
pub begun : {all : List ℕ} {old new : Option (List ℕ)} {written : ℕ} → (written ≤ length all) × Appends old new (take written all) → AppendsBeginning old new all
begun {all} {old} {new} {written} so = record { bytes = take written all; rest = drop written all; appended = so.1; begins = take-append-drop written all }

-- what holds anyway holds at an error
pub on_err : {T E P : Type 0} (r : Result T E) → P → OnErr r P
on_err (Ok x) p = tt
on_err (Err e) p = p

-- ---- the lines of a run

-- a run that stands so has had `bytes` written
pub record Writes (s : List ℕ) (run : Run) (old new : Option (List ℕ)) : Type 0 where
  pub stands : Stands s run
  pub bytes : List ℕ
  pub appended : Appends old new bytes
  pub whole : bytes ++ still s run ≡ output_of s

pub writes_first : {s : List ℕ} {run : Run} (known : Option (List ℕ)) → run ≡ start → Writes s run known known
writes_first {s} {run} known e = record {
  stands = stands_first e;
  bytes = [];
  appended = Appends-nil known;
  whole = still_first s e;
}

module _ {s line line' : List ℕ} {run r : Run} {old mid new : Option (List ℕ)} (w : Writes s run old mid) (room : 18 ≤ length line) where
  pub writes_next : {len : ℕ} → NextLine s run line line' r (Some len) → Appends mid new (take len line') → Writes s r old new
  writes_next {len} n a = record {
    stands = (stands_next w.stands n).1;
    bytes = w.bytes ++ take len line';
    appended = Appends-trans old mid new w.bytes (take len line') w.appended a;
    whole = append_assoc w.bytes (take len line') (still s r) ∙ ap (λ (x : List ℕ). w.bytes ++ x) (sym (still_next s room n)) ∙ w.whole;
  }

  -- a line that was written in part
  pub writes_begun : {len : ℕ} → NextLine s run line line' r (Some len) → AppendsBeginning mid new (take len line') → AppendsBeginning old new (output_of s)
  writes_begun {len} n a = record {
    bytes = w.bytes ++ a.bytes;
    rest = a.rest ++ still s r;
    appended = Appends-trans old mid new w.bytes a.bytes w.appended a.appended;
    begins = append_assoc w.bytes a.bytes (a.rest ++ still s r)
        ∙ ap (λ (x : List ℕ). w.bytes ++ x) (sym (append_assoc a.bytes a.rest (still s r)) ∙ ap (λ (x : List ℕ). x ++ still s r) a.begins ∙ sym (still_next s room n))
        ∙ w.whole;
  }

-- a run that has no line more has written the whole output
pub writes_all : {s line line' : List ℕ} {run r : Run} {old new : Option (List ℕ)} → Writes s run old new → 18 ≤ length line → NextLine s run line line' r None → Appends old new (output_of s)
writes_all {s} {line} {line'} {run} {r} {old} {new} w room n =
    subst (Appends old new) (sym (append-nil w.bytes) ∙ ap (λ (x : List ℕ). w.bytes ++ x) (sym (still_none s w.stands room n)) ∙ w.whole) w.appended
