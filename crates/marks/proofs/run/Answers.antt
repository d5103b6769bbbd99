-- The row says at every letter what it is to say. Assumes nothing.
use mathlib.Core.Path.{◌≡◌, refl, sym, ap, ◌∙◌, subst}
use mathlib.Core.Logic.{◌⊎◌, ⊎_elim}
use mathlib.Core.List.{List}
use Prim.Native.Nat.{ℕ, ◌+◌, ◌≤◌}
use native.Mathlib.Nat.{not-suc-le-zero}
use native.Mathlib.Omega.{arith}
use lib.ListN.{length, get_or, take, drop, take-append-drop}
use lib.Seq.{take_all, length-take-le}
use Rattle.std.proofs.lemmas.List.{take_more}
use borrow.Author.Tests.{eq-eqb, ne_eqb}
use Rattle.basics.proofs.Tests.{by_equal}
use Rattle.graph.specs.Graph.{Bounded}
use Rattle.graph.specs.Taken.{dead, letters_taken}
use Rattle.graph.proofs.Taken.{taken_is}
use Rattle.marks.specs.Answers.{After, graph_of_tables, Summed}
use Rattle.marks.proofs.Forward.{row_begin, row_on, row_stop, row_dead, row_end}
use borrow.Author.Rules.{rules}
use Rattle.marks.proofs.run.Goals as goal

pub loop-letter-init : goal.loop-letter-init
loop-letter-init c =
    let a = c.args in
    record {
      all_taken = refl;
      after = λ p _. row_begin (graph_of_tables p a.holders.now a.links.now a.lasts) c.start-even.result c.start-even.ensures;
      alive = λ p _ j l. absurd (not-suc-le-zero l);
    }

pub overflow_add-taken : goal.overflow_add-taken
overflow_add-taken c = let e = c.loop-letter.invariant.all_taken in record { fits = omega arith }

pub loop-letter-preserved : goal.loop-letter-preserved
loop-letter-preserved c =
    let at = c.loop-letter in
    let a = c.args in
    let k = at.letter-index in
    let s = a.answer.now in
    let row = at.row.now in
    let goes = c.loop-letter-test.true in
    let b = get_or s k 0 in
    let next = c.step.new.next in
    let turned : c.swap.new.x.now ≡ next = ap (λ r. r.now) c.swap.ensures.x_after in
    record {
      all_taken = omega (arith, at.invariant.all_taken);
      after = λ p bounded.
          let g = graph_of_tables p a.holders.now a.links.now a.lasts in
          subst (After g (take (k + 1) s)) (sym turned)
          (subst (λ (x : List ℕ). After g x next) (sym (take_more s k 0 goes))
          (row_on g bounded b a.links.now (get_or a.holders.now b 0) row next (take k s) (λ u i. refl) (λ i. refl) (λ i. refl) c.requires.2
          (omega (arith, length-take-le k s (omega arith), c.requires.0)) (at.invariant.after p bounded) c.step.ensures));
      alive = λ p bounded j l.
          let g = graph_of_tables p a.holders.now a.links.now a.lasts in
          by_equal j k
          (λ e. ap (λ (n : ℕ). dead g (take n s)) e ∙ row_dead g (take k s) row (at.invariant.after p bounded) ∙ ne_eqb row.active 0 (λ z. omega arith))
          (λ d. at.invariant.alive p bounded j (omega arith));
    }

pub returns : goal.returns
returns c = record { summed = summed }
  where
    summed : (p : ℕ) → let g = graph_of_tables p c.args.holders.now c.args.links.now c.args.lasts in Bounded g
        → Summed g c.args.answer.now c.total.result.count c.total.result.most × (c.loop-letter.taken ≡ letters_taken g c.args.answer.now)
    summed p bounded =
        let at = c.loop-letter in
        let a = c.args in
        let k = at.letter-index in
        let s = a.answer.now in
        let row = at.row.now in
        let g = graph_of_tables p a.holders.now a.links.now a.lasts in
        let after = at.invariant.after p bounded in
        let came = c.loop-letter-test.branch in
        -- no state is possible, or no letter is left
        let stopped : (row.active ≡ 0) ⊎ (length s ≤ k) = search rules in
        let whole : After g s row =
        ⊎_elim (λ z. subst (λ (x : List ℕ). After g x row) (take-append-drop k s) (row_stop g (take k s) (drop k s) row z after))
        (λ l. subst (λ (x : List ℕ). After g x row) (take_all k s l) after) stopped in
        let sum = c.total.ensures in (
          subst (λ (n : ℕ). Summed g s n c.total.result.most) (sym sum.0) (subst (Summed g s _) (sym sum.1) (row_end g s a.lasts row (λ u. refl) whole)),
          at.invariant.all_taken
              ∙ sym (taken_is g s k (record {
                within = omega arith;
                here = λ l. row_dead g (take k s) row after ∙ ⊎_elim (eq-eqb row.active 0) (λ m. absurd (omega arith)) stopped;
                none = at.invariant.alive p bounded;
              })),
        )
