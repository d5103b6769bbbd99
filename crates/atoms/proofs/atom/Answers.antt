-- The letters and the credit, each by its contract. Assumes nothing.
use mathlib.Core.Path.{refl, sym, ◌∙◌}
use mathlib.Core.Bool.{and_self_left}
use Rattle.alphabet.specs.Alphabet.{is_letter}
use Rattle.letters.proofs.Sets.{none_same}
use Rattle.graph.specs.Built.{lowered}
use Rattle.pattern.specs.Parts.{atom, holds}
use Rattle.atoms.proofs.atom.Goals as goal

pub returns : goal.returns
returns c =
    let n = c.in_ok-named.ensures in
    let k = c.in_ok-credit.ensures in
    let what = atom n.others n.items (lowered 1 c.in_ok-credit.credit) in
    let h = c.is_empty-hollow.ensures in
    record {
      what = what;
      same = n.same ∙ rw k.same;
      atom = record {
        has = n.names.has;
        hollow = none_same c.in_ok-named.named.set (holds what) (λ k. n.names.has k ∙ sym (and_self_left (is_letter k) _)) c.is_empty-hollow.result h.0 h.1;
        turned = n.names.turned;
        credit = refl;
        small = k.small;
      };
    }
